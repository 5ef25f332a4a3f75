-- A start of a replica is that of the model.
use Rattle.std.proofs.Common.{◌≡◌, ℕ, zero, suc, ◌+◌, ◌≤◌, ◌<◌, List, [], ◌++◌, length, replicate, slice_get, Option, Some, None, refl, sym, ap, subst, ◌∙◌, arith}
use Rattle.std.proofs.Math.Bridge.{le_prop}
use Rattle.std.proofs.lemmas.List.{length-replicate}
use Rattle.std.proofs.lemmas.Option.{slice_get_within}
use mathlib.Core.HLevel.{is_prop→PathP}
use Rattle.paxos_world.specs.Replica.{Running, started}
use Rattle.paxos_world.specs.Stage.{free_slots}
use Rattle.paxos_world.specs.Stage as model
use Rattle.paxos_world.specs.Turn as model_turn
use Rattle.paxos_world.specs.declared.step.Step.{Step}
use Rattle.protocol_core.specs.Starting.{opening}
use Rattle.protocol_core.specs.Turned.{Turned}
use Rattle.protocol_core.specs.declared.act.Act.{Act}
use Rattle.protocol_core.specs.declared.config.Config.{Config}
use Rattle.protocol_core.specs.declared.life.Life.{Life}
use Rattle.protocol_laws.specs.Coming.{SendsFitly}
use Rattle.protocol_laws.specs.Keeping.{IsWithin, config_of}
use Rattle.protocol_laws.specs.Laws as laws
use Rattle.protocol_laws.proofs.Whole.{openings_alike}
use Rattle.protocol_stage.specs.Following.{model_config}
use Rattle.replica_node.specs.Following.{Began}
use Rattle.replica_node.specs.Resembling.{AreAlike}
use Rattle.replica_node.specs.Whole.{Whole}
use Rattle.replica_node.proofs.Goals.{StartsFollow}
use Rattle.schedules.specs.Cluster.{Place, Cluster, Happened, fresh_place, fresh_cluster, with_running}
use Rattle.schedules.specs.Cluster as cluster
use Rattle.schedules.specs.Heads.{IsHead}
use Rattle.schedules.specs.Run as run
use Rattle.schedules.specs.declared.line.Head.{Head}
use Rattle.schedules.specs.declared.line.Word.{Word}
use Rattle.schedules.specs.declared.line.Word.TheVariants.{Done, Down, Up}
use Rattle.stable_store.specs.Slots.{gate_in}
use Rattle.cluster.specs.Machine.{Machine}
use Rattle.cluster.specs.Machines.{fresh_machine, stored_on, BeginsOn, BeginsNot, BeginsBy, StartsOn}
use Rattle.cluster.specs.Resembling.{IsPlace, IsPlaced, IsCluster, Alike}
use Rattle.cluster.specs.Stepping.{Stepping, Outcome, IsConfigAt, StartsIf, acted}
use Rattle.cluster.specs.Stepping as stepping
use Rattle.cluster.proofs.Goals.{StartAlike, OpensAlike}
use Rattle.cluster.proofs.Going.{both-there, refused-alike, stays-alike, done-alike}

-- ---- Constants

-- the constants of a replica are within their limits
within-head : (head : Head) (r : ℕ) → IsHead head → r < head.n → IsWithin (cluster.config_of head r)
within-head head r h below = (h.some, h.few, below, h.open_window, h.window_limit)

-- the constants of a replica in the code are those of the model
config-is : (head : Head) (r : ℕ) (config : Config) (within : IsWithin (cluster.config_of head r)) → IsConfigAt head r config → config_of (cluster.config_of head r) within ≡ config
config-is head r config within h =
    λ k. record { n = sym h.n_is k; me = sym h.me_is k; mode = sym h.mode_is k; window = sym h.window_is k; valid = is_prop→PathP valid (λ j p q i. (le_prop p.0 q.0 i, le_prop p.1 q.1 i, le_prop p.2 q.2 i, le_prop p.3 q.3 i, le_prop p.4 q.4 i)) within config.valid k }
  where
    valid : 𝕀 → Type 0
    valid j = (3 ≤ sym h.n_is j) × (sym h.n_is j ≤ 9) × (sym h.me_is j < sym h.n_is j) × (1 ≤ sym h.window_is j) × (sym h.window_is j ≤ 64)

-- the constants of a replica in the model are those of the code
model-config-is : (head : Head) (r : ℕ) (config : Config) → IsConfigAt head r config → model_config config ≡ cluster.config_of head r
model-config-is head r config h = λ k. record { n = h.n_is k; me = h.me_is k; mode = h.mode_is k; window = h.window_is k }

-- ---- A start

module _ (c : Cluster) (s : Stepping) (r : ℕ) (place : Place) (config : Config) (m new : Machine) (word : Word) (acts : List Act) (h : IsCluster c s) (there : slice_get c.places r ≡ Some place)
    (here : slice_get s.machines r ≡ Some m) (constants : IsConfigAt c.head r config) where
  -- the machine is that of the place
  is-placed : IsPlace place m
  is-placed = h.places r place m there here

  -- how the model's life begins
  abbrev made : Option model_turn.Opened
  made = model_turn.opening (cluster.config_of c.head r) free_slots (suc place.starts) place.stable

  -- a life that begins is that of the model
  begun-alike : (b : BeginsOn config m word acts new) → Began config (stored_on m.disk) (suc place.starts) b.a acts → Alike (run.begins c r place) (acted s r word acts new)
  begun-alike b f =
      subst (λ (o : Option model_turn.Opened). Alike (run.begins_by o c r place) (acted s r word acts new)) (sym opens)
      (subst (λ (x : Word). Alike (run.begins_by (Some f.opened) c r place) (acted s r x acts new)) (sym b.word_is) (record { word = done.word; steps = done.steps; after = done.after }))
    where
      before : Place
      before = record place { starts = suc place.starts }

      a : Running
      a = started f.opened.turned.stage

      same : model_config config ≡ cluster.config_of c.head r
      same = model-config-is c.head r config constants

      opens : made ≡ Some f.opened
      opens = (λ k. model_turn.opening (sym same k) free_slots (suc place.starts) (sym is-placed.stored k)) ∙ f.opening_is

      is : IsPlace (with_running a before) new
      is =
          record {
            stored = b.disk.1 ∙ ap (λ (l : Life). Some l.stable) f.resembles.stage.keeps.is;
            running = subst (λ (o : Option Whole). AreAlike (Some a) o) (sym b.up) f.resembles;
          }

      done : Alike (run.done_by c r before a f.opened.turned) (acted s r Done acts new)
      done = done-alike c s r place m h there here before a f.opened.turned acts new is (f.config_is ∙ same) f.acts (subst (λ (k : model.Config). SendsFitly k acts) same f.sends)

  -- where no life begins in the code, none begins in the model
  unopened : IsHead c.head → opening config (stored_on m.disk) ≡ None → made ≡ None
  unopened head none = none-made made both
    where
      within : IsWithin (cluster.config_of c.head r)
      within = within-head c.head r head (subst (λ k. r < k) h.count (slice_get_within c.places r place there))

      same : opening (config_of (cluster.config_of c.head r) within) place.stable ≡ None
      same = (λ k. opening (config-is c.head r config within constants k) (sym is-placed.stored k)) ∙ none

      both : laws.AreAlike (cluster.config_of c.head r) free_slots made None
      both = subst (λ (o : Option Turned). laws.AreAlike (cluster.config_of c.head r) free_slots made o) same (openings_alike (cluster.config_of c.head r) within free_slots (suc place.starts) place.stable)

      none-made : (o : Option model_turn.Opened) → laws.AreAlike (cluster.config_of c.head r) free_slots o None → o ≡ None
      none-made None alike = refl
      none-made (Some x) alike = absurd alike

  -- a start that begins no life is that of the model
  unbegun-alike : made ≡ None → place.running ≡ None → BeginsNot m word acts new → Alike (run.begins c r place) (acted s r word acts new)
  unbegun-alike none down b =
      subst (λ (o : Option model_turn.Opened). Alike (run.begins_by o c r place) (acted s r word acts new)) (sym none)
      (subst (λ (x : Word). Alike (run.refused Down c) (acted s r x acts new)) (sym b.word_is)
      (subst (λ (xs : List Act). Alike (run.refused Down c) (acted s r Down xs new)) (sym b.acts_are) (stays-alike c s r place m h there here Down new is)))
    where
      is : IsPlace place new
      is =
          record {
            stored = b.number ∙ is-placed.stored;
            running = subst (λ (o : Option Running). AreAlike o new.running) (sym down) (subst (λ (o : Option Whole). AreAlike None o) (sym b.down) tt);
          }

  -- nothing is done where the replica is up
  up-alike : word ≡ Up → acts ≡ [] → new ≡ m → Alike (run.refused Up c) (acted s r word acts new)
  up-alike is are same =
      subst (λ (x : Word). Alike (run.refused Up c) (acted s r x acts new)) (sym is)
      (subst (λ (xs : List Act). Alike (run.refused Up c) (acted s r Up xs new)) (sym are)
      (stays-alike c s r place m h there here Up new (subst (λ (x : Machine). IsPlace place x) (sym same) is-placed)))

  module _ (starts : StartsFollow) (head : IsHead c.head) where
    -- a life begins where one does in the model, and as it does
    begins-alike : place.running ≡ None → (did : Option Turned) → opening config (stored_on m.disk) ≡ did → BeginsBy did config m word acts new → Alike (run.begins c r place) (acted s r word acts new)
    begins-alike down None none b = unbegun-alike (unopened head none) down b
    begins-alike down (Some did) is b = begun-alike b (starts config (stored_on m.disk) b.a acts b.begins (suc place.starts))

    -- a start at a replica that is up or down is that of the model
    placed-alike : (p : Option Running) (q : Option Whole) → place.running ≡ p → AreAlike p q → StartsOn config m q word acts new → Alike (run.if_running p (λ a. run.refused Up c) (run.begins c r place)) (acted s r word acts new)
    placed-alike None None down alike b = begins-alike down (opening config (stored_on m.disk)) refl b
    placed-alike (Some a) (Some w) up alike stays = up-alike stays.0 stays.1 stays.2
    placed-alike None (Some w) down alike b = absurd alike
    placed-alike (Some a) None up alike b = absurd alike

-- a start is that of the model
pub start-alike : StartsFollow → StartAlike
start-alike follow c s r o head h starts = go (slice_get c.places r) (slice_get s.machines r) refl refl starts
  where
    long : length c.places ≡ length s.machines
    long = h.count ∙ sym h.machines

    go : (p : Option Place) (q : Option Machine) → slice_get c.places r ≡ p → slice_get s.machines r ≡ q → StartsIf s r q o → Alike (run.start_by p c r) o
    go None None there here is = subst (λ (x : Outcome). Alike (run.refused Up c) x) (sym is) (refused-alike c s Up h)
    go None (Some m) there here is = absurd (both-there c.places s.machines r m long there here)
    go (Some place) None there here is = absurd (both-there s.machines c.places r place (sym long) here there)
    go (Some place) (Some m) there here is =
        let acts = is.1.1 in
        subst (λ (x : Outcome). Alike (run.start_by (Some place) c r) x) (sym acts.comes)
        (placed-alike c s r place is.0 m acts.machine acts.word acts.acts h there here (subst (λ (k : Head). IsConfigAt k r is.0) h.head is.1.0) follow head place.running m.running refl (h.places r place m there here).running acts.does)

-- ---- The first starts

-- a list that repeats one thing has nothing else
of-replicate : {X : Type 0} (n r : ℕ) (x y : X) → slice_get (replicate n x) r ≡ Some y → y ≡ x
of-replicate zero r x y e = absurd cc
of-replicate (suc n) zero x y e = let f : x ≡ y = cc in sym f
of-replicate (suc n) (suc r) x y e = of-replicate n r x y e

-- a fresh disk holds no number
fresh-stored : stored_on fresh_machine.disk ≡ None
unfolding gate_in
fresh-stored = refl

-- the machines before the first starts are the cluster then
fresh-alike : (head : Head) → IsCluster (fresh_cluster head) (stepping.fresh head)
fresh-alike head =
    record {
      head = refl;
      count = length-replicate head.n fresh_place;
      machines = length-replicate head.n fresh_machine;
      places = is;
      placed = λ r place e. subst (λ (x : Place). IsPlaced (fresh_cluster head) r x x.running) (sym (of-replicate head.n r fresh_place place e)) tt;
      sent = refl;
      fitly = λ m i. absurd i;
    }
  where
    both : IsPlace fresh_place fresh_machine
    both = record { stored = fresh-stored; running = tt }

    is : (r : ℕ) (place : Place) (m : Machine) → slice_get (replicate head.n fresh_place) r ≡ Some place → slice_get (replicate head.n fresh_machine) r ≡ Some m → IsPlace place m
    is r place m e f =
        subst (λ (x : Place). IsPlace x m) (sym (of-replicate head.n r fresh_place place e)) (subst (λ (x : Machine). IsPlace fresh_place x) (sym (of-replicate head.n r fresh_machine m f)) both)

-- what has happened after one more first start
abbrev started-next : ℕ → Happened → Happened
started-next r done =
    let next = run.start_by (slice_get done.cluster.places r) done.cluster r in
    record { word = Done; steps = done.steps ++ next.steps; moves = done.moves ++ next.moves; cluster = next.cluster }

-- the last of the first starts comes after the others
last-start : (k r q : ℕ) (done : Happened) → q ≡ r + k → run.first_starts (suc k) r done ≡ started-next q (run.first_starts k r done)
last-start zero r q done e = let f : r ≡ q = omega arith in ap (λ j. started-next j done) f
last-start (suc k) r q done e = last-start k (suc r) q (started-next r done) (omega arith)

-- a start leaves the constants of the run
start-head : (c : Cluster) (r : ℕ) (p : Option Place) → (run.start_by p c r).cluster.head ≡ c.head
start-head c r None = refl
start-head c r (Some place) = by-running place.running
  where
    by-opening : (o : Option model_turn.Opened) → (run.begins_by o c r place).cluster.head ≡ c.head
    by-opening None = refl
    by-opening (Some opened) = refl

    by-running : (o : Option Running) → (run.if_running o (λ a. run.refused Up c) (run.begins c r place)).cluster.head ≡ c.head
    by-running (Some a) = refl
    by-running None = by-opening (model_turn.opening (cluster.config_of c.head r) free_slots (suc place.starts) place.stable)

-- what has happened in the model is what the machines did, with these steps
record FirstAlike (head : Head) (done : Happened) (steps : List Step) (after : Stepping) : Type 0 where
  pub word : done.word ≡ Done
  pub steps_are : steps ≡ done.steps
  pub head_is : done.cluster.head ≡ head
  pub cluster_is : IsCluster done.cluster after

module _ (follow : StartsFollow) where
  -- the first starts of the k least replicas are those of the model
  firsts-alike : (k : ℕ) (head : Head) (steps : List Step) (after : Stepping) → IsHead head → stepping.FirstStarts k (stepping.fresh head) steps after
      → FirstAlike head (run.first_starts k 0 (run.refused Done (fresh_cluster head))) steps after
  firsts-alike zero head steps after h starts = record { word = refl; steps_are = starts.0; head_is = refl; cluster_is = subst (λ (x : Stepping). IsCluster (fresh_cluster head) x) (sym starts.1) (fresh-alike head) }
  firsts-alike (suc k) head steps after h starts = one-more (firsts-alike k head starts.1.0 starts.0 h starts.1.1.0) starts.1.1.1
    where
      done : Happened
      done = run.first_starts k 0 (run.refused Done (fresh_cluster head))

      one-more : FirstAlike head done starts.1.0 starts.0 → stepping.StartsNext starts.0 starts.1.0 k steps after → FirstAlike head (run.first_starts (suc k) 0 (run.refused Done (fresh_cluster head))) steps after
      one-more f n = subst (λ (x : Happened). FirstAlike head x steps after) (sym (last-start k 0 k (run.refused Done (fresh_cluster head)) (omega arith))) next
        where
          alike : Alike (run.start_by (slice_get done.cluster.places k) done.cluster k) n.o
          alike = start-alike follow done.cluster starts.0 k n.o (subst (λ (x : Head). IsHead x) (sym f.head_is) h) f.cluster_is n.starts

          next : FirstAlike head (started-next k done) steps after
          next =
              record {
                word = refl;
                steps_are = n.steps_are ∙ ap (λ (xs : List Step). xs ++ n.o.steps) f.steps_are ∙ ap (λ (xs : List Step). done.steps ++ xs) alike.steps;
                head_is = start-head done.cluster k (slice_get done.cluster.places k) ∙ f.head_is;
                cluster_is = subst (λ (x : Stepping). IsCluster (started-next k done).cluster x) (sym n.after_is) alike.after;
              }

  -- the first line is that of the model
  pub opens-alike : OpensAlike
  unfolding run.first_event
  opens-alike head e after h opens = (λ k. record { line = opens.line k; word = (opens.word ∙ sym f.word) k; steps = f.steps_are k }, f.cluster_is)
    where
      f : FirstAlike head (run.first_starts head.n 0 (run.refused Done (fresh_cluster head))) e.steps after
      f = firsts-alike head.n head e.steps after h opens.starts

-- A step that is refused, one that shows nothing, and one that acts, go as the model's.
use Rattle.std.proofs.Common.{◌≡◌, ℕ, zero, suc, ◌<◌, List, [], ◌∷◌, ◌++◌, length, slice_get, slice_set, Option, Some, None, refl, sym, ap, subst, ◌∙◌, append-nil}
use Rattle.std.proofs.lemmas.List.{length-map}
use Rattle.std.proofs.lemmas.Option.{slice_get_within}
use Rattle.jp_types.specs.Lists.{In}
use Rattle.paxos_world.specs.Life.{LifeId}
use Rattle.paxos_world.specs.Replica.{Running}
use Rattle.paxos_world.specs.Stage as model
use Rattle.paxos_world.specs.World as world
use Rattle.protocol_core.specs.declared.act.Act.{Act}
use Rattle.protocol_laws.specs.Acting.{model_acts}
use Rattle.protocol_laws.specs.Coming.{SendsFitly}
use Rattle.replica_node.specs.Following.{leaving}
use Rattle.replica_node.specs.Resembling.{Resembles, AreAlike}
use Rattle.replica_node.specs.Whole.{Whole}
use Rattle.schedules.specs.Cluster.{Place, Cluster, config_of, with_running, steps_of}
use Rattle.schedules.specs.Cluster as cluster
use Rattle.schedules.specs.Run as run
use Rattle.schedules.specs.declared.line.Word.{Word}
use Rattle.cluster.specs.Frames as frames
use Rattle.cluster.specs.Machine.{Machine}
use Rattle.cluster.specs.Resembling.{sent_of, IsSentFitly, IsPlace, IsPlaced, IsCluster, Alike}
use Rattle.cluster.specs.Stepping.{Stepping, acted}
use Rattle.cluster.specs.Stepping as stepping
use Rattle.cluster.specs.declared.sent.Sent.{Sent}
use Rattle.cluster.proofs.Acting.{acts-alike}
use Rattle.cluster.proofs.Places.{places-alike}

-- ---- Lists

-- an element in its own place changes nothing
set-same : {A : Type 0} (xs : List A) (k : ℕ) (x : A) → slice_get xs k ≡ Some x → slice_set xs k x ≡ xs
set-same [] k x e = refl
set-same (y ∷ ys) zero x e = ap (λ z. z ∷ ys) (sym cc)
set-same (y ∷ ys) (suc k) x e = ap (λ zs. y ∷ zs) (set-same ys k x e)

-- of two lists of one length, none has a place that the other lacks
pub both-there : {A B : Type 0} (xs : List A) (ys : List B) (k : ℕ) (y : B) → length xs ≡ length ys → slice_get xs k ≡ None → slice_get ys k ≡ Some y → ⊥
both-there [] [] k y same none some = absurd cc
both-there [] (z ∷ zs) k y same none some = absurd cc
both-there (x ∷ xs) [] k y same none some = absurd cc
both-there (x ∷ xs) (z ∷ zs) zero y same none some = absurd cc
both-there (x ∷ xs) (z ∷ zs) (suc k) y same none some = let f : length xs ≡ length zs = cc in both-there xs zs k y f none some

-- ---- What is up

-- what is up on a machine of the cluster is that of the model
resembles : (place : Place) (m : Machine) (a : Running) (w : Whole) → IsPlace place m → place.running ≡ Some a → m.running ≡ Some w → Resembles a w
resembles place m a w is up runs = subst (λ (o : Option Whole). AreAlike (Some a) o) runs (subst (λ (o : Option Running). AreAlike o m.running) up is.running)

-- the same of replica r
pub resembles-at : (c : Cluster) (s : Stepping) (r : ℕ) (place : Place) (m : Machine) (a : Running) (w : Whole) → IsCluster c s → slice_get c.places r ≡ Some place → slice_get s.machines r ≡ Some m
    → place.running ≡ Some a → m.running ≡ Some w → Resembles a w
resembles-at c s r place m a w h at on up runs = resembles place m a w (h.places r place m at on) up runs

-- a replica that is up has the constants of its place, and the number on its disk is its stage's
pub placed-at : (c : Cluster) (s : Stepping) (r : ℕ) (place : Place) (a : Running) → IsCluster c s → slice_get c.places r ≡ Some place → place.running ≡ Some a
    → (a.stage.config ≡ config_of c.head r) × (place.stable ≡ Some a.stage.stable)
placed-at c s r place a h at up = subst (λ (o : Option Running). IsPlaced c r place o) up (h.placed r place at)

-- ---- Outcomes

-- a line that is answered without a change
pub refused-alike : (c : Cluster) (s : Stepping) (word : Word) → IsCluster c s → Alike (run.refused word c) (stepping.refused word s)
refused-alike c s word h = record { word = refl; steps = refl; after = h }

module _ (c : Cluster) (s : Stepping) (r : ℕ) (place : Place) (m : Machine) (h : IsCluster c s) (at : slice_get c.places r ≡ Some place) (on : slice_get s.machines r ≡ Some m) where
  -- what is sent with nothing more is what was sent
  sent-no-more : (machines : List Machine) → record s { machines = machines; sent = s.sent ++ [] } ≡ record s { machines = machines }
  sent-no-more machines = λ k. record s { machines = machines; sent = append-nil s.sent k }

  -- a replica changes, and sends nothing
  pub still-alike : (next : Place) (new : Machine) → IsPlace next new → IsPlaced c r next next.running
      → IsCluster (record c { places = slice_set c.places r next }) (record s { machines = slice_set s.machines r new })
  still-alike next new is placed =
      subst (λ (ms : List world.Sent). IsCluster (record c { places = slice_set c.places r next; sent = ms }) (record s { machines = slice_set s.machines r new })) (append-nil c.sent)
      (subst (λ (x : Stepping). IsCluster (record c { places = slice_set c.places r next; sent = c.sent ++ [] }) x) (sent-no-more (slice_set s.machines r new))
      (places-alike c s r place next m new [] [] h at on is placed refl (λ x i. absurd i)))

  -- what a machine does that shows and sends nothing changes the machine alone
  acted-nothing : (word : Word) (new : Machine) → record { word = word; steps = []; after = record s { machines = slice_set s.machines r new } } ≡ acted s r word [] new
  acted-nothing word new = λ k. record { word = word; steps = []; after = sym (sent-no-more (slice_set s.machines r new)) k }

  -- a replica that stays as it was
  pub stays-alike : (word : Word) (new : Machine) → IsPlace place new → Alike (run.refused word c) (acted s r word [] new)
  stays-alike word new is = subst (Alike (run.refused word c)) (acted-nothing word new) (record { word = refl; steps = refl; after = after })
    where
      after : IsCluster c (record s { machines = slice_set s.machines r new })
      after =
          subst (λ (ps : List Place). IsCluster (record c { places = ps }) (record s { machines = slice_set s.machines r new })) (set-same c.places r place at)
          (still-alike place new is (h.placed r place at))

  -- a replica changes, and shows and sends nothing
  pub quietly-alike : (a : Running) (new : Machine) → IsPlace (with_running a place) new → a.stage.config ≡ config_of c.head r → Alike (run.quietly c r place a) (stepping.quietly s r new)
  quietly-alike a new is config = record { word = refl; steps = refl; after = still-alike (with_running a place) new is (config, refl) }

  -- the same, where it is an act
  pub quiet-alike : (a : Running) (new : Machine) → IsPlace (with_running a place) new → a.stage.config ≡ config_of c.head r → Alike (run.quietly c r place a) (acted s r Word.Done [] new)
  quiet-alike a new is config = subst (Alike (run.quietly c r place a)) (acted-nothing Word.Done new) (quietly-alike a new is config)

  -- a replica changes, from this place on, and its acts leave of it what the model's leave
  pub done-alike : (before : Place) (a : Running) (t : model.Turned) (acts : List Act) (new : Machine) → IsPlace (with_running a before) new → a.stage.config ≡ config_of c.head r
      → model_acts acts ≡ leaving t.acts → SendsFitly (config_of c.head r) acts → Alike (run.done_by c r before a t) (acted s r Word.Done acts new)
  done-alike before a t acts new is config same fit =
      record {
        word = refl;
        steps = acts-alike.shown (length s.sent) acts t.acts same ∙ ap (λ k. steps_of k t.acts) long;
        after = places-alike c s r place (with_running a before) m new (cluster.sent_by id t.acts) (frames.sent_by r acts) h at on is (config, refl) (acts-alike.sent id acts t.acts same) fitly;
      }
    where
      id : LifeId
      id = world.id_of r t.stage.life

      long : length s.sent ≡ length c.sent
      long = ap (λ (xs : List Sent). length xs) h.sent ∙ length-map c.sent sent_of

      below : r < c.head.n
      below = subst (λ k. r < k) h.count (slice_get_within c.places r place at)

      fitly : (x : world.Sent) → In x (cluster.sent_by id t.acts) → IsSentFitly c.head x
      fitly x i = acts-alike.fitly (config_of c.head r) c.head id acts t.acts same refl refl refl below fit x i

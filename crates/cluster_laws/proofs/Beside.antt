-- A cluster that matches a world.
use Rattle.std.proofs.Common.{◌≡◌, ◌≢◌, ℕ, zero, suc, ◌≤◌, ◌<◌, ◌⊎◌, List, [], ◌∷◌, ◌++◌, length, slice_get, slice_set, Option, Some, None, refl, sym, ap, subst, ◌∙◌, inl, inr, ⊎_elim, arith}
use Rattle.kv_service.specs.StateBytes.{state_bytes}
use Rattle.jp_types.specs.Lists.{In}
use Rattle.paxos_world.specs.Setup.{Setup}
use Rattle.paxos_world.specs.Life.{LifeId, Life}
use Rattle.jp_types.specs.Instances.{Batch}
use Rattle.paxos_world.specs.World.{Replica, World, Sent, Ballot, Deed, Move, Crash, Allowed, id_of, who, after, opening, replica_after, act, ballots, sends, fresh}
use Rattle.paxos_world.specs.World as W
use Rattle.paxos_world.specs.Trace.{IsRun, end_of}
use Rattle.paxos_world.specs.Stage.{Config, Stage, Item, Came, Closed, Tick, Suspect, Snapped, Decision, Decided, Installed, Act, Show, Send, Hand, Save, Turned}
use Rattle.paxos_world.specs.Settling.{rejoin_view}
use Rattle.paxos_world.specs.Shown.{shown_along, shown_in}
use Rattle.paxos_world.proofs.Turning.{shown_over, Told}
use Rattle.cluster_laws.specs.Laws.{ShowsMoves}
use Rattle.paxos_world.proofs.Turning.{along-over}
use Rattle.cluster_laws.proofs.Showing.{shows-acts}
use Rattle.paxos_world.specs.Turn.{moves_of}
use Rattle.paxos_world.proofs.Basics.{with_at-other, with_at-same, In-left}
use Rattle.paxos_world.proofs.Replies.{same}
use Rattle.turn_laws.specs.Nodes as F
use Rattle.turn_laws.proofs.Lawful.{sits-frame}
use Rattle.turn_laws.proofs.Fitting.{Within, Good}
use Rattle.jp_types.specs.Limits.{IsRequest, IsBatch}
use Rattle.turn_laws.proofs.Sane.{Sane, SaneRun}
use Rattle.turn_laws.proofs.Sitting.{Sits, Over}
use Rattle.schedules.specs.declared.line.Head.{Head}
use Rattle.schedules.specs.declared.line.Word.{Word}
use Rattle.paxos_world.specs.Batching.{Fed, Asked}
use Rattle.paxos_world.specs.Replica.{Running, handed_by}
use Rattle.schedules.specs.Cluster.{Place, Cluster, Happened, config_of, with_running, sent_by}
use Rattle.schedules.specs.Run.{refused, quietly, done_by}
use Rattle.turn_laws.specs.Nodes.{Onward, DecisionComes, ItemComes}

-- the constants of a cluster's world
abbrev pub setup_at : Head → Setup
setup_at head = record { n = head.n; mode = head.mode; encode = state_bytes }

-- what the Batcher takes is within the limits
abbrev pub FedTrue : Fed → Type 0
FedTrue (Asked request) = IsRequest request
FedTrue Fed.Tick = Unit {0}

-- a replica that is up matches the world: its stage sits there, and what its lanes hold may come
pub record IsUp (c : Config) (number : ℕ) (w : World) (a : Running) : Type 0 where
  pub sits : Sits c number w a.stage
  pub items : (x : Item) → In x a.dispatcher → ItemComes w c.me a.stage.life x
  pub decisions : (d : Decision) → In d a.decisions → DecisionComes a.stage.life d
  pub requests : (x : Fed) → In x a.requests → FedTrue x
  pub held : IsBatch a.held
  -- its stage does not meet the condition of Rejoin
  pub settled : rejoin_view a.stage ≡ None

-- a replica matches the world: its starts, its stable number, and what runs
pub record Beside (c : Config) (w : World) (place : Place) : Type 0 where
  pub starts : place.starts ≡ (w.replicas c.me).starts
  pub stable : place.stable ≡ (w.replicas c.me).stable
  pub down : place.running ≡ None → (w.replicas c.me).running ≡ None
  pub up : (a : Running) → place.running ≡ Some a → IsUp c place.starts w a

-- a cluster matches a world
pub record Matches (cl : Cluster) (w : World) : Type 0 where
  pub good : Good (setup_at cl.head) w
  pub sane : Sane w
  pub places : (r : ℕ) (place : Place) → slice_get cl.places r ≡ Some place → Beside (config_of cl.head r) w place
  pub within : (r : ℕ) (place : Place) → slice_get cl.places r ≡ Some place → r < cl.head.n
  pub sent : w.sent ≡ cl.sent

-- ---- Lists

pub set-cases : {X : Type 0} (xs : List X) (r q : ℕ) (x y : X) → slice_get (slice_set xs r x) q ≡ Some y → ((q ≡ r) × (y ≡ x)) ⊎ ((q ≢ r) × (slice_get xs q ≡ Some y))
set-cases [] r q x y e = absurd cc
set-cases (z ∷ zs) zero zero x y e = inl (refl, (let f : x ≡ y = cc in sym f))
set-cases (z ∷ zs) zero (suc q) x y e = inr ((λ f. omega arith), e)
set-cases (z ∷ zs) (suc r) zero x y e = inr ((λ f. omega arith), e)
set-cases (z ∷ zs) (suc r) (suc q) x y e = ⊎_elim (λ h. inl (ap suc h.0, h.1)) (λ h. let ne = h.0 in inr ((λ f. ne (omega arith)), h.1)) (set-cases zs r q x y e)

pub length-set : {X : Type 0} (xs : List X) (r : ℕ) (x : X) → length (slice_set xs r x) ≡ length xs
length-set [] r x = refl
length-set (y ∷ ys) zero x = refl
length-set (y ∷ ys) (suc r) x = ap suc (length-set ys r x)

pub set-within : {X : Type 0} (xs : List X) (r q : ℕ) (x y z : X) → slice_get xs r ≡ Some z → slice_get (slice_set xs r x) q ≡ Some y → (v : X) × (slice_get xs q ≡ Some v)
set-within xs r q x y z there e = ⊎_elim (λ h. (z, subst (λ k. slice_get xs k ≡ Some z) (sym h.0) there)) (λ h. (y, h.1)) (set-cases xs r q x y e)

-- ---- The world's steps of one replica

abbrev pub IsOf : ℕ → List Move → Type 0
IsOf r [] = Unit {0}
IsOf r (m ∷ ms) = (who m ≡ r) × IsOf r ms

pub of-deeds : (r : ℕ) (ds : List Deed) → IsOf r (moves_of r ds)
of-deeds r [] = tt
of-deeds r (d ∷ ds) = (refl, of-deeds r ds)

-- what its steps leave of the world
pub record Rest (r : ℕ) (w v : World) : Type 0 where
  pub others : (q : ℕ) → q ≢ r → v.replicas q ≡ w.replicas q
  pub votes : Within w.votes v.votes
  pub sent : Within w.sent v.sent

pub rest-of : (c : Setup) (r : ℕ) (w : World) (ms : List Move) → IsOf r ms → Rest r w (end_of c w ms)
rest-of c r w [] h = record { others = λ q ne. refl; votes = λ x i. i; sent = λ x i. i }
rest-of c r w (m ∷ ms) h =
    let k = rest-of c r (after c w m) ms h.1 in
    record {
      others = λ q ne. k.others q ne ∙ with_at-other w.replicas (who m) (replica_after c (w.replicas (who m)) m) q (λ e. ne (e ∙ h.0));
      votes = λ x i. k.votes x (In-left x w.votes (ballots w m) i);
      sent = λ x i. k.sent x (In-left x w.sent (sends c w m) i);
    }

act-starts : (c : Setup) (r : ℕ) (a : Replica) (d : Deed) (o : Option Life) → (act c r a d o).starts ≡ a.starts
act-starts c r a d None = refl
act-starts c r a d (Some l) = refl

pub starts-kept : (c : Setup) (r : ℕ) (w : World) (ds : List Deed) → ((end_of c w (moves_of r ds)).replicas r).starts ≡ (w.replicas r).starts
starts-kept c r w [] = refl
starts-kept c r w (d ∷ ds) =
    starts-kept c r (after c w (W.Act r d)) ds
    ∙ ap (λ (a : Replica). a.starts) (with_at-same w.replicas r (replica_after c (w.replicas r) (W.Act r d)))
    ∙ act-starts c r (w.replicas r) d (w.replicas r).running

-- ---- What others keep

pub item-more : (w v : World) (r : ℕ) (l m : Life) (x : Item) → Within w.sent v.sent → Onward l m → ItemComes w r l x → ItemComes v r m x
item-more w v r l m (Came from message) sent on h = sent _ h
item-more w v r l m (Closed batch) sent on h = h
item-more w v r l m Tick sent on h = tt
item-more w v r l m Suspect sent on h = tt
item-more w v r l m (Snapped upto bytes) sent on h = (h.0, on.states h.0 h.1, h.2, h.3)

pub decision-more : (l m : Life) (d : Decision) → Onward l m → DecisionComes l d → DecisionComes m d
decision-more l m (Decided i batch) on h = on.known i batch h
decision-more l m (Installed upto state) on h = (on.installed state h.0, h.1)

still-onward : (l : Life) → Onward l l
still-onward l = record { known = λ i batch e. e; states = λ x i. i; installed = λ x i. i }

beside-frame : (c : Config) (w v : World) (place : Place) → v.replicas c.me ≡ w.replicas c.me → Within w.votes v.votes → Within w.sent v.sent → Beside c w place → Beside c v place
beside-frame c w v place same votes sent h =
    record {
      starts = h.starts ∙ ap (λ (a : Replica). a.starts) (sym same);
      stable = h.stable ∙ ap (λ (a : Replica). a.stable) (sym same);
      down = λ e. ap (λ (a : Replica). a.running) same ∙ h.down e;
      up = λ a e. (let k = h.up a e in record {
        sits = sits-frame c place.starts w v a.stage (subst (λ (x : Config). v.replicas x.me ≡ w.replicas x.me) (sym k.sits.config) same) votes k.sits;
        items = λ x n. item-more w v c.me a.stage.life a.stage.life x sent (still-onward a.stage.life) (k.items x n);
        decisions = k.decisions;
        requests = k.requests;
        held = k.held;
        settled = k.settled;
      });
    }

-- one replica changes with the world
pub matches-change : (cl : Cluster) (w v : World) (r : ℕ) (place new : Place) (sent : List Sent) → Matches cl w → slice_get cl.places r ≡ Some place
    → Rest r w v → Good (setup_at cl.head) v → Sane v → Beside (config_of cl.head r) v new → v.sent ≡ sent → Matches (record cl { places = slice_set cl.places r new; sent = sent }) v
matches-change cl w v r place new sent h there rest good sane beside is =
    record {
      good = good;
      sane = sane;
      places = λ q p e. ⊎_elim
          (λ a. subst (λ (x : Place). Beside (config_of cl.head q) v x) (sym a.1) (subst (λ k. Beside (config_of cl.head k) v new) (sym a.0) beside))
          (λ a. beside-frame (config_of cl.head q) w v p (rest.others q a.0) rest.votes rest.sent (h.places q p a.1))
          (set-cases cl.places r q new p e);
      within = λ q p e. (let a = set-within cl.places r q new p place there e in h.within q a.0 a.1);
      sent = is;
    }

-- ---- What happens matches

pub record Happens (cl : Cluster) (w : World) (h : Happened) : Type 0 where
  pub head : h.cluster.head ≡ cl.head
  pub count : length h.cluster.places ≡ length cl.places
  pub shows : ShowsMoves (setup_at cl.head) w h
  pub run : IsRun (setup_at cl.head) w h.moves
  pub along : SaneRun (setup_at cl.head) w h.moves
  pub matches : Matches h.cluster (end_of (setup_at cl.head) w h.moves)

-- a cluster has two replicas at least
abbrev pub Two : Cluster → Type 0
Two cl = 2 ≤ cl.head.n

pub happens-refused : (cl : Cluster) (w : World) (word : Word) → Matches cl w → Happens cl w (refused word cl)
happens-refused cl w word h = record { head = refl; count = refl; shows = record { steps = refl; sends = refl }; run = tt; along = h.sane; matches = h }

pub sent-same : (from : LifeId) (acts : List Act) → sent_by from acts ≡ F.sent_by from acts
sent-same from [] = refl
sent-same from (Show step ∷ acts) = sent-same from acts
sent-same from (Send to m ∷ acts) = ap (λ xs. record { from = from; to = to; message = m } ∷ xs) (sent-same from acts)
sent-same from (Hand d ∷ acts) = sent-same from acts
sent-same from (Save k ∷ acts) = sent-same from acts

pub handed-same : (acts : List Act) → handed_by acts ≡ F.handed_by acts
handed-same [] = refl
handed-same (Show step ∷ acts) = handed-same acts
handed-same (Send to m ∷ acts) = handed-same acts
handed-same (Hand d ∷ acts) = ap (λ xs. d ∷ xs) (handed-same acts)
handed-same (Save k ∷ acts) = handed-same acts

module _ (cl : Cluster) (w : World) (r : ℕ) (place : Place) (a : Running) (h : Matches cl w) (there : slice_get cl.places r ≡ Some place) (up : place.running ≡ Some a) where
  is_up : IsUp (config_of cl.head r) place.starts w a
  is_up = (h.places r place there).up a up

  -- only the lanes change
  pub happens-quietly : (b : Running) → b.stage ≡ a.stage → ((x : Item) → In x b.dispatcher → ItemComes w r a.stage.life x) → b.decisions ≡ a.decisions
      → ((x : Fed) → In x b.requests → FedTrue x) → IsBatch b.held → Happens cl w (quietly cl r place b)
  happens-quietly b same_stage items decisions requests held =
      record {
        head = refl;
        count = length-set cl.places r (with_running b place);
        shows = record { steps = refl; sends = refl };
        run = tt;
        along = h.sane;
        matches = matches-change cl w w r place (with_running b place) cl.sent h there (record { others = λ q ne. refl; votes = λ x i. i; sent = λ x i. i }) h.good h.sane beside h.sent;
      }
    where
      old : Beside (config_of cl.head r) w place
      old = h.places r place there

      sits : Sits (config_of cl.head r) place.starts w b.stage
      sits = subst (λ (s : Stage). Sits (config_of cl.head r) place.starts w s) (sym same_stage) is_up.sits

      new : IsUp (config_of cl.head r) place.starts w b
      new = record {
        sits = sits;
        items = λ x n. subst (λ (s : Stage). ItemComes w r s.life x) (sym same_stage) (items x n);
        decisions = λ d n. subst (λ (s : Stage). DecisionComes s.life d) (sym same_stage) (is_up.decisions d (subst (λ (ds : List Decision). In d ds) decisions n));
        requests = requests;
        held = held;
        settled = ap rejoin_view same_stage ∙ is_up.settled;
      }

      beside : Beside (config_of cl.head r) w (with_running b place)
      beside = record {
        starts = old.starts;
        stable = sym (subst (λ (c : Config). (w.replicas c.me).stable ≡ Some b.stage.stable) sits.config sits.stable);
        down = λ e. absurd cc;
        up = λ x e. (let f : b ≡ x = cc in subst (λ (y : Running). IsUp (config_of cl.head r) place.starts w y) f new);
      }

  -- a turn, a service's step or a repetition
  pub happens-done : (b : Running) (t : Turned) → b.stage ≡ t.stage → (o : Over (config_of cl.head r) place.starts w a.stage.life t)
      → ((x : Item) → In x b.dispatcher → ItemComes o.world r t.stage.life x) → ((d : Decision) → In d b.decisions → DecisionComes t.stage.life d) → b.requests ≡ a.requests → b.held ≡ a.held
      → rejoin_view t.stage ≡ None → Told a.stage.config a.stage.life [] t → Happens cl w (done_by cl r place b t)
  happens-done b t same_stage o items decisions requests held settled told =
      record {
        head = refl;
        count = length-set cl.places r (with_running b place);
        shows = shows-acts (setup_at cl.head) w (length cl.sent) (id_of r t.stage.life) t.acts (done_by cl r place b t) refl shown said (ap length (sym h.sent));
        run = o.run;
        along = o.along;
        matches = subst (λ (v : World). Matches (record cl { places = slice_set cl.places r (with_running b place); sent = sent }) v) (sym o.ends)
            (matches-change cl w o.world r place (with_running b place) sent h there rest o.good o.sane beside sent_is);
      }
    where
      sent : List Sent
      sent = cl.sent ++ sent_by (id_of r t.stage.life) t.acts

      old : Beside (config_of cl.head r) w place
      old = h.places r place there

      rest : Rest r w o.world
      rest = subst (λ (v : World). Rest r w v) o.ends (rest-of (setup_at cl.head) r w (moves_of r t.deeds) (of-deeds r t.deeds))

      sent_is : o.world.sent ≡ sent
      sent_is =
          o.sent ∙ ap (λ (xs : List Sent). xs ++ F.sent_by (record { replica = r; number = place.starts }) t.acts) h.sent
          ∙ ap (λ (n : ℕ). cl.sent ++ F.sent_by (record { replica = r; number = n }) t.acts) (sym o.sits.number_is)
          ∙ ap (λ (xs : List Sent). cl.sent ++ xs) (sym (sent-same (id_of r t.stage.life) t.acts))

      shown : shown_in t.acts ≡ shown_along (setup_at cl.head) w (moves_of r t.deeds)
      shown =
          told.shown ∙ ap (λ (c : Config). shown_over c a.stage.life t.deeds) is_up.sits.config
          ∙ sym (along-over (config_of cl.head r) w a.stage.life t.deeds (subst (λ (c : Config). (w.replicas c.me).running ≡ Some a.stage.life) is_up.sits.config is_up.sits.running))

      said : (end_of (setup_at cl.head) w (moves_of r t.deeds)).sent ≡ w.sent ++ sent_by (id_of r t.stage.life) t.acts
      said = ap (λ (v : World). v.sent) o.ends ∙ sent_is ∙ ap (λ (xs : List Sent). xs ++ sent_by (id_of r t.stage.life) t.acts) (sym h.sent)

      sits : Sits (config_of cl.head r) place.starts o.world b.stage
      sits = subst (λ (s : Stage). Sits (config_of cl.head r) place.starts o.world s) (sym same_stage) o.sits

      new : IsUp (config_of cl.head r) place.starts o.world b
      new = record {
        sits = sits;
        items = λ x n. subst (λ (s : Stage). ItemComes o.world r s.life x) (sym same_stage) (items x n);
        decisions = λ d n. subst (λ (s : Stage). DecisionComes s.life d) (sym same_stage) (decisions d n);
        requests = λ x n. is_up.requests x (subst (λ (xs : List Fed). In x xs) requests n);
        held = subst (λ (x : Batch). IsBatch x) (sym held) is_up.held;
        settled = ap rejoin_view same_stage ∙ settled;
      }

      starts : place.starts ≡ (o.world.replicas r).starts
      starts = old.starts ∙ sym (starts-kept (setup_at cl.head) r w t.deeds) ∙ ap (λ (v : World). (v.replicas r).starts) o.ends

      beside : Beside (config_of cl.head r) o.world (with_running b place)
      beside = record {
        starts = starts;
        stable = sym (subst (λ (c : Config). (o.world.replicas c.me).stable ≡ Some b.stage.stable) sits.config sits.stable);
        down = λ e. absurd cc;
        up = λ x e. (let f : b ≡ x = cc in subst (λ (y : Running). IsUp (config_of cl.head r) place.starts o.world y) f new);
      }

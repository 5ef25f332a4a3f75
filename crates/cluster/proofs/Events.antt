-- What comes of a line after the first is what happens in the model.
use Rattle.std.proofs.Common.{◌≡◌, ◌≢◌, ℕ, ◌<◌, Bool, true, false, ◌==◌, List, if◌then◌else◌, slice_get, Option, Some, None, refl, sym, ap, subst, ◌∙◌, inl, inr}
use Rattle.std.specs.Option.{option_map}
use Rattle.std.proofs.lemmas.Bool.Decides.{eqb_tells}
use Rattle.std.proofs.lemmas.Option.{slice_get-map}
use Rattle.paxos_world.specs.Batching as batching
use Rattle.paxos_world.specs.Replica.{Running}
use Rattle.paxos_world.specs.Stage.{Came, Suspect}
use Rattle.paxos_world.specs.Stage as model
use Rattle.paxos_world.specs.World as world
use Rattle.turn_laws.proofs.Joining.{get-in}
use Rattle.protocol_core.specs.declared.item.Item.{Item}
use Rattle.protocol_laws.specs.Coming.{Comes, IsSendable}
use Rattle.replica_node.specs.Following.{MayStep, step_of}
use Rattle.replica_node.specs.Resembling.{AreAlike}
use Rattle.replica_node.specs.Whole.{Whole}
use Rattle.replica_node.specs.declared.stage.LaneItem.{LaneItem}
use Rattle.replica_node.specs.declared.stage.Stage.{Stage}
use Rattle.replica_node.specs.declared.stage.Stage.TheVariants as stage
use Rattle.replica_node.proofs.Goals.{PutsFollow}
use Rattle.schedules.specs.Cluster.{Place, Cluster, Happened, config_of}
use Rattle.schedules.specs.Run as run
use Rattle.schedules.specs.Run.{event}
use Rattle.schedules.specs.declared.line.Line.{Line}
use Rattle.schedules.specs.declared.line.Word.{Word}
use Rattle.cluster.specs.Frames.{addressed}
use Rattle.cluster.specs.Machine.{Machine}
use Rattle.cluster.specs.Machines.{StepsOn}
use Rattle.cluster.specs.Resembling.{sent_of, IsSentFitly, IsCluster, Alike}
use Rattle.cluster.specs.Stepping.{Stepping, Outcome, OnUp, OnMachine, AtUp, Acts, Takes, Delivers}
use Rattle.cluster.specs.Stepping as stepping
use Rattle.cluster.specs.declared.sent.Sent.{Sent}
use Rattle.cluster.proofs.Goals.{StepAlike, StartAlike, EventAlike}
use Rattle.cluster.proofs.Going.{both-there, placed-at, refused-alike}
use Rattle.cluster.proofs.Putting.{request-alike, item-alike, tick-alike, crash-alike}

-- a line that is answered without a change
refused-line : (c : Cluster) (s : Stepping) (word : Word) (o : Outcome) → IsCluster c s → o ≡ stepping.refused word s → Alike (run.refused word c) o
refused-line c s word o h e = subst (Alike (run.refused word c)) (sym e) (refused-alike c s word h)

module _ (c : Cluster) (s : Stepping) (h : IsCluster c s) where
  -- what comes at a replica is what happens there in the model, if that is so where it is up
  at-alike : (r : ℕ) (P : Machine → Whole → Outcome → Type 0) (f : Cluster → ℕ → Place → Running → Happened) (o : Outcome)
      → ((place : Place) (m : Machine) (a : Running) (w : Whole) → slice_get c.places r ≡ Some place → slice_get s.machines r ≡ Some m → place.running ≡ Some a → m.running ≡ Some w → P m w o → Alike (f c r place a) o)
      → AtUp P s r o → Alike (run.at_running f c r) o
  at-alike r P f o alike = go (slice_get c.places r) (slice_get s.machines r) refl refl
    where
      inner : (place : Place) (m : Machine) → slice_get c.places r ≡ Some place → slice_get s.machines r ≡ Some m → (x : Option Running) (y : Option Whole) → place.running ≡ x → m.running ≡ y → AreAlike x y
          → OnUp P s m y o → Alike (run.if_running x (f c r place) (run.refused Word.Down c)) o
      inner place m at on None None up runs both is = refused-line c s Word.Down o h is
      inner place m at on None (Some w) up runs both is = absurd both
      inner place m at on (Some a) None up runs both is = absurd both
      inner place m at on (Some a) (Some w) up runs both is = alike place m a w at on up runs is

      go : (x : Option Place) (y : Option Machine) → slice_get c.places r ≡ x → slice_get s.machines r ≡ y → OnMachine P s y o → Alike (run.up_at x (f c r) c) o
      go None None at on is = refused-line c s Word.Down o h is
      go None (Some m) at on is = absurd (both-there c.places s.machines r m (h.count ∙ sym h.machines) at on)
      go (Some place) None at on is = absurd (both-there s.machines c.places r place (h.machines ∙ sym h.count) on at)
      go (Some place) (Some m) at on is = inner place m at on place.running m.running refl refl (h.places r place m at on).running is

  -- a step of a stage
  takes-alike : StepAlike → (at : Stage) (r : ℕ) (o : Outcome) → ((place : Place) (a : Running) → slice_get c.places r ≡ Some place → place.running ≡ Some a → MayStep at a) → Takes at s r o
      → Alike (run.at_running (run.takes_step (step_of at)) c r) o
  takes-alike steps at r o ready =
      at-alike r (λ m w o. Acts (StepsOn at m w) s r o) (run.takes_step (step_of at)) o
      (λ place m a w there on up runs acts.
      subst (Alike (run.takes_step (step_of at) c r place a)) (sym acts.comes) (steps at c s r place m a w acts.word acts.acts acts.machine h there on up runs (ready place a there up) acts.does))

  -- a message that was sent to a replica may come to its stage
  comes-sent : (r : ℕ) (place : Place) (a : Running) (k : ℕ) (m : world.Sent) → slice_get c.places r ≡ Some place → place.running ≡ Some a → slice_get c.sent k ≡ Some m → m.to ≡ r → Comes a.stage (Came m.from m.message)
  comes-sent r place a k m at up sent to = subst (λ (x : model.Config). (m.from.replica < x.n) × (m.from.replica ≢ x.me) × IsSendable x.mode m.message) (sym config) (is.from, (λ e. is.other (e ∙ sym to)), is.may)
    where
      is : IsSentFitly c.head m
      is = h.fitly m (get-in c.sent k m sent)

      config : a.stage.config ≡ config_of c.head r
      config = (placed-at c s r place a h at up).0

  -- a message is delivered, if there is one to the replica
  delivers-alike : PutsFollow → (r k : ℕ) (o : Outcome) → Delivers (addressed r (slice_get s.sent k)) s r o → Alike (run.delivers (slice_get c.sent k) c r) o
  delivers-alike puts r k o is = go (slice_get c.sent k) refl (subst (λ (x : Option Sent). Delivers (addressed r x) s r o) same is)
    where
      same : slice_get s.sent k ≡ option_map sent_of (slice_get c.sent k)
      same = ap (λ (xs : List Sent). slice_get xs k) h.sent ∙ slice_get-map sent_of c.sent k

      by : (m : world.Sent) → slice_get c.sent k ≡ Some m → (b : Bool) → (m.to == r) ≡ b → Delivers (if b then Some (sent_of m) else None) s r o
          → Alike (if b then run.at_running (run.puts_item (Came m.from m.message)) c r else run.refused Word.Unsent c) o
      by m e false f is = refused-line c s Word.Unsent o h is
      by m e true f is =
          at-alike r (λ n w o. o ≡ stepping.puts stage.Protocol (LaneItem.Item (Item.Message m.from.replica m.message)) s r n w) (run.puts_item (Came m.from m.message)) o
          (λ place n a w at on up runs x.
          subst (Alike (run.puts_item (Came m.from m.message) c r place a)) (sym x) (item-alike c s r place n a w h at on up runs puts (Came m.from m.message) (comes-sent r place a k m at up e (equal m f)))) is
        where
          equal : (m : world.Sent) → (m.to == r) ≡ true → m.to ≡ r
          equal m f = elim (eqb_tells m.to r) [ inl x ↦ x.1 | inr x ↦ (let y = x.0 in absurd cc) ]

      go : (x : Option world.Sent) → slice_get c.sent k ≡ x → Delivers (addressed r (option_map sent_of x)) s r o → Alike (run.delivers x c r) o
      go None e is = refused-line c s Word.Unsent o h is
      go (Some m) e is = by m e (m.to == r) refl is

module _ (steps : StepAlike) (puts : PutsFollow) (start : StartAlike) where
  -- what comes of a line is what happens in the model
  pub event-alike : EventAlike
  unfolding event
  event-alike c s (Line.Cluster head) o is ready h x = refused-line c s Word.Done o h x
  event-alike c s (Line.Request r request) o is ready h x =
      at-alike c s h r _ (run.puts_request (batching.Asked request)) o
      (λ place m a w at on up runs e. subst (Alike (run.puts_request (batching.Asked request) c r place a)) (sym e) (request-alike c s r place m a w h at on up runs puts (batching.Asked request))) x
  event-alike c s (Line.Batch r) o is ready h x = takes-alike c s h steps stage.Batch r o (λ place a at up. tt) x
  event-alike c s (Line.Tick r) o is ready h x =
      at-alike c s h r _ run.puts_tick o (λ place m a w at on up runs e. subst (Alike (run.puts_tick c r place a)) (sym e) (tick-alike c s r place m a w h at on up runs puts)) x
  event-alike c s (Line.Suspect r) o is ready h x =
      at-alike c s h r _ (run.puts_item Suspect) o (λ place m a w at on up runs e. subst (Alike (run.puts_item Suspect c r place a)) (sym e) (item-alike c s r place m a w h at on up runs puts Suspect tt)) x
  event-alike c s (Line.Deliver r m) o is ready h x = delivers-alike c s h puts r m o x
  event-alike c s (Line.Protocol r) o is ready h x = takes-alike c s h steps stage.Protocol r o (λ place a at up. tt) x
  event-alike c s (Line.Service r) o is ready h x = takes-alike c s h steps stage.Service r o (λ place a at up. ready r place a at up) x
  event-alike c s (Line.Retransmit r) o is ready h x = takes-alike c s h steps stage.Retransmit r o (λ place a at up. tt) x
  event-alike c s (Line.Crash r) o is ready h x =
      at-alike c s h r _ run.on_crash o (λ place m a w at on up runs e. subst (Alike (run.on_crash c r place a)) (sym e) (crash-alike c s r place m a w h at on up runs)) x
  event-alike c s (Line.Start r) o is ready h x = start c s r o is h x
  event-alike c s Line.End o is ready h x = refused-line c s Word.Done o h x

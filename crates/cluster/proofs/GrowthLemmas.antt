-- Messages that were sent stay, and so do the constants of a run.
use Rattle.std.proofs.Common.{◌≡◌, ◌∙◌, ℕ, Bool, true, false, List, [], ◌++◌, refl, sym, ap, append-nil}
use Rattle.std.specs.Prelude.{Option, Some, None, slice_get}
use Rattle.protocol_core.specs.declared.act.Act.{Act}
use Rattle.replica_node.specs.declared.stage.LaneItem.{LaneItem}
use Rattle.replica_node.specs.declared.stage.Stage.{Stage}
use Rattle.replica_node.specs.declared.stage.Stage.TheVariants as stage
use Rattle.batcher.specs.declared.fed.Fed.{Fed}
use Rattle.protocol_core.specs.declared.item.Item.{Item}
use Rattle.replica_node.specs.Lanes.{is_full_at}
use Rattle.replica_node.specs.Whole.{Whole}
use Rattle.schedules.specs.declared.event.Event.{Event}
use Rattle.schedules.specs.declared.line.Line.{Line}
use Rattle.schedules.specs.declared.line.Word.{Word}
use Rattle.cluster.specs.Machine.{Machine}
use Rattle.cluster.specs.declared.sent.Sent.{Sent}
use Rattle.cluster.specs.Frames.{addressed, sent_by}
use Rattle.cluster.specs.Machines.{has_full_lane, StartsOn, StepsOn}
use Rattle.cluster.specs.Stepping.{Acts, AtUp, ComesOf, crashes, Delivers, Happens, OnMachine, OnUp, outcome_of, Outcome, Puts, puts, refused, Starts, StartsIf, Stepping, Takes, ticks}

-- a run that goes on: its constants are the same, and the messages so far are the first of those after it
pub record Grows (s after : Stepping) : Type 0 where
  pub head : after.head ≡ s.head
  pub more : List Sent
  pub sent : after.sent ≡ s.sent ++ more

-- nothing changes
grows_not : (s : Stepping) (o : Outcome) (word : Word) → o ≡ refused word s → Grows s o.after
grows_not s o word e =
    let same : o.after ≡ s = ap (λ (x : Outcome). x.after) e in
    record { head = ap (λ (t : Stepping). t.head) same; more = []; sent = ap (λ (t : Stepping). t.sent) same ∙ sym (append-nil s.sent) }

-- a machine changes
grows_quietly : (s after : Stepping) (machines : List Machine) → after ≡ record s { machines = machines } → Grows s after
grows_quietly s after machines same =
    record { head = ap (λ (t : Stepping). t.head) same; more = []; sent = ap (λ (t : Stepping). t.sent) same ∙ sym (append-nil s.sent) }

-- a replica acts
grows_acted : (P : Word → List Act → Machine → Type 0) (s : Stepping) (r : ℕ) (o : Outcome) → Acts P s r o → Grows s o.after
grows_acted P s r o acts =
    record {
      head = ap (λ (x : Outcome). x.after.head) acts.comes;
      more = sent_by r acts.acts;
      sent = ap (λ (x : Outcome). x.after.sent) acts.comes;
    }

-- what is said of a replica that is up lets the run grow
grows_at : (P : Machine → Whole → Outcome → Type 0) (s : Stepping) (r : ℕ) (o : Outcome)
    → ((m : Machine) (a : Whole) → P m a o → Grows s o.after) → AtUp P s r o → Grows s o.after
grows_at P s r o grows at = by (slice_get s.machines r) at where
  on : (m : Machine) (up : Option Whole) → OnUp P s m up o → Grows s o.after
  on m None e = grows_not s o Word.Down e
  on m (Some a) h = grows m a h

  by : (found : Option Machine) → OnMachine P s found o → Grows s o.after
  by None e = grows_not s o Word.Down e
  by (Some m) h = on m m.running h

-- an item is put
grows_put : (at : Stage) (item : LaneItem) (s : Stepping) (r : ℕ) (o : Outcome) → Puts at item s r o → Grows s o.after
grows_put at item s r o puts_so = grows_at (λ m a o. o ≡ puts at item s r m a) s r o grows puts_so where
  grows : (m : Machine) (a : Whole) → o ≡ puts at item s r m a → Grows s o.after
  grows m a e = by (is_full_at a.stages at) refl where
    by : (b : Bool) → is_full_at a.stages at ≡ b → Grows s o.after
    by true f = grows_not s o Word.Full (rw f at e)
    by false f = let same = rw f at e in grows_quietly s o.after _ (ap (λ (x : Outcome). x.after) same)

-- a tick is put
grows_tick : (s : Stepping) (r : ℕ) (o : Outcome) → AtUp (λ m a o. o ≡ ticks s r m a) s r o → Grows s o.after
grows_tick s r o ticked = grows_at (λ m a o. o ≡ ticks s r m a) s r o grows ticked where
  grows : (m : Machine) (a : Whole) → o ≡ ticks s r m a → Grows s o.after
  grows m a e = by (has_full_lane a) refl where
    by : (b : Bool) → has_full_lane a ≡ b → Grows s o.after
    by true f = grows_not s o Word.Full (rw f at e)
    by false f = let same = rw f at e in grows_quietly s o.after _ (ap (λ (x : Outcome). x.after) same)

-- a stage takes a step
grows_taken : (at : Stage) (s : Stepping) (r : ℕ) (o : Outcome) → Takes at s r o → Grows s o.after
grows_taken at s r o takes = grows_at (λ m a o. Acts (StepsOn at m a) s r o) s r o (λ m a acts. grows_acted (StepsOn at m a) s r o acts) takes

-- a life ends
grows_crashed : (s : Stepping) (r : ℕ) (o : Outcome) → AtUp (λ m a o. o ≡ crashes s r m a) s r o → Grows s o.after
grows_crashed s r o crashed =
    grows_at (λ m a o. o ≡ crashes s r m a) s r o (λ m a e. grows_quietly s o.after _ (ap (λ (x : Outcome). x.after) e)) crashed

-- a life begins
pub grows_started : (s : Stepping) (r : ℕ) (o : Outcome) → Starts s r o → Grows s o.after
grows_started s r o starts = by (slice_get s.machines r) starts where
  by : (found : Option Machine) → StartsIf s r found o → Grows s o.after
  by None e = grows_not s o Word.Up e
  by (Some m) (config, (is, acts)) = grows_acted (StartsOn config m m.running) s r o acts

-- a message is delivered
grows_delivered : (found : Option Sent) (s : Stepping) (r : ℕ) (o : Outcome) → Delivers found s r o → Grows s o.after
grows_delivered None s r o e = grows_not s o Word.Unsent e
grows_delivered (Some m) s r o h = grows_put stage.Protocol (LaneItem.Item (Item.Message m.from m.message)) s r o h

-- a line is run
grows_line : (line : Line) (s : Stepping) (o : Outcome) → ComesOf line s o → Grows s o.after
grows_line (Line.Cluster head) s o e = grows_not s o Word.Done e
grows_line (Line.Request r request) s o h = grows_put stage.Batch (LaneItem.Fed (Fed.Request request)) s r o h
grows_line (Line.Batch r) s o h = grows_taken stage.Batch s r o h
grows_line (Line.Tick r) s o h = grows_tick s r o h
grows_line (Line.Suspect r) s o h = grows_put stage.Protocol (LaneItem.Item Item.Suspect) s r o h
grows_line (Line.Deliver r m) s o h = grows_delivered (addressed r (slice_get s.sent m)) s r o h
grows_line (Line.Protocol r) s o h = grows_taken stage.Protocol s r o h
grows_line (Line.Service r) s o h = grows_taken stage.Service s r o h
grows_line (Line.Retransmit r) s o h = grows_taken stage.Retransmit s r o h
grows_line (Line.Crash r) s o h = grows_crashed s r o h
grows_line (Line.Start r) s o h = grows_started s r o h
grows_line Line.End s o e = grows_not s o Word.Done e

-- a run goes on by a line
pub happens_grows : (s : Stepping) (line : Line) (e : Event) (after : Stepping) → Happens s line e after → Grows s after
happens_grows s line e after h = grows_line line s (outcome_of e after) h.1

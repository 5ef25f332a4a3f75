-- What the calls of a machine come to, line by line.
use Rattle.std.proofs.Common.{◌≡◌, ◌≢◌, ◌∙◌, ℕ, Bool, true, false, List, [], ◌++◌, length, refl, sym, ap, subst, append-nil}
use Rattle.std.specs.Prelude.{Option, Some, None, Result, Ok, Err, IfOk, OnOk, slice_get, slice_set}
use Rattle.std.specs.Option.{option_map}
use Rattle.std.proofs.lemmas.List.{set-get_or}
use Rattle.std.proofs.lemmas.Option.{get_or_from_slice_get}
use Rattle.protocol_core.specs.declared.act.Act.{Act}
use Rattle.protocol_core.specs.declared.config.Config.{Config}
use Rattle.replica_node.specs.declared.stage.LaneItem.{LaneItem}
use Rattle.replica_node.specs.declared.stage.Stage.{Stage}
use Rattle.replica_node.specs.declared.stage.Stage.TheVariants as stage
use Rattle.replica_node.specs.declared.stages.Stages.{Stages}
use Rattle.replica_node.specs.Lanes.{is_full_at, after_put}
use Rattle.replica_node.specs.Whole.{Whole}
use Rattle.schedules.specs.declared.line.Word.{Word}
use Rattle.schedules.specs.declared.line.Word.TheVariants.{Done, Full, Down, Up}
use Rattle.jp_types.specs.declared.memory.NoMemory.{NoMemory}
use Rattle.cluster.specs.declared.machine.Answer.{Answer}
use Rattle.cluster.specs.declared.stepper.Shown.{Shown}
use Rattle.cluster.specs.Frames.{sent_by, shown_by}
use Rattle.cluster.specs.Machine.{Machine}
use Rattle.cluster.specs.declared.sent.Sent.{Sent}
use Rattle.cluster.specs.Machines.{after_tick, has_full_lane, StepsIf, StepsOn, StartsOn, with_lane_item, word_for_item, word_for_tick}
use Rattle.cluster.specs.Stepping.{acted, Acts, AtUp, IsConfigAt, OnMachine, OnUp, Outcome, Puts, puts, refused, replica_at, Starts, StartsIf, Stepping, Takes, ticks, with_machine}

-- a machine that is put back changes nothing
pub machine_kept : (s : Stepping) (r : ℕ) (m : Machine) → slice_get s.machines r ≡ Some m → with_machine s r m ≡ s
machine_kept s r m is =
    let there = get_or_from_slice_get s.machines r m m is in
    let same : slice_set s.machines r m ≡ s.machines = ap (λ (x : Machine). slice_set s.machines r x) (sym there) ∙ set-get_or s.machines r m in
    ap (λ (machines : List Machine). record s { machines = machines }) same

-- what is said of a replica, where its machine is this one
pub up_on_machine : (P : Machine → Whole → Outcome → Type 0) (s : Stepping) (r : ℕ) (o : Outcome) (m : Machine)
    → slice_get s.machines r ≡ Some m → OnUp P s m m.running o → AtUp P s r o
up_on_machine P s r o m is h = subst (λ (found : Option Machine). OnMachine P s found o) (sym is) h

-- and where there is none
pub no_machine : (P : Machine → Whole → Outcome → Type 0) (s : Stepping) (r : ℕ) (o : Outcome)
    → slice_get s.machines r ≡ None → o ≡ refused Down s → AtUp P s r o
no_machine P s r o is h = subst (λ (found : Option Machine). OnMachine P s found o) (sym is) h

-- a full lane takes no item
pub full_lane_kept : (s : Stages) (at : Stage) (item : LaneItem) → is_full_at s at ≡ true → after_put s at item ≡ s
full_lane_kept s stage.Batch (LaneItem.Fed fed) full = rw full refl
full_lane_kept s stage.Batch (LaneItem.Item item) full = refl
full_lane_kept s stage.Batch (LaneItem.Decision d) full = refl
full_lane_kept s stage.Protocol (LaneItem.Fed fed) full = refl
full_lane_kept s stage.Protocol (LaneItem.Item item) full = rw full refl
full_lane_kept s stage.Protocol (LaneItem.Decision d) full = refl
full_lane_kept s stage.Service (LaneItem.Fed fed) full = refl
full_lane_kept s stage.Service (LaneItem.Item item) full = refl
full_lane_kept s stage.Service (LaneItem.Decision d) full = rw full refl
full_lane_kept s stage.Retransmit (LaneItem.Fed fed) full = refl
full_lane_kept s stage.Retransmit (LaneItem.Item item) full = refl
full_lane_kept s stage.Retransmit (LaneItem.Decision d) full = refl

-- what is shown where an item was handed to a machine
abbrev pub put_outcome : Stage → LaneItem → Stepping → ℕ → Machine → Option Whole → Outcome
put_outcome at item s r m up =
    record { word = word_for_item up at; steps = []; after = with_machine s r (record m { running = option_map (with_lane_item at item) up }) }

-- an item was handed to a machine
pub put_on : (at : Stage) (item : LaneItem) (s : Stepping) (r : ℕ) (m : Machine) (o : Outcome)
    → slice_get s.machines r ≡ Some m → o ≡ put_outcome at item s r m m.running → Puts at item s r o
put_on at item s r m o is comes = up_on_machine (λ m a o. o ≡ puts at item s r m a) s r o m is (by m.running refl comes) where
  full : (a : Whole) (b : Bool) → is_full_at a.stages at ≡ b → m.running ≡ Some a → put_outcome at item s r m (Some a) ≡ puts at item s r m a
  full a true e up =
      let kept : with_lane_item at item a ≡ a = ap (λ (stages : Stages). record a { stages = stages }) (full_lane_kept a.stages at item e) in
      let running : option_map (with_lane_item at item) (Some a) ≡ m.running = ap (λ (x : Whole). Some x) kept ∙ sym up in
      let machine : record m { running = option_map (with_lane_item at item) (Some a) } ≡ m = ap (λ (x : Option Whole). record m { running = x }) running in
      let after : with_machine s r (record m { running = option_map (with_lane_item at item) (Some a) }) ≡ s =
      ap (λ (x : Machine). with_machine s r x) machine ∙ machine_kept s r m is in
      let shown : record { word = Full; steps = []; after = with_machine s r (record m { running = option_map (with_lane_item at item) (Some a) }) } ≡ refused Full s =
      ap (λ (t : Stepping). record { word = Full; steps = []; after = t }) after in
      rw e shown
  full a false e up = rw e refl

  by : (up : Option Whole) → m.running ≡ up → o ≡ put_outcome at item s r m up → OnUp (λ m a o. o ≡ puts at item s r m a) s m up o
  by None e c =
      let machine : record m { running = None } ≡ m = ap (λ (x : Option Whole). record m { running = x }) (sym e) in
      c ∙ ap (λ (t : Stepping). record { word = Down; steps = []; after = t }) (ap (λ (x : Machine). with_machine s r x) machine ∙ machine_kept s r m is)
  by (Some a) e c = c ∙ full a (is_full_at a.stages at) refl e

-- an item finds no place, or no replica that is up
pub put_refused : (at : Stage) (item : LaneItem) (s : Stepping) (r : ℕ) (word : Word) (o : Outcome)
    → word ≡ word_for_item (replica_at s r) at → word ≢ Done → o ≡ refused word s → Puts at item s r o
put_refused at item s r word o is undone comes = by (slice_get s.machines r) refl where
  P : Machine → Whole → Outcome → Type 0
  P m a o = o ≡ puts at item s r m a

  full : (m : Machine) (a : Whole) (b : Bool) → is_full_at a.stages at ≡ b → replica_at s r ≡ Some a → o ≡ puts at item s r m a
  full m a true e up =
      let word_is : word ≡ Full = (let told = rw up at is in rw e at told) in
      let same : refused word s ≡ puts at item s r m a = rw e (ap (λ (w : Word). refused w s) word_is) in
      comes ∙ same
  full m a false e up = absurd (undone (let told = rw up at is in rw e at told))

  on : (m : Machine) (up : Option Whole) → m.running ≡ up → slice_get s.machines r ≡ Some m → OnUp (λ m a o. o ≡ puts at item s r m a) s m up o
  on m None e found =
      let none : replica_at s r ≡ None = rw found e in
      let down : word ≡ Down = rw none at is in
      comes ∙ ap (λ (w : Word). refused w s) down
  on m (Some a) e found =
      let some : replica_at s r ≡ Some a = rw found e in
      full m a (is_full_at a.stages at) refl some

  by : (found : Option Machine) → slice_get s.machines r ≡ found → AtUp (λ m a o. o ≡ puts at item s r m a) s r o
  by None e =
      let none : replica_at s r ≡ None = rw e refl in
      let down : word ≡ Down = rw none at is in
      no_machine (λ m a o. o ≡ puts at item s r m a) s r o e (comes ∙ ap (λ (w : Word). refused w s) down)
  by (Some m) e = up_on_machine (λ m a o. o ≡ puts at item s r m a) s r o m e (on m m.running refl e)

-- what is shown where a tick was handed to a machine
abbrev pub tick_outcome : Stepping → ℕ → Machine → Option Whole → Outcome
tick_outcome s r m up = record { word = word_for_tick up; steps = []; after = with_machine s r (record m { running = after_tick up }) }

-- a tick was handed to a machine
pub tick_on : (s : Stepping) (r : ℕ) (m : Machine) (o : Outcome)
    → slice_get s.machines r ≡ Some m → o ≡ tick_outcome s r m m.running → AtUp (λ m a o. o ≡ ticks s r m a) s r o
tick_on s r m o is comes = up_on_machine (λ m a o. o ≡ ticks s r m a) s r o m is (by m.running refl comes) where
  kept : (word : Word) (up : Option Whole) → m.running ≡ up → record { word = word; steps = []; after = with_machine s r (record m { running = up }) } ≡ refused word s
  kept word up e =
      let machine : record m { running = up } ≡ m = ap (λ (x : Option Whole). record m { running = x }) (sym e) in
      ap (λ (t : Stepping). record { word = word; steps = []; after = t }) (ap (λ (x : Machine). with_machine s r x) machine ∙ machine_kept s r m is)

  full : (a : Whole) (b : Bool) → has_full_lane a ≡ b → m.running ≡ Some a → tick_outcome s r m (Some a) ≡ ticks s r m a
  full a true e up = rw e (kept Full (Some a) up)
  full a false e up = rw e refl

  by : (up : Option Whole) → m.running ≡ up → o ≡ tick_outcome s r m up → OnUp (λ m a o. o ≡ ticks s r m a) s m up o
  by None e c = c ∙ kept Down None e
  by (Some a) e c = c ∙ full a (has_full_lane a) refl e

-- nothing was done on a machine
pub acted_nothing : (s : Stepping) (r : ℕ) (m : Machine) (word : Word) → slice_get s.machines r ≡ Some m → acted s r word [] m ≡ refused word s
acted_nothing s r m word is =
    let sent : acted s r word [] m ≡ record { word = word; steps = []; after = with_machine s r m } =
    ap (λ (sent : List Sent). record { word = word; steps = []; after = record { head = s.head; machines = slice_set s.machines r m; sent = sent } }) (append-nil s.sent) in
    sent ∙ ap (λ (t : Stepping). record { word = word; steps = []; after = t }) (machine_kept s r m is)

-- a stage on a machine took a step
pub take_on : (at : Stage) (s : Stepping) (r : ℕ) (m : Machine) (word : Word) (acts : List Act) (new : Machine) (o : Outcome)
    → slice_get s.machines r ≡ Some m → StepsIf at m m.running word acts new → o ≡ acted s r word acts new → Takes at s r o
take_on at s r m word acts new o is does comes = up_on_machine (λ m a o. Acts (StepsOn at m a) s r o) s r o m is (by m.running does) where
  by : (up : Option Whole) → StepsIf at m up word acts new → OnUp (λ m a o. Acts (StepsOn at m a) s r o) s m up o
  by None (w, a, n) =
      let same : acted s r word acts new ≡ acted s r Down [] m = rw (w, a, n) refl in
      comes ∙ same ∙ acted_nothing s r m Down is
  by (Some a) steps = record { word = word; acts = acts; machine = new; does = steps; comes = comes }

-- a life began on a machine, or might not
pub start_on : (config : Config) (s : Stepping) (r : ℕ) (m : Machine) (word : Word) (acts : List Act) (new : Machine) (o : Outcome)
    → IsConfigAt s.head r config → slice_get s.machines r ≡ Some m → StartsOn config m m.running word acts new → o ≡ acted s r word acts new → Starts s r o
start_on config s r m word acts new o constants is does comes =
    let acted_so : StartsIf s r (Some m) o = (config, (constants, record { word = word; acts = acts; machine = new; does = does; comes = comes })) in
    subst (λ (found : Option Machine). StartsIf s r found o) (sym is) acted_so

-- and there is no such machine
pub start_nowhere : (s : Stepping) (r : ℕ) (o : Outcome) → slice_get s.machines r ≡ None → o ≡ refused Up s → Starts s r o
start_nowhere s r o is comes = subst (λ (found : Option Machine). StartsIf s r found o) (sym is) comes

-- ---- What is shown of them

-- a stage took a step, which is shown
pub take_shown : (at : Stage) (s : Stepping) (r : ℕ) (m : Machine) (did : Answer) (new : Machine) (after : Stepping) (result : Result Shown NoMemory)
    → slice_get s.machines r ≡ Some m → StepsIf at m m.running did.word did.acts new
    → IfOk result (λ shown. shown ≡ record { word = did.word; steps = shown_by (length s.sent) did.acts })
    → OnOk result (after ≡ record { head = s.head; machines = slice_set s.machines r new; sent = s.sent ++ sent_by r did.acts })
    → IfOk result (λ shown. Takes at s r (record { word = shown.word; steps = shown.steps; after = after }))
take_shown at s r m did new after (Ok shown) found does shown_is after_is =
    let comes : record { word = shown.word; steps = shown.steps; after = after } ≡ acted s r did.word did.acts new =
    ap (λ (x : Shown). record { word = x.word; steps = x.steps; after = after }) shown_is
    ∙ ap (λ (t : Stepping). record { word = did.word; steps = shown_by (length s.sent) did.acts; after = t }) after_is in
    take_on at s r m did.word did.acts new (record { word = shown.word; steps = shown.steps; after = after }) found does comes
take_shown at s r m did new after (Err e) found does shown_is after_is = tt

-- a life began, or did not, which is shown
pub start_shown : (config : Config) (s : Stepping) (r : ℕ) (m : Machine) (did : Answer) (new : Machine) (after : Stepping) (result : Result Shown NoMemory)
    → IsConfigAt s.head r config → slice_get s.machines r ≡ Some m → StartsOn config m m.running did.word did.acts new
    → IfOk result (λ shown. shown ≡ record { word = did.word; steps = shown_by (length s.sent) did.acts })
    → OnOk result (after ≡ record { head = s.head; machines = slice_set s.machines r new; sent = s.sent ++ sent_by r did.acts })
    → IfOk result (λ shown. Starts s r (record { word = shown.word; steps = shown.steps; after = after }))
start_shown config s r m did new after (Ok shown) constants found does shown_is after_is =
    let comes : record { word = shown.word; steps = shown.steps; after = after } ≡ acted s r did.word did.acts new =
    ap (λ (x : Shown). record { word = x.word; steps = x.steps; after = after }) shown_is
    ∙ ap (λ (t : Stepping). record { word = did.word; steps = shown_by (length s.sent) did.acts; after = t }) after_is in
    start_on config s r m did.word did.acts new (record { word = shown.word; steps = shown.steps; after = after }) constants found does comes
start_shown config s r m did new after (Err e) constants found does shown_is after_is = tt

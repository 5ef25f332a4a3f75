-- Snapshots of the own service are kept, and those of others installed from their parts, as in the model.
use Rattle.std.proofs.Common.{◌≡◌, ℕ, ◌≤◌, ◌<◌, ◌^◌, Bool, true, false, ◌&&◌, not, List, ◌∷◌, length, ◌==◌, nat_le, nat_lt, Option, Some, None, if◌then◌else◌, refl, le_refl, sym, ap, subst, ◌∙◌, arith}
use Rattle.std.specs.Option.{option_map}
use Rattle.jp_types.specs.declared.message.SnapshotPart.{SnapshotPart}
use Rattle.jp_types.specs.Instances.{span}
use Rattle.kv_service.specs.Service.{State}
use Rattle.kv_service.specs.StateReading.{state_in}
use Rattle.kv_service.specs.Parts.{Joiner, part_size, takes_part, with_part, is_joined, joined_bytes}
use Rattle.snapshots.specs.declared.joiner.PartFault.{PartFault}
use Rattle.snapshots.specs.Joining.{part_fault, whole_of}
use Rattle.snapshots.proofs.Refusing.{is_taken, not_taken}
use Rattle.std.proofs.lemmas.Bool.Decides.{nat_tests}
use Rattle.paxos_world.specs.Stage.{Stage, setup_of}
use Rattle.paxos_world.specs.Stage as model
use Rattle.paxos_world.specs.Writing.{when, with_stage, ◌▹◌, when_some}
use Rattle.paxos_world.specs.Logs as logs
use Rattle.paxos_world.specs.CatchingUp as catching
use Rattle.replica_log.specs.Log.{first_undecided, above}
use Rattle.core_laws.proofs.LogLemmas.{logs_are_read}
use Rattle.protocol_core.specs.declared.life.Life.{Life}
use Rattle.protocol_core.specs.CatchingUp as catching_up
use Rattle.protocol_core.specs.Turned.{stay}
use Rattle.protocol_laws.specs.Keeping.{IsJoiner, Cores, life_in, snapshot_of}
use Rattle.protocol_laws.specs.Following.{Follows}
use Rattle.protocol_laws.proofs.Goes.{GoesSnapshot, GoesPart}
use Rattle.protocol_laws.proofs.Steps.{stays, changes, chooses, chooses-alike, and-then}
use Rattle.paxos_world.specs.Retransmitting.{free_armed}
use Rattle.replica_log.proofs.Scanning.{scans}
use Rattle.protocol_laws.proofs.Parts.{wanted-alike, joiner-alike, joiner-fits, with-fits, whole-fits}
use Rattle.protocol_laws.proofs.Same.{cut-cores, other-cores}

-- ---- Snapshots of the own service

-- both of two tests pass where they pass together
both-true : (a b : Bool) → (a && b) ≡ true → (a ≡ true) × (b ≡ true)
both-true true b e = (refl, e)
both-true false b e = absurd cc

-- a snapshot's place is the model's
place-alike : (newest : Option model.Snapshot) → catching_up.place_of (option_map snapshot_of newest) ≡ catching.place_of newest
place-alike None = refl
place-alike (Some snapshot) = refl

-- a snapshot of the own service is taken where the model takes it
taken-alike : (s : Stage) (c : Cores s) (upto : ℕ) → catching_up.is_taken (life_in s c) upto ≡ (nat_lt (catching.place_of s.newest) upto && nat_le upto (logs.first_undecided s))
taken-alike s c upto =
    let place = place-alike s.newest in
    let first = (logs_are_read s c.log c.kept).first_undecided in
    let base = c.kept.base in
    let low = c.fit.base in
    let covers : nat_le c.log.base (catching.place_of s.newest) ≡ true = grind (arith, nat_tests) in
    ap (λ (p : ℕ). nat_le c.log.base p && nat_lt p upto && nat_le upto (first_undecided c.log)) place
    ∙ ap (λ (b : Bool). b && nat_lt (catching.place_of s.newest) upto && nat_le upto (first_undecided c.log)) covers
    ∙ ap (λ (k : ℕ). nat_lt (catching.place_of s.newest) upto && nat_le upto k) first

-- a snapshot of the own service is kept as the model keeps it
pub goes-snapshot : GoesSnapshot
goes-snapshot upto bytes t c h =
    subst (λ (b : Bool). Follows t (catching.on_snapshot upto bytes t) (stay (if b then catching_up.with_snapshot life upto bytes else life)))
    (sym (taken-alike s c upto)) (go (nat_lt (catching.place_of s.newest) upto && nat_le upto (logs.first_undecided s)) refl)
  where
    s : Stage
    s = t.stage

    life : Life
    life = life_in s c

    snapshot : model.Snapshot
    snapshot = record { place = upto; bytes = bytes; installed = false }

    takes : model.Turned → model.Turned
    takes = with_stage (λ s. record s { base = catching.place_of s.newest; newest = Some (record { place = upto; bytes = bytes; installed = false }) })

    go : (b : Bool) → (nat_lt (catching.place_of s.newest) upto && nat_le upto (logs.first_undecided s)) ≡ b
        → Follows t (when b takes t) (stay (if b then catching_up.with_snapshot life upto bytes else life))
    go true e =
        let first = (both-true (nat_lt (catching.place_of s.newest) upto) (nat_le upto (logs.first_undecided s)) e).0 in
        let up : catching.place_of s.newest ≤ upto = grind (arith, nat_tests) in
        let cores = cut-cores s c (catching.place_of s.newest) snapshot s.life.below s.life.installed s.slots s.armed_query c.fit.base up h.1 (λ f. h.0) in
        changes t (takes t) (catching_up.with_snapshot life upto bytes) refl
        (record { cores = cores; is = ap (λ (p : ℕ). record life { log = above life.log p; newest = Some (snapshot_of snapshot) }) (place-alike s.newest) }) refl refl refl refl
    go false e = stays t c

-- the first of two tests passes and the second does not, where they tell so together
and-not : (a b : Bool) → (a && not b) ≡ true → (a ≡ true) × (b ≡ false)
and-not true true e = absurd cc
and-not true false e = (refl, refl)
and-not false b e = absurd cc

-- ---- Installing

-- the first undecided instance is not below the base
undecided-above : (s : Stage) → s.base ≤ logs.first_undecided s
unfolding logs.first_undecided
undecided-above s = (scans span s.life.known s.base).low

-- a snapshot is installed as the model installs it
installs-alike : (upto : ℕ) (bytes : List ℕ) (state : State) (t : model.Turned) (c : Cores t.stage) → nat_lt (logs.first_undecided t.stage) upto ≡ true → length bytes ≤ 2 ^ 28
    → Follows t (catching.installs upto bytes state t) (catching_up.installed (life_in t.stage c) upto bytes)
installs-alike upto bytes state t c e le =
    let s = t.stage in
    let over = undecided-above s in
    let past : logs.first_undecided s < upto = grind (arith, nat_tests) in
    let up : s.base ≤ upto = omega arith in
    let snapshot : model.Snapshot = record { place = upto; bytes = bytes; installed = true } in
    record {
      config = refl;
      keeps = record { cores = cut-cores s c upto snapshot upto (state ∷ s.life.installed) (free_armed s.slots s.armed_query) None up (le_refl _) le (λ f. absurd cc); is = refl };
      acts = refl;
      arming = refl;
      sends = tt;
      handed = le_refl _;
      hands = tt;
      service = refl;
    }

-- joined bytes are installed where the model installs them
installs-if-alike : (upto : ℕ) (bytes : List ℕ) (o : Option State) (t : model.Turned) (c : Cores t.stage) → nat_lt (logs.first_undecided t.stage) upto ≡ true → length bytes ≤ 2 ^ 28
    → Follows t (when_some o (catching.installs_if upto bytes) t) (if catching_up.is_state_at upto o then catching_up.installed (life_in t.stage c) upto bytes else stay (life_in t.stage c))
installs-if-alike upto bytes None t c e le = stays t c
installs-if-alike upto bytes (Some state) t c e le =
    chooses (state.executed == upto) (catching.installs upto bytes state) t (catching_up.installed (life_in t.stage c) upto bytes) (stay (life_in t.stage c)) (λ y. installs-alike upto bytes state t c e le) (λ n. stays t c)

-- ---- Parts that are put in

-- a joiner is kept as the model keeps it
keeps-alike : (joiner : Option Joiner) (t : model.Turned) (c : Cores t.stage) → ((j : Joiner) → joiner ≡ Some j → IsJoiner j)
    → Follows t (catching.keeps_joiner joiner t) (stay (record (life_in t.stage c) { joiner = joiner }))
keeps-alike joiner t c fits =
    let s = t.stage in
    changes t (catching.keeps_joiner joiner t) (record (life_in t.stage c) { joiner = joiner }) refl (record { cores = other-cores s c s.waiting joiner s.handed s.slots s.armed_query fits (le_refl _); is = refl }) refl refl refl refl

-- where the joiner is this one, which is within the limits, it is so
one-fits : (joiner : Joiner) → IsJoiner joiner → (j : Joiner) → Some joiner ≡ Some j → IsJoiner j
one-fits joiner h j e = let same : joiner ≡ j = cc in subst IsJoiner same h

-- where there is no joiner, none is past the limits
none-fits : (j : Joiner) → None ≡ Some j → IsJoiner j
none-fits j e = absurd cc

-- ---- Joining

-- a joiner is no part of what is known
undecided-joining : (s : Stage) (joiner : Option Joiner) → logs.first_undecided (record s { joiner = joiner }) ≡ logs.first_undecided s
unfolding logs.first_undecided
undecided-joining s joiner = refl

-- a joiner with one part more is kept, or its bytes are installed, as the model has it
has-part-alike : (j : Joiner) (upto : ℕ) (t : model.Turned) (c : Cores t.stage) → j.upto ≡ upto → IsJoiner j → nat_lt (logs.first_undecided t.stage) upto ≡ true
    → Follows t (catching.has_part j t) (catching_up.joined (life_in t.stage c) upto j (whole_of j))
has-part-alike j upto t c at h e = go (is_joined j) refl
  where
    whole : model.Turned → model.Turned
    whole = λ t. t ▹ catching.keeps_joiner None ▹ when_some (state_in (joined_bytes j)) (catching.installs_if j.upto (joined_bytes j))

    joins : is_joined j ≡ true → Follows t (whole t) (catching_up.installed_if (record (life_in t.stage c) { joiner = None }) upto (joined_bytes j))
    joins full =
        let u = catching.keeps_joiner None t in
        let v : model.Turned = when_some (state_in (joined_bytes j)) (catching.installs_if upto (joined_bytes j)) u in
        let one = keeps-alike None t c none-fits in
        let two = installs-if-alike upto (joined_bytes j) (state_in (joined_bytes j)) u one.keeps.cores (ap (λ (k : ℕ). nat_lt k upto) (undecided-joining t.stage None) ∙ e) (whole-fits j h full) in
        let both = and-then t u v (stay (record (life_in t.stage c) { joiner = None })) (λ (l : Life). catching_up.installed_if l upto (joined_bytes j)) one two in
        subst (λ (k : ℕ). Follows t (when_some (state_in (joined_bytes j)) (catching.installs_if k (joined_bytes j)) u) (catching_up.installed_if (record (life_in t.stage c) { joiner = None }) upto (joined_bytes j))) (sym at) both

    go : (b : Bool) → is_joined j ≡ b
        → Follows t (t ▹ when (not b) (catching.keeps_joiner (Some j)) ▹ when b whole) (catching_up.joined (life_in t.stage c) upto j (if b then Some (joined_bytes j) else None))
    go true full = joins full
    go false part = keeps-alike (Some j) t c (one-fits j h)

-- a part is put in, or refused, as the model has it
puts-alike : (j : Joiner) (m : SnapshotPart) (t : model.Turned) (c : Cores t.stage) → j.upto ≡ m.upto → IsJoiner j → length m.bytes ≤ part_size → nat_lt (logs.first_undecided t.stage) m.upto ≡ true
    → Follows t (catching.puts_part j m t) (catching_up.part_put (life_in t.stage c) j m)
puts-alike j m t c at h le e = by (part_fault j m) refl
  where
    so : (b : Bool) (o : Option PartFault)
        → Follows t (t ▹ when b (catching.has_part (with_part j m)) ▹ when (not b) (catching.keeps_joiner (Some j))) (catching_up.joined (life_in t.stage c) m.upto (catching_up.after_part o j m) (catching_up.joined_by o j m))
        → takes_part j m ≡ b → Follows t (catching.puts_part j m t) (catching_up.joined (life_in t.stage c) m.upto (catching_up.after_part o j m) (catching_up.joined_by o j m))
    so b o f is =
        subst (λ (x : Bool). Follows t (t ▹ when x (catching.has_part (with_part j m)) ▹ when (not x) (catching.keeps_joiner (Some j))) (catching_up.joined (life_in t.stage c) m.upto (catching_up.after_part o j m) (catching_up.joined_by o j m)))
        (sym is) f

    by : (o : Option PartFault) → part_fault j m ≡ o → Follows t (catching.puts_part j m t) (catching_up.joined (life_in t.stage c) m.upto (catching_up.after_part o j m) (catching_up.joined_by o j m))
    by None f = so true None (has-part-alike (with_part j m) m.upto t c at (with-fits j m h le) e) (is_taken j m f)
    by (Some fault) f = so false (Some fault) (keeps-alike (Some j) t c (one-fits j h)) (not_taken j m fault f)

-- a part does what it does in the model
pub goes-part : GoesPart
goes-part m t c h =
    chooses-alike test (catching_up.is_wanted life m.upto) (catching.puts_part j m) t (catching_up.part_put life (catching_up.joiner_for life.joiner m) m) (stay life) (wanted-alike t.stage c m.upto)
    wanted (λ n. stays t c)
  where
    life : Life
    life = life_in t.stage c

    test : Bool
    test = nat_lt (logs.first_undecided t.stage) m.upto && not (catching.is_joining_above t.stage.joiner m.upto)

    j : Joiner
    j = catching.joiner_for t.stage.joiner m.upto m.total

    wanted : test ≡ true → Follows t (catching.puts_part j m t) (catching_up.part_put life (catching_up.joiner_for life.joiner m) m)
    wanted e =
        let both = and-not (nat_lt (logs.first_undecided t.stage) m.upto) (catching.is_joining_above t.stage.joiner m.upto) e in
        let alike = joiner-alike t.stage.joiner m both.1 in
        subst (λ (x : Joiner). Follows t (catching.puts_part j m t) (catching_up.part_put life x m)) (sym alike.0)
        (puts-alike j m t c alike.1 (joiner-fits t.stage.joiner m c.fit.joiner h.0) h.1 both.0)

-- Decisions are handed on as the model hands them on.
use Rattle.std.proofs.Common.{◌≡◌, ℕ, zero, suc, ◌≤◌, ◌<◌, Bool, true, false, ◌&&◌, nat_lt, Option, Some, None, if◌then◌else◌, refl, sym, ap, subst, ◌∙◌, le_refl, arith}
use Rattle.std.specs.FinMap as map
use Rattle.std.specs.Option.{option_map}
use Rattle.std.proofs.lemmas.Bool.Decides.{nat_tests}
use Rattle.jp_types.specs.Instances.{Batch}
use Rattle.kv_service.specs.Service.{State}
use Rattle.kv_service.specs.StateReading.{state_in}
use Rattle.paxos_world.specs.Stage.{Stage}
use Rattle.paxos_world.specs.Stage as model
use Rattle.paxos_world.specs.Writing.{◌▹◌, when_some, with_stage, hands}
use Rattle.paxos_world.specs.CatchingUp.{place_of}
use Rattle.paxos_world.specs.Settling as settling
use Rattle.service_manager.specs.declared.decision.Decision.{Decision}
use Rattle.protocol_core.specs.declared.life.Life.{Life}
use Rattle.protocol_core.specs.declared.life.Snapshot.{Snapshot}
use Rattle.protocol_core.specs.Settling as settles
use Rattle.protocol_laws.specs.Acting.{model_decision}
use Rattle.protocol_laws.specs.Keeping.{IsFit, Cores, life_in, snapshot_of}
use Rattle.protocol_laws.specs.Coming.{place_behind}
use Rattle.protocol_laws.specs.Following.{Follows}
use Rattle.protocol_laws.proofs.Goes.{GoesHanding}
use Rattle.protocol_laws.proofs.Steps.{stays, and-then}
use Rattle.protocol_laws.proofs.Same.{other-cores}

-- ---- What is handed on

-- a decision to hand on, as the model has it
abbrev handing_as : settles.Handing → settling.Handing
handing_as h = (model_decision h.0, h.1)

-- the installed snapshot above `handed` is the model's
above-alike : (newest : Option model.Snapshot) (handed : ℕ) → settles.install_above (option_map snapshot_of newest) handed ≡ option_map snapshot_of (settling.install_above newest handed)
above-alike None handed = refl
above-alike (Some snapshot) handed = by (snapshot.installed && nat_lt handed snapshot.place)
  where
    by : (b : Bool) → (if b then Some (snapshot_of snapshot) else None) ≡ option_map snapshot_of (if b then Some snapshot else None)
    by true = refl
    by false = refl

-- where no installed snapshot lies above `handed`, the base does not
base-below : (s : Stage) → IsFit s → settling.install_above s.newest s.handed ≡ None → s.base ≤ s.handed
base-below s h none = go s.newest refl none
  where
    go : (o : Option model.Snapshot) → s.newest ≡ o → settling.install_above o s.handed ≡ None → s.base ≤ s.handed
    go None e n = let low : s.base ≤ place_of None = subst (λ (x : Option model.Snapshot). s.base ≤ place_of x) e h.base in omega arith
    go (Some snapshot) e n = by snapshot.installed refl
      where
        low : s.base ≤ snapshot.place
        low = subst (λ (x : Option model.Snapshot). s.base ≤ place_of x) e h.base

        test : (b : Bool) → (if b then Some snapshot else None) ≡ None → b ≡ false
        test false f = refl
        test true f = absurd cc

        by : (b : Bool) → snapshot.installed ≡ b → s.base ≤ s.handed
        by false f = let own = (h.newest snapshot e).own f in let at = low in omega arith
        by true f =
            let off = test (snapshot.installed && nat_lt s.handed snapshot.place) n in
            let past : nat_lt s.handed snapshot.place ≡ false = ap (λ (b : Bool). b && nat_lt s.handed snapshot.place) (sym f) ∙ off in
            let le : snapshot.place ≤ s.handed = grind (arith, nat_tests) in
            let at = low in
            omega arith

-- the Installed of a snapshot
install-alike : (snapshot : model.Snapshot) (o : Option State)
    → option_map handing_as (option_map (λ state. (Decision.Install snapshot.place state, snapshot.place)) o) ≡ option_map (λ state. (model.Installed snapshot.place state, snapshot.place)) o
install-alike snapshot None = refl
install-alike snapshot (Some state) = refl

-- the Decided of a batch
decided-alike : (handed : ℕ) (o : Option Batch)
    → option_map handing_as (option_map (λ batch. (Decision.Decided handed batch, suc handed)) o) ≡ option_map (λ batch. (model.Decided handed batch, suc handed)) o
decided-alike handed None = refl
decided-alike handed (Some batch) = refl

-- what is handed on next is the model's
next-alike : (s : Stage) (c : Cores s) → option_map handing_as (settles.next_handing (life_in s c)) ≡ settling.next_handing s
next-alike s c =
    ap (λ (o : Option Snapshot). option_map handing_as (settles.handing_of o (life_in s c))) (above-alike s.newest s.handed)
    ∙ go (settling.install_above s.newest s.handed) refl
  where
    go : (o : Option model.Snapshot) → settling.install_above s.newest s.handed ≡ o → option_map handing_as (settles.handing_of (option_map snapshot_of o) (life_in s c)) ≡ settling.handing_of o s
    go None e =
        let known = c.kept.known s.handed (base-below s c.fit e) in
        ap (λ (o : Option Batch). option_map handing_as (option_map (λ batch. (Decision.Decided s.handed batch, suc s.handed)) o)) known ∙ decided-alike s.handed (s.life.known s.handed)
    go (Some snapshot) e = install-alike snapshot (state_in snapshot.bytes)

-- an Install takes `handed` to the snapshot's place
past-installed : (snapshot : Snapshot) (o : Option State) (h : settles.Handing) → option_map (λ state. (Decision.Install snapshot.place state, snapshot.place)) o ≡ Some h → h.1 ≡ snapshot.place
past-installed snapshot None h e = absurd cc
past-installed snapshot (Some state) h e = let same : (Decision.Install snapshot.place state, snapshot.place) ≡ h = cc in ap (λ (x : settles.Handing). x.1) (sym same)

-- a Decided takes `handed` one further
past-decided : (handed : ℕ) (o : Option Batch) (h : settles.Handing) → option_map (λ batch. (Decision.Decided handed batch, suc handed)) o ≡ Some h → h.1 ≡ suc handed
past-decided handed None h e = absurd cc
past-decided handed (Some batch) h e = let same : (Decision.Decided handed batch, suc handed) ≡ h = cc in ap (λ (x : settles.Handing). x.1) (sym same)

-- an installed snapshot to hand on lies above `handed`
above-is : (newest : Option Snapshot) (handed : ℕ) (snapshot : Snapshot) → settles.install_above newest handed ≡ Some snapshot → handed < snapshot.place
above-is None handed snapshot e = absurd cc
above-is (Some found) handed snapshot e = by found.installed (nat_lt handed found.place) refl e
  where
    by : (a b : Bool) → nat_lt handed found.place ≡ b → (if a && b then Some found else None) ≡ Some snapshot → handed < snapshot.place
    by true true f g = let same : found ≡ snapshot = cc in let lt : handed < found.place = grind (arith, nat_tests) in subst (λ (x : Snapshot). handed < x.place) same lt
    by true false f g = absurd cc
    by false b f g = absurd cc

-- an Install lies below its own place
behind-installed : (snapshot : Snapshot) (o : Option State) (h : settles.Handing) → option_map (λ state. (Decision.Install snapshot.place state, snapshot.place)) o ≡ Some h → place_behind h.0 ≤ h.1
behind-installed snapshot None h e = absurd cc
behind-installed snapshot (Some state) h e = let same : (Decision.Install snapshot.place state, snapshot.place) ≡ h = cc in subst (λ (x : settles.Handing). place_behind x.0 ≤ x.1) same (le_refl _)

-- a Decided lies below the instance after it
behind-decided : (handed : ℕ) (o : Option Batch) (h : settles.Handing) → option_map (λ batch. (Decision.Decided handed batch, suc handed)) o ≡ Some h → place_behind h.0 ≤ h.1
behind-decided handed None h e = absurd cc
behind-decided handed (Some batch) h e = let same : (Decision.Decided handed batch, suc handed) ≡ h = cc in subst (λ (x : settles.Handing). place_behind x.0 ≤ x.1) same (le_refl _)

-- a decision to hand on lies below the new `handed`
behind : (life : Life) (h : settles.Handing) → settles.next_handing life ≡ Some h → place_behind h.0 ≤ h.1
behind life h e = go (settles.install_above life.newest life.handed) e
  where
    go : (o : Option Snapshot) → settles.handing_of o life ≡ Some h → place_behind h.0 ≤ h.1
    go None g = behind-decided life.handed (map.get life.log.known life.handed) h g
    go (Some snapshot) g = behind-installed snapshot (state_in snapshot.bytes) h g

-- `handed` only rises
rises : (life : Life) (h : settles.Handing) → settles.next_handing life ≡ Some h → life.handed ≤ h.1
rises life h e = go (settles.install_above life.newest life.handed) refl e
  where
    go : (o : Option Snapshot) → settles.install_above life.newest life.handed ≡ o → settles.handing_of o life ≡ Some h → life.handed ≤ h.1
    go None f g = let is = past-decided life.handed (map.get life.log.known life.handed) h g in omega arith
    go (Some snapshot) f g =
        let is = past-installed snapshot (state_in snapshot.bytes) h g in
        let lt = above-is life.newest life.handed snapshot f in
        omega arith

-- ---- Handing on

-- a decision is handed on as the model hands it on
hands-one : (t : model.Turned) (c : Cores t.stage) (h : settles.Handing) → t.stage.handed ≤ h.1 → place_behind h.0 ≤ h.1
    → Follows t (t ▹ with_stage (λ s. record s { handed = h.1 }) ▹ hands (model_decision h.0)) (settles.handed_on (life_in t.stage c) h)
hands-one t c h le behind =
    let s = t.stage in
    record { config = refl; keeps = record { cores = other-cores s c s.waiting s.joiner h.1 s.slots s.armed_query c.fit.joiner le; is = refl }; acts = refl; arming = refl; sends = tt; handed = le; hands = (behind, tt); service = refl }

-- decisions are handed on as the model hands them on
pub goes-handing : GoesHanding
goes-handing zero t c = stays t c
goes-handing (suc room) t c =
    subst (λ (o : Option settling.Handing). Follows t (when_some o (λ handing t. settling.hands_on room (t ▹ with_stage (λ s. record s { handed = handing.1 }) ▹ hands handing.0)) t) (settles.settled_handing (suc room) (life_in t.stage c)))
    (next-alike t.stage c) (go (settles.next_handing (life_in t.stage c)) refl (goes-handing room))
  where
    go : (o : Option settles.Handing) → settles.next_handing (life_in t.stage c) ≡ o
        → ((t : model.Turned) (c : Cores t.stage) → Follows t (settling.hands_on room t) (settles.settled_handing room (life_in t.stage c)))
        → Follows t (when_some (option_map handing_as o) (λ handing t. settling.hands_on room (t ▹ with_stage (λ s. record s { handed = handing.1 }) ▹ hands handing.0)) t)
        (settles.handed_then o (life_in t.stage c) (settles.settled_handing room))
    go None e rest = stays t c
    go (Some h) e rest =
        let one = hands-one t c h (rises (life_in t.stage c) h e) (behind (life_in t.stage c) h e) in
        let u : model.Turned = t ▹ with_stage (λ s. record s { handed = h.1 }) ▹ hands (model_decision h.0) in
        and-then t u (settling.hands_on room u) (settles.handed_on (life_in t.stage c) h) (settles.settled_handing room) one (rest u one.keeps.cores)

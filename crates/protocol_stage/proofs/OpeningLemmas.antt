-- With which number on the disk a life begins, and with which it goes on.
use Rattle.std.proofs.Common.{◌≡◌, ◌⊎◌, inl, inr, ⊎_elim, ℕ, suc, ◌+◌, ◌<◌, ◌==◌, Bool, true, false, List, nat_le, Option, Some, None, if◌then◌else◌, refl, sym, ap, ◌∙◌, subst, arith}
use Rattle.std.specs.Option.{option_map}
use Rattle.jp_types.specs.declared.mode.Mode.{Mode}
use Rattle.jp_types.specs.declared.mode.Mode.TheVariants.{ViewSs, EpochSs}
use Rattle.jp_types.specs.Marks.{first_mark, return_mark, view_at_return}
use Rattle.jp_types.specs.declared.mode.Phase.TheVariants.{Recovering, Working}
use Rattle.jp_types.specs.Views.{leader, number_if, number_limit}
use Rattle.recovery.specs.declared.begin.Started.{Started}
use Rattle.recovery.specs.Beginning.{begun, started}
use Rattle.protocol_core.specs.declared.config.Config.{Config}
use Rattle.protocol_stage.specs.declared.protocol.StartFault.{StartFault}
use Rattle.protocol_core.specs.declared.starting.StartFault.{StartFault as LifeFault}
use Rattle.protocol_stage.specs.Performing.{LoadsOneOf, raised_number, stored_after}
use Rattle.protocol_stage.specs.Running.{IsSteady, LoadsAtOpening, Opens, fault_of_life}
use Rattle.protocol_core.specs.Starting.{IsSpent, new_life, opened, opening}
use Rattle.protocol_core.specs.Turned.{Turned}
use Rattle.protocol_stage.proofs.QuietLemmas.{quiet_opened}

-- a number that is given where a test passes is that number
given_is : (b : Bool) (x y : ℕ) → number_if b x ≡ Some y → x ≡ y
given_is true x y e = cc
given_is false x y e = absurd cc

above_if : (b : Bool) (k : ℕ) → k < (if b then k + 2 else k + 1)
above_if true k = omega arith
above_if false k = omega arith

-- the mark of a later start is above the number that was found
return_above : (mode : Mode) (n me k mark : ℕ) → return_mark mode n me k ≡ Some mark → k < mark
return_above ViewSs n me k mark e =
    let next = if leader n (k + 1) == me then k + 2 else k + 1 in
    let is : next ≡ mark = given_is (nat_le next number_limit) next mark e in
    subst (λ (m : ℕ). k < m) is (above_if (leader n (k + 1) == me) k)
return_above EpochSs n me k mark e = let is : suc k ≡ mark = given_is (nat_le (suc k) number_limit) (suc k) mark e in omega (arith, is)

-- of what is mapped from an option
mapped_from : {X Y : Type 0} (f : X → Y) (o : Option X) (y : Y) → option_map f o ≡ Some y → (x : X) × (o ≡ Some x) × (f x ≡ y)
mapped_from f None y e = absurd cc
mapped_from f (Some x) y e = (x, refl, cc)

-- the first number that a life saves is above the one that was found
begun_above : (config : Config) (stored : Option ℕ) (s : Started) → begun config.mode config.me config.n stored ≡ Some s → raised_number stored s.mark ≡ s.mark
begun_above config None s e = refl
begun_above config (Some k) s e =
    let from = mapped_from (λ mark. started config.mode config.me mark Recovering (view_at_return config.mode mark)) (return_mark config.mode config.n config.me k) s e in
    let is : from.0 ≡ s.mark = ap (λ (t : Started). t.mark) from.2 in
    let above = return_above config.mode config.n config.me k from.0 from.1 in
    omega (arith, is, above)

opened_stores : (config : Config) (stored : Option ℕ) (s : Started) → raised_number stored s.mark ≡ s.mark
    → (stored_after stored (opened config s).acts ≡ Some (opened config s).life.stable) × IsSteady (opened config s).life
opened_stores config stored s raised =
    let life = new_life config s in
    let q = quiet_opened s.phase life in (
      q.nothing (Some (raised_number stored s.mark)) ∙ ap (λ (n : ℕ). Some n) (raised ∙ sym q.stable_is),
      λ r. let m = q.mark_is in let n = q.stable_is in omega (arith, m, n),
    )

-- the number that a life saves first is its stable number
pub opening_stores : (config : Config) (stored : Option ℕ) (t : Turned) → Opens config stored t → (stored_after stored t.acts ≡ Some t.life.stable) × IsSteady t.life
opening_stores config stored t e =
    let from = mapped_from (opened config) (begun config.mode config.me config.n stored) t e in
    subst (λ (u : Turned). (stored_after stored u.acts ≡ Some u.life.stable) × IsSteady u.life) from.2 (opened_stores config stored from.0 (begun_above config stored from.0 from.1))

-- an image that loads the number found or the one saved is one that the opening may leave
pub at_opening : (config : Config) (stored : Option ℕ) (t : Turned) → Opens config stored t → (image : List ℕ) → LoadsOneOf stored (Some t.life.stable) image → LoadsAtOpening config stored image
at_opening config stored t e image loads = record { one = ⊎_elim (λ l. inl l) (λ l. inr (t, e, l)) loads }

-- a life begins from a number, or the number is spent
opens_or_spent : (config : Config) (stored : Option ℕ) → ((t : Turned) × Opens config stored t) ⊎ ((number : ℕ) × IsSpent config stored number)
opens_or_spent config None = inl (opened config (started config.mode config.me (first_mark config.mode) Working 0), refl)
opens_or_spent config (Some k) = by (opening config (Some k)) refl
  where
    by : (o : Option Turned) → opening config (Some k) ≡ o → ((t : Turned) × Opens config (Some k) t) ⊎ ((number : ℕ) × IsSpent config (Some k) number)
    by None e = inr (k, record { held = refl; none = e })
    by (Some t) e = inl (t, e)

-- where a life begins from the number, the number is not spent
pub opens_unless_spent : (config : Config) (stored : Option ℕ) → ((number : ℕ) → IsSpent config stored number → ⊥) → (t : Turned) × Opens config stored t
opens_unless_spent config stored not_spent = ⊎_elim (λ o. o) (λ s. absurd (not_spent s.0 s.1)) (opens_or_spent config stored)

-- ---- Why no life begins

pub spent_of : (fault : LifeFault) (number : ℕ) → StartFault.Spent number ≡ fault_of_life fault → fault ≡ LifeFault.Spent number
spent_of (LifeFault.Spent held) number e = cc
spent_of LifeFault.NoMemory number e = absurd cc

pub no_memory_of : (fault : LifeFault) → StartFault.NoMemory ≡ fault_of_life fault → fault ≡ LifeFault.NoMemory
no_memory_of (LifeFault.Spent held) e = absurd cc
no_memory_of LifeFault.NoMemory e = refl

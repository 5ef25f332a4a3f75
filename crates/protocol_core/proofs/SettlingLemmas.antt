-- What is left of launching the waiting batches and of handing on.
use Rattle.std.proofs.Common.{◌≡◌, ℕ, zero, suc, ◌-◌, ◌<◌, List, [], ◌∷◌, drop, if◌then◌else◌, is_some, Option, Some, None, refl, sym, ap, ◌∙◌, arith}
use Rattle.std.specs.List.{slice_get}
use Rattle.std.specs.Option.{option_zip}
use Rattle.jp_types.specs.Instances.{Batch}
use Rattle.protocol_core.specs.declared.life.Life.{Life}
use Rattle.protocol_core.specs.Settling.{open_place, with_waiting, launched_then, launched_waiting, settled_waiting, Handing, next_handing, handed_on, handed_then, settled_handing}
use Rattle.protocol_core.specs.Turned.{Turned, stay, followed_by}

-- nothing is launched at no place
ends-at : (place : Option ℕ) (batch : Batch) (batches : List Batch) (life : Life) (f : Life → Turned) → option_zip place (slice_get (batch ∷ batches) 0) ≡ None → launched_then place batch batches life f ≡ stay life
ends-at None batch batches life f e = refl
ends-at (Some i) batch batches life f e = absurd cc

-- nothing is launched where there is no front one with a place
ends-without : (batches : List Batch) (life : Life) → option_zip (open_place life) (slice_get batches 0) ≡ None → launched_waiting batches life ≡ stay life
ends-without [] life e = refl
ends-without (batch ∷ batches) life e = ends-at (open_place life) batch batches life (launched_waiting batches) e

-- nothing was taken where it is not this or that
none-of : (taken : Option (ℕ × Batch)) → ((front : ℕ × Batch) → taken ≡ Some front → ⊥) → taken ≡ None
none-of None f = refl
none-of (Some front) f = absurd (f front refl)

-- no more is launched once no front one was taken
pub waiting-ends : (life new : Life) (taken : Option (ℕ × Batch)) → taken ≡ option_zip (open_place life) (slice_get life.waiting 0) → new ≡ (if is_some taken then with_waiting life (drop 1 life.waiting) else life) → ((front : ℕ × Batch) → taken ≡ Some front → ⊥) → settled_waiting life ≡ stay new
waiting-ends life new taken front after f =
    let none = none-of taken f in
    let same : new ≡ life = after ∙ ap (λ (t : Option (ℕ × Batch)). if is_some t then with_waiting life (drop 1 life.waiting) else life) none in
    ends-without life.waiting life (sym front ∙ none) ∙ ap stay (sym same)

-- a decision is handed on, and then the rest
pub handing-goes : (left : ℕ) (life : Life) (h : Handing) → 0 < left → next_handing life ≡ Some h → settled_handing left life ≡ followed_by (handed_on life h) (settled_handing (left - 1))
handing-goes zero life h positive e = absurd (omega arith)
handing-goes (suc left) life h positive e =
    let fewer : left ≡ suc left - 1 = omega arith in
    ap (λ (next : Option Handing). handed_then next life (settled_handing left)) e ∙ ap (λ (k : ℕ). followed_by (handed_on life h) (settled_handing k)) fewer

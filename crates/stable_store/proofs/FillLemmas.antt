-- That a range filled with one byte is a torn one.
use Rattle.std.proofs.Common.{◌≡◌, inr, ℕ, zero, suc, ◌+◌, List, [], ◌∷◌, ◌++◌, length, take, drop, replicate, refl, sym, ◌∙◌, ap, subst}
use Rattle.std.proofs.lemmas.List.{drop-drop}
use Rattle.stable_store.specs.Disks.{Torn}
use Rattle.stable_store.specs.Failing.{Moment, Reaches, MayLeave, filled, filled_all}

-- the bytes from the range on
after_range : (n fill : ℕ) (bytes : List ℕ) → drop n (replicate (length (take n bytes)) fill ++ drop n bytes) ≡ drop n bytes
after_range zero fill bytes = refl
after_range (suc n) fill [] = refl
after_range (suc n) fill (b ∷ bytes) = after_range n fill bytes

as_many : (n fill : ℕ) (bytes : List ℕ) → length (replicate (length (take n bytes)) fill ++ drop n bytes) ≡ length bytes
as_many zero fill bytes = refl
as_many (suc n) fill [] = refl
as_many (suc n) fill (b ∷ bytes) = ap suc (as_many n fill bytes)

-- the three parts: what stands before the range, the range, and what stands behind it
abbrev parts : ℕ → ℕ → ℕ → List ℕ → List ℕ
parts at n fill bytes = take at bytes ++ replicate (length (take n (drop at bytes))) fill ++ drop n (drop at bytes)

front : (at n fill : ℕ) (bytes : List ℕ) → take at (parts at n fill bytes) ≡ take at bytes
front zero n fill bytes = refl
front (suc at) zero fill [] = refl
front (suc at) (suc n) fill [] = refl
front (suc at) n fill (b ∷ bytes) = ap (λ (l : List ℕ). b ∷ l) (front at n fill bytes)

back : (at n fill : ℕ) (bytes : List ℕ) → drop n (drop at (parts at n fill bytes)) ≡ drop n (drop at bytes)
back zero n fill bytes = after_range n fill bytes
back (suc at) zero fill [] = refl
back (suc at) (suc n) fill [] = refl
back (suc at) n fill (b ∷ bytes) = back at n fill bytes

whole : (at n fill : ℕ) (bytes : List ℕ) → length (parts at n fill bytes) ≡ length bytes
whole zero n fill bytes = as_many n fill bytes
whole (suc at) zero fill [] = refl
whole (suc at) (suc n) fill [] = refl
whole (suc at) n fill (b ∷ bytes) = ap suc (whole at n fill bytes)

torn_filled : (at n fill : ℕ) (bytes : List ℕ) → Torn at n bytes (filled at n fill bytes)
torn_filled at n fill bytes =
    let same : parts at n fill bytes ≡ filled at n fill bytes = ap (λ (l : List ℕ). take at bytes ++ replicate (length (take n (drop at bytes))) fill ++ l) (drop-drop n at bytes) in
    subst (λ (l : List ℕ). Torn at n bytes l) same (record {
      before = front at n fill bytes;
      after = sym (drop-drop n at (parts at n fill bytes)) ∙ back at n fill bytes ∙ drop-drop n at bytes;
      size = whole at n fill bytes;
    })

reaches_filled : (fill : ℕ) (ranges : List (ℕ × ℕ)) (bytes : List ℕ) → Reaches bytes ranges (filled_all fill ranges bytes)
reaches_filled fill [] bytes = refl
reaches_filled fill (range ∷ earlier) bytes = (filled_all fill earlier bytes, reaches_filled fill earlier bytes, torn_filled range.0 range.1 fill (filled_all fill earlier bytes))

-- a crash may leave each written range filled with one byte
pub filled_may_stay : (fill : ℕ) (moment : Moment) (image : List ℕ) → image ≡ filled_all fill moment.written moment.synced → MayLeave moment image
filled_may_stay fill moment image is = inr (subst (λ (l : List ℕ). Reaches moment.synced moment.written l) (sym is) (reaches_filled fill moment.written moment.synced))

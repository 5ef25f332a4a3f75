-- Where two lists of bytes first differ.
use Rattle.std.proofs.Common.{◌≡◌, ◌≢◌, ℕ, zero, suc, ◌+◌, ◌≤◌, ◌<◌, Bool, true, false, cond, ◌&&◌, List, [], ◌∷◌, length, take, drop, min, nat_eq, bytes_eq, slice_get, refl, sym, ap, subst, ◌∙◌, arith, eqb-true, eq-eqb}
use Rattle.std.specs.List.{common_prefix_len}

none-right : (xs : List ℕ) → common_prefix_len nat_eq xs [] ≡ 0
none-right [] = refl
none-right (x ∷ xs) = refl

-- nothing is the same behind the end of one of them
pub common-end : (xs ys : List ℕ) (i : ℕ) → min (length xs) (length ys) ≤ i → common_prefix_len nat_eq (drop i xs) (drop i ys) ≡ 0
common-end [] ys zero h = refl
common-end [] ys (suc i) h = refl
common-end (x ∷ xs) [] zero h = refl
common-end (x ∷ xs) [] (suc i) h = none-right (drop i xs)
common-end (x ∷ xs) (y ∷ ys) zero h = absurd (omega arith)
common-end (x ∷ xs) (y ∷ ys) (suc i) h = common-end xs ys i (omega arith)

-- of two lists of one length that are not the same: the first place where they differ
pub record Parting (xs ys : List ℕ) (k : ℕ) : Type 0 where
  pub within : k < length ys
  pub same : take k xs ≡ take k ys
  pub differs : slice_get xs k ≢ slice_get ys k

pub parting : (xs ys : List ℕ) → length xs ≡ length ys → bytes_eq xs ys ≡ false → Parting xs ys (common_prefix_len nat_eq xs ys)
parting [] [] n e = absurd cc
parting [] (y ∷ ys) n e = absurd (omega arith)
parting (x ∷ xs) [] n e = absurd (omega arith)
parting (x ∷ xs) (y ∷ ys) n e = by (nat_eq x y) refl (λ f. parting xs ys (omega arith) f) where
  by : (b : Bool) → nat_eq x y ≡ b → (bytes_eq xs ys ≡ false → Parting xs ys (common_prefix_len nat_eq xs ys)) → Parting (x ∷ xs) (y ∷ ys) (common_prefix_len nat_eq (x ∷ xs) (y ∷ ys))
  by true f again =
      let rest = again (sym (ap (λ b. b && bytes_eq xs ys) f) ∙ e) in
      let is : common_prefix_len nat_eq (x ∷ xs) (y ∷ ys) ≡ suc (common_prefix_len nat_eq xs ys) = ap (λ b. cond b (1 + common_prefix_len nat_eq xs ys) 0) f ∙ omega arith in
      let head : x ≡ y = eqb-true x y f in
      let found : Parting (x ∷ xs) (y ∷ ys) (suc (common_prefix_len nat_eq xs ys)) = (let w = rest.within in record {
        within = omega arith;
        same = (λ i. head i ∷ rest.same i);
        differs = rest.differs;
      }) in
      subst (λ (k : ℕ). Parting (x ∷ xs) (y ∷ ys) k) (sym is) found
  by false f again =
      let is : common_prefix_len nat_eq (x ∷ xs) (y ∷ ys) ≡ 0 = ap (λ b. cond b (1 + common_prefix_len nat_eq xs ys) 0) f in
      let found : Parting (x ∷ xs) (y ∷ ys) 0 = record {
        within = omega arith;
        same = refl;
        differs = λ h. apart (let g : x ≡ y = cc in g);
      } in
      subst (λ (k : ℕ). Parting (x ∷ xs) (y ∷ ys) k) (sym is) found
    where
      apart : x ≡ y → ⊥
      apart h = let t = eq-eqb x y h in absurd cc

-- The nine entries of a vector.
use Rattle.std.proofs.Common.{◌≡◌, ◌<◌, ℕ, zero, suc, List, length, max, if◌then◌else◌, nat_lt, Bool, refl, sym, ap, ◌∙◌, arith}
use Rattle.std.proofs.lemmas.Bool.{lt-ltb}
use Rattle.std.proofs.lemmas.List.{ext_get_or}
use Rattle.jp_types.specs.Vectors.{entry, table, merged}

pub entry-table : (f : ℕ → ℕ) (p : ℕ) → p < 9 → entry (table f) p ≡ f p
entry-table f zero h = refl
entry-table f (suc zero) h = refl
entry-table f (suc (suc zero)) h = refl
entry-table f (suc (suc (suc zero))) h = refl
entry-table f (suc (suc (suc (suc zero)))) h = refl
entry-table f (suc (suc (suc (suc (suc zero))))) h = refl
entry-table f (suc (suc (suc (suc (suc (suc zero)))))) h = refl
entry-table f (suc (suc (suc (suc (suc (suc (suc zero))))))) h = refl
entry-table f (suc (suc (suc (suc (suc (suc (suc (suc zero)))))))) h = refl
entry-table f (suc (suc (suc (suc (suc (suc (suc (suc (suc p))))))))) h = absurd (omega arith)

-- a vector is the table of its entries
pub is_table : (a : List ℕ) (f : ℕ → ℕ) → length a ≡ 9 → ((p : ℕ) → p < 9 → entry a p ≡ f p) → a ≡ table f
is_table a f nine same =
    ext_get_or 0 a (table f) nine (λ p h. let below : p < 9 = omega arith in same p below ∙ sym (entry-table f p below))

-- all nine entries are raised
pub is_merged : (a own other : List ℕ) → length a ≡ 9
    → ((p : ℕ) → entry a p ≡ (if nat_lt p 9 then max (entry own p) (entry other p) else entry own p)) → a ≡ merged own other
is_merged a own other nine same = is_table a _ nine (λ p h. same p ∙ ap (λ (b : Bool). if b then max (entry own p) (entry other p) else entry own p) (lt-ltb p 9 h))

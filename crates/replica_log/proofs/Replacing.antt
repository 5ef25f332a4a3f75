-- A value that is replaced twice.
use Rattle.std.proofs.Common.{◌≡◌, ℕ, Bool, true, false, cond, Some, is_some, if◌then◌else◌, nat_cmp, refl, sym, ap, ◌∙◌}
use Rattle.std.proofs.lemmas.Map.Lookups.{exact_unsigned}
use Rattle.std.specs.Ordering.{eq_by_cmp}
use Rattle.std.specs.Cmp.{nat_cmp_total, eq_by_cmp_equiv}
use Rattle.std.specs.FinMap.{FinMap, contains_key, get, insert, same_map, get-insert}

twice : {A : Type 0} (b : Bool) (x y z : A) → cond b x (cond b y z) ≡ cond b x z
twice true x y z = refl
twice false x y z = refl

-- only the last value put at a number stays
insert_twice : {X : Type 0} (m : FinMap nat_cmp X) (k : ℕ) (a b : X) → insert (insert m k a) k b ≡ insert m k b
insert_twice m k a b =
    same_map nat_cmp_total exact_unsigned _ _ (λ q.
    get-insert nat_cmp_total (insert m k a) k b q ∙ ap (cond (eq_by_cmp nat_cmp q k) (Some b)) (get-insert nat_cmp_total m k a q)
    ∙ twice (eq_by_cmp nat_cmp q k) (Some b) (Some a) (get m q) ∙ sym (get-insert nat_cmp_total m k b q))

has_inserted : {X : Type 0} (m : FinMap nat_cmp X) (k : ℕ) (a : X) → contains_key (insert m k a) k ≡ true
has_inserted m k a = ap is_some (get-insert nat_cmp_total m k a k) ∙ ap (λ b. is_some (cond b (Some a) (get m k))) ((eq_by_cmp_equiv nat_cmp_total).refl k)

-- where a value stood, replacing it twice leaves the second one there
pub replaced_twice : {X : Type 0} (old first second : FinMap nat_cmp X) (k : ℕ) (a b : X) → contains_key old k ≡ true
    → first ≡ (if contains_key old k then insert old k a else old) → second ≡ (if contains_key first k then insert first k b else first) → second ≡ insert old k b
replaced_twice old first second k a b has e f =
    let once : first ≡ insert old k a = rw has at e in
    let there : contains_key first k ≡ true = rw once (has_inserted old k a) in
    let again : second ≡ insert first k b = rw there at f in
    again ∙ ap (λ m. insert m k b) once ∙ insert_twice old k a b

-- The sequential service after one more batch, and the executed number.
use Rattle.std.proofs.Common.{◌≡◌, ℕ, suc, ◌+◌, ◌*◌, ◌≤◌, List, [], ◌∷◌, ◌++◌, length, take, drop, Some, slice_get, refl, sym, ap, ◌∙◌, arith, take_all, drop-drop, take-add, mul-zero, add-zero, zero-add, ap₂}
use Rattle.std.specs.List.{flat_map}
use Rattle.jp_types.specs.declared.command.Request.{Request}
use Rattle.kv_service.specs.declared.outcome.Kind.{Kind}
use Rattle.kv_service.specs.declared.outcome.Kind.TheVariants.{First, Repeated, Passed}
use Rattle.kv_service.specs.Service.{State, last_of, take_by, take_request, take_requests, kind_of, execute, execute_all, serve, start}

executed-by : (k : Kind) (s : State) (r : Request) → (take_by k s r).0.executed ≡ s.executed
executed-by First s r = refl
executed-by Repeated s r = refl
executed-by Passed s r = refl

executed-requests : (s : State) (rs : List Request) → (take_requests s rs).0.executed ≡ s.executed
executed-requests s [] = refl
executed-requests s (r ∷ rs) = executed-requests (take_request s r).0 rs ∙ executed-by (kind_of (last_of s r.client) r.number) s r

-- a batch counts as one
pub executed-execute : (s : State) (batch : List Request) → (execute s batch).executed ≡ suc s.executed
executed-execute s batch = let e = executed-requests s batch in omega arith

executed-all : (s : State) (batches : List (List Request)) → (execute_all s batches).executed ≡ s.executed + length batches
executed-all s [] = omega arith
executed-all s (b ∷ bs) = let e = executed-all (execute s b) bs in let f = executed-execute s b in omega arith

-- the executed number is the count of batches
pub executed-serve : (batches : List (List Request)) → (serve batches).executed ≡ length batches
executed-serve batches = let e = executed-all start batches in omega arith

all-append : (s : State) (xs : List (List Request)) (b : List Request) → execute_all s (xs ++ b ∷ []) ≡ execute (execute_all s xs) b
all-append s [] b = refl
all-append s (x ∷ xs) b = all-append (execute s x) xs b

-- one more batch
pub serve-append : (xs : List (List Request)) (b : List Request) → serve (xs ++ b ∷ []) ≡ execute (serve xs) b
serve-append xs b = all-append start xs b

-- parts that are cut from a list at one size join to it
joined : (m : ℕ) (xs : List ℕ) (parts : List (List ℕ)) (off : ℕ) → ((j : ℕ) (p : List ℕ) → slice_get parts j ≡ Some p → p ≡ take m (drop (m * (off + j)) xs))
    → flat_map (λ p. p) parts ≡ take (m * length parts) (drop (m * off) xs)
joined m xs [] off h = rw mul-zero refl
joined m xs (p ∷ parts) off h =
    let here : p ≡ take m (drop (m * off) xs) = h 0 p refl ∙ ap (λ k. take m (drop (m * k) xs)) (add-zero off) in
    let rest = joined m xs parts (suc off) (λ j q e. h (suc j) q e ∙ ap (λ k. take m (drop (m * k) xs)) (omega arith)) in
    let split = take-add m (m * length parts) (drop (m * off) xs) in
    let shift : drop m (drop (m * off) xs) ≡ drop (m * suc off) xs = drop-drop m (m * off) xs ∙ ap (λ k. drop k xs) (omega arith) in
    ap₂ (λ a b. a ++ b) here rest ∙ ap (λ b. take m (drop (m * off) xs) ++ take (m * length parts) b) (sym shift) ∙ sym split ∙ ap (λ k. take k (drop (m * off) xs)) (omega arith)

pub parts-join : (m : ℕ) (xs : List ℕ) (parts : List (List ℕ)) → ((j : ℕ) (p : List ℕ) → slice_get parts j ≡ Some p → p ≡ take m (drop (m * j) xs)) → length xs ≤ m * length parts
    → flat_map (λ p. p) parts ≡ xs
parts-join m xs parts h enough =
    joined m xs parts 0 (λ j p e. h j p e ∙ ap (λ k. take m (drop (m * k) xs)) (sym (zero-add j))) ∙ take_all (m * length parts) (drop (m * 0) xs) (rw mul-zero enough) ∙ ap (λ k. drop k xs) (mul-zero m)

-- The state after decisions is the sequential service's.
use Rattle.std.proofs.Common.{◌≡◌, ℕ, zero, suc, ◌+◌, ◌%◌, Bool, true, false, ◌&&◌, ◌==◌, Option, Some, None, nat_lt, if◌then◌else◌, List, [], ◌∷◌, ◌++◌, length, refl, sym, ap, ◌∙◌, arith, length-append}
use Rattle.std.specs.List.{range_with_len}
use Rattle.std.proofs.lemmas.Bool.{eqb-true}
use Rattle.jp_types.specs.Instances.{Batch}
use Rattle.jp_types.specs.Views.{number_limit}
use Rattle.jp_types.proofs.Numerals.{both_true}
use Rattle.kv_service.specs.Service.{State, execute, execute_all}
use Rattle.kv_service.specs.StateBytes.{state_bytes}
use Rattle.kv_service.proofs.Requests.{executed-take_requests}
use Rattle.service_manager.specs.declared.decision.Decision.{Decision}
use Rattle.service_manager.specs.declared.decision.Decision.TheVariants.{Decided, Install}
use Rattle.service_manager.specs.Serving.{snapshot_of, state_after, state_after_all}
use Rattle.kv_service.specs.Dues.{is_due, snapshot_step}
use Rattle.service_manager.specs.Course.{Course, new_course, state_of, course_after, course_after_all, course_of, IsSequential, IsServed, IsInOrder, ExecutesInOrder}

-- one batch more
execute_all-push : (s : State) (batches : List Batch) (batch : Batch) → execute_all s (batches ++ batch ∷ []) ≡ execute (execute_all s batches) batch
execute_all-push s [] batch = refl
execute_all-push s (b ∷ batches) batch = execute_all-push (execute s b) batches batch

-- each batch counts
pub executed_next : (s : State) (batch : Batch) → (execute s batch).executed ≡ suc s.executed
executed_next s batch = let same = executed-take_requests s batch in omega (arith, same)

-- the snapshot after a batch that is due
pub snapshot_when_due : (s : State) (batch : Batch) (i : ℕ) (snapshot : Option (List ℕ)) → is_due s i ≡ true
    → snapshot ≡ (if (execute s batch).executed % snapshot_step == 0 then Some (state_bytes (execute s batch)) else None) → snapshot ≡ snapshot_of s (Decided i batch)
snapshot_when_due s batch i snapshot due told =
    told
    ∙ ap (λ (n : ℕ). if n % snapshot_step == 0 then Some (state_bytes (execute s batch)) else None) (executed_next s batch)
    ∙ ap (λ (b : Bool). if b && (suc s.executed % snapshot_step == 0) then Some (state_bytes (if b then execute s batch else s)) else None) (sym due)

executed-all : (s : State) (batches : List Batch) → (execute_all s batches).executed ≡ s.executed + length batches
executed-all s [] = omega arith
executed-all s (b ∷ batches) =
    let one = executed_next s b in
    let rest = executed-all (execute s b) batches in
    omega (arith, one, rest)

-- a decision
step : (c : Course) (d : Decision) → state_after (state_of c) d ≡ state_of (course_after c d)
step c (Decided i batch) = by (is_due (state_of c) i)
  where
    by : (b : Bool) → (if b then execute (state_of c) batch else state_of c) ≡ state_of (if b then record c { batches = c.batches ++ batch ∷ []; instances = c.instances ++ i ∷ [] } else c)
    by true = sym (execute_all-push c.from c.batches batch)
    by false = refl
step c (Install upto state) = by (nat_lt (state_of c).executed upto)
  where
    by : (b : Bool) → (if b then state else state_of c) ≡ state_of (if b then record { from = state; batches = []; instances = [] } else c)
    by true = refl
    by false = refl

all : (c : Course) (ds : List Decision) → state_after_all (state_of c) ds ≡ state_of (course_after_all c ds)
all c [] = refl
all c (d ∷ ds) = ap (λ (s : State). state_after_all s ds) (step c d) ∙ all (course_after c d) ds

pub is_sequential : IsSequential
is_sequential ds = all new_course ds

pub is_served : IsServed
is_served ds e = is_sequential ds ∙ ap (λ (s : State). execute_all s (course_of ds).batches) e

-- one number more
range-push : (a n i : ℕ) → i ≡ a + n → range_with_len a n ++ i ∷ [] ≡ range_with_len a (suc n)
range-push a zero i is = ap (λ (k : ℕ). k ∷ []) (let same : i ≡ a = omega (arith, is) in same)
range-push a (suc n) i is = ap (λ (l : List ℕ). a ∷ l) (range-push (a + 1) n i (omega (arith, is)))

one_more : (c : Course) (i : ℕ) (batch : Batch) → IsInOrder c → i ≡ (state_of c).executed → IsInOrder (record c { batches = c.batches ++ batch ∷ []; instances = c.instances ++ i ∷ [] })
one_more c i batch so_far is =
    ap (λ (l : List ℕ). l ++ i ∷ []) so_far
    ∙ range-push c.from.executed (length c.batches) i (is ∙ executed-all c.from c.batches)
    ∙ ap (λ (n : ℕ). range_with_len c.from.executed n) (let more = length-append c.batches (batch ∷ []) in let counted : suc (length c.batches) ≡ length (c.batches ++ batch ∷ []) = omega (arith, more) in counted)

-- a decision leaves a course in order
step_in_order : (c : Course) (d : Decision) → IsInOrder c → IsInOrder (course_after c d)
step_in_order c (Decided i batch) so_far = by (is_due (state_of c) i) refl
  where
    by : (b : Bool) → is_due (state_of c) i ≡ b → IsInOrder (if b then record c { batches = c.batches ++ batch ∷ []; instances = c.instances ++ i ∷ [] } else c)
    by true due = one_more c i batch so_far (eqb-true i (state_of c).executed (both_true (i == (state_of c).executed) (nat_lt i number_limit) due).0)
    by false due = so_far
step_in_order c (Install upto state) so_far = by (nat_lt (state_of c).executed upto)
  where
    by : (b : Bool) → IsInOrder (if b then record { from = state; batches = []; instances = [] } else c)
    by true = refl
    by false = so_far

all_in_order : (c : Course) (ds : List Decision) → IsInOrder c → IsInOrder (course_after_all c ds)
all_in_order c [] so_far = so_far
all_in_order c (d ∷ ds) so_far = all_in_order (course_after c d) ds (step_in_order c d so_far)

pub in_order : ExecutesInOrder
in_order ds = (
  all_in_order new_course ds refl,
  ap (λ (s : State). s.executed) (is_sequential ds) ∙ executed-all (course_of ds).from (course_of ds).batches,
)

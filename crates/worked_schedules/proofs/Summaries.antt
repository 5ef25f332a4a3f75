-- Summaries of drawn schedules.
use Rattle.std.specs.Prelude.{◌≡◌, ℕ, Bool, true, List, [], ◌∷◌, bytes_eq, codes, refl}
use Rattle.schedules.specs.Run.{run_of}
use Rattle.schedules.specs.Generator.{generate, summary}
use Rattle.worked_schedules.proofs.Examples.{joined, whole}

-- whether the summary for a seed, a count of replicas and a count of lines is this
unfoldable pub sums_up : ℕ → ℕ → ℕ → List (List ℕ) → Bool
unfolding whole generate summary
sums_up seed n steps lines = bytes_eq (summary (run_of (generate seed n steps)) seed) (joined lines)

pub odd : sums_up 7 5 300 (codes "seed 7 replicas 5 steps 300" ∷ codes "done 77 empty 189 full 0 down 36 up 0 unsent 0" ∷ codes "messages 17" ∷ codes "replica 0 down" ∷ codes "replica 1 working 0 0 0" ∷ codes "replica 2 working 0 0 0" ∷ codes "replica 3 working 0 0 0" ∷ codes "replica 4 working 0 0 0" ∷ []) ≡ true
unfolding sums_up
odd = refl

pub even : sums_up 10 3 500 (codes "seed 10 replicas 3 steps 500" ∷ codes "done 67 empty 249 full 0 down 186 up 0 unsent 0" ∷ codes "messages 13" ∷ codes "replica 0 down" ∷ codes "replica 1 working 1 0 0" ∷ codes "replica 2 working 1 0 0" ∷ []) ≡ true
unfolding sums_up
even = refl

pub many : sums_up 21 9 150 (codes "seed 21 replicas 9 steps 150" ∷ codes "done 43 empty 109 full 0 down 0 up 0 unsent 0" ∷ codes "messages 16" ∷ codes "replica 0 working 0 0 0" ∷ codes "replica 1 working 0 0 0" ∷ codes "replica 2 working 0 0 0" ∷ codes "replica 3 working 0 0 0" ∷ codes "replica 4 working 0 0 0" ∷ codes "replica 5 working 0 0 0" ∷ codes "replica 6 working 0 0 0" ∷ codes "replica 7 working 0 0 0" ∷ codes "replica 8 working 0 0 0" ∷ []) ≡ true
unfolding sums_up
many = refl

pub none : sums_up 4 4 0 (codes "seed 4 replicas 4 steps 0" ∷ codes "done 2 empty 0 full 0 down 0 up 0 unsent 0" ∷ codes "messages 3" ∷ codes "replica 0 working 0 0 0" ∷ codes "replica 1 working 0 0 0" ∷ codes "replica 2 working 0 0 0" ∷ codes "replica 3 working 0 0 0" ∷ []) ≡ true
unfolding sums_up
none = refl

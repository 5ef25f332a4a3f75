-- The launches of one instance and of those behind it, and the end of what was reported.
use Rattle.std.proofs.Common.{◌≡◌, ℕ, suc, ◌+◌, ◌-◌, ◌<◌, ◌≤◌, max, min, List, [], ◌∷◌, ◌++◌, refl, append_assoc, add-one, arith}
use Rattle.jp_types.specs.declared.message.Entry.{Entry}
use Rattle.replica_log.specs.Log.{Log}
use Rattle.proposer_core.specs.declared.adoption.Launch.{Launch}
use Rattle.proposer_core.specs.Adoption.{launch_of, launches_from}

-- a bound on the one of two numbers that may pass it bounds the greater
pub capped_max : (r o m : ℕ) → o ≤ m → max (min r m) o ≡ min (max r o) m
capped_max r o m h = omega arith

first_launch : (n : ℕ) (reports : ℕ → List Entry) (log : Log) (end i : ℕ) → i < end
    → launches_from (end - i) n reports log i ≡ launch_of n reports log i ∷ launches_from (end - suc i) n reports log (suc i)
first_launch n reports log end i h = let e : end - i ≡ suc (end - suc i) = omega arith in rw e refl

-- where the launches done and those from i on are all, so are those done with that of i and those behind it
pub more_launches : (n : ℕ) (reports : ℕ → List Entry) (log : Log) (end i : ℕ) (done all : List Launch) → i < end
    → done ++ launches_from (end - i) n reports log i ≡ all
    → (done ++ launch_of n reports log i ∷ []) ++ launches_from (end - (i + 1)) n reports log (i + 1) ≡ all
more_launches n reports log end i done all h e = rw (add-one i, append_assoc, ← first_launch n reports log end i h) e

-- As a life begins, the cores keep what its stage has.
use Rattle.std.proofs.Common.{◌≡◌, ℕ, max, List, [], ◌==◌, if◌then◌else◌, refl, arith}
use Rattle.std.specs.Ordering.{nat_cmp}
use Rattle.std.specs.FinMap as map
use Rattle.jp_types.specs.declared.mode.Mode.{Mode}
use Rattle.jp_types.specs.declared.mode.Mode.TheVariants.{ViewSs, EpochSs}
use Rattle.jp_types.specs.declared.mode.Phase.{Phase}
use Rattle.jp_types.specs.Vectors.{table}
use Rattle.paxos_world.specs.Life.{new_life}
use Rattle.paxos_world.specs.Counting.{entry_of}
use Rattle.paxos_world.specs.Stage.{Config, setup_of, Slot}
use Rattle.replica_log.specs.Log.{new_log}
use Rattle.recovery.specs.Beginning.{first_vector}
use Rattle.core_laws.specs.StartLaws.{stage_at_start, StartsKept}
use Rattle.core_laws.specs.Holding.{KeepsVector}
use Rattle.core_laws.specs.Keeping.{KeepsLog}
use Rattle.core_laws.proofs.KeptPromises.{none-held}
use Rattle.core_laws.proofs.KeptReplies.{table-alike}

start-log : (c : Config) (slots : List Slot) (number mark : ℕ) (phase : Phase) (view : ℕ) → KeepsLog (stage_at_start c slots number mark phase view) (new_log c.n)
start-log c slots number mark phase view =
    record { n = refl; base = refl; votes = λ i le. map.get-empty nat_cmp i; known = λ i le. map.get-empty nat_cmp i; tallies = λ i le e. map.get-empty nat_cmp i }

start-entries : (mode : Mode) (me mark : ℕ) → first_vector mode me mark ≡ table (entry_of mode me mark [] [])
start-entries ViewSs me mark = refl
start-entries EpochSs me mark = table-alike (λ p. if p == me then mark else 0) (entry_of EpochSs me mark [] []) (λ p lt. more (if p == me then mark else 0))
  where
    more : (a : ℕ) → a ≡ max a (max 0 0)
    more a = omega arith

start-vector : (c : Config) (number mark : ℕ) (phase : Phase) (view : ℕ) → KeepsVector (setup_of c) c.me (new_life number mark phase view) (first_vector c.mode c.me mark)
start-vector c number mark phase view = start-entries c.mode c.me mark

pub starts_kept : StartsKept
starts_kept =
    record {
      log = start-log;
      sane = λ c slots number mark phase view most me. record { most = most; me = me; notes = λ note m. absurd m };
      vector = start-vector;
      proposer = λ c slots number mark phase view. record { n = refl; me = refl; window = refl; leading = refl };
      answers = λ c number mark phase view. record { vector = start-vector c number mark phase view; none = none-held c.n c.me; held = λ p ne. none-held c.n p };
    }

-- States that read back from their bytes.
use Rattle.std.specs.Prelude.{◌≡◌, ℕ, ◌≤◌, ◌<◌, List, length, Some}
use Rattle.kv_service.specs.Service.{State, execute}
use Rattle.kv_service.specs.StateBytes.{state_bytes}
use Rattle.kv_service.specs.StateReading.{state_in}
use Rattle.jp_types.specs.Instances.{Batch}
use Rattle.jp_types.specs.Limits.{AreBytes, IsBatch}
use Rattle.jp_types.specs.Views.{number_limit}

-- a state that reads back from its bytes, each of which is a byte
abbrev pub IsState : State → Type 0
IsState s = (state_in (state_bytes s) ≡ Some s) × AreBytes (state_bytes s)

-- executing a batch within the limits keeps a state that reads back from its bytes
pub record StatesRead : Type 0 where
  pub executes : (s : State) (batch : Batch) → IsState s → IsBatch batch → s.executed < number_limit → IsState (execute s batch)

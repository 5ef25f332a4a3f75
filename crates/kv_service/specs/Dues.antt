-- Which instance a service executes next, and when a snapshot of it is taken.
use Rattle.std.specs.Prelude.{ℕ, Bool, ◌&&◌, nat_lt, ◌==◌}
use Rattle.jp_types.specs.Views.{number_limit}
use Rattle.kv_service.specs.Service.{State}

-- after how many executed instances a snapshot is taken
abbrev pub snapshot_step : ℕ
snapshot_step = 256

-- whether a decision on this instance is executed: it is the executed number, within the limit. Others are passed over
abbrev pub is_due : State → ℕ → Bool
is_due s i = (i == s.executed) && nat_lt i number_limit

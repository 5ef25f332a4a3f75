-- What is left of a batch that did not come to its end.
use Rattle.std.specs.Prelude.{◌≡◌, ℕ, ◌≤◌, List, length, take}
use Rattle.jp_types.specs.declared.command.Request.{Request}
use Rattle.kv_service.specs.Service.{State, take_requests}

-- the state after the first requests of a batch, some or none
abbrev pub IsAfterPrefix : State → List Request → State → Type 0
IsAfterPrefix s batch after = (k : ℕ) × (k ≤ length batch) × (after ≡ (take_requests s (take k batch)).0)

-- The constants of a run within their limits.
use Rattle.std.specs.Prelude.{◌≤◌}
use Rattle.schedules.specs.declared.line.Head.{Head}

-- 3 to 9 replicas, and a window of 1 to 64 instances
pub record IsHead (head : Head) : Type 0 where
  pub some : 3 ≤ head.n
  pub few : head.n ≤ 9
  pub open_window : 1 ≤ head.window
  pub window_limit : head.window ≤ 64

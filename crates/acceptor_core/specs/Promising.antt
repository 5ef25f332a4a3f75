-- Promises of phase 1.
use Rattle.std.specs.Prelude.{ℕ, List, Option, Some, None, ◌==◌, if◌then◌else◌}
use Rattle.jp_types.specs.declared.message.Prepare.{Prepare}
use Rattle.jp_types.specs.declared.message.PrepareOk.{PrepareOk}
use Rattle.replica_log.specs.Log.{Log, report_from}

-- the promise of a view to who asked: the vector, the log's base, and what the log has from the first instance asked for on
abbrev pub promise_of : Log → ℕ → List ℕ → Prepare → PrepareOk
promise_of log view vector m = record { view = view; mark = m.mark; vector = vector; low = log.base; report = report_from log m.first }

-- the promise, where the Prepare is of the own view
abbrev pub promised : Log → ℕ → List ℕ → Prepare → Option PrepareOk
promised log view vector m = if view == m.view then Some (promise_of log view vector m) else None

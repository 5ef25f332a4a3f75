use Rattle.std.proofs.Common.{◌≡◌, ◌++◌, length, take, drop}
use Rattle.client_io.specs.Sessions.{queued_for}
use Rattle.client_io.proofs.stage.queue_in.Given as goal

abbrev pub invariant-loop-i : goal.invariant-loop-i
invariant-loop-i g l =
    record {
      same : l.sessions.items ≡ l.fn.sessions.items;
      ends : l.i-end ≡ length l.sessions.items;
      ahead : queued_for l.number l.bytes l.sessions.items ≡ take l.i l.sessions.items ++ queued_for l.number l.bytes (drop l.i l.sessions.items);
    }

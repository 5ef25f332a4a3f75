use Rattle.std.proofs.Common.{◌-◌, ◌≤◌, vec_len}
use Rattle.std.specs.Io.KnownBytes.{Consumes}
use Rattle.jpaxos.proofs.input.read_all.Given as goal

abbrev pub invariant-turns : goal.invariant-turns
invariant-turns g l =
    let left = g.S.Source.left in
    record {
      read : Consumes (left l.fn.source) (left l.source) l.bytes.items;
      later : g.S.Source.faults l.fn.source ≤ g.S.Source.faults l.source;
      fits : vec_len l.bytes ≤ 67108865;
    }

abbrev pub decreases-turns : goal.decreases-turns
decreases-turns g l = 67108865 - vec_len l.bytes

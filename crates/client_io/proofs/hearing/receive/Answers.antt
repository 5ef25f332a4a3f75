use Rattle.std.proofs.Common.{take, arith}
use Rattle.std.proofs.lemmas.Grind.{common_steps}
use Rattle.std.proofs.lemmas.List.{length-take-le}
use Rattle.client_io.specs.Links.{state_by}
use Rattle.client_io.proofs.Turning.{bytes_give, piece_brings, piece_brings_at_most}
use Rattle.client_io.proofs.hearing.receive.Goals as goal

pub returns-in-Ok-Bytes : goal.returns-in-Ok-Bytes
returns-in-Ok-Bytes g c =
    let link = g.L.Link in
    let count = c.in-Ok-Bytes.count in
    let room = c.receive.new.room in
    let bound = rw c.in-Ok-Bytes.field-0-is at c.in-Ok-Bytes.ensures.bound in
    let bytes = rw c.in-Ok-Bytes.field-0-is at c.in-Ok-Bytes.ensures.bytes in
    let quiets = rw c.in-Ok-Bytes.field-0-is at c.in-Ok-Bytes.ensures.quiets in
    let endings = rw c.in-Ok-Bytes.field-0-is at c.in-Ok-Bytes.ensures.endings in
    let given = rw c.in-Ok-Bytes.field-0-is at c.in-Ok-Bytes.ensures.given in
    let later = c.receive.ensures.cause.later in
    let same = c.receive.auto.room in
    let len = length-take-le count room bound.1 in
    record {
      brings =
          piece_brings (state_by link.left link.sent link.faults link.quiets link.endings link.given c.args.link.now) (state_by link.left link.sent link.faults link.quiets link.endings link.given c.receive.new.self)
          c.args.reader.now c.read.new.reader _ (take count room) c.read.result c.read.ensures
          (bytes_give _ _ room count bound.0 bound.1 bytes given.1 later (omega (arith, quiets)) (omega (arith, endings))) (grind (arith, common_steps));
      most =
          piece_brings_at_most c.args.reader.now c.read.new.reader _ (take count room) _ c.read.result c.read.ensures (omega (arith, len, bound.0)) (omega (arith, len, bound.1, same)) (grind (arith, common_steps));
      sent = c.receive.ensures.sent;
    }

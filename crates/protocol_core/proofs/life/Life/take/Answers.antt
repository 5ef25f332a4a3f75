use Rattle.std.proofs.lemmas.Result.{on_ok_weaker}
use Rattle.protocol_core.specs.declared.life.Life.{Life}
use Rattle.protocol_core.specs.Settling.{settled}
use Rattle.protocol_core.specs.Turning.{on_item}
use Rattle.protocol_core.proofs.TurnedLemmas.{does-then}
use Rattle.protocol_core.proofs.life.Life.take.Goals as goal

pub returns : goal.returns
returns c =
    let taken = on_item c.args.self.now c.args.item in
    let done = does-then taken (λ (life : Life). settled life c.args.room) c.args.acts.now c.on_item.new.acts c.settle.new.acts c.on_item.new.self c.settle.new.self c.in_ok-on_item.ensures in
    on_ok_weaker c.settle.result done c.settle.ensures

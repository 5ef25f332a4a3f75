use Rattle.std.proofs.Common.{◌≡◌, ap, ◌∙◌}
use Rattle.retransmitter.specs.Slots.{least_free}
use Rattle.retransmitter.proofs.SlotSetLemmas.{free_of, least_of}
use Rattle.retransmitter.proofs.slots.Slots.least_free.Goals as goal

pub returns : goal.returns
returns c =
    let least : c.least.result ≡ least_free c.args.self.now =
    least_of c.self.inside.free.words c.self.inside.slots.items c.least.result c.self.invariant.0 c.self.invariant.1 c.least.ensures ∙ ap least_free c.self.view_is
    in
    record { least = least; free = free_of c.args.self.now c.least.result least }

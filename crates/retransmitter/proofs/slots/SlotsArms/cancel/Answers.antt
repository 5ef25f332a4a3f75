use Rattle.std.proofs.Common.{◌≡◌, ◌<◌, length, rules}
use Rattle.retransmitter.proofs.SlotSetLemmas.{still_free}
use Rattle.retransmitter.proofs.slots.SlotsArms.cancel.Goals as goal

pub invariant_of-self : goal.invariant_of-self
invariant_of-self c =
    let words : length c.self.inside.free.words ≡ 4 = search rules in
    let inside : c.a.inside.slot < length c.self.inside.slots.items = search rules in
    still_free c.self.inside.free.words c.set.new.self.words c.self.inside.slots.items c.a.inside.slot c.end-free.new.slot c.end-free.result words c.self.invariant inside c.end-free.ensures.free
    c.set.ensures

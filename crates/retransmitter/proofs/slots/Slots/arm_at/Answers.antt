use Rattle.std.proofs.Common.{◌≡◌, ◌<◌, length, false, refl, rules}
use Rattle.retransmitter.proofs.SlotSetLemmas.{still_free}
use Rattle.retransmitter.proofs.slots.Slots.arm_at.Goals as goal

-- a live slot is not free
pub invariant_of-self : goal.invariant_of-self
invariant_of-self c =
    let words : length c.self.inside.free.words ≡ 4 = search rules in
    let inside : c.args.slot < length c.self.inside.slots.items = search rules in
    still_free c.self.inside.free.words c.set.new.self.words c.self.inside.slots.items c.args.slot _ false words c.self.invariant inside refl c.set.ensures

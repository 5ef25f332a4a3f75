use Rattle.retransmitter.proofs.SlotSetLemmas.{has_all}
use Rattle.retransmitter.proofs.slot_set.SlotSet.all.Goals as goal

pub returns : goal.returns
returns c = has_all

use Rattle.std.proofs.Common.{◌≢◌, ◌<◌, ◌^◌, get_or, refl, rules}
use Rattle.retransmitter.proofs.SlotSetLemmas.{least_in_word}
use Rattle.retransmitter.proofs.slot_set.SlotSet.least.Goals as goal

pub returns-then-bits-ne0 : goal.returns-then-bits-ne0
returns-then-bits-ne0 c =
    let words = c.args.self.now.words in
    let word = c.loop-word.word in
    let some : get_or words word 0 ≢ 0 = search rules in
    let fits : get_or words word 0 < 2 ^ 64 = search rules in
    least_in_word words word (get_or words word 0) c.loop-word-test.true refl some fits c.loop-word.invariant

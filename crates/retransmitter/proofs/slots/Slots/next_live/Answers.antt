use Rattle.std.proofs.Common.{◌≡◌, ◌-◌, ◌+◌, suc, ◌∙◌, sym, ap, arith}
use Rattle.retransmitter.specs.Slots.{live_from}
use Rattle.retransmitter.proofs.SlotLemmas.{live_first, live_passed, live_found, live_none}
use Rattle.retransmitter.proofs.slots.Slots.next_live.Goals as goal

pub loop-init : goal.loop-init
loop-init c = live_first c.args.self.now c.args.cursor _ (omega arith)

pub loop-preserved : goal.loop-preserved
loop-preserved c =
    let below = c.loop-test.true in
    let more : 256 - c.loop.counter ≡ suc (256 - (c.loop.counter + 1)) = omega (arith, below) in
    sym (ap (λ n. live_from n c.args.self.now c.loop.slot) more ∙ live_passed _ c.args.self.now c.loop.slot (sym c.is_live.ensures ∙ c.if-is_live.false)) ∙ c.loop.invariant

pub returns-then-is_live : goal.returns-then-is_live
returns-then-is_live c =
    let below = c.loop-test.true in
    let more : 256 - c.loop.counter ≡ suc (256 - (c.loop.counter + 1)) = omega (arith, below) in
    sym (ap (λ n. live_from n c.args.self.now c.loop.slot) more ∙ live_found _ c.args.self.now c.loop.slot (sym c.is_live.ensures ∙ c.if-is_live.true)) ∙ c.loop.invariant

pub returns : goal.returns
returns c =
    let past = c.loop-test.false in
    let none : 256 - c.loop.counter ≡ 0 = omega (arith, past) in
    sym (ap (λ n. live_from n c.args.self.now c.loop.slot) none ∙ live_none c.args.self.now c.loop.slot) ∙ c.loop.invariant

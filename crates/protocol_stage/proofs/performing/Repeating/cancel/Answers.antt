use Rattle.std.proofs.Common.{◌<◌, sym, ap, subst, ◌∙◌}
use Rattle.protocol_stage.specs.Repeating.{Repeating, cancelled_for}
use Rattle.protocol_stage.proofs.TokenLemmas.{count_for, cancelled_next, cancelled_last, fewer_for}
use Rattle.protocol_stage.proofs.performing.Repeating.cancel.Goals as goal

pub loop-topic-smaller : goal.loop-topic-smaller
loop-topic-smaller g c =
    let topic = c.args.topic in
    let last = c.loop-topic.self in
    subst (λ (r : Repeating). count_for topic r.tokens < count_for topic last.tokens) (sym c.cancel_newest.ensures.after) (fewer_for topic last (sym c.cancel_newest.ensures.was ∙ c.loop-topic-test.true))

pub loop-topic-preserved : goal.loop-topic-preserved
loop-topic-preserved g c =
    ap (cancelled_for c.args.topic) c.cancel_newest.ensures.after ∙ cancelled_next c.args.topic c.loop-topic.self ∙ c.loop-topic.invariant

pub returns : goal.returns
returns g c =
    c.cancel_newest.ensures.after ∙ cancelled_last c.args.topic c.loop-topic.self (sym c.cancel_newest.ensures.was ∙ c.loop-topic-test.false) ∙ c.loop-topic.invariant

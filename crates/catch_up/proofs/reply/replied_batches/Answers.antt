-- Each turn of the loop takes one batch from what is left.
use Rattle.std.proofs.Common.{◌≡◌, ◌+◌, ◌-◌, ◌++◌, [], ◌∷◌, sym, ap, ◌∙◌}
use Rattle.std.specs.FinMap as map
use Rattle.jp_types.specs.Instances.{known_from, reply_limit}
use Rattle.catch_up.specs.Replying.{replied_batches}
use Rattle.catch_up.proofs.KnownLemmas.{all_so_far, all_taken, one_more}
use Rattle.catch_up.proofs.reply.replied_batches.Goals as goal

pub loop-init : goal.loop-init
unfolding replied_batches
loop-init c = ap (λ so_far. so_far ++ known_from reply_limit (map.get c.args.log.now.known) c.args.first) c.empty-batches.ensures

pub returns-in-None : goal.returns-in-None
returns-in-None c = all_so_far (map.get c.args.log.now.known) _ c.loop.instance _ _ c.loop.invariant (sym c.in-None.ensures.value)

pub loop-preserved : goal.loop-preserved
loop-preserved c =
    let known = map.get c.args.log.now.known in
    let batches : c.push.new.self ≡ c.loop.batches ++ c.in-Some.batch.now ∷ [] =
    c.in_ok-push-in-Some.ensures.ok ∙ ap (λ b. c.loop.batches ++ b ∷ []) c.in_ok-copy-in-Some.ensures in
    let next = one_more known reply_limit c.loop.counter c.loop.instance c.in-Some.batch.now _ _ c.loop-test.true (sym c.in-Some.ensures.value) c.loop.invariant in
    (λ k. batches k ++ known_from (reply_limit - (c.loop.counter + 1)) known (c.instance_after-instance.ensures k)) ∙ next

pub returns : goal.returns
returns c = all_taken (map.get c.args.log.now.known) reply_limit c.loop.counter c.loop.instance _ _ c.loop-test.false c.loop.invariant

use Rattle.std.proofs.Common.{◌≡◌, ◌<◌, length, sym, ◌∙◌, ap, arith}
use Rattle.client_io.specs.Sessions.{Session, queued_for}
use Rattle.client_io.proofs.Queueing.{on_ok, queued_at, same_read}
use Rattle.client_io.proofs.stage.queue_in.Goals as goal

pub returns-then-number-clause-ok : goal.returns-then-number-clause-ok
returns-then-number-clause-ok g c =
    let items = c.loop-i.sessions.items in
    let s = c.index_mut.result.now in
    let ends = c.loop-i.invariant.ends in
    let test = c.loop-i-test.true in
    let lt : c.loop-i.i < length items = omega arith in
    let is : c.index.result.now ≡ s = same_read items c.loop-i.i c.index.result.now s lt c.index.ensures c.index_mut.ensures.value in
    let number : s.number ≡ c.args.number = sym (ap (λ (x : Session). x.number) is) ∙ sym c.number.ensures ∙ c.if-number.true in
    on_ok c.queue.result
    (λ new. queued_at c.args.number c.args.bytes.now items c.loop-i.i s c.queue.new.self lt c.index_mut.ensures.value number new c.loop-i.invariant.ahead
    ∙ ap (queued_for c.args.number c.args.bytes.now) c.loop-i.invariant.same)
    c.queue.ensures.ok

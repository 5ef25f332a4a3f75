use Rattle.std.proofs.Common.{◌∙◌, ℕ, List, take, subst}
use Rattle.std.specs.Io.KnownBytes.{Appends}
use Rattle.client_io.specs.Links.{state_by}
use Rattle.client_io.proofs.Attempting.{asked_after_ok, asked_in_vain}
use Rattle.client_io.proofs.attempt.attempt.Goals as goal

pub returns-in-Ok : goal.returns-in-Ok
returns-in-Ok g c =
    let link = g.L.Link in
    let before = state_by link.left link.sent link.faults link.quiets link.endings link.given c.args.link.now in
    let mid = state_by link.left link.sent link.faults link.quiets link.endings link.given c.send_all.new.link in
    let after = state_by link.left link.sent link.faults link.quiets link.endings link.given c.wait_for_answer.new.link in
    let told = c.send_all.ensures in
    asked_after_ok c.args.request.now before mid after c.wait_for_answer.result
    (subst (λ (x : List ℕ). Appends before.sent mid.sent x) (c.deref.ensures.value ∙ c.in_ok-bytes.ensures) c.in-Ok.ensures.ok)
    told.cause.later told.left told.quiets told.endings told.given c.wait_for_answer.ensures.sent c.wait_for_answer.ensures.attempts

pub returns : goal.returns
returns g c =
    let link = g.L.Link in
    let before = state_by link.left link.sent link.faults link.quiets link.endings link.given c.args.link.now in
    let after = state_by link.left link.sent link.faults link.quiets link.endings link.given c.send_all.new.link in
    let told = c.send_all.ensures in
    let begun = c.in-Err.ensures.begun in
    asked_in_vain c.args.request.now before after begun.0 c.in_ok-reader.reader c.in_ok-reader.ensures
    (subst (λ (x : List ℕ). Appends before.sent after.sent (take begun.0 x)) (c.deref.ensures.value ∙ c.in_ok-bytes.ensures) begun.1)
    c.in-Err.ensures.cause.failed told.left told.given

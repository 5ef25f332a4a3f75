use Rattle.frame_fields.specs.Spelling.{request_bytes}
use Rattle.message_codec.proofs.Joins.{one_more}
use Rattle.message_codec.proofs.writing.push_requests.Goals as goal

pub loop-request-preserved : goal.loop-request-preserved
loop-request-preserved c =
    one_more request_bytes c.args.out.now.items c.loop-request.out.items c.push_request.new.out.items c.args.requests.now c.loop-request.request-index c.request-item.result c.loop-request-test.true c.request-item.is
    c.loop-request.invariant c.in_ok-push_request.ensures

use Rattle.std.proofs.Common.{◌≡◌, take}
use Rattle.kv_service.specs.Service.{outcomes, take_requests}
use Rattle.kv_service.proofs.state.State.take_requests.Given as goal

-- what the requests so far come to
abbrev pub invariant-loop-request : goal.invariant-loop-request
invariant-loop-request l =
    record {
      told : l.made.items ≡ outcomes l.fn.self (take l.request-index l.requests);
      now : l.self ≡ (take_requests l.fn.self (take l.request-index l.requests)).0;
    }

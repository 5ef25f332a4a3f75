use Rattle.std.proofs.Common.{◌≡◌, ◌-◌, ◌+◌, ◌<◌, ℕ, List, Ok, take, sym, ap, subst, ◌∙◌, arith}
use Rattle.std.proofs.lemmas.List.{take_all, take_more_set, length-set}
use Rattle.std.proofs.lemmas.Result.{err_from_is_err_and}
use Rattle.frame_fields.specs.Reading.{counter}
use Rattle.frame_fields.specs.Telling.{fault_of}
use Rattle.message_codec.proofs.Loops.{with_front, one_of, times_of, times_one_by_one, ends, goes_on, is_done}
use Rattle.message_codec.proofs.fields.vector.Goals as goal

pub returns-in_err-vector : goal.returns-in_err-vector
returns-in_err-vector c =
    let p = err_from_is_err_and c.from_residual.result c.from_residual.ensures.1 in
    rw (p.1, p.2)
    (ends (λ x. tt) (one_of counter) (times_of counter) (times_one_by_one counter) (fault_of c.in_err-vector.field-0.0) (take c.loop-replica.replica c.loop-replica.vector) 9 c.loop-replica.replica tt c.loop-replica.fields (times_of counter 9 tt c.args.fields.now) c.loop-replica-test.true
    c.in_err-vector.ensures c.loop-replica.invariant.read)

pub loop-replica-preserved : goal.loop-replica-preserved
loop-replica-preserved c =
    let vector = c.loop-replica.vector in
    let place = c.loop-replica.replica in
    let epoch = c.in_ok-vector.field-0 in
    let before = c.loop-replica.invariant in
    let size = before.size in
    let lt : place < 9 = c.loop-replica-test.true in
    let more = take_more_set vector place epoch (omega arith) in
    let go = goes_on (λ x. tt) (one_of counter) (times_of counter) (times_one_by_one counter) (take place vector) 9 place tt c.loop-replica.fields epoch c.counter.new.self (times_of counter 9 tt c.args.fields.now) lt c.in_ok-vector.ensures before.read in
    record {
      read = subst (λ (l : List ℕ). with_front l (times_of counter (9 - (place + 1)) tt c.counter.new.self) ≡ times_of counter 9 tt c.args.fields.now) (sym more) go;
      size = length-set vector place epoch ∙ before.size;
    }

pub returns : goal.returns
returns c =
    let vector = c.loop-replica.vector in
    let place = c.loop-replica.replica in
    let before = c.loop-replica.invariant in
    let done = is_done (λ x. tt) (one_of counter) (times_of counter) (times_one_by_one counter) (take place vector) 9 place tt c.loop-replica.fields (times_of counter 9 tt c.args.fields.now) c.loop-replica-test.false before.read in
    let size = before.size in
    let last = c.loop-replica-test.false in
    let whole : take place vector ≡ vector = take_all place vector (omega arith) in
    done ∙ ap (λ (l : List ℕ). Ok (l, c.loop-replica.fields)) whole

use Rattle.std.proofs.Common.{ℕ, List, ◌++◌, length, ap, ◌∙◌}
use Rattle.std.proofs.lemmas.Result.{IfOk-equal}
use Rattle.std.specs.List.{flat_map}
use Rattle.std.specs.Int.{to_be_bytes, w32}
use Rattle.frame_fields.specs.Spelling.{optional_bytes}
use Rattle.message_codec.specs.Spelling.{counter_bytes, batch_bytes, report_bytes}
use Rattle.message_codec.proofs.Joins.{two, three, four, five}
use Rattle.message_codec.proofs.writing.push_fields.Goals as goal

pub returns-in-PrepareOk : goal.returns-in-PrepareOk
returns-in-PrepareOk c =
    let m = c.in-PrepareOk.m in
    let old = c.args.out.now.items in
    rw c.in-PrepareOk.is
    (IfOk-equal c.push_prepare_ok.result c.push_prepare_ok.new.out.items (old ++ counter_bytes m.view ++ counter_bytes m.mark ++ flat_map counter_bytes m.vector ++ counter_bytes m.low ++ report_bytes m.report)
    (old ++ (counter_bytes m.view ++ counter_bytes m.mark ++ flat_map counter_bytes m.vector ++ counter_bytes m.low ++ report_bytes m.report)) c.push_prepare_ok.ensures
    (five old (counter_bytes m.view) (counter_bytes m.mark) (flat_map counter_bytes m.vector) (counter_bytes m.low) (report_bytes m.report)))

pub returns-in_ok-push_two-in-Propose : goal.returns-in_ok-push_two-in-Propose
returns-in_ok-push_two-in-Propose c =
    let m = c.in-Propose.m in
    let old = c.args.out.now.items in
    rw c.in-Propose.is
    (IfOk-equal c.push_batch.result c.push_batch.new.out.items (c.push_two.new.out.items ++ batch_bytes m.batch) (old ++ (counter_bytes m.view ++ counter_bytes m.instance ++ batch_bytes m.batch)) c.push_batch.ensures
    (ap (λ (l : List ℕ). l ++ batch_bytes m.batch) c.in_ok-push_two-in-Propose.ensures ∙ three old (counter_bytes m.view) (counter_bytes m.instance) (batch_bytes m.batch)))

pub returns-in-Accept : goal.returns-in-Accept
returns-in-Accept c =
    let m = c.in-Accept.m in
    let old = c.args.out.now.items in
    rw c.in-Accept.is
    (IfOk-equal c.push_two-in-Accept.result c.push_two-in-Accept.new.out.items (old ++ counter_bytes m.view ++ counter_bytes m.instance) (old ++ (counter_bytes m.view ++ counter_bytes m.instance)) c.push_two-in-Accept.ensures
    (two old (counter_bytes m.view) (counter_bytes m.instance)))

pub returns-in-RecoveryAnswer : goal.returns-in-RecoveryAnswer
returns-in-RecoveryAnswer c =
    let m = c.in-RecoveryAnswer.m in
    let old = c.args.out.now.items in
    rw c.in-RecoveryAnswer.is
    (IfOk-equal c.push_recovery_answer.result c.push_recovery_answer.new.out.items (old ++ counter_bytes m.mark ++ counter_bytes m.view ++ flat_map counter_bytes m.vector ++ optional_bytes counter_bytes m.next) (old ++ (counter_bytes m.mark ++ counter_bytes m.view ++ flat_map counter_bytes m.vector ++ optional_bytes counter_bytes m.next)) c.push_recovery_answer.ensures
    (four old (counter_bytes m.mark) (counter_bytes m.view) (flat_map counter_bytes m.vector) (optional_bytes counter_bytes m.next)))

pub returns-in-SnapshotPart : goal.returns-in-SnapshotPart
returns-in-SnapshotPart c =
    let m = c.in-SnapshotPart.m in
    let old = c.args.out.now.items in
    rw c.in-SnapshotPart.is
    (IfOk-equal c.push_snapshot_part.result c.push_snapshot_part.new.out.items (old ++ counter_bytes m.upto ++ to_be_bytes w32 m.total ++ to_be_bytes w32 m.at ++ to_be_bytes w32 (length m.bytes) ++ m.bytes) (old ++ (counter_bytes m.upto ++ to_be_bytes w32 m.total ++ to_be_bytes w32 m.at ++ to_be_bytes w32 (length m.bytes) ++ m.bytes)) c.push_snapshot_part.ensures
    (five old (counter_bytes m.upto) (to_be_bytes w32 m.total) (to_be_bytes w32 m.at) (to_be_bytes w32 (length m.bytes)) m.bytes))

pub returns-in-Alive : goal.returns-in-Alive
returns-in-Alive c =
    let m = c.in-Alive.m in
    let old = c.args.out.now.items in
    rw c.in-Alive.is
    (IfOk-equal c.push_two-in-Alive.result c.push_two-in-Alive.new.out.items (old ++ counter_bytes m.view ++ counter_bytes m.first_undecided) (old ++ (counter_bytes m.view ++ counter_bytes m.first_undecided)) c.push_two-in-Alive.ensures
    (two old (counter_bytes m.view) (counter_bytes m.first_undecided)))

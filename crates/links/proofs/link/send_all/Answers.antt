use Rattle.std.proofs.Common.{arith, rules, ◌∙◌}
use Rattle.std.proofs.Math.Seq.{take-add}
use Rattle.std.proofs.lemmas.List.{take_rest}
use Rattle.std.proofs.KnownBytes.{Appends-trans}
use Rattle.links.proofs.link.send_all.Goals as goal

pub pieces-preserved : goal.pieces-preserved
pieces-preserved g c =
    let before = c.pieces.invariant in
    let sent = c.in_ok-done.ensures in
    record {
      within = search rules;
      sent = rw take-add (Appends-trans _ _ _ _ _ before.sent (rw take_rest at sent.bytes));
      left = sent.left ∙ before.left;
      later = omega (arith, sent.cause.later);
      quiets = sent.quiets ∙ before.quiets;
      endings = sent.endings ∙ before.endings;
      given = sent.given ∙ before.given;
    }

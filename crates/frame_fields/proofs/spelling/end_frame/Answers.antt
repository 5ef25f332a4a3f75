use Rattle.std.proofs.Common.{ℕ, ap, ◌∙◌}
use Rattle.frame_fields.specs.Spelling.{filled}
use Rattle.frame_fields.proofs.Framing.{filled-frame}
use Rattle.frame_fields.proofs.spelling.end_frame.Goals as goal

pub returns-clause-frame : goal.returns-clause-frame
returns-clause-frame c before kind fields at e = c.fill_length.ensures ∙ ap (λ (n : ℕ). filled n c.args.out.now.items) at ∙ filled-frame before kind fields c.args.out.now.items e

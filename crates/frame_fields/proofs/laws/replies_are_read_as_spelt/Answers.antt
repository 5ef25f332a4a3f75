use Rattle.frame_fields.proofs.FieldSpellings.{reply-spelt}
use Rattle.frame_fields.proofs.laws.replies_are_read_as_spelt.Goals as goal

pub returns : goal.returns
returns c batch = reply-spelt

use Rattle.frame_fields.proofs.FieldSpellings.{command-spelt}
use Rattle.frame_fields.proofs.laws.commands_are_read_as_spelt.Goals as goal

pub returns : goal.returns
returns c batch = command-spelt

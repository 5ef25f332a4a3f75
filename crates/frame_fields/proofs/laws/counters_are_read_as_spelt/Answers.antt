use Rattle.frame_fields.proofs.FieldSpellings.{counter-spelt}
use Rattle.frame_fields.proofs.laws.counters_are_read_as_spelt.Goals as goal

pub returns : goal.returns
returns c batch = counter-spelt

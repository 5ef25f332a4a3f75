use Rattle.frame_fields.proofs.FieldSpellings.{key-spelt, value-spelt, optional-spelt}
use Rattle.frame_fields.proofs.laws.keys_and_values_are_read_as_spelt.Goals as goal

pub returns-clause-key : goal.returns-clause-key
returns-clause-key c batch = key-spelt

pub returns-clause-value : goal.returns-clause-value
returns-clause-value c batch = value-spelt

pub returns-clause-optional : goal.returns-clause-optional
returns-clause-optional c batch = optional-spelt value-spelt

use Rattle.frame_fields.proofs.Spellings.{many, batched}
use Rattle.frame_fields.proofs.FieldSpellings.{request-spelt}
use Rattle.frame_fields.proofs.laws.requests_are_read_as_spelt.Goals as goal

pub returns-clause-one : goal.returns-clause-one
returns-clause-one c batch = request-spelt

pub returns-clause-many : goal.returns-clause-many
returns-clause-many c batch count = many count request-spelt

pub returns-clause-batch : goal.returns-clause-batch
returns-clause-batch c count = batched (λ start. many count request-spelt)

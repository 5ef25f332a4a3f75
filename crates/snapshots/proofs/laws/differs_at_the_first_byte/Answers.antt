-- The law is proved in `Differing`.
use Rattle.snapshots.proofs.Differing.{differing}
use Rattle.snapshots.proofs.laws.differs_at_the_first_byte.Goals as goal

pub returns : goal.returns
returns c = λ j m place cuts e. differing j m place cuts e

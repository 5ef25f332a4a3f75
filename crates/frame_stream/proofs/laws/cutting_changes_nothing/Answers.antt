use Rattle.frame_stream.proofs.OneReading.{cutting_changes_nothing}
use Rattle.frame_stream.proofs.laws.cutting_changes_nothing.Goals as goal

pub returns : goal.returns
returns g c = cutting_changes_nothing

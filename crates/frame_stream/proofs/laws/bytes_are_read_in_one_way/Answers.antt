use Rattle.frame_stream.proofs.OneReading.{one_reading}
use Rattle.frame_stream.proofs.laws.bytes_are_read_in_one_way.Goals as goal

pub returns : goal.returns
returns g c = one_reading

use Rattle.frame_stream.proofs.OneReading.{gives_what_is_read}
use Rattle.frame_stream.proofs.laws.readers_give_what_is_read.Goals as goal

pub returns : goal.returns
returns g c = gives_what_is_read

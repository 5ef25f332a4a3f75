use Rattle.client_codec.proofs.Frames.{no-front}
use Rattle.client_codec.proofs.laws.no_frame_is_the_front_of_another.Goals as goal

pub returns : goal.returns
returns c = no-front

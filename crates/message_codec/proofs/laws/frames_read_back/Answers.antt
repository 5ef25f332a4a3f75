use Rattle.message_codec.proofs.FrameSpellings.{reads-back}
use Rattle.message_codec.proofs.laws.frames_read_back.Goals as goal

pub returns : goal.returns
returns c = reads-back

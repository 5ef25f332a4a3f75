use Rattle.message_codec.proofs.FrameSpellings.{was-spelt}
use Rattle.message_codec.proofs.laws.frames_were_spelt.Goals as goal

pub returns : goal.returns
returns c = was-spelt

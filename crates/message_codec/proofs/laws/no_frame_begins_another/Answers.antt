use Rattle.message_codec.proofs.StreamSpellings.{no-frame-begins, no-old-frame-begins}
use Rattle.message_codec.proofs.laws.no_frame_begins_another.Goals as goal

pub returns : goal.returns
returns c = record { new = no-frame-begins; old = no-old-frame-begins }

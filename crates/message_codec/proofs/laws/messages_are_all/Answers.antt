use Rattle.message_codec.proofs.StreamSpellings.{messages-are-all}
use Rattle.message_codec.proofs.laws.messages_are_all.Goals as goal

pub returns : goal.returns
returns c = messages-are-all

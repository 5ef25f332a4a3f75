use Rattle.client_codec.proofs.Frames.{reads-back, was-spelt}
use Rattle.client_codec.proofs.laws.frames_are_read_as_spelt.Goals as goal

pub returns-clause-reads_back : goal.returns-clause-reads_back
returns-clause-reads_back c = reads-back

pub returns-clause-was_spelt : goal.returns-clause-was_spelt
returns-clause-was_spelt c = was-spelt

use Rattle.frame_stream.proofs.OneReading.{gives_what_is_read}
use Rattle.client_codec.specs.Frames.{client_rules}
use Rattle.client_codec.proofs.Frames.{longest-read}
use Rattle.client_codec.proofs.laws.the_longest_list_is_given.Goals as goal

pub returns : goal.returns
returns c stream frames reader are follows =
    let read = gives_what_is_read client_rules stream frames reader follows in
    (read.1.0, longest-read stream frames read.0 read.1.0 are read.1.1)

use Rattle.client_io.proofs.Reading.{fed}
use Rattle.client_io.proofs.hearing.read.Goals as goal

pub returns : goal.returns
returns c =
    fed c.args.reader.now c.feed.new.self c.args.piece.now c.new-frames.result.items c.feed.new.out.items c.from_vec.result c.feed.result c.in_ok-sound.sound
    c.new-frames.ensures.items c.from_vec.ensures c.feed.ensures.answer c.in_ok-sound.ensures c.feed.ensures.follows

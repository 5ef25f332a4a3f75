use Rattle.std.proofs.Common.{◌≤◌, ◌-◌, length, drop}
use Rattle.frame_stream.specs.Following.{HasRead}
use Rattle.frame_stream.proofs.reader.read_frames.Given as goal

-- the frames before the start were read
abbrev pub invariant-frames : goal.invariant-frames
invariant-frames g l =
    record {
      read : HasRead (g.G.Grammar.rules l.grammar) l.fn.at l.bytes l.fn.out.items l.out.items l.at (drop l.start l.bytes);
      within : l.start ≤ length l.bytes;
    }

abbrev pub decreases-frames : goal.decreases-frames
decreases-frames g l = length l.bytes - l.start

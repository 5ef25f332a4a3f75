use Rattle.std.proofs.Common.{◌∙◌, ap, sym}
use Rattle.client_io.specs.Ends.{first_ending}
use Rattle.client_io.proofs.Attempting.{frames_turn, lost_ends}
use Rattle.client_io.proofs.attempt.Waiting.turn.Goals as goal

pub returns-in-Lost-clause-waits : goal.returns-in-Lost-clause-waits
returns-in-Lost-clause-waits g c = λ before w.
    lost_ends c.args.number before _ _ c.args.self.now c.receive.new.reader w (rw c.in-Lost.is at c.in_ok-receive.ensures.brings)

pub returns-in-Frames-clause-waits : goal.returns-in-Frames-clause-waits
returns-in-Frames-clause-waits g c = λ before w.
    let frames = c.in-Frames.frames in
    let found = ap (first_ending c.args.number) (sym c.into_vec.ensures) ∙ sym c.first_ending.ensures in
    rw c.ended_or.ensures
    (frames_turn c.args.number before _ _ c.args.self.now c.receive.new.reader w frames c.in-Frames.sound c.in-Frames.count
    (rw c.in-Frames.is at c.in_ok-receive.ensures.brings) c.first_ending.result found)

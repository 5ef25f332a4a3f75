use Rattle.std.proofs.Common.{◌≡◌, ◌≤◌, length, drop, arith}
use Rattle.std.proofs.lemmas.List.{take_rest, length-drop}
use Rattle.frame_stream.specs.Frames.{next_frame, Whole}
use Rattle.frame_stream.proofs.Feeding.{read_one}
use Rattle.frame_stream.proofs.reader.read_frames.Goals as goal

pub frames-preserved : goal.frames-preserved
frames-preserved g c =
    let all = take_rest c.args.bytes.now c.frames.start in
    let told = rw c.in-Some.is at c.in_ok-item.ensures.next in
    let next : next_frame (g.G.Grammar.rules c.args.grammar.now) c.frames.at (drop c.frames.start c.args.bytes.now) ≡ Whole c.in-Some.item c.in-Some.size = rw all at told in
    let sized = rw c.in-Some.is at c.in_ok-item.ensures.size in
    let small : c.in-Some.size ≤ length (drop c.frames.start c.args.bytes.now) = rw all at sized.1 in
    let left = length-drop c.frames.start c.args.bytes.now in
    let within : c.frames.start ≤ length c.args.bytes.now = c.frames.invariant.within in
    record {
      read =
          rw (c.in_ok-push.ensures.items, c.saturating_add.ensures)
          (read_one (g.G.Grammar.rules c.args.grammar.now) c.args.at.now c.args.bytes.now c.args.out.now.items c.frames.out.items c.frames.at c.frames.start c.in-Some.item c.in-Some.size
          c.frames.invariant.read next);
      within = omega arith;
    }

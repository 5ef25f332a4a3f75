use Rattle.std.proofs.Common.{drop, subst}
use Rattle.std.proofs.lemmas.Result.{err_from_is_err_and}
use Rattle.frame_stream.specs.Following.{Progress, HasRead}
use Rattle.frame_stream.proofs.reader.Reader.read_piece.Goals as goal

pub returns-in_err-extend_from_slice-clause-taken : goal.returns-in_err-extend_from_slice-clause-taken
returns-in_err-extend_from_slice-clause-taken g c =
    let p = err_from_is_err_and c.from_residual-in_err-extend_from_slice.result c.from_residual-in_err-extend_from_slice.ensures.1 in
    let rest = drop c.in_ok-start.start c.args.piece.now in
    let read = subst (λ (r : Progress g.row.G.Denot). HasRead (g.G.Grammar.rules r.grammar) r.at c.args.piece.now c.args.out.now.items c.read_frames.new.out.items c.read_frames.new.at rest) c.self.view_is c.in_ok-start.ensures.taken.0 in
    rw (p.1, p.2) (rest, (read, tt))

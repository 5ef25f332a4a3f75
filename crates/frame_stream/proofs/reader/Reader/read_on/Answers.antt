use Rattle.std.proofs.Common.{◌≡◌, ◌++◌, ℕ, sym, ap, subst}
use Rattle.std.proofs.lemmas.Result.{err_from_is_err_and}
use Rattle.frame_stream.specs.Following.{Progress, HasRead}
use Rattle.frame_stream.proofs.Feeding.{read_none}
use Rattle.frame_stream.proofs.reader.Reader.read_on.Goals as goal

pub returns-in_err-extend_from_slice-clause-taken : goal.returns-in_err-extend_from_slice-clause-taken
returns-in_err-extend_from_slice-clause-taken g c =
    let p = err_from_is_err_and c.from_residual.result c.from_residual.ensures.1 in
    let bytes = c.args.self.now.kept ++ c.args.piece.now in
    let at : c.args.self.now.at ≡ c.self.inside.at = sym (ap (λ (r : Progress g.row.G.Denot). r.at) c.self.view_is) in
    let none = read_none (g.G.Grammar.rules c.args.self.now.grammar) c.args.self.now.at bytes c.args.out.now.items in
    rw (p.1, p.2)
    (bytes, (subst (λ (n : ℕ). HasRead (g.G.Grammar.rules c.args.self.now.grammar) c.args.self.now.at bytes c.args.out.now.items c.args.out.now.items n bytes) at none, tt))

use Rattle.std.proofs.Common.{◌≡◌, None, Some, Result, Err, ap, subst}
use Rattle.frame_fields.specs.declared.fault.FrameFault.{FrameFault}
use Rattle.frame_stream.specs.Following.{Progress}
use Rattle.frame_stream.proofs.Feeding.{fed_ok, fed_err, fed_stopped, begun_ok, begun_err, begun_stopped}
use Rattle.frame_stream.proofs.reader.Reader.feed.Goals as goal

pub returns-in-Some-clause-follows : goal.returns-in-Some-clause-follows
returns-in-Some-clause-follows g c =
    λ stream items follows not.
    let fault : c.args.self.now.fault ≡ Some c.in-Some.fault = subst (λ (p : Progress g.row.G.Denot). p.fault ≡ Some c.in-Some.fault) c.self.view_is c.in-Some.is in
    fed_stopped (g.G.Grammar.rules c.args.self.now.grammar) stream c.args.piece.now items c.args.out.now.items c.args.self.now c.in-Some.fault fault follows

pub returns-in-Some-clause-begun : goal.returns-in-Some-clause-begun
returns-in-Some-clause-begun g c =
    λ stream items follows.
    let fault : c.args.self.now.fault ≡ Some c.in-Some.fault = subst (λ (p : Progress g.row.G.Denot). p.fault ≡ Some c.in-Some.fault) c.self.view_is c.in-Some.is in
    begun_stopped (g.G.Grammar.rules c.args.self.now.grammar) stream c.args.piece.now items c.args.out.now.items c.args.self.now c.in-Some.fault fault follows

pub returns-in-Ok-clause-follows : goal.returns-in-Ok-clause-follows
returns-in-Ok-clause-follows g c =
    λ stream items follows not.
    let none : c.args.self.now.fault ≡ None = subst (λ (p : Progress g.row.G.Denot). p.fault ≡ None) c.self.view_is c.in_default.is in
    fed_ok (g.G.Grammar.rules c.args.self.now.grammar) stream c.args.piece.now items c.args.out.now.items c.take.new.out.items c.args.self.now c.take.new.self none c.take.ensures.fault follows c.in-Ok.ensures.taken

pub returns-in-Ok-clause-begun : goal.returns-in-Ok-clause-begun
returns-in-Ok-clause-begun g c =
    λ stream items follows.
    let none : c.args.self.now.fault ≡ None = subst (λ (p : Progress g.row.G.Denot). p.fault ≡ None) c.self.view_is c.in_default.is in
    begun_ok (g.G.Grammar.rules c.args.self.now.grammar) stream c.args.piece.now items c.args.out.now.items c.take.new.out.items c.args.self.now c.take.new.self none follows c.in-Ok.ensures.taken

pub returns-in-Err-clause-follows : goal.returns-in-Err-clause-follows
returns-in-Err-clause-follows g c =
    λ stream items follows not.
    let none : c.args.self.now.fault ≡ None = subst (λ (p : Progress g.row.G.Denot). p.fault ≡ None) c.self.view_is c.in_default.is in
    fed_err (g.G.Grammar.rules c.args.self.now.grammar) stream c.args.piece.now items c.args.out.now.items c.take.new.out.items c.args.self.now c.take.new.self c.stop.new.self c.in-Err.fault none c.stop.ensures follows
    c.in-Err.ensures.taken (λ memory. not (ap (λ (e : FrameFault). let r : Result (Unit {0}) FrameFault = Err e in r) memory))

pub returns-in-Err-clause-begun : goal.returns-in-Err-clause-begun
returns-in-Err-clause-begun g c =
    λ stream items follows.
    let none : c.args.self.now.fault ≡ None = subst (λ (p : Progress g.row.G.Denot). p.fault ≡ None) c.self.view_is c.in_default.is in
    begun_err (g.G.Grammar.rules c.args.self.now.grammar) stream c.args.piece.now items c.args.out.now.items c.take.new.out.items c.args.self.now c.take.new.self c.in-Err.fault none follows c.in-Err.ensures.taken

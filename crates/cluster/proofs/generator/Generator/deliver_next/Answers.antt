use Rattle.std.proofs.Common.{◌≡◌, ◌∙◌, ◌<◌, suc, List, length, sym, ap, subst, add-one}
use Rattle.std.specs.Prelude.{Option, Some, None, slice_index, slice_set}
use Rattle.schedules.specs.declared.line.Line.{Line}
use Rattle.cluster.specs.Drawing.{AreLookedAt, delivers_next, Drawing, Drawn, Generating, message_from}
use Rattle.cluster.proofs.DrawingLemmas.{delivers_found, delivers_none, looked_at_again, looked_at_all, read_at}
use Rattle.cluster.proofs.generator.Generator.deliver_next.Goals as goal

pub returns-in-Some-clause-line : goal.returns-in-Some-clause-line
returns-in-Some-clause-line c =
    let g : Generating = record { drawing = record { word = c.self.inside.word; from = c.self.inside.from.items; made = c.self.inside.made.items }; seen = c.self.inside.seen.items } in
    let looked : AreLookedAt g c.args.sent.now = subst (λ (x : Generating). AreLookedAt x c.args.sent.now) (sym c.self.view_is) c.requires.looked in
    let low : c.args.replica < length g.seen = subst (λ (x : Generating). c.args.replica < length x.seen) (sym c.self.view_is) c.requires.replica in
    let found : message_from c.args.replica (slice_index g.seen c.args.replica) c.args.sent.now ≡ Some c.in-Some.message =
    ap (λ k. message_from c.args.replica k c.args.sent.now) (read_at g.seen c.args.replica c.index.result.now low c.index.ensures) ∙ sym c.message_from.ensures.value ∙ c.in-Some.is in
    let drawn : Drawn = (Line.Deliver c.args.replica c.in-Some.message, record g.drawing { from = slice_set g.drawing.from c.args.replica (suc c.in-Some.message) }) in
    rw add-one (subst (λ (x : Generating). drawn ≡ delivers_next (message_from c.args.replica (slice_index x.drawing.from c.args.replica) c.args.sent.now) c.args.replica x.drawing) c.self.view_is
    (sym (delivers_found g c.args.sent.now c.args.replica c.in-Some.message looked low found)))

pub returns-in-None-clause-line : goal.returns-in-None-clause-line
returns-in-None-clause-line c =
    let g : Generating = record { drawing = record { word = c.self.inside.word; from = c.self.inside.from.items; made = c.self.inside.made.items }; seen = c.self.inside.seen.items } in
    let looked : AreLookedAt g c.args.sent.now = subst (λ (x : Generating). AreLookedAt x c.args.sent.now) (sym c.self.view_is) c.requires.looked in
    let low : c.args.replica < length g.seen = subst (λ (x : Generating). c.args.replica < length x.seen) (sym c.self.view_is) c.requires.replica in
    let none : message_from c.args.replica (slice_index g.seen c.args.replica) c.args.sent.now ≡ None =
    ap (λ k. message_from c.args.replica k c.args.sent.now) (read_at g.seen c.args.replica c.index.result.now low c.index.ensures) ∙ sym c.message_from.ensures.value ∙ c.in-None.is in
    let drawn : Drawn = (Line.Protocol c.args.replica, g.drawing) in
    subst (λ (x : Generating). drawn ≡ delivers_next (message_from c.args.replica (slice_index x.drawing.from c.args.replica) c.args.sent.now) c.args.replica x.drawing) c.self.view_is
    (sym (delivers_none g c.args.sent.now c.args.replica looked low none))

pub returns-in-None-clause-looked : goal.returns-in-None-clause-looked
returns-in-None-clause-looked c =
    let g : Generating = record { drawing = record { word = c.self.inside.word; from = c.self.inside.from.items; made = c.self.inside.made.items }; seen = c.self.inside.seen.items } in
    let looked : AreLookedAt g c.args.sent.now = subst (λ (x : Generating). AreLookedAt x c.args.sent.now) (sym c.self.view_is) c.requires.looked in
    let low : c.args.replica < length g.seen = subst (λ (x : Generating). c.args.replica < length x.seen) (sym c.self.view_is) c.requires.replica in
    let none : message_from c.args.replica (slice_index g.seen c.args.replica) c.args.sent.now ≡ None =
    ap (λ k. message_from c.args.replica k c.args.sent.now) (read_at g.seen c.args.replica c.index.result.now low c.index.ensures) ∙ sym c.message_from.ensures.value ∙ c.in-None.is in
    looked_at_again g c.args.sent.now c.args.replica (length c.args.sent.now) looked low
    (looked_at_all c.args.replica (slice_index g.drawing.from c.args.replica) (slice_index g.seen c.args.replica) c.args.sent.now (looked c.args.replica low) none)

use Rattle.std.proofs.Common.{◌≡◌, refl, subst, length, sym, ltb-true}
use Rattle.std.proofs.lemmas.Option.{slice_get_read}
use Rattle.std.specs.Prelude.{Some, IfOk, slice_get}
use Rattle.cluster.specs.Machine.{Machine}
use Rattle.cluster.specs.Stepping.{Stepping, Takes}
use Rattle.cluster.proofs.SteppingLemmas.{take_shown}
use Rattle.cluster.proofs.stepper.Stepper.step.Goals as goal

pub returns : goal.returns
returns c =
    let s : Stepping = record { head = c.self.inside.head; machines = c.self.inside.machines.items; sent = c.self.inside.sent } in
    let m : Machine = c.in-Some.machine.now in
    let found : slice_get s.machines c.args.replica ≡ Some m =
    slice_get_read s.machines (length s.machines) c.args.replica m refl (ltb-true c.args.replica (length s.machines) (sym c.in-Some.ensures.item.0)) c.in-Some.ensures.item.1 in
    subst (λ (t : Stepping). IfOk c.show.result (λ shown. Takes c.args.stage t c.args.replica (record { word = shown.word; steps = shown.steps; after = c.show.new.self }))) c.self.view_is
    (take_shown c.args.stage s c.args.replica m c.in_ok-did.did c.step.new.self c.show.new.self c.show.result found c.in_ok-did.ensures c.show.ensures.shown c.show.ensures.after)

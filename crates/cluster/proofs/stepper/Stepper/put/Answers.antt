use Rattle.std.proofs.Common.{◌≡◌, [], ◌∙◌, refl, ap, subst, length, sym, ltb-true}
use Rattle.std.proofs.lemmas.Option.{slice_get_read}
use Rattle.std.specs.Prelude.{Some, slice_get}
use Rattle.cluster.specs.declared.stepper.Shown.{Shown}
use Rattle.cluster.specs.Machine.{Machine}
use Rattle.cluster.specs.Stepping.{Outcome, Puts, Stepping, with_machine}
use Rattle.cluster.proofs.SteppingLemmas.{put_on, put_outcome}
use Rattle.cluster.proofs.stepper.Stepper.put.Goals as goal

pub returns : goal.returns
returns c =
    let s : Stepping = record { head = c.self.inside.head; machines = c.self.inside.machines.items; sent = c.self.inside.sent } in
    let m : Machine = c.in-Some.machine.now in
    let found : slice_get s.machines c.args.replica ≡ Some m =
    slice_get_read s.machines (length s.machines) c.args.replica m refl (ltb-true c.args.replica (length s.machines) (sym c.in-Some.ensures.item.0)) c.in-Some.ensures.item.1 in
    let o : Outcome = record { word = c.without_steps-2.result.word; steps = c.without_steps-2.result.steps; after = with_machine s c.args.replica c.put-word.new.self } in
    let shown : o ≡ record { word = c.put-word.result; steps = []; after = with_machine s c.args.replica c.put-word.new.self } =
    ap (λ (x : Shown). record { word = x.word; steps = x.steps; after = with_machine s c.args.replica c.put-word.new.self }) c.without_steps-2.ensures in
    let comes : record { word = c.put-word.result; steps = []; after = with_machine s c.args.replica c.put-word.new.self } ≡ put_outcome c.args.stage c.args.item s c.args.replica m m.running =
    rw (c.put-word.ensures.word, c.put-word.ensures.after) refl in
    let puts : Puts c.args.stage c.args.item s c.args.replica o = put_on c.args.stage c.args.item s c.args.replica m o found (shown ∙ comes) in
    subst (λ (t : Stepping). Puts c.args.stage c.args.item t c.args.replica o) c.self.view_is puts

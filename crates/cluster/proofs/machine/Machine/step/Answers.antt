use Rattle.std.proofs.Common.{ℕ, List, ◌∙◌, refl, sym, ap, subst}
use Rattle.cluster.specs.Machine.{Machine}
use Rattle.cluster.specs.Machines.{KeepsDisk}
use Rattle.cluster.proofs.MachineLemmas.{step_taken}
use Rattle.cluster.proofs.machine.Machine.step.Goals as goal

pub returns : goal.returns
returns c =
    let took = c.step_over-stepped in
    step_taken c.args.stage c.args.self.now c.in-Some.replica took.result took.new.replica took.new.disk _ c.answer_of.result
    (ap (λ (m : Machine). m.running) (sym c.self.view_is) ∙ c.in-Some.is)
    took.ensures.does
    (λ told. subst (λ (disk : List ℕ). KeepsDisk c.args.stage disk took.new.replica took.new.disk) (ap (λ (m : Machine). m.disk) c.self.view_is) (took.ensures.keeps told))
    c.answer_of.ensures.ok refl

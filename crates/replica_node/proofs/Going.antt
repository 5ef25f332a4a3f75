-- What a step of the code leaves, where it is known what the step does.
use Rattle.std.proofs.Common.{◌≡◌, false, sym, ap, subst, ◌∙◌}
use Rattle.paxos_world.specs.Replica.{Running}
use Rattle.replica_node.specs.Resembling.{Resembles}
use Rattle.replica_node.specs.Stepping.{Stepping, Is}
use Rattle.replica_node.specs.Whole.{Whole}
use Rattle.replica_node.specs.declared.stages.Stages.{Stages}
use Rattle.replica_node.specs.declared.stages.Taken.{Taken}

-- a replica that is up, with these stages
abbrev pub up-with : Stages → Whole
up-with stages = record { stages = stages; down = false }

-- a replica that is up is given by its stages
pub whole-is : (w : Whole) (stages : Stages) → w.down ≡ false → w.stages ≡ stages → w ≡ up-with stages
whole-is w stages up e = λ k. record { stages = e k; down = up k }

-- a replica that is that of the model is up
pub still : (a : Running) (w : Whole) → Resembles a w → Resembles a (up-with w.stages)
still a w h = subst (Resembles a) (whole-is w w.stages h.up (λ k. w.stages)) h

-- what holds of the answer and the stages of a step that is known holds of what the step answered and left
pub by-step : (P : Taken → Whole → Type 0) (step known : Stepping) (taken : Taken) (new : Whole) → Is step taken new.stages → new.down ≡ false → step ≡ known
    → P known.answer (up-with known.stages) → P taken new
by-step P step known taken new is up e p = subst (λ (t : Taken). P t new) (sym answer) (subst (P known.answer) (sym whole) p)
  where
    answer : taken ≡ known.answer
    answer = is.0 ∙ ap (λ (x : Stepping). x.answer) e

    whole : new ≡ up-with known.stages
    whole = whole-is new known.stages up (is.1 ∙ ap (λ (x : Stepping). x.stages) e)

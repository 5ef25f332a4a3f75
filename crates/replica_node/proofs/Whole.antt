-- What a replica does is what the model's replica does.
use Rattle.std.proofs.Common.{◌≡◌, false}
use Rattle.paxos_world.specs.Replica.{Running}
use Rattle.protocol_stage.proofs.Following.{turns-follow, opens-follow}
use Rattle.replica_node.specs.Answers.{answer_of}
use Rattle.replica_node.specs.Following.{FollowsStep, step_of}
use Rattle.replica_node.specs.Resembling.{Resembles}
use Rattle.replica_node.specs.Steps.{Steps, StepsAt}
use Rattle.replica_node.specs.Whole.{Whole}
use Rattle.replica_node.specs.declared.stage.Stage.{Stage}
use Rattle.replica_node.specs.declared.stage.Stage.TheVariants as stage
use Rattle.replica_node.specs.declared.stage.Stepped.{Stepped}
use Rattle.replica_node.specs.declared.stage.Stepped.TheVariants as answer
use Rattle.replica_node.specs.declared.stages.Taken.{Taken}
use Rattle.replica_node.proofs.BatchStep.{batch-follows}
use Rattle.replica_node.proofs.Goals.{StepsFollow, PutsFollow, StartsFollow}
use Rattle.replica_node.proofs.ProtocolStep.{protocol-follows}
use Rattle.replica_node.proofs.Puts as puts
use Rattle.replica_node.proofs.RetransmitStep.{retransmit-follows}
use Rattle.replica_node.proofs.ServiceStep.{service-follows}
use Rattle.replica_node.proofs.Starts as starts

-- a step is the model's, where one that does not fail is; nothing is shown of one that fails, and none finds the replica down
by-answer : (at : Stage) (a : Running) (w new : Whole) → Resembles a w → ((taken : Taken) → new.down ≡ false → StepsAt at w.stages taken new.stages → FollowsStep (step_of at a) a (answer_of taken) new)
    → (given : Stepped) → Steps at w given new → FollowsStep (step_of at a) a given new
by-answer at a w new h follows (answer.Done acts) g = follows (Taken.Done acts) g.after g.step
by-answer at a w new h follows answer.Empty g = follows Taken.Empty g.after g.step
by-answer at a w new h follows answer.Full g = follows Taken.Full g.after g.step
by-answer at a w new h follows answer.Down g = let down = g.0 in let up = h.up in absurd cc
by-answer at a w new h follows answer.StoreFault g = tt
by-answer at a w new h follows answer.NoMemory g = tt

-- a step of a replica is the model's
pub steps-follow : StepsFollow
steps-follow stage.Batch a w new given h may g = by-answer stage.Batch a w new h (λ taken up is. batch-follows a w new taken h up is) given g
steps-follow stage.Protocol a w new given h may g = by-answer stage.Protocol a w new h (λ taken up is. protocol-follows turns-follow a w new h up taken is) given g
steps-follow stage.Service a w new given h may g = by-answer stage.Service a w new h (λ taken up is. service-follows a w new taken h may up is) given g
steps-follow stage.Retransmit a w new given h may g = by-answer stage.Retransmit a w new h (λ taken up is. retransmit-follows a w new taken h up is) given g

-- an item that is put in a lane is put in that of the model
pub puts-follow : PutsFollow
puts-follow = puts.puts-follow

-- a replica that began is the model's
pub starts-follow : StartsFollow
starts-follow = starts.starts-follow opens-follow

use Rattle.replica_node.proofs.Whole.{steps-follow}
use Rattle.replica_node.proofs.replica.Replica.step.Goals as goal

pub returns-clause-follows : goal.returns-clause-follows
returns-clause-follows g c a h may = steps-follow c.args.stage a c.args.self.now c.take.new.self c.take.result h may c.take.ensures.steps

use Rattle.std.proofs.Common.{◌&&◌, not, Bool, sym, subst}
use Rattle.replica_node.specs.Following.{FollowsPut}
use Rattle.replica_node.specs.Lanes.{is_full_at, is_kind_of}
use Rattle.replica_node.specs.Whole.{Whole}
use Rattle.replica_node.proofs.Whole.{puts-follow}
use Rattle.replica_node.proofs.replica.Replica.put.Goals as goal

pub returns-clause-follows : goal.returns-clause-follows
returns-clause-follows c a h =
    let at = c.args.stage in
    let item = c.args.item in
    let old = c.args.self.now in
    let took : Bool = is_kind_of at item && not (is_full_at old.stages at) in
    subst (λ (x : Bool). FollowsPut a at item x c.put_in.new.self) (sym c.put_in.ensures.value)
    (subst (λ (new : Whole). FollowsPut a at item took new) (sym c.put_in.ensures.after) (puts-follow a at item old h))

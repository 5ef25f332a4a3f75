use Rattle.std.proofs.Common.{◌≡◌, inl, inr, ⊎_elim, ℕ, List, Some, ap, subst, ◌∙◌}
use Rattle.paxos_world.specs.Turn as model_turn
use Rattle.stable_store.proofs.Moments.{widened}
use Rattle.stable_store.specs.Slots.{Loads}
use Rattle.protocol_core.specs.declared.act.Act.{Act}
use Rattle.protocol_core.specs.declared.item.Item.{Item}
use Rattle.protocol_core.specs.declared.life.Life.{Life}
use Rattle.protocol_core.specs.Turning.{turn}
use Rattle.protocol_stage.specs.Following.{FollowsTurn, LoadsAtTurn}
use Rattle.protocol_stage.specs.Performing.{LoadsOneOf, outward}
use Rattle.protocol_stage.proofs.EpochLemmas.{epoch-stable}
use Rattle.protocol_stage.proofs.Following.{turns-follow, turns-stable}
use Rattle.protocol_stage.proofs.ResultLemmas.{if_ok_all}
use Rattle.protocol_stage.proofs.protocol.Protocol.turn.Goals as goal

pub returns-clause-epoch : goal.returns-clause-epoch
returns-clause-epoch g c mode = c.take.ensures.untouched (epoch-stable c.args.self.now.life c.args.item c.args.room mode)

pub returns-clause-follows : goal.returns-clause-follows
returns-clause-follows g c =
    let may_take = g.A.Arms.may_take in
    let old = c.args.self.now in
    let new = c.take.new.self in
    if_ok_all (λ (out : List Act). out ≡ outward (turn old.life c.args.item c.args.room).acts) (λ (out : List Act). FollowsTurn may_take c.args.item c.args.room old out new) c.take.result
    (λ out acts life repeated up. turns-follow may_take c.args.item c.args.room old new out life acts repeated up)
    c.take.ensures.acts c.take.ensures.life c.take.ensures.repeated c.take.ensures.up

pub returns-clause-stops : goal.returns-clause-stops
returns-clause-stops g c s i lives comes is =
    let disk = g.D.Disk in
    let old = c.args.self.now in
    let before : old.life.stable ≡ s.stable = ap (λ (l : Life). l.stable) lives.keeps.is in
    let after : (turn old.life c.args.item c.args.room).life.stable ≡ (model_turn.turn s i c.args.room).stage.stable =
    subst (λ (item : Item). (turn old.life item c.args.room).life.stable ≡ (model_turn.turn s i c.args.room).stage.stable) is (turns-stable s i c.args.room old lives comes)
    in
    widened disk.moment disk.left_since c.args.disk.now c.take.new.disk (LoadsAtTurn s i c.args.room) (LoadsOneOf (Some old.life.stable) (Some (turn old.life c.args.item c.args.room).life.stable))
    (c.take.ensures.any_moment lives.up)
    (λ image loads. ⊎_elim (λ l. inl (subst (λ (n : ℕ). Loads image (Some n)) before l)) (λ l. inr (subst (λ (n : ℕ). Loads image (Some n)) after l)) loads)

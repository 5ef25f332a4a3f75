use Rattle.std.proofs.Common.{rules, arith, ◌≡◌, ◌+◌, ◌≤◌, ◌++◌, ◌∷◌, List, length, subst}
use Rattle.std.proofs.lemmas.List.{length-append}
use Rattle.std.specs.Vec.Iter.{into_iter_items}
use Rattle.protocol_core.specs.declared.act.Act.{Act}
use Rattle.replica_node.specs.Lane.{places}
use Rattle.replica_node.specs.Taking.{handed_of}
use Rattle.replica_node.proofs.HandedLemmas.{room_left}
use Rattle.replica_node.proofs.taking.hand_on.Goals as goal

pub hand_act-requires : goal.hand_act-requires
hand_act-requires c =
    let all = c.args.lane.now ++ handed_of c.args.acts in
    let rest = into_iter_items c.next.new.self in
    let front : into_iter_items c.loop-act.act-iterator ≡ c.in-Some.act ∷ rest = search rules in
    let left : c.loop-act.lane ++ handed_of (c.in-Some.act ∷ rest) ≡ all = subst (λ (acts : List Act). c.loop-act.lane ++ handed_of acts ≡ all) front c.loop-act.invariant.lane in
    let split = length-append c.args.lane.now (handed_of c.args.acts) in
    let room = c.requires.room in
    let within : length all ≤ places = omega (arith, split, room) in
    record { room = room_left c.loop-act.lane all c.in-Some.act rest left within }

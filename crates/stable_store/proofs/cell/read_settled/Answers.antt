use Rattle.std.proofs.Common.{rules, arith, ◌≡◌, ◌≤◌, length, ◌∙◌}
use Rattle.std.proofs.lemmas.List.{take_all}
use Rattle.stable_store.proofs.cell.read_settled.Goals as goal

pub returns-clause-read : goal.returns-clause-read
returns-clause-read g c bytes is =
    let disk = g.D.Disk in
    let laws = g.met.D.Disk g.world.𝓛 g.world.𝓜 g.world.𝓡 ((λ s x. x), (λ x. x), (λ x. x), λ x. x) in
    let fits : disk.size c.args.disk.now ≡ 18 = search rules in
    let long : length bytes ≡ 18 = laws.whole c.args.disk.now bytes is ∙ fits in
    let room : length bytes ≤ length c.args.image.now = omega (arith, long) in
    c.in_ok-read.ensures.bytes bytes (c.length.ensures.seen ∙ c.sync.ensures.seen ∙ is) ∙ take_all (length c.args.image.now) bytes room

use Rattle.std.proofs.Common.{◌≡◌, ℕ, ◌*◌, ◌+◌, List, Some, length, ◌∙◌, if◌then◌else◌}
use Rattle.stable_store.proofs.Moments.{follows, widened}
use Rattle.stable_store.proofs.SaveLemmas.{at_first, at_second, at_third}
use Rattle.stable_store.specs.Disks.{TornFrom}
use Rattle.stable_store.specs.Slots.{Between}
use Rattle.stable_store.proofs.cell.write_slot.Goals as goal

-- a stop while the gate is closed
pub returns-in_err-shut-clause-any_moment : goal.returns-in_err-shut-clause-any_moment
returns-in_err-shut-clause-any_moment g c =
    let a = c.args in
    let disk = g.D.Disk in
    let old = a.disk.now in
    let seen = disk.seen old in
    let laws = g.met.D.Disk g.world.𝓛 g.world.𝓜 g.world.𝓡 ((λ s x. x), (λ x. x), (λ x. x), λ x. x) in
    let long : (bytes : List ℕ) → seen ≡ Some bytes → length bytes ≡ 18 = λ bytes is. laws.whole old bytes is ∙ c.requires.size in
    let P = Between a.slot a.number seen in
    let shuts : List ℕ → Type 0 = TornFrom (9 * a.slot + 8) (if c.is_some.result then 1 else 0) (disk.may_leave old) in
    widened disk.moment disk.left_since old c.shut.new.disk P shuts c.shut.ensures.any_moment
    (at_first a.slot a.number a.kept c.is_some.result c.is_some.ensures c.requires.slot c.ranges.number.fits seen long c.requires.kept (disk.may_leave old) c.requires.settled)

-- a stop while the number is written
pub returns-in_err-put-clause-any_moment : goal.returns-in_err-put-clause-any_moment
returns-in_err-put-clause-any_moment g c =
    let a = c.args in
    let disk = g.D.Disk in
    let old = a.disk.now in
    let seen = disk.seen old in
    let laws = g.met.D.Disk g.world.𝓛 g.world.𝓜 g.world.𝓡 ((λ s x. x), (λ x. x), (λ x. x), λ x. x) in
    let long : (bytes : List ℕ) → seen ≡ Some bytes → length bytes ≡ 18 = λ bytes is. laws.whole old bytes is ∙ c.requires.size in
    let P = Between a.slot a.number seen in
    let shuts : List ℕ → Type 0 = TornFrom (9 * a.slot + 8) (if c.is_some.result then 1 else 0) (disk.may_leave old) in
    let first = widened disk.moment disk.left_since old c.shut.new.disk P shuts c.shut.ensures.any_moment
    (at_first a.slot a.number a.kept c.is_some.result c.is_some.ensures c.requires.slot c.ranges.number.fits seen long c.requires.kept (disk.may_leave old) c.requires.settled) in
    let writes : List ℕ → Type 0 = TornFrom (9 * a.slot) (length c.to_be_bytes-bytes.result) (disk.may_leave c.shut.new.disk) in
    follows disk.moment disk.left_since old c.shut.new.disk c.put.new.disk P writes first c.put.ensures.any_moment
    (at_second a.slot a.number a.kept c.is_some.result c.is_some.ensures c.requires.slot c.ranges.number.fits seen long c.requires.kept c.to_be_bytes-bytes.result c.to_be_bytes-bytes.ensures (disk.seen c.shut.new.disk) c.in_ok-shut.ensures.seen (disk.may_leave c.shut.new.disk) c.in_ok-shut.ensures.settled)

-- a stop while the gate is opened, and the end
pub returns-clause-any_moment : goal.returns-clause-any_moment
returns-clause-any_moment g c =
    let a = c.args in
    let disk = g.D.Disk in
    let old = a.disk.now in
    let seen = disk.seen old in
    let laws = g.met.D.Disk g.world.𝓛 g.world.𝓜 g.world.𝓡 ((λ s x. x), (λ x. x), (λ x. x), λ x. x) in
    let long : (bytes : List ℕ) → seen ≡ Some bytes → length bytes ≡ 18 = λ bytes is. laws.whole old bytes is ∙ c.requires.size in
    let P = Between a.slot a.number seen in
    let shuts : List ℕ → Type 0 = TornFrom (9 * a.slot + 8) (if c.is_some.result then 1 else 0) (disk.may_leave old) in
    let first = widened disk.moment disk.left_since old c.shut.new.disk P shuts c.shut.ensures.any_moment
    (at_first a.slot a.number a.kept c.is_some.result c.is_some.ensures c.requires.slot c.ranges.number.fits seen long c.requires.kept (disk.may_leave old) c.requires.settled) in
    let writes : List ℕ → Type 0 = TornFrom (9 * a.slot) (length c.to_be_bytes-bytes.result) (disk.may_leave c.shut.new.disk) in
    let second = follows disk.moment disk.left_since old c.shut.new.disk c.put.new.disk P writes first c.put.ensures.any_moment
    (at_second a.slot a.number a.kept c.is_some.result c.is_some.ensures c.requires.slot c.ranges.number.fits seen long c.requires.kept c.to_be_bytes-bytes.result c.to_be_bytes-bytes.ensures (disk.seen c.shut.new.disk) c.in_ok-shut.ensures.seen (disk.may_leave c.shut.new.disk) c.in_ok-shut.ensures.settled) in
    let opens : List ℕ → Type 0 = TornFrom (9 * a.slot + 8) 1 (disk.may_leave c.put.new.disk) in
    follows disk.moment disk.left_since old c.put.new.disk c.put-2.new.disk P opens second c.put-2.ensures.any_moment
    (at_third a.slot a.number a.kept c.is_some.result c.is_some.ensures c.requires.slot c.ranges.number.fits seen long c.requires.kept c.to_be_bytes-bytes.result c.to_be_bytes-bytes.ensures (disk.seen c.shut.new.disk) (disk.seen c.put.new.disk) c.in_ok-shut.ensures.seen c.in_ok-put.ensures.seen (disk.may_leave c.put.new.disk) c.in_ok-put.ensures.settled)

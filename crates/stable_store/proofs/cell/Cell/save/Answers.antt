use Rattle.std.proofs.Common.{◌≡◌, ◌⊎◌, ℕ, List, Some, length, sym, ◌∙◌}
use Rattle.stable_store.proofs.Moments.{widened}
use Rattle.stable_store.proofs.HeldLemmas.{between_loads, slots_after, loads_after}
use Rattle.stable_store.specs.Slots.{Loads, Between, held}
use Rattle.stable_store.proofs.cell.Cell.save.Goals as goal

pub returns-in_err-write_slot-clause-any_moment : goal.returns-in_err-write_slot-clause-any_moment
returns-in_err-write_slot-clause-any_moment g c =
    let a = c.args in
    let disk = g.D.Disk in
    let seen = disk.seen a.disk.now in
    let laws = g.met.D.Disk g.world.𝓛 g.world.𝓜 g.world.𝓡 ((λ s x. x), (λ x. x), (λ x. x), λ x. x) in
    let long : (bytes : List ℕ) → seen ≡ Some bytes → length bytes ≡ 18 = λ bytes is. laws.whole a.disk.now bytes is ∙ c.requires.stands.fits in
    let writes : List ℕ → Type 0 = Between c.next_slot-slot.result a.x seen in
    widened disk.moment disk.left_since a.disk.now c.write_slot.new.disk (λ image. Loads image (held a.self.now) ⊎ Loads image (Some a.x)) writes c.write_slot.ensures.any_moment
    (between_loads a.self.now a.x c.requires.above seen long c.requires.stands.read c.next_slot-slot.result c.next_slot-slot.ensures)

pub returns-clause-any_moment : goal.returns-clause-any_moment
returns-clause-any_moment g c =
    let a = c.args in
    let disk = g.D.Disk in
    let seen = disk.seen a.disk.now in
    let laws = g.met.D.Disk g.world.𝓛 g.world.𝓜 g.world.𝓡 ((λ s x. x), (λ x. x), (λ x. x), λ x. x) in
    let long : (bytes : List ℕ) → seen ≡ Some bytes → length bytes ≡ 18 = λ bytes is. laws.whole a.disk.now bytes is ∙ c.requires.stands.fits in
    let writes : List ℕ → Type 0 = Between c.next_slot-slot.result a.x seen in
    widened disk.moment disk.left_since a.disk.now c.write_slot.new.disk (λ image. Loads image (held a.self.now) ⊎ Loads image (Some a.x)) writes c.write_slot.ensures.any_moment
    (between_loads a.self.now a.x c.requires.above seen long c.requires.stands.read c.next_slot-slot.result c.next_slot-slot.ensures)

pub returns-clause-loads : goal.returns-clause-loads
returns-clause-loads g c image left =
    let a = c.args in
    let disk = g.D.Disk in
    let seen = disk.seen a.disk.now in
    let laws = g.met.D.Disk g.world.𝓛 g.world.𝓜 g.world.𝓡 ((λ s x. x), (λ x. x), (λ x. x), λ x. x) in
    let long : (bytes : List ℕ) → seen ≡ Some bytes → length bytes ≡ 18 = λ bytes is. laws.whole a.disk.now bytes is ∙ c.requires.stands.fits in
    let now = c.in_ok-write_slot.ensures.settled image left in (
      laws.whole c.write_slot.new.disk image now ∙ c.write_slot.ensures.size ∙ c.requires.stands.fits,
      loads_after a.self.now a.x c.requires.above seen long c.requires.stands.read c.ranges.x.fits c.next_slot-slot.result c.next_slot-slot.ensures c.number_of.result c.number_of.ensures (disk.seen c.write_slot.new.disk) c.in_ok-write_slot.ensures.seen image now,
    )

pub returns-clause-stands : goal.returns-clause-stands
returns-clause-stands g c =
    let a = c.args in
    let disk = g.D.Disk in
    let seen = disk.seen a.disk.now in
    let laws = g.met.D.Disk g.world.𝓛 g.world.𝓜 g.world.𝓡 ((λ s x. x), (λ x. x), (λ x. x), λ x. x) in
    let long : (bytes : List ℕ) → seen ≡ Some bytes → length bytes ≡ 18 = λ bytes is. laws.whole a.disk.now bytes is ∙ c.requires.stands.fits in
    record {
      fits = c.write_slot.ensures.size ∙ c.requires.stands.fits;
      read = λ bytes now. slots_after a.self.now a.x c.requires.above seen long c.requires.stands.read c.ranges.x.fits c.next_slot-slot.result c.next_slot-slot.ensures c.number_of.result c.number_of.ensures (disk.seen c.write_slot.new.disk) c.in_ok-write_slot.ensures.seen bytes now ∙ sym c.put_number.ensures;
      settled = c.in_ok-write_slot.ensures.settled;
    }

use Rattle.std.proofs.Common.{◌⊎◌, inl, inr, ⊎_elim, ℕ, List, Option, Some, subst}
use Rattle.stable_store.proofs.Moments.{follows, widened}
use Rattle.protocol_core.specs.declared.act.Act.{Act}
use Rattle.protocol_stage.specs.Performing.{LoadsOneOf, Repeats}
use Rattle.protocol_stage.specs.Repeating.{Repeating}
use Rattle.protocol_stage.specs.Running.{HasBegun, IsHeld, IsOpened, LoadsAtOpening, Running}
use Rattle.protocol_core.specs.Turned.{Turned}
use Rattle.protocol_stage.specs.Following.{FollowsOpening, LoadsAtStart, model_config, model_slots}
use Rattle.protocol_stage.proofs.Following.{opens-follow, stops-at-start}
use Rattle.protocol_stage.proofs.OpeningLemmas.{at_opening}
use Rattle.protocol_stage.proofs.ResultLemmas.{if_ok_weaker}
use Rattle.protocol_stage.proofs.protocol.Protocol.start.Goals as goal

pub returns-clause-ok : goal.returns-clause-ok
returns-clause-ok g c =
    let b = c.in_ok-begun.begun in
    let t : Turned = record { life = b.life; acts = b.acts } in
    let slots = g.A.Arms.slots c.args.arms in
    let may_take = g.A.Arms.may_take in
    if_ok_weaker (λ (made : Running × List Act). HasBegun may_take c.new.result b.life b.acts made.0 made.1)
    (λ (made : Running × List Act). (stored : Option ℕ) × IsHeld (g.D.Disk.seen c.args.disk.now) stored × IsOpened may_take slots c.args.config.now stored made.0 made.1) c.open.result
    (λ made h. (
      b.stored,
      c.in_ok-begun.ensures.is_held,
      record {
        opened = t;
        opening_is = c.in_ok-begun.ensures.opens;
        life = h.life_is;
        gone_out = h.gone_out;
        repeated = subst (λ (r : Repeating). Repeats may_take t.acts r made.0.repeating) c.new.ensures h.repeated;
        up = h.up;
      },
    ))
    c.open.ensures.begun

pub returns-clause-any_moment : goal.returns-clause-any_moment
returns-clause-any_moment g c =
    let b = c.in_ok-begun.begun in
    let t : Turned = record { life = b.life; acts = b.acts } in
    let disk = g.D.Disk in
    let old = c.args.disk.now in
    let middle = c.begin_life.new.disk in
    let P : List ℕ → Type 0 = λ image. disk.may_leave old image ⊎ ((stored : Option ℕ) × IsHeld (disk.seen old) stored × LoadsAtOpening c.args.config.now stored image) in
    let loaded = widened disk.moment disk.left_since old middle P (disk.may_leave old) c.begin_life.ensures.any_moment (λ image left. inl left) in
    follows disk.moment disk.left_since old middle c.open.new.disk P (LoadsOneOf b.stored (Some b.life.stable)) loaded c.open.ensures.any_moment
    (λ image loads. inr (b.stored, c.in_ok-begun.ensures.is_held, at_opening c.args.config.now b.stored t c.in_ok-begun.ensures.opens image loads))

pub returns-clause-follows : goal.returns-clause-follows
returns-clause-follows g c =
    let seen = g.D.Disk.seen c.args.disk.now in
    let slots = g.A.Arms.slots c.args.arms in
    let may_take = g.A.Arms.may_take in
    let config = c.args.config.now in
    if_ok_weaker (λ (made : Running × List Act). (stored : Option ℕ) × IsHeld seen stored × IsOpened may_take slots config stored made.0 made.1)
    (λ (made : Running × List Act). (stored : Option ℕ) × IsHeld seen stored × IsOpened may_take slots config stored made.0 made.1 × FollowsOpening may_take slots config stored made.0 made.1) c.open.result
    (λ made h. (h.0, h.1, h.2, opens-follow may_take slots config h.0 made.0 made.1 h.2))
    (returns-clause-ok g c)

pub returns-clause-stops : goal.returns-clause-stops
returns-clause-stops g c =
    let disk = g.D.Disk in
    let old = c.args.disk.now in
    let config = c.args.config.now in
    let slots = model_slots (g.A.Arms.slots c.args.arms) in
    let P : List ℕ → Type 0 = λ image. disk.may_leave old image ⊎ ((stored : Option ℕ) × IsHeld (disk.seen old) stored × LoadsAtOpening config stored image) in
    let Q : List ℕ → Type 0 =
    λ image. disk.may_leave old image ⊎ ((stored : Option ℕ) × IsHeld (disk.seen old) stored × ((number : ℕ) → LoadsAtStart (model_config config) slots number stored image))
    in
    widened disk.moment disk.left_since old c.open.new.disk Q P (returns-clause-any_moment g c)
    (λ image loads. ⊎_elim (λ l. inl l) (λ l. inr (l.0, l.1, λ number. stops-at-start config slots number l.0 image l.2)) loads)

use Rattle.std.proofs.Common.{◌≡◌, ℕ, Err, ap, ◌∙◌}
use Rattle.protocol_core.specs.declared.starting.StartFault.{StartFault as LifeFault}
use Rattle.protocol_core.specs.Starting.{IsSpent}
use Rattle.protocol_core.specs.Turned.{Turned}
use Rattle.protocol_stage.proofs.OpeningLemmas.{no_memory_of, opening_stores, opens_unless_spent, spent_of}
use Rattle.protocol_stage.proofs.protocol.begin_life.Goals as goal

pub returns-in_err-life-clause-spent : goal.returns-in_err-life-clause-spent
returns-in_err-life-clause-spent g c number is =
    let fault = c.in_err-life.field-0.0 in
    let told = rw is at c.from_residual-in_err-life.ensures in
    let failed = c.in_err-life.was ∙ ap (λ (f : LifeFault). Err f) (spent_of fault number told.1) in
    (c.in_ok-cell.ensures.whole, (c.in_ok-cell.stored, c.in_ok-cell.ensures.read, (c.start.ensures.spent number).0 failed))

pub returns-in_err-life-clause-no_memory : goal.returns-in_err-life-clause-no_memory
returns-in_err-life-clause-no_memory g c is =
    let fault = c.in_err-life.field-0.0 in
    let config = c.args.config.now in
    let stored = c.in_ok-cell.stored in
    let told = rw is at c.from_residual-in_err-life.ensures in
    let no_memory : fault ≡ LifeFault.NoMemory = no_memory_of fault told.1 in
    let not_spent : (number : ℕ) → IsSpent config stored number → ⊥ = λ number spent.
    let was = c.in_err-life.was in
    let failed = (c.start.ensures.spent number).1 spent in
    absurd cc
    in
    let opened = opens_unless_spent config stored not_spent in
    (c.in_ok-cell.ensures.whole, (stored, opened.0, c.in_ok-cell.ensures.read, opened.1))

pub returns-clause-stores : goal.returns-clause-stores
returns-clause-stores g c =
    let t : Turned = record { life = c.in_ok-life.life; acts = c.in_ok-life.acts } in
    (opening_stores c.args.config.now c.in_ok-cell.stored t c.in_ok-life.ensures.ok).0

pub returns-clause-steady : goal.returns-clause-steady
returns-clause-steady g c =
    let t : Turned = record { life = c.in_ok-life.life; acts = c.in_ok-life.acts } in
    (opening_stores c.args.config.now c.in_ok-cell.stored t c.in_ok-life.ensures.ok).1

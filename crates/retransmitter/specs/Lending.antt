-- What the slots are once a claim has ended.
use Rattle.std.specs.Prelude.{◌≡◌, ⊤, List}
use Rattle.std.specs.Borrow.{follows_so, MutBor, Fml}
use mathlib.Core.Option.{none}
use Rattle.retransmitter.specs.declared.slots.Slot.{Slot}
use Rattle.retransmitter.specs.contracts.slots.Slots.{the_row}

-- they stay as they are
abbrev pub KeepsSlots : MutBor (List Slot) → Fml
KeepsSlots s = follows_so the_row the_row s.ghost_name none (λ _ _. ⊤) (λ last. last ≡ s.now)

-- What a stage is once a claim has ended.
use Rattle.std.specs.Prelude.{◌≡◌, ⊤}
use Rattle.std.specs.Borrow.{follows_so, MutBor, Fml, RattleType}
use mathlib.Core.Option.{none}
use Rattle.retransmitter.specs.Slots.{least_free}
use Rattle.retransmitter.specs.contracts.slots.Slots.{the_row as of_slots}
use Rattle.protocol_stage.specs.Running.{Running}
use Rattle.protocol_stage.specs.contracts.protocol.Protocol.{the_row}

-- the stage over the slots of one thread, as the logic names it
abbrev pub over_slots : RattleType
over_slots = the_row of_slots (record { slots = λ s. s; may_take = λ slots k. k ≡ least_free slots })

-- it stays as it is
abbrev pub KeepsRunning : MutBor Running → Fml
KeepsRunning s = follows_so over_slots over_slots s.ghost_name none (λ _ _. ⊤) (λ last. last ≡ s.now)

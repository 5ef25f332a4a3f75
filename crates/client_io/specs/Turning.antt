-- One turn of a session: what is queued is sent, and then something is received.
use Rattle.std.specs.Prelude.{◌≡◌, ◌≤◌, ◌⊎◌, ℕ, [], take}
use Rattle.std.specs.Io.KnownBytes.{Appends}
use Rattle.jp_types.specs.Faults.{Rose}
use Rattle.client_io.specs.declared.hearing.Heard.{Heard}
use Rattle.client_io.specs.declared.hearing.Heard.TheVariants.{Quiet, Lost, Frames}
use Rattle.client_io.specs.Hearing.{Brings, Reads}
use Rattle.client_io.specs.Sessions.{Session}

-- what a link has sent: all that was queued, or a beginning of it where the link was lost
abbrev pub Sends : Heard → Session → Session → Type 0
Sends Lost before after = (count : ℕ) × Appends before.link.sent after.link.sent (take count before.queued)
Sends Quiet before after = Appends before.link.sent after.link.sent before.queued × (after.queued ≡ [])
Sends (Frames frames sound count) before after = Appends before.link.sent after.link.sent before.queued × (after.queued ≡ [])

-- what came over a link; it was lost where it failed or ended
abbrev pub Receives : Heard → Session → Session → Type 0
Receives Quiet before after = (after.link.left ≡ before.link.left) × (after.reader ≡ before.reader)
Receives Lost before after = (after.link.left ≡ before.link.left) × (Rose before.link.faults after.link.faults ⊎ Rose before.link.endings after.link.endings)
Receives (Frames frames sound count) before after = Reads before.link before.reader (Frames frames sound count) after.link after.reader

-- one turn of a session
pub record Turns (before : Session) (heard : Heard) (after : Session) : Type 0 where
  pub number : after.number ≡ before.number
  pub sends : Sends heard before after
  pub receives : Receives heard before after
  pub faults : before.link.faults ≤ after.link.faults
  pub endings : before.link.endings ≤ after.link.endings

-- ---- The parts of a turn

-- all that was queued was sent
pub record Flushes (before after : Session) : Type 0 where
  pub sent : Appends before.link.sent after.link.sent before.queued
  pub session : after ≡ record before { link = record before.link { sent = after.link.sent; faults = after.link.faults }; queued = [] }
  pub faults : before.link.faults ≤ after.link.faults

-- the link failed when a beginning of what was queued was sent
pub record FlushesSome (before after : Session) : Type 0 where
  pub count : ℕ
  pub sent : Appends before.link.sent after.link.sent (take count before.queued)
  pub session : after ≡ record before { link = record before.link { sent = after.link.sent; faults = after.link.faults } }
  pub faults : before.link.faults ≤ after.link.faults
  pub rose : Rose before.link.faults after.link.faults

-- something was received, and nothing was sent
pub record ReceivesOnce (before : Session) (heard : Heard) (after : Session) : Type 0 where
  pub session : after ≡ record before { link = after.link; reader = after.reader }
  pub sent : after.link.sent ≡ before.link.sent
  pub brings : Brings heard before.link before.reader after.link after.reader

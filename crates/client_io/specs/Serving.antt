-- What serving a session once comes to.
use Rattle.std.specs.Prelude.{◌≡◌, Bool, true, false, not, ◌&&◌, List, []}
use Rattle.client_codec.specs.declared.frame.ClientFrame.{ClientFrame}
use Rattle.client_io.specs.declared.desk.Desk.{Desk}
use Rattle.client_io.specs.declared.desk.Taken.{Taken}
use Rattle.client_io.specs.declared.hearing.Heard.{Heard}
use Rattle.client_io.specs.declared.hearing.Heard.TheVariants.{Quiet, Lost, Frames}
use Rattle.client_io.specs.declared.session.Served.{Served}
use Rattle.client_io.specs.Sessions.{Session, is_silent}
use Rattle.client_io.specs.Turning.{Turns}
use Rattle.client_io.specs.Taking.{Gathered, all_taken, gathered, nothing_taken}

-- the frames that were heard
abbrev pub frames_heard : Heard → List ClientFrame
frames_heard (Frames frames sound count) = frames
frames_heard Quiet = []
frames_heard Lost = []

-- what is gathered from what a session brought
abbrev pub gathered_from : Desk → Session → Heard → Gathered
gathered_from desk session heard = all_taken session.number (frames_heard heard) (gathered desk session.queued nothing_taken)

-- whether a session stands: its link works, its bytes are sound, and each frame is one that the stage takes
abbrev pub stands : Heard → Bool → Bool
stands Quiet dropped = true
stands Lost dropped = false
stands (Frames frames sound count) dropped = sound && not dropped

-- whether a session moved nothing: nothing was queued for it, and nothing came
abbrev pub is_idle : Session → Heard → Bool
is_idle before Quiet = is_silent before
is_idle before Lost = false
is_idle before (Frames frames sound count) = false

-- frames of a session were taken
pub record Takes (before : Session) (desk : Desk) (frames : List ClientFrame) (taken : Taken) (after : Session) (desk_after : Desk) : Type 0 where
  pub session : after ≡ record before { queued = after.queued }
  pub all : gathered desk_after after.queued taken ≡ all_taken before.number frames (gathered desk before.queued nothing_taken)

-- a session was served: what it brought, and what was made of it
pub record IsServed (before : Session) (desk : Desk) (served : Served) (after : Session) (desk_after : Desk) : Type 0 where
  pub heard : Heard
  -- the session after its turn, before the frames were taken
  pub between : Session
  pub turns : Turns before heard between
  pub session : after ≡ record between { queued = after.queued }
  pub all : gathered desk_after after.queued served.taken ≡ gathered_from desk between heard
  pub kept : served.kept ≡ stands heard served.taken.dropped
  pub idle : served.idle ≡ is_idle before heard

-- How frames end an attempt at a request.
use Rattle.std.specs.Prelude.{ℕ, Bool, true, false, List, fold, Option, Some, None, ◌==◌, if◌then◌else◌}
use Rattle.client_codec.specs.declared.frame.ClientFrame.{ClientFrame}
use Rattle.client_codec.specs.declared.frame.ClientFrame.TheVariants as frame_kind
use Rattle.client_io.specs.declared.attempt_end.Attempt.{Attempt}
use Rattle.client_io.specs.declared.attempt_end.Attempt.TheVariants.{Answered, Redirected, Busy, Ended}

-- x, where the numbers are the same
abbrev pub for_number : ℕ → ℕ → Attempt → Option Attempt
for_number number answered end = if answered == number then Some end else None

-- how a frame ends an attempt at the request of this number, if it does
abbrev pub ending : ℕ → ClientFrame → Option Attempt
ending number (frame_kind.Request r) = None
ending number (frame_kind.Reply answered reply) = for_number number answered (Answered reply)
ending number (frame_kind.Redirect replica) = Some (Redirected replica)
ending number (frame_kind.Busy answered) = for_number number answered Busy
ending number frame_kind.Stop = None

-- the next frame ends it where none before did
abbrev pub next_ending : ℕ → Option Attempt → ClientFrame → Option Attempt
next_ending number (Some end) frame = Some end
next_ending number None frame = ending number frame

-- how the first of these frames that ends it ends it, if one does
abbrev pub first_ending : ℕ → List ClientFrame → Option Attempt
first_ending number frames = fold (next_ending number) None frames

-- the frame that ended an attempt ended it so; none did where it just ended
abbrev pub ended_by : Attempt → Option Attempt
ended_by (Answered reply) = Some (Answered reply)
ended_by (Redirected replica) = Some (Redirected replica)
ended_by Busy = Some Busy
ended_by Ended = None

-- where no frame ended an attempt, bytes that are not sound do
abbrev pub ended_or : Option Attempt → Bool → Option Attempt
ended_or (Some end) sound = Some end
ended_or None true = None
ended_or None false = Some Ended

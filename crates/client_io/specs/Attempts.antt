-- Attempts at a request.
use Rattle.std.specs.Prelude.{◌≡◌, ◌≤◌, ◌⊎◌, ℕ, ◌+◌, ◌-◌, ◌*◌, ◌^◌, min, Bool, false, List, length, take, None}
use Rattle.std.specs.Io.KnownBytes.{Appends, Consumes}
use Rattle.jp_types.specs.Faults.{Rose}
use Rattle.jp_types.specs.declared.command.Request.{Request}
use Rattle.client_codec.specs.declared.frame.ClientFrame.{ClientFrame}
use Rattle.client_codec.specs.declared.frame.ClientFrame.TheVariants as frame_kind
use Rattle.client_io.specs.Links.{FollowsClient, LinkState, Progress}
use Rattle.client_codec.specs.Spelling.{frame_bytes}
use Rattle.client_io.specs.declared.attempt_end.Attempt.{Attempt}
use Rattle.client_io.specs.declared.attempt_end.Attempt.TheVariants.{Answered, Redirected, Busy, Ended}
use Rattle.client_io.specs.declared.attempt.Waiting.{Waiting}
use Rattle.client_io.specs.Ends.{ended_by, first_ending}
use Rattle.client_io.specs.Hearing.{is_sound}

-- why an attempt ended without an answer: the link failed or ended, its bytes have a fault, 50 receives were quiet, or 65,536
-- bytes came
abbrev pub IsOver : LinkState → LinkState → Bool → ℕ → Type 0
IsOver before after sound count =
    Rose before.faults after.faults ⊎ (Rose before.endings after.endings ⊎ ((sound ≡ false) ⊎ ((min (before.quiets + 50) (2 ^ 64 - 1) ≤ after.quiets) ⊎ (65536 ≤ count))))

-- with what an attempt ended: bytes came where it brought an answer
abbrev pub EndsSo : Attempt → LinkState → LinkState → Bool → ℕ → Type 0
EndsSo Ended before after sound count = IsOver before after sound count
EndsSo (Answered reply) before after sound count = 1 ≤ count
EndsSo (Redirected replica) before after sound count = 1 ≤ count
EndsSo Busy before after sound count = 1 ≤ count

-- What came over a link: these bytes, of which these frames were read.
pub record Came (before after : LinkState) (bytes : List ℕ) (frames : List ClientFrame) (reader : Progress) : Type 0 where
  pub consumed : Consumes before.left after.left bytes
  pub given : min (before.given + length bytes) (2 ^ 64 - 1) ≤ after.given
  pub follows : FollowsClient bytes frames reader

-- how waiting for the answer to the request of this number ended
pub record Attempts (number : ℕ) (before after : LinkState) (end : Attempt) : Type 0 where
  pub bytes : List ℕ
  pub frames : List ClientFrame
  pub reader : Progress
  pub came : Came before after bytes frames reader
  pub first : first_ending number frames ≡ ended_by end
  pub over : EndsSo end before after (is_sound reader.fault) (length bytes)

-- an attempt sends the request's frame and waits for the answer, or the link failed as a beginning of the frame was sent
pub record Asks (r : Request) (before after : LinkState) (end : Attempt) : Type 0 where
  pub count : ℕ
  pub sent : Appends before.sent after.sent (take count (frame_bytes (frame_kind.Request r)))
  pub all : ended_by end ≡ None ⊎ (length (frame_bytes (frame_kind.Request r)) ≤ count)
  pub attempts : Attempts r.number before after end

-- ---- While it waits

-- how far an answer was waited for: no frame that came ended the attempt
pub record Waits (number : ℕ) (before now : LinkState) (wait : Waiting) : Type 0 where
  pub bytes : List ℕ
  pub frames : List ClientFrame
  pub came : Came before now bytes frames wait.reader
  pub none : first_ending number frames ≡ None
  pub count : wait.taken ≡ length bytes
  pub quiet : min (before.quiets + wait.waited) (2 ^ 64 - 1) ≤ now.quiets
  pub faults : before.faults ≤ now.faults
  pub endings : before.endings ≤ now.endings
  pub quiets : before.quiets ≤ now.quiets

-- how many more turns it waits at most
abbrev pub patience : Waiting → ℕ
patience wait = (65536 - wait.taken) * 51 + (50 - wait.waited)

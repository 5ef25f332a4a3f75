-- The sessions of a client stage.
use Rattle.std.specs.Prelude.{◌≡◌, ℕ, ◌+◌, ◌%◌, ◌^◌, Bool, List, [], ◌∷◌, ◌++◌, ◌==◌, if◌then◌else◌}
use Rattle.jp_types.specs.Words.{is_empty}
use Rattle.client_io.specs.Links.{FollowsClient, LinkState, Progress}

-- a session: its number, its link, how far the bytes of its client were read, and the bytes that are queued for it
pub record Session : Type 0 where
  pub number : ℕ
  pub link : LinkState
  pub reader : Progress
  pub queued : List ℕ

-- a session of this number that begins on a link: nothing was read, and nothing is queued
pub record Opens (number : ℕ) (link : LinkState) (s : Session) : Type 0 where
  pub has_number : s.number ≡ number
  pub has_link : s.link ≡ link
  pub unread : FollowsClient [] [] s.reader
  pub silent : s.queued ≡ []

-- how many sessions stand at most
abbrev pub session_limit : ℕ
session_limit = 64

-- the number of the session after this one
abbrev pub next_number : ℕ → ℕ
next_number number = (number + 1) % 2 ^ 64

-- whether nothing is queued for a session
abbrev pub is_silent : Session → Bool
is_silent s = is_empty s.queued

-- bytes behind those that are queued for a session
abbrev pub with_queued : List ℕ → Session → Session
with_queued bytes s = record s { queued = s.queued ++ bytes }

-- bytes queued for the session of this number, if it stands
abbrev pub queued_for : ℕ → List ℕ → List Session → List Session
queued_for number bytes [] = []
queued_for number bytes (s ∷ sessions) = let later = queued_for number bytes sessions in if s.number == number then with_queued bytes s ∷ sessions else s ∷ later

-- What a link tells of itself, and how far the frames that come over it were read.
use Rattle.std.specs.Prelude.{ℕ, List, Option}
use Rattle.frame_stream.specs.Following.{Follows, Progress as StreamProgress}
use Rattle.client_codec.specs.declared.frame.ClientFrame.{ClientFrame}
use Rattle.client_codec.specs.declared.grammar.ClientGrammar.{ClientGrammar}
use Rattle.client_codec.specs.Frames.{client_rules}

-- what a link tells: the bytes that are left to receive, those that were sent, and its counts
pub record LinkState : Type 0 where
  pub left : Option (List ℕ)
  pub sent : Option (List ℕ)
  pub faults : ℕ
  pub quiets : ℕ
  pub endings : ℕ
  pub given : ℕ

-- what a link tells, by what its type tells of each link
abbrev pub state_by : {L : Type 0} → (L → Option (List ℕ)) → (L → Option (List ℕ)) → (L → ℕ) → (L → ℕ) → (L → ℕ) → (L → ℕ) → L → LinkState
state_by left sent faults quiets endings given link =
    record { left = left link; sent = sent link; faults = faults link; quiets = quiets link; endings = endings link; given = given link }

-- how far the frames between a client and a replica were read
abbrev pub Progress : Type 0
Progress = StreamProgress ClientGrammar

-- a reader that was fed this stream has given these frames
abbrev pub FollowsClient : List ℕ → List ClientFrame → Progress → Type 0
FollowsClient stream frames reader = Follows client_rules stream frames reader

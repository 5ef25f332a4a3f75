-- The link that a turn of a stage uses.
use Rattle.std.specs.Prelude.{◌≡◌, ℕ, List, Option, Some, None}
use Rattle.links.specs.Peers.{IsFresh}
use Rattle.replica_io.specs.declared.held.Held.{Held}
use Rattle.replica_io.specs.declared.held.Held.TheVariants.{Nothing, Standing, GivenUp}

-- what is observed of links: the bytes that are left and that were sent, where they are told, and the counts
pub record Observed (L : Type 0) : Type 0 where
  pub left : L → Option (List ℕ)
  pub sent : L → Option (List ℕ)
  pub faults : L → ℕ
  pub quiets : L → ℕ
  pub endings : L → ℕ
  pub given : L → ℕ

-- no link stands
abbrev pub IsDown : {L : Type 0} → Held L → Type 0
IsDown Nothing = Unit {0}
IsDown (Standing link) = ⊥
IsDown (GivenUp link) = Unit {0}

-- the link, if there is one
abbrev pub link_of : {L : Type 0} → Held L → Option L
link_of Nothing = None
link_of (Standing link) = Some link
link_of (GivenUp link) = Some link

-- no call of the link was counted, and nothing was sent
abbrev pub Begins : {L : Type 0} → Observed L → L → Type 0
Begins o link = IsFresh (o.faults link) (o.quiets link) (o.endings link) (o.given link) (o.sent link)

-- the link that a turn uses, as it finds it: the one that stands, or else a new one
abbrev pub Uses : {L : Type 0} → Observed L → Held L → L → Type 0
Uses o Nothing link = Begins o link
Uses o (Standing old) link = link ≡ old
Uses o (GivenUp old) link = Begins o link

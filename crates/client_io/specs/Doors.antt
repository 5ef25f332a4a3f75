-- What the calls of a client stage do.
use Rattle.std.specs.Prelude.{◌≡◌, ℕ, ◌+◌, ◌-◌, ◌^◌, min, nat_lt, Bool, false, not, ◌&&◌, ◌||◌, List, [], ◌∷◌, ◌++◌, length, Option, Some, None, is_some, IfSome, if◌then◌else◌}
use Rattle.std.specs.FinMap.{empty, get}
use Rattle.jp_types.specs.Streams.{counted_up}
use Rattle.jp_types.specs.Views.{leader}
use Rattle.links.specs.Peers.{IsFresh}
use Rattle.client_codec.specs.declared.frame.ClientFrame.{ClientFrame}
use Rattle.client_codec.specs.declared.frame.ClientFrame.TheVariants as frame_kind
use Rattle.client_codec.specs.Spelling.{frame_bytes}
use Rattle.client_io.specs.declared.desk.Desk.{Desk}
use Rattle.client_io.specs.declared.desk.Taken.{Taken}
use Rattle.client_io.specs.declared.door_turn.DoorTally.{DoorTally}
use Rattle.client_io.specs.declared.door_turn.DoorTurn.{DoorTurn}
use Rattle.client_io.specs.declared.hearing.Heard.{Heard}
use Rattle.client_io.specs.declared.told.Told.{Told}
use Rattle.client_io.specs.declared.told.Told.TheVariants as told_kind
use Rattle.client_io.specs.Links.{LinkState}
use Rattle.client_io.specs.Sessions.{Opens, Session, next_number, queued_for, session_limit}
use Rattle.client_io.specs.Turning.{Turns}
use Rattle.client_io.specs.Serving.{gathered_from, is_idle, stands}

-- a client stage
pub record Stage : Type 0 where
  -- how many replicas there are
  pub n : ℕ
  -- what it takes frames by
  pub desk : Desk
  -- its sessions, the one in turn first
  pub sessions : List Session
  -- the number of the session that begins next
  pub accepted : ℕ
  -- the link that was given up in the last call of the door, if one was
  pub gone : Option LinkState
  pub tally : DoorTally

-- nothing was given or told
abbrev pub no_tally : DoorTally
no_tally = record { given = 0; busy = 0; told = 0; stop = false }

-- stage k of a replica of n. It has no sessions, and knows of view 0, which the replica does not lead.
abbrev pub new_stage : ℕ → ℕ → Stage
new_stage k n = record { n = n; desk = record { k = k; leading = false; leader = 0; homes = empty }; sessions = []; accepted = 0; gone = None; tally = no_tally }

-- ---- Links that are accepted

-- whether fewer sessions stand than may
abbrev pub has_room : Stage → Bool
has_room s = nat_lt (length s.sessions) session_limit

-- the stage as a call of the door begins: the link that was given up in the one before is let go
abbrev pub let_go : Stage → Stage
let_go s = record s { gone = None }

-- the stage where a session began: it comes behind the others
abbrev pub admitted : Option Session → Stage → Stage
admitted None s = s
admitted (Some session) s = record s { sessions = s.sessions ++ session ∷ []; accepted = next_number s.accepted }

-- a link as it is accepted: no count has risen, and nothing was sent
abbrev pub IsNew : LinkState → Type 0
IsNew link = IsFresh link.faults link.quiets link.endings link.given link.sent

-- a session began on a link
pub record Begins (s : Stage) (link : LinkState) (new : Stage) : Type 0 where
  pub session : Session
  pub opens : Opens s.accepted link session
  pub stage : new ≡ admitted (Some session) s

-- a session on a link that was accepted
abbrev pub IsAccepted : ℕ → Session → Type 0
IsAccepted number session = IsNew session.link × Opens number session.link session

-- a session began on a link that was accepted, or none did; `came` tells which
pub record Admits (s : Stage) (came : Bool) (new : Stage) : Type 0 where
  pub found : Option Session
  pub accepted : IfSome found (IsAccepted s.accepted)
  pub told : came ≡ is_some found
  pub stage : new ≡ admitted found s

-- ---- The session in turn

-- so many requests more, and Stop where it was taken
abbrev pub counted : Taken → DoorTally → DoorTally
counted taken tally = record tally { given = min (tally.given + length taken.requests) (2 ^ 64 - 1); stop = tally.stop || taken.stop }

-- a session that was served comes behind the others where it is kept, and is given up else
abbrev pub settled : Bool → Session → Stage → Stage
settled kept session s = if kept then record s { sessions = s.sessions ++ session ∷ [] } else record s { gone = Some session.link }

-- the stage after its session in turn was served, which brought this
abbrev pub served : Stage → Session → Heard → Stage
served s session heard =
    let g = gathered_from s.desk session heard in
    settled (stands heard g.taken.dropped) (record session { queued = g.queued }) (record s { desk = g.desk; tally = counted g.taken s.tally })

-- what the call of the door gives then; `came` says that a session began in this call
abbrev pub given : Stage → Bool → Session → Session → Heard → DoorTurn
given s came before session heard =
    let g = gathered_from s.desk session heard in
    record { requests = g.taken.requests; stop = g.taken.stop; idle = not came && is_idle before heard }

-- a session was served, beside these others
pub record Serves (s : Stage) (came : Bool) (before : Session) (turn : DoorTurn) (new : Stage) : Type 0 where
  -- what it brought
  pub heard : Heard
  -- the session after its turn
  pub session : Session
  pub turns : Turns before heard session
  pub stage : new ≡ served s session heard
  pub gives : turn ≡ given s came before session heard

-- the session in turn is served, if there is one
abbrev pub ServesNext : List Session → Stage → Bool → DoorTurn → Stage → Type 0
ServesNext [] s came turn new = (new ≡ s) × (turn ≡ record { requests = []; stop = false; idle = not came })
ServesNext (session ∷ others) s came turn new = Serves (record s { sessions = others }) came session turn new

-- a call of the door: a link is accepted where one is there, and then the session in turn is served
pub record Turned (s : Stage) (turn : DoorTurn) (new : Stage) : Type 0 where
  pub came : Bool
  -- the stage after a link was accepted
  pub begun : Stage
  pub admits : Admits (let_go s) came begun
  pub serves : ServesNext begun.sessions begun came turn new

-- ---- What is told

-- a frame queued for the session that sent the client's latest request, if it stands
abbrev pub queued_home : Option ℕ → ClientFrame → Stage → Stage
queued_home None frame s = s
queued_home (Some number) frame s = record s { sessions = queued_for number (frame_bytes frame) s.sessions }

abbrev pub answered : ℕ → ClientFrame → Stage → Stage
answered client frame s = queued_home (get s.desk.homes client) frame s

-- the view that was told, and whether the replica leads it
abbrev pub hinted : ℕ → Bool → Stage → Stage
hinted view leading s = record s { desk = record s.desk { leading = leading; leader = leader s.n view } }

-- what was told is done
abbrev pub heard_of : Told → Stage → Stage
heard_of (told_kind.Answer client number reply) s = answered client (frame_kind.Reply number reply) s
heard_of (told_kind.Hint view leading) s = hinted view leading s

-- one call of `told` more
abbrev pub with_told : Stage → Stage
with_told s = record s { tally = record s.tally { told = counted_up s.tally.told } }

-- one call of `busy` more
abbrev pub with_busy : Stage → Stage
with_busy s = record s { tally = record s.tally { busy = counted_up s.tally.busy } }

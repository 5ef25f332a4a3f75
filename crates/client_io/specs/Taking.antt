-- What is done with the frames of a session.
use Rattle.std.specs.Prelude.{ℕ, ◌%◌, true, false, List, ◌∷◌, [], ◌++◌, fold, ◌==◌, if◌then◌else◌}
use Rattle.std.specs.FinMap.{insert}
use Rattle.jp_types.specs.declared.command.Request.{Request}
use Rattle.client_codec.specs.declared.frame.ClientFrame.{ClientFrame}
use Rattle.client_codec.specs.declared.frame.ClientFrame.TheVariants as frame_kind
use Rattle.client_codec.specs.Spelling.{frame_bytes}
use Rattle.client_io.specs.declared.desk.Desk.{Desk}
use Rattle.client_io.specs.declared.desk.Taken.{Taken}

-- what is gathered from the frames of a session: the desk, the bytes that are queued for the session, and what was taken
pub record Gathered : Type 0 where
  pub desk : Desk
  pub queued : List ℕ
  pub taken : Taken

-- nothing was taken
abbrev pub nothing_taken : Taken
nothing_taken = record { requests = []; stop = false; dropped = false }

abbrev pub gathered : Desk → List ℕ → Taken → Gathered
gathered desk queued taken = record { desk = desk; queued = queued; taken = taken }

-- how many client stages a replica has
abbrev pub stages : ℕ
stages = 4

-- this session sent the client's latest request
abbrev pub with_home : ℕ → ℕ → Desk → Desk
with_home client session desk = record desk { homes = insert desk.homes client session }

-- a frame came that this stage does not take
abbrev pub refused : Gathered → Gathered
refused g = record g { taken = record g.taken { dropped = true } }

-- a request is to be put
abbrev pub put : Request → Gathered → Gathered
put r g = record g { taken = record g.taken { requests = g.taken.requests ++ r ∷ [] } }

-- a request is answered with the leader of the view that was told last
abbrev pub redirected : Gathered → Gathered
redirected g = record g { queued = g.queued ++ frame_bytes (frame_kind.Redirect g.desk.leader) }

-- A request of a client of this stage is to be put where the replica leads, and is answered Redirect where it does not. Other
-- stages' clients are refused.
abbrev pub request_taken : ℕ → Request → Gathered → Gathered
request_taken session r g =
    let known = record g { desk = with_home r.client session g.desk } in
    if r.client % stages == g.desk.k then (if g.desk.leading then put r known else redirected known) else refused g

-- a frame: clients send requests and Stop, and no other
abbrev pub frame_taken : ℕ → ClientFrame → Gathered → Gathered
frame_taken session (frame_kind.Request r) g = request_taken session r g
frame_taken session (frame_kind.Reply number reply) g = refused g
frame_taken session (frame_kind.Redirect replica) g = refused g
frame_taken session (frame_kind.Busy number) g = refused g
frame_taken session frame_kind.Stop g = record g { taken = record g.taken { stop = true } }

-- the next frame; behind a refused one nothing is taken
abbrev pub next_taken : ℕ → Gathered → ClientFrame → Gathered
next_taken session g frame = if g.taken.dropped then g else frame_taken session frame g

-- the frames, in order
abbrev pub all_taken : ℕ → List ClientFrame → Gathered → Gathered
all_taken session frames g = fold (next_taken session) g frames

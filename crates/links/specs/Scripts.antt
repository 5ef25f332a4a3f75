-- What contracts see of links and peers in memory, which follow a script.
use Rattle.std.specs.Prelude.{ℕ, min, max, cond, nat_lt, List, [], ◌∷◌, Option, None}
use Rattle.links.specs.declared.came.Came.{Came}
use Rattle.links.specs.declared.came.Came.TheVariants.{Bytes, Quiet, Ended}
use Rattle.links.specs.declared.received.Receipts.{Receipts}

-- what is still to come: the bytes, and how the receives bring them
pub record Coming : Type 0 where
  pub bytes : List ℕ
  pub turns : List Came

-- so many bytes, or the end where there is none
abbrev pub bytes_or_end : ℕ → Came
bytes_or_end count = cond (nat_lt 0 count) (Bytes count) Ended

-- what a receive with this much room brings where so many bytes are left: what the next turn says, and no more bytes than
-- there are. Behind the last turn come the bytes that are left, and then the end
abbrev pub arrival : List Came → ℕ → ℕ → Came
arrival [] left room = bytes_or_end (min room left)
arrival (Bytes count ∷ turns) left room = bytes_or_end (min (min count room) left)
arrival (Quiet ∷ turns) left room = Quiet
arrival (Ended ∷ turns) left room = Ended

-- what a link in memory does
pub record Script : Type 0 where
  pub coming : Coming
  -- how many bytes a send takes at most, where that is at least one
  pub most : ℕ
  -- the numbers of the calls that fail, counted from 0
  pub failing : List ℕ

-- how many bytes a send takes of so many
abbrev pub taken : ℕ → ℕ → ℕ
taken most count = min count (max most 1)

-- no receive was made
abbrev pub none_received : Receipts
none_received = record { quiets = 0; endings = 0; given = 0 }

-- a link in memory that fails at some calls
pub record Scripted : Type 0 where
  pub script : Script
  pub sent : List ℕ
  -- how many calls were made
  pub calls : ℕ
  pub faults : ℕ
  pub received : Receipts

-- a link in memory that never fails
pub record Steady : Type 0 where
  pub coming : Coming
  -- how many bytes were sent
  pub taken : ℕ
  pub received : Receipts

-- a peer in memory that fails at some calls
pub record ScriptedLinks : Type 0 where
  -- the links that the dials still give
  pub dials : List Script
  -- the links that the accepts still give, or none
  pub accepts : List (Option Script)
  -- the numbers of the calls that fail, counted from 0
  pub failing : List ℕ
  -- how many calls were made
  pub calls : ℕ
  pub faults : ℕ
  pub nones : ℕ

-- a peer in memory that never fails
pub record SteadyLinks : Type 0 where
  pub dials : List Coming
  pub accepts : List (Option Coming)
  pub nones : ℕ

-- what the next accept gives: behind the last one, none
abbrev pub next_accept : {L : Type 0} → List (Option L) → Option L
next_accept [] = None
next_accept (found ∷ later) = found

-- what comes over the next link that is dialled: behind the last one, nothing
abbrev pub next_dial : List Coming → Coming
next_dial [] = record { bytes = []; turns = [] }
next_dial (coming ∷ later) = coming

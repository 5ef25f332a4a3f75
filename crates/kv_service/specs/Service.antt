-- The sequential service: the store, how many batches were executed, and each client's last number with its reply.
use Rattle.std.specs.Prelude.{ℕ, ◌+◌, List, [], ◌∷◌, if◌then◌else◌, Option, Some, None, nat_lt, ◌==◌}
use Rattle.std.specs.Ordering.{nat_cmp}
use Rattle.kv_service.specs.declared.outcome.Kind.{Kind}
use Rattle.kv_service.specs.declared.outcome.Kind.TheVariants.{First, Repeated, Passed}
use Rattle.kv_service.specs.declared.outcome.Outcome.{Outcome}
use Rattle.kv_service.specs.Entries
use Rattle.jp_types.specs.declared.command.Request.{Request}
use Rattle.jp_types.specs.declared.command.Reply.{Reply}
use Rattle.kv_service.specs.Store.{Store, apply}

-- a service's state
pub record State : Type 0 where
  pub store : Store
  pub executed : ℕ
  -- of each client, ascending, its last number and the reply to it
  pub last : List (ℕ × (ℕ × Reply))

-- before any batch
abbrev pub start : State
start = record { store = []; executed = 0; last = [] }

-- the last number of a client, and the reply to it
abbrev pub last_of : State → ℕ → Option (ℕ × Reply)
last_of s client = Entries.get nat_cmp s.last client

-- a request by its client's last number and reply: above it First, equal to it Repeated, below it Passed
abbrev pub kind_of : Option (ℕ × Reply) → ℕ → Kind
kind_of None number = First
kind_of (Some last) number = if nat_lt last.0 number then First else (if number == last.0 then Repeated else Passed)

-- the state and the outcome after a request that is First
abbrev pub done : State → Request → State × Outcome
done s r =
    let a = apply s.store r.command in
    (record s { store = a.0; last = Entries.insert nat_cmp s.last r.client (r.number, a.1) }, record { client = r.client; number = r.number; kind = First; reply = Some a.1 })

-- the kept reply of a client
abbrev pub kept : Option (ℕ × Reply) → Option Reply
kept None = None
kept (Some last) = Some last.1

-- the state and the outcome after a request of this kind
abbrev pub take_by : Kind → State → Request → State × Outcome
take_by First s r = done s r
take_by Repeated s r = (s, record { client = r.client; number = r.number; kind = Repeated; reply = kept (last_of s r.client) })
take_by Passed s r = (s, record { client = r.client; number = r.number; kind = Passed; reply = None })

-- the state and the outcome after a request
abbrev pub take_request : State → Request → State × Outcome
take_request s r = take_by (kind_of (last_of s r.client) r.number) s r

-- the state and the outcomes after these requests
abbrev pub take_requests : State → List Request → State × List Outcome
take_requests s [] = (s, [])
take_requests s (r ∷ rs) =
    let a = take_request s r in
    let b = take_requests a.0 rs in
    (b.0, a.1 ∷ b.1)

-- the state after one batch, which counts as executed
abbrev pub execute : State → List Request → State
execute s batch = let after = (take_requests s batch).0 in record after { executed = after.executed + 1 }

-- the outcomes of one batch
abbrev pub outcomes : State → List Request → List Outcome
outcomes s batch = (take_requests s batch).1

-- the state after these batches, one after another
abbrev pub execute_all : State → List (List Request) → State
execute_all s [] = s
execute_all s (batch ∷ batches) = execute_all (execute s batch) batches

-- what the sequential service comes to after a list of batches
abbrev pub serve : List (List Request) → State
serve batches = execute_all start batches

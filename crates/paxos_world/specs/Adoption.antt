-- Reports, and the batch that a leader adopts from them.
use Rattle.std.specs.Prelude.{◌≡◌, ℕ, ◌≤◌, ◌<◌, List, [], ◌∷◌, Option, Some, None}
use Rattle.std.specs.Option.{unwrap_or, option_or, option_map}
use Rattle.jp_types.specs.declared.message.PrepareOk.{PrepareOk}
use Rattle.jp_types.specs.declared.message.Entry.{Entry}
use Rattle.jp_types.specs.Lists.{In}
use Rattle.paxos_world.specs.Setup.{Setup}
use Rattle.paxos_world.specs.Life.{Life}
use Rattle.jp_types.specs.Instances.{Batch}
use Rattle.paxos_world.specs.Counting.{Held, counted_ok}
use Rattle.jp_types.specs.Reports.{decided_entry, voted_entry, decided_below, highest_below}

-- what an entry says is true of the life: without a view, the batch is known; with a view, the instance is not known and the latest vote on it has that view and batch
abbrev pub IsTold : Life → ℕ → Option ℕ → Batch → Type 0
IsTold l i None batch = l.known i ≡ Some batch
IsTold l i (Some view) batch = (l.known i ≡ None) × (l.votes i ≡ Some (view, batch))

-- instances strictly rise
abbrev pub IsAscending : List Entry → Type 0
IsAscending [] = Unit {0}
IsAscending (e ∷ es) = ((f : Entry) → In f es → e.instance < f.instance) × IsAscending es

-- the report of a life from `first` with `low`: each instance from both on that is known, or else voted, ascending
pub record IsReport (l : Life) (first low : ℕ) (report : List Entry) : Type 0 where
  pub from : (e : Entry) → In e report → (first ≤ e.instance) × (low ≤ e.instance)
  pub told : (e : Entry) → In e report → IsTold l e.instance e.vote e.batch
  pub decided : (i : ℕ) (batch : Batch) → first ≤ i → low ≤ i → l.known i ≡ Some batch → In (decided_entry i batch) report
  pub voted : (i view : ℕ) (batch : Batch) → first ≤ i → low ≤ i → l.known i ≡ None → l.votes i ≡ Some (view, batch) → In (voted_entry i view batch) report
  pub ascending : IsAscending report

-- the report in a PrepareOk, and nothing where there is none
abbrev pub report_in : Option (Held PrepareOk) → List Entry
report_in None = []
report_in (Some h) = h.body.report

-- the report of p that a preparing life of r counts, and nothing where it counts none
abbrev pub counted_report : Setup → ℕ → Life → ℕ → List Entry
counted_report c r l p = report_in (counted_ok c r l p)

-- the batch adopted for i: the own known one; else a decided one; else that of the vote of highest view; else the empty one
abbrev pub adopted_by : ℕ → (ℕ → List Entry) → Life → ℕ → Batch
adopted_by n reports l i =
    unwrap_or (option_or (l.known i) (option_or (decided_below n reports i) (option_map (λ v. v.1) (highest_below n reports (l.votes i) i)))) []

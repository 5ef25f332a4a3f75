-- The list of a finite run, computed from the votes of its last world.
use Rattle.std.specs.Prelude.{ℕ, zero, suc, max, Bool, false, ◌&&◌, ◌||◌, List, [], ◌∷◌, Option, Some, None, if◌then◌else◌, nat_le, ◌==◌}
use Rattle.std.specs.Option.{option_or}
use Rattle.jp_types.specs.Views.{majority, count_below}
use Rattle.jp_types.specs.Instances.{Batch}
use Rattle.paxos_world.specs.World.{Ballot}

-- whether the vote is one in this view on this instance
abbrev pub is_on : ℕ → ℕ → Ballot → Bool
is_on view i b = b.view == view && b.instance == i

-- whether some life of p voted in this view on this instance
abbrev pub has_voted : ℕ → ℕ → ℕ → List Ballot → Bool
has_voted p view i [] = false
has_voted p view i (b ∷ bs) = (b.life.replica == p && is_on view i b) || has_voted p view i bs

-- the batch of the first vote in this view on this instance
abbrev pub batch_on : ℕ → ℕ → List Ballot → Option Batch
batch_on view i [] = None
batch_on view i (b ∷ bs) = if is_on view i b then Some b.batch else batch_on view i bs

-- where a majority voted on i in this view: the batch of the first such vote (by law all such votes have one batch)
abbrev pub chosen_in : ℕ → List Ballot → ℕ → ℕ → Option Batch
chosen_in n votes view i = if nat_le (majority n) (count_below n (λ p. has_voted p view i votes)) then batch_on view i votes else None

-- the batch chosen for i in the least view below k in which one is
abbrev pub chosen_below : ℕ → List Ballot → ℕ → ℕ → Option Batch
chosen_below n votes i zero = None
chosen_below n votes i (suc k) = option_or (chosen_below n votes i k) (chosen_in n votes k i)

-- one more than the highest view of a vote, and 0 where there is none
abbrev pub above_views : List Ballot → ℕ
above_views [] = 0
above_views (b ∷ bs) = max (suc b.view) (above_views bs)

-- one more than the highest instance of a vote, and 0 where there is none
abbrev pub above_instances : List Ballot → ℕ
above_instances [] = 0
above_instances (b ∷ bs) = max (suc b.instance) (above_instances bs)

-- the batch chosen for i, in the least view in which one is
abbrev pub chosen_batch : ℕ → List Ballot → ℕ → Option Batch
chosen_batch n votes i = chosen_below n votes i (above_views votes)

-- a batch, if there is one, before the rest
abbrev pub before : Option Batch → List Batch → List Batch
before None rest = []
before (Some b) rest = b ∷ rest

-- the chosen batches from i on, k at most, up to the first instance that is not chosen
abbrev pub list_from : ℕ → List Ballot → ℕ → ℕ → List Batch
list_from n votes zero i = []
list_from n votes (suc k) i = before (chosen_batch n votes i) (list_from n votes k (suc i))

-- the list of a run with these votes
abbrev pub list_of : ℕ → List Ballot → List Batch
list_of n votes = list_from n votes (above_instances votes) 0

-- The life of a replica between a start and a crash.
use Rattle.std.specs.Prelude.{◌≡◌, ℕ, ◌<◌, List, [], ◌∷◌, Option, Some, None, ◌⊎◌}
use Rattle.jp_types.specs.declared.message.Message.{Message}
use Rattle.jp_types.specs.declared.message.Entry.{Entry}
use Rattle.jp_types.specs.declared.mode.Phase.{Phase}
use Rattle.kv_service.specs.Service.{State, start}
use Rattle.jp_types.specs.Lists.{In}
use Rattle.jp_types.specs.Instances.{Batch}

-- a life: the replica, and which of its starts began it, from 1
pub record LifeId : Type 0 where
  pub replica : ℕ
  pub number : ℕ

-- a message as it was taken: from which life, in which phase, and which view was being prepared then, if any
pub record Taken : Type 0 where
  pub from : LifeId
  pub message : Message
  pub phase : Phase
  pub preparing : Option ℕ

-- a batch proposed in a view
pub record Launched : Type 0 where
  pub view : ℕ
  pub instance : ℕ
  pub batch : Batch

-- what a Prepared step fixes (x, the floor, the adopted batches and the counted reports), and `next`, the instance for its next waiting batch
pub record Lead : Type 0 where
  -- instances below x are proposed with their adopted batches, and none below the floor, which is the life's `below` at that step
  pub x : ℕ
  pub floor : ℕ
  pub adopted : ℕ → Batch
  -- by replica, the report in its counted PrepareOk
  pub reports : ℕ → List Entry
  pub next : ℕ

-- whether the life leads its view: no; it is in phase 1, from an instance on; it is Prepared
pub data Leading : Type 0 where
  No : Leading
  Preparing : (first : ℕ) → Leading
  Leads : (lead : Lead) → Leading

-- the state of a life. Each list has the newest first
pub record Life : Type 0 where
  pub number : ℕ
  pub mark : ℕ
  pub phase : Phase
  pub view : ℕ
  pub taken : List Taken
  -- the recoveries that it answered: of which replica, with which mark
  pub answered : List (ℕ × ℕ)
  -- of each instance, the view and the batch of its latest vote
  pub votes : ℕ → Option (ℕ × Batch)
  -- of each instance, the batch that it knows to be decided
  pub known : ℕ → Option Batch
  -- the greatest place of an installed state, by which all instances below it are known; at first 0
  pub below : ℕ
  pub leading : Leading
  pub launched : List Launched
  pub service : State
  -- the service's states that it had so far, and those that it installed
  pub states : List State
  pub installed : List State

-- instance i is known
abbrev pub IsKnown : Life → ℕ → Type 0
IsKnown l i = (i < l.below) ⊎ ((batch : Batch) × (l.known i ≡ Some batch))

-- f is the least instance that is not known
pub record IsFirstUnknown (l : Life) (f : ℕ) : Type 0 where
  pub below : (i : ℕ) → i < f → IsKnown l i
  pub unknown : ¬ IsKnown l f

-- the life took this message from a life of replica p
abbrev pub Took : Life → ℕ → Message → Type 0
Took l p message = (t : Taken) × In t l.taken × (t.from.replica ≡ p) × (t.message ≡ message)

-- the view that a life prepares, if it does
abbrev pub preparing_in : Leading → ℕ → Option ℕ
preparing_in No view = None
preparing_in (Preparing first) view = Some view
preparing_in (Leads lead) view = None

-- `next` of a Prepared leader, and None for others
abbrev pub next_of : Leading → Option ℕ
next_of No = None
next_of (Preparing first) = None
next_of (Leads lead) = Some lead.next

-- a life as it begins
abbrev pub new_life : ℕ → ℕ → Phase → ℕ → Life
new_life number mark phase view =
    record {
      number = number;
      mark = mark;
      phase = phase;
      view = view;
      taken = [];
      answered = [];
      votes = λ i. None;
      known = λ i. None;
      below = 0;
      leading = No;
      launched = [];
      service = start;
      states = start ∷ [];
      installed = [];
    }

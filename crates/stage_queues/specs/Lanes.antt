-- Lanes as callers see them: what each end knows, and how the two sides of a lane agree.
use Rattle.std.specs.Prelude.{◌≡◌, ℕ, zero, suc, ◌-◌, ◌≤◌, ◌<◌, ◌==◌, Bool, true, false, List, [], ◌∷◌, ◌++◌, length, map, Option, Some, None, IfSome, if◌then◌else◌}
use Rattle.std.specs.List.{All}
use mathlib.Core.List.{IsPrefix}
use Rattle.atomic_table.specs.Seated.{TableId}
use Rattle.stage_queues.specs.declared.side.Log.{Log}
use Rattle.stage_queues.specs.declared.taken.Taken.{Taken}
use Rattle.stage_queues.specs.declared.taken.Taken.TheVariants.{Item, End}

-- which lane it is, how many elements it holds at most, and how many producers it has
pub record Lane : Type 0 where
  pub table : TableId
  pub capacity : ℕ
  pub producers : ℕ

-- what lies in a lane: a producer's number, and an item of it or its End
abbrev pub Element : Type 0 → Type 0
Element T = ℕ × Taken T

-- a pass: what each of its producers did, and what the consumer took, where the consumer's pass is in it
pub record PassSeen (T : Type 0) : Type 0 where
  pub lane : Lane
  pub logs : List (Log T)
  pub taken : Option (List (Element T))

-- a producer's end of a lane. The next `spare` puts are not Full
pub record InletSeen (T : Type 0) : Type 0 where
  pub lane : Lane
  pub log : Log T
  pub spare : ℕ

-- the consumer's end of a lane, with all that it took, oldest first
pub record OutletSeen (T : Type 0) : Type 0 where
  pub lane : Lane
  pub taken : List (Element T)

-- the first of two that is there
abbrev pub or_else : {X : Type 0} → Option X → Option X → Option X
or_else (Some x) other = Some x
or_else None other = other

module _ {T : Type 0} where
  -- what producer p put among these elements, in their order
  abbrev pub from_producer : ℕ → List (Element T) → List (Taken T)
  from_producer p [] = []
  from_producer p (element ∷ elements) = if p == element.0 then element.1 ∷ from_producer p elements else from_producer p elements

  -- the items in what was put, without any End
  abbrev pub items_in : List (Taken T) → List T
  items_in [] = []
  items_in (Item x ∷ rest) = x ∷ items_in rest
  items_in (End ∷ rest) = items_in rest

  -- whether an End is in what was put
  abbrev pub ends_in : List (Taken T) → Bool
  ends_in [] = false
  ends_in (Item x ∷ rest) = ends_in rest
  ends_in (End ∷ rest) = true

  -- the items of producer p among these elements
  abbrev pub items_of : ℕ → List (Element T) → List T
  items_of p elements = items_in (from_producer p elements)

  -- whether the End of producer p is among these elements
  abbrev pub ends : ℕ → List (Element T) → Bool
  ends p elements = ends_in (from_producer p elements)

  -- the items among these elements, whichever producer put each, in their order
  abbrev pub all_items : List (Element T) → List T
  all_items elements = items_in (map (λ (element : Element T). element.1) elements)

  -- how many of the first n producers have no End among these elements
  abbrev pub count_running : ℕ → List (Element T) → ℕ
  count_running zero elements = 0
  count_running (suc n) elements = if ends n elements then count_running n elements else suc (count_running n elements)

  -- the consumer took the End of each producer
  abbrev pub IsFinished : OutletSeen T → Type 0
  IsFinished o = (p : ℕ) → p < o.lane.producers → ends p o.taken ≡ true

  -- all that a producer put: its items, and its End last where it has ended
  abbrev pub sent_of : List T → Bool → List (Taken T)
  sent_of put false = map Item put
  sent_of put true = map Item put ++ End ∷ []

  -- the same, of what a producer's pass says that it put
  abbrev pub sent : Log T → List (Taken T)
  sent log = sent_of log.put log.ended

  -- a producer that did nothing yet
  abbrev pub new_log : ℕ → Log T
  new_log p = record { number = p; put = []; ended = false; fulls = 0; rooms = [] }

  -- a log after one item more
  abbrev pub put_log : Log T → T → Log T
  put_log log x = record { number = log.number; put = log.put ++ x ∷ []; ended = log.ended; fulls = log.fulls; rooms = log.rooms }

  -- a log after its producer's End
  abbrev pub ended_log : Log T → Log T
  ended_log log = record { number = log.number; put = log.put; ended = true; fulls = log.fulls; rooms = log.rooms }

  -- a log after a put that was Full
  abbrev pub full_log : Log T → Log T
  full_log log = record { number = log.number; put = log.put; ended = log.ended; fulls = suc log.fulls; rooms = log.rooms }

  -- a log after its producer was told of the room
  abbrev pub told_log : ℕ → Log T → Log T
  told_log room log = record { number = log.number; put = log.put; ended = log.ended; fulls = log.fulls; rooms = log.rooms ++ room ∷ [] }

  -- a log after one item more, or after the End
  abbrev pub log_after : Taken T → Log T → Log T
  log_after (Item x) log = put_log log x
  log_after End log = ended_log log

  -- what was taken, and after it what the lane holds, are one list. In it each of these producers has all that it put, in its order, and nothing is of a producer that the lane does not have
  pub record SidesAgree (capacity producers : ℕ) (logs : List (Log T)) (taken contents : List (Element T)) : Type 0 where
    pub fits : length contents ≤ capacity
    pub order : All (λ log. from_producer log.number (taken ++ contents) ≡ sent log) logs
    pub others : (p : ℕ) → producers ≤ p → from_producer p (taken ++ contents) ≡ []

  -- at one moment the lane held n elements, as this producer knows it
  abbrev pub HeldThen : Lane → Log T → ℕ → Type 0
  HeldThen lane log n = (taken : List (Element T)) × (contents : List (Element T)) × (length contents ≡ n) × SidesAgree lane.capacity lane.producers (log ∷ []) taken contents

  -- at one moment the lane held nothing, as the consumer knows it
  abbrev pub EmptyThen : Lane → List (Element T) → Type 0
  EmptyThen lane taken = SidesAgree lane.capacity lane.producers [] taken []

  -- a new lane's end of producer p
  abbrev pub new_inlet : Lane → ℕ → InletSeen T
  new_inlet lane p = record { lane = lane; log = new_log p; spare = 0 }

  -- an inlet after an item was put
  abbrev pub after_put : InletSeen T → T → InletSeen T
  after_put i x = record { lane = i.lane; log = put_log i.log x; spare = i.spare - 1 }

  -- an inlet after a put that was Full
  abbrev pub after_full : InletSeen T → InletSeen T
  after_full i = record { lane = i.lane; log = full_log i.log; spare = i.spare }

  -- an inlet after it was told that there is room for n items
  abbrev pub after_room : InletSeen T → ℕ → InletSeen T
  after_room i n = record { lane = i.lane; log = told_log n i.log; spare = n }

  -- an outlet after one element was taken
  abbrev pub after_take : OutletSeen T → Element T → OutletSeen T
  after_take o element = record { lane = o.lane; taken = o.taken ++ element ∷ [] }

  -- what one more element does to the items of each producer
  abbrev pub TakesItemOf : List (Element T) → Element T → List (Element T) → Type 0
  TakesItemOf old element new = (p : ℕ) → items_of p new ≡ items_of p old ++ items_of p (element ∷ [])

  -- the pass of one producer
  abbrev pub inlet_pass : Lane → Log T → PassSeen T
  inlet_pass lane log = record { lane = lane; logs = log ∷ []; taken = None }

  -- the consumer's pass
  abbrev pub outlet_pass : Lane → List (Element T) → PassSeen T
  outlet_pass lane taken = record { lane = lane; logs = []; taken = Some taken }

  -- the first of these logs
  abbrev pub first_log : List (Log T) → Log T
  first_log [] = new_log 0
  first_log (log ∷ logs) = log

  -- the log of a pass of one producer
  abbrev pub log_of : PassSeen T → Log T
  log_of p = first_log p.logs

  -- what was taken, where it is known
  abbrev pub taken_by : Option (List (Element T)) → List (Element T)
  taken_by None = []
  taken_by (Some taken) = taken

  -- what was taken, as the consumer's pass says
  abbrev pub taken_of : PassSeen T → List (Element T)
  taken_of p = taken_by p.taken

  -- it is the pass of one producer, which has not ended
  abbrev pub IsInletPass : PassSeen T → Type 0
  IsInletPass p = (p ≡ inlet_pass p.lane (log_of p)) × ((log_of p).ended ≡ false)

  -- it is the consumer's pass, and no other is in it
  abbrev pub IsOutletPass : PassSeen T → Type 0
  IsOutletPass p = p ≡ outlet_pass p.lane (taken_of p)

  -- both passes in one
  abbrev pub joined : PassSeen T → PassSeen T → PassSeen T
  joined p q = record { lane = p.lane; logs = p.logs ++ q.logs; taken = or_else p.taken q.taken }

  -- where the consumer's pass is in it, the lane's two sides agree
  abbrev pub Agrees : PassSeen T → Type 0
  Agrees p = IfSome p.taken (λ taken. (contents : List (Element T)) × SidesAgree p.lane.capacity p.lane.producers p.logs taken contents)

  -- what was taken of each of these producers begins what it put
  abbrev pub Begins : PassSeen T → Type 0
  Begins p = IfSome p.taken (λ taken. All (λ log. IsPrefix (items_of log.number taken) log.put) p.logs)

  -- where the producer's End was taken, its items that were taken are all that it put, and it has ended
  abbrev pub IsWhole : List (Element T) → Log T → Type 0
  IsWhole taken log = ends log.number taken ≡ true → (items_of log.number taken ≡ log.put) × (log.ended ≡ true)

  -- that holds of each of these producers
  abbrev pub AreWhole : PassSeen T → Type 0
  AreWhole p = IfSome p.taken (λ taken. All (IsWhole taken) p.logs)

  -- in a lane of one producer all items that were taken are of producer 0
  abbrev pub IsOfOne : PassSeen T → Type 0
  IsOfOne p = p.lane.producers ≡ 1 → IfSome p.taken (λ taken. all_items taken ≡ items_of 0 taken)

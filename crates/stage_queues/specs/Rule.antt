-- The lane's rule: what holds at every step of the elements in the lane and of what each pass knows.
use Rattle.std.specs.Prelude.{◌≡◌, ℕ, zero, suc, ◌<◌, ◌≤◌, ◌==◌, Bool, true, false, List, [], ◌∷◌, ◌++◌, length, map, Option, Some, None, IfSome, if◌then◌else◌}
use Rattle.std.specs.List.{All}
use Rattle.std.specs.Option.{option_map}
use mathlib.Core.Option.{some}
use lib.ListN.{get_elem?}
use Rattle.atomic_table.specs.Seated.{TableId}
use Rattle.stage_queues.specs.declared.side.Log.{Log}
use Rattle.stage_queues.specs.declared.side.Side.{Side}
use Rattle.stage_queues.specs.declared.taken.Taken.{Taken}
use Rattle.stage_queues.specs.declared.taken.Taken.TheVariants.{Item, End}
use Rattle.stage_queues.specs.Lanes.{Element, from_producer, sent_of, new_log, full_log, told_log, log_after, or_else, ends, SidesAgree, PassSeen, InletSeen, Lane, new_inlet}

-- The state of a lane, of which each pass knows a part. `log` is what each producer has put, and whether it has ended. The pass `seat p` has producer p's log, and the pass `consumer` has what was taken. So far `made` producers have a pass
pub record LaneState (T : Type 0) : Type 0 where
  pub capacity : ℕ
  pub producers : ℕ
  pub made : ℕ
  pub consumer : ℕ
  pub seat : ℕ → ℕ
  pub log : ℕ → List T × Bool
  pub taken : List (Element T)

-- f with x at k
abbrev pub with_at : {X : Type 0} → (ℕ → X) → ℕ → X → ℕ → X
with_at f k x q = if q == k then x else f q

-- the lane of a queue, by the queue's name
abbrev pub lane_at : TableId → ℕ → ℕ → Lane
lane_at table capacity producers = record { table = table; capacity = capacity; producers = producers }

module _ {T : Type 0} where
  -- what a producer has put and whether it has ended, after one more element of it
  abbrev pub added : Taken T → List T × Bool → List T × Bool
  added (Item x) log = (log.0 ++ x ∷ [], log.1)
  added End log = (log.0, true)

  -- this pass has producer `log.number`'s log, and the log is true
  pub record IsLogOf (b : LaneState T) (pass most count : ℕ) (log : Log T) : Type 0 where
    pub made : log.number < b.made
    pub seat : b.seat log.number ≡ pass
    pub same : b.log log.number ≡ (log.put, log.ended)
    pub capacity : most ≡ b.capacity
    pub producers : count ≡ b.producers

  -- this pass is the consumer's, and the list of what was taken is true
  pub record IsTakenOf (b : LaneState T) (pass most count : ℕ) (taken : List (Element T)) : Type 0 where
    pub consumer : b.consumer ≡ pass
    pub same : b.taken ≡ taken
    pub capacity : most ≡ b.capacity
    pub producers : count ≡ b.producers

  -- this pass is the consumer's, and so many producers have a pass
  pub record IsMadeOf (b : LaneState T) (pass count : ℕ) : Type 0 where
    pub consumer : b.consumer ≡ pass
    pub same : b.made ≡ count

  -- all that a pass knows is true
  pub record Knows (b : LaneState T) (pass : ℕ) (v : Side T) : Type 0 where
    pub logs : All (IsLogOf b pass v.capacity v.producers) v.logs
    pub taken : IfSome v.taken (IsTakenOf b pass v.capacity v.producers)
    pub made : IfSome v.made (IsMadeOf b pass)

  -- the lane holds these elements and the passes know this, in that state of the lane
  pub record IsKept (b : LaneState T) (elements : List (Element T)) (views : List (Side T)) : Type 0 where
    pub fits : length elements ≤ b.capacity
    pub made : b.made ≤ b.producers
    pub order : (p : ℕ) → from_producer p (b.taken ++ elements) ≡ sent_of (b.log p).0 (b.log p).1
    pub later : (p : ℕ) → b.made ≤ p → b.log p ≡ ([], false)
    pub known : (pass : ℕ) (v : Side T) → get_elem? views pass ≡ some v → Knows b pass v

  -- the rule: there is such a state
  abbrev pub Kept : List (Element T) → List (Side T) → Type 0
  Kept elements views = (b : LaneState T) × IsKept b elements views

  -- the first pass, of a lane with no capacity yet and no producer
  abbrev pub first_side : Side T
  first_side = record { capacity = 0; producers = 0; made = Some 0; logs = []; taken = Some [] }

  -- the lane opens with this capacity, for so many producers
  abbrev pub opened : ℕ → ℕ → Side T → Side T
  opened capacity producers v = record { capacity = capacity; producers = producers; made = v.made; logs = v.logs; taken = v.taken }

  -- a pass that knows nothing, and may do nothing
  abbrev pub idle : Side T
  idle = record { capacity = 0; producers = 0; made = None; logs = []; taken = None }

  -- what one producer's pass knows
  abbrev pub inlet_side : ℕ → ℕ → Option ℕ → Log T → Side T
  inlet_side capacity producers made log = record { capacity = capacity; producers = producers; made = made; logs = log ∷ []; taken = None }

  -- what the consumer's pass knows
  abbrev pub consumer_side : ℕ → ℕ → Option ℕ → List (Element T) → Side T
  consumer_side capacity producers made taken = record { capacity = capacity; producers = producers; made = made; logs = []; taken = Some taken }

  -- the consumer's pass makes the next producer's
  abbrev pub one_more : Side T → Side T
  one_more v = record { capacity = v.capacity; producers = v.producers; made = option_map suc v.made; logs = v.logs; taken = v.taken }

  -- the pass of the producer with this number, where there is one to be made
  abbrev pub with_number : Option ℕ → ℕ → ℕ → Side T
  with_number None capacity producers = idle
  with_number (Some n) capacity producers = inlet_side capacity producers None (new_log n)

  -- the pass of the next producer
  abbrev pub next_inlet : Side T → Side T
  next_inlet v = with_number v.made v.capacity v.producers

  -- a pass with its logs changed
  abbrev pub with_logs : Side T → (Log T → Log T) → Side T
  with_logs v f = record { capacity = v.capacity; producers = v.producers; made = v.made; logs = map f v.logs; taken = v.taken }

  -- a pass after a push of its producer
  abbrev pub after_element : Side T → Element T → Side T
  after_element v element = with_logs v (log_after element.1)

  -- a pass after a put that was Full
  abbrev pub counted : Side T → Side T
  counted v = with_logs v full_log

  -- a pass after its producer was told of the room
  abbrev pub told : ℕ → Side T → Side T
  told room v = with_logs v (told_log room)

  -- a pass after a pop
  abbrev pub took : Side T → Element T → Side T
  took v element = record { capacity = v.capacity; producers = v.producers; made = v.made; logs = v.logs; taken = option_map (λ taken. taken ++ element ∷ []) v.taken }

  -- what a pop tells: the element was taken, it is of one of the producers, and of none whose End was taken before
  pub record Took (v : Side T) (element : Element T) (w : Side T) : Type 0 where
    pub after : w ≡ took v element
    pub number : element.0 < v.producers
    pub open_yet : IfSome v.taken (λ taken. ends element.0 taken ≡ false)

  -- what callers see of a pass of the lane at this table
  abbrev pub seen : TableId → Side T → PassSeen T
  seen table v = record { lane = record { table = table; capacity = v.capacity; producers = v.producers }; logs = v.logs; taken = v.taken }

  -- the ends of the first n producers
  abbrev pub inlets_of : Lane → ℕ → List (InletSeen T)
  inlets_of lane zero = []
  inlets_of lane (suc n) = inlets_of lane n ++ new_inlet lane n ∷ []

  -- both passes in one
  abbrev pub both_sides : Side T → Side T → Side T
  both_sides v w = record { capacity = v.capacity; producers = v.producers; made = v.made; logs = v.logs ++ w.logs; taken = or_else v.taken w.taken }

  -- what a producer's pass learns at one moment
  abbrev pub Told : Side T → List (Element T) → Type 0
  Told v elements = (taken : List (Element T)) × SidesAgree v.capacity v.producers v.logs taken elements

  -- what a pass that has the consumer's side learns at one moment
  abbrev pub Agreed : Side T → List (Element T) → Type 0
  Agreed v elements = IfSome v.taken (λ taken. SidesAgree v.capacity v.producers v.logs taken elements)

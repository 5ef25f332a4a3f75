-- The messages that are repeated for a life, and by what each is cancelled.
use Rattle.std.specs.Prelude.{ℕ, suc, List, [], ◌∷◌, ◌==◌, drop, if◌then◌else◌, Option, Some, None}
use Rattle.std.specs.List.{slice_get}
use Rattle.std.specs.Option.{option_map}
use Rattle.retransmitter.specs.Armed.{Armed}
use Rattle.retransmitter.specs.Slots.{cancelled, generation_at, slots_in}
use Rattle.retransmitter.specs.declared.outgoing.Outgoing.{Outgoing}
use Rattle.retransmitter.specs.declared.slots.Slot.{Slot}
use Rattle.protocol_core.specs.declared.act.Topic.{Topic}

-- by what the armed messages are cancelled, by topic; of the proposals the newest stands first
pub record Tokens : Type 0 where
  pub prepare : Option Armed
  pub recovery : Option Armed
  pub query : Option Armed
  pub proposes : List (ℕ × Armed)

-- the slots in which messages are repeated, and by what each is cancelled
pub record Repeating : Type 0 where
  pub slots : List Slot
  pub tokens : Tokens

-- nothing is armed
abbrev pub no_tokens : Tokens
no_tokens = record { prepare = None; recovery = None; query = None; proposes = [] }

-- nothing is armed yet over these slots
abbrev pub unarmed : List Slot → Repeating
unarmed slots = record { slots = slots; tokens = no_tokens }

-- ---- Arming

-- the armed proposals with one more, where it was armed
abbrev pub with_propose : ℕ → Option Armed → List (ℕ × Armed) → List (ℕ × Armed)
with_propose i None proposes = proposes
with_propose i (Some a) proposes = (i, a) ∷ proposes

-- what is kept once a message of this topic was armed, or found no slot
abbrev pub keeping : Topic → Option Armed → Tokens → Tokens
keeping Topic.Prepare a t = record t { prepare = a }
keeping Topic.Recovery a t = record t { recovery = a }
keeping Topic.Query a t = record t { query = a }
keeping (Topic.Propose i) a t = record t { proposes = with_propose i a t.proposes }

-- by what a message is cancelled that is armed in this slot, or in none
abbrev pub armed_in : List Slot → Option ℕ → Option Armed
armed_in slots None = None
armed_in slots (Some k) = Some (record { slot = k; generation = suc (generation_at slots k) })

-- a message is repeated from now on, in this slot, or in none
abbrev pub armed_for : Topic → Outgoing → Option ℕ → Repeating → Repeating
armed_for topic m k r = record { slots = slots_in r.slots m k; tokens = keeping topic (armed_in r.slots k) r.tokens }

-- ---- Cancelling

-- slots after this is cancelled, if it is anything
abbrev pub ended : List Slot → Option Armed → List Slot
ended slots None = slots
ended slots (Some a) = cancelled slots a

-- slots after each of these is cancelled
abbrev pub ended_each : List Slot → List (ℕ × Armed) → List Slot
ended_each slots [] = slots
ended_each slots (a ∷ more) = ended_each (cancelled slots a.1) more

-- the armed proposals for this instance
abbrev pub proposes_of : ℕ → List (ℕ × Armed) → List (ℕ × Armed)
proposes_of i [] = []
proposes_of i (a ∷ more) = let rest = proposes_of i more in if a.0 == i then a ∷ rest else rest

-- the armed proposals for all other instances
abbrev pub proposes_but : ℕ → List (ℕ × Armed) → List (ℕ × Armed)
proposes_but i [] = []
proposes_but i (a ∷ more) = let rest = proposes_but i more in if a.0 == i then rest else a ∷ rest

-- by what the newest proposal for an instance is cancelled, if one is armed
abbrev pub newest_propose : ℕ → List (ℕ × Armed) → Option Armed
newest_propose i [] = None
newest_propose i (a ∷ more) = if a.0 == i then Some a.1 else newest_propose i more

-- the armed proposals without the newest one for an instance
abbrev pub without_newest_propose : ℕ → List (ℕ × Armed) → List (ℕ × Armed)
without_newest_propose i [] = []
without_newest_propose i (a ∷ more) = if a.0 == i then more else a ∷ without_newest_propose i more

-- by what the newest message of a topic is cancelled, if one is armed
abbrev pub newest : Topic → Tokens → Option Armed
newest Topic.Prepare t = t.prepare
newest Topic.Recovery t = t.recovery
newest Topic.Query t = t.query
newest (Topic.Propose i) t = newest_propose i t.proposes

-- what is kept once the newest message of a topic was taken out
abbrev pub without_newest : Topic → Tokens → Tokens
without_newest Topic.Prepare t = record t { prepare = None }
without_newest Topic.Recovery t = record t { recovery = None }
without_newest Topic.Query t = record t { query = None }
without_newest (Topic.Propose i) t = record t { proposes = without_newest_propose i t.proposes }

-- the newest message of a topic is repeated no more
abbrev pub newest_cancelled : Topic → Repeating → Repeating
newest_cancelled topic r = record { slots = ended r.slots (newest topic r.tokens); tokens = without_newest topic r.tokens }

-- the newest proposal of all is repeated no more
abbrev pub newest_propose_cancelled : Repeating → Repeating
newest_propose_cancelled r =
    record {
      slots = ended r.slots (option_map (λ a. a.1) (slice_get r.tokens.proposes 0));
      tokens = record r.tokens { proposes = drop 1 r.tokens.proposes };
    }

-- no message of this topic is repeated any more
abbrev pub cancelled_for : Topic → Repeating → Repeating
cancelled_for Topic.Prepare r = record { slots = ended r.slots r.tokens.prepare; tokens = record r.tokens { prepare = None } }
cancelled_for Topic.Recovery r = record { slots = ended r.slots r.tokens.recovery; tokens = record r.tokens { recovery = None } }
cancelled_for Topic.Query r = record { slots = ended r.slots r.tokens.query; tokens = record r.tokens { query = None } }
cancelled_for (Topic.Propose i) r =
    record { slots = ended_each r.slots (proposes_of i r.tokens.proposes); tokens = record r.tokens { proposes = proposes_but i r.tokens.proposes } }

-- no proposal is repeated any more
abbrev pub without_proposes : Repeating → Repeating
without_proposes r = record { slots = ended_each r.slots r.tokens.proposes; tokens = record r.tokens { proposes = [] } }

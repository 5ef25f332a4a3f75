-- How a turn is written: each word is one act, and `t ▹ f ▹ g` does f to t and then g. So the order of the acts is that of the words.
use Rattle.std.specs.Prelude.{ℕ, zero, suc, Bool, true, false, List, [], ◌∷◌, ◌++◌, Option, Some, None, if◌then◌else◌, ◌==◌}
use Rattle.jp_types.specs.declared.message.Message.{Message}
use Rattle.paxos_world.specs.declared.step.Step.{Step}
use Rattle.paxos_world.specs.World.{Deed, life_after}
use Rattle.paxos_world.specs.Stage.{Config, setup_of, Stage, Decision, Act, Show, Send, Hand, Save, Turned}

-- f of the turn so far
infixl 20 ◌▹◌
abbrev pub ◌▹◌ : Turned → (Turned → Turned) → Turned
t ▹ f = f t

-- f where the test passes
abbrev pub when : Bool → (Turned → Turned) → Turned → Turned
when true f t = f t
when false f t = t

-- f of the value, where there is one
abbrev pub when_some : {A : Type 0} → Option A → (A → Turned → Turned) → Turned → Turned
when_some None f t = t
when_some (Some x) f t = f x t

-- f of each, in order
abbrev pub for_each : {A : Type 0} → List A → (A → Turned → Turned) → Turned → Turned
for_each [] f t = t
for_each (x ∷ xs) f t = for_each xs f (f x t)

-- f of a, a + 1 and so on, k of them
abbrev pub for_range : ℕ → ℕ → (ℕ → Turned → Turned) → Turned → Turned
for_range zero a f t = t
for_range (suc k) a f t = for_range k (suc a) f (f a t)

-- the stage is changed, with no act
abbrev pub with_stage : (Stage → Stage) → Turned → Turned
with_stage f t = record t { stage = f t.stage }

-- an act, which changes nothing of the stage
abbrev pub acts : Act → Turned → Turned
acts a t = record t { acts = t.acts ++ a ∷ [] }

-- a step of the world: the life is the one after it
abbrev pub does : Deed → Turned → Turned
does d t =
    let s = t.stage in
    record t { stage = record s { life = life_after (setup_of s.config) s.config.me s.life d }; deeds = t.deeds ++ d ∷ [] }

-- a step of the world that the text shows
abbrev pub shows : Step → Deed → Turned → Turned
shows step d t = t ▹ does d ▹ acts (Show step)

-- a message that the step before it sends
abbrev pub sends : ℕ → Message → Turned → Turned
sends to m t = t ▹ acts (Send to m)

-- a message that is sent with no step of its own
abbrev pub says : ℕ → Message → Turned → Turned
says to m t = t ▹ does (Deed.Say to m) ▹ acts (Send to m)

-- the number is saved to the disk
abbrev pub saves : ℕ → Turned → Turned
saves number t = t ▹ with_stage (λ s. record s { stable = number }) ▹ acts (Save number)

-- a decision is handed to the Service stage
abbrev pub hands : Decision → Turned → Turned
hands d t = t ▹ acts (Hand d)

-- the replicas below k but r, ascending
abbrev pub others_below : ℕ → ℕ → List ℕ
others_below zero r = []
others_below (suc k) r = others_below k r ++ (if k == r then [] else k ∷ [])

-- all other replicas
abbrev pub others : Config → List ℕ
others c = others_below c.n c.me

-- a message to all others, ascending, that the step before it sends
abbrev pub sends_to_all : Message → Turned → Turned
sends_to_all m t = for_each (others t.stage.config) (λ q. sends q m) t

-- a message to all others, ascending, with no step of its own
abbrev pub says_to_all : Message → Turned → Turned
says_to_all m t = for_each (others t.stage.config) (λ q. says q m) t

-- The steps of one kind that acts show.
use Rattle.std.specs.Prelude.{ℕ, Bool, true, false, ◌||◌, List, [], ◌∷◌, if◌then◌else◌}
use Rattle.jp_types.specs.declared.message.Message.{Message}
use Rattle.paxos_world.specs.declared.step.Step.{Step}
use Rattle.paxos_world.specs.Stage.{Act, Show, Send, Hand, Save}

-- the steps that these acts show and that pass a test, in order
abbrev pub shown_where : (Step → Bool) → List Act → List Step
shown_where P [] = []
shown_where P (Show step ∷ acts) = let rest = shown_where P acts in if P step then step ∷ rest else rest
shown_where P (Send to m ∷ acts) = shown_where P acts
shown_where P (Hand decision ∷ acts) = shown_where P acts
shown_where P (Save number ∷ acts) = shown_where P acts

-- a life enters a view
abbrev pub is_enter : Step → Bool
is_enter (Step.Enter r view) = true
is_enter _ = false

-- a life promises a view
abbrev pub is_promise : Step → Bool
is_promise (Step.Promise r view) = true
is_promise _ = false

-- a life answers a recovery
abbrev pub is_answer : Step → Bool
is_answer (Step.Answer r to view next) = true
is_answer _ = false

-- a life rejoins
abbrev pub is_rejoin : Step → Bool
is_rejoin (Step.Rejoin r view) = true
is_rejoin _ = false

-- a life becomes Prepared
abbrev pub is_prepared_step : Step → Bool
is_prepared_step (Step.Prepared r view next) = true
is_prepared_step _ = false

-- a life launches a batch
abbrev pub is_launch : Step → Bool
is_launch (Step.Launch r view i batch) = true
is_launch _ = false

-- a life votes
abbrev pub is_vote : Step → Bool
is_vote (Step.Vote r view i) = true
is_vote _ = false

-- a life learns
abbrev pub is_learn : Step → Bool
is_learn (Step.Learn r i) = true
is_learn _ = false

-- a life installs a state
abbrev pub is_install : Step → Bool
is_install (Step.Install r upto) = true
is_install _ = false

-- the messages that these acts send, each with the replica that it goes to, in order
abbrev pub sent_in : List Act → List (ℕ × Message)
sent_in [] = []
sent_in (Show step ∷ acts) = sent_in acts
sent_in (Send to m ∷ acts) = (to, m) ∷ sent_in acts
sent_in (Hand decision ∷ acts) = sent_in acts
sent_in (Save number ∷ acts) = sent_in acts

-- the numbers that these acts save, in order
abbrev pub saved_in : List Act → List ℕ
saved_in [] = []
saved_in (Show step ∷ acts) = saved_in acts
saved_in (Send to m ∷ acts) = saved_in acts
saved_in (Hand decision ∷ acts) = saved_in acts
saved_in (Save number ∷ acts) = number ∷ saved_in acts

-- a step that a turn may show
abbrev pub is_of_a_turn : Step → Bool
is_of_a_turn step =
    is_enter step || (is_promise step || (is_vote step || (is_learn step || (is_answer step || (is_install step || (is_rejoin step || (is_prepared_step step || is_launch step)))))))

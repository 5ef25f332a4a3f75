-- Which steps a turn shows, and that it shows no other of their kinds.
use Rattle.std.specs.Prelude.{◌≡◌, ℕ, true, List, [], ◌∷◌, ◌++◌, drop, length, if◌then◌else◌, Some, is_some}
use Rattle.std.specs.Option.{option_map}
use Rattle.jp_types.specs.declared.message.Message.{Message}
use Rattle.paxos_world.specs.declared.step.Step.{Step}
use Rattle.paxos_world.specs.Replica.{handed_by}
use Rattle.paxos_world.specs.Retransmitting.{claim, cursor_after}
use Rattle.paxos_world.specs.Settling.{rejoin_view}
use Rattle.jp_types.specs.Lists.{In}
use Rattle.paxos_world.specs.Shown.{shown_in}
use Rattle.paxos_world.specs.Stage.{Stage, Item, Turned}
use Rattle.paxos_world.specs.Turn.{turn, retransmit}
use Rattle.step_laws.specs.Kinds.{shown_where, is_enter, is_promise, is_answer, is_rejoin, is_prepared_step, is_launch, is_vote, is_learn, is_install, is_of_a_turn, saved_in, sent_in}
use Rattle.step_laws.specs.Installed.{installed_by, handings}
use Rattle.step_laws.specs.Kept.{handed_behind, quiet_after, saved_on_entering, saved_on_rejoining, waiting_after}
use Rattle.step_laws.specs.Learned.{learned_by, learns_at_prepared}
use Rattle.step_laws.specs.Sent.{to_each, sent_by, proposals_of}
use Rattle.step_laws.specs.Settled.{after_item, after_rejoin, after_prepared, rejoins_in, prepared_by, launches_at_prepared, launches_of_waiting}
use Rattle.step_laws.specs.Views.{entered_view, enters, own_promise, asked_promise, recovery_answer, proposal_vote}

-- a turn enters exactly the view that its item makes it enter, if there is one
abbrev pub EntersExactly : Type 0
EntersExactly = (s : Stage) (item : Item) (room : ℕ) → shown_where is_enter (turn s item room).acts ≡ enters s.config.me (entered_view s item)

-- it promises exactly the entered view to itself, where it leads it, and a view to who asks for it
abbrev pub PromisesExactly : Type 0
PromisesExactly =
    (s : Stage) (item : Item) (room : ℕ) → shown_where is_promise (turn s item room).acts ≡ own_promise s.config.n s.config.me (entered_view s item) ++ asked_promise s item

-- it answers exactly a recovery that a Working stage takes
abbrev pub AnswersExactly : Type 0
AnswersExactly = (s : Stage) (item : Item) (room : ℕ) → shown_where is_answer (turn s item room).acts ≡ recovery_answer s item

-- it rejoins exactly where the condition holds after the item
abbrev pub RejoinsExactly : Type 0
RejoinsExactly = (s : Stage) (item : Item) (room : ℕ) → shown_where is_rejoin (turn s item room).acts ≡ rejoins_in s.config.me (rejoin_view (after_item s item))

-- it becomes Prepared exactly where the condition holds then
abbrev pub PreparedExactly : Type 0
PreparedExactly = (s : Stage) (item : Item) (room : ℕ) → shown_where is_prepared_step (turn s item room).acts ≡ prepared_by (after_rejoin s item).life.leading (after_rejoin s item)

-- it launches exactly the adopted batches as it becomes Prepared, and then the waiting ones that have a place
abbrev pub LaunchesExactly : Type 0
LaunchesExactly =
    (s : Stage) (item : Item) (room : ℕ) → shown_where is_launch (turn s item room).acts
    ≡ launches_at_prepared (after_rejoin s item).life.leading (after_rejoin s item) ++ launches_of_waiting (after_prepared s item).life.leading (after_prepared s item)

-- the votes that go with launches
abbrev pub votes_of : List Step → List Step
votes_of [] = []
votes_of (Step.Launch r view i batch ∷ steps) = Step.Vote r view i ∷ votes_of steps
votes_of (_ ∷ steps) = votes_of steps

-- it votes exactly on a proposal that it may vote on, and with each launch
abbrev pub VotesExactly : Type 0
VotesExactly =
    (s : Stage) (item : Item) (room : ℕ) → shown_where is_vote (turn s item room).acts ≡ proposal_vote s item ++ votes_of (shown_where is_launch (turn s item room).acts)

-- it learns exactly what its item makes it learn, and what the counted reports have as decided as it becomes Prepared
abbrev pub LearnsExactly : Type 0
LearnsExactly =
    (s : Stage) (item : Item) (room : ℕ) → shown_where is_learn (turn s item room).acts ≡ learned_by s item ++ learns_at_prepared (after_rejoin s item).life.leading (after_rejoin s item)

-- it installs exactly the state that its item completes
abbrev pub InstallsExactly : Type 0
InstallsExactly = (s : Stage) (item : Item) (room : ℕ) → shown_where is_install (turn s item room).acts ≡ installed_by s item

-- it hands on exactly the decisions for which there is room, from where it left off
abbrev pub HandsOnExactly : Type 0
HandsOnExactly = (s : Stage) (item : Item) (room : ℕ) → handed_by (turn s item room).acts ≡ handings room (after_prepared s item) s.handed

-- it sends exactly what its item makes it send, and then the proposal of each launch
abbrev pub SendsExactly : Type 0
SendsExactly =
    (s : Stage) (item : Item) (room : ℕ) → sent_in (turn s item room).acts ≡ sent_by s item ++ proposals_of s.config (shown_where is_launch (turn s item room).acts)

-- the Retransmitter sends exactly the message of the first live slot from the cursor on, and the cursor goes one past it
abbrev pub RepeatsExactly : Type 0
RepeatsExactly =
    (s : Stage) (cursor : ℕ) → option_map {U = ℕ × List (ℕ × Message)} (λ found. (found.0, sent_in found.1.acts)) (retransmit s cursor)
    ≡ option_map {U = ℕ × List (ℕ × Message)} (λ found. (cursor_after found.0, to_each found.1.to found.1.message)) (claim s.slots cursor)

-- it shows no step of another kind
abbrev pub ShowsNoOther : Type 0
ShowsNoOther = (s : Stage) (item : Item) (room : ℕ) (step : Step) → In step (shown_in (turn s item room).acts) → is_of_a_turn step ≡ true

-- a retransmission shows no step, and leaves the stage as it was
abbrev pub RepeatsOnly : Type 0
RepeatsOnly = (s : Stage) (cursor at : ℕ) (t : Turned) → retransmit s cursor ≡ Some (at, t) → (shown_in t.acts ≡ []) × (t.stage ≡ s)

-- it saves exactly the view that it enters, and the one in which it rejoins, where these are to be saved
abbrev pub SavesExactly : Type 0
SavesExactly =
    (s : Stage) (item : Item) (room : ℕ) → saved_in (turn s item room).acts
    ≡ saved_on_entering s (entered_view s item) ++ saved_on_rejoining (after_item s item) (rejoin_view (after_item s item))

-- of the batches that wait after the item those stay that are not launched
abbrev pub WaitsExactly : Type 0
WaitsExactly =
    (s : Stage) (item : Item) (room : ℕ) → (turn s item room).stage.waiting
    ≡ drop (length (launches_of_waiting (after_prepared s item).life.leading (after_prepared s item))) (waiting_after s item)

-- what was handed on lies below the place behind the last decision
abbrev pub HandedExactly : Type 0
HandedExactly = (s : Stage) (item : Item) (room : ℕ) → (turn s item room).stage.handed ≡ handed_behind s.handed (handed_by (turn s item room).acts)

-- the ticks without the leader are counted as the item says, and anew where it rejoins
abbrev pub CountsQuietExactly : Type 0
CountsQuietExactly = (s : Stage) (item : Item) (room : ℕ) → (turn s item room).stage.quiet ≡ (if is_some (rejoin_view (after_item s item)) then 0 else quiet_after s item)

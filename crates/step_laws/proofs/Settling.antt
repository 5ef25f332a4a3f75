-- Which steps settling shows: a rejoin, a Prepared step and launches.
use Rattle.std.proofs.Common.{◌≡◌, ℕ, max, Bool, true, false, ◌&&◌, nat_lt, List, [], ◌∷◌, ◌++◌, Option, Some, None, if◌then◌else◌, refl, sym, ap, ◌∙◌, append-nil}
use Rattle.paxos_world.specs.declared.step.Step.{Step}
use Rattle.paxos_world.specs.Life.{Leading, No, Preparing, Leads}
use Rattle.paxos_world.specs.World.{Deed}
use Rattle.paxos_world.specs.Stage.{Config, Turned}
use Rattle.paxos_world.specs.Writing.{◌▹◌, when, when_some, with_stage, shows, saves}
use Rattle.paxos_world.specs.Logs.{first_undecided}
use Rattle.paxos_world.specs.Retransmitting.{cancels_prepare, cancels_recovery}
use Rattle.paxos_world.specs.Leading.{is_view_ss}
use Rattle.paxos_world.specs.Settling.{rejoin_view, rejoins, settles_rejoin, is_prepared, adoption_end, becomes_prepared, settles_leading, settles_prepared, settles_waiting}
use Rattle.paxos_world.specs.Turn.{on_item, untouched, turn}
use Rattle.step_laws.specs.Kinds.{shown_where, is_rejoin, is_prepared_step, is_launch}
use Rattle.step_laws.specs.Settled.{rejoins_in, prepared_by, launches_at_prepared, launches_of_waiting}
use Rattle.step_laws.specs.Laws.{RejoinsExactly, PreparedExactly, LaunchesExactly}
use Rattle.step_laws.proofs.Quieting.{Calm, calm-when, calm-saves, shows-adds}
use Rattle.step_laws.proofs.QuietItems.{calm-item, calm-rejoin, calm-adopts, calm-prepared, calm-waiting, calm-hands_on}
use Rattle.step_laws.proofs.Launching.{launch-calm, prepared-launches, waiting-launches}

-- the test of rejoins is one that each step fails which an item may show
pub rejoin-calm : Calm is_rejoin
rejoin-calm = record { enter = λ r v. refl; promise = λ r v. refl; vote = λ r v i. refl; learn = λ r i. refl; answer = λ r to v n. refl; install = λ r u. refl }

-- the test of Prepared steps is such a one
pub prepared-calm : Calm is_prepared_step
prepared-calm = record { enter = λ r v. refl; promise = λ r v. refl; vote = λ r v i. refl; learn = λ r i. refl; answer = λ r to v n. refl; install = λ r u. refl }

-- rejoining shows itself
pub rejoins-adds : (o : Option ℕ) (t : Turned) → shown_where is_rejoin (when_some o rejoins t).acts ≡ shown_where is_rejoin t.acts ++ rejoins_in t.stage.config.me o
rejoins-adds None t = sym (append-nil (shown_where is_rejoin t.acts))
rejoins-adds (Some view) t =
    let s = t.stage in
    let a = t ▹ when (is_view_ss s.config.mode && nat_lt s.life.mark view) (saves view) in
    let b = a ▹ with_stage (λ s. record s { quiet = 0 }) ▹ cancels_recovery in
    let c = calm-when is_rejoin (is_view_ss s.config.mode && nat_lt s.life.mark view) (saves view) t (calm-saves is_rejoin view) in
    shows-adds is_rejoin (Step.Rejoin s.config.me view) (Deed.Rejoin view) b refl ∙ ap (λ (xs : List Step). xs ++ Step.Rejoin s.config.me view ∷ []) c.shown

-- a turn rejoins exactly where the condition holds after the item
pub rejoins_exactly : RejoinsExactly
unfolding turn
rejoins_exactly s item room =
    let t1 = untouched s ▹ on_item item in
    let t2 = t1 ▹ settles_rejoin in
    let t3 = t2 ▹ settles_prepared in
    let t4 = t3 ▹ settles_waiting in
    let a = calm-item is_rejoin rejoin-calm item (untouched s) in
    let c = calm-prepared is_rejoin rejoin-calm (λ r v n. refl) (λ r v i b. refl) t2.stage.life.leading t2 in
    let d = calm-waiting is_rejoin rejoin-calm (λ r v i b. refl) t3.stage.waiting t3 in
    let e = calm-hands_on is_rejoin rejoin-calm room t4 in
    e.shown ∙ d.shown ∙ c.shown ∙ rejoins-adds (rejoin_view t1.stage) t1
    ∙ ap (λ (xs : List Step). xs ++ rejoins_in t1.stage.config.me (rejoin_view t1.stage)) a.shown
    ∙ ap (λ (k : Config). rejoins_in k.me (rejoin_view t1.stage)) a.config

-- becoming Prepared shows itself
pub prepared-adds : (l : Leading) (t : Turned) → shown_where is_prepared_step (settles_leading l t).acts ≡ shown_where is_prepared_step t.acts ++ prepared_by l t.stage
prepared-adds No t = sym (append-nil (shown_where is_prepared_step t.acts))
prepared-adds (Leads lead) t = sym (append-nil (shown_where is_prepared_step t.acts))
prepared-adds (Preparing first) t = go (is_prepared t.stage first)
  where
    go : (b : Bool) → shown_where is_prepared_step (when b (becomes_prepared first) t).acts
        ≡ shown_where is_prepared_step t.acts ++ (if b then Step.Prepared t.stage.config.me t.stage.life.view (max (adoption_end t.stage first) (first_undecided t.stage)) ∷ [] else [])
    go false = sym (append-nil (shown_where is_prepared_step t.acts))
    go true =
        let s = t.stage in
        let end = adoption_end s first in
        let next = max end (first_undecided s) in
        let a = t ▹ cancels_prepare in
        let b = a ▹ shows (Step.Prepared s.config.me s.life.view next) (Deed.Prepared s.life.view next) in
        let c = calm-adopts is_prepared_step prepared-calm (λ r v i b. refl) b.stage.life.leading (max first s.base) end b in
        c.shown ∙ shows-adds is_prepared_step (Step.Prepared s.config.me s.life.view next) (Deed.Prepared s.life.view next) a refl

-- a turn becomes Prepared exactly where the condition holds after it rejoined
pub prepared_exactly : PreparedExactly
unfolding turn
prepared_exactly s item room =
    let t1 = untouched s ▹ on_item item in
    let t2 = t1 ▹ settles_rejoin in
    let t3 = t2 ▹ settles_prepared in
    let t4 = t3 ▹ settles_waiting in
    let a = calm-item is_prepared_step prepared-calm item (untouched s) in
    let b = calm-rejoin is_prepared_step prepared-calm (λ r v. refl) t1 in
    let d = calm-waiting is_prepared_step prepared-calm (λ r v i b. refl) t3.stage.waiting t3 in
    let e = calm-hands_on is_prepared_step prepared-calm room t4 in
    e.shown ∙ d.shown ∙ prepared-adds t2.stage.life.leading t2 ∙ ap (λ (xs : List Step). xs ++ prepared_by t2.stage.life.leading t2.stage) (b.shown ∙ a.shown)

-- a turn launches exactly the adopted batches as it becomes Prepared, and then the waiting ones that have a place
pub launches_exactly : LaunchesExactly
unfolding turn
launches_exactly s item room =
    let t1 = untouched s ▹ on_item item in
    let t2 = t1 ▹ settles_rejoin in
    let t3 = t2 ▹ settles_prepared in
    let t4 = t3 ▹ settles_waiting in
    let a = calm-item is_launch launch-calm item (untouched s) in
    let b = calm-rejoin is_launch launch-calm (λ r v. refl) t1 in
    let e = calm-hands_on is_launch launch-calm room t4 in
    e.shown ∙ waiting-launches t3.stage.life.leading t3 refl
    ∙ ap (λ (xs : List Step). xs ++ launches_of_waiting t3.stage.life.leading t3.stage)
    (prepared-launches t2.stage.life.leading t2 ∙ ap (λ (xs : List Step). xs ++ launches_at_prepared t2.stage.life.leading t2.stage) (b.shown ∙ a.shown))

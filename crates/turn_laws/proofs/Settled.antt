-- After its turn no stage meets the condition of Rejoin: where it did, the stage has rejoined.
use Rattle.std.proofs.Common.{◌≡◌, ℕ, zero, suc, max, true, ◌&&◌, List, [], ◌∷◌, Option, Some, None, refl, sym, ap, subst, ◌∙◌}
use Rattle.jp_types.specs.declared.mode.Phase.{Phase}
use Rattle.jp_types.specs.declared.mode.Phase.TheVariants.{Recovering, Working}
use Rattle.jp_types.specs.Views.{leader, number_if}
use Rattle.paxos_world.specs.Life.{Leading, No}
use Rattle.jp_types.specs.Instances.{Batch}
use Rattle.paxos_world.specs.Counting.{is_recovering}
use Rattle.paxos_world.specs.World.{World}
use Rattle.paxos_world.specs.Stage.{Config, setup_of, Stage, Item, Turned}
use Rattle.paxos_world.specs.Writing.{◌▹◌, when_some, with_stage, hands}
use Rattle.paxos_world.specs.Logs.{first_undecided}
use Rattle.paxos_world.specs.Learning.{launches}
use Rattle.paxos_world.specs.Settling.{answer_from, view_of_answer, highest_answered, is_leader_ready, is_answered_enough, rejoin_view, rejoins, settles_leading, settles_prepared, place_in, launches_waiting, settles_waiting, next_handing, hands_on, settles}
use Rattle.paxos_world.specs.Turn.{on_item, untouched, turn}
use Rattle.turn_laws.proofs.Fitting.{Good, Frame, Goes}
use Rattle.turn_laws.proofs.Sane.{Sane}
use Rattle.turn_laws.proofs.Going.{keep-some, turned_to}
use Rattle.turn_laws.proofs.Arming.{still}
use Rattle.turn_laws.proofs.Settling.{sound-of, in_phase, goes-rejoins, goes-settles_prepared, goes-launches_waiting}
use Rattle.turn_laws.proofs.Sitting.{Sits, Placed, frame_of, goes-untouched, goes-on_item}
use Rattle.turn_laws.specs.Nodes.{ItemComes}

-- a Working stage does not meet the condition of Rejoin
working-none : (s : Stage) → s.life.phase ≡ Working → rejoin_view s ≡ None
working-none s e =
    let view = highest_answered s.config.n s in
    ap (λ (p : Phase). number_if (is_recovering p && is_answered_enough s && is_leader_ready (answer_from s (leader s.config.n view)) view (first_undecided s)) view) e

-- the condition does not depend on what was handed on
highest-handed : (k : ℕ) (s : Stage) (h : ℕ) → highest_answered k (record s { handed = h }) ≡ highest_answered k s
highest-handed zero s h = refl
highest-handed (suc k) s h = ap (λ x. max x (view_of_answer (answer_from s k))) (highest-handed k s h)

undecided-handed : (s : Stage) (h : ℕ) → first_undecided (record s { handed = h }) ≡ first_undecided s
unfolding first_undecided
undecided-handed s h = refl

view-handed : (s : Stage) (h : ℕ) → rejoin_view (record s { handed = h }) ≡ rejoin_view s
view-handed s h =
    let f = λ (view undecided : ℕ). number_if (is_recovering s.life.phase && is_answered_enough s && is_leader_ready (answer_from s (leader s.config.n view)) view undecided) view in
    ap (λ u. f (highest_answered s.config.n (record s { handed = h })) u) (undecided-handed s h) ∙ ap (λ v. f v (first_undecided s)) (highest-handed s.config.n s h)

hands-none : (room : ℕ) (t : Turned) → rejoin_view t.stage ≡ None → rejoin_view (hands_on room t).stage ≡ None
hands-none zero t e = e
hands-none (suc room) t e =
    keep-some (λ u. rejoin_view u.stage ≡ None) (next_handing t.stage) (λ handing t. hands_on room (t ▹ with_stage (λ s. record s { handed = handing.1 }) ▹ hands handing.0)) t
    (λ handing f. hands-none room (t ▹ with_stage (λ s. record s { handed = handing.1 }) ▹ hands handing.0) (view-handed t.stage handing.1 ∙ e)) (λ f. e)

-- where the life does not lead, becoming Prepared and launching what waits change nothing
idle-prepared : (t : Turned) → t.stage.life.leading ≡ No → settles_prepared t ≡ t
idle-prepared t e = ap (λ (b : Leading). settles_leading b t) e

idle-waiting : (batches : List Batch) (t : Turned) → t.stage.life.leading ≡ No → launches_waiting batches t ≡ t
idle-waiting [] t e = refl
idle-waiting (batch ∷ batches) t e = ap (λ (b : Leading). when_some (place_in b t.stage) (λ i t. launches_waiting batches (t ▹ with_stage (λ s. record s { waiting = batches }) ▹ launches i batch)) t) e

-- where the life does not lead and the condition does not hold, it does not hold after the rest of settling
idle-none : (room : ℕ) (t : Turned) → t.stage.life.leading ≡ No → rejoin_view t.stage ≡ None → rejoin_view (hands_on room (settles_waiting (settles_prepared t))).stage ≡ None
idle-none room t idle e =
    let a : settles_prepared t ≡ t = idle-prepared t idle in
    let b : settles_waiting t ≡ t = idle-waiting t.stage.waiting t idle in
    hands-none room (settles_waiting (settles_prepared t)) (subst (λ (x : Turned). rejoin_view x.stage ≡ None) (sym (ap settles_waiting a ∙ b)) e)

working-settles : (f : Frame) (room : ℕ) (t : Turned) → Goes (in_phase f Working) [] t → rejoin_view (hands_on room (settles_waiting (settles_prepared t))).stage ≡ None
working-settles f room t h =
    let k = in_phase f Working in
    let a = goes-settles_prepared k t h in
    let v = settles_prepared t in
    let b = goes-launches_waiting k v.stage.waiting v a a.fits.waiting in
    hands-none room (settles_waiting v) (working-none (settles_waiting v).stage b.phase)

settles-none : (f : Frame) (room : ℕ) (t : Turned) → Goes (still f) [] t → rejoin_view (settles room t).stage ≡ None
settles-none f room t h = go (rejoin_view t.stage) refl
  where
    idle : (p : Phase) → t.stage.life.phase ≡ p → rejoin_view t.stage ≡ None → rejoin_view (hands_on room (settles_waiting (settles_prepared t))).stage ≡ None
    idle Recovering e none = idle-none room t ((sound-of (still f) [] t h).waiting e).1 none
    idle Working e none = working-settles f room t (subst (λ (p : Phase). Goes (in_phase f p) [] t) (sym h.phase ∙ e) h)

    go : (o : Option ℕ) → rejoin_view t.stage ≡ o → rejoin_view (hands_on room (settles_waiting (settles_prepared (when_some o rejoins t)))).stage ≡ None
    go None e = idle t.stage.life.phase refl e
    go (Some view) e = working-settles f room (rejoins view t) (goes-rejoins f t view h e)

-- after its turn a stage that sits in a world does not meet the condition of Rejoin
pub turn-settled : (c : Config) (number : ℕ) (w : World) (s : Stage) (item : Item) (room : ℕ) → Placed c → Sits c number w s → Good (setup_of c) w → Sane w → ItemComes w c.me s.life item
    → rejoin_view (turn s item room).stage ≡ None
unfolding turn goes-untouched
turn-settled c number w s item room place h good sane is =
    let f = frame_of w s in
    let a = goes-untouched c number w s place h good sane in
    let b = goes-on_item f (untouched s) item a (subst (λ (k : Config). ItemComes w k.me s.life item) (sym h.config) is) in
    settles-none (turned_to f b.0 f.phase true None) room (on_item item (untouched s)) b.1

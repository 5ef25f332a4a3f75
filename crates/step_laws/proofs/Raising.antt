-- Raising the view: which steps it shows, and what it leaves of the stage.
use Rattle.std.proofs.Common.{◌≡◌, ℕ, Bool, true, false, ◌&&◌, not, List, [], ◌∷◌, ◌++◌, nat_lt, ◌==◌, Option, Some, None, if◌then◌else◌, refl, sym, ap, ◌∙◌, append_assoc, append-nil}
use Rattle.jp_types.specs.declared.message.Message.{Message}
use Rattle.jp_types.specs.Views.{leader, next_led, number_if}
use Rattle.paxos_world.specs.declared.step.Step.{Step}
use Rattle.paxos_world.specs.Life.{next_of}
use Rattle.paxos_world.specs.World.{Deed}
use Rattle.paxos_world.specs.Stage.{Stage, Show, Save, Turned}
use Rattle.paxos_world.specs.Writing.{◌▹◌, when, when_some, for_each, with_stage, shows, says, saves, others}
use Rattle.paxos_world.specs.Logs.{first_undecided}
use Rattle.paxos_world.specs.Retransmitting.{cancels_prepare, cancels_proposes}
use Rattle.paxos_world.specs.Leading.{works, leads, is_view_ss, prepare_of, begin_phase_1, drop_waiting, raise_to, raise_up_to, suspect}
use Rattle.step_laws.specs.Kinds.{shown_where}
use Rattle.step_laws.proofs.Viewing.{picks, shown_where-append, quiet-act, quiet-says_to_all}

-- ---- Entering a view

-- the steps of entering a view of n replicas: the Enter, and the Promise where the replica leads it
abbrev pub entering : ℕ → ℕ → ℕ → List Step
entering n me view = Step.Enter me view ∷ (if leader n view == me then Step.Promise me view ∷ [] else [])

-- the steps of entering a view, if there is one
abbrev pub entering_of : ℕ → ℕ → Option ℕ → List Step
entering_of n me None = []
entering_of n me (Some view) = entering n me view

-- the steps that pass a test are the first, if it does, and those of the rest
pub picks-front : (P : Step → Bool) (x : Step) (xs : List Step) → picks P (x ∷ []) ++ picks P xs ≡ picks P (x ∷ xs)
picks-front P x xs = go (P x)
  where
    go : (b : Bool) → (if b then x ∷ [] else []) ++ picks P xs ≡ (if b then x ∷ picks P xs else picks P xs)
    go true = refl
    go false = refl

-- the steps that pass a test among these and those are the ones among these and the ones among those
pub picks-append : (P : Step → Bool) (xs ys : List Step) → picks P (xs ++ ys) ≡ picks P xs ++ picks P ys
picks-append P [] ys = refl
picks-append P (x ∷ xs) ys =
    sym (picks-front P x (xs ++ ys)) ∙ ap (λ (zs : List Step). picks P (x ∷ []) ++ zs) (picks-append P xs ys) ∙ sym (append_assoc (picks P (x ∷ [])) (picks P xs) (picks P ys))
    ∙ ap (λ (zs : List Step). zs ++ picks P ys) (picks-front P x xs)

-- messages to all others leave the stage as it is
pub says_to_all-stage : (qs : List ℕ) (m : Message) (t : Turned) → (for_each qs (λ q. says q m) t).stage ≡ t.stage
says_to_all-stage [] m t = refl
says_to_all-stage (q ∷ qs) m t = says_to_all-stage qs m (says q m t)

-- raising the view, up to where phase 1 may begin
abbrev pub lifted : Bool → ℕ → Turned → Turned
lifted b view t =
    let s = t.stage in
    t ▹ when b (saves view)
    ▹ shows (Step.Enter s.config.me view) (Deed.Enter view)
    ▹ cancels_prepare
    ▹ cancels_proposes
    ▹ with_stage (λ s. record s { quiet = 0 })

-- it shows the Enter
pub lifted-shows : (P : Step → Bool) (b : Bool) (view : ℕ) (t : Turned) → shown_where P (lifted b view t).acts ≡ shown_where P t.acts ++ picks P (Step.Enter t.stage.config.me view ∷ [])
lifted-shows P true view t =
    shown_where-append P (t.acts ++ Save view ∷ []) (Show (Step.Enter t.stage.config.me view) ∷ [])
    ∙ ap (λ (zs : List Step). zs ++ picks P (Step.Enter t.stage.config.me view ∷ [])) (quiet-act P (Save view) t.acts refl)
lifted-shows P false view t = shown_where-append P t.acts (Show (Step.Enter t.stage.config.me view) ∷ [])

-- beginning phase 1 shows the promise of the own view
pub begin-shows : (P : Step → Bool) (t : Turned) → shown_where P (begin_phase_1 t).acts ≡ shown_where P t.acts ++ picks P (Step.Promise t.stage.config.me t.stage.life.view ∷ [])
begin-shows P t =
    let s = t.stage in
    let first = first_undecided s in
    let t1 : Turned = shows (Step.Promise s.config.me s.life.view) (Deed.Open s.life.view first) t in
    quiet-says_to_all P (prepare_of s first) t1 ∙ shown_where-append P t.acts (Show (Step.Promise s.config.me s.life.view) ∷ [])

-- raising the view shows the Enter, and the Promise where the replica leads it
pub raised : (P : Step → Bool) (view : ℕ) (t : Turned) → shown_where P (raise_to view t).acts ≡ shown_where P t.acts ++ picks P (entering t.stage.config.n t.stage.config.me view)
raised P view t = go (is_view_ss t.stage.config.mode && nat_lt t.stage.stable view) (leads t.stage t.stage.config.me view)
  where
    two : (xs : List Step) → (xs ++ picks P (Step.Enter t.stage.config.me view ∷ [])) ++ picks P (Step.Promise t.stage.config.me view ∷ []) ≡ xs ++ picks P (Step.Enter t.stage.config.me view ∷ Step.Promise t.stage.config.me view ∷ [])
    two xs =
        append_assoc xs (picks P (Step.Enter t.stage.config.me view ∷ [])) (picks P (Step.Promise t.stage.config.me view ∷ []))
        ∙ ap (λ (zs : List Step). xs ++ zs) (picks-front P (Step.Enter t.stage.config.me view) (Step.Promise t.stage.config.me view ∷ []))

    go : (b l : Bool) → shown_where P (lifted b view t ▹ when l begin_phase_1 ▹ when (not l) drop_waiting).acts
        ≡ shown_where P t.acts ++ picks P (Step.Enter t.stage.config.me view ∷ (if l then Step.Promise t.stage.config.me view ∷ [] else []))
    go true true =
        begin-shows P (lifted true view t) ∙ ap (λ (zs : List Step). zs ++ picks P (Step.Promise t.stage.config.me view ∷ [])) (lifted-shows P true view t) ∙ two (shown_where P t.acts)
    go false true =
        begin-shows P (lifted false view t) ∙ ap (λ (zs : List Step). zs ++ picks P (Step.Promise t.stage.config.me view ∷ [])) (lifted-shows P false view t) ∙ two (shown_where P t.acts)
    go true false = lifted-shows P true view t
    go false false = lifted-shows P false view t

-- after raising the view the constants are the same, the view is the new one, and the stage is not Prepared
pub raised-stage : (view : ℕ) (t : Turned) → let s = (raise_to view t).stage in (s.config ≡ t.stage.config) × (s.life.view ≡ view) × (next_of s.life.leading ≡ None)
raised-stage view t = go (is_view_ss t.stage.config.mode && nat_lt t.stage.stable view) (leads t.stage t.stage.config.me view)
  where
    go : (b l : Bool) → let s = (lifted b view t ▹ when l begin_phase_1 ▹ when (not l) drop_waiting).stage in (s.config ≡ t.stage.config) × (s.life.view ≡ view) × (next_of s.life.leading ≡ None)
    go true true =
        let u : Turned = lifted true view t in
        let v : Turned = shows (Step.Promise u.stage.config.me u.stage.life.view) (Deed.Open u.stage.life.view (first_undecided u.stage)) u in
        let e = says_to_all-stage (others v.stage.config) (prepare_of u.stage (first_undecided u.stage)) v in
        (ap (λ (s : Stage). s.config) e, ap (λ (s : Stage). s.life.view) e, ap (λ (s : Stage). next_of s.life.leading) e)
    go false true =
        let u : Turned = lifted false view t in
        let v : Turned = shows (Step.Promise u.stage.config.me u.stage.life.view) (Deed.Open u.stage.life.view (first_undecided u.stage)) u in
        let e = says_to_all-stage (others v.stage.config) (prepare_of u.stage (first_undecided u.stage)) v in
        (ap (λ (s : Stage). s.config) e, ap (λ (s : Stage). s.life.view) e, ap (λ (s : Stage). next_of s.life.leading) e)
    go true false = (refl, refl, refl)
    go false false = (refl, refl, refl)

-- a Working stage raises its view up to this one where its own is below it
pub raise-working : (view : ℕ) (t : Turned) → works t.stage ≡ true → raise_up_to view t ≡ when (nat_lt t.stage.life.view view) (raise_to view) t
raise-working view t e = ap (λ (b : Bool). when (b && nat_lt t.stage.life.view view) (raise_to view) t) e

-- raising the view up to this one shows the entering, where it is done
pub raised-up : (P : Step → Bool) (view : ℕ) (t : Turned) → shown_where P (raise_up_to view t).acts
    ≡ shown_where P t.acts ++ picks P (entering_of t.stage.config.n t.stage.config.me (if works t.stage then number_if (nat_lt t.stage.life.view view) view else None))
raised-up P view t = go (works t.stage) (nat_lt t.stage.life.view view)
  where
    go : (w lt : Bool) → shown_where P (when (w && lt) (raise_to view) t).acts ≡ shown_where P t.acts ++ picks P (entering_of t.stage.config.n t.stage.config.me (if w then number_if lt view else None))
    go true true = raised P view t
    go true false = sym (append-nil (shown_where P t.acts))
    go false lt = sym (append-nil (shown_where P t.acts))

-- a suspicion shows the entering of the next view that the replica leads
pub suspected : (P : Step → Bool) (t : Turned) → shown_where P (suspect t).acts
    ≡ shown_where P t.acts ++ picks P (entering_of t.stage.config.n t.stage.config.me (if works t.stage then next_led t.stage.config.n t.stage.config.me t.stage.life.view else None))
suspected P t = go (works t.stage) (next_led t.stage.config.n t.stage.config.me t.stage.life.view)
  where
    go : (w : Bool) (o : Option ℕ) → shown_where P (when w (when_some o raise_to) t).acts ≡ shown_where P t.acts ++ picks P (entering_of t.stage.config.n t.stage.config.me (if w then o else None))
    go true (Some view) = raised P view t
    go true None = sym (append-nil (shown_where P t.acts))
    go false o = sym (append-nil (shown_where P t.acts))

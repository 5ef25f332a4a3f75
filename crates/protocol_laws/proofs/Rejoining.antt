-- A life that recovers rejoins where its stage does.
use Rattle.std.proofs.Common.{◌≡◌, ℕ, Bool, true, false, ◌&&◌, nat_lt, Option, Some, None, if◌then◌else◌, refl, sym, ap, subst, le_refl, ◌∙◌}
use Rattle.jp_types.specs.Views.{leader, number_if}
use Rattle.jp_types.specs.declared.mode.Phase.TheVariants.{Working}
use Rattle.paxos_world.specs.declared.step.Step.{Step}
use Rattle.paxos_world.specs.Life.{Leading}
use Rattle.paxos_world.specs.Counting.{is_recovering}
use Rattle.paxos_world.specs.Leading.{is_view_ss}
use Rattle.paxos_world.specs.Logs as logs
use Rattle.paxos_world.specs.Messages.{vector_of}
use Rattle.paxos_world.specs.Retransmitting.{free_armed, cancels_recovery}
use Rattle.paxos_world.specs.Settling as settling
use Rattle.paxos_world.specs.Stage.{Stage, setup_of}
use Rattle.paxos_world.specs.Stage as model
use Rattle.paxos_world.specs.World.{Deed}
use Rattle.paxos_world.specs.Writing.{◌▹◌, when, when_some, with_stage, shows, saves}
use Rattle.replica_log.specs.Log.{first_undecided}
use Rattle.proposer_core.specs.declared.leading.Leading as proposer
use Rattle.recovery.specs.Rejoining as core
use Rattle.core_laws.specs.Holding.{KeepsAnswers}
use Rattle.core_laws.specs.PrepareLaws.{leading_as}
use Rattle.core_laws.proofs.LogLemmas.{logs_are_read}
use Rattle.core_laws.proofs.RejoinLemmas.{rejoins_alike}
use Rattle.protocol_core.specs.declared.act.Act.{Act}
use Rattle.protocol_core.specs.declared.life.Life.{Life}
use Rattle.protocol_core.specs.Sending.{does}
use Rattle.protocol_core.specs.Settling.{rejoin_due, rejoin_saved, rejoin_shown, rejoined_in}
use Rattle.protocol_core.specs.Turned.{stay, followed_by}
use Rattle.protocol_laws.specs.Following.{Follows}
use Rattle.protocol_laws.specs.Keeping.{Cores, life_in, KeepsLife}
use Rattle.protocol_laws.proofs.Goes.{GoesRejoin}
use Rattle.protocol_laws.proofs.Steps.{stays, and-then}
use Rattle.protocol_laws.proofs.Taking.{keeps-beside}

-- the view in which the life rejoins is that of its stage
due-alike : (s : Stage) (c : Cores s) → rejoin_due (life_in s c) ≡ settling.rejoin_view s
due-alike s c = go (is_recovering s.life.phase) refl
  where
    k : core.Rejoining
    k = record { mark = s.life.mark; answers = c.answers }

    go : (b : Bool) → is_recovering s.life.phase ≡ b → (if b then core.rejoin_view (vector_of s) k (first_undecided c.log) else None) ≡ settling.rejoin_view s
    go true e =
        let keeps : KeepsAnswers (setup_of s.config) s.config.me s.life (vector_of s) c.answers = record { vector = refl; none = (c.answered e).none; held = (c.answered e).held } in
        ap (λ (u : ℕ). core.rejoin_view (vector_of s) k u) (logs_are_read s c.log c.kept).first_undecided
        ∙ rejoins_alike s (vector_of s) k c.within.0 c.within.1 e c.answer_places keeps
    go false e =
        let view = settling.highest_answered s.config.n s in
        let ready = settling.is_leader_ready (settling.answer_from s (leader s.config.n view)) view (logs.first_undecided s) in
        ap (λ (b : Bool). number_if (b && settling.is_answered_enough s && ready) view) (sym e)

-- a life that recovers rejoins only then
due-recovers : (s : Stage) (view : ℕ) → settling.rejoin_view s ≡ Some view → is_recovering s.life.phase ≡ true
due-recovers s view e = go (is_recovering s.life.phase) refl
  where
    top : ℕ
    top = settling.highest_answered s.config.n s

    ready : Bool
    ready = settling.is_leader_ready (settling.answer_from s (leader s.config.n top)) top (logs.first_undecided s)

    go : (b : Bool) → is_recovering s.life.phase ≡ b → b ≡ true
    go true f = refl
    go false f =
        let none : settling.rejoin_view s ≡ None = ap (λ (b : Bool). number_if (b && settling.is_answered_enough s && ready) top) f in
        absurd cc

-- the stage whose life rejoined in this view
abbrev rejoined : Stage → ℕ → Stage
rejoined s view =
    record s { life = record s.life { phase = Working; view = view }; quiet = 0; slots = free_armed s.slots s.armed_recovery; armed_recovery = None }

-- the life that rejoined is that of the stage that did
keeps-rejoined : (s : Stage) (view : ℕ) (c : Cores s) → is_recovering s.life.phase ≡ true → KeepsLife (rejoined s view) (rejoin_shown view (life_in s c)).life
keeps-rejoined s view c e =
    let led = c.fit.led e in
    let d : Cores (rejoined s view)
    = record {
      within = c.within;
      log = c.log;
      promises = c.promises;
      answers = c.answers;
      kept = record { n = c.kept.n; base = c.kept.base; votes = c.kept.votes; known = c.kept.known; tallies = c.kept.tallies };
      promise_places = c.promise_places;
      answer_places = c.answer_places;
      promised = λ first f. absurd cc;
      answered = λ f. absurd cc;
      fit =
          record {
            sane = record { most = c.fit.sane.most; me = c.fit.sane.me; notes = c.fit.sane.notes };
            led = λ f. absurd cc;
            untaken = λ f. absurd cc;
            below = λ t v m f. let none = c.fit.untaken e t m in absurd cc;
            base = c.fit.base;
            newest = λ x f. record { size = (c.fit.newest x f).size; own = (c.fit.newest x f).own };
            joiner = c.fit.joiner;
          };
    } in
    let same : leading_as s.life.leading s.life.view s.life.mark ≡ leading_as s.life.leading view s.life.mark
    = ap (λ (x : Leading). leading_as x s.life.view s.life.mark) led ∙ sym (ap (λ (x : Leading). leading_as x view s.life.mark) led) in
    record { cores = d; is = ap as-led same }
  where
    as-led : proposer.Leading → Life
    as-led x = let l = (rejoin_shown view (life_in s c)).life in record l { proposer = record l.proposer { leading = x } }

-- the turn of a stage of this replica whose life rejoins in this view, after what is saved
abbrev shows-rejoin : ℕ → ℕ → model.Turned → model.Turned
shows-rejoin me view t = t ▹ with_stage (λ s. record s { quiet = 0 }) ▹ cancels_recovery ▹ shows (Step.Rejoin me view) (Deed.Rejoin view)

-- a life that recovers rejoins in a view as its stage does
goes-shown : (view : ℕ) (t : model.Turned) (c : Cores t.stage) → is_recovering t.stage.life.phase ≡ true
    → Follows t (shows-rejoin t.stage.config.me view t) (rejoin_shown view (life_in t.stage c))
goes-shown view t c e = record { config = refl; keeps = keeps-rejoined t.stage view c e; acts = refl; arming = refl; sends = tt; handed = le_refl _; hands = tt; service = refl }

-- a life that recovers saves its view where its stage does, and rejoins in it
goes-saved : (view : ℕ) (t : model.Turned) (c : Cores t.stage) → is_recovering t.stage.life.phase ≡ true
    → Follows t (settling.rejoins view t) (followed_by (rejoin_saved (life_in t.stage c) view) (rejoin_shown view))
goes-saved view t c e = go (is_view_ss t.stage.config.mode && nat_lt t.stage.life.mark view)
  where
    l : Life
    l = life_in t.stage c

    me : ℕ
    me = t.stage.config.me

    u : model.Turned
    u = saves view t

    saved : Follows t u (does (Act.Save view) (record l { stable = view }))
    saved = record { config = refl; keeps = keeps-beside t.stage view t.stage.horizon t.stage.quiet c; acts = refl; arming = refl; sends = tt; handed = le_refl _; hands = tt; service = refl }

    go : (b : Bool) → Follows t (shows-rejoin me view (when b (saves view) t)) (followed_by (if b then does (Act.Save view) (record l { stable = view }) else stay l) (rejoin_shown view))
    go true = and-then t u (shows-rejoin me view u) (does (Act.Save view) (record l { stable = view })) (rejoin_shown view) saved (goes-shown view u saved.keeps.cores e)
    go false = goes-shown view t c e

-- a life rejoins where its stage does
pub goes-rejoin : GoesRejoin
goes-rejoin t c = subst (λ (o : Option ℕ). Follows t (settling.settles_rejoin t) (rejoined_in (life_in t.stage c) o)) (sym (due-alike t.stage c)) (go (settling.rejoin_view t.stage) refl)
  where
    go : (o : Option ℕ) → settling.rejoin_view t.stage ≡ o → Follows t (when_some o settling.rejoins t) (rejoined_in (life_in t.stage c) o)
    go None e = stays t c
    go (Some view) e = goes-saved view t c (due-recovers t.stage view e)

-- What is kept of a life as it takes a message.
use Rattle.std.proofs.Common.{◌≡◌, ℕ, zero, suc, ◌≤◌, max, true, List, ◌∷◌, Some, None, inl, inr, refl, sym, ap, subst, ◌∙◌, arith}
use Rattle.jp_types.specs.declared.message.Message.{Message}
use Rattle.jp_types.specs.declared.mode.Mode.{Mode}
use Rattle.jp_types.specs.declared.mode.Mode.TheVariants.{ViewSs, EpochSs}
use Rattle.jp_types.specs.Vectors.{entry, table}
use Rattle.core_laws.specs.RejoinLaws.{IsPlain}
use Rattle.paxos_world.specs.Counting.{is_recovering, own_ok, own_answer, entry_of}
use Rattle.paxos_world.specs.Life.{LifeId, Leading, No, Preparing, Leads, Taken, preparing_in}
use Rattle.paxos_world.specs.Learning.{horizon_to}
use Rattle.paxos_world.specs.Messages.{vector_of}
use Rattle.jp_types.specs.Lists.{In}
use Rattle.paxos_world.specs.Stage.{Stage, setup_of}
use Rattle.paxos_world.specs.Stage as model
use Rattle.paxos_world.specs.World.{Deed}
use Rattle.paxos_world.specs.Writing.{◌▹◌, with_stage, does}
use Rattle.replica_log.specs.Log.{Log}
use Rattle.core_laws.specs.Holding.{KeepsOks, KeepsAnswers}
use Rattle.core_laws.specs.Keeping.{KeepsLog}
use Rattle.core_laws.specs.KeptLaws.{stage_after}
use Rattle.core_laws.proofs.KeptLemmas.{others_are_kept}
use Rattle.protocol_core.specs.declared.life.Life.{Life}
use Rattle.protocol_core.specs.Turned.{stay}
use Rattle.protocol_core.specs.Voting as voting
use Rattle.protocol_laws.specs.Following.{Follows}
use Rattle.protocol_laws.specs.Keeping.{IsFit, Cores, life_in, KeepsLife}
use Rattle.protocol_laws.proofs.Goes.{Goes, GoesTake}
use Rattle.protocol_laws.proofs.Steps.{changes}

-- a life is that of its stage after both differ in what is saved, in the horizon and in the quiet ticks
pub keeps-beside : (s : Stage) (stable horizon quiet : ℕ) (c : Cores s)
    → KeepsLife (record s { stable = stable; horizon = horizon; quiet = quiet }) (record (life_in s c) { stable = stable; horizon = horizon; quiet = quiet })
keeps-beside s stable horizon quiet c =
    let d : Cores (record s { stable = stable; horizon = horizon; quiet = quiet })
    = record {
      within = c.within;
      log = c.log;
      promises = c.promises;
      answers = c.answers;
      kept = record { n = c.kept.n; base = c.kept.base; votes = c.kept.votes; known = c.kept.known; tallies = c.kept.tallies };
      promise_places = c.promise_places;
      answer_places = c.answer_places;
      promised = c.promised;
      answered = λ e. record { none = (c.answered e).none; held = (c.answered e).held };
      fit =
          record {
            sane = record { most = c.fit.sane.most; me = c.fit.sane.me; notes = c.fit.sane.notes };
            led = c.fit.led;
            untaken = c.fit.untaken;
            below = c.fit.below;
            base = c.fit.base;
            newest = λ x e. record { size = (c.fit.newest x e).size; own = (c.fit.newest x e).own };
            joiner = c.fit.joiner;
          };
    } in
    record { cores = d; is = refl }

-- the view that is prepared is the own one
prepared-view : (x : Leading) (own view : ℕ) → preparing_in x own ≡ Some view → view ≡ own
prepared-view No own view e = absurd cc
prepared-view (Preparing first) own view e = cc
prepared-view (Leads lead) own view e = absurd cc

-- a life that takes a message stays fit
pub fit-taken : (s : Stage) (from : LifeId) (m : Message) → IsFit s → IsFit (stage_after s (Deed.Take from m))
fit-taken s from m fit =
    record {
      sane = record { most = fit.sane.most; me = fit.sane.me; notes = fit.sane.notes };
      led = fit.led;
      untaken = untaken;
      below = below;
      base = fit.base;
      newest = λ x e. record { size = (fit.newest x e).size; own = (fit.newest x e).own };
      joiner = fit.joiner;
    }
  where
    t : Taken
    t = record { from = from; message = m; phase = s.life.phase; preparing = preparing_in s.life.leading s.life.view }

    untaken : is_recovering s.life.phase ≡ true → (x : Taken) → In x (t ∷ s.life.taken) → x.preparing ≡ None
    untaken e x (inl same) = ap (λ (y : Taken). y.preparing) same ∙ ap (λ (z : Leading). preparing_in z s.life.view) (fit.led e)
    untaken e x (inr more) = fit.untaken e x more

    below : (x : Taken) (view : ℕ) → In x (t ∷ s.life.taken) → x.preparing ≡ Some view → view ≤ s.life.view
    below x view (inl same) e =
        let here : view ≡ s.life.view = prepared-view s.life.leading s.life.view view (sym (ap (λ (y : Taken). y.preparing) same) ∙ e) in
        omega arith
    below x view (inr more) e = fit.below x view more e

-- a log stays that of the stage as its life takes a message
pub log-taken : (s : Stage) (from : LifeId) (m : Message) (log : Log) → KeepsLog s log → KeepsLog (stage_after s (Deed.Take from m)) log
log-taken s from m log k = record { n = k.n; base = k.base; votes = k.votes; known = k.known; tallies = k.tallies }

-- a life that takes no own reply is that of the stage after it
pub keeps-other : (s : Stage) (from : LifeId) (m : Message) (c : Cores s) → own_ok s.life.mark (preparing_in s.life.leading s.life.view) m ≡ None → own_answer s.life.mark s.life.phase m ≡ None
    → KeepsLife (stage_after s (Deed.Take from m)) (life_in s c)
keeps-other s from m c no-ok no-answer =
    let d : Cores (stage_after s (Deed.Take from m))
    = record {
      within = c.within;
      log = c.log;
      promises = c.promises;
      answers = c.answers;
      kept = log-taken s from m c.log c.kept;
      promise_places = c.promise_places;
      answer_places = c.answer_places;
      promised = λ first e. (oks first e).held;
      answered = λ e. record { none = (answers e).none; held = (answers e).held };
      fit = fit-taken s from m c.fit;
    } in
    record { cores = d; is = ap (λ (v : List ℕ). record (life_in s c) { vector = v }) vector }
  where
    vector : vector_of s ≡ vector_of (stage_after s (Deed.Take from m))
    vector = others_are_kept.vector (setup_of s.config) s.config.me s.life (vector_of s) from m no-ok no-answer refl

    oks : (first : ℕ) → s.life.leading ≡ Preparing first → KeepsOks (setup_of s.config) s.config.me (stage_after s (Deed.Take from m)).life (vector_of s) c.promises
    oks first e = others_are_kept.oks (setup_of s.config) s.config.me s.life (vector_of s) c.promises from m no-ok no-answer (record { vector = refl; held = c.promised first e })

    answers : is_recovering s.life.phase ≡ true → KeepsAnswers (setup_of s.config) s.config.me (stage_after s (Deed.Take from m)).life (vector_of s) c.answers
    answers e =
        others_are_kept.answers (setup_of s.config) s.config.me s.life (vector_of s) c.answers from m no-ok no-answer
        (record { vector = refl; none = (c.answered e).none; held = (c.answered e).held })

-- a life that is that of its stage is so after the horizon and the quiet ticks of both change
pub keeps-heard : (s : Stage) (horizon quiet : ℕ) (life : Life) → KeepsLife s life → KeepsLife (record s { horizon = horizon; quiet = quiet }) (record life { horizon = horizon; quiet = quiet })
keeps-heard s horizon quiet life k =
    subst (λ (x : Life). KeepsLife (record s { horizon = horizon; quiet = quiet }) (record x { horizon = horizon; quiet = quiet })) (sym k.is) (keeps-beside s s.stable horizon quiet k.cores)

-- the turn in which a message is taken, whose quiet ticks are then these
abbrev pub takes : LifeId → Message → ℕ → model.Turned → model.Turned
takes from m quiet t = t ▹ does (Deed.Take from m) ▹ with_stage (λ s. record s { quiet = quiet })

-- a life that takes no own reply does as its stage
pub goes-other : (from : LifeId) (m : Message) (quiet : ℕ) (t : model.Turned) (c : Cores t.stage) → own_ok t.stage.life.mark (preparing_in t.stage.life.leading t.stage.life.view) m ≡ None
    → own_answer t.stage.life.mark t.stage.life.phase m ≡ None → Follows t (takes from m quiet t) (stay (record (life_in t.stage c) { quiet = quiet }))
goes-other from m quiet t c no-ok no-answer =
    let s = t.stage in
    let k = keeps-heard (stage_after s (Deed.Take from m)) s.horizon quiet (life_in s c) (keeps-other s from m c no-ok no-answer) in
    changes t (takes from m quiet t) (record (life_in s c) { quiet = quiet }) refl k refl refl refl refl

-- taking a message that is no own reply changes nothing that is kept
pub goes-take : GoesTake
goes-take from m t c none = changes t (does (Deed.Take from m) t) (life_in t.stage c) refl (keeps-other t.stage from m c none.0 none.1) refl refl refl refl

-- the count of quiet ticks changes
pub goes-quiet : (t : model.Turned) (c : Cores t.stage) (quiet : ℕ) → Follows t (with_stage (λ s. record s { quiet = quiet }) t) (stay (record (life_in t.stage c) { quiet = quiet }))
goes-quiet t c quiet =
    let s = t.stage in
    changes t (with_stage (λ x. record x { quiet = quiet }) t) (record (life_in s c) { quiet = quiet }) refl (keeps-beside s s.stable s.horizon quiet c) refl refl refl refl

-- the horizon rises as in the model
pub goes-horizon : (i : ℕ) → Goes (horizon_to i) (λ l. stay (voting.horizon_to l i))
goes-horizon i t c =
    let s = t.stage in
    changes t (horizon_to i t) (voting.horizon_to (life_in s c) i) refl (keeps-beside s s.stable (max s.horizon i) s.quiet c) refl refl refl refl

-- each entry of a vector of all 0 is 0
zeros : (p : ℕ) → entry (table (λ q. 0)) p ≡ 0
zeros zero = refl
zeros (suc zero) = refl
zeros (suc (suc zero)) = refl
zeros (suc (suc (suc zero))) = refl
zeros (suc (suc (suc (suc zero)))) = refl
zeros (suc (suc (suc (suc (suc zero))))) = refl
zeros (suc (suc (suc (suc (suc (suc zero)))))) = refl
zeros (suc (suc (suc (suc (suc (suc (suc zero))))))) = refl
zeros (suc (suc (suc (suc (suc (suc (suc (suc zero)))))))) = refl
zeros (suc (suc (suc (suc (suc (suc (suc (suc (suc p))))))))) = refl

-- the vector of a life is all 0 in ViewSS
pub plain-vector : (s : Stage) → IsPlain s.config.mode (vector_of s)
plain-vector s = go s.config.mode refl
  where
    go : (mode : Mode) → s.config.mode ≡ mode → IsPlain mode (table (entry_of mode s.config.me s.life.mark s.life.answered s.life.taken))
    go ViewSs e same p = zeros p
    go EpochSs e same p = absurd cc

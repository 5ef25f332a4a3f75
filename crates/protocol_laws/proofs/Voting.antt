-- Proposals and acceptances, and what is learned by them, as in the model.
use Rattle.std.proofs.Common.{◌≡◌, ℕ, suc, ◌^◌, ◌≤◌, ◌<◌, Bool, true, false, ◌&&◌, ◌==◌, if◌then◌else◌, [], ◌∷◌, Option, ◌≢◌, Some, None, is_some, refl, sym, subst, le_refl, arith}
use Rattle.std.proofs.lemmas.Bool.Decides.{nat_tests}
use Rattle.jp_types.specs.declared.message.Accept.{Accept}
use Rattle.jp_types.specs.declared.message.Message.{Message}
use Rattle.jp_types.specs.declared.message.Prepare.{Prepare}
use Rattle.jp_types.specs.declared.message.PrepareOk.{PrepareOk}
use Rattle.jp_types.specs.declared.message.Propose.{Propose}
use Rattle.paxos_world.specs.declared.step.Step.{Step}
use Rattle.paxos_world.specs.Setup.{with_at}
use Rattle.paxos_world.specs.Stage.{setup_of, Stage}
use Rattle.paxos_world.specs.Stage as model
use Rattle.paxos_world.specs.Writing.{◌▹◌, when, sends_to_all}
use Rattle.paxos_world.specs.Logs as logs
use Rattle.paxos_world.specs.Leading as leading
use Rattle.paxos_world.specs.Learning.{horizon_to, notes, learn_check, votes_for}
use Rattle.paxos_world.specs.Messages as messages
use Rattle.replica_log.specs.Log.{with_vote}
use Rattle.acceptor_core.specs.Promising.{promised}
use Rattle.acceptor_core.specs.Learning.{after_note, after_vote, after_vote_if, learned_with, after_check}
use Rattle.core_laws.specs.Keeping.{KeepsLog}
use Rattle.core_laws.proofs.AcceptLemmas.{accepts_alike, answers_alike}
use Rattle.core_laws.proofs.LogLemmas.{keeps-vote}
use Rattle.protocol_core.specs.declared.life.Life.{Life}
use Rattle.protocol_core.specs.Leading as raising
use Rattle.protocol_core.specs.Sending.{shown, sent_to_all}
use Rattle.protocol_core.specs.Turned.{Turned, stay, followed_by}
use Rattle.protocol_core.specs.Voting.{up, counts, accept_of, vote_shown, vote_shown_if, learning_shown_if, promise_sent}
use Rattle.protocol_core.specs.Voting as voting
use Rattle.protocol_laws.specs.Keeping.{Cores, life_in}
use Rattle.protocol_laws.specs.Following.{Follows}
use Rattle.protocol_laws.proofs.Goes.{MayVote, GoesRaiseUp, GoesPrepare, GoesPropose, GoesAccept, GoesWhere, IsOther}
use Rattle.protocol_laws.proofs.Steps.{append-assoc, stays, and-then, chooses, sent-to-all}
use Rattle.protocol_laws.proofs.Taking.{goes-horizon, plain-vector}
use Rattle.protocol_laws.proofs.Noting.{relogged, cores-relogged, noting, checking, goes-note, goes-check}

-- ---- The horizon

-- one more than an instance within the limit is a number of the machine
up-is : (i : ℕ) → i ≤ 2 ^ 48 → up i ≡ suc i
up-is i le = omega arith

-- ---- Accept

-- the log of a life counts a replica of its stage
counts-it : (s : Stage) (c : Cores s) (p : ℕ) → p < s.config.n → counts c.log p ≡ true
counts-it s c p lt = let n = c.kept.n in grind (arith, nat_tests)

-- an acceptance is noted, and the instance is learned where its tally is full
goes-acceptance : (p : ℕ) (m : Accept) (t : model.Turned) (c : Cores t.stage) → p < t.stage.config.n
    → Follows t (t ▹ notes m.instance m.view p None ▹ learn_check m.instance) (voting.acceptance_taken (life_in t.stage c) p m)
goes-acceptance p m t c lt =
    let i = m.instance in
    let t1 = notes i m.view p None t in
    let l = life_in t.stage c in
    let h1 = goes-note i m.view p None t c lt in
    let h2 = goes-check i t1 h1.keeps.cores in
    let taken : Follows t (learn_check i t1) (learning_shown_if (voting.with_accept l p m) (voting.learns_by l p m) i) = and-then t t1 (learn_check i t1) (noting i m.view p None l) (checking i) h1 h2 in
    subst (λ (b : Bool). Follows t (learn_check i t1) (if b then learning_shown_if (voting.with_accept l p m) (voting.learns_by l p m) i else stay l)) (sym (counts-it t.stage c p lt)) taken

-- an Accept does what it does in the model
pub goes-accept : GoesAccept
goes-accept p m t c may =
    let i = m.instance in
    let t1 = horizon_to (suc i) t in
    let l = life_in t.stage c in
    let h1 = goes-horizon (suc i) t c in
    let h2 = goes-acceptance p m t1 h1.keeps.cores may.0 in
    let all : Follows t (messages.on_accept p m.view i t) (voting.acceptance_taken (voting.horizon_to l (suc i)) p m) =
    and-then t t1 (messages.on_accept p m.view i t) (stay (voting.horizon_to l (suc i))) (λ (x : Life). voting.acceptance_taken x p m) h1 h2 in
    subst (λ (k : ℕ). Follows t (messages.on_accept p m.view i t) (voting.acceptance_taken (voting.horizon_to l k) p m)) (sym (up-is i may.1)) all

-- ---- Votes

-- a vote is shown, which the log took
abbrev voted : Propose → Life → Turned
voted m l = shown (Step.Vote l.config.me m.view m.instance) (record l { log = with_vote l.log m.instance m.view m.batch })

-- where the test passes, the log takes a vote and its acceptance, and they are shown and sent
abbrev casting : Bool → Propose → Life → Turned
casting b m l = vote_shown_if (record l { log = after_vote_if b l.log l.config.me m }) b m.view m.instance

-- a vote is cast as in the model
goes-vote-for : (m : Propose) (t : model.Turned) (c : Cores t.stage) → Follows t (votes_for m.view m.instance m.batch t) (voted m (life_in t.stage c))
goes-vote-for m t c =
    let k = keeps-vote t.stage c.log m.instance m.view m.batch c.kept in
    let s = t.stage in
    let votes = with_at s.life.votes m.instance (Some (m.view, m.batch)) in
    let kept : KeepsLog (relogged s votes s.life.known s.noted s.slots s.armed_proposes) (with_vote c.log m.instance m.view m.batch) =
    record { n = k.n; base = k.base; votes = k.votes; known = k.known; tallies = k.tallies } in
    let new : Cores (votes_for m.view m.instance m.batch t).stage =
    cores-relogged s c votes s.life.known s.noted s.slots s.armed_proposes (with_vote c.log m.instance m.view m.batch) kept c.fit.sane.notes in
    record { config = refl; keeps = record { cores = new; is = refl }; acts = refl; arming = refl; sends = tt; handed = le_refl _; hands = tt; service = refl }

-- a vote is cast and noted, and its Accept goes to all others, as in the model
goes-vote : (m : Propose) (t : model.Turned) (c : Cores t.stage) → m.instance ≤ 2 ^ 48
    → Follows t (messages.votes_on m t) (vote_shown (record (life_in t.stage c) { log = after_vote c.log t.stage.config.me m }) m.view m.instance)
goes-vote m t c le =
    let i = m.instance in
    let me = t.stage.config.me in
    let l = life_in t.stage c in
    let t1 = votes_for m.view i m.batch t in
    let t2 = notes i m.view me None t1 in
    let t3 = sends_to_all (accept_of m.view i) t2 in
    let h1 = goes-vote-for m t c in
    let h2 = goes-note i m.view me None t1 h1.keeps.cores c.fit.sane.me in
    let h3 = sent-to-all t2 h2.keeps.cores (accept_of m.view i) le in
    let rest = and-then t1 t2 t3 (noting i m.view me None (life_in t1.stage h1.keeps.cores)) (sent_to_all (accept_of m.view i)) h2 h3 in
    and-then t t1 t3 (voted m l) (λ (x : Life). followed_by (noting i m.view me None x) (sent_to_all (accept_of m.view i))) h1 rest

-- where the test passes, a vote is cast, noted and sent as in the model
goes-vote-if : (b : Bool) (m : Propose) (t : model.Turned) (c : Cores t.stage) → m.instance ≤ 2 ^ 48 → Follows t (when b (messages.votes_on m) t) (casting b m (life_in t.stage c))
goes-vote-if true m t c le = goes-vote m t c le
goes-vote-if false m t c le = stays t c

-- ---- Propose

-- what a proposal makes a life do, where it is told whether the life votes
abbrev by-vote : Bool → Life → ℕ → Propose → Turned
by-vote b l p m =
    let log = after_vote_if b (after_note l.log m.instance m.view p (Some m.batch)) l.config.me m in
    followed_by (vote_shown_if (record l { log = after_check log m.instance }) b m.view m.instance) (λ (x : Life). learning_shown_if x (is_some (learned_with log m.instance)) m.instance)

-- it is to note the acceptance, to vote, and to learn, one after another
by-vote-is : (b : Bool) (l : Life) (p : ℕ) (m : Propose)
    → followed_by (noting m.instance m.view p (Some m.batch) l) (λ (x : Life). followed_by (casting b m x) (checking m.instance)) ≡ by-vote b l p m
by-vote-is true l p m = refl
by-vote-is false l p m = refl

-- what the model does with a proposal, once its view is raised
abbrev proposal : ℕ → Propose → model.Turned → model.Turned
proposal p m t = t ▹ notes m.instance m.view p (Some m.batch) ▹ messages.votes_if m ▹ learn_check m.instance

-- a proposal is noted, voted on and learned as in the model
goes-proposal : (p : ℕ) (m : Propose) (t : model.Turned) (c : Cores t.stage) → MayVote p m.instance t.stage → Follows t (proposal p m t) (voting.proposal_taken (life_in t.stage c) p m)
goes-proposal p m t c may =
    let i = m.instance in
    let l = life_in t.stage c in
    let b = leading.works t.stage && (t.stage.life.view == m.view) && logs.is_in_span t.stage i in
    let t1 = notes i m.view p (Some m.batch) t in
    let t2 = messages.votes_if m t1 in
    let t3 = learn_check i t2 in
    let h1 = goes-note i m.view p (Some m.batch) t c may.0 in
    let h2 : Follows t1 t2 (casting b m (life_in t1.stage h1.keeps.cores)) = goes-vote-if b m t1 h1.keeps.cores may.1 in
    let h3 = goes-check i t2 h2.keeps.cores in
    let rest = and-then t1 t2 t3 (casting b m (life_in t1.stage h1.keeps.cores)) (checking i) h2 h3 in
    let all = and-then t t1 t3 (noting i m.view p (Some m.batch) l) (λ (x : Life). followed_by (casting b m x) (checking i)) h1 rest in
    subst (λ (x : Bool). Follows t t3 (by-vote x l p m)) (sym (accepts_alike.votes t.stage c.log m c.kept)) (subst (Follows t t3) (by-vote-is b l p m) all)

-- the same, by the test of the code, which passes
goes-proposal-if : (p : ℕ) (m : Propose) (t : model.Turned) (c : Cores t.stage) → MayVote p m.instance t.stage → Follows t (proposal p m t) (voting.proposal_taken_if (life_in t.stage c) p m)
goes-proposal-if p m t c may =
    let l = life_in t.stage c in
    let both : (counts c.log p && counts c.log t.stage.config.me) ≡ true =
    let a = counts-it t.stage c p may.0 in let b = counts-it t.stage c t.stage.config.me c.fit.sane.me in cc in
    subst (λ (b : Bool). Follows t (proposal p m t) (if b then voting.proposal_taken l p m else stay l)) (sym both) (goes-proposal p m t c may)

module _ (raise-up : GoesRaiseUp) where
  -- a proposal of the leader of its view is followed as in the model
  goes-heard : (p : ℕ) (m : Propose) (t : model.Turned) (c : Cores t.stage) → MayVote p m.instance t.stage
      → Follows t (t ▹ horizon_to (suc m.instance) ▹ leading.raise_up_to m.view ▹ proposal p m) (voting.proposal_heard (life_in t.stage c) p m)
  goes-heard p m t c may =
      let i = m.instance in
      let l = life_in t.stage c in
      let t1 = horizon_to (suc i) t in
      let t2 = leading.raise_up_to m.view t1 in
      let t3 = proposal p m t2 in
      let h1 = goes-horizon (suc i) t c in
      let h2 = raise-up m.view t1 h1.keeps.cores in
      let h3 = goes-proposal-if p m t2 h2.keeps.cores (subst (λ (k : model.Config). p < k.n) (sym h2.config) may.0, may.1) in
      let rest = and-then t1 t2 t3 (raising.raised_up_to (life_in t1.stage h1.keeps.cores) m.view) (λ (x : Life). voting.proposal_taken_if x p m) h2 h3 in
      let all : Follows t t3 (voting.proposal_followed (voting.horizon_to l (suc i)) p m) =
      and-then t t1 t3 (stay (voting.horizon_to l (suc i))) (λ (x : Life). voting.proposal_followed x p m) h1 rest in
      subst (λ (k : ℕ). Follows t t3 (voting.proposal_followed (voting.horizon_to l k) p m)) (sym (up-is i may.1)) all

  -- a Propose does what it does in the model
  pub goes-propose : GoesPropose
  goes-propose p m t c may =
      let l = life_in t.stage c in
      let f : model.Turned → model.Turned = λ x. x ▹ horizon_to (suc m.instance) ▹ leading.raise_up_to m.view ▹ proposal p m in
      chooses (leading.leads t.stage p m.view) f t (voting.proposal_heard l p m) (stay l) (λ e. goes-heard p m t c may) (λ e. stays t c)

  -- the own view is promised to who asks for it, as in the model
  goes-promise : (p : ℕ) (m : Prepare) → GoesWhere (IsOther p) (messages.promises_if p m) (λ l. voting.promised_if l p m)
  goes-promise p m t c other = go (t.stage.life.view == m.view) refl
    where
      go : (b : Bool) → (t.stage.life.view == m.view) ≡ b → Follows t (when b (messages.promises p m) t) (promise_sent (life_in t.stage c) p (promised c.log t.stage.life.view (messages.vector_of t.stage) m))
      go true e =
          let same : t.stage.life.view ≡ m.view = grind (arith, nat_tests) in
          let is = answers_alike.promise t.stage c.log (messages.vector_of t.stage) m c.kept refl same in
          let step = Step.Promise t.stage.config.me m.view in
          let made : PrepareOk = record { view = m.view; mark = m.mark; vector = messages.vector_of t.stage; low = t.stage.base; report = logs.report_from t.stage m.first } in
          let done : Follows t (messages.promises p m t) (promise_sent (life_in t.stage c) p (Some made)) =
          record { config = refl; keeps = record { cores = c; is = refl }; acts = append-assoc t.acts (model.Show step ∷ []) (model.Send p (Message.PrepareOk made) ∷ []); arming = refl; sends = (record { below = other.0; other = other.1; may = plain-vector t.stage }, tt); handed = le_refl _; hands = tt; service = refl } in
          subst (λ (o : Option PrepareOk). Follows t (messages.promises p m t) (promise_sent (life_in t.stage c) p o)) (sym is) done
      go false e =
          subst (λ (o : Option PrepareOk). Follows t t (promise_sent (life_in t.stage c) p o)) (sym (answers_alike.no_promise t.stage c.log (messages.vector_of t.stage) m e)) (stays t c)

  -- a Prepare does what it does in the model
  pub goes-prepare : GoesPrepare
  goes-prepare p m t c other =
      let l = life_in t.stage c in
      let t1 = leading.raise_up_to m.view t in
      let f : model.Turned → model.Turned = λ x. x ▹ leading.raise_up_to m.view ▹ messages.promises_if p m in
      let done : Turned = followed_by (raising.raised_up_to l m.view) (λ (x : Life). voting.promised_if x p m) in
      chooses (leading.works t.stage && leading.leads t.stage p m.view) f t done (stay l)
      (λ e. let h1 = raise-up m.view t c in and-then t t1 (f t) (raising.raised_up_to l m.view) (λ (x : Life). voting.promised_if x p m) h1 (goes-promise p m t1 h1.keeps.cores (subst (λ (k : model.Config). (p < k.n) × (p ≢ k.me)) (sym h1.config) other)))
      (λ e. stays t c)

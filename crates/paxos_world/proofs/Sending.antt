-- Who sends to whom.
use Rattle.std.proofs.Common.{◌≡◌, ℕ, suc, Bool, true, false, List, [], Option, Some, if◌then◌else◌, ◌==◌, sym, ap, subst, ◌∙◌, inl, inr, ⊎_elim}
use Rattle.jp_types.specs.declared.message.Message.{Message}
use Rattle.jp_types.specs.Views.{leader}
use Rattle.jp_types.specs.Lists.{In}
use Rattle.paxos_world.specs.Setup.{Setup}
use Rattle.paxos_world.specs.Life.{LifeId, Life}
use Rattle.paxos_world.specs.World.{Sent, Deed, Take, Enter, Open, Promise, Prepared, Launch, Vote, Learn, Answer, Rejoin, Install, Execute, Restore, Say, Allowed, Move, First, Return, Crash, Act, sends, sends_of, of_running, to_others, id_of, MaySay}
use Rattle.paxos_world.specs.Trace.{Trace, at, Does}
use Rattle.std.proofs.lemmas.Bool.Decides.{eqb_tells}
use Rattle.std.proofs.Common.{◌≢◌, ◌⊎◌, ◌∷◌, [], if◌then◌else◌, ◌==◌, List, inl, inr, ⊎_elim, eqb, zero, Bool, true, false, ◌≡◌, ℕ, suc}
use Rattle.paxos_world.specs.Life.{Took, Life}
use Rattle.paxos_world.specs.World.{World, Can, sends}
use Rattle.paxos_world.specs.Laws.{SentToOthers, IsOfLeader, LeadersLead}
use Rattle.paxos_world.proofs.Basics.{In-append}
use Rattle.paxos_world.proofs.Sound.{IsLed, LifeSound}
use Rattle.paxos_world.proofs.Runs.{always, life_sound-at, can-at}
use Rattle.paxos_world.proofs.Origins.{IsSentBy, sent-by, Source, From_promise, From_launch, From_vote, From_answer, From_say, source-of}

-- a message to all others is not to r
others-not : (k r : ℕ) (from : LifeId) (message : Message) (x : Sent) → In x (to_others k r from message) → x.to ≢ r
others-not zero r from message x i = absurd i
others-not (suc k) r from message x i =
    elim (In-append x (to_others k r from message) (if k == r then [] else record { from = from; to = k; message = message } ∷ []) i) [
      | inl a ↦ others-not k r from message x a
      | inr b ↦ go (eqb_tells k r) b
    ]
  where
    go : ((eqb k r ≡ true) × (k ≡ r)) ⊎ ((eqb k r ≡ false) × (k ≢ r)) → In x (if k == r then [] else record { from = from; to = k; message = message } ∷ []) → x.to ≢ r
    go (inl h) j = absurd (subst (λ (b : Bool). In x (if b then [] else record { from = from; to = k; message = message } ∷ [])) h.0 j)
    go (inr h) j = other (subst (λ (b : Bool). In x (if b then [] else record { from = from; to = k; message = message } ∷ [])) h.0 j)
      where
        other : In x (record { from = from; to = k; message = message } ∷ []) → x.to ≢ r
        other (inl e) same = h.1 (sym (ap (λ (y : Sent). y.to) e) ∙ same)
        other (inr n) same = n

-- what a life of r sends is not to r, where what it took is not from r
sends-not : (c : Setup) (w : World) (r : ℕ) (l : Life) (d : Deed) → Can c w r l d → ((p : ℕ) (m : Message) → Took l p m → p ≢ r) → (x : Sent) → In x (sends_of c r l d) → x.to ≢ r
sends-not c w r l (Promise view first mark low report) can took x (inl e) same = took (leader c.n view) _ can.asked (sym (ap (λ (y : Sent). y.to) e) ∙ same)
sends-not c w r l (Promise view first mark low report) can took x (inr i) same = i
sends-not c w r l (Launch view i batch) can took x j same = others-not c.n r (id_of r l) _ x j same
sends-not c w r l (Vote view i batch) can took x j same = go (r == leader c.n view) j same
  where
    go : (b : Bool) → In x (if b then [] else to_others c.n r (id_of r l) (Message.Accept (record { view = view; instance = i }))) → x.to ≢ r
    go true k = absurd k
    go false k = others-not c.n r (id_of r l) _ x k
sends-not c w r l (Answer to view next mark) can took x (inl e) same = took to _ can.asked (sym (ap (λ (y : Sent). y.to) e) ∙ same)
sends-not c w r l (Answer to view next mark) can took x (inr i) same = i
sends-not c w r l (Say to message) can took x (inl e) same = can.0 (sym (ap (λ (y : Sent). y.to) e) ∙ same)
sends-not c w r l (Say to message) can took x (inr i) same = i
sends-not c w r l (Take from message) can took x i same = absurd i
sends-not c w r l (Enter view) can took x i same = absurd i
sends-not c w r l (Open view first) can took x i same = absurd i
sends-not c w r l (Prepared view y) can took x i same = absurd i
sends-not c w r l (Learn j batch) can took x i same = absurd i
sends-not c w r l (Rejoin view) can took x i same = absurd i
sends-not c w r l (Install upto state) can took x i same = absurd i
sends-not c w r l (Execute j) can took x i same = absurd i
sends-not c w r l (Restore upto state) can took x i same = absurd i

ToOthers : World → Type 0
ToOthers w = (x : Sent) → In x w.sent → x.from.replica ≢ x.to

step-others : (run : Trace) (t : ℕ) (m : Move) → Allowed run.setup (at run t) m → ToOthers (at run t) → (x : Sent) → In x (sends run.setup (at run t) m) → x.from.replica ≢ x.to
unfolding ToOthers
step-others run t (First r) a h x i same = absurd i
step-others run t (Return r mark) a h x i same = absurd i
step-others run t (Crash r) a h x i same = absurd i
step-others run t (Act r d) a h x i same =
    let l = a.meets.life in
    let runs = a.meets.running in
    let j : In x (sends_of run.setup r l d) = subst (λ (o : Option Life). In x (of_running o (λ k. sends_of run.setup r k d))) runs i in
    let f = ap (λ (y : LifeId). y.replica) (source-of run.setup r l d x j).0 in
    sends-not run.setup (at run t) r l d a.meets.can
    (λ p m took from_r. h (record { from = took.0.from; to = r; message = took.0.message }) ((life_sound-at run t r l runs).taken took.0 took.1) (took.2 ∙ from_r)) x j (sym same ∙ f)

-- no message is sent to its sender
pub sent_to_others : (run : Trace) → SentToOthers run
unfolding ToOthers
sent_to_others run t x i =
    always run (λ u w. ToOthers w) (λ x i. absurd i) (λ u w h. h)
    (λ u m e a h x i. ⊎_elim (λ j. h x j) (λ j. step-others run u m a h x j) (In-append x (at run u).sent (sends run.setup (at run u) m) i)) t x i

-- a life that says a message of a leader leads
say-leads : (c : Setup) (r starts s : ℕ) (tops : ℕ → ℕ) (sent : List Sent) (l : Life) (x : Sent) (m : Message) → LifeSound c r starts s tops sent l → x.from.replica ≡ r → MaySay c r l m → IsOfLeader c.n x m
say-leads c r starts s tops sent l x (Message.Prepare m) h f may =
    let led = subst (IsLed c.n r l.view) may.0 h.led in ap (leader c.n) (sym may.1) ∙ led ∙ sym f
say-leads c r starts s tops sent l x (Message.Propose m) h f may = h.launched_by _ may ∙ sym f
say-leads c r starts s tops sent l x (Message.Alive m) h f may = ap (leader c.n) (sym may.1) ∙ may.2 ∙ sym f
say-leads c r starts s tops sent l x (Message.PrepareOk m) h f may = absurd may
say-leads c r starts s tops sent l x _ h f may = tt

-- leaders send what leaders send
pub leaders_lead : (run : Trace) → LeadersLead run
leaders_lead run t x i = let h = sent-by run t x i in let g = source-of run.setup h.r h.life h.deed x h.sends in go h (ap (λ (y : LifeId). y.replica) g.0) g.1
  where
    go : (h : IsSentBy run t x) → x.from.replica ≡ h.r → Source run.setup h.r h.life h.deed x → IsOfLeader run.setup.n x x.message
    go h f (From_promise view first mark low report is same k) = subst (IsOfLeader run.setup.n x) (sym k) (sym same)
    go h f (From_launch view j batch is k) =
        let does : Does run h.s (Act h.r (Launch view j batch)) = h.does ∙ ap (λ d. Some (Act h.r d)) is in
        let can = can-at run h.s h.r (Launch view j batch) h.life does h.runs in
        let led = subst (IsLed run.setup.n h.r h.life.view) can.leads (life_sound-at run h.s h.r h.life h.runs).led in
        subst (IsOfLeader run.setup.n x) (sym k) (ap (leader run.setup.n) (sym can.in_view) ∙ led ∙ sym f)
    go h f (From_vote view j batch is k) = subst (IsOfLeader run.setup.n x) (sym k) tt
    go h f (From_answer to view next mark is same k) = subst (IsOfLeader run.setup.n x) (sym k) tt
    go h f (From_say to message is k) =
        let does : Does run h.s (Act h.r (Say to message)) = h.does ∙ ap (λ d. Some (Act h.r d)) is in
        let can = can-at run h.s h.r (Say to message) h.life does h.runs in
        subst (IsOfLeader run.setup.n x) (sym k) (say-leads run.setup h.r _ _ _ _ h.life x message (life_sound-at run h.s h.r h.life h.runs) f can.1)

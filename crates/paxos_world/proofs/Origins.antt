-- Where votes and messages come from.
use Rattle.std.proofs.Common.{◌≡◌, ℕ, suc, ◌<◌, Bool, true, false, List, [], Option, Some, if◌then◌else◌, ◌==◌, refl, sym, ap, subst, ◌∙◌, inl, inr, ⊎_elim, arith}
use Rattle.jp_types.specs.declared.message.Message.{Message}
use Rattle.jp_types.specs.declared.message.Entry.{Entry}
use Rattle.jp_types.specs.declared.message.PrepareOk.{PrepareOk}
use Rattle.jp_types.specs.declared.message.RecoveryAnswer.{RecoveryAnswer}
use Rattle.jp_types.specs.declared.message.Recovery.{Recovery}
use Rattle.jp_types.specs.declared.message.Prepare.{Prepare}
use Rattle.jp_types.specs.Views.{leader}
use Rattle.jp_types.specs.Lists.{In}
use Rattle.paxos_world.specs.Setup.{Setup}
use Rattle.paxos_world.specs.Life.{LifeId, Life}
use Rattle.jp_types.specs.Instances.{Batch}
use Rattle.paxos_world.specs.Counting.{entry_in}
use Rattle.jp_types.specs.Vectors.{table}
use Rattle.paxos_world.specs.World.{Sent, Deed, Take, Enter, Open, Promise, Prepared, Launch, Vote, Learn, Answer, Rejoin, Install, Execute, Restore, Say, Allowed, life_after, Move, First, Return, Crash, Act, sends, sends_of, of_running, to_others, id_of, MaySay}
use Rattle.paxos_world.proofs.Basics.{In-append}
use Rattle.paxos_world.specs.Trace.{Trace, at, Runs, Does}
use Rattle.paxos_world.proofs.Sound.{to_others-is}
use Rattle.paxos_world.proofs.Runs.{always, can-at}

-- a message that was sent comes from a step that its life made earlier
pub record IsSentBy (run : Trace) (t : ℕ) (x : Sent) : Type 0 where
  pub s : ℕ
  pub before : s < t
  pub r : ℕ
  pub deed : Deed
  pub life : Life
  pub does : Does run s (Act r deed)
  pub runs : Runs run s r life
  pub sends : In x (sends_of run.setup r life deed)

later_sent : (run : Trace) (t : ℕ) (x : Sent) → IsSentBy run t x → IsSentBy run (suc t) x
later_sent run t x h = record { s = h.s; before = let b = h.before in omega arith; r = h.r; deed = h.deed; life = h.life; does = h.does; runs = h.runs; sends = h.sends }

now_sent : (run : Trace) (t : ℕ) (x : Sent) (m : Move) → Does run t m → Allowed run.setup (at run t) m → In x (sends run.setup (at run t) m) → IsSentBy run (suc t) x
now_sent run t x (First r) e a i = absurd i
now_sent run t x (Return r mark) e a i = absurd i
now_sent run t x (Crash r) e a i = absurd i
now_sent run t x (Act r d) e a i =
    let h = a.meets in
    record {
      s = t;
      before = omega arith;
      r = r;
      deed = d;
      life = h.life;
      does = e;
      runs = h.running;
      sends = subst (λ (o : Option Life). In x (of_running o (λ k. sends_of run.setup r k d))) h.running i;
    }

-- each message that was sent has its step
pub sent-by : (run : Trace) (t : ℕ) (x : Sent) → In x (at run t).sent → IsSentBy run t x
sent-by run t x = always run (λ u w. In x w.sent → IsSentBy run u x) (λ i. absurd i) (λ u w h i. later_sent run u x (h i))
    (λ u m e a h i. ⊎_elim (λ j. later_sent run u x (h j)) (λ j. now_sent run u x m e a j) (In-append x (at run u).sent (sends run.setup (at run u) m) i)) t

-- the kinds of step that send, and what they send
pub data Source (c : Setup) (r : ℕ) (l : Life) (d : Deed) (x : Sent) : Type 0 where
  From_promise : (view first mark low : ℕ) (report : List Entry) → d ≡ Promise view first mark low report → x.to ≡ leader c.n view
      → x.message ≡ Message.PrepareOk (record { view = view; mark = mark; vector = table (entry_in c.mode r l); low = low; report = report }) → Source c r l d x
  From_launch : (view i : ℕ) (batch : Batch) → d ≡ Launch view i batch → x.message ≡ Message.Propose (record { view = view; instance = i; batch = batch }) → Source c r l d x
  From_vote : (view i : ℕ) (batch : Batch) → d ≡ Vote view i batch → x.message ≡ Message.Accept (record { view = view; instance = i }) → Source c r l d x
  From_answer : (to view : ℕ) (next : Option ℕ) (mark : ℕ) → d ≡ Answer to view next mark → x.to ≡ to
      → x.message ≡ Message.RecoveryAnswer (record { mark = mark; view = view; vector = table (entry_in c.mode r (life_after c r l (Answer to view next mark))); next = next }) → Source c r l d x
  From_say : (to : ℕ) (message : Message) → d ≡ Say to message → x.message ≡ message → Source c r l d x

-- who sends, and how
pub source-of : (c : Setup) (r : ℕ) (l : Life) (d : Deed) (x : Sent) → In x (sends_of c r l d) → (x.from ≡ id_of r l) × Source c r l d x
source-of c r l (Promise view first mark low report) x (inl e) =
    (ap (λ (y : Sent). y.from) e, From_promise view first mark low report refl (ap (λ (y : Sent). y.to) e) (ap (λ (y : Sent). y.message) e))
source-of c r l (Promise view first mark low report) x (inr i) = absurd i
source-of c r l (Launch view i batch) x j = let e = to_others-is c.n r (id_of r l) _ x j in (e.0, From_launch view i batch refl e.1)
source-of c r l (Vote view i batch) x j = go (r == leader c.n view) j
  where
    go : (b : Bool) → In x (if b then [] else to_others c.n r (id_of r l) (Message.Accept (record { view = view; instance = i }))) → (x.from ≡ id_of r l) × Source c r l (Vote view i batch) x
    go true j = absurd j
    go false j = let e = to_others-is c.n r (id_of r l) _ x j in (e.0, From_vote view i batch refl e.1)
source-of c r l (Answer to view next mark) x (inl e) =
    (ap (λ (y : Sent). y.from) e, From_answer to view next mark refl (ap (λ (y : Sent). y.to) e) (ap (λ (y : Sent). y.message) e))
source-of c r l (Answer to view next mark) x (inr i) = absurd i
source-of c r l (Say to message) x (inl e) = (ap (λ (y : Sent). y.from) e, From_say to message refl (ap (λ (y : Sent). y.message) e))
source-of c r l (Say to message) x (inr i) = absurd i
source-of c r l (Take from message) x i = absurd i
source-of c r l (Enter view) x i = absurd i
source-of c r l (Open view first) x i = absurd i
source-of c r l (Prepared view y) x i = absurd i
source-of c r l (Learn j batch) x i = absurd i
source-of c r l (Rejoin view) x i = absurd i
source-of c r l (Install upto state) x i = absurd i
source-of c r l (Execute j) x i = absurd i
source-of c r l (Restore upto state) x i = absurd i

-- a RecoveryAnswer comes from the step that answered, with the vector after it
pub record IsAnswered (run : Trace) (t to : ℕ) (from : LifeId) (m : RecoveryAnswer) : Type 0 where
  pub s : ℕ
  pub before : s < t
  pub life : Life
  pub does : Does run s (Act from.replica (Answer to m.view m.next m.mark))
  pub runs : Runs run s from.replica life
  pub number : from.number ≡ life.number
  pub vector : m.vector ≡ table (entry_in run.setup.mode from.replica (life_after run.setup from.replica life (Answer to m.view m.next m.mark)))

-- a PrepareOk comes from the step that promised, with the vector before it
pub record IsPromised (run : Trace) (t to : ℕ) (from : LifeId) (m : PrepareOk) : Type 0 where
  pub s : ℕ
  pub before : s < t
  pub life : Life
  pub first : ℕ
  pub does : Does run s (Act from.replica (Promise m.view first m.mark m.low m.report))
  pub runs : Runs run s from.replica life
  pub number : from.number ≡ life.number
  pub leads : to ≡ leader run.setup.n m.view
  pub vector : m.vector ≡ table (entry_in run.setup.mode from.replica life)

answered-step : (run : Trace) (t s to : ℕ) (r : ℕ) (l : Life) (from : LifeId) (m : RecoveryAnswer) (view : ℕ) (next : Option ℕ) (mark to' : ℕ) (d : Deed) → s < t → Does run s (Act r d) → Runs run s r l → from ≡ id_of r l
    → d ≡ Answer to' view next mark → to ≡ to' → m ≡ record { mark = mark; view = view; vector = table (entry_in run.setup.mode r (life_after run.setup r l (Answer to' view next mark))); next = next }
    → IsAnswered run t to from m
answered-step run t s to r l from m view next mark to' d lt does runs f is same e =
    let goal : LifeId → RecoveryAnswer → Type 0 = λ (g : LifeId) (k : RecoveryAnswer). IsAnswered run t to g k in
    let does' : Does run s (Act r (Answer to view next mark)) = does ∙ ap (λ k. Some (Act r k)) (is ∙ ap (λ k. Answer k view next mark) (sym same)) in
    let v = ap (λ k. table (entry_in run.setup.mode r (life_after run.setup r l (Answer k view next mark)))) (sym same) in
    let new : RecoveryAnswer = record { mark = mark; view = view; vector = table (entry_in run.setup.mode r (life_after run.setup r l (Answer to' view next mark))); next = next } in
    let done : IsAnswered run t to (id_of r l) new = record { s = s; before = lt; life = l; does = does'; runs = runs; number = refl; vector = v } in
    subst (λ (g : LifeId). IsAnswered run t to g m) (sym f) (subst (λ (k : RecoveryAnswer). IsAnswered run t to (id_of r l) k) (sym e) done)

promised-step : (run : Trace) (t s to : ℕ) (r : ℕ) (l : Life) (from : LifeId) (m : PrepareOk) (view first mark low : ℕ) (report : List Entry) (d : Deed) → s < t → Does run s (Act r d) → Runs run s r l → from ≡ id_of r l
    → d ≡ Promise view first mark low report → to ≡ leader run.setup.n view → m ≡ record { view = view; mark = mark; vector = table (entry_in run.setup.mode r l); low = low; report = report }
    → IsPromised run t to from m
promised-step run t s to r l from m view first mark low report d lt does runs f is same e =
    let does' : Does run s (Act r (Promise view first mark low report)) = does ∙ ap (λ k. Some (Act r k)) is in
    let new : PrepareOk = record { view = view; mark = mark; vector = table (entry_in run.setup.mode r l); low = low; report = report } in
    let done : IsPromised run t to (id_of r l) new = record { s = s; before = lt; life = l; first = first; does = does'; runs = runs; number = refl; leads = same; vector = refl } in
    subst (λ (g : LifeId). IsPromised run t to g m) (sym f) (subst (λ (k : PrepareOk). IsPromised run t to (id_of r l) k) (sym e) done)

-- where a RecoveryAnswer comes from
pub answer-from : (run : Trace) (t : ℕ) (x : Sent) (m : RecoveryAnswer) → In x (at run t).sent → x.message ≡ Message.RecoveryAnswer m → IsAnswered run t x.to x.from m
answer-from run t x m i e = let h = sent-by run t x i in let g = source-of run.setup h.r h.life h.deed x h.sends in go h g.0 g.1
  where
    go : (h : IsSentBy run t x) → x.from ≡ id_of h.r h.life → Source run.setup h.r h.life h.deed x → IsAnswered run t x.to x.from m
    go h f (From_promise view first mark low report is same k) = absurd cc
    go h f (From_launch view j batch is k) = absurd cc
    go h f (From_vote view j batch is k) = absurd cc
    go h f (From_answer to view next mark is same k) = answered-step run t h.s x.to h.r h.life x.from m view next mark to h.deed h.before h.does h.runs f is same cc
    go h f (From_say to message is k) =
        let does : Does run h.s (Act h.r (Say to (Message.RecoveryAnswer m))) = h.does ∙ ap (λ d. Some (Act h.r d)) (is ∙ ap (Say to) (sym k ∙ e)) in
        absurd (can-at run h.s h.r (Say to (Message.RecoveryAnswer m)) h.life does h.runs).1

-- where a PrepareOk comes from
pub promise-from : (run : Trace) (t : ℕ) (x : Sent) (m : PrepareOk) → In x (at run t).sent → x.message ≡ Message.PrepareOk m → IsPromised run t x.to x.from m
promise-from run t x m i e = let h = sent-by run t x i in let g = source-of run.setup h.r h.life h.deed x h.sends in go h g.0 g.1
  where
    go : (h : IsSentBy run t x) → x.from ≡ id_of h.r h.life → Source run.setup h.r h.life h.deed x → IsPromised run t x.to x.from m
    go h f (From_promise view first mark low report is same k) = promised-step run t h.s x.to h.r h.life x.from m view first mark low report h.deed h.before h.does h.runs f is same cc
    go h f (From_launch view j batch is k) = absurd cc
    go h f (From_vote view j batch is k) = absurd cc
    go h f (From_answer to view next mark is same k) = absurd cc
    go h f (From_say to message is k) =
        let does : Does run h.s (Act h.r (Say to (Message.PrepareOk m))) = h.does ∙ ap (λ d. Some (Act h.r d)) (is ∙ ap (Say to) (sym k ∙ e)) in
        absurd (can-at run h.s h.r (Say to (Message.PrepareOk m)) h.life does h.runs).1

-- at an earlier moment the life could send this message by a Say
pub record IsSaying (run : Trace) (t : ℕ) (from : LifeId) (m : Message) : Type 0 where
  pub s : ℕ
  pub before : s < t
  pub life : Life
  pub runs : Runs run s from.replica life
  pub number : from.number ≡ life.number
  pub may : MaySay run.setup from.replica life m

pub saying-step : (run : Trace) (t s r to : ℕ) (l : Life) (d : Deed) (from : LifeId) (m : Message) → s < t → Does run s (Act r d) → Runs run s r l → from ≡ id_of r l → d ≡ Say to m → IsSaying run t from m
saying-step run t s r to l d from m lt does runs f is =
    let does' : Does run s (Act r (Say to m)) = does ∙ ap (λ k. Some (Act r k)) is in
    let done : IsSaying run t (id_of r l) m = record { s = s; before = lt; life = l; runs = runs; number = refl; may = (can-at run s r (Say to m) l does' runs).1 } in
    subst (λ (g : LifeId). IsSaying run t g m) (sym f) done

-- where a Recovery comes from
pub recovery-from : (run : Trace) (t : ℕ) (x : Sent) (m : Recovery) → In x (at run t).sent → x.message ≡ Message.Recovery m → IsSaying run t x.from (Message.Recovery m)
recovery-from run t x m i e = let h = sent-by run t x i in let g = source-of run.setup h.r h.life h.deed x h.sends in go h g.0 g.1
  where
    go : (h : IsSentBy run t x) → x.from ≡ id_of h.r h.life → Source run.setup h.r h.life h.deed x → IsSaying run t x.from (Message.Recovery m)
    go h f (From_promise view first mark low report is same k) = absurd cc
    go h f (From_launch view j batch is k) = absurd cc
    go h f (From_vote view j batch is k) = absurd cc
    go h f (From_answer to view next mark is same k) = absurd cc
    go h f (From_say to message is k) = saying-step run t h.s h.r to h.life h.deed x.from (Message.Recovery m) h.before h.does h.runs f (is ∙ ap (Say to) (sym k ∙ e))

-- where a Prepare comes from
pub prepare-from : (run : Trace) (t : ℕ) (x : Sent) (m : Prepare) → In x (at run t).sent → x.message ≡ Message.Prepare m → IsSaying run t x.from (Message.Prepare m)
prepare-from run t x m i e = let h = sent-by run t x i in let g = source-of run.setup h.r h.life h.deed x h.sends in go h g.0 g.1
  where
    go : (h : IsSentBy run t x) → x.from ≡ id_of h.r h.life → Source run.setup h.r h.life h.deed x → IsSaying run t x.from (Message.Prepare m)
    go h f (From_promise view first mark low report is same k) = absurd cc
    go h f (From_launch view j batch is k) = absurd cc
    go h f (From_vote view j batch is k) = absurd cc
    go h f (From_answer to view next mark is same k) = absurd cc
    go h f (From_say to message is k) = saying-step run t h.s h.r to h.life h.deed x.from (Message.Prepare m) h.before h.does h.runs f (is ∙ ap (Say to) (sym k ∙ e))

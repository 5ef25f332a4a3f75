-- A run in ViewSS: a batch is chosen in view 0 that nobody learns there, view 1's leader adopts it from a report, and the second life of a replica rejoins in view 1.
use Rattle.std.proofs.Common.{◌≡◌, ℕ, zero, suc, ◌+◌, ◌≤◌, ◌<◌, List, [], ◌∷◌, take, slice_get, Option, Some, None, refl, sym, ap, subst, ◌∙◌, inl, inr, ⊎_elim, arith, lit≤, lit<, nat_lt}
use Rattle.jp_types.specs.declared.message.Message.{Message}
use Rattle.jp_types.specs.declared.mode.Phase.TheVariants.{Recovering, Working}
use Rattle.jp_types.specs.declared.mode.Mode.TheVariants.{ViewSs}
use Rattle.jp_types.specs.Lists.{In}
use Rattle.paxos_world.specs.Setup.{Setup}
use Rattle.paxos_world.specs.Life.{Taken, Life, IsKnown, new_life}
use Rattle.jp_types.specs.Instances.{Batch}
use Rattle.paxos_world.specs.World.{Move, First, Return, Crash, Act, Take, Enter, Open, Promise, Prepared, Launch, Vote, Learn, Answer, Rejoin, Say, opening, By_votes, By_catch_up, HasAccepted, life_after}
use Rattle.jp_types.specs.declared.message.PrepareOk.{PrepareOk}
use Rattle.jp_types.specs.declared.message.RecoveryAnswer.{RecoveryAnswer}
use Rattle.jp_types.specs.declared.message.Entry.{Entry}
use Rattle.paxos_world.specs.Counting.{Held, counted_ok, counted_answer}
use Rattle.paxos_world.specs.Adoption.{counted_report, IsReport, IsTold}
use Rattle.jp_types.specs.Reports.{voted_entry}
use Rattle.paxos_world.specs.Laws.{SomeRunAdopts}
use Rattle.paxos_world.specs.Trace.{IsRun, end_of}
use Rattle.paxos_world.proofs.Basics.{with_at-cases}
use Rattle.paxos_world.proofs.Replies.{IsHeldOk, IsHeldAnswer, counted_ok-is, counted_answer-is}
use Rattle.paxos_world.proofs.Chosen.{entry-from}
use Rattle.paxos_world.proofs.Witness.{b1, one, two, none-known, with-two, below-one}

-- three replicas
abbrev pub three : Setup
three = record { n = 3; mode = ViewSs; encode = λ s. [] }

abbrev pub prepare0 : Message
prepare0 = Message.Prepare (record { view = 0; first = 0; mark = 0 })

abbrev pub ok0 : PrepareOk
ok0 = record { view = 0; mark = 0; vector = 0 ∷ 0 ∷ 0 ∷ 0 ∷ 0 ∷ 0 ∷ 0 ∷ 0 ∷ 0 ∷ []; low = 0; report = [] }

abbrev pub promise0 : Message
promise0 = Message.PrepareOk ok0

abbrev pub proposed : ℕ → Message
proposed v = Message.Propose (record { view = v; instance = 0; batch = b1 })

abbrev pub recovery : Message
recovery = Message.Recovery (record { mark = 1 })

abbrev pub prepare1 : Message
prepare1 = Message.Prepare (record { view = 1; first = 0; mark = 0 })

-- replica 0 reports its vote in view 0
abbrev pub report1 : List Entry
report1 = voted_entry 0 0 b1 ∷ []

abbrev pub ok1 : PrepareOk
ok1 = record { view = 1; mark = 0; vector = 0 ∷ 0 ∷ 0 ∷ 0 ∷ 0 ∷ 0 ∷ 0 ∷ 0 ∷ 0 ∷ []; low = 0; report = report1 }

abbrev pub promise1 : Message
promise1 = Message.PrepareOk ok1

abbrev pub leader_answer : RecoveryAnswer
leader_answer = record { mark = 1; view = 1; vector = 0 ∷ 0 ∷ 0 ∷ 0 ∷ 0 ∷ 0 ∷ 0 ∷ 0 ∷ 0 ∷ []; next = Some 1 }

abbrev pub other_answer : RecoveryAnswer
other_answer = record { mark = 1; view = 1; vector = 0 ∷ 0 ∷ 0 ∷ 0 ∷ 0 ∷ 0 ∷ 0 ∷ 0 ∷ 0 ∷ []; next = None }

abbrev pub from_leader : Message
from_leader = Message.RecoveryAnswer leader_answer

abbrev pub from_other : Message
from_other = Message.RecoveryAnswer other_answer

abbrev pub accepted1 : Message
accepted1 = Message.Accept (record { view = 1; instance = 0 })

abbrev pub caught_up : Message
caught_up = Message.CatchUpReply (record { first = 0; batches = b1 ∷ [] })

-- the steps
abbrev pub adopts : List Move
adopts = First 0 ∷ First 1 ∷ First 2 ∷ Act 0 (Open 0 0) ∷ Act 0 (Say 1 prepare0) ∷ Act 1 (Take (one 0) prepare0) ∷ Act 1 (Promise 0 0 0 0 []) ∷ Act 0 (Take (one 1) promise0) ∷ Act 0 (Prepared 0 0) ∷ Act 0 (Launch 0 0 b1) ∷ Act 1 (Take (one 0) (proposed 0)) ∷ Act 1 (Vote 0 0 b1) ∷ Crash 2 ∷ Return 2 1 ∷ Act 2 (Say 0 recovery) ∷ Act 2 (Say 1 recovery) ∷ Act 0 (Take (two 2) recovery) ∷ Act 1 (Take (two 2) recovery) ∷ Act 1 (Enter 1) ∷ Act 1 (Open 1 0) ∷ Act 1 (Say 0 prepare1) ∷ Act 0 (Take (one 1) prepare1) ∷ Act 0 (Enter 1) ∷ Act 0 (Promise 1 0 0 0 report1) ∷ Act 1 (Take (one 0) promise1) ∷ Act 1 (Prepared 1 1) ∷ Act 1 (Launch 1 0 b1) ∷ Act 1 (Answer 2 1 (Some 1) 1) ∷ Act 0 (Answer 2 1 None 1) ∷ Act 0 (Take (one 1) (proposed 1)) ∷ Act 0 (Vote 1 0 b1) ∷ Act 1 (Take (one 0) accepted1) ∷ Act 1 (Learn 0 b1) ∷ Act 1 (Say 2 caught_up) ∷ Act 2 (Take (one 1) from_leader) ∷ Act 2 (Take (one 0) from_other) ∷ Act 2 (Take (one 1) caught_up) ∷ Act 2 (Learn 0 b1) ∷ Act 2 (Rejoin 1) ∷ []

-- the lives before the steps whose conditions speak of them
abbrev ready0 : Life
ready0 = life_after three 0 (life_after three 0 (life_after three 0 (new_life 1 0 Working 0) (Open 0 0)) (Say 1 prepare0)) (Take (one 1) promise0)

abbrev taken0 : Taken
taken0 = record { from = one 1; message = promise0; phase = Working; preparing = Some 0 }

abbrev voter0 : Life
voter0 =
    life_after three 0 (life_after three 0 (life_after three 0 (life_after three 0 (life_after three 0 ready0 (Prepared 0 0)) (Launch 0 0 b1)) (Take (two 2) recovery)) (Take (one 1) prepare1)) (Enter 1)

abbrev ready1 : Life
ready1 =
    life_after three 1 (life_after three 1 (life_after three 1 (life_after three 1 (life_after three 1 (life_after three 1 (life_after three 1 (life_after three 1 (life_after three 1 (new_life 1 0 Working 0)
    (Take (one 0) prepare0)) (Promise 0 0 0 0 [])) (Take (one 0) (proposed 0))) (Vote 0 0 b1)) (Take (two 2) recovery)) (Enter 1)) (Open 1 0)) (Say 0 prepare1)) (Take (one 0) promise1)

abbrev learning1 : Life
learning1 = life_after three 1 (life_after three 1 (life_after three 1 (life_after three 1 ready1 (Prepared 1 1)) (Launch 1 0 b1)) (Answer 2 1 (Some 1) 1)) (Take (one 0) accepted1)

abbrev learnt1 : Life
learnt1 = life_after three 1 learning1 (Learn 0 b1)

abbrev returned_ready : Life
returned_ready =
    life_after three 2 (life_after three 2 (life_after three 2 (life_after three 2 (life_after three 2 (life_after three 2 (new_life 2 1 Recovering 1) (Say 0 recovery)) (Say 1 recovery))
    (Take (one 1) from_leader)) (Take (one 0) from_other)) (Take (one 1) caught_up)) (Learn 0 b1)

only-first : (f : ℕ → Option Batch) → f 0 ≡ Some b1 → (k : ℕ) (b : Batch) → slice_get {X = Batch} (b1 ∷ []) k ≡ Some b → f (0 + k) ≡ Some b
only-first f e zero b s = e ∙ s
only-first f e (suc k) b s = cc

-- the PrepareOk that was counted in view 0
only-promise0 : (r : ℕ) (l : Life) (t : Taken) (p : ℕ) (h : Held PrepareOk) → l.taken ≡ t ∷ [] → t.message ≡ promise0 → counted_ok three r l p ≡ Some h → (h.body.low ≡ 0) × (h.body.report ≡ [])
only-promise0 r l t p h e f c =
    let k = (counted_ok-is three r l p h c).held in
    go k (subst (λ (ts : List Taken). In k.t ts) e k.in_taken)
  where
    go : (k : IsHeldOk l.mark l.view p l.taken h) → In k.t (t ∷ []) → (h.body.low ≡ 0) × (h.body.report ≡ [])
    go k (inl s) =
        let m : Message.PrepareOk h.body ≡ Message.PrepareOk ok0 = sym k.message ∙ ap (λ (x : Taken). x.message) s ∙ f in
        let b : h.body ≡ ok0 = cc in
        (ap (λ (x : PrepareOk). x.low) b, ap (λ (x : PrepareOk). x.report) b)
    go k (inr i) = absurd i

no-entry0 : (r : ℕ) (l : Life) (t : Taken) (p : ℕ) (e : Entry) → l.taken ≡ t ∷ [] → t.message ≡ promise0 → In e (counted_report three r l p) → ⊥
no-entry0 r l t p e s f i =
    let g = entry-from three r l p e i in
    let k = only-promise0 r l t p g.0 s f g.1 in
    subst (λ (es : List Entry). In e es) k.1 g.2

-- the PrepareOk that was counted in view 1
only-promise1 : (p : ℕ) (h : Held PrepareOk) → counted_ok three 1 ready1 p ≡ Some h → (h.body.low ≡ 0) × (h.body.report ≡ report1)
only-promise1 p h c = let k = (counted_ok-is three 1 ready1 p h c).held in go k k.in_taken
  where
    go : (k : IsHeldOk ready1.mark ready1.view p ready1.taken h) → In k.t ready1.taken → (h.body.low ≡ 0) × (h.body.report ≡ report1)
    go k (inl s) =
        let m : Message.PrepareOk h.body ≡ Message.PrepareOk ok1 = sym k.message ∙ ap (λ (x : Taken). x.message) s in
        let b : h.body ≡ ok1 = cc in
        (ap (λ (x : PrepareOk). x.low) b, ap (λ (x : PrepareOk). x.report) b)
    go k (inr (inl s)) = let m : Message.PrepareOk h.body ≡ recovery = sym k.message ∙ ap (λ (x : Taken). x.message) s in absurd cc
    go k (inr (inr (inl s))) = let m : Message.PrepareOk h.body ≡ proposed 0 = sym k.message ∙ ap (λ (x : Taken). x.message) s in absurd cc
    go k (inr (inr (inr (inl s)))) = let m : Message.PrepareOk h.body ≡ prepare0 = sym k.message ∙ ap (λ (x : Taken). x.message) s in absurd cc
    go k (inr (inr (inr (inr i)))) = absurd i

entry1-low : (p : ℕ) (e : Entry) → In e (counted_report three 1 ready1 p) → e.instance < 1
entry1-low p e i =
    let g = entry-from three 1 ready1 p e i in
    let k = only-promise1 p g.0 g.1 in
    go (subst (λ (es : List Entry). In e es) k.1 g.2)
  where
    go : In e report1 → e.instance < 1
    go (inl s) = let n : e.instance ≡ 0 = ap (λ (x : Entry). x.instance) s in omega arith
    go (inr i) = absurd i

-- replica 1 voted on instance 0 alone
voted-low : (i : ℕ) (vote : ℕ × Batch) → ready1.votes i ≡ Some vote → i < 1
voted-low i vote e = with_at-cases (λ (o : Option (ℕ × Batch)). o ≡ Some vote → i < 1) (λ j. None) 0 (Some (0, b1)) i (λ is f. omega arith) (λ ne f. absurd cc) e

-- the report of replica 0
reported1 : IsReport voter0 0 0 report1
reported1 =
    record {
      from = λ e i. (omega arith, omega arith);
      told = λ e i. ⊎_elim (λ (s : e ≡ voted_entry 0 0 b1). subst (λ (x : Entry). IsTold voter0 x.instance x.vote x.batch) (sym s) (refl, refl)) (λ j. absurd j) i;
      decided = λ i b x y e. absurd cc;
      voted = λ i v b x y e f. voted-is i v b f;
      ascending = (λ f i. absurd i, tt);
    }
  where
    voted-is : (i v : ℕ) (b : Batch) → voter0.votes i ≡ Some (v, b) → In (voted_entry i v b) report1
    voted-is i v b e = with_at-cases (λ (o : Option (ℕ × Batch)). o ≡ Some (v, b) → In (voted_entry i v b) report1) (λ j. None) 0 (Some (0, b1)) i
        (λ is f. let p : (0, b1) ≡ (v, b) = cc in let x : v ≡ 0 = sym (ap (λ (k : ℕ × Batch). k.0) p) in let y : b ≡ b1 = sym (ap (λ (k : ℕ × Batch). k.1) p) in
        inl (λ k. record { instance = is k; vote = Some (x k); batch = y k })) (λ ne f. absurd cc) e

-- the answers that replica 2 took are at view 1
view-one : (p : ℕ) (h : Held RecoveryAnswer) → counted_answer three 2 returned_ready p ≡ Some h → h.body.view ≤ 1
view-one p h c = let k = (counted_answer-is three 2 returned_ready p h c).held in go k k.in_taken
  where
    go : (k : IsHeldAnswer returned_ready.mark p returned_ready.taken h) → In k.t returned_ready.taken → h.body.view ≤ 1
    go k (inl s) = let m : Message.RecoveryAnswer h.body ≡ caught_up = sym k.message ∙ ap (λ (x : Taken). x.message) s in absurd cc
    go k (inr (inl s)) =
        let m : Message.RecoveryAnswer h.body ≡ Message.RecoveryAnswer other_answer = sym k.message ∙ ap (λ (x : Taken). x.message) s in
        let b : h.body ≡ other_answer = cc in
        let v : h.body.view ≡ 1 = ap (λ (x : RecoveryAnswer). x.view) b in omega arith
    go k (inr (inr (inl s))) =
        let m : Message.RecoveryAnswer h.body ≡ Message.RecoveryAnswer leader_answer = sym k.message ∙ ap (λ (x : Taken). x.message) s in
        let b : h.body ≡ leader_answer = cc in
        let v : h.body.view ≡ 1 = ap (λ (x : RecoveryAnswer). x.view) b in omega arith
    go k (inr (inr (inr i))) = absurd i

adopts-runs : IsRun three opening adopts
adopts-runs = (
  record { within = lit< tt; meets = record { down = refl; fresh = refl } },
  (
    record { within = lit< tt; meets = record { down = refl; fresh = refl } },
    (
      record { within = lit< tt; meets = record { down = refl; fresh = refl } },
      (
        record { within = lit< tt; meets = record { life = _; running = refl; can = record { working = refl; in_view = refl; leads = refl; idle = refl; first_unknown = none-known _ refl refl } } },
        (
          record { within = lit< tt; meets = record { life = _; running = refl; can = (omega arith, (refl, refl, refl)) } },
          (
            record { within = lit< tt; meets = record { life = _; running = refl; can = record { sent = inl refl } } },
            (
              record { within = lit< tt; meets = record { life = _; running = refl; can = record { working = refl; in_view = refl; asked = (_, inl refl, refl, refl); low_from = lit≤ tt; low_known = λ i lt. absurd (omega arith); reported = record { from = λ e i. absurd i; told = λ e i. absurd i; decided = λ i b x y e. absurd cc; voted = λ i v b x y e f. absurd cc; ascending = tt } } } },
              (
                record { within = lit< tt; meets = record { life = _; running = refl; can = record { sent = inr (inl refl) } } },
                (
                  record {
                    within = lit< tt;
                    meets = record {
                      life = _;
                      running = refl;
                      can = record {
                        in_view = refl;
                        first = 0;
                        preparing = refl;
                        quorum = lit≤ tt;
                        lows = λ p h lt e i less. let k = (only-promise0 0 ready0 taken0 p h refl refl e).0 in absurd (omega arith);
                        above_reports = λ p e lt i. absurd (no-entry0 0 ready0 taken0 p e refl refl i);
                        above_known = λ i le known. absurd (⊎_elim (λ (lt : i < 0). omega arith) (λ h. let e = h.1 in cc) known);
                        above_voted = λ i vote le e. absurd cc;
                        unknown = 0;
                        first_unknown = none-known _ refl refl;
                        at_least = lit≤ tt;
                      };
                    };
                  },
                  (
                    record { within = lit< tt; meets = record { life = _; running = refl; can = record { in_view = refl; lead = _; leads = refl; once = λ other i. i; may = inr (lit≤ tt, refl) } } },
                    (
                      record { within = lit< tt; meets = record { life = _; running = refl; can = record { sent = inr (inr (inl refl)) } } },
                      (
                        record { within = lit< tt; meets = record { life = _; running = refl; can = record { working = refl; in_view = refl; proposal = inr (_, inl refl, refl, refl) } } },
                        (
                          record { within = lit< tt; meets = record { life = _; running = refl } },
                          (
                            record { within = lit< tt; meets = record { down = refl; number = 0; stable = refl; next = (lit< tt, omega arith, λ v lo hi. absurd (omega arith)); limit = lit≤ tt } },
                            (
                              record { within = lit< tt; meets = record { life = _; running = refl; can = (omega arith, refl) } },
                              (
                                record { within = lit< tt; meets = record { life = _; running = refl; can = (omega arith, refl) } },
                                (
                                  record { within = lit< tt; meets = record { life = _; running = refl; can = record { sent = inr (inr (inr (inr (inr (inr (inl refl)))))) } } },
                                  (
                                    record { within = lit< tt; meets = record { life = _; running = refl; can = record { sent = inr (inr (inr (inr (inr (inr (inr (inl refl))))))) } } },
                                    (
                                      record { within = lit< tt; meets = record { life = _; running = refl; can = record { working = refl; above = lit< tt; limit = lit≤ tt } } },
                                      (
                                        record { within = lit< tt; meets = record { life = _; running = refl; can = record { working = refl; in_view = refl; leads = refl; idle = refl; first_unknown = none-known _ refl refl } } },
                                        (
                                          record { within = lit< tt; meets = record { life = _; running = refl; can = (omega arith, (refl, refl, refl)) } },
                                          (
                                            record { within = lit< tt; meets = record { life = _; running = refl; can = record { sent = inr (inr (inr (inr (inr (inr (inr (inr (inl refl)))))))) } } },
                                            (
                                              record { within = lit< tt; meets = record { life = _; running = refl; can = record { working = refl; above = lit< tt; limit = lit≤ tt } } },
                                              (
                                                record { within = lit< tt; meets = record { life = _; running = refl; can = record { working = refl; in_view = refl; asked = (_, inl refl, refl, refl); low_from = lit≤ tt; low_known = λ i lt. absurd (omega arith); reported = reported1 } } },
                                                (
                                                  record { within = lit< tt; meets = record { life = _; running = refl; can = record { sent = inr (inr (inr (inr (inr (inr (inr (inr (inr (inl refl))))))))) } } },
                                                  (
                                                    record {
                                                      within = lit< tt;
                                                      meets = record {
                                                        life = _;
                                                        running = refl;
                                                        can = record {
                                                          in_view = refl;
                                                          first = 0;
                                                          preparing = refl;
                                                          quorum = lit≤ tt;
                                                          lows = λ p h lt e i less. let k = (only-promise1 p h e).0 in absurd (omega arith);
                                                          above_reports = λ p e lt i. entry1-low p e i;
                                                          above_known = λ i le known. absurd (⊎_elim (λ (lt : i < 0). omega arith) (λ h. let e = h.1 in cc) known);
                                                          above_voted = λ i vote le e. voted-low i vote e;
                                                          unknown = 0;
                                                          first_unknown = none-known _ refl refl;
                                                          at_least = lit≤ tt;
                                                        };
                                                      };
                                                    },
                                                    (
                                                      record { within = lit< tt; meets = record { life = _; running = refl; can = record { in_view = refl; lead = _; leads = refl; once = λ other i. i; may = inl (lit< tt, lit≤ tt, refl) } } },
                                                      (
                                                        record { within = lit< tt; meets = record { life = _; running = refl; can = record { working = refl; in_view = refl; asked = (_, inr (inl refl), refl, refl); at_least = λ e. lit≤ tt; next_is = refl } } },
                                                        (
                                                          record { within = lit< tt; meets = record { life = _; running = refl; can = record { working = refl; in_view = refl; asked = (_, inr (inl refl), refl, refl); at_least = λ e. lit≤ tt; next_is = refl } } },
                                                          (
                                                            record { within = lit< tt; meets = record { life = _; running = refl; can = record { sent = inr (inr (inr (inr (inr (inr (inr (inr (inr (inr (inl refl)))))))))) } } },
                                                            (
                                                              record { within = lit< tt; meets = record { life = _; running = refl; can = record { working = refl; in_view = refl; proposal = inr (_, inl refl, refl, refl) } } },
                                                              (
                                                                record { within = lit< tt; meets = record { life = _; running = refl; can = record { sent = inr (inr (inr (inr (inr (inr (inr (inr (inr (inr (inr (inr (inr (inr (inl refl)))))))))))))) } } },
                                                                (
                                                                  record {
                                                                    within = lit< tt;
                                                                    meets = record {
                                                                      life = _;
                                                                      running = refl;
                                                                      can = By_votes 1 (λ p. nat_lt p 2) (inl (inl refl)) (lit≤ tt)
                                                                          (λ p lt e. with-two (λ q. HasAccepted three (end_of three opening (take 32 adopts)) 1 learning1 1 0 q) (inr (inl (_, inl refl, refl, refl))) (inl refl) p e);
                                                                    };
                                                                  },
                                                                  (
                                                                    record { within = lit< tt; meets = record { life = _; running = refl; can = (omega arith, λ k b e. only-first learnt1.known refl k b e) } },
                                                                    (
                                                                      record { within = lit< tt; meets = record { life = _; running = refl; can = record { sent = inr (inr (inr (inr (inr (inr (inr (inr (inr (inr (inr (inr (inl refl)))))))))))) } } },
                                                                      (
                                                                        record { within = lit< tt; meets = record { life = _; running = refl; can = record { sent = inr (inr (inr (inr (inr (inr (inr (inr (inr (inr (inr (inr (inr (inl refl))))))))))))) } } },
                                                                        (
                                                                          record { within = lit< tt; meets = record { life = _; running = refl; can = record { sent = inr (inr (inr (inr (inr (inr (inr (inr (inr (inr (inr (inr (inr (inr (inr (inr (inl refl)))))))))))))))) } } },
                                                                          (
                                                                            record { within = lit< tt; meets = record { life = _; running = refl; can = By_catch_up 1 0 0 (b1 ∷ []) (_, inl refl, refl, refl) refl refl } },
                                                                            (
                                                                              record {
                                                                                within = lit< tt;
                                                                                meets = record {
                                                                                  life = _;
                                                                                  running = refl;
                                                                                  can = record {
                                                                                    recovering = refl;
                                                                                    quorum = lit≤ tt;
                                                                                    highest = λ p h lt e. view-one p h e;
                                                                                    leader_answer = _;
                                                                                    leader_counted = refl;
                                                                                    leader_view = refl;
                                                                                    next = 1;
                                                                                    leader_next = refl;
                                                                                    known = below-one (λ i. IsKnown returned_ready i) (inr (b1, refl));
                                                                                  };
                                                                                };
                                                                              },
                                                                              tt,
                                                                            ),
                                                                          ),
                                                                        ),
                                                                      ),
                                                                    ),
                                                                  ),
                                                                ),
                                                              ),
                                                            ),
                                                          ),
                                                        ),
                                                      ),
                                                    ),
                                                  ),
                                                ),
                                              ),
                                            ),
                                          ),
                                        ),
                                      ),
                                    ),
                                  ),
                                ),
                              ),
                            ),
                          ),
                        ),
                      ),
                    ),
                  ),
                ),
              ),
            ),
          ),
        ),
      ),
    ),
  ),
)

-- replica q voted in view v
abbrev Voted : ℕ → ℕ → Type 0
Voted v q = (number : ℕ) × In (record { life = record { replica = q; number = number }; view = v; instance = 0; batch = b1 }) (end_of three opening adopts).votes

-- the run
pub some_run_adopts : SomeRunAdopts
some_run_adopts =
    record {
      setup = three;
      steps = adopts;
      allowed = adopts-runs;
      three = refl;
      views = refl;
      batch = b1;
      some = λ e. cc;
      chosen = record { members = λ p. nat_lt p 2; quorum = lit≤ tt; voted = λ p lt e. with-two (λ q. Voted 0 q) (1, inl refl) (1, inr (inl refl)) p e };
      again = record { members = λ p. nat_lt p 2; quorum = lit≤ tt; voted = λ p lt e. with-two (λ q. Voted 1 q) (1, inr (inr (inr (inl refl)))) (1, inr (inr (inl refl))) p e };
      life = life_after three 2 returned_ready (Rejoin 1);
      runs = refl;
      second = refl;
      works = refl;
      view = refl;
      known = refl;
    }

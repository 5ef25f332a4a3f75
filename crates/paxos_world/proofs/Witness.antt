-- A run in which a batch is chosen and learnt, and a replica crashes and rejoins: the conditions of the steps can be met.
use Rattle.std.proofs.Common.{◌≡◌, ℕ, zero, suc, ◌+◌, ◌≤◌, ◌<◌, true, List, [], ◌∷◌, take, slice_get, Option, Some, None, refl, sym, ap, subst, ◌∙◌, inl, inr, ⊎_elim, arith, lit≤, lit<, nat_lt}
use Rattle.jp_types.specs.declared.message.Message.{Message}
use Rattle.jp_types.specs.declared.command.Command.{Command}
use Rattle.jp_types.specs.declared.mode.Phase.TheVariants.{Recovering, Working}
use Rattle.jp_types.specs.declared.mode.Mode.TheVariants.{EpochSs}
use Rattle.jp_types.specs.Lists.{In}
use Rattle.paxos_world.specs.Setup.{Setup}
use Rattle.paxos_world.specs.Life.{LifeId, Taken, Life, IsKnown, IsFirstUnknown, new_life}
use Rattle.jp_types.specs.Instances.{Batch}
use Rattle.paxos_world.specs.World.{Move, First, Return, Crash, Act, Take, Open, Promise, Prepared, Launch, Vote, Learn, Answer, Rejoin, Say, opening, By_votes, By_catch_up, HasAccepted, life_after}
use Rattle.jp_types.specs.declared.message.PrepareOk.{PrepareOk}
use Rattle.jp_types.specs.declared.message.RecoveryAnswer.{RecoveryAnswer}
use Rattle.jp_types.specs.declared.message.Entry.{Entry}
use Rattle.std.proofs.lemmas.Bool.Decides.{nat_tests}
use Rattle.paxos_world.specs.Counting.{Held, counted_ok, counted_answer}
use Rattle.paxos_world.specs.Adoption.{counted_report}
use Rattle.paxos_world.specs.Laws.{SomeRunChooses}
use Rattle.paxos_world.proofs.Replies.{IsHeldOk, IsHeldAnswer, counted_ok-is, counted_answer-is}
use Rattle.paxos_world.proofs.Chosen.{entry-from}
use Rattle.paxos_world.specs.Trace.{IsChosenIn, IsRun, end_of}

-- three replicas
abbrev pub three : Setup
three = record { n = 3; mode = EpochSs; encode = λ s. [] }

-- the first life of a replica
abbrev pub one : ℕ → LifeId
one r = record { replica = r; number = 1 }

-- a batch of one request
abbrev pub b1 : Batch
b1 = record { client = 1; number = 1; command = Command.Get (1 ∷ []) } ∷ []

abbrev pub asked : Message
asked = Message.Prepare (record { view = 0; first = 0; mark = 1 })

abbrev pub promised : Message
promised = Message.PrepareOk (record { view = 0; mark = 1; vector = 0 ∷ 1 ∷ 0 ∷ 0 ∷ 0 ∷ 0 ∷ 0 ∷ 0 ∷ 0 ∷ []; low = 0; report = [] })

abbrev pub proposed : Message
proposed = Message.Propose (record { view = 0; instance = 0; batch = b1 })

abbrev pub accepted : Message
accepted = Message.Accept (record { view = 0; instance = 0 })

-- the second life of a replica
abbrev pub two : ℕ → LifeId
two r = record { replica = r; number = 2 }

abbrev pub recovery : Message
recovery = Message.Recovery (record { mark = 2 })

abbrev pub from_leader : Message
from_leader = Message.RecoveryAnswer (record { mark = 2; view = 0; vector = 1 ∷ 1 ∷ 2 ∷ 0 ∷ 0 ∷ 0 ∷ 0 ∷ 0 ∷ 0 ∷ []; next = Some 1 })

abbrev pub from_other : Message
from_other = Message.RecoveryAnswer (record { mark = 2; view = 0; vector = 0 ∷ 1 ∷ 2 ∷ 0 ∷ 0 ∷ 0 ∷ 0 ∷ 0 ∷ 0 ∷ []; next = None })

abbrev pub caught_up : Message
caught_up = Message.CatchUpReply (record { first = 0; batches = b1 ∷ [] })

-- replica 0 leads view 0, and has a batch chosen in instance 0 with replica 1; replica 2 crashes, and its second life rejoins
abbrev pub chooses : List Move
chooses =
    First 0 ∷ First 1 ∷ First 2 ∷ Act 0 (Open 0 0) ∷ Act 0 (Say 1 asked) ∷ Act 1 (Take (one 0) asked) ∷ Act 1 (Promise 0 0 1 0 [])
    ∷ Act 0 (Take (one 1) promised) ∷ Act 0 (Prepared 0 0) ∷ Act 0 (Launch 0 0 b1) ∷ Act 1 (Take (one 0) proposed) ∷ Act 1 (Vote 0 0 b1)
    ∷ Act 0 (Take (one 1) accepted) ∷ Act 0 (Learn 0 b1)
    ∷ Crash 2 ∷ Return 2 2 ∷ Act 2 (Say 0 recovery) ∷ Act 2 (Say 1 recovery) ∷ Act 0 (Take (two 2) recovery) ∷ Act 1 (Take (two 2) recovery)
    ∷ Act 0 (Answer 2 0 (Some 1) 2) ∷ Act 1 (Answer 2 0 None 2) ∷ Act 0 (Say 2 caught_up)
    ∷ Act 2 (Take (one 0) from_leader) ∷ Act 2 (Take (one 1) from_other) ∷ Act 2 (Take (one 0) caught_up) ∷ Act 2 (Learn 0 b1) ∷ Act 2 (Rejoin 0) ∷ []

pub none-known : (l : Life) → l.below ≡ 0 → l.known 0 ≡ None → IsFirstUnknown l 0
none-known l b k = record { below = λ i lt. absurd (omega arith); unknown = go }
  where
    go : ¬ IsKnown l 0
    go (inl lt) = omega arith
    go (inr h) = let e = h.1 in cc

-- what holds at 0 and at 1 holds below 2
pub with-two : (P : ℕ → Type 0) → P 0 → P 1 → (p : ℕ) → nat_lt p 2 ≡ true → P p
with-two P a b zero e = a
with-two P a b (suc zero) e = b
with-two P a b (suc (suc p)) e = absurd (grind (arith, nat_tests))

pub below-one : (P : ℕ → Type 0) → P 0 → (i : ℕ) → i < 1 → P i
below-one P a zero lt = a
below-one P a (suc i) lt = absurd (omega arith)

only-first : (f : ℕ → Option Batch) → f 0 ≡ Some b1 → (k : ℕ) (b : Batch) → slice_get {X = Batch} (b1 ∷ []) k ≡ Some b → f (0 + k) ≡ Some b
only-first f e zero b s = e ∙ s
only-first f e (suc k) b s = cc

-- the only PrepareOk that was taken has low 0 and an empty report
only-promise : (r : ℕ) (l : Life) (t : Taken) (p : ℕ) (h : Held PrepareOk) → l.taken ≡ t ∷ [] → t.message ≡ promised → counted_ok three r l p ≡ Some h → (h.body.low ≡ 0) × (h.body.report ≡ [])
only-promise r l t p h e f c =
    let k = (counted_ok-is three r l p h c).held in
    go k (subst (λ (ts : List Taken). In k.t ts) e k.in_taken)
  where
    go : (k : IsHeldOk l.mark l.view p l.taken h) → In k.t (t ∷ []) → (h.body.low ≡ 0) × (h.body.report ≡ [])
    go k (inl s) =
        let m : Message.PrepareOk h.body ≡ promised = sym k.message ∙ ap (λ (x : Taken). x.message) s ∙ f in
        let b : h.body ≡ record { view = 0; mark = 1; vector = 0 ∷ 1 ∷ 0 ∷ 0 ∷ 0 ∷ 0 ∷ 0 ∷ 0 ∷ 0 ∷ []; low = 0; report = [] } = cc in
        (ap (λ (x : PrepareOk). x.low) b, ap (λ (x : PrepareOk). x.report) b)
    go k (inr i) = absurd i

no-entry : (r : ℕ) (l : Life) (t : Taken) (p : ℕ) (e : Entry) → l.taken ≡ t ∷ [] → t.message ≡ promised → In e (counted_report three r l p) → ⊥
no-entry r l t p e s f i =
    let g = entry-from three r l p e i in
    let k = only-promise r l t p g.0 s f g.1 in
    subst (λ (es : List Entry). In e es) k.1 g.2

-- the answers that were taken are at view 0
view-zero : (r : ℕ) (l : Life) (t : Taken) (t2 : Taken) (t3 : Taken) (p : ℕ) (h : Held RecoveryAnswer) → l.taken ≡ t ∷ t2 ∷ t3 ∷ [] → t.message ≡ caught_up → t2.message ≡ from_other → t3.message ≡ from_leader
    → counted_answer three r l p ≡ Some h → h.body.view ≤ 0
view-zero r l t t2 t3 p h e f f2 f3 c =
    let k = (counted_answer-is three r l p h c).held in
    go k (subst (λ (ts : List Taken). In k.t ts) e k.in_taken)
  where
    go : (k : IsHeldAnswer l.mark p l.taken h) → In k.t (t ∷ t2 ∷ t3 ∷ []) → h.body.view ≤ 0
    go k (inl s) = let m : Message.RecoveryAnswer h.body ≡ caught_up = sym k.message ∙ ap (λ (x : Taken). x.message) s ∙ f in absurd cc
    go k (inr (inl s)) =
        let m : Message.RecoveryAnswer h.body ≡ from_other = sym k.message ∙ ap (λ (x : Taken). x.message) s ∙ f2 in
        let b : h.body ≡ record { mark = 2; view = 0; vector = 0 ∷ 1 ∷ 2 ∷ 0 ∷ 0 ∷ 0 ∷ 0 ∷ 0 ∷ 0 ∷ []; next = None } = cc in
        let v = ap (λ (x : RecoveryAnswer). x.view) b in omega arith
    go k (inr (inr (inl s))) =
        let m : Message.RecoveryAnswer h.body ≡ from_leader = sym k.message ∙ ap (λ (x : Taken). x.message) s ∙ f3 in
        let b : h.body ≡ record { mark = 2; view = 0; vector = 1 ∷ 1 ∷ 2 ∷ 0 ∷ 0 ∷ 0 ∷ 0 ∷ 0 ∷ 0 ∷ []; next = Some 1 } = cc in
        let v = ap (λ (x : RecoveryAnswer). x.view) b in omega arith
    go k (inr (inr (inr i))) = absurd i

-- the leader before its Prepared step, and the second life of replica 2 before its rejoin
abbrev leader_ready : Life
leader_ready = life_after three 0 (life_after three 0 (life_after three 0 (new_life 1 1 Working 0) (Open 0 0)) (Say 1 asked)) (Take (one 1) promised)

abbrev promise_taken : Taken
promise_taken = record { from = one 1; message = promised; phase = Working; preparing = Some 0 }

abbrev leader_learning : Life
leader_learning = life_after three 0 (life_after three 0 (life_after three 0 leader_ready (Prepared 0 0)) (Launch 0 0 b1)) (Take (one 1) accepted)

abbrev leader_answered : Life
leader_answered = life_after three 0 (life_after three 0 (life_after three 0 leader_learning (Learn 0 b1)) (Take (two 2) recovery)) (Answer 2 0 (Some 1) 2)

abbrev returned_ready : Life
returned_ready =
    life_after three 2 (life_after three 2 (life_after three 2 (life_after three 2 (life_after three 2 (life_after three 2 (new_life 2 2 Recovering 0) (Say 0 recovery)) (Say 1 recovery))
    (Take (one 0) from_leader)) (Take (one 1) from_other)) (Take (one 0) caught_up)) (Learn 0 b1)

abbrev answer_taken : ℕ → Message → Taken
answer_taken r m = record { from = one r; message = m; phase = Recovering; preparing = None }

chooses-runs : IsRun three opening chooses
chooses-runs = (
  record { within = lit< tt; meets = record { down = refl; fresh = refl } },
  (
    record { within = lit< tt; meets = record { down = refl; fresh = refl } },
    (
      record { within = lit< tt; meets = record { down = refl; fresh = refl } },
      (
        record { within = lit< tt; meets = record { life = _; running = refl; can = record { working = refl; in_view = refl; leads = refl; idle = refl; first_unknown = none-known _ refl refl } } },
        (
          record { within = lit< tt; meets = record { life = _; running = refl; can = (omega arith, (refl, refl, refl)) } },
          (
            record { within = lit< tt; meets = record { life = _; running = refl; can = record { sent = inl refl } } },
            (
              record {
                within = lit< tt;
                meets = record {
                  life = _;
                  running = refl;
                  can = record {
                    working = refl;
                    in_view = refl;
                    asked = (_, inl refl, refl, refl);
                    low_from = lit≤ tt;
                    low_known = λ i lt. absurd (omega arith);
                    reported = record { from = λ e i. absurd i; told = λ e i. absurd i; decided = λ i b x y e. absurd cc; voted = λ i v b x y e f. absurd cc; ascending = tt };
                  };
                };
              },
              (
                record { within = lit< tt; meets = record { life = _; running = refl; can = record { sent = inr (inl refl) } } },
                (
                  record {
                    within = lit< tt;
                    meets = record {
                      life = _;
                      running = refl;
                      can = record {
                        in_view = refl;
                        first = 0;
                        preparing = refl;
                        quorum = lit≤ tt;
                        lows = λ p h lt e i less. let k = (only-promise 0 leader_ready promise_taken p h refl refl e).0 in absurd (omega arith);
                        above_reports = λ p e lt i. absurd (no-entry 0 leader_ready promise_taken p e refl refl i);
                        above_known = λ i le known. absurd (⊎_elim (λ (lt : i < 0). omega arith) (λ h. let e = h.1 in cc) known);
                        above_voted = λ i vote le e. absurd cc;
                        unknown = 0;
                        first_unknown = none-known _ refl refl;
                        at_least = lit≤ tt;
                      };
                    };
                  },
                  (
                    record { within = lit< tt; meets = record { life = _; running = refl; can = record { in_view = refl; lead = _; leads = refl; once = λ other i. i; may = inr (lit≤ tt, refl) } } },
                    (
                      record { within = lit< tt; meets = record { life = _; running = refl; can = record { sent = inr (inr (inl refl)) } } },
                      (
                        record { within = lit< tt; meets = record { life = _; running = refl; can = record { working = refl; in_view = refl; proposal = inr (_, inl refl, refl, refl) } } },
                        (
                          record { within = lit< tt; meets = record { life = _; running = refl; can = record { sent = inr (inr (inr (inr (inl refl)))) } } },
                          (
                            record {
                              within = lit< tt;
                              meets = record {
                                life = _;
                                running = refl;
                                can = By_votes 0 (λ p. nat_lt p 2) (inl (inl refl)) (lit≤ tt)
                                    (λ p lt e. with-two (λ q. HasAccepted three (end_of three opening (take 13 chooses)) 0 leader_learning 0 0 q) (inl refl) (inr (inl (_, inl refl, refl, refl))) p e);
                              };
                            },
                            (
                              record { within = lit< tt; meets = record { life = _; running = refl } },
                              (
                                record { within = lit< tt; meets = record { down = refl; number = 1; stable = refl; next = refl; limit = lit≤ tt } },
                                (
                                  record { within = lit< tt; meets = record { life = _; running = refl; can = (omega arith, refl) } },
                                  (
                                    record { within = lit< tt; meets = record { life = _; running = refl; can = (omega arith, refl) } },
                                    (
                                      record { within = lit< tt; meets = record { life = _; running = refl; can = record { sent = inr (inr (inr (inr (inr (inr (inl refl)))))) } } },
                                      (
                                        record { within = lit< tt; meets = record { life = _; running = refl; can = record { sent = inr (inr (inr (inr (inr (inr (inr (inl refl))))))) } } },
                                        (
                                          record { within = lit< tt; meets = record { life = _; running = refl; can = record { working = refl; in_view = refl; asked = (_, inl refl, refl, refl); at_least = λ e. absurd cc; next_is = refl } } },
                                          (
                                            record { within = lit< tt; meets = record { life = _; running = refl; can = record { working = refl; in_view = refl; asked = (_, inl refl, refl, refl); at_least = λ e. absurd cc; next_is = refl } } },
                                            (
                                              record { within = lit< tt; meets = record { life = _; running = refl; can = (omega arith, λ k b e. only-first leader_answered.known refl k b e) } },
                                              (
                                                record { within = lit< tt; meets = record { life = _; running = refl; can = record { sent = inr (inr (inr (inr (inr (inr (inr (inr (inl refl)))))))) } } },
                                                (
                                                  record { within = lit< tt; meets = record { life = _; running = refl; can = record { sent = inr (inr (inr (inr (inr (inr (inr (inr (inr (inl refl))))))))) } } },
                                                  (
                                                    record { within = lit< tt; meets = record { life = _; running = refl; can = record { sent = inr (inr (inr (inr (inr (inr (inr (inr (inr (inr (inl refl)))))))))) } } },
                                                    (
                                                      record { within = lit< tt; meets = record { life = _; running = refl; can = By_catch_up 0 0 0 (b1 ∷ []) (_, inl refl, refl, refl) refl refl } },
                                                      (
                                                        record {
                                                          within = lit< tt;
                                                          meets = record {
                                                            life = _;
                                                            running = refl;
                                                            can = record {
                                                              recovering = refl;
                                                              quorum = lit≤ tt;
                                                              highest = λ p h lt e. view-zero 2 returned_ready (answer_taken 0 caught_up) (answer_taken 1 from_other) (answer_taken 0 from_leader) p h refl refl refl refl e;
                                                              leader_answer = _;
                                                              leader_counted = refl;
                                                              leader_view = refl;
                                                              next = 1;
                                                              leader_next = refl;
                                                              known = below-one (λ i. IsKnown returned_ready i) (inr (b1, refl));
                                                            };
                                                          };
                                                        },
                                                        tt,
                                                      ),
                                                    ),
                                                  ),
                                                ),
                                              ),
                                            ),
                                          ),
                                        ),
                                      ),
                                    ),
                                  ),
                                ),
                              ),
                            ),
                          ),
                        ),
                      ),
                    ),
                  ),
                ),
              ),
            ),
          ),
        ),
      ),
    ),
  ),
)

-- the batch is chosen
chooses-chosen : IsChosenIn 3 (end_of three opening chooses) 0 0 b1
chooses-chosen = record { members = λ p. nat_lt p 2; quorum = lit≤ tt; voted = λ p lt e. with-two (λ q. (number : ℕ) × In (record { life = record { replica = q; number = number }; view = 0; instance = 0; batch = b1 }) (end_of three opening chooses).votes) (1, inl refl) (1, inr (inl refl)) p e }

-- the second life of replica 2 works, and knows it
chooses-known : (l : Life) × (((end_of three opening chooses).replicas 2).running ≡ Some l) × (l.number ≡ 2) × (l.phase ≡ Working) × (l.known 0 ≡ Some b1)
chooses-known = (_, refl, refl, refl, refl)

-- so some run meets the conditions of the steps
pub some_run_chooses : SomeRunChooses
some_run_chooses =
    record {
      setup = three;
      steps = chooses;
      allowed = chooses-runs;
      three = refl;
      epochs = refl;
      batch = b1;
      some = λ e. absurd cc;
      chosen = chooses-chosen;
      life = chooses-known.0;
      runs = chooses-known.1;
      second = chooses-known.2;
      works = chooses-known.3;
      known = chooses-known.4;
    }

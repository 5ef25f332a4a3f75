-- The replies that a life counts are crash-consistent.
use Rattle.std.proofs.Common.{◌≡◌, ℕ, ◌≤◌, not, ◌&&◌, ◌==◌, List, Option, Some, None, refl, sym, ap, subst, arith, le_trans}
use Rattle.std.specs.Option.{option_map}
use Rattle.jp_types.specs.declared.message.PrepareOk.{PrepareOk}
use Rattle.jp_types.specs.declared.message.RecoveryAnswer.{RecoveryAnswer}
use Rattle.jp_types.specs.declared.mode.Mode.{Mode}
use Rattle.jp_types.specs.declared.mode.Mode.TheVariants.{ViewSs, EpochSs}
use Rattle.paxos_world.specs.Setup.{Setup}
use Rattle.paxos_world.specs.Life.{Life}
use Rattle.paxos_world.specs.World.{Sent, Answer, life_after}
use Rattle.paxos_world.specs.Trace.{Trace, Runs}
use Rattle.paxos_world.specs.Counting.{Held, entry_in, held_ok, held_answer, counted_ok, counted_answer, has_epoch_ok, has_epoch_answer, ok_vectors, answer_vectors, CoversOks, CoversAnswers}
use Rattle.jp_types.specs.Vectors.{entry, table, IsCrashConsistent}
use Rattle.paxos_world.specs.Laws.{CountedAreConsistent}
use Rattle.paxos_world.proofs.Replies.{if-option, IsHeldOk, IsHeldAnswer, held_ok-is, held_answer-is, counted_ok-is, counted_answer-is, entry-held_ok, entry-held_answer, entry-table-le}
use Rattle.paxos_world.proofs.Sound.{some-is}
use Rattle.paxos_world.proofs.Runs.{life_sound-at}
use Rattle.paxos_world.proofs.Origins.{answer-from, promise-from}

mapped : {X Y : Type 0} (g : X → Y) (o : Option X) (y : Y) → option_map g o ≡ Some y → (x : X) × (o ≡ Some x) × (g x ≡ y)
mapped g None y e = absurd cc
mapped g (Some x) y e = (x, refl, some-is (g x) y e)

-- where the own entries are at least those of each held PrepareOk, the counted ones are crash-consistent
pub oks_consistent : (c : Setup) (r : ℕ) (l : Life) → CoversOks c r l → IsCrashConsistent (ok_vectors c r l)
oks_consistent c r l covers p q own other e f =
    let a = mapped (λ (h : Held PrepareOk). h.body.vector) (counted_ok c r l p) own e in
    let b = mapped (λ (h : Held PrepareOk). h.body.vector) (counted_ok c r l q) other f in
    let epoch = (counted_ok-is c r l p a.0 a.1).epoch in
    let held = held_ok l.mark l.view q l.taken in
    let low = covers p q b.0 (if-option (has_epoch_ok q (entry_in c.mode r l q) held) held b.0 b.1).1 in
    let x : entry a.0.body.vector p ≡ entry own p = ap (λ v. entry v p) a.2 in
    let y : entry b.0.body.vector p ≡ entry other p = ap (λ v. entry v p) b.2 in
    omega arith

-- where the own entries are at least those of each held RecoveryAnswer, the counted ones are crash-consistent
pub answers_consistent : (c : Setup) (r : ℕ) (l : Life) → CoversAnswers c r l → IsCrashConsistent (answer_vectors c r l)
answers_consistent c r l covers p q own other e f =
    let a = mapped (λ (h : Held RecoveryAnswer). h.body.vector) (counted_answer c r l p) own e in
    let b = mapped (λ (h : Held RecoveryAnswer). h.body.vector) (counted_answer c r l q) other f in
    let epoch = (counted_answer-is c r l p a.0 a.1).epoch in
    let held = held_answer l.mark q l.taken in
    let low = covers p q b.0 (if-option (not (q == r) && has_epoch_answer q (entry_in c.mode r l q) held) held b.0 b.1).1 in
    let x : entry a.0.body.vector p ≡ entry own p = ap (λ v. entry v p) a.2 in
    let y : entry b.0.body.vector p ≡ entry other p = ap (λ v. entry v p) b.2 in
    omega arith

-- in ViewSS each entry of a vector that was sent is 0
zero-table : (mode : Mode) (r : ℕ) (l : Life) (p k : ℕ) → mode ≡ ViewSs → entry (table (entry_in mode r l)) p ≤ k
zero-table ViewSs r l p k e = le_trans (entry-table-le (entry_in ViewSs r l) p) (omega arith)
zero-table EpochSs r l p k e = absurd cc

module _ (run : Trace) (t r : ℕ) (l : Life) (runs : Runs run t r l) where
  -- in a run the own entries are at least those of each held PrepareOk
  covers-oks : CoversOks run.setup r l
  covers-oks p q h e = go run.setup.mode refl
    where
      k : IsHeldOk l.mark l.view q l.taken h
      k = held_ok-is l.mark l.view q l.taken h e

      go : (mode : Mode) → run.setup.mode ≡ mode → entry h.body.vector p ≤ entry_in run.setup.mode r l p
      go EpochSs is = entry-held_ok run.setup.mode r l l.view p q h is k
      go ViewSs is =
          let x : Sent = record { from = k.t.from; to = r; message = k.t.message } in
          let a = promise-from run t x h.body ((life_sound-at run t r l runs).taken k.t k.in_taken) k.message in
          subst (λ (v : List ℕ). entry v p ≤ entry_in run.setup.mode r l p) (sym a.vector) (zero-table run.setup.mode x.from.replica a.life p (entry_in run.setup.mode r l p) is)

  -- in a run the own entries are at least those of each held RecoveryAnswer
  covers-answers : CoversAnswers run.setup r l
  covers-answers p q h e = go run.setup.mode refl
    where
      k : IsHeldAnswer l.mark q l.taken h
      k = held_answer-is l.mark q l.taken h e

      go : (mode : Mode) → run.setup.mode ≡ mode → entry h.body.vector p ≤ entry_in run.setup.mode r l p
      go EpochSs is = entry-held_answer run.setup.mode r l p q h is k
      go ViewSs is =
          let x : Sent = record { from = k.t.from; to = r; message = k.t.message } in
          let a = answer-from run t x h.body ((life_sound-at run t r l runs).taken k.t k.in_taken) k.message in
          subst (λ (v : List ℕ). entry v p ≤ entry_in run.setup.mode r l p) (sym a.vector) (zero-table run.setup.mode x.from.replica (life_after run.setup x.from.replica a.life (Answer r h.body.view h.body.next h.body.mark)) p (entry_in run.setup.mode r l p) is)

-- in every run the counted replies are crash-consistent
pub counted_are_consistent : (run : Trace) → CountedAreConsistent run
counted_are_consistent run t r l runs =
    (oks_consistent run.setup r l (covers-oks run t r l runs), answers_consistent run.setup r l (covers-answers run t r l runs))

-- A log that keeps what a stage has is read as the stage is, and still keeps it after both were changed alike.
use Rattle.std.proofs.Common.{◌≡◌, ℕ, zero, suc, ◌≤◌, Bool, true, false, cond, ◌||◌, List, [], ◌∷◌, filter, nat_le, nat_lt, ◌==◌, Option, Some, None, is_some, if◌then◌else◌, inl, inr, refl, sym, ap, subst, ◌∙◌, arith}
use Rattle.std.specs.Ordering.{nat_cmp}
use Rattle.std.specs.Cmp.{nat_cmp_total, unsigned_tied}
use Rattle.std.specs.FinMap as map
use Rattle.std.proofs.lemmas.Bool.Decides.{nat_tests, eqb_tells}
use Rattle.jp_types.specs.declared.message.Entry.{Entry}
use Rattle.jp_types.specs.Instances.{Batch, span, first_unknown_from, reply_limit, known_from}
use Rattle.jp_types.specs.Lists.{In}
use Rattle.paxos_world.specs.Setup.{with_at}
use Rattle.paxos_world.specs.Stage.{Note, Stage}
use Rattle.paxos_world.specs.Logs as logs
use Rattle.paxos_world.specs.Logs.{notes_on, tally, full_batch}
use Rattle.paxos_world.specs.CatchingUp.{replied_batches}
use Rattle.paxos_world.proofs.Basics.{lt_or_le}
use Rattle.replica_log.specs.Log.{Log, is_known, span_end, first_undecided, entries_from, report_from, is_full, batch_of, noted, with_vote, with_note, with_known, above}
use Rattle.jp_types.proofs.Retained.{get-above}
use Rattle.core_laws.specs.Keeping.{tally_of, AreOf, KeepsLog}
use Rattle.core_laws.specs.LogLaws.{LogsAreRead, LogsAreKept}
use Rattle.core_laws.proofs.Alike.{first-alike, known-alike}
use Rattle.core_laws.proofs.NoteLemmas.{full-of}

-- ---- Maps

get-put : {X : Type 0} (m : map.FinMap nat_cmp X) (k : ℕ) (v : X) (q : ℕ) → map.get (map.insert m k v) q ≡ cond (q == k) (Some v) (map.get m q)
get-put m k v q = map.get-insert nat_cmp_total m k v q ∙ ap (λ b. cond b (Some v) (map.get m q)) (unsigned_tied q k)

get-drop : {X : Type 0} (m : map.FinMap nat_cmp X) (k q : ℕ) → map.get (map.remove m k) q ≡ cond (q == k) None (map.get m q)
get-drop m k q = map.get-remove nat_cmp_total m k q ∙ ap (λ b. cond b None (map.get m q)) (unsigned_tied q k)

-- ---- Reading

span-end : (s : Stage) (log : Log) → KeepsLog s log → span_end log ≡ logs.span_end s
span-end s log h = let b = h.base in cc

known-at : (s : Stage) (log : Log) → KeepsLog s log → (i : ℕ) → is_known log i ≡ logs.is_known s i
known-at s log h i = elim (lt_or_le i s.base) [
  | inl lt ↦ (
      let b = h.base in
      let t : nat_lt i s.base ≡ true = grind (arith, nat_tests) in
      let u : nat_lt i log.base ≡ true = grind (arith, nat_tests) in
      below (nat_lt i log.base) (nat_lt i s.base) (map.contains_key log.known i) (is_some (s.life.known i)) u t)
  | inr ge ↦ (let b = h.base in let k = h.known i ge in cc)
]
  where
    below : (a b c d : Bool) → a ≡ true → b ≡ true → (a || c) ≡ (b || d)
    below a b c d e f = cc

undecided : (s : Stage) (log : Log) → KeepsLog s log → first_undecided log ≡ logs.first_undecided s
unfolding first_undecided logs.first_undecided
undecided s log h =
    ap (first_unknown_from span (map.get log.known)) h.base ∙ first-alike span (map.get log.known) s.life.known s.base h.known

entries-alike : (k : ℕ) (s : Stage) (log : Log) (i : ℕ) → KeepsLog s log → s.base ≤ i → entries_from k log i ≡ logs.entries_from k s.life i
unfolding entries_from
entries-alike zero s log i h le = refl
entries-alike (suc k) s log i h le =
    let known = h.known i le in
    let vote = h.votes i le in
    let rest = entries-alike k s log (suc i) h (omega arith) in
    cc

report : (s : Stage) (log : Log) (first : ℕ) → KeepsLog s log → report_from log first ≡ logs.report_from s first
unfolding report_from logs.report_from
report s log first h =
    ap (filter (λ (e : Entry). nat_le first e.instance)) (ap (entries_from span log) h.base ∙ entries-alike span s log s.base h (omega arith))

batches : (s : Stage) (log : Log) (first : ℕ) → KeepsLog s log → s.base ≤ first → known_from reply_limit (map.get log.known) first ≡ replied_batches s first
unfolding replied_batches
batches s log first h le = known-alike reply_limit (map.get log.known) s.life.known first (λ j a. h.known j (omega arith))

-- an instance that is not known lies above the base
pub unknown : (s : Stage) (i : ℕ) → logs.is_known s i ≡ false → (s.base ≤ i) × (s.life.known i ≡ None)
unknown s i e = elim (lt_or_le i s.base) [
  | inl lt ↦ (let t : nat_lt i s.base ≡ true = grind (arith, nat_tests) in absurd cc)
  | inr ge ↦ (ge, none (nat_lt i s.base) (s.life.known i) e)
]
  where
    none : (a : Bool) (o : Option Batch) → (a || is_some o) ≡ false → o ≡ None
    none a None f = refl
    none true (Some x) f = absurd cc
    none false (Some x) f = absurd cc

tallied : (s : Stage) (log : Log) → KeepsLog s log → s.config.n ≤ 9 → AreOf s.config.n s.noted → (i : ℕ) → logs.is_known s i ≡ false
    → (if is_full log.n (map.get log.tallies i) then batch_of (map.get log.tallies i) else None) ≡ logs.tallied s i
tallied s log h nine of i e =
    let above = unknown s i e in
    let t = h.tallies i above.0 above.1 in
    let n = h.n in
    let full = full-of s.config.n (notes_on i s.noted) nine (λ x m. of x (on i s.noted x m)) in
    let right : logs.tallied s i ≡ full_batch s.config.n (tally s i) = rw e refl in
    let left : (if is_full log.n (map.get log.tallies i) then batch_of (map.get log.tallies i) else None) ≡ (if is_full s.config.n (tally_of (notes_on i s.noted)) then batch_of (tally_of (notes_on i s.noted)) else None) = cc in
    left ∙ full ∙ sym right
  where
    on : (i : ℕ) (notes : List Note) (x : Note) → In x (notes_on i notes) → In x notes
    on i [] x m = absurd m
    on i (y ∷ notes) x m = go (y.instance == i) (on i notes x) m
      where
        go : (b : Bool) → (In x (notes_on i notes) → In x notes) → In x (if b then y ∷ notes_on i notes else notes_on i notes) → In x (y ∷ notes)
        go true rest (inl e) = inl e
        go true rest (inr m) = inr (rest m)
        go false rest m = inr (rest m)

pub logs_are_read : LogsAreRead
logs_are_read s log h =
    record {
      span_end = span-end s log h;
      in_span = λ i. let b = h.base in cc;
      known = known-at s log h;
      first_undecided = undecided s log h;
      report = λ first. report s log first h;
      batches = λ first. batches s log first h;
      tallied = tallied s log h;
    }

-- ---- Changing

pub keeps-note : (s : Stage) (log : Log) (i view p : ℕ) (batch : Option Batch) → KeepsLog s log → logs.is_in_span s i ≡ true → logs.is_known s i ≡ false
    → KeepsLog (logs.with_note (record { instance = i; view = view; replica = p; batch = batch }) s) (with_note log i view p batch)
keeps-note s log i view p batch h inside new =
    record { n = h.n; base = h.base; votes = h.votes; known = h.known; tallies = λ j le none. subst (λ (notes : List Note). map.get (with_note log i view p batch).tallies j ≡ tally_of (notes_on j notes)) (sym added) (at j le none) }
  where
    note : Note
    note = record { instance = i; view = view; replica = p; batch = batch }

    added : (logs.with_note note s).noted ≡ note ∷ s.noted
    added = rw (inside, new) refl

    at : (j : ℕ) → s.base ≤ j → s.life.known j ≡ None → map.get (with_note log i view p batch).tallies j ≡ tally_of (notes_on j (note ∷ s.noted))
    at j le none = elim (eqb_tells i j) [
      | inl e ↦ (
          let t = e.0 in
          let same = e.1 in
          let u : (j == i) ≡ true = grind (arith, nat_tests) in
          let old = h.tallies j le none in
          let now = get-put log.tallies i (noted (map.get log.tallies i) view p batch) j in
          let new : tally_of (notes_on j (note ∷ s.noted)) ≡ Some (noted (tally_of (notes_on j s.noted)) view p batch) = rw t refl in
          let moved : map.get log.tallies i ≡ map.get log.tallies j = ap (map.get log.tallies) same in
          let put : map.get (with_note log i view p batch).tallies j ≡ Some (noted (map.get log.tallies i) view p batch) = now ∙ rw u refl in
          put ∙ cc)
      | inr e ↦ (
          let t = e.0 in
          let other = e.1 in
          let u : (j == i) ≡ false = grind (arith, nat_tests) in
          let now = get-put log.tallies i (noted (map.get log.tallies i) view p batch) j in
          let new : tally_of (notes_on j (note ∷ s.noted)) ≡ tally_of (notes_on j s.noted) = rw t refl in
          now ∙ rw u (h.tallies j le none) ∙ sym new)
    ]

with-alike : {X : Type 0} (m : map.FinMap nat_cmp X) (f : ℕ → Option X) (i : ℕ) (x : X) (j : ℕ) → map.get m j ≡ f j → map.get (map.insert m i x) j ≡ with_at f i (Some x) j
with-alike {X} m f i x j h = get-put m i x j ∙ by (j == i) (map.get m j) (f j) h
  where
    by : (b : Bool) (o q : Option X) → o ≡ q → cond b (Some x) o ≡ (if b then Some x else q)
    by true o q e = refl
    by false o q e = e

pub keeps-vote : (s : Stage) (log : Log) (i view : ℕ) (batch : Batch) → KeepsLog s log
    → KeepsLog (record s { life = record s.life { votes = with_at s.life.votes i (Some (view, batch)) } }) (with_vote log i view batch)
keeps-vote s log i view batch h =
    record { n = h.n; base = h.base; votes = λ j le. with-alike log.votes s.life.votes i (view, batch) j (h.votes j le); known = h.known; tallies = h.tallies }

pub keeps-known : (s : Stage) (log : Log) (i : ℕ) (batch : Batch) → KeepsLog s log
    → KeepsLog (record s { life = record s.life { known = with_at s.life.known i (Some batch) } }) (with_known log i batch)
keeps-known s log i batch h =
    record { n = h.n; base = h.base; votes = h.votes; known = λ j le. with-alike log.known s.life.known i batch j (h.known j le); tallies = at }
  where
    at : (j : ℕ) → s.base ≤ j → with_at s.life.known i (Some batch) j ≡ None → map.get (map.remove log.tallies i) j ≡ tally_of (notes_on j s.noted)
    at j le none = get-drop log.tallies i j ∙ by (j == i) none
      where
        by : (b : Bool) → (if b then Some batch else s.life.known j) ≡ None → cond b None (map.get log.tallies j) ≡ tally_of (notes_on j s.noted)
        by true e = absurd cc
        by false e = h.tallies j le e

above-at : {X : Type 0} (m : map.FinMap nat_cmp X) (base j : ℕ) → base ≤ j → map.get (map.retain_keys m (nat_le base)) j ≡ map.get m j
above-at m base j le = let t : nat_le base j ≡ true = grind (arith, nat_tests) in get-above m base j ∙ rw t refl

keeps-cut : (s : Stage) (log : Log) (base : ℕ) → KeepsLog s log → s.base ≤ base → KeepsLog (record s { base = base }) (above log base)
keeps-cut s log base h le =
    record {
      n = h.n;
      base = refl;
      votes = λ j a. above-at log.votes base j a ∙ h.votes j (omega arith);
      known = λ j a. above-at log.known base j a ∙ h.known j (omega arith);
      tallies = λ j a none. above-at log.tallies base j a ∙ h.tallies j (omega arith) none;
    }

pub logs_are_kept : LogsAreKept
logs_are_kept = record { noted = keeps-note; voted = keeps-vote; learned = keeps-known; cut = keeps-cut }

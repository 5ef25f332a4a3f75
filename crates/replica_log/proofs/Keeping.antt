-- What holds of every log stays so.
use Rattle.std.proofs.Common.{◌≡◌, ℕ, suc, ◌+◌, ◌≤◌, ◌<◌, ◌⊎◌, min, Bool, true, false, cond, ◌&&◌, ◌||◌, Option, Some, None, is_some, if◌then◌else◌, nat_le, nat_lt, nat_cmp, refl, sym, ap, subst, ◌∙◌, inl, inr, arith, le_refl}
use Rattle.std.proofs.lemmas.Bool.Decides.{leb_tells}
use Rattle.std.specs.Ordering.{eq_by_cmp}
use Rattle.std.specs.Cmp.{nat_cmp_total}
use Rattle.std.specs.FinMap.{FinMap, get, insert, remove, retain_keys, get-empty, get-insert, get-remove}
use Rattle.jp_types.specs.Views.{number_limit}
use Rattle.jp_types.specs.Instances.{Batch, span}
use Rattle.jp_types.proofs.Retained.{get-above, tied}
use Rattle.replica_log.specs.declared.fault.LogFault.TheVariants.{BelowBase, PastSpan}
use Rattle.replica_log.specs.Log.{Log, new_log, span_end, is_in_span, is_known, span_fault, with_vote, with_note, with_known, noted, above, first_undecided}
use Rattle.replica_log.specs.Soundness.{IsInSpan, IsSound}
use Rattle.replica_log.proofs.Scanning.{Scans, scans, scan_is}

-- ---- Tests

pub le_of : (a b : ℕ) → nat_le a b ≡ true → a ≤ b
le_of a b e = elim (leb_tells a b) [ inl h ↦ h.1 | inr h ↦ (let f = h.0 in absurd cc) ]

pub lt_not_le : (a b : ℕ) → nat_le a b ≡ false → b < a
lt_not_le a b e = elim (leb_tells a b) [ inl h ↦ (let f = h.0 in absurd cc) | inr h ↦ h.1 ]

pub le_test : (a b : ℕ) → a ≤ b → nat_le a b ≡ true
le_test a b le = elim (leb_tells a b) [ inl h ↦ h.0 | inr h ↦ (let f = h.1 in absurd (omega arith)) ]

pub gt_test : (a b : ℕ) → b < a → nat_le a b ≡ false
gt_test a b lt = elim (leb_tells a b) [ inl h ↦ (let f = h.1 in absurd (omega arith)) | inr h ↦ h.0 ]

and_of : (a b : Bool) → (a && b) ≡ true → (a ≡ true) × (b ≡ true)
and_of true b e = (refl, e)
and_of false b e = absurd cc

or_not : (a b : Bool) → (a || b) ≡ false → (a ≡ false) × (b ≡ false)
or_not true b e = absurd cc
or_not false b e = (refl, e)

some_not : {X : Type 0} (o : Option X) → o ≡ None → is_some o ≡ false
some_not o e = ap is_some e

-- ---- The span

-- the bounds that a test of the span tells
pub in_span : (log : Log) (i : ℕ) → is_in_span log i ≡ true → (log.base ≤ i) × (i < span_end log)
in_span log i e = let h = and_of (nat_le log.base i) (nat_lt i (span_end log)) e in (le_of log.base i h.0, le_of (suc i) (span_end log) h.1)

pub past_span : (log : Log) (i : ℕ) → span_end log ≤ i → is_in_span log i ≡ false
past_span log i le = go (nat_le log.base i)
  where
    past : nat_lt i (span_end log) ≡ false
    past = gt_test (suc i) (span_end log) (omega arith)

    go : (b : Bool) → (b && nat_lt i (span_end log)) ≡ false
    go true = past
    go false = refl

span_end-span : (base : ℕ) → min (base + span) number_limit ≤ base + span
span_end-span base = omega arith

span_end-limit : (base : ℕ) → min (base + span) number_limit ≤ number_limit
span_end-limit base = omega arith

-- ---- What is not known

pub not_known : (log : Log) (i : ℕ) → is_known log i ≡ false → (log.base ≤ i) × (is_some (get log.known i) ≡ false)
not_known log i e =
    let h = or_not (nat_lt i log.base) (is_some (get log.known i)) e in
    let low = lt_not_le (suc i) log.base h.0 in
    (omega arith, h.1)

-- ---- Where a map has something

in_insert : {X : Type 0} (log : Log) (m : FinMap nat_cmp X) (k : ℕ) (v : X) → IsInSpan log (get m) → is_in_span log k ≡ true → IsInSpan log (get (insert m k v))
in_insert log m k v h inside i out = get-insert nat_cmp_total m k v i ∙ by (eq_by_cmp nat_cmp i k) refl
  where
    by : (b : Bool) → eq_by_cmp nat_cmp i k ≡ b → cond b (Some v) (get m i) ≡ None
    by true e = let yes : is_in_span log i ≡ true = subst (λ x. is_in_span log x ≡ true) (sym (tied i k e)) inside in absurd cc
    by false e = h i out

in_remove : {X : Type 0} (log : Log) (m : FinMap nat_cmp X) (k : ℕ) → IsInSpan log (get m) → IsInSpan log (get (remove m k))
in_remove log m k h i out = get-remove nat_cmp_total m k i ∙ by (eq_by_cmp nat_cmp i k)
  where
    by : (b : Bool) → cond b None (get m i) ≡ None
    by true = refl
    by false = h i out

in_above : {X : Type 0} (log new : Log) (m : FinMap nat_cmp X) → IsInSpan log (get m) → log.base ≤ new.base → IsInSpan new (get (retain_keys m (nat_le new.base)))
in_above log new m h low i out = get-above m new.base i ∙ by (nat_le new.base i) refl
  where
    past_of : (i : ℕ) → new.base ≤ i → is_in_span new i ≡ false → span_end new ≤ i
    past_of i at out = elim (leb_tells (suc i) (span_end new)) [
      | inl t ↦ (let yes : is_in_span new i ≡ true = rw (le_test new.base i at) t.0 in absurd cc)
      | inr t ↦ (let past = t.1 in omega arith)
    ]

    by : (b : Bool) → nat_le new.base i ≡ b → cond b (get m i) None ≡ None
    by true e =
        let at = le_of new.base i e in
        let past = past_of i at out in
        h i (past_span log i (omega arith))
    by false e = refl

-- ---- The first undecided instance

undecided_scans : (log : Log) → Scans span (get log.known) log.base (first_undecided log)
unfolding first_undecided
undecided_scans log = scans span (get log.known) log.base

undecided_is : (log : Log) (u : ℕ) → Scans span (get log.known) log.base u → u ≡ first_undecided log
unfolding first_undecided
undecided_is log u h = sym (scan_is span (get log.known) log.base u h)

-- what holds of the first undecided instance of a log
pub record IsFirst (log : Log) (u : ℕ) : Type 0 where
  pub low : log.base ≤ u
  pub high : u ≤ span_end log
  pub before : (i : ℕ) → log.base ≤ i → i < u → is_some (get log.known i) ≡ true
  pub stops : is_some (get log.known u) ≡ false

pub first_of : (log : Log) (u : ℕ) → IsSound log u → IsFirst log u
first_of log u s = record { low = h.low; high = high; before = h.before; stops = stops }
  where
    h : Scans span (get log.known) log.base u
    h = subst (Scans span (get log.known) log.base) (sym s.undecided) (undecided_scans log)

    limit : (u ≤ number_limit) ⊎ (number_limit < u)
    limit = grind arith

    most : u ≤ number_limit
    most = elim limit [
      | inl le ↦ le
      | inr gt ↦ (
          let yes = h.before number_limit s.base gt in
          let no = some_not _ (s.known number_limit (past_span log number_limit (span_end-limit log.base))) in
          absurd cc
          )
    ]

    high : u ≤ span_end log
    high = let a = h.high in let b = most in omega arith

    stops : is_some (get log.known u) ≡ false
    stops = elim (leb_tells (suc u) (log.base + span)) [
      | inl t ↦ h.stops t.1
      | inr t ↦ (let past = t.1 in let end = span_end-span log.base in some_not _ (s.known u (past_span log u (omega arith))))
    ]

is_first : (log : Log) (u : ℕ) → IsFirst log u → u ≡ first_undecided log
is_first log u h =
    let high = h.high in
    let end = span_end-span log.base in
    undecided_is log u (record { low = h.low; high = omega arith; before = h.before; stops = λ _. h.stops })

-- ---- What holds of each log

pub sound_new : (n : ℕ) → 3 ≤ n → n ≤ 9 → IsSound (new_log n) 0
sound_new n least most =
    record {
      least = least;
      most = most;
      base = omega arith;
      votes = λ i _. get-empty nat_cmp i;
      known = λ i _. get-empty nat_cmp i;
      tallies = λ i _. get-empty nat_cmp i;
      clear = λ i _. get-empty nat_cmp i;
      undecided = is_first (new_log n) 0 (record { low = omega arith; high = omega arith; before = λ i a b. absurd (omega arith); stops = some_not _ (get-empty nat_cmp 0) });
    }

pub sound_vote : (log : Log) (u i view : ℕ) (batch : Batch) → IsSound log u → is_in_span log i ≡ true → IsSound (with_vote log i view batch) u
sound_vote log u i view batch h inside =
    let first = first_of log u h in
    record {
      least = h.least;
      most = h.most;
      base = h.base;
      votes = in_insert log log.votes i (view, batch) h.votes inside;
      known = h.known;
      tallies = h.tallies;
      clear = h.clear;
      undecided = is_first (with_vote log i view batch) u (record { low = first.low; high = first.high; before = first.before; stops = first.stops });
    }

pub sound_note : (log : Log) (u i view from : ℕ) (batch : Option Batch) → IsSound log u → is_in_span log i ≡ true → is_known log i ≡ false → IsSound (with_note log i view from batch) u
sound_note log u i view from batch h inside new =
    let first = first_of log u h in
    let tally = noted (get log.tallies i) view from batch in
    record {
      least = h.least;
      most = h.most;
      base = h.base;
      votes = h.votes;
      known = h.known;
      tallies = in_insert log log.tallies i tally h.tallies inside;
      clear = λ j known. get-insert nat_cmp_total log.tallies i tally j ∙ clear j known (eq_by_cmp nat_cmp j i) refl;
      undecided = is_first (with_note log i view from batch) u (record { low = first.low; high = first.high; before = first.before; stops = first.stops });
    }
  where
    clear : (j : ℕ) → is_some (get log.known j) ≡ true → (b : Bool) → eq_by_cmp nat_cmp j i ≡ b → cond b (Some (noted (get log.tallies i) view from batch)) (get log.tallies j) ≡ None
    clear j known true e =
        let no = (not_known log i new).1 in
        let yes : is_some (get log.known i) ≡ true = subst (λ x. is_some (get log.known x) ≡ true) (tied j i e) known in
        absurd cc
    clear j known false e = h.clear j known

-- what a scan from an instance on tells
pub record IsScanned (known : FinMap nat_cmp Batch) (first end u : ℕ) : Type 0 where
  pub low : first ≤ u
  pub high : u ≤ end
  pub all : (i : ℕ) → first ≤ i → i < u → is_some (get known i) ≡ true
  pub unknown : u < end → is_some (get known u) ≡ false

-- the first undecided instance is found from an instance on up to which all is known
first_scanned : (log : Log) (first u : ℕ) → IsInSpan log (get log.known) → log.base ≤ first → ((i : ℕ) → log.base ≤ i → i < first → is_some (get log.known i) ≡ true) → IsScanned log.known first (span_end log) u → IsFirst log u
first_scanned log first u inside base known h =
    let low = h.low in
    record {
      low = omega arith;
      high = h.high;
      before = λ i a b. elim (leb_tells (suc i) first) [ inl t ↦ known i a t.1 | inr t ↦ (let from = t.1 in h.all i (omega arith) b) ];
      stops = elim (leb_tells (suc u) (span_end log)) [ inl t ↦ h.unknown t.1 | inr t ↦ (let past = t.1 in some_not _ (inside u (past_span log u (omega arith)))) ];
    }

some_insert : (m : FinMap nat_cmp Batch) (k : ℕ) (v : Batch) (i : ℕ) → is_some (get m i) ≡ true → is_some (get (insert m k v) i) ≡ true
some_insert m k v i e = ap is_some (get-insert nat_cmp_total m k v i) ∙ by (eq_by_cmp nat_cmp i k)
  where
    by : (b : Bool) → is_some (cond b (Some v) (get m i)) ≡ true
    by true = refl
    by false = e

pub sound_known : (log : Log) (u new i : ℕ) (batch : Batch) → IsSound log u → is_in_span log i ≡ true → IsScanned (insert log.known i batch) u (span_end log) new → IsSound (with_known log i batch) new
sound_known log u new i batch h inside scanned =
    let first = first_of log u h in
    let known = in_insert log log.known i batch h.known inside in
    record {
      least = h.least;
      most = h.most;
      base = h.base;
      votes = h.votes;
      known = known;
      tallies = in_remove log log.tallies i h.tallies;
      clear = λ j has. get-remove nat_cmp_total log.tallies i j ∙ clear j (sym (ap is_some (get-insert nat_cmp_total log.known i batch j)) ∙ has) (eq_by_cmp nat_cmp j i) refl;
      undecided = is_first (with_known log i batch) new
          (first_scanned (with_known log i batch) u new known first.low (λ j a b. some_insert log.known i batch j (first.before j a b)) scanned);
    }
  where
    clear : (j : ℕ) → is_some (cond (eq_by_cmp nat_cmp j i) (Some batch) (get log.known j)) ≡ true → (b : Bool) → eq_by_cmp nat_cmp j i ≡ b → cond b None (get log.tallies j) ≡ None
    clear j has true e = refl
    clear j has false e = h.clear j (rw e at has)

clear_above : (log : Log) (base j : ℕ) → ((i : ℕ) → is_some (get log.known i) ≡ true → get log.tallies i ≡ None) → is_some (get (retain_keys log.known (nat_le base)) j) ≡ true → get (retain_keys log.tallies (nat_le base)) j ≡ None
clear_above log base j clear has = get-above log.tallies base j ∙ by (nat_le base j) (sym (ap is_some (get-above log.known base j)) ∙ has)
  where
    by : (b : Bool) → is_some (cond b (get log.known j) None) ≡ true → cond b (get log.tallies j) None ≡ None
    by true e = clear j e
    by false e = refl

-- a new base that is not above the first undecided instance leaves that one as it is
pub sound_cut : (log : Log) (u base : ℕ) → IsSound log u → log.base ≤ base → base ≤ u → IsSound (above log base) u
sound_cut log u base h low le =
    let first = first_of log u h in
    let high = first.high in
    record {
      least = h.least;
      most = h.most;
      base = omega arith;
      votes = in_above log (above log base) log.votes h.votes low;
      known = in_above log (above log base) log.known h.known low;
      tallies = in_above log (above log base) log.tallies h.tallies low;
      clear = λ j has. clear_above log base j h.clear has;
      undecided = is_first (above log base) u (record { low = le; high = omega arith; before = before; stops = stops });
    }
  where
    before : (j : ℕ) → base ≤ j → j < u → is_some (get (retain_keys log.known (nat_le base)) j) ≡ true
    before j a b = ap is_some (get-above log.known base j) ∙ rw (le_test base j a) ((first_of log u h).before j (omega arith) b)

    stops : is_some (get (retain_keys log.known (nat_le base)) u) ≡ false
    stops = ap is_some (get-above log.known base u) ∙ rw (le_test base u le) (first_of log u h).stops

-- above that one, the first undecided instance is found anew
pub sound_jump : (log : Log) (u new base : ℕ) → IsSound log u → u < base → base ≤ number_limit → IsScanned (retain_keys log.known (nat_le base)) base (min (base + span) number_limit) new → IsSound (above log base) new
sound_jump log u new base h beyond limit scanned =
    let low = (first_of log u h).low in
    let known = in_above log (above log base) log.known h.known (omega arith) in
    record {
      least = h.least;
      most = h.most;
      base = limit;
      votes = in_above log (above log base) log.votes h.votes (omega arith);
      known = known;
      tallies = in_above log (above log base) log.tallies h.tallies (omega arith);
      clear = λ j has. clear_above log base j h.clear has;
      undecided = is_first (above log base) new (first_scanned (above log base) base new known (le_refl base) (λ j a b. absurd (omega arith)) scanned);
    }

pub base_in_span : (base : ℕ) → base ≤ number_limit → base ≤ min (base + span) number_limit
base_in_span base le = omega arith

-- ---- What is told of the first undecided instance

pub first_is_unknown : (log : Log) (u : ℕ) → IsFirst log u → is_known log u ≡ false
first_is_unknown log u h = let low = h.low in rw (gt_test (suc u) log.base (omega arith), h.stops) refl

pub known_below_first : (log : Log) (u i : ℕ) → IsFirst log u → i < u → is_known log i ≡ true
known_below_first log u i h lt = by (nat_lt i log.base) refl
  where
    by : (b : Bool) → nat_lt i log.base ≡ b → (b || is_some (get log.known i)) ≡ true
    by true e = refl
    by false e = let low = lt_not_le (suc i) log.base e in h.before i (omega arith) lt

-- an instance has no fault exactly where it is in span
pub no_fault : (log : Log) (i : ℕ) → span_fault log i ≡ None → is_in_span log i ≡ true
no_fault log i = by (nat_lt i log.base) refl (nat_lt i (span_end log)) refl
  where
    by : (b : Bool) → nat_lt i log.base ≡ b → (c : Bool) → nat_lt i (span_end log) ≡ c → (if b then Some (BelowBase log.base) else (if c then None else Some (PastSpan (span_end log)))) ≡ None → is_in_span log i ≡ true
    by true e c f g = absurd cc
    by false e false f g = absurd cc
    by false e true f g = let low = lt_not_le (suc i) log.base e in rw (le_test log.base i (omega arith), f) refl

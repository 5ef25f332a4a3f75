-- What a stage reads of its log: the first undecided instance, the report, and what lies above.
use Rattle.std.proofs.Common.{◌≡◌, ℕ, zero, suc, ◌+◌, ◌≤◌, ◌<◌, ◌⊎◌, Bool, true, false, ◌&&◌, ◌||◌, List, [], ◌∷◌, ◌++◌, filter, nat_le, nat_lt, Option, Some, None, is_some, if◌then◌else◌, refl, sym, ap, subst, inl, inr, ⊎_elim, arith, le_refl}
use Rattle.std.proofs.lemmas.Bool.Decides.{leb_tells}
use Rattle.jp_types.specs.declared.message.Entry.{Entry}
use Rattle.jp_types.specs.Lists.{In}
use Rattle.paxos_world.specs.Setup.{Setup}
use Rattle.paxos_world.specs.Life.{Life, IsKnown, IsFirstUnknown}
use Rattle.jp_types.specs.Instances.{Batch}
use Rattle.paxos_world.specs.Adoption.{IsTold, IsAscending, IsReport}
use Rattle.jp_types.specs.Reports.{decided_entry, voted_entry}
use Rattle.paxos_world.specs.World.{World}
use Rattle.paxos_world.specs.Stage.{Stage}
use Rattle.paxos_world.specs.Logs.{span_end, is_in_span, is_known, first_undecided, entries_from, report_from}
use Rattle.jp_types.specs.Instances.{span, first_unknown_from}
use Rattle.jp_types.specs.Reports.{entry_by, report_end}
use Rattle.paxos_world.specs.Settling.{own_end}
use Rattle.paxos_world.proofs.Basics.{lt_or_le, In-append, In-left, In-right}
use Rattle.turn_laws.proofs.Fitting.{Fits}

-- ---- Tests

pub le-of : (a b : ℕ) → nat_le a b ≡ true → a ≤ b
le-of a b e = elim (leb_tells a b) [ inl h ↦ h.1 | inr h ↦ (let f = h.0 in absurd cc) ]

pub not-le-of : (a b : ℕ) → nat_le a b ≡ false → b < a
not-le-of a b e = elim (leb_tells a b) [ inl h ↦ (let f = h.0 in absurd cc) | inr h ↦ h.1 ]

pub lt-of : (a b : ℕ) → nat_lt a b ≡ true → a < b
lt-of a b e = let h = le-of (suc a) b e in omega arith

pub not-lt-of : (a b : ℕ) → nat_lt a b ≡ false → b ≤ a
not-lt-of a b e = let h = not-le-of (suc a) b e in omega arith

pub le-test : (a b : ℕ) → a ≤ b → nat_le a b ≡ true
le-test a b le = elim (leb_tells a b) [ inl h ↦ h.0 | inr h ↦ (let f = h.1 in absurd (omega arith)) ]

pub and-of : (a b : Bool) → (a && b) ≡ true → (a ≡ true) × (b ≡ true)
and-of true b e = (refl, e)
and-of false b e = cc

pub or-of : (a b : Bool) → (a || b) ≡ true → (a ≡ true) ⊎ (b ≡ true)
or-of true b e = inl refl
or-of false b e = inr e

pub or-not : (a b : Bool) → (a || b) ≡ false → (a ≡ false) × (b ≡ false)
or-not true b e = cc
or-not false b e = (refl, e)

pub some-of : {X : Type 0} (o : Option X) → is_some o ≡ true → (x : X) × (o ≡ Some x)
some-of None e = cc
some-of (Some x) e = (x, refl)

pub none-of : {X : Type 0} (o : Option X) → is_some o ≡ false → o ≡ None
none-of None e = refl
none-of (Some x) e = cc

-- ---- The first undecided instance

-- what a scan of k instances from i on finds
pub record Scans (k : ℕ) (known : ℕ → Option Batch) (i u : ℕ) : Type 0 where
  pub low : i ≤ u
  pub high : u ≤ i + k
  pub before : (j : ℕ) → i ≤ j → j < u → (batch : Batch) × (known j ≡ Some batch)
  pub stops : u < i + k → known u ≡ None

scan : (k : ℕ) (known : ℕ → Option Batch) (i : ℕ) → Scans k known i (first_unknown_from k known i)
scan zero known i = record { low = le_refl i; high = omega arith; before = λ j a b. absurd (omega arith); stops = λ a. absurd (omega arith) }
scan (suc k) known i = go (is_some (known i)) refl (scan k known (suc i))
  where
    go : (b : Bool) → is_some (known i) ≡ b → Scans k known (suc i) (first_unknown_from k known (suc i)) → Scans (suc k) known i (if b then first_unknown_from k known (suc i) else i)
    go true e h =
        let low = h.low in
        let high = h.high in
        let found = some-of (known i) e in
        record {
          low = omega arith;
          high = omega arith;
          before = λ j a b. elim (lt_or_le i j) [
            | inl lt ↦ h.before j (omega arith) b
            | inr ge ↦ (let f : i ≡ j = omega arith in (found.0, subst (λ x. known x ≡ Some found.0) f found.1))
          ];
          stops = λ a. h.stops (omega arith);
        }
    go false e h = record { low = le_refl i; high = omega arith; before = λ j a b. absurd (omega arith); stops = λ a. none-of (known i) e }

undecided-scans : (s : Stage) → Scans span s.life.known s.base (first_undecided s)
unfolding first_undecided
undecided-scans s = scan span s.life.known s.base

pub undecided-base : (s : Stage) → s.base ≤ first_undecided s
undecided-base s = (undecided-scans s).low

pub undecided-is : (c : Setup) (w : World) (r : ℕ) (clean : Bool) (s : Stage) → Fits c w r clean s → IsFirstUnknown s.life (first_undecided s)
undecided-is c w r clean s h = record { below = below; unknown = unknown }
  where
    u : ℕ
    u = first_undecided s

    scans : Scans span s.life.known s.base u
    scans = undecided-scans s

    below : (i : ℕ) → i < u → IsKnown s.life i
    below i lt = elim (lt_or_le i s.base) [ inl a ↦ h.base_known i a | inr a ↦ inr (scans.before i a lt) ]

    unknown : ¬ IsKnown s.life u
    unknown (inl a) = let b = h.below in let low = scans.low in absurd (omega arith)
    unknown (inr a) = let end = h.known_end u a.0 a.1 in let none = scans.stops end in let some = a.1 in absurd cc

-- an instance that is known lies below the first undecided one, or is known above it
pub known-split : (c : Setup) (w : World) (r : ℕ) (clean : Bool) (s : Stage) (i : ℕ) → Fits c w r clean s → IsKnown s.life i → (i < s.base) ⊎ ((batch : Batch) × (s.life.known i ≡ Some batch))
known-split c w r clean s i h (inl a) = let b = h.below in inl (omega arith)
known-split c w r clean s i h (inr a) = inr a

-- what is not known by the stage's test is not known
pub not-known : (s : Stage) (i : ℕ) → is_known s i ≡ false → (s.base ≤ i) × (s.life.known i ≡ None)
not-known s i e = let h = or-not (nat_lt i s.base) (is_some (s.life.known i)) e in (not-lt-of i s.base h.0, none-of (s.life.known i) h.1)

-- ---- The span

min-left : (a b : ℕ) → (if nat_le a b then a else b) ≤ a
min-left a b = go (nat_le a b) refl
  where
    go : (t : Bool) → nat_le a b ≡ t → (if t then a else b) ≤ a
    go true e = le_refl a
    go false e = let h = not-le-of a b e in omega arith

pub in-span : (s : Stage) (i : ℕ) → is_in_span s i ≡ true → (s.base ≤ i) × (i < s.base + span)
in-span s i e =
    let h = and-of (nat_le s.base i) (nat_lt i (span_end s)) e in
    let a = lt-of i (span_end s) h.1 in
    (le-of s.base i h.0, omega arith)

pub span_end-le : (s : Stage) → span_end s ≤ s.base + span
span_end-le s = omega arith

-- ---- The report

-- the entries of k instances from i on
pub record Entries (k : ℕ) (l : Life) (i : ℕ) (es : List Entry) : Type 0 where
  pub from : (e : Entry) → In e es → i ≤ e.instance
  pub told : (e : Entry) → In e es → IsTold l e.instance e.vote e.batch
  pub decided : (j : ℕ) (batch : Batch) → i ≤ j → j < i + k → l.known j ≡ Some batch → In (decided_entry j batch) es
  pub voted : (j view : ℕ) (batch : Batch) → i ≤ j → j < i + k → l.known j ≡ None → l.votes j ≡ Some (view, batch) → In (voted_entry j view batch) es
  pub ascending : IsAscending es

-- the entry of one instance
pub record OneEntry (i : ℕ) (known : Option Batch) (vote : Option (ℕ × Batch)) (es : List Entry) : Type 0 where
  pub at : (e : Entry) → In e es → e.instance ≡ i
  pub decided : (batch : Batch) → known ≡ Some batch → In (decided_entry i batch) es
  pub voted : (view : ℕ) (batch : Batch) → known ≡ None → vote ≡ Some (view, batch) → In (voted_entry i view batch) es
  pub told_by : (l : Life) → l.known i ≡ known → l.votes i ≡ vote → (e : Entry) → In e es → IsTold l e.instance e.vote e.batch
  pub in_front : (rest : List Entry) → ((e : Entry) → In e rest → i < e.instance) → IsAscending rest → IsAscending (es ++ rest)

one-entry : (i : ℕ) (known : Option Batch) (vote : Option (ℕ × Batch)) → OneEntry i known vote (entry_by i known vote)
one-entry i (Some batch) vote =
    record {
      at = λ e. ⊎_elim (λ f. ap (λ (x : Entry). x.instance) f) (λ n. absurd n);
      decided = λ b f. let g : b ≡ batch = cc in inl (ap (decided_entry i) g);
      voted = λ view b f. absurd cc;
      told_by = λ l k v e. ⊎_elim (λ f. subst (λ (x : Entry). IsTold l x.instance x.vote x.batch) (sym f) k) (λ n. absurd n);
      in_front = λ rest above up. (above, up);
    }
one-entry i None (Some vote) =
    record {
      at = λ e. ⊎_elim (λ f. ap (λ (x : Entry). x.instance) f) (λ n. absurd n);
      decided = λ b f. absurd cc;
      voted = λ view b f g. let k : (view, b) ≡ vote = cc in inl (ap (λ (x : ℕ × Batch). voted_entry i x.0 x.1) k);
      told_by = λ l k v e. ⊎_elim (λ f. subst (λ (x : Entry). IsTold l x.instance x.vote x.batch) (sym f) (k, v)) (λ n. absurd n);
      in_front = λ rest above up. (above, up);
    }
one-entry i None None =
    record {
      at = λ e n. absurd n;
      decided = λ b f. absurd cc;
      voted = λ view b f g. absurd cc;
      told_by = λ l k v e n. absurd n;
      in_front = λ rest above up. up;
    }

entries : (k : ℕ) (l : Life) (i : ℕ) → Entries k l i (entries_from k l i)
entries zero l i =
    record { from = λ e n. absurd n; told = λ e n. absurd n; decided = λ j b lo hi f. absurd (omega arith); voted = λ j v b lo hi f g. absurd (omega arith); ascending = tt }
entries (suc k) l i = go (one-entry i (l.known i) (l.votes i)) (entries k l (suc i))
  where
    first : List Entry
    first = entry_by i (l.known i) (l.votes i)

    rest : List Entry
    rest = entries_from k l (suc i)

    go : OneEntry i (l.known i) (l.votes i) first → Entries k l (suc i) rest → Entries (suc k) l i (first ++ rest)
    go a h =
        record {
          from = λ e n. ⊎_elim (λ m. let f = a.at e m in omega arith) (λ m. let f = h.from e m in omega arith) (In-append e first rest n);
          told = λ e n. ⊎_elim (λ m. a.told_by l refl refl e m) (λ m. h.told e m) (In-append e first rest n);
          decided = λ j b lo hi f. elim (lt_or_le i j) [
            | inl lt ↦ In-right (decided_entry j b) first rest (h.decided j b (omega arith) (omega arith) f)
            | inr ge ↦ (let g : j ≡ i = omega arith in In-left (decided_entry j b) first rest (subst (λ x. In (decided_entry x b) first) (sym g) (a.decided b (subst (λ x. l.known x ≡ Some b) g f))))
          ];
          voted = λ j v b lo hi f f'. elim (lt_or_le i j) [
            | inl lt ↦ In-right (voted_entry j v b) first rest (h.voted j v b (omega arith) (omega arith) f f')
            | inr ge ↦ (let g : j ≡ i = omega arith in In-left (voted_entry j v b) first rest (subst (λ x. In (voted_entry x v b) first) (sym g) (a.voted v b (subst (λ x. l.known x ≡ None) g f) (subst (λ x. l.votes x ≡ Some (v, b)) g f'))))
          ];
          ascending = a.in_front rest (λ e n. let f = h.from e n in omega arith) h.ascending;
        }

-- a filter keeps what passes
pub filter-in : {X : Type 0} (test : X → Bool) (xs : List X) (x : X) → In x (filter test xs) → In x xs × (test x ≡ true)
filter-in test [] x n = absurd n
filter-in {X} test (y ∷ ys) x n = go (test y) refl (λ m. filter-in test ys x m) n
  where
    go : (b : Bool) → test y ≡ b → (In x (filter test ys) → In x ys × (test x ≡ true)) → In x (if b then y ∷ filter test ys else filter test ys) → In x (y ∷ ys) × (test x ≡ true)
    go true e again (inl f) = (inl f, subst (λ (z : X). test z ≡ true) (sym f) e)
    go true e again (inr m) = let h = again m in (inr h.0, h.1)
    go false e again m = let h = again m in (inr h.0, h.1)

pub filter-keeps : {X : Type 0} (test : X → Bool) (xs : List X) (x : X) → In x xs → test x ≡ true → In x (filter test xs)
filter-keeps test [] x n e = absurd n
filter-keeps {X} test (y ∷ ys) x n e = go (test y) refl (λ m. filter-keeps test ys x m e) n
  where
    go : (b : Bool) → test y ≡ b → (In x ys → In x (filter test ys)) → In x (y ∷ ys) → In x (if b then y ∷ filter test ys else filter test ys)
    go true f again (inl g) = inl g
    go true f again (inr m) = inr (again m)
    go false f again (inl g) = absurd (let k : test x ≡ false = subst (λ (z : X). test z ≡ false) (sym g) f in cc)
    go false f again (inr m) = again m

filter-ascending : (test : Entry → Bool) (es : List Entry) → IsAscending es → IsAscending (filter test es)
filter-ascending test [] h = tt
filter-ascending test (e ∷ es) h = go (test e) (filter-ascending test es h.1)
  where
    go : (b : Bool) → IsAscending (filter test es) → IsAscending (if b then e ∷ filter test es else filter test es)
    go true up = (λ x n. h.0 x (filter-in test es x n).0, up)
    go false up = up

pub report-is : (c : Setup) (w : World) (r : ℕ) (clean : Bool) (s : Stage) (first : ℕ) → Fits c w r clean s → IsReport s.life first s.base (report_from s first)
unfolding report_from
report-is c w r clean s first h =
    let all = entries span s.life s.base in
    let test = λ (e : Entry). nat_le first e.instance in
    let list = entries_from span s.life s.base in
    record {
      from = λ e n. let k = filter-in test list e n in (le-of first e.instance k.1, all.from e k.0);
      told = λ e n. all.told e (filter-in test list e n).0;
      decided = λ i b lo low f. filter-keeps test list (decided_entry i b) (all.decided i b low (h.known_end i b f) f) (le-test first i lo);
      voted = λ i v b lo low f g. filter-keeps test list (voted_entry i v b) (all.voted i v b low (h.voted_end i (v, b) g) f g) (le-test first i lo);
      ascending = filter-ascending test list all.ascending;
    }

-- ---- Ends

pub report_end-above : (es : List Entry) (e : Entry) → In e es → e.instance < report_end es
report_end-above [] e n = absurd n
report_end-above (x ∷ xs) e (inl f) = let g = ap (λ (y : Entry). y.instance) f in omega arith
report_end-above (x ∷ xs) e (inr n) = let h = report_end-above xs e n in omega arith

pub own_end-above : (k : ℕ) (l : Life) (base first i : ℕ) → base ≤ i → i < base + k → first ≤ i → (is_some (l.votes i) || is_some (l.known i)) ≡ true → i < own_end k l base first
own_end-above zero l base first i lo hi from e = absurd (omega arith)
own_end-above (suc k) l base first i lo hi from e = go (nat_le first (base + k) && (is_some (l.votes (base + k)) || is_some (l.known (base + k)))) refl (λ lt. own_end-above k l base first i lo lt from e)
  where
    last : i ≡ base + k → (nat_le first (base + k) && (is_some (l.votes (base + k)) || is_some (l.known (base + k)))) ≡ true
    last f =
        let a : nat_le first (base + k) ≡ true = le-test first (base + k) (omega arith) in
        let b : (is_some (l.votes (base + k)) || is_some (l.known (base + k))) ≡ true = subst (λ x. (is_some (l.votes x) || is_some (l.known x)) ≡ true) f e in
        rw a b

    go : (b : Bool) → (nat_le first (base + k) && (is_some (l.votes (base + k)) || is_some (l.known (base + k)))) ≡ b → (i < base + k → i < own_end k l base first)
        → i < (if b then suc (base + k) else own_end k l base first)
    go true f again = omega arith
    go false f again = elim (lt_or_le i (base + k)) [ inl lt ↦ again lt | inr ge ↦ absurd (let g : i ≡ base + k = omega arith in let k = last g in cc) ]

-- Which parts of a snapshot are wanted, and what a joiner of them is.
use Rattle.std.proofs.Common.{◌≡◌, ℕ, ◌≤◌, ◌^◌, Bool, true, false, ◌&&◌, not, List, [], ◌∷◌, length, flat_map, length-append, ◌*◌, ◌==◌, inl, inr, Ordering, Less, Equal, Greater, nat_lt, Option, Some, None, if◌then◌else◌, refl, sym, ap, subst, ◌∙◌, arith}
use Rattle.std.specs.Ordering.{nat_cmp, match_ordering}
use Rattle.std.specs.BTreeMap.{insert_entry}
use Rattle.jp_types.specs.declared.message.SnapshotPart.{SnapshotPart}
use Rattle.kv_service.specs.Parts.{Joiner, part_size, part_count, with_part, is_joined, joined_bytes}
use Rattle.jp_types.specs.Lists.{In}
use Rattle.snapshots.specs.Joining.{empty_joiner}
use Rattle.std.proofs.lemmas.Bool.Decides.{nat_tests}
use Rattle.paxos_world.specs.Stage.{Stage}
use Rattle.paxos_world.specs.Logs as logs
use Rattle.paxos_world.specs.CatchingUp as catching
use Rattle.core_laws.proofs.LogLemmas.{logs_are_read}
use Rattle.protocol_core.specs.CatchingUp as catching_up
use Rattle.protocol_laws.specs.Keeping.{IsJoiner, Cores, life_in}

-- whether there is a joiner for a higher place is told as the model tells it
joining-alike : (o : Option Joiner) (upto : ℕ) → catching_up.is_joining_above o upto ≡ catching.is_joining_above o upto
joining-alike None upto = refl
joining-alike (Some j) upto = refl

-- a part is wanted where the model wants it
pub wanted-alike : (s : Stage) (c : Cores s) (upto : ℕ) → catching_up.is_wanted (life_in s c) upto ≡ (nat_lt (logs.first_undecided s) upto && not (catching.is_joining_above s.joiner upto))
wanted-alike s c upto =
    ap (λ (k : ℕ). nat_lt k upto && not (catching_up.is_joining_above s.joiner upto)) (logs_are_read s c.log c.kept).first_undecided
    ∙ ap (λ (b : Bool). nat_lt (logs.first_undecided s) upto && not b) (joining-alike s.joiner upto)

-- the joiner that a wanted part goes to is the model's, and is of the part's place
pub joiner-alike : (o : Option Joiner) (m : SnapshotPart) → catching.is_joining_above o m.upto ≡ false
    → (catching_up.joiner_for o m ≡ catching.joiner_for o m.upto m.total) × ((catching.joiner_for o m.upto m.total).upto ≡ m.upto)
joiner-alike None m e = (refl, refl)
joiner-alike (Some j) m e = by (nat_lt j.upto m.upto) (j.upto == m.upto) refl refl
  where
    by : (a b : Bool) → nat_lt j.upto m.upto ≡ a → (j.upto == m.upto) ≡ b
        → ((if b then j else empty_joiner m.upto m.total) ≡ (if a then empty_joiner m.upto m.total else j)) × ((if a then empty_joiner m.upto m.total else j).upto ≡ m.upto)
    by true true f g = absurd (grind (arith, nat_tests))
    by true false f g = (refl, refl)
    by false true f g = (refl, grind (arith, nat_tests))
    by false false f g = absurd (grind (arith, nat_tests))

-- it is within the limits
pub joiner-fits : (o : Option Joiner) (m : SnapshotPart) → ((j : Joiner) → o ≡ Some j → IsJoiner j) → m.total ≤ 2 ^ 28 → IsJoiner (catching.joiner_for o m.upto m.total)
joiner-fits None m h le = record { total = le; parts = λ part i. absurd i }
joiner-fits (Some j) m h le = by (nat_lt j.upto m.upto)
  where
    by : (b : Bool) → IsJoiner (if b then empty_joiner m.upto m.total else j)
    by true = record { total = le; parts = λ part i. absurd i }
    by false = h j refl

-- a part that is put in is no longer than a part's size, and the others are as they were
inserted-fits : (es : List (ℕ × List ℕ)) (k : ℕ) (v : List ℕ) → length v ≤ part_size → ((part : ℕ × List ℕ) → In part es → length part.1 ≤ part_size)
    → (part : ℕ × List ℕ) → In part (insert_entry nat_cmp es k v) → length part.1 ≤ part_size
inserted-fits [] k v le h part (inl e) = subst (λ (x : ℕ × List ℕ). length x.1 ≤ part_size) (sym e) le
inserted-fits [] k v le h part (inr i) = absurd i
inserted-fits (e ∷ es) k v le h part i = by (nat_cmp k e.0) i (inserted-fits es k v le (λ x j. h x (inr j)))
  where
    by : (r : Ordering) → In part (match_ordering r ((k, v) ∷ e ∷ es) ((e.0, v) ∷ es) (e ∷ insert_entry nat_cmp es k v))
        → ((x : ℕ × List ℕ) → In x (insert_entry nat_cmp es k v) → length x.1 ≤ part_size) → length part.1 ≤ part_size
    by Less (inl f) rest = subst (λ (x : ℕ × List ℕ). length x.1 ≤ part_size) (sym f) le
    by Less (inr j) rest = h part j
    by Equal (inl f) rest = subst (λ (x : ℕ × List ℕ). length x.1 ≤ part_size) (sym f) le
    by Equal (inr j) rest = h part (inr j)
    by Greater (inl f) rest = h part (inl f)
    by Greater (inr j) rest = rest part j

-- a joiner with one part more stays within the limits
pub with-fits : (j : Joiner) (m : SnapshotPart) → IsJoiner j → length m.bytes ≤ part_size → IsJoiner (with_part j m)
with-fits j m h le = record { total = h.total; parts = inserted-fits j.parts m.at m.bytes le h.parts }

-- so many parts have so many bytes at most
joined-length : (parts : List (ℕ × List ℕ)) → ((part : ℕ × List ℕ) → In part parts → length part.1 ≤ part_size) → length (flat_map (λ part. part.1) parts) ≤ part_size * length parts
joined-length [] h = omega arith
joined-length (part ∷ parts) h =
    let one = h part (inl refl) in
    let rest = joined-length parts (λ x i. h x (inr i)) in
    let sum = length-append part.1 (flat_map (λ (x : ℕ × List ℕ). x.1) parts) in
    omega arith

-- the bytes of a joiner that has all its parts are no more than a state may have
pub whole-fits : (j : Joiner) → IsJoiner j → is_joined j ≡ true → length (joined_bytes j) ≤ 2 ^ 28
whole-fits j h e =
    let total = h.total in
    let all : length j.parts ≡ part_count j.total = grind (arith, nat_tests) in
    let most = joined-length j.parts h.parts in
    omega arith

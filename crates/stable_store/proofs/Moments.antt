-- How a run of calls of a disk goes on.
use Rattle.std.proofs.Common.{inl, inr, ⊎_elim, ℕ, Bool, List, arith}
use Rattle.stable_store.specs.Disks.{Elapses, LeavesOnly}

module _ {D : Type 0} (moment : D → ℕ) (left_since : D → ℕ → List ℕ → Type 0) where
  -- before the first call
  pub started : (old : D) (P : List ℕ → Type 0) → ((image : List ℕ) → left_since old (moment old) image → P image) → LeavesOnly moment left_since old old P
  started old P here = record { later = omega arith; each = here; before = λ t image le left. inl left }

  -- one call more, after which a crash leaves what has P
  pub goes_on : (remembers : Bool) (old mid new : D) (P images : List ℕ → Type 0) → LeavesOnly moment left_since old mid P → Elapses remembers (moment mid) (moment new) (left_since mid) (left_since new) images
      → ((image : List ℕ) → images image → P image) → LeavesOnly moment left_since old new P
  goes_on remembers old mid new P images so_far time here = record {
    later = omega (arith, so_far.later, time.later);
    each = λ image left. ⊎_elim (so_far.each image) (here image) (time.nothing_else (moment old) image so_far.later left);
    before = λ t image le left. ⊎_elim (so_far.before t image le) (λ now. inr (here image now)) (time.nothing_else t image (omega (arith, le, so_far.later)) left);
  }

  -- two stretches of time make one
  pub follows : (old mid new : D) (P Q : List ℕ → Type 0) → LeavesOnly moment left_since old mid P → LeavesOnly moment left_since mid new Q
      → ((image : List ℕ) → Q image → P image) → LeavesOnly moment left_since old new P
  follows old mid new P Q first second within = record {
    later = omega (arith, first.later, second.later);
    each = λ image left. ⊎_elim (first.each image) (within image) (second.before (moment old) image first.later left);
    before = λ t image le left. ⊎_elim (first.before t image le) (λ has. inr (within image has)) (second.before t image (omega (arith, le, first.later)) left);
  }

  -- what has Q has P
  pub widened : (old new : D) (P Q : List ℕ → Type 0) → LeavesOnly moment left_since old new Q → ((image : List ℕ) → Q image → P image) → LeavesOnly moment left_since old new P
  widened old new P Q only within = record {
    later = only.later;
    each = λ image left. within image (only.each image left);
    before = λ t image le left. ⊎_elim (λ was. inl was) (λ has. inr (within image has)) (only.before t image le left);
  }

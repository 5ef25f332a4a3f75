-- Which replicas are counted, and how many.
use Rattle.std.proofs.Common.{◌≡◌, ◌<◌, ◌≤◌, ◌⊎◌, inl, inr, ℕ, zero, suc, Bool, false, ◌&&◌, List, [], ◌∷◌, length, length-set, Option, Some, None, nat_lt, max, refl, sym, ap, ◌∙◌, zero-add, arith}
use Rattle.std.proofs.lemmas.Bool.{cases_lt, cases_eq, lt-ltb, le-ltb}
use Rattle.std.proofs.lemmas.List.{get_or_past, get_or-set_same, get_or-set_other}
use Rattle.jp_types.specs.Views.{count_below}
use Rattle.jp_types.specs.Vectors.{entry, merged}
use Rattle.epoch_vectors.specs.Replies.{Covers, no_replies, reply_of, with_reply, has_epoch, is_counted}
use Rattle.epoch_vectors.proofs.Tables.{entry-table}

-- what two tests agree on is counted alike
pub count-same : (k : ℕ) (f g : ℕ → Bool) → ((p : ℕ) → f p ≡ g p) → count_below k f ≡ count_below k g
count-same zero f g same = refl
count-same (suc k) f g same = let here = same k in let below = count-same k f g same in cc

-- from n on there is nothing to count
past-step : (k n : ℕ) (f : ℕ → Bool) → ((p : ℕ) → n ≤ p → f p ≡ false) → (n ≤ k → count_below k f ≡ count_below n f)
    → (n ≤ suc k) → (k < n) ⊎ (n ≤ k) → count_below (suc k) f ≡ count_below n f
past-step k n f none rest le (inl lt) = let e : suc k ≡ n = omega arith in ap (λ m. count_below m f) e
past-step k n f none rest le (inr past) = rw (none k past, zero-add (count_below k f)) (rest past)

pub count-past : (k n : ℕ) (f : ℕ → Bool) → n ≤ k → ((p : ℕ) → n ≤ p → f p ≡ false) → count_below k f ≡ count_below n f
count-past zero n f le none = let e : 0 ≡ n = omega arith in ap (λ m. count_below m f) e
count-past (suc k) n f le none = past-step k n f none (λ past. count-past k n f past none) le (cases_lt k n)

-- the vector of a reply
abbrev vector_of : {A : Type 0} → Option (List ℕ × A) → List ℕ
vector_of None = []
vector_of (Some reply) = reply.0

module _ {A : Type 0} where
  -- no place is beyond the replies
  pub reply-past : (replies : List (Option (List ℕ × A))) (p : ℕ) → length replies ≤ p → reply_of replies p ≡ None
  reply-past replies p past = get_or_past replies p None past

  pub counted-past : (own : List ℕ) (replies : List (Option (List ℕ × A))) (p : ℕ) → length replies ≤ p → is_counted own replies p ≡ false
  counted-past own replies p past = ap (has_epoch p (entry own p)) (reply-past replies p past)

  -- all that are counted are among the places
  pub counted-all : (own : List ℕ) (replies : List (Option (List ℕ × A))) (p : ℕ)
      → (nat_lt p (length replies) && is_counted own replies p) ≡ is_counted own replies p
  counted-all own replies p = by (cases_lt p (length replies))
    where
      by : (p < length replies) ⊎ (length replies ≤ p) → (nat_lt p (length replies) && is_counted own replies p) ≡ is_counted own replies p
      by (inl lt) = ap (λ (b : Bool). b && is_counted own replies p) (lt-ltb p (length replies) lt)
      by (inr past) = ap (λ (b : Bool). b && is_counted own replies p) (le-ltb p (length replies) past) ∙ sym (counted-past own replies p past)

  -- where no place has a reply, none is held
  pub is_none : (replies : List (Option (List ℕ × A))) → ((p : ℕ) → p < length replies → reply_of replies p ≡ None) → replies ≡ no_replies (length replies)
  is_none [] none = refl
  is_none (reply ∷ replies) none =
      let first : reply ≡ None = none 0 (omega arith) in
      let rest = is_none replies (λ p h. none (suc p) (omega arith)) in
      cc

  -- what a vector covers, it covers when another is merged in
  pub covers-merged : (own : List ℕ) (replies : List (Option (List ℕ × A))) (vector : List ℕ) → Covers own replies → Covers (merged own vector) replies
  covers-merged own replies vector covers p q reply below at =
      rw (entry-table (λ p. max (entry own p) (entry vector p)) p below) (let old = covers p q reply below at in omega arith)

  -- a vector that is merged in is covered, and so is all that was
  pub covers-put : (own : List ℕ) (replies : List (Option (List ℕ × A))) (from : ℕ) (vector : List ℕ) (value : A)
      → Covers own replies → Covers (merged own vector) (with_reply replies from vector value)
  covers-put own replies from vector value covers p q reply below at =
      rw (entry-table (λ p. max (entry own p) (entry vector p)) p below) (by (cases_eq q from))
    where
      new : (e : q ≡ from) → (from < length replies) ⊎ (length replies ≤ from) → vector ≡ reply.0
      new e (inl lt) =
          let there = get_or-set_same replies from (Some (vector, value)) None lt in
          ap (λ (r : Option (List ℕ × A)). vector_of r) (sym there ∙ ap (reply_of (with_reply replies from vector value)) (sym e) ∙ at)
      new e (inr past) =
          let long = length-set replies from (Some (vector, value)) in
          let none = reply-past (with_reply replies from vector value) q (omega arith) in
          absurd (cc (none, at))

      by : (q ≡ from) ⊎ (q ≡ from → ⊥) → entry reply.0 p ≤ max (entry own p) (entry vector p)
      by (inl e) = let it = ap (λ v. entry v p) (new e (cases_lt from (length replies))) in omega arith
      by (inr other) =
          let old = covers p q reply below (sym (get_or-set_other replies from q (Some (vector, value)) None other) ∙ at) in
          omega arith

-- Held replies, and which of them are counted.
use Rattle.std.specs.Prelude.{◌≡◌, ℕ, ◌<◌, ◌≤◌, Bool, false, if◌then◌else◌, List, [], ◌∷◌, replicate, ◌==◌, Option, Some, None, slice_index_or, slice_set}
use Rattle.std.specs.Option.{option_map}
use denote.Ref.{Bor}
use Rattle.jp_types.specs.Vectors.{entry}

-- the held replies, each a vector and a value, with one place for each replica
abbrev pub Replies : Type 0 → Type 0
Replies A = List (Option (List ℕ × A))

-- no reply of any of n replicas
abbrev pub no_replies : {A : Type 0} → ℕ → List (Option (List ℕ × A))
no_replies n = replicate n None

-- the held reply of p
abbrev pub reply_of : {A : Type 0} → List (Option (List ℕ × A)) → ℕ → Option (List ℕ × A)
reply_of replies p = slice_index_or replies p None

-- the replies, where that of p is a new one
abbrev pub with_reply : {A : Type 0} → List (Option (List ℕ × A)) → ℕ → List ℕ → A → List (Option (List ℕ × A))
with_reply replies p vector value = slice_set replies p (Some (vector, value))

-- whether there is a reply of p, and its vector's entry for p is this epoch
abbrev pub has_epoch : {A : Type 0} → ℕ → ℕ → Option (List ℕ × A) → Bool
has_epoch p epoch None = false
has_epoch p epoch (Some reply) = entry reply.0 p == epoch

-- whether the held reply of p is counted: its vector's entry for p is the own one
abbrev pub is_counted : {A : Type 0} → List ℕ → List (Option (List ℕ × A)) → ℕ → Bool
is_counted own replies p = has_epoch p (entry own p) (reply_of replies p)

-- the set of the replicas whose replies are counted
abbrev pub counted_set : {A : Type 0} → List ℕ → List (Option (List ℕ × A)) → List Bool
counted_set own replies =
    let counted = is_counted own replies in
    counted 0 ∷ counted 1 ∷ counted 2 ∷ counted 3 ∷ counted 4 ∷ counted 5 ∷ counted 6 ∷ counted 7 ∷ counted 8 ∷ []

-- the vector of p's reply, where it is counted
abbrev pub counted_vectors : {A : Type 0} → List ℕ → List (Option (List ℕ × A)) → ℕ → Option (List ℕ)
counted_vectors own replies p = if is_counted own replies p then option_map (λ reply. reply.0) (reply_of replies p) else None

-- the own vector is at least that of each held reply, entry by entry
abbrev pub Covers : {A : Type 0} → List ℕ → List (Option (List ℕ × A)) → Type 0
Covers {A} own replies = (p q : ℕ) (reply : List ℕ × A) → p < 9 → reply_of replies q ≡ Some reply → entry reply.0 p ≤ entry own p

-- what two references point to
abbrev pub pair_of : {A B : Type 0} → Option (Bor A × Bor B) → Option (A × B)
pair_of None = None
pair_of (Some p) = Some (p.0.now, p.1.now)

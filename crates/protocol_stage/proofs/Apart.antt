-- Lists of what is armed, no two of which are in one slot: what is left of them, and what is added to them.
use Rattle.std.proofs.Common.{◌≡◌, ◌≢◌, ◌⊎◌, List, [], ◌∷◌, ◌++◌, inl, inr, refl, sym, subst}
use Rattle.jp_types.specs.Lists.{In}
use Rattle.retransmitter.specs.Armed.{Armed}
use Rattle.protocol_stage.specs.Arming.{AreApart}

-- of all that is armed, some is taken out and the rest is left
pub record Parts (all out rest : List Armed) : Type 0 where
  pub outs : (a : Armed) → In a out → In a all
  pub rests : (a : Armed) → In a rest → In a all
  pub out_apart : AreApart all → AreApart out
  pub rest_apart : AreApart all → AreApart rest
  pub across : AreApart all → (a b : Armed) → In a out → In b rest → a.slot ≢ b.slot

-- nothing is taken out
pub parts-none : (rest : List Armed) → Parts rest [] rest
parts-none rest = record { outs = λ a x. absurd x; rests = λ a x. x; out_apart = λ h. tt; rest_apart = λ h. h; across = λ h a b x y. absurd x }

-- one more is taken out
pub parts-out : (c : Armed) (all out rest : List Armed) → Parts all out rest → Parts (c ∷ all) (c ∷ out) rest
parts-out c all out rest p = record { outs = outs; rests = λ a x. inr (p.rests a x); out_apart = λ h. (λ b x. h.0 b (p.outs b x), p.out_apart h.1); rest_apart = λ h. p.rest_apart h.1; across = across }
  where
    outs : (a : Armed) → In a (c ∷ out) → In a (c ∷ all)
    outs a (inl e) = inl e
    outs a (inr x) = inr (p.outs a x)

    across : AreApart (c ∷ all) → (a b : Armed) → In a (c ∷ out) → In b rest → a.slot ≢ b.slot
    across h a b (inl e) y = subst (λ (z : Armed). z.slot ≢ b.slot) (sym e) (h.0 b (p.rests b y))
    across h a b (inr x) y = p.across h.1 a b x y

-- one more is left
pub parts-rest : (c : Armed) (all out rest : List Armed) → Parts all out rest → Parts (c ∷ all) out (c ∷ rest)
parts-rest c all out rest p = record { outs = λ a x. inr (p.outs a x); rests = rests; out_apart = λ h. p.out_apart h.1; rest_apart = λ h. (λ b x. h.0 b (p.rests b x), p.rest_apart h.1); across = across }
  where
    rests : (a : Armed) → In a (c ∷ rest) → In a (c ∷ all)
    rests a (inl e) = inl e
    rests a (inr x) = inr (p.rests a x)

    across : AreApart (c ∷ all) → (a b : Armed) → In a out → In b (c ∷ rest) → a.slot ≢ b.slot
    across h a b x (inl e) = subst (λ (z : Armed). a.slot ≢ z.slot) (sym e) (λ same. h.0 a (p.outs a x) (sym same))
    across h a b x (inr y) = p.across h.1 a b x y

-- all in front is left
pub parts-front : (front all out rest : List Armed) → Parts all out rest → Parts (front ++ all) out (front ++ rest)
parts-front [] all out rest p = p
parts-front (c ∷ front) all out rest p = parts-rest c (front ++ all) out (front ++ rest) (parts-front front all out rest p)

-- all in front is taken out
pub parts-here : (out rest : List Armed) → Parts (out ++ rest) out rest
parts-here [] rest = parts-none rest
parts-here (c ∷ out) rest = parts-out c (out ++ rest) out rest (parts-here out rest)

-- one is added to what is armed
pub record Joins (a : Armed) (old new : List Armed) : Type 0 where
  pub one_of : (b : Armed) → In b new → (b ≡ a) ⊎ In b old
  pub new_apart : AreApart old → ((b : Armed) → In b old → a.slot ≢ b.slot) → AreApart new

-- it is added in front
pub joins-here : (a : Armed) (old : List Armed) → Joins a old (a ∷ old)
joins-here a old = record { one_of = λ b x. x; new_apart = λ h other. (other, h) }

-- it is added behind another
joins-behind : (a c : Armed) (old new : List Armed) → Joins a old new → Joins a (c ∷ old) (c ∷ new)
joins-behind a c old new j = record { one_of = one_of; new_apart = λ h other. (apart-from h other, j.new_apart h.1 (λ b x. other b (inr x))) }
  where
    one_of : (b : Armed) → In b (c ∷ new) → (b ≡ a) ⊎ In b (c ∷ old)
    one_of b (inl e) = inr (inl e)
    one_of b (inr x) = elim (j.one_of b x) [
      | inl e ↦ inl e
      | inr y ↦ inr (inr y)
    ]

    apart-from : AreApart (c ∷ old) → ((b : Armed) → In b (c ∷ old) → a.slot ≢ b.slot) → (b : Armed) → In b new → c.slot ≢ b.slot
    apart-from h other b x same = elim (j.one_of b x) [
      | inl e ↦ other c (inl refl) (sym (subst (λ (z : Armed). c.slot ≡ z.slot) e same))
      | inr y ↦ h.0 b y same
    ]

-- it is added behind all these
pub joins-front : (a : Armed) (front old new : List Armed) → Joins a old new → Joins a (front ++ old) (front ++ new)
joins-front a [] old new j = j
joins-front a (c ∷ front) old new j = joins-behind a c (front ++ old) (front ++ new) (joins-front a front old new j)

-- Bytes that are appended in parts are appended as a whole.
use Rattle.std.proofs.Common.{◌≡◌, ℕ, ◌+◌, ◌<◌, List, [], ◌∷◌, ◌++◌, length, take, get_or, ◌∙◌, ap, sym, append_assoc}
use Rattle.std.proofs.lemmas.List.{take_more, flat_map_more}
use Rattle.std.specs.List.{flat_map}

pub two : (old a b : List ℕ) → old ++ a ++ b ≡ old ++ (a ++ b)
two old a b = append_assoc old a b

pub three : (old a b c : List ℕ) → old ++ a ++ b ++ c ≡ old ++ (a ++ b ++ c)
three old a b c = simp append_assoc

pub four : (old a b c d : List ℕ) → old ++ a ++ b ++ c ++ d ≡ old ++ (a ++ b ++ c ++ d)
four old a b c d = simp append_assoc

pub five : (old a b c d e : List ℕ) → old ++ a ++ b ++ c ++ d ++ e ≡ old ++ (a ++ b ++ c ++ d ++ e)
five old a b c d e = simp append_assoc

-- one more item is appended
pub one_more : {A : Type 0} (spelling : A → List ℕ) (old now new : List ℕ) (items : List A) (i : ℕ) (item : A) → i < length items → item ≡ get_or items i item → now ≡ old ++ flat_map spelling (take i items) → new ≡ now ++ spelling item
    → new ≡ old ++ flat_map spelling (take (i + 1) items)
one_more spelling old now new items i item lt is before step =
    step ∙ ap (λ (l : List ℕ). l ++ spelling item) before ∙ flat_map_more spelling old (take i items) item
    ∙ ap (λ (l : List _). old ++ flat_map spelling l) (sym (take_more items i item lt ∙ ap (λ x. take i items ++ x ∷ []) (sym is)))

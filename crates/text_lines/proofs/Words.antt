-- Words of a line, as the readers meet them.
use Rattle.std.proofs.Common.{◌≡◌, ℕ, Bool, true, false, not, List, map, Result, refl}
use Rattle.std.specs.Borrow.{Bor}
use Rattle.std.specs.List.{list_all}
use Rattle.std.proofs.lemmas.List.Folds.{list_all-map}
use Rattle.jp_types.specs.declared.cause.Cause.{Cause}
use Rattle.jp_types.specs.declared.cause.Cause.TheVariants.{Text}
use Rattle.jp_types.specs.Words.{◌>>=◌, where_so, is_empty, words_of}
use Rattle.text_lines.specs.Lines.{Raw, is_text_line, as_text, text_words}

-- what is read as text is read from its words
pub from_words : {A : Type 0} (raw : Raw) (f : List (List ℕ) → Result A Cause) → as_text raw f ≡ (text_words raw >>= f)
from_words raw f = by (is_text_line raw) where
  by : (b : Bool) → (where_so b raw.text Text >>= λ text. f (words_of text)) ≡ (where_so b (words_of raw.text) Text >>= f)
  by true = refl
  by false = refl

-- the words that references point to
pub spaced_words : (words : List (Bor (List ℕ))) → list_all (λ word. not (is_empty word)) (map (λ word. word.now) words) ≡ list_all (λ word. not (is_empty word.now)) words
spaced_words words = list_all-map (λ word. not (is_empty word)) (λ (word : Bor (List ℕ)). word.now) words

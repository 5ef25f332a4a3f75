-- The first line of an input and those behind it.
use Rattle.std.proofs.Common.{◌≡◌, ℕ, ◌+◌, ◌<◌, ◌≤◌, Bool, true, false, List, [], ◌∷◌, length, None, refl, sym, ap, ◌∙◌, arith, take_all, inl, inr, add-one, not}
use Rattle.std.specs.List.{All, position, position_or_len, before_first, slice_split}
use Rattle.std.proofs.lemmas.List.Splits.{slice_split_first, slice_split_none, length-slice_split}
use Rattle.std.proofs.lemmas.List.Sums.{fails_before_first, prefix_len-le-length}
use Rattle.std.proofs.lemmas.Bool.{cases_lt, lt-ltb, le-ltb}
use Rattle.std.proofs.lemmas.List.{drop_all}
use Rattle.std.proofs.lemmas.Grind.{common_steps}
use Rattle.std.specs.Prelude.{◌⊎◌}
use Rattle.text_lines.specs.Lines.{Raw, raw_lines, lines_of, is_feed, first_raw, behind_first}

-- a piece in front of others is a line that a line feed ends
raw_lines-more : (piece : List ℕ) (pieces : List (List ℕ)) → 0 < length pieces → raw_lines (piece ∷ pieces) ≡ record { text = piece; ended = true } ∷ raw_lines pieces
raw_lines-more piece [] h = absurd (omega arith)
raw_lines-more piece (next ∷ pieces) h = refl

-- the one piece of an input that is not empty is a line that no line feed ends
raw_lines-one : (piece : List ℕ) → 0 < length piece → raw_lines (piece ∷ []) ≡ record { text = piece; ended = false } ∷ []
raw_lines-one [] h = absurd (omega arith)
raw_lines-one (c ∷ cs) h = refl

-- where the first line feed would stand behind the end, there is none
none_passes : (input : List ℕ) → length input ≤ position_or_len is_feed input → All (λ c. is_feed c ≡ false) input
none_passes input h = λ k d lt. fails_before_first is_feed input k d (omega arith)

-- the lines of an input that is not empty
pub lines_first : (input : List ℕ) → 0 < length input → lines_of input ≡ first_raw input ∷ lines_of (behind_first input)
lines_first input h = by (cases_lt (position_or_len is_feed input) (length input)) where
  by : (position_or_len is_feed input < length input) ⊎ (length input ≤ position_or_len is_feed input) → lines_of input ≡ first_raw input ∷ lines_of (behind_first input)
  by (inl lt) =
      let ended_by : Bool → List Raw = λ b. record { text = before_first is_feed input; ended = b } ∷ lines_of (behind_first input) in
      let pieces = length-slice_split is_feed (behind_first input) in
      ap raw_lines (slice_split_first is_feed input 0 lt)
      ∙ raw_lines-more (before_first is_feed input) (slice_split is_feed (behind_first input)) (omega arith)
      ∙ ap ended_by (sym (lt-ltb (position_or_len is_feed input) (length input) lt))
  by (inr le) =
      let with_text : List ℕ → List Raw = λ text. record { text = text; ended = false } ∷ [] in
      let ended_by : Bool → List Raw = λ b. record { text = before_first is_feed input; ended = b } ∷ [] in
      let followed : List ℕ → List Raw = λ rest. first_raw input ∷ lines_of rest in
      ap raw_lines (slice_split_none is_feed input (none_passes input le))
      ∙ raw_lines-one input h
      ∙ ap with_text (sym (take_all (position_or_len is_feed input) input le))
      ∙ ap ended_by (sym (le-ltb (position_or_len is_feed input) (length input) le))
      ∙ ap followed (sym (drop_all (position_or_len is_feed input + 1) input (omega arith)))

-- and how many they are
pub lines_more : (input : List ℕ) → 0 < length input → length (lines_of input) ≡ length (lines_of (behind_first input)) + 1
lines_more input h = ap length (lines_first input h) ∙ sym (add-one (length (lines_of (behind_first input))))

-- where no line feed is found, the first one would stand at the end
pub not_found : (input : List ℕ) → position is_feed input ≡ None → length input ≡ position_or_len is_feed input
not_found input e =
    let most = prefix_len-le-length (λ c. not (is_feed c)) input in
    elim (cases_lt (position_or_len is_feed input) (length input)) [
      | inl lt ↦ let test = lt-ltb (position_or_len is_feed input) (length input) lt in absurd (grind (arith, common_steps))
      | inr le ↦ omega arith
    ]

-- Lines of a text that is read: their words, and which one is wrong.
use Rattle.std.specs.Prelude.{ℕ, Bool, true, false, ◌&&◌, not, List, [], ◌∷◌, length, nat_lt, ◌==◌, if◌then◌else◌, Result, Ok, Err, bytes_eq, codes}
use Rattle.std.specs.List.{list_all, slice_split, position_or_len, before_first, after_first}
use Rattle.std.specs.Int.{is_in_range}
use Rattle.jp_types.specs.declared.cause.Cause.{Cause}
use Rattle.jp_types.specs.declared.cause.Cause.TheVariants.{BadMode, Text}
use Rattle.jp_types.specs.declared.mode.Mode.{Mode}
use Rattle.jp_types.specs.declared.mode.Mode.TheVariants.{ViewSs, EpochSs}
use Rattle.jp_types.specs.Words.{◌>>=◌, where_so, is_empty, words_of}

-- a wrong line, counted from 1
pub record Bad : Type 0 where
  pub line : ℕ
  pub cause : Cause

-- ---- Lines and words

-- whether each byte is printable ASCII, and spaces stand only between two words, one at a time
abbrev pub is_text : List ℕ → Bool
is_text line = list_all (λ c. is_in_range 32 126 c) line && list_all (λ word. not (is_empty word)) (words_of line)

-- a line as it is found, and whether a line feed ends it
pub record Raw : Type 0 where
  pub text : List ℕ
  pub ended : Bool

-- the lines in the pieces between line feeds: the last piece has no line feed, and is no line where it is empty
abbrev pub raw_lines : List (List ℕ) → List Raw
raw_lines [] = []
raw_lines (piece ∷ []) = if is_empty piece then [] else record { text = piece; ended = false } ∷ []
raw_lines (piece ∷ next ∷ pieces) = record { text = piece; ended = true } ∷ raw_lines (next ∷ pieces)

-- the lines of an input
abbrev pub lines_of : List ℕ → List Raw
lines_of input = raw_lines (slice_split (λ c. c == 10) input)

-- whether a line is well formed as text
abbrev pub is_text_line : Raw → Bool
is_text_line raw = raw.ended && is_text raw.text

-- the words of a line that is well formed as text
abbrev pub text_words : Raw → Result (List (List ℕ)) Cause
text_words raw = where_so (is_text_line raw) (words_of raw.text) Text

-- whether a byte is a line feed
abbrev pub is_feed : ℕ → Bool
is_feed c = c == 10

-- the first line of an input that is not empty
abbrev pub first_raw : List ℕ → Raw
first_raw input = record { text = before_first is_feed input; ended = nat_lt (position_or_len is_feed input) (length input) }

-- what stands behind the first line
abbrev pub behind_first : List ℕ → List ℕ
behind_first input = after_first is_feed input

-- ---- Words and causes

-- the mode that a word names
abbrev pub mode : List ℕ → Result Mode Cause
mode word = if bytes_eq word (codes "viewss") then Ok ViewSs else (if bytes_eq word (codes "epochss") then Ok EpochSs else Err BadMode)

-- what a line is read as, where it is well formed as text
abbrev pub as_text : {A : Type 0} → Raw → (List (List ℕ) → Result A Cause) → Result A Cause
as_text raw f = where_so (is_text_line raw) raw.text Text >>= λ text. f (words_of text)

-- a cause at a line
abbrev pub at_line : {A : Type 0} → ℕ → Result A Cause → Result A Bad
at_line k (Ok x) = Ok x
at_line k (Err cause) = Err (record { line = k; cause = cause })

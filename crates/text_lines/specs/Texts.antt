-- How numbers, keys, values, and replies are written as text.
use Rattle.std.specs.Prelude.{ℕ, ◌/◌, ◌%◌, false, List, [], ◌∷◌, ◌++◌, flat_map, codes, decimal}
use Rattle.std.specs.Fmt.{digit_glyph}
use Rattle.jp_types.specs.declared.command.Reply.{Reply}

-- words, each with a space before it
abbrev pub spaced : List (List ℕ) → List ℕ
spaced words = flat_map (λ word. 32 ∷ word) words

-- numbers, each with a space before it
abbrev pub numbers : List ℕ → List ℕ
numbers ns = flat_map (λ n. 32 ∷ decimal n) ns

-- two lower-case digits a byte
abbrev pub hex : List ℕ → List ℕ
hex bytes = flat_map (λ b. digit_glyph false (b / 16) ∷ digit_glyph false (b % 16) ∷ []) bytes

-- a key or a value; an empty one is `-`
abbrev pub show_bytes : List ℕ → List ℕ
show_bytes [] = codes "-"
show_bytes (b ∷ bs) = hex (b ∷ bs)

-- a reply as text
abbrev pub show_reply : Reply → List ℕ
show_reply Reply.Done = codes "ok"
show_reply (Reply.Value value) = codes "value:" ++ show_bytes value
show_reply Reply.NoKey = codes "none"
show_reply Reply.NoRoom = codes "full"

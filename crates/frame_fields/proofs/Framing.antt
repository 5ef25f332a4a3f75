-- A frame whose length is filled in once its fields stand.
use Rattle.std.proofs.Common.{◌≡◌, ℕ, ◌+◌, ◌-◌, List, [], ◌∷◌, ◌++◌, length, take, drop, refl, sym, ap, ◌∙◌, arith, append_assoc, length-append}
use Rattle.std.proofs.lemmas.List.{take_at, drop_at}
use Rattle.std.specs.Int.{to_be_bytes, w32}
use Rattle.frame_fields.specs.Spelling.{frame_of, begun_frame, filled}

pub filled-frame : (before : List ℕ) (kind : ℕ) (fields bytes : List ℕ) → bytes ≡ before ++ begun_frame kind ++ fields → filled (length before) bytes ≡ before ++ frame_of kind fields
filled-frame before kind fields bytes e =
    ap (λ (l : List ℕ). filled (length before) l) (e ∙ parted)
    ∙ ap (λ (l : List ℕ). l ++ to_be_bytes w32 (length whole - (length before + 4)) ++ drop (length before + 4) whole) front
    ∙ ap (λ (n : ℕ). before ++ to_be_bytes w32 n ++ drop (length before + 4) whole) size
    ∙ ap (λ (l : List ℕ). before ++ to_be_bytes w32 (length (kind ∷ fields)) ++ l) back
    ∙ append_assoc before (to_be_bytes w32 (length (kind ∷ fields))) (kind ∷ fields)
  where
    room : List ℕ
    room = 0 ∷ 0 ∷ 0 ∷ 0 ∷ []

    whole : List ℕ
    whole = (before ++ room) ++ (kind ∷ fields)

    parted : before ++ begun_frame kind ++ fields ≡ whole
    parted = append_assoc before (begun_frame kind) fields ∙ sym (append_assoc before room (kind ∷ fields))

    front : take (length before) whole ≡ before
    front = ap (λ (l : List ℕ). take (length before) l) (append_assoc before room (kind ∷ fields)) ∙ take_at before (room ++ (kind ∷ fields)) (length before) refl

    back : drop (length before + 4) whole ≡ kind ∷ fields
    back = drop_at (before ++ room) (kind ∷ fields) (length before + 4) (length-append before room)

    size : length whole - (length before + 4) ≡ length (kind ∷ fields)
    size = let f = length-append (before ++ room) (kind ∷ fields) in let g = length-append before room in omega arith

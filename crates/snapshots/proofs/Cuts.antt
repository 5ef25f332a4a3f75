-- Bytes that are cut: how many parts, which they are, and that they join to the bytes.
use Rattle.std.proofs.Common.{◌≡◌, ℕ, zero, suc, ◌+◌, ◌-◌, ◌*◌, ◌≤◌, ◌<◌, List, [], ◌∷◌, ◌++◌, map, length, take, drop, slice_index_or, min, append_assoc, refl, sym, ap, ◌∙◌, arith}
use Rattle.std.specs.List.{flat_map}
use Rattle.std.proofs.lemmas.List.{drop-drop, drop_all, take-append-drop, take_min, take_rest}
use Rattle.jp_types.specs.declared.message.Message.{Message}
use Rattle.jp_types.specs.declared.message.SnapshotPart.{SnapshotPart}
use Rattle.kv_service.specs.Parts.{part_count, part_size, parts_from}
use Rattle.snapshots.specs.Cutting.{part_at, cut_from, parts_of}

-- from an offset within the total on there is one part more than from the next one on
pub one-more : (total at : ℕ) → at < total → part_count (total - at) ≡ suc (part_count (total - (at + part_size)))
one-more total at lt = omega arith

pub none-left : (total at : ℕ) → total ≤ at → part_count (total - at) ≡ 0
none-left total at le = omega arith

pub count-all : (total : ℕ) → total ≤ part_size * part_count total
count-all total = omega arith

pub within : (total i : ℕ) → i < part_count total → part_size * i < total
within total i lt = omega arith

pub length-cut : (k upto : ℕ) (bytes : List ℕ) (at : ℕ) → length (cut_from k upto bytes at) ≡ k
length-cut zero upto bytes at = refl
length-cut (suc k) upto bytes at = ap suc (length-cut k upto bytes (at + part_size))

-- the i-th part
pub cut-at : (k upto : ℕ) (bytes : List ℕ) (at i : ℕ) (d : SnapshotPart) → i < k → slice_index_or (cut_from k upto bytes at) i d ≡ part_at upto bytes (at + part_size * i)
cut-at zero upto bytes at i d lt = absurd (omega arith)
cut-at (suc k) upto bytes at zero d lt = ap (part_at upto bytes) (omega arith)
cut-at (suc k) upto bytes at (suc i) d lt = cut-at k upto bytes (at + part_size) i d (omega arith) ∙ ap (part_at upto bytes) (omega arith)

pub split-at : (bytes : List ℕ) (at n : ℕ) → take n (drop at bytes) ++ drop (at + n) bytes ≡ drop at bytes
split-at bytes at n = ap (λ rest. take n (drop at bytes) ++ rest) (sym (drop-drop n at bytes)) ∙ take-append-drop n (drop at bytes)

-- the parts from an offset on have the bytes from there on
pub cut-joins : (k upto : ℕ) (bytes : List ℕ) (at : ℕ) → length bytes ≤ at + part_size * k → flat_map (λ part. part.bytes) (cut_from k upto bytes at) ≡ drop at bytes
cut-joins zero upto bytes at le = sym (drop_all at bytes (omega arith))
cut-joins (suc k) upto bytes at le =
    ap (λ rest. take part_size (drop at bytes) ++ rest) (cut-joins k upto bytes (at + part_size) (omega arith)) ∙ split-at bytes at part_size

pub parts-join : (upto : ℕ) (bytes : List ℕ) → flat_map (λ part. part.bytes) (parts_of upto bytes) ≡ bytes
parts-join upto bytes = cut-joins (part_count (length bytes)) upto bytes 0 (let h = count-all (length bytes) in omega arith)

-- as messages they are those that a replica sends
cut-messages : (k upto : ℕ) (bytes : List ℕ) (at : ℕ) → map (λ part. Message.SnapshotPart part) (cut_from k upto bytes at) ≡ parts_from k upto (length bytes) bytes at
cut-messages zero upto bytes at = refl
cut-messages (suc k) upto bytes at = ap (λ rest. Message.SnapshotPart (part_at upto bytes at) ∷ rest) (cut-messages k upto bytes (at + part_size))

pub parts-messages : (upto : ℕ) (bytes : List ℕ) → map (λ part. Message.SnapshotPart part) (parts_of upto bytes) ≡ parts_from (part_count (length bytes)) upto (length bytes) bytes 0
parts-messages upto bytes = cut-messages (part_count (length bytes)) upto bytes 0

-- the bytes that the code cuts out at an offset
pub cut-out : (bytes : List ℕ) (at n : ℕ) (made : List ℕ) → n ≡ min part_size (length (take (length bytes - at) (drop at bytes))) → made ≡ take n (take (length bytes - at) (drop at bytes)) → made ≡ take part_size (drop at bytes)
cut-out bytes at n made e f =
    let rest = take_rest bytes at in
    f ∙ ap (take n) rest ∙ ap (λ m. take m (drop at bytes)) (e ∙ ap (λ l. min part_size (length l)) rest) ∙ take_min part_size (drop at bytes)

-- one part more, in a loop over the offsets
pub cut-next : (upto : ℕ) (bytes : List ℕ) (at : ℕ) (made new : List SnapshotPart) (part : SnapshotPart) → at < length bytes → part ≡ part_at upto bytes at → new ≡ made ++ part ∷ []
    → made ++ cut_from (part_count (length bytes - at)) upto bytes at ≡ parts_of upto bytes → new ++ cut_from (part_count (length bytes - (at + part_size))) upto bytes (at + part_size) ≡ parts_of upto bytes
cut-next upto bytes at made new part lt is pushed so_far =
    let rest = cut_from (part_count (length bytes - (at + part_size))) upto bytes (at + part_size) in
    ap (λ l. l ++ rest) (pushed ∙ ap (λ p. made ++ p ∷ []) is)
    ∙ append_assoc made (part_at upto bytes at ∷ []) rest
    ∙ ap (λ k. made ++ cut_from k upto bytes at) (sym (one-more (length bytes) at lt))
    ∙ so_far

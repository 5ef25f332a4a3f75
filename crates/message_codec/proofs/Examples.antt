-- Frames computed by their definitions: the Accept of view 1 and instance 2, of version 1, and of version 2 in cluster 5.
use Rattle.std.proofs.Common.{◌≡◌, ℕ, List, [], ◌∷◌, ◌++◌, true, false, refl}
use Rattle.jp_types.specs.declared.message.Message.{Message}
use Rattle.frame_fields.specs.Faults.{BadKind, BadLength, OtherCluster}
use Rattle.frame_stream.specs.Frames.{Faults, Whole, next_frame}
use Rattle.message_codec.specs.Frames.{rules}
use Rattle.message_codec.specs.Spelling.{frame_bytes, old_frame_bytes}

abbrev eight : ℕ → List ℕ
eight n = 0 ∷ 0 ∷ 0 ∷ 0 ∷ 0 ∷ 0 ∷ 0 ∷ n ∷ []

abbrev message : Message
message = Message.Accept (record { view = 1; instance = 2 })

abbrev old_frame : List ℕ
old_frame = 0 ∷ 0 ∷ 0 ∷ 17 ∷ 4 ∷ (eight 1 ++ eight 2)

abbrev frame : List ℕ
frame = 0 ∷ 0 ∷ 0 ∷ 25 ∷ 132 ∷ (eight 5 ++ (eight 1 ++ eight 2))

spelt-old : old_frame_bytes message ≡ old_frame
spelt-old = refl

spelt : frame_bytes 5 message ≡ frame
spelt = refl

read-old : next_frame (rules 5 true) 0 old_frame ≡ Whole message 21
unfolding next_frame
read-old = refl

refused-old : next_frame (rules 5 false) 0 old_frame ≡ Faults (BadKind 4)
unfolding next_frame
refused-old = refl

read : next_frame (rules 5 false) 0 frame ≡ Whole message 29
unfolding next_frame
read = refl

other : next_frame (rules 6 false) 0 frame ≡ Faults (OtherCluster 5 5)
unfolding next_frame
other = refl

longer : next_frame (rules 5 true) 0 (0 ∷ 0 ∷ 0 ∷ 18 ∷ 4 ∷ (eight 1 ++ (eight 2 ++ 0 ∷ []))) ≡ Faults (BadLength 21)
unfolding next_frame
longer = refl

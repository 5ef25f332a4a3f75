-- The messages of a stream are those of the longest list of frames in front.
use Rattle.std.proofs.Common.{◌≡◌, ℕ, ◌+◌, Bool, true, List, [], ◌∷◌, ◌++◌, take, drop, get_or, Option, Some, None, refl, sym, ap, ◌∙◌, lit≤, arith, append-nil, inl, inr}
use Rattle.std.proofs.lemmas.Nat.{from_be_bytes-to_be_bytes_8}
use Rattle.std.specs.Int.{to_be_bytes, from_be_bytes, w64}
use Rattle.jp_types.specs.Limits.{AreBytes}
use Rattle.jp_types.specs.declared.message.Message.{Message}
use Rattle.frame_fields.specs.Faults.{Fault}
use Rattle.frame_fields.specs.declared.fault.FrameFault.{FrameFault}
use Rattle.frame_fields.specs.Telling.{fault_of}
use Rattle.frame_stream.specs.Frames.{Next, Waits, Faults, Whole, next_frame, Passes, IsUnfinished}
use Rattle.frame_stream.specs.Following.{StopsAt, Keeps}
use Rattle.message_codec.specs.Frames.{rules}
use Rattle.message_codec.specs.Spelling.{kind_of, frame_bytes, old_frame_bytes}
use Rattle.message_codec.specs.Limits.{IsCluster, IsMessage}
use Rattle.message_codec.specs.Laws.{IsFrame, BeginWith, AreAll, AreOneFrame, MessagesAreAll, NoFrameBeginsAnother, NoOldFrameBeginsAnother}
use Rattle.message_codec.proofs.FrameSpellings.{kind-within, fields_in, FitsKind, frames-spelt, kind-of-frame, frame-of-kind}
use Rattle.frame_stream.proofs.Spelt.{AreSpelt, only-front, passed-spelt, spelt-read}
use Rattle.frame_fields.specs.Spelling.{frame_of}

module _ (cluster : ℕ) (old : Bool) where
  -- frames that are spelt in front begin the bytes
  spelt-begin : (ms : List Message) (bytes rest : List ℕ) → AreSpelt (fields_in cluster old) (FitsKind cluster old) ms bytes rest → BeginWith cluster old bytes ms rest
  spelt-begin [] bytes rest h = sym h
  spelt-begin (m ∷ ms) bytes rest h =
      let frame : List ℕ = frame_of h.0 (fields_in cluster old h.0 m) in
      (h.2.0, (record { frame = frame; message = h.1.0; spelt = frame-of-kind cluster old h.0 m h.1.1; parts = h.2.1 }, spelt-begin ms h.2.0 rest h.2.2))

  -- frames with which the bytes begin are spelt in front
  begin-spelt : IsCluster cluster → (ms : List Message) (bytes rest : List ℕ) → BeginWith cluster old bytes ms rest → AreSpelt (fields_in cluster old) (FitsKind cluster old) ms bytes rest
  begin-spelt is [] bytes rest h = sym h
  begin-spelt is (m ∷ ms) bytes rest h =
      let b = h.1.0 in
      let k = kind-of-frame cluster old b.frame m is b.spelt in
      (k.0, (b.message, k.1), (h.0, b.parts ∙ ap (λ (f : List ℕ). f ++ h.0) k.2, begin-spelt is ms h.0 rest h.1.1))

  all-read : IsCluster cluster → (stream : List ℕ) (ms : List Message) (end : ℕ) (rest : List ℕ) → AreBytes stream → Passes (rules cluster old) 0 stream ms end rest → IsUnfinished (next_frame (rules cluster old) end rest) → AreAll cluster old stream ms
  all-read is stream ms end rest are passes unfinished =
      record {
        rest = rest;
        begin = spelt-begin ms stream rest (passed-spelt (rules cluster old) (fields_in cluster old) (FitsKind cluster old) (frames-spelt cluster old) 0 stream ms end rest are passes);
        longest = λ others left h. spelt-read (rules cluster old) (fields_in cluster old) (FitsKind cluster old) (frames-spelt cluster old) 0 stream ms end rest others left passes unfinished (begin-spelt is others stream left h);
      }

  unfinished-at : (fault : Fault) (next : Next Message) → next ≡ Faults fault → IsUnfinished next
  unfinished-at fault Waits e = tt
  unfinished-at fault (Faults f) e = tt
  unfinished-at fault (Whole m size) e = absurd cc

  unfinished-waits : (next : Next Message) → next ≡ Waits → IsUnfinished next
  unfinished-waits Waits e = tt
  unfinished-waits (Faults f) e = tt
  unfinished-waits (Whole m size) e = absurd cc

  stopped : IsCluster cluster → (stream : List ℕ) (ms : List Message) (at : ℕ) → AreBytes stream → (o : Option Fault) → StopsAt (rules cluster old) stream ms at o → AreAll cluster old stream ms
  stopped is stream ms at are None h = absurd h
  stopped is stream ms at are (Some fault) h = all-read is stream ms at h.0 are h.1.0 (unfinished-at fault (next_frame (rules cluster old) at h.0) h.1.1)

  pub keeps : IsCluster cluster → (stream : List ℕ) (ms : List Message) (at : ℕ) (kept : List ℕ) → AreBytes stream → (o : Option FrameFault) → Keeps (rules cluster old) stream ms at kept o → AreAll cluster old stream ms
  keeps is stream ms at kept are None h = all-read is stream ms at kept are h.0 (unfinished-waits (next_frame (rules cluster old) at kept) h.1)
  keeps is stream ms at kept are (Some fault) h = stopped is stream ms at are (fault_of fault) h.1

-- ---- No frame begins another one

cluster-of : (cluster other : ℕ) → IsCluster cluster → IsCluster other → to_be_bytes w64 cluster ≡ to_be_bytes w64 other → cluster ≡ other
cluster-of cluster other is also e =
    let low = is.limit in
    let high = also.limit in
    sym (from_be_bytes-to_be_bytes_8 cluster (omega arith)) ∙ ap (λ (l : List ℕ). from_be_bytes w64 l) e ∙ from_be_bytes-to_be_bytes_8 other (omega arith)

-- two readings of one list of bytes
one-reading : (cluster : ℕ) (f g more : List ℕ) (m n : Message) → IsCluster cluster → IsMessage m → IsMessage n → IsFrame cluster true f m → IsFrame cluster true g n → f ++ more ≡ g → (m ≡ n) × (more ≡ [])
one-reading cluster f g more m n is-cluster is also spelt-f spelt-g e =
    let k = kind-of-frame cluster true f m is-cluster spelt-f in
    let l = kind-of-frame cluster true g n is-cluster spelt-g in
    let line : frame_of k.0 (fields_in cluster true k.0 m) ++ more ≡ frame_of l.0 (fields_in cluster true l.0 n) ++ []
    = ap (λ (x : List ℕ). x ++ more) (sym k.2) ∙ e ∙ l.2 ∙ sym (append-nil (frame_of l.0 (fields_in cluster true l.0 n))) in
    let same = only-front (rules cluster true) (fields_in cluster true) (FitsKind cluster true) (frames-spelt cluster true) k.0 l.0 m n more [] (is, k.1) (also, l.1) line in
    (same.1, same.2)

pub new-frames : (cluster other : ℕ) (m n : Message) (more : List ℕ) → IsCluster cluster → IsCluster other → IsMessage m → IsMessage n → frame_bytes cluster m ++ more ≡ frame_bytes other n → AreOneFrame cluster other m n more
new-frames cluster other m n more is also is-m is-n e =
    let clusters : cluster ≡ other = cluster-of cluster other is also (ap (λ (l : List ℕ). take 8 (drop 5 l)) e) in
    let both = one-reading cluster (frame_bytes cluster m) (frame_bytes cluster n) more m n is is-m is-n (inl refl) (inl refl) (e ∙ ap (λ (k : ℕ). frame_bytes k n) (sym clusters)) in
    record { clusters = clusters; messages = both.0; none = both.1 }

pub old-frames : (m n : Message) (more : List ℕ) → IsMessage m → IsMessage n → old_frame_bytes m ++ more ≡ old_frame_bytes n → (m ≡ n) × (more ≡ [])
old-frames m n more is also e = one-reading 1 (old_frame_bytes m) (old_frame_bytes n) more m n (record { some = lit≤ tt; limit = lit≤ tt }) is also (inr (refl, refl)) (inr (refl, refl)) e

pub new-old : (cluster : ℕ) (m n : Message) (more : List ℕ) → frame_bytes cluster m ++ more ≡ old_frame_bytes n → ⊥
new-old cluster m n more e =
    let kinds : kind_of m + 128 ≡ kind_of n = ap (λ (l : List ℕ). get_or l 4 0) e in
    let high = (kind-within n).1 in
    absurd (omega arith)

pub old-new : (cluster : ℕ) (m n : Message) (more : List ℕ) → old_frame_bytes m ++ more ≡ frame_bytes cluster n → ⊥
old-new cluster m n more e =
    let kinds : kind_of m ≡ kind_of n + 128 = ap (λ (l : List ℕ). get_or l 4 0) e in
    let high = (kind-within m).1 in
    absurd (omega arith)

pub messages-are-all : {G : Type 0} → MessagesAreAll G
messages-are-all cluster old stream ms reader is are follows = keeps cluster old is stream ms reader.at reader.kept are reader.fault follows

pub no-frame-begins : NoFrameBeginsAnother
no-frame-begins cluster other m n more is also is-m is-n = (λ e. new-frames cluster other m n more is also is-m is-n e, λ e. new-old cluster m n more e)

pub no-old-frame-begins : NoOldFrameBeginsAnother
no-old-frame-begins cluster m n more is also = (λ e. old-frames m n more is also e, λ e. old-new cluster m n more e)

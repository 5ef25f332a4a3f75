-- Whole frames are read as they are spelt.
use Rattle.std.proofs.Common.{◌⊎◌, ◌≡◌, ℕ, ◌+◌, ◌*◌, ◌^◌, ◌-◌, ◌<◌, ◌≤◌, Bool, true, false, ◌&&◌, List, [], ◌∷◌, ◌++◌, length, nat_lt, ◌==◌, if◌then◌else◌, Option, Some, None, Result, Ok, refl, sym, ap, subst, ◌∙◌, lit<, lit≤, arith, length-append, inl, inr}
use Rattle.std.proofs.Math.Nat.{suc-mul}
use Rattle.std.proofs.lemmas.Bool.{eqb-true, eq-eqb}
use Rattle.std.proofs.lemmas.Bool.Decides.{nat_tests}
use Rattle.std.specs.List.{flat_map}
use Rattle.jp_types.specs.Instances.{Batch}
use Rattle.jp_types.specs.Limits.{AreBytes}
use Rattle.jp_types.specs.Lists.{In}
use Rattle.jp_types.specs.declared.message.Entry.{Entry}
use Rattle.jp_types.specs.declared.message.Message.{Message}
use Rattle.frame_fields.specs.Faults.{Fault, OtherCluster, told}
use Rattle.frame_fields.specs.Reading.{Place, Reader, gives, fails, number_within, read_fields}
use Rattle.frame_fields.specs.Spelling.{optional_bytes, frame_of}
use Rattle.frame_fields.specs.Laws.{IsSpelling, HasRoom, Spans, WasSpelt, IsReadAsSpelt, AllFit, IsWithin}
use Rattle.frame_fields.proofs.Spellings.{on-back, on-forth, pair-same, sequel}
use Rattle.frame_fields.proofs.FieldSpellings.{numbers-8, number-spelt, fields-read-back, fields-were-spelt}
use Rattle.frame_stream.specs.Frames.{Whole, spelt, next_frame}
use Rattle.message_codec.specs.Messages.{message_of_kind}
use Rattle.message_codec.specs.Frames.{is_kind, is_listed, cluster_number, of_cluster, frame_of_kind, read_message, rules}
use Rattle.message_codec.specs.Spelling.{counter_bytes, batch_bytes, entry_bytes, vote_bytes, report_bytes, kind_of, message_fields}
use Rattle.message_codec.specs.Limits.{IsCluster, IsVector, IsSentBatch, IsEntry, IsReport, IsMessage}
use Rattle.message_codec.specs.Laws.{IsFrame, IsRead}
use Rattle.message_codec.proofs.MessageSpellings.{batch-length}
use Rattle.message_codec.proofs.KindSpellings.{IsOfKind, of-kind-spelt}
use Rattle.frame_stream.proofs.Spelt.{AreReadAsSpelt, reads-back as spelt-back, was-spelt as spelt-front}

-- ---- How long the fields of a message are

flat-length : {A : Type 0} (spelling : A → List ℕ) (limit : ℕ) (xs : List A) → ((x : A) → In x xs → length (spelling x) ≤ limit) → length (flat_map spelling xs) ≤ length xs * limit
flat-length spelling limit [] h = omega arith
flat-length spelling limit (x ∷ xs) h =
    let first = h x (inl refl) in
    let others = flat-length spelling limit xs (λ y is. h y (inr is)) in
    omega (arith, length-append (spelling x) (flat_map spelling xs), suc-mul (length xs) limit)

sent-length : (b : Batch) → IsSentBatch b → length (batch_bytes b) ≤ 65536
sent-length b is = subst (λ (n : ℕ). n ≤ 65536) (sym (batch-length b)) is.size

vote-length : (v : Option ℕ) → length (vote_bytes v) ≤ 9
vote-length None = lit≤ tt
vote-length (Some view) = lit≤ tt

next-length : (v : Option ℕ) → length (optional_bytes counter_bytes v) ≤ 9
next-length None = lit≤ tt
next-length (Some next) = lit≤ tt

entry-length : (e : Entry) → IsEntry e → length (entry_bytes e) ≤ 65553
entry-length e is =
    let size = sent-length e.batch is.batch in
    omega (arith, vote-length e.vote, size, length-append (vote_bytes e.vote) (batch_bytes e.batch))

report-length : (es : List Entry) → IsReport es → length (report_bytes es) ≤ 67126276
report-length es is =
    let count = is.count in
    let all = flat-length entry_bytes 65553 es (λ e h. entry-length e (is.entries e h)) in
    omega (arith, all, count)

vector-length : (v : List ℕ) → IsVector v → length (flat_map counter_bytes v) ≤ 72
vector-length v is =
    let nine = is.nine in
    let all = flat-length counter_bytes 8 v (λ n h. lit≤ tt) in
    omega (arith, all, nine)

batches-length : (bs : List Batch) → length bs ≤ 64 → AllFit IsSentBatch bs → length (flat_map batch_bytes bs) ≤ 4194304
batches-length bs few is =
    let all = flat-length batch_bytes 65536 bs (λ b h. sent-length b (is b h)) in
    omega (arith, all, few)

pub message-length : (m : Message) → IsMessage m → length (message_fields m) ≤ 67200000
message-length (Message.Prepare m) is = lit≤ tt
message-length (Message.PrepareOk m) is =
    let v = vector-length m.vector is.vector in
    let r = report-length m.report is.report in
    omega (arith, v, r, length-append (flat_map counter_bytes m.vector) (counter_bytes m.low), length-append (flat_map counter_bytes m.vector ++ counter_bytes m.low) (report_bytes m.report))
message-length (Message.Propose m) is = omega (arith, sent-length m.batch is.batch)
message-length (Message.Accept m) is = lit≤ tt
message-length (Message.Recovery m) is = lit≤ tt
message-length (Message.RecoveryAnswer m) is =
    let v = vector-length m.vector is.vector in
    omega (arith, v, next-length m.next, length-append (flat_map counter_bytes m.vector) (optional_bytes counter_bytes m.next))
message-length (Message.CatchUpQuery m) is = lit≤ tt
message-length (Message.CatchUpReply m) is = omega (arith, batches-length m.batches is.limit is.batches)
message-length (Message.SnapshotPart m) is = omega (arith, is.size)
message-length (Message.Alive m) is = lit≤ tt

-- ---- The kinds

pub kind-within : (m : Message) → IsWithin 1 10 (kind_of m)
kind-within (Message.Prepare m) = (lit≤ tt, lit≤ tt)
kind-within (Message.PrepareOk m) = (lit≤ tt, lit≤ tt)
kind-within (Message.Propose m) = (lit≤ tt, lit≤ tt)
kind-within (Message.Accept m) = (lit≤ tt, lit≤ tt)
kind-within (Message.Recovery m) = (lit≤ tt, lit≤ tt)
kind-within (Message.RecoveryAnswer m) = (lit≤ tt, lit≤ tt)
kind-within (Message.CatchUpQuery m) = (lit≤ tt, lit≤ tt)
kind-within (Message.CatchUpReply m) = (lit≤ tt, lit≤ tt)
kind-within (Message.SnapshotPart m) = (lit≤ tt, lit≤ tt)
kind-within (Message.Alive m) = (lit≤ tt, lit≤ tt)

is-kind : (kind : ℕ) → IsWithin 1 10 kind → is_kind kind ≡ true
is-kind kind is =
    let low : nat_lt 0 kind ≡ true = (let a = is.0 in grind (arith, nat_tests)) in
    let high : nat_lt kind 11 ≡ true = (let a = is.1 in grind (arith, nat_tests)) in
    rw (low, high) refl

kind-is : (kind : ℕ) → is_kind kind ≡ true → IsWithin 1 10 kind
kind-is kind e = by (nat_lt 0 kind) refl (nat_lt kind 11) refl e
  where
    by : (b : Bool) → nat_lt 0 kind ≡ b → (c : Bool) → nat_lt kind 11 ≡ c → (b && c) ≡ true → IsWithin 1 10 kind
    by true f true g h = (grind (arith, nat_tests), grind (arith, nat_tests))
    by true f false g h = absurd cc
    by false f c g h = absurd cc

-- a kind of version 1 is listed where old frames are read
listed-old : (old : Bool) (kind : ℕ) → old ≡ true → IsWithin 1 10 kind → is_listed old kind ≡ true
listed-old old kind e is =
    let small : nat_lt kind 128 ≡ true = (let a = is.1 in grind (arith, nat_tests)) in
    rw (small, e, is-kind kind is) refl

-- a kind of version 2 is listed
listed-new : (old : Bool) (kind : ℕ) → IsWithin 1 10 kind → is_listed old (kind + 128) ≡ true
listed-new old kind is =
    let large : nat_lt (kind + 128) 128 ≡ false = grind (arith, nat_tests) in
    let less : kind + 128 - 128 ≡ kind = omega arith in
    rw (large, less, is-kind kind is) refl

-- ---- The fields of frames

cluster-number-spelt : (cluster : ℕ) → IsReadAsSpelt None (cluster_number cluster) counter_bytes (λ n. IsWithin 1 (2 ^ 48) n × (n ≡ cluster))
cluster-number-spelt cluster = record { reads_back = forth; was_spelt = back }
  where
    law : IsReadAsSpelt None (number_within 8 1 (2 ^ 48)) counter_bytes (IsWithin 1 (2 ^ 48))
    law = number-spelt numbers-8 1 (2 ^ 48) (lit< tt)

    test : Place → ℕ → Reader ℕ
    test from got = if got == cluster then gives got else fails (OtherCluster (told from.at) got)

    forth : (from : Place) (n : ℕ) (to : Place) → from.batch ≡ None → IsWithin 1 (2 ^ 48) n × (n ≡ cluster) → Spans from (counter_bytes n) to → HasRoom to → cluster_number cluster from ≡ Ok (n, to)
    forth from n to at is spans room =
        let z : Result (ℕ × Place) Fault = Ok (n, to) in
        let same : (n == cluster) ≡ true = eq-eqb n cluster is.1 in
        on-forth (number_within 8 1 (2 ^ 48) from) (test from) n to z (law.reads_back from n to at is.0 spans room) (rw same refl)

    passed : (b : Bool) (from : Place) (got : ℕ) (q : Place) (z : ℕ × Place) → (if b then gives got else fails (OtherCluster (told from.at) got)) q ≡ Ok z → (b ≡ true) × (gives got q ≡ Ok z)
    passed true from got q z e = (refl, e)
    passed false from got q z e = absurd cc

    back : (from : Place) (n : ℕ) (to : Place) → from.batch ≡ None → AreBytes from.rest → HasRoom from → cluster_number cluster from ≡ Ok (n, to) → WasSpelt counter_bytes (λ n. IsWithin 1 (2 ^ 48) n × (n ≡ cluster)) from n to
    back from n to at are room e =
        let a = on-back (number_within 8 1 (2 ^ 48) from) (test from) n to e in
        let b = passed (a.0 == cluster) from a.0 a.1 (n, to) a.3 in
        let same = pair-same a.0 n a.1 to b.1 in
        let was = law.was_spelt from a.0 a.1 at are room a.2 in
        let is : WasSpelt counter_bytes (λ n. IsWithin 1 (2 ^ 48) n × (n ≡ cluster)) from a.0 a.1 = record { fits = (was.fits, eqb-true a.0 cluster b.0); spans = was.spans; room = was.room } in
        subst (λ (q : Place). WasSpelt counter_bytes (λ n. IsWithin 1 (2 ^ 48) n × (n ≡ cluster)) from n q) same.1 (subst (λ (k : ℕ). WasSpelt counter_bytes (λ n. IsWithin 1 (2 ^ 48) n × (n ≡ cluster)) from k a.1) same.0 is)

of-cluster-spelt : (cluster kind : ℕ) → IsWithin 1 10 kind → IsReadAsSpelt None (of_cluster cluster kind) (λ m. counter_bytes cluster ++ message_fields m) (λ m. IsCluster cluster × IsOfKind kind m)
of-cluster-spelt cluster kind is =
    sequel (λ got. message_of_kind kind) (λ got. message_fields) (λ got. IsOfKind kind) (λ m. counter_bytes cluster ++ message_fields m) (λ m. IsCluster cluster × IsOfKind kind m) (cluster-number-spelt cluster) (λ got fits. of-kind-spelt kind is)
    (λ m all. (cluster, ((all.0.some, all.0.limit), refl), all.1, refl))
    (λ got m fits goes. ((subst IsCluster fits.1 (record { some = fits.0.0; limit = fits.0.1 }), goes), ap (λ (n : ℕ). counter_bytes n ++ message_fields m) (sym fits.1)))

-- ---- Whole frames

-- the fields of a frame of version 2
new-reader : (cluster kind : ℕ) → 128 ≤ kind → frame_of_kind cluster kind ≡ of_cluster cluster (kind - 128)
new-reader cluster kind le =
    let large : nat_lt kind 128 ≡ false = grind (arith, nat_tests) in
    ap (λ (b : Bool). if b then message_of_kind kind else of_cluster cluster (kind - 128)) large

-- the fields of a frame of version 1
old-reader : (cluster kind : ℕ) → kind < 128 → frame_of_kind cluster kind ≡ message_of_kind kind
old-reader cluster kind lt =
    let small : nat_lt kind 128 ≡ true = grind (arith, nat_tests) in
    ap (λ (b : Bool). if b then message_of_kind kind else of_cluster cluster (kind - 128)) small

both-true : (b c : Bool) → (b && c) ≡ true → (b ≡ true) × (c ≡ true)
both-true true c e = (refl, e)
both-true false c e = absurd cc

module _ (cluster : ℕ) (old : Bool) where
  -- the fields of a frame of a kind
  abbrev pub fields_in : ℕ → Message → List ℕ
  fields_in kind m = if nat_lt kind 128 then message_fields m else counter_bytes cluster ++ message_fields m

  -- a kind of version 2, in a cluster, or one of version 1 where old frames are read
  abbrev pub HasKind : ℕ → Message → Type 0
  HasKind kind m = (IsCluster cluster × (kind ≡ kind_of m + 128)) ⊎ ((old ≡ true) × (kind ≡ kind_of m))

  -- a message within its limits that a frame of this kind may spell
  abbrev pub FitsKind : ℕ → Message → Type 0
  FitsKind kind m = IsMessage m × HasKind kind m

  new-fields : (kind : ℕ) (m : Message) → 128 ≤ kind → fields_in kind m ≡ counter_bytes cluster ++ message_fields m
  new-fields kind m le =
      let large : nat_lt kind 128 ≡ false = grind (arith, nat_tests) in
      ap (λ (b : Bool). if b then message_fields m else counter_bytes cluster ++ message_fields m) large

  old-fields : (kind : ℕ) (m : Message) → kind < 128 → fields_in kind m ≡ message_fields m
  old-fields kind m lt =
      let small : nat_lt kind 128 ≡ true = grind (arith, nat_tests) in
      ap (λ (b : Bool). if b then message_fields m else counter_bytes cluster ++ message_fields m) small

  is-new : (m : Message) (kind : ℕ) → kind ≡ kind_of m + 128 → 128 ≤ kind
  is-new m kind e = omega arith

  is-old : (m : Message) (kind : ℕ) → kind ≡ kind_of m → kind < 128
  is-old m kind e = let high = (kind-within m).1 in omega arith

  listed : (kind : ℕ) (m : Message) → FitsKind kind m → is_listed old kind ≡ true
  listed kind m (is, inl h) = ap (λ (k : ℕ). is_listed old k) h.1 ∙ listed-new old (kind_of m) (kind-within m)
  listed kind m (is, inr h) = ap (λ (k : ℕ). is_listed old k) h.1 ∙ listed-old old (kind_of m) h.0 (kind-within m)

  short : (kind : ℕ) (m : Message) → FitsKind kind m → length (fields_in kind m) < 134217728
  short kind m (is, inl h) =
      let size = message-length m is in
      let same = ap (λ (l : List ℕ). length l) (new-fields kind m (is-new m kind h.1)) in
      omega arith
  short kind m (is, inr h) =
      let size = message-length m is in
      let same = ap (λ (l : List ℕ). length l) (old-fields kind m (is-old m kind h.1)) in
      omega arith

  back : (kind : ℕ) (m : Message) (at : ℕ) → FitsKind kind m → read_message cluster kind at (fields_in kind m) ≡ Ok m
  back kind m at (is, inl h) =
      let le = is-new m kind h.1 in
      let less : kind - 128 ≡ kind_of m = (let e = h.1 in omega arith) in
      ap (λ (l : List ℕ). read_message cluster kind at l) (new-fields kind m le)
      ∙ ap (λ (r : Reader Message). read_fields r at (counter_bytes cluster ++ message_fields m)) (new-reader cluster kind le ∙ ap (λ (k : ℕ). of_cluster cluster k) less)
      ∙ fields-read-back (of-cluster-spelt cluster (kind_of m) (kind-within m)) at m (h.0, (is, refl))
  back kind m at (is, inr h) =
      let lt = is-old m kind h.1 in
      ap (λ (l : List ℕ). read_message cluster kind at l) (old-fields kind m lt)
      ∙ ap (λ (r : Reader Message). read_fields r at (message_fields m)) (old-reader cluster kind lt ∙ ap (λ (k : ℕ). message_of_kind k) h.1)
      ∙ fields-read-back (of-kind-spelt (kind_of m) (kind-within m)) at m (is, refl)

  forth : (kind at : ℕ) (bytes : List ℕ) (m : Message) → AreBytes bytes → is_listed old kind ≡ true → read_message cluster kind at bytes ≡ Ok m → IsSpelling (fields_in kind) (FitsKind kind) bytes m
  forth kind at bytes m are is reads = by (nat_lt kind 128) refl
    where
      by : (b : Bool) → nat_lt kind 128 ≡ b → IsSpelling (fields_in kind) (FitsKind kind) bytes m
      by true g =
          let small : kind < 128 = grind (arith, nat_tests) in
          let both = both-true old (is_kind kind) (ap (λ (b : Bool). if b then old && is_kind kind else is_kind (kind - 128)) (sym g) ∙ is) in
          let read = ap (λ (r : Reader Message). read_fields r at bytes) (sym (old-reader cluster kind small)) ∙ reads in
          let was = fields-were-spelt (of-kind-spelt kind (kind-is kind both.1)) at bytes m are read in
          record { fits = (was.fits.0, inr (both.0, sym was.fits.1)); spelt = was.spelt ∙ sym (old-fields kind m small) }
      by false g =
          let large : 128 ≤ kind = grind (arith, nat_tests) in
          let within = kind-is (kind - 128) (ap (λ (b : Bool). if b then old && is_kind kind else is_kind (kind - 128)) (sym g) ∙ is) in
          let read = ap (λ (r : Reader Message). read_fields r at bytes) (sym (new-reader cluster kind large)) ∙ reads in
          let was = fields-were-spelt (of-cluster-spelt cluster (kind - 128) within) at bytes m are read in
          let its : kind ≡ kind_of m + 128 = (let e = was.fits.1.1 in omega arith) in
          record { fits = (was.fits.1.0, inl (was.fits.0, its)); spelt = was.spelt ∙ sym (new-fields kind m large) }

  -- the frames of messages are read as they are spelt
  pub frames-spelt : AreReadAsSpelt (rules cluster old) fields_in FitsKind
  frames-spelt = record { listed = listed; short = short; reads_back = back; was_spelt = λ kind at bytes m are is less reads. forth kind at bytes m are is reads }

  -- ---- The frames of both versions

  -- a frame of a message has one of its kinds
  pub kind-of-frame : (frame : List ℕ) (m : Message) → IsCluster cluster → IsFrame cluster old frame m → (kind : ℕ) × HasKind kind m × (frame ≡ frame_of kind (fields_in kind m))
  kind-of-frame frame m is (inl e) =
      let kind : ℕ = kind_of m + 128 in
      (kind, inl (is, refl), e ∙ ap (λ (l : List ℕ). frame_of kind l) (sym (new-fields kind m (omega arith))))
  kind-of-frame frame m is (inr h) = (kind_of m, inr (h.0, refl), h.1 ∙ ap (λ (l : List ℕ). frame_of (kind_of m) l) (sym (old-fields (kind_of m) m (is-old m (kind_of m) refl))))

  -- a frame of one of these kinds is the message's
  pub frame-of-kind : (kind : ℕ) (m : Message) → HasKind kind m → IsFrame cluster old (frame_of kind (fields_in kind m)) m
  frame-of-kind kind m (inl h) = inl (ap (λ (l : List ℕ). frame_of kind l) (new-fields kind m (is-new m kind h.1)) ∙ ap (λ (k : ℕ). frame_of k (counter_bytes cluster ++ message_fields m)) h.1)
  frame-of-kind kind m (inr h) = inr (h.0, ap (λ (l : List ℕ). frame_of kind l) (old-fields kind m (is-old m kind h.1)) ∙ ap (λ (k : ℕ). frame_of k (message_fields m)) h.1)

  -- a frame of a message within its limits reads back, whatever follows it
  pub reads-back : (at : ℕ) (m : Message) (frame more : List ℕ) → IsCluster cluster → IsMessage m → IsFrame cluster old frame m → next_frame (rules cluster old) at (frame ++ more) ≡ Whole m (length frame)
  reads-back at m frame more is-cluster is spelt =
      let k = kind-of-frame frame m is-cluster spelt in
      subst (λ (f : List ℕ). next_frame (rules cluster old) at (f ++ more) ≡ Whole m (length f)) (sym k.2) (spelt-back (rules cluster old) fields_in FitsKind frames-spelt k.0 m at more (is, k.1))

  pub was-spelt : (at : ℕ) (bytes : List ℕ) (m : Message) (size : ℕ) → AreBytes bytes → next_frame (rules cluster old) at bytes ≡ Whole m size → IsRead cluster old bytes m size
  was-spelt at bytes m size are e =
      let s = spelt-front (rules cluster old) fields_in FitsKind frames-spelt at bytes m size are e in
      record { begins = record { frame = frame_of s.kind (fields_in s.kind m); message = s.fits.0; spelt = frame-of-kind s.kind m s.fits.1; parts = s.parts }; size_is = sym s.ends }

-- Frames between clients and replicas are read as they are spelt.
use Rattle.std.proofs.Common.{◌≡◌, ℕ, zero, suc, ◌+◌, ◌^◌, ◌<◌, ◌≤◌, Bool, true, false, ◌&&◌, nat_lt, ◌==◌, if◌then◌else◌, List, [], ◌∷◌, ◌++◌, length, drop, Option, Some, None, refl, sym, ◌∙◌, ap, subst, ◌⊎◌, inl, inr, Result, Ok, Err, lit<, lit≤, append_assoc, append-nil, length-append, arith}
use Rattle.std.proofs.lemmas.Bool.Decides.{nat_tests}
use Rattle.std.specs.Int.{to_be_bytes, w16, w64}
use Rattle.std.specs.List.{flat_map}
use Rattle.jp_types.specs.Limits.{AreBytes, IsKey, IsValue, IsCommand, IsRequest}
use Rattle.jp_types.specs.Lists.{In}
use Rattle.jp_types.specs.declared.command.Command.{Command}
use Rattle.jp_types.specs.declared.command.Command.TheVariants as command_kind
use Rattle.jp_types.specs.declared.command.Reply.{Reply as KvReply}
use Rattle.jp_types.specs.declared.command.Reply.TheVariants as reply_kind
use Rattle.jp_types.specs.declared.command.Request.{Request as KvRequest}
use Rattle.frame_fields.specs.Reading.{Reader, gives, ◌>>=◌, number_within, reply, request, read_fields}
use Rattle.frame_fields.specs.Spelling.{sized_bytes, optional_bytes, command_bytes, reply_bytes, request_bytes, frame_of}
use Rattle.frame_fields.specs.Laws.{IsReadAsSpelt, IsSpelling, FitsIfThere, IsWithin, IsReply}
use Rattle.frame_fields.proofs.Spellings.{given, field, in_other_words, variant}
use Rattle.frame_fields.proofs.FieldSpellings.{number-spelt, numbers-1, numbers-8, reply-spelt, request-spelt, fields-read-back, fields-were-spelt}
use Rattle.frame_stream.specs.Frames.{Whole, longest, next_frame, Passes, Reads}
use Rattle.frame_stream.proofs.Spelt as stand
use Rattle.client_codec.specs.declared.frame.ClientFrame.{ClientFrame}
use Rattle.client_codec.specs.declared.frame.ClientFrame.TheVariants.{Request, Reply, Redirect, Busy, Stop}
use Rattle.client_codec.specs.Frames.{request_number, numbered_reply, fields_of_kind, is_listed, client_rules}
use Rattle.client_codec.specs.Spelling.{kind_of, fields_bytes, frame_bytes}
use Rattle.client_codec.specs.Limits.{IsNumber, IsClientFrame}
use Rattle.client_codec.specs.Laws.{ReadsBack, StandsSpelt, WasSpelt, IsNoFrontOf, AreSpelt, IsLongest}

-- a frame of this kind within its limits
abbrev IsOfKind : ℕ → ClientFrame → Type 0
IsOfKind kind f = IsClientFrame f × (kind_of f ≡ kind)

-- ---- The fields of each kind

abbrev number_of : ClientFrame → ℕ
number_of (Request r) = 0
number_of (Reply number reply) = number
number_of (Redirect replica) = 0
number_of (Busy number) = number
number_of Stop = 0

abbrev reply_of : ClientFrame → KvReply
reply_of (Request r) = reply_kind.Done
reply_of (Reply number reply) = reply
reply_of (Redirect replica) = reply_kind.Done
reply_of (Busy number) = reply_kind.Done
reply_of Stop = reply_kind.Done

request-kind : IsReadAsSpelt None (request >>= λ r. gives (Request r)) fields_bytes (IsOfKind 1)
request-kind = variant (λ r. Request r) fields_bytes (IsOfKind 1) request-spelt of (λ r is. (is, refl)) (λ r. refl)
  where
    of : (f : ClientFrame) → IsOfKind 1 f → (r : KvRequest) × IsRequest r × (f ≡ Request r)
    of (Request r) is = (r, is.0, refl)
    of (Reply n r) is = absurd (omega (arith, is.1))
    of (Redirect p) is = absurd (omega (arith, is.1))
    of (Busy n) is = absurd (omega (arith, is.1))
    of Stop is = absurd (omega (arith, is.1))

reply-kind : IsReadAsSpelt None numbered_reply fields_bytes (IsOfKind 2)
reply-kind =
    in_other_words fields_bytes (IsOfKind 2)
    (field number_of (number-spelt numbers-8 1 (2 ^ 48) (lit< tt)) (λ n f is. ap number_of is.1)
    (λ n is. field reply_of reply-spelt (λ r f is. ap reply_of is) (λ r is. given (Reply n r))))
    to-parts from-parts
  where
    to-parts : (f : ClientFrame) → IsOfKind 2 f → (IsWithin 1 (2 ^ 48) (number_of f) × (IsReply (reply_of f) × (f ≡ Reply (number_of f) (reply_of f))))
        × (fields_bytes f ≡ to_be_bytes w64 (number_of f) ++ (reply_bytes (reply_of f) ++ []))
    to-parts (Request r) is = absurd (omega (arith, is.1))
    to-parts (Reply n r) is = ((is.0.0, (is.0.1, refl)), ap (λ (l : List ℕ). to_be_bytes w64 n ++ l) (sym (append-nil (reply_bytes r))))
    to-parts (Redirect p) is = absurd (omega (arith, is.1))
    to-parts (Busy n) is = absurd (omega (arith, is.1))
    to-parts Stop is = absurd (omega (arith, is.1))

    from-parts : (f : ClientFrame) → IsWithin 1 (2 ^ 48) (number_of f) × (IsReply (reply_of f) × (f ≡ Reply (number_of f) (reply_of f))) → IsOfKind 2 f × (fields_bytes f ≡ to_be_bytes w64 (number_of f) ++ (reply_bytes (reply_of f) ++ []))
    from-parts (Request r) is = let e = is.1.1 in absurd cc
    from-parts (Reply n r) is = (((is.0, is.1.0), refl), ap (λ (l : List ℕ). to_be_bytes w64 n ++ l) (sym (append-nil (reply_bytes r))))
    from-parts (Redirect p) is = let e = is.1.1 in absurd cc
    from-parts (Busy n) is = let e = is.1.1 in absurd cc
    from-parts Stop is = let e = is.1.1 in absurd cc

redirect-kind : IsReadAsSpelt None (number_within 1 0 8 >>= λ replica. gives (Redirect replica)) fields_bytes (IsOfKind 3)
redirect-kind = variant (λ p. Redirect p) fields_bytes (IsOfKind 3) (number-spelt numbers-1 0 8 (lit< tt)) of (λ p is. (is.1, refl)) (λ p. refl)
  where
    of : (f : ClientFrame) → IsOfKind 3 f → (p : ℕ) × IsWithin 0 8 p × (f ≡ Redirect p)
    of (Request r) is = absurd (omega (arith, is.1))
    of (Reply n r) is = absurd (omega (arith, is.1))
    of (Redirect p) is = (p, (omega arith, is.0), refl)
    of (Busy n) is = absurd (omega (arith, is.1))
    of Stop is = absurd (omega (arith, is.1))

busy-kind : IsReadAsSpelt None (request_number >>= λ number. gives (Busy number)) fields_bytes (IsOfKind 4)
busy-kind = variant (λ n. Busy n) fields_bytes (IsOfKind 4) (number-spelt numbers-8 1 (2 ^ 48) (lit< tt)) of (λ n is. (is, refl)) (λ n. refl)
  where
    of : (f : ClientFrame) → IsOfKind 4 f → (n : ℕ) × IsWithin 1 (2 ^ 48) n × (f ≡ Busy n)
    of (Request r) is = absurd (omega (arith, is.1))
    of (Reply n r) is = absurd (omega (arith, is.1))
    of (Redirect p) is = absurd (omega (arith, is.1))
    of (Busy n) is = (n, is.0, refl)
    of Stop is = absurd (omega (arith, is.1))

stop-kind : IsReadAsSpelt None (gives Stop) fields_bytes (IsOfKind 5)
stop-kind = in_other_words fields_bytes (IsOfKind 5) (given Stop) to from
  where
    to : (f : ClientFrame) → IsOfKind 5 f → (f ≡ Stop) × (fields_bytes f ≡ [])
    to (Request r) is = absurd (omega (arith, is.1))
    to (Reply n r) is = absurd (omega (arith, is.1))
    to (Redirect p) is = absurd (omega (arith, is.1))
    to (Busy n) is = absurd (omega (arith, is.1))
    to Stop is = (refl, refl)

    from : (f : ClientFrame) → f ≡ Stop → IsOfKind 5 f × (fields_bytes f ≡ [])
    from (Request r) e = absurd cc
    from (Reply n r) e = absurd cc
    from (Redirect p) e = absurd cc
    from (Busy n) e = absurd cc
    from Stop e = ((tt, refl), refl)

kind-spelt : (kind : ℕ) → IsWithin 1 5 kind → IsReadAsSpelt None (fields_of_kind kind) fields_bytes (IsOfKind kind)
kind-spelt zero is = let low = is.0 in absurd (omega arith)
kind-spelt (suc zero) is = request-kind
kind-spelt (suc (suc zero)) is = reply-kind
kind-spelt (suc (suc (suc zero))) is = redirect-kind
kind-spelt (suc (suc (suc (suc zero)))) is = busy-kind
kind-spelt (suc (suc (suc (suc (suc zero))))) is = stop-kind
kind-spelt (suc (suc (suc (suc (suc (suc k)))))) is = let high = is.1 in absurd (omega arith)

-- ---- Kinds and lengths

kind-within : (f : ClientFrame) → IsWithin 1 5 (kind_of f)
kind-within (Request r) = (lit≤ tt, lit≤ tt)
kind-within (Reply n r) = (lit≤ tt, lit≤ tt)
kind-within (Redirect p) = (lit≤ tt, lit≤ tt)
kind-within (Busy n) = (lit≤ tt, lit≤ tt)
kind-within Stop = (lit≤ tt, lit≤ tt)

listed-kind : (f : ClientFrame) → is_listed (kind_of f) ≡ true
listed-kind (Request r) = refl
listed-kind (Reply n r) = refl
listed-kind (Redirect p) = refl
listed-kind (Busy n) = refl
listed-kind Stop = refl

listed-within : (kind : ℕ) → is_listed kind ≡ true → IsWithin 1 5 kind
listed-within kind e = by (nat_lt 0 kind) refl (nat_lt kind 6) refl e
  where
    by : (b : Bool) → nat_lt 0 kind ≡ b → (c : Bool) → nat_lt kind 6 ≡ c → (b && c) ≡ true → IsWithin 1 5 kind
    by true f true g h = (grind (arith, nat_tests), grind (arith, nat_tests))
    by true f false g h = absurd cc
    by false f c g h = absurd cc

sized-length : (bs : List ℕ) → length (sized_bytes bs) ≡ 2 + length bs
sized-length bs = length-append (to_be_bytes w16 (length bs)) bs

old-length : (old : Option (List ℕ)) → FitsIfThere IsValue old → length (optional_bytes sized_bytes old) ≤ 4099
old-length None is = lit≤ tt
old-length (Some v) is = let e = sized-length v in let limit = (is v refl).limit in omega arith

command-length : (c : Command) → IsCommand c → length (command_bytes c) ≤ 10000
command-length (command_kind.Put k v) is =
    let a = sized-length k in let b = sized-length v in let d = length-append (sized_bytes k) (sized_bytes v) in let e = is.0.limit in let f = is.1.limit in omega arith
command-length (command_kind.Get k) is = let a = sized-length k in let e = is.limit in omega arith
command-length (command_kind.Del k) is = let a = sized-length k in let e = is.limit in omega arith
command-length (command_kind.Cas k old new) is =
    let a = sized-length k in let b = old-length old is.1 in let c = sized-length new in
    let d = length-append (sized_bytes k ++ optional_bytes sized_bytes old) (sized_bytes new) in let g = length-append (sized_bytes k) (optional_bytes sized_bytes old) in
    let e = is.0.limit in let f = is.2.limit in omega arith

reply-length : (r : KvReply) → IsReply r → length (reply_bytes r) ≤ 10000
reply-length reply_kind.Done is = lit≤ tt
reply-length (reply_kind.Value v) is = let a = sized-length v in let e = is.limit in omega arith
reply-length reply_kind.NoKey is = lit≤ tt
reply-length reply_kind.NoRoom is = lit≤ tt

short-fields : (f : ClientFrame) → IsClientFrame f → length (fields_bytes f) < longest
short-fields (Request r) is =
    let a = command-length r.command is.command in
    let b = length-append (to_be_bytes w64 r.client ++ to_be_bytes w64 r.number) (command_bytes r.command) in
    let c = length-append (to_be_bytes w64 r.client) (to_be_bytes w64 r.number) in omega arith
short-fields (Reply n r) is = let a = reply-length r is.1 in let b = length-append (to_be_bytes w64 n) (reply_bytes r) in omega arith
short-fields (Redirect p) is = lit< tt
short-fields (Busy n) is = lit< tt
short-fields Stop is = lit< tt

-- ---- The laws

fields-of : ℕ → ClientFrame → List ℕ
fields-of kind f = fields_bytes f

frames-law : stand.AreReadAsSpelt client_rules (λ kind f. fields_bytes f) IsOfKind
frames-law = record { listed = listed; short = λ kind f is. short-fields f is.0; reads_back = back; was_spelt = was }
  where
    listed : (kind : ℕ) (f : ClientFrame) → IsOfKind kind f → is_listed kind ≡ true
    listed kind f is = ap is_listed (sym is.1) ∙ listed-kind f

    within : (kind : ℕ) (f : ClientFrame) → IsOfKind kind f → IsWithin 1 5 kind
    within kind f is = subst (λ (k : ℕ). IsWithin 1 5 k) is.1 (kind-within f)

    back : (kind : ℕ) (f : ClientFrame) (at : ℕ) → IsOfKind kind f → read_fields (fields_of_kind kind) at (fields_bytes f) ≡ Ok f
    back kind f at is = fields-read-back (kind-spelt kind (within kind f is)) at f is

    was : (kind : ℕ) (at : ℕ) (bytes : List ℕ) (f : ClientFrame) → AreBytes bytes → is_listed kind ≡ true → length bytes < longest → read_fields (fields_of_kind kind) at bytes ≡ Ok f → IsSpelling fields_bytes (IsOfKind kind) bytes f
    was kind at bytes f are listed short e = fields-were-spelt (kind-spelt kind (listed-within kind listed)) at bytes f are e

pub reads-back : (f : ClientFrame) → ReadsBack f
reads-back f at more is = stand.reads-back client_rules (λ kind g. fields_bytes g) IsOfKind frames-law (kind_of f) f at more (is, refl)

pub was-spelt : (f : ClientFrame) → WasSpelt f
was-spelt f at bytes size are e =
    let s = stand.was-spelt client_rules (λ kind g. fields_bytes g) IsOfKind frames-law at bytes f size are e in
    record {
      within = s.fits.0;
      spelt = s.parts ∙ ap (λ (k : ℕ). frame_of k (fields_bytes f) ++ drop size bytes) (sym s.fits.1);
      ends = s.ends ∙ ap (λ (k : ℕ). length (frame_of k (fields_bytes f))) (sym s.fits.1);
    }

pub no-front : (f g : ClientFrame) → IsNoFrontOf f g
no-front f g more rest is also e =
    let s = stand.only-front client_rules (λ kind h. fields_bytes h) IsOfKind frames-law (kind_of f) (kind_of g) f g more rest (is, refl) (also, refl) e in
    (s.1, s.2)

all-spelt : (frames : List ClientFrame) (stream rest : List ℕ) → stand.AreSpelt (λ kind h. fields_bytes h) IsOfKind frames stream rest → AreSpelt frames stream rest
all-spelt [] stream rest s = record { within = λ f i. absurd i; spelt = s }
all-spelt (x ∷ xs) stream rest s =
    let more = all-spelt xs s.2.0 rest s.2.2 in
    record {
      within = within more.within;
      spelt = s.2.1 ∙ ap (λ (k : ℕ). frame_of k (fields_bytes x) ++ s.2.0) (sym s.1.1) ∙ ap (λ (l : List ℕ). frame_bytes x ++ l) more.spelt ∙ sym (append_assoc (frame_bytes x) (flat_map frame_bytes xs) rest);
    }
  where
    within : ((f : ClientFrame) → In f xs → IsClientFrame f) → (f : ClientFrame) → In f (x ∷ xs) → IsClientFrame f
    within all f (inl e) = subst IsClientFrame (sym e) s.1.0
    within all f (inr i) = all f i

each-spelt : (frames : List ClientFrame) (stream rest : List ℕ) → AreSpelt frames stream rest → stand.AreSpelt (λ kind h. fields_bytes h) IsOfKind frames stream rest
each-spelt [] stream rest s = s.spelt
each-spelt (x ∷ xs) stream rest s = (
  kind_of x,
  (s.within x (inl refl), refl),
  (flat_map frame_bytes xs ++ rest, s.spelt ∙ append_assoc (frame_bytes x) (flat_map frame_bytes xs) rest, each-spelt xs (flat_map frame_bytes xs ++ rest) rest (record { within = λ f i. s.within f (inr i); spelt = refl })),
)

pub longest-read : (stream : List ℕ) (frames : List ClientFrame) (end : ℕ) (rest : List ℕ) → AreBytes stream → Reads client_rules 0 stream frames end rest → IsLongest frames stream rest
longest-read stream frames end rest are reads =
    record {
      spelt = all-spelt frames stream rest (stand.passed-spelt client_rules (λ kind h. fields_bytes h) IsOfKind frames-law 0 stream frames end rest are reads.passes);
      longest = λ others left s. stand.spelt-read client_rules (λ kind h. fields_bytes h) IsOfKind frames-law 0 stream frames end rest others left reads.passes reads.ends (each-spelt others stream left s);
    }

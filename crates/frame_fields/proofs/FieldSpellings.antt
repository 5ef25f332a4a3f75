-- Each field is read as it is spelt.
use Rattle.std.proofs.Common.{◌≡◌, ℕ, zero, suc, ◌+◌, ◌*◌, ◌^◌, ◌%◌, ◌<◌, ◌≤◌, Bool, true, false, List, [], ◌∷◌, ◌++◌, length, take, drop, get_or, fold, nat_lt, ◌==◌, if◌then◌else◌, Option, Some, None, Result, Ok, Err, refl, sym, ap, subst, ◌∙◌, lit<, lit≤, arith, append-nil, append_assoc, inl, inr}
use Rattle.std.proofs.lemmas.Bool.{eqb-true, eq-eqb, ltb-false}
use Rattle.std.proofs.lemmas.Bool.Decides.{nat_tests}
use Rattle.std.proofs.lemmas.List.{take-append-drop, take_at, drop_at}
use Rattle.std.proofs.lemmas.Nat.{be_bytes_2, be_bytes_4, be_bytes_8, from_be_bytes-to_be_bytes_2, from_be_bytes-to_be_bytes_4, from_be_bytes-to_be_bytes_8}
use Rattle.std.specs.Int.{to_be_bytes, from_be_bytes, w8, w16, w32, w64}
use Rattle.jp_types.specs.Limits.{AreBytes, IsKey, IsValue, IsCommand, IsRequest}
use Rattle.jp_types.specs.declared.command.Command.{Command}
use Rattle.jp_types.specs.declared.command.Command.TheVariants.{Put, Get, Del, Cas}
use Rattle.jp_types.specs.declared.command.Reply.{Reply}
use Rattle.jp_types.specs.declared.command.Reply.TheVariants.{Done, Value, NoKey, NoRoom}
use Rattle.jp_types.specs.declared.command.Request.{Request}
use Rattle.frame_fields.specs.Faults.{Fault, BadLength, BadField, told}
use Rattle.frame_fields.specs.Reading.{Place, Reader, gives, fails, ◌>>=◌, too_large, unless, bytes, number, number_within, counter, key, value, optional, command_of_kind, command, reply_of_kind, reply, request, at_end, whole, read_fields}
use Rattle.frame_fields.specs.Spelling.{sized_bytes, optional_bytes, command_bytes, reply_bytes, request_bytes}
use Rattle.frame_fields.specs.Laws.{HasRoom, Spans, WasSpelt, IsReadAsSpelt, IsSpelling, FitsIfThere, IsWithin, IsReply}
use Rattle.frame_fields.proofs.Spellings.{same-place, left-bytes, on-back, on-forth, pair-same, given, field, in_other_words, variant}

-- ---- Bytes

-- so many bytes
abbrev pub AreSoMany : ℕ → List ℕ → Type 0
AreSoMany k bs = (length bs ≡ k) × AreBytes bs

-- the place so many bytes behind
abbrev bytes-behind : ℕ → Place → Place
bytes-behind k p = record p { at = p.at + k; rest = drop k p.rest }

bytes-forth : (k : ℕ) (from : Place) (x : List ℕ) (to : Place) → length x ≡ k → Spans from x to → HasRoom to → bytes k from ≡ Ok (x, to)
bytes-forth k from x to is spans room =
    let taken : take k from.rest ≡ x = ap (λ (l : List ℕ). take k l) spans.rest ∙ take_at x to.rest k is in
    let left : drop k from.rest ≡ to.rest = ap (λ (l : List ℕ). drop k l) spans.rest ∙ drop_at x to.rest k is in
    let test : (length (take k from.rest) == k) ≡ true = eq-eqb (length (take k from.rest)) k (ap length taken ∙ is) in
    let end : from.at + k ≡ to.at = (let e = spans.at in omega arith) in
    let same : bytes-behind k from ≡ to = same-place (bytes-behind k from) to end left (sym spans.batch) in
    let unfilled : too_large from.batch (from.at + k) ≡ None = ap (λ (n : ℕ). too_large from.batch n) end ∙ ap (λ (b : Option ℕ). too_large b to.at) (sym spans.batch) ∙ room in
    passed (length (take k from.rest) == k) test (too_large from.batch (from.at + k)) unfilled ∙ ap (λ (l : List ℕ). Ok (l, bytes-behind k from)) taken ∙ ap (λ (q : Place). Ok (x, q)) same
  where
    passed : (b : Bool) → b ≡ true → (t : Option ℕ) → t ≡ None → (if b then unless t (take k from.rest) (bytes-behind k from) else Err (BadLength (told from.at))) ≡ Ok (take k from.rest, bytes-behind k from)
    passed true f None g = refl
    passed true f (Some s) g = absurd cc
    passed false f t g = absurd cc

pub bytes-spelt : {batch : Option ℕ} (k : ℕ) → IsReadAsSpelt batch (bytes k) (λ bs. bs) (AreSoMany k)
bytes-spelt {batch} k = record { reads_back = λ from x to at is spans room. bytes-forth k from x to is.0 spans room; was_spelt = back }
  where
    back : (from : Place) (x : List ℕ) (to : Place) → from.batch ≡ batch → AreBytes from.rest → HasRoom from → bytes k from ≡ Ok (x, to) → WasSpelt (λ bs. bs) (AreSoMany k) from x to
    back from x to at are room e = go (length (take k from.rest) == k) refl (too_large from.batch (from.at + k)) refl e
      where
        go : (b : Bool) → (length (take k from.rest) == k) ≡ b → (t : Option ℕ) → too_large from.batch (from.at + k) ≡ t → (if b then unless t (take k from.rest) (bytes-behind k from) else Err (BadLength (told from.at))) ≡ Ok (x, to)
            → WasSpelt (λ bs. bs) (AreSoMany k) from x to
        go true f None g h =
            let same = pair-same (take k from.rest) x (bytes-behind k from) to h in
            let size = eqb-true (length (take k from.rest)) k f in
            let whole : from.rest ≡ take k from.rest ++ drop k from.rest = sym (take-append-drop k from.rest) in
            let is : WasSpelt (λ bs. bs) (AreSoMany k) from (take k from.rest) (bytes-behind k from) =
            record {
              fits = (size, left-bytes (take k from.rest) (drop k from.rest) (subst AreBytes whole are));
              spans = record { rest = whole; at = ap (λ (n : ℕ). from.at + n) (sym size); batch = refl };
              room = g;
            } in
            subst (λ (q : Place). WasSpelt (λ bs. bs) (AreSoMany k) from x q) same.1 (subst (λ (l : List ℕ). WasSpelt (λ bs. bs) (AreSoMany k) from l (bytes-behind k from)) same.0 is)
        go true f (Some s) g h = absurd cc
        go false f t g h = absurd cc

-- ---- Numbers

unfoldable pub value_of : List ℕ → ℕ
value_of bs = fold (λ n b. n * 256 + b) 0 bs

value_2 : (bs : List ℕ) → length bs ≡ 2 → value_of bs ≡ from_be_bytes w16 bs
unfolding value_of
value_2 [] l = absurd (omega arith)
value_2 (a ∷ []) l = absurd (omega arith)
value_2 (a ∷ b ∷ []) l = omega arith
value_2 (a ∷ b ∷ c ∷ bs) l = absurd (omega arith)

value_4 : (bs : List ℕ) → length bs ≡ 4 → value_of bs ≡ from_be_bytes w32 bs
unfolding value_of
value_4 [] l = absurd (omega arith)
value_4 (a ∷ []) l = absurd (omega arith)
value_4 (a ∷ b ∷ []) l = absurd (omega arith)
value_4 (a ∷ b ∷ c ∷ []) l = absurd (omega arith)
value_4 (a ∷ b ∷ c ∷ d ∷ []) l = omega arith
value_4 (a ∷ b ∷ c ∷ d ∷ e ∷ bs) l = absurd (omega arith)

value_8 : (bs : List ℕ) → length bs ≡ 8 → value_of bs ≡ from_be_bytes w64 bs
unfolding value_of
value_8 [] l = absurd (omega arith)
value_8 (a ∷ []) l = absurd (omega arith)
value_8 (a ∷ b ∷ []) l = absurd (omega arith)
value_8 (a ∷ b ∷ c ∷ []) l = absurd (omega arith)
value_8 (a ∷ b ∷ c ∷ d ∷ []) l = absurd (omega arith)
value_8 (a ∷ b ∷ c ∷ d ∷ e ∷ []) l = absurd (omega arith)
value_8 (a ∷ b ∷ c ∷ d ∷ e ∷ f ∷ []) l = absurd (omega arith)
value_8 (a ∷ b ∷ c ∷ d ∷ e ∷ f ∷ g ∷ []) l = absurd (omega arith)
value_8 (a ∷ b ∷ c ∷ d ∷ e ∷ f ∷ g ∷ h ∷ []) l = omega arith
value_8 (a ∷ b ∷ c ∷ d ∷ e ∷ f ∷ g ∷ h ∷ x ∷ bs) l = absurd (omega arith)

value_1 : (bs : List ℕ) → length bs ≡ 1 → value_of bs ∷ [] ≡ bs
unfolding value_of
value_1 [] l = absurd (omega arith)
value_1 (a ∷ []) l = let e : 0 * 256 + a ≡ a = omega arith in ap (λ x. x ∷ []) e
value_1 (a ∷ b ∷ bs) l = absurd (omega arith)

by-place : (bs : List ℕ) → AreBytes bs → (i : ℕ) → get_or bs i 0 < 256
by-place [] are i = omega arith
by-place (x ∷ xs) are zero = are x (inl refl)
by-place (x ∷ xs) are (suc i) = by-place xs (λ b h. are b (inr h)) i

-- k bytes spell the numbers below a limit
pub record SpellNumbers (k : ℕ) (enc : ℕ → List ℕ) (limit : ℕ) : Type 0 where
  pub size : (n : ℕ) → n < limit → length (enc n) ≡ k
  pub value : (n : ℕ) → n < limit → value_of (enc n) ≡ n
  pub holds : (bs : List ℕ) → length bs ≡ k → AreBytes bs → enc (value_of bs) ≡ bs

pub numbers-1 : SpellNumbers 1 (λ n. n ∷ []) 256
unfolding value_of
numbers-1 = record { size = λ n lt. refl; value = λ n lt. omega arith; holds = λ bs l are. value_1 bs l }

pub numbers-8-bits : SpellNumbers 1 (to_be_bytes w8) 256
unfolding value_of
numbers-8-bits = record { size = λ n lt. refl; value = λ n lt. omega (arith, lt); holds = holds }
  where
    holds : (bs : List ℕ) → length bs ≡ 1 → AreBytes bs → to_be_bytes w8 (value_of bs) ≡ bs
    holds [] l are = absurd (omega arith)
    holds (a ∷ []) l are = let lt = are a (inl refl) in let e : (0 * 256 + a) % 256 ≡ a = omega (arith, lt) in ap (λ (x : ℕ). x ∷ []) e
    holds (a ∷ b ∷ bs) l are = absurd (omega arith)

pub numbers-2 : SpellNumbers 2 (to_be_bytes w16) (2 ^ 16)
numbers-2 =
    record {
      size = λ n lt. refl;
      value = λ n lt. value_2 (to_be_bytes w16 n) refl ∙ from_be_bytes-to_be_bytes_2 n lt;
      holds = λ bs l are. be_bytes_2 bs (value_of bs) l (by-place bs are) (value_2 bs l);
    }

pub numbers-4 : SpellNumbers 4 (to_be_bytes w32) (2 ^ 32)
numbers-4 =
    record {
      size = λ n lt. refl;
      value = λ n lt. value_4 (to_be_bytes w32 n) refl ∙ from_be_bytes-to_be_bytes_4 n lt;
      holds = λ bs l are. be_bytes_4 bs (value_of bs) l (by-place bs are) (value_4 bs l);
    }

pub numbers-8 : SpellNumbers 8 (to_be_bytes w64) (2 ^ 64)
numbers-8 =
    record {
      size = λ n lt. refl;
      value = λ n lt. value_8 (to_be_bytes w64 n) refl ∙ from_be_bytes-to_be_bytes_8 n lt;
      holds = λ bs l are. be_bytes_8 bs (value_of bs) l (by-place bs are) (value_8 bs l);
    }

-- a test that stops
stop-back : {A : Type 0} (b : Bool) (fault : Fault) (g : Reader A) (p : Place) (z : A × Place) → (if b then fails fault else g) p ≡ Ok z → (b ≡ false) × (g p ≡ Ok z)
stop-back true fault g p z e = absurd cc
stop-back false fault g p z e = (refl, e)

-- a number within its limits
pub number-spelt : {batch : Option ℕ} {k : ℕ} {enc : ℕ → List ℕ} {limit : ℕ} → SpellNumbers k enc limit → (low high : ℕ) → high < limit → IsReadAsSpelt batch (number_within k low high) enc (IsWithin low high)
unfolding value_of
number-spelt {batch} {k} {enc} {limit} spell low high lt = record { reads_back = forth; was_spelt = back }
  where
    test : Place → ℕ → Reader ℕ
    test from n = if nat_lt n low then fails (BadField (told from.at)) else (if nat_lt high n then fails (BadField (told from.at)) else gives n)

    forth : (from : Place) (n : ℕ) (to : Place) → from.batch ≡ batch → IsWithin low high n → Spans from (enc n) to → HasRoom to → number_within k low high from ≡ Ok (n, to)
    forth from n to at is spans room =
        let from-low = is.0 in
        let to-high = is.1 in
        let small : n < limit = omega (arith, lt) in
        let not-low : nat_lt n low ≡ false = grind (arith, nat_tests) in
        let not-high : nat_lt high n ≡ false = grind (arith, nat_tests) in
        let a = bytes-forth k from (enc n) to (spell.size n small) spans room in
        let z : Result (ℕ × Place) Fault = Ok (n, to) in
        let read : number k from ≡ z = on-forth (bytes k from) (λ read. gives (fold (λ n b. n * 256 + b) 0 read)) (enc n) to z a (ap (λ (m : ℕ). Ok (m, to)) (spell.value n small)) in
        on-forth (number k from) (test from) n to z read (rw (not-low, not-high) refl)

    back : (from : Place) (n : ℕ) (to : Place) → from.batch ≡ batch → AreBytes from.rest → HasRoom from → number_within k low high from ≡ Ok (n, to) → WasSpelt enc (IsWithin low high) from n to
    back from n to at are room e =
        let a = on-back (number k from) (test from) n to e in
        let b = stop-back (nat_lt a.0 low) (BadField (told from.at)) (if nat_lt high a.0 then fails (BadField (told from.at)) else gives a.0) a.1 (n, to) a.3 in
        let c = stop-back (nat_lt high a.0) (BadField (told from.at)) (gives a.0) a.1 (n, to) b.1 in
        let same = pair-same a.0 n a.1 to c.1 in
        let d = on-back (bytes k from) (λ read. gives (fold (λ n b. n * 256 + b) 0 read)) a.0 a.1 a.2 in
        let taken = (bytes-spelt {batch = batch} k).was_spelt from d.0 d.1 at are room d.2 in
        let also = pair-same (value_of d.0) a.0 d.1 a.1 d.3 in
        let line : enc n ≡ d.0 = ap enc (sym (also.0 ∙ same.0)) ∙ spell.holds d.0 taken.fits.0 taken.fits.1 in
        let end : d.1 ≡ to = also.1 ∙ same.1 in
        record {
          fits = (subst (λ m. low ≤ m) same.0 (ltb-false a.0 low b.0), subst (λ m. m ≤ high) same.0 (ltb-false high a.0 c.0));
          spans = subst (λ (l : List ℕ). Spans from l to) (sym line) (subst (λ (q : Place). Spans from d.0 q) end taken.spans);
          room = subst (λ (q : Place). HasRoom q) end taken.room;
        }

-- ---- Keys, values and what may be missing

-- a length within its limits, and so many bytes
pub sized-spelt : {batch : Option ℕ} {k : ℕ} {enc : ℕ → List ℕ} {limit : ℕ} → SpellNumbers k enc limit → (low high : ℕ) → high < limit
    → IsReadAsSpelt batch (number_within k low high >>= λ n. bytes n) (λ bs. enc (length bs) ++ bs) (λ bs. IsWithin low high (length bs) × AreSoMany (length bs) bs)
sized-spelt spell low high lt = field length (number-spelt spell low high lt) (λ n bs are. are.0) (λ n within. bytes-spelt n)

pub key-spelt : {batch : Option ℕ} → IsReadAsSpelt batch key sized_bytes IsKey
key-spelt = in_other_words sized_bytes IsKey (sized-spelt numbers-2 1 256 (lit< tt)) (λ bs is. (((is.some, is.limit), (refl, is.bytes)), refl)) (λ bs is. (record { some = is.0.0; limit = is.0.1; bytes = is.1.1 }, refl))

pub value-spelt : {batch : Option ℕ} → IsReadAsSpelt batch value sized_bytes IsValue
value-spelt = in_other_words sized_bytes IsValue (sized-spelt numbers-2 0 4096 (lit< tt)) (λ bs is. (((omega arith, is.limit), (refl, is.bytes)), refl)) (λ bs is. (record { limit = is.0.1; bytes = is.1.1 }, refl))

pub counter-spelt : {batch : Option ℕ} → IsReadAsSpelt batch counter (to_be_bytes w64) (λ n. n ≤ 2 ^ 48)
counter-spelt = in_other_words (to_be_bytes w64) (λ n. n ≤ 2 ^ 48) (number-spelt numbers-8 0 (2 ^ 48) (lit< tt)) (λ n is. ((omega arith, is), refl)) (λ n is. (is.1, refl))

-- the tag of what may be missing, and what stands behind it
abbrev tag_of : {A : Type 0} → Option A → ℕ
tag_of None = 0
tag_of (Some x) = 1

abbrev behind_tag : {A : Type 0} → (A → List ℕ) → Option A → List ℕ
behind_tag spelling None = []
behind_tag spelling (Some x) = spelling x

pub optional-spelt : {A : Type 0} {batch : Option ℕ} {reader : Reader A} {spelling : A → List ℕ} {Fits : A → Type 0} → IsReadAsSpelt batch reader spelling Fits
    → IsReadAsSpelt batch (optional reader) (optional_bytes spelling) (FitsIfThere Fits)
optional-spelt {A} {batch} {reader} {spelling} {Fits} part =
    in_other_words (optional_bytes spelling) (FitsIfThere Fits) (field tag_of (number-spelt numbers-1 0 1 (lit< tt)) (λ n x is. is.1) of_tag) to-tagged from-tagged
  where
    Goes : ℕ → Option A → Type 0
    Goes n x = FitsIfThere Fits x × (tag_of x ≡ n)

    nothing : (x : Option A) → Goes 0 x → (x ≡ None) × (behind_tag spelling x ≡ [])
    nothing None h = (refl, refl)
    nothing (Some x) h = absurd (omega (arith, h.1))

    no-thing : (x : Option A) → x ≡ None → Goes 0 x × (behind_tag spelling x ≡ [])
    no-thing None e = (((λ y f. absurd cc), refl), refl)
    no-thing (Some x) e = absurd cc

    thing : (x : Option A) → Goes 1 x → (y : A) × Fits y × (x ≡ Some y)
    thing None h = absurd (omega (arith, h.1))
    thing (Some x) h = (x, h.0 x refl, refl)

    fits : (x y : A) → Fits x → Some x ≡ Some y → Fits y
    fits x y is e = let same : x ≡ y = cc in subst Fits same is

    of_tag : (n : ℕ) → IsWithin 0 1 n → IsReadAsSpelt batch (if n == 0 then gives None else (reader >>= λ x. gives (Some x))) (behind_tag spelling) (Goes n)
    of_tag zero is = in_other_words (behind_tag spelling) (Goes 0) (given None) nothing no-thing
    of_tag (suc zero) is = variant Some (behind_tag spelling) (Goes 1) part thing (λ x is. ((λ y e. fits x y is e), refl)) (λ x. refl)
    of_tag (suc (suc n)) is = let high = is.1 in absurd (omega arith)

    to-tagged : (x : Option A) → FitsIfThere Fits x → (IsWithin 0 1 (tag_of x) × Goes (tag_of x) x) × (optional_bytes spelling x ≡ (tag_of x ∷ []) ++ behind_tag spelling x)
    to-tagged None is = (((lit≤ tt, lit≤ tt), (is, refl)), refl)
    to-tagged (Some x) is = (((lit≤ tt, lit≤ tt), (is, refl)), refl)

    from-tagged : (x : Option A) → IsWithin 0 1 (tag_of x) × Goes (tag_of x) x → FitsIfThere Fits x × (optional_bytes spelling x ≡ (tag_of x ∷ []) ++ behind_tag spelling x)
    from-tagged None is = (is.1.0, refl)
    from-tagged (Some x) is = (is.1.0, refl)

-- ---- Commands

abbrev kind_of : Command → ℕ
kind_of (Put k v) = 1
kind_of (Get k) = 2
kind_of (Del k) = 3
kind_of (Cas k old new) = 4

-- the parts behind a command's kind; a command without an old or a new value spells none
abbrev key_of : Command → List ℕ
key_of (Put k v) = k
key_of (Get k) = k
key_of (Del k) = k
key_of (Cas k old new) = k

abbrev old_of : Command → Option (List ℕ)
old_of (Put k v) = None
old_of (Get k) = None
old_of (Del k) = None
old_of (Cas k old new) = old

abbrev new_of : Command → List ℕ
new_of (Put k v) = v
new_of (Get k) = []
new_of (Del k) = []
new_of (Cas k old new) = new

abbrev parts_of : Command → List ℕ
parts_of (Put k v) = sized_bytes k ++ sized_bytes v
parts_of (Get k) = sized_bytes k
parts_of (Del k) = sized_bytes k
parts_of (Cas k old new) = sized_bytes k ++ optional_bytes sized_bytes old ++ sized_bytes new

abbrev IsOfKind : ℕ → Command → Type 0
IsOfKind kind c = IsCommand c × (kind_of c ≡ kind)

module _ {batch : Option ℕ} where
  put-spelt : IsReadAsSpelt batch (key >>= λ k. value >>= λ v. gives (Put k v)) parts_of (IsOfKind 1)
  put-spelt =
      in_other_words parts_of (IsOfKind 1)
      (field key_of key-spelt (λ k c is. ap key_of is.1) (λ k is. field new_of value-spelt (λ v c is. ap new_of is) (λ v is. given (Put k v))))
      to-parts from-parts
    where
      to-parts : (c : Command) → IsOfKind 1 c → (IsKey (key_of c) × (IsValue (new_of c) × (c ≡ Put (key_of c) (new_of c)))) × (parts_of c ≡ sized_bytes (key_of c) ++ (sized_bytes (new_of c) ++ []))
      to-parts (Put k v) is = ((is.0.0, (is.0.1, refl)), ap (λ l. sized_bytes k ++ l) (sym (append-nil (sized_bytes v))))
      to-parts (Get k) is = absurd (omega (arith, is.1))
      to-parts (Del k) is = absurd (omega (arith, is.1))
      to-parts (Cas k old new) is = absurd (omega (arith, is.1))

      from-parts : (c : Command) → IsKey (key_of c) × (IsValue (new_of c) × (c ≡ Put (key_of c) (new_of c))) → IsOfKind 1 c × (parts_of c ≡ sized_bytes (key_of c) ++ (sized_bytes (new_of c) ++ []))
      from-parts (Put k v) is = (((is.0, is.1.0), refl), ap (λ l. sized_bytes k ++ l) (sym (append-nil (sized_bytes v))))
      from-parts (Get k) is = let e = is.1.1 in absurd cc
      from-parts (Del k) is = let e = is.1.1 in absurd cc
      from-parts (Cas k old new) is = let e = is.1.1 in absurd cc

  get-spelt : IsReadAsSpelt batch (key >>= λ k. gives (Get k)) parts_of (IsOfKind 2)
  get-spelt = variant (λ k. Get k) parts_of (IsOfKind 2) key-spelt of (λ k is. (is, refl)) (λ k. refl)
    where
      of : (c : Command) → IsOfKind 2 c → (k : List ℕ) × IsKey k × (c ≡ Get k)
      of (Put k v) is = absurd (omega (arith, is.1))
      of (Get k) is = (k, is.0, refl)
      of (Del k) is = absurd (omega (arith, is.1))
      of (Cas k old new) is = absurd (omega (arith, is.1))

  del-spelt : IsReadAsSpelt batch (key >>= λ k. gives (Del k)) parts_of (IsOfKind 3)
  del-spelt = variant (λ k. Del k) parts_of (IsOfKind 3) key-spelt of (λ k is. (is, refl)) (λ k. refl)
    where
      of : (c : Command) → IsOfKind 3 c → (k : List ℕ) × IsKey k × (c ≡ Del k)
      of (Put k v) is = absurd (omega (arith, is.1))
      of (Get k) is = absurd (omega (arith, is.1))
      of (Del k) is = (k, is.0, refl)
      of (Cas k old new) is = absurd (omega (arith, is.1))

  cas-spelt : IsReadAsSpelt batch (key >>= λ k. optional value >>= λ old. value >>= λ new. gives (Cas k old new)) parts_of (IsOfKind 4)
  cas-spelt =
      in_other_words parts_of (IsOfKind 4)
      (field key_of key-spelt (λ k c is. ap key_of is.1.1)
      (λ k is. field old_of (optional-spelt value-spelt) (λ old c is. ap old_of is.1) (λ old is. field new_of value-spelt (λ new c is. ap new_of is) (λ new is. given (Cas k old new)))))
      to-parts from-parts
    where
      line : (a b c : List ℕ) → (a ++ b) ++ c ≡ a ++ (b ++ (c ++ []))
      line a b c = simp (append_assoc, append-nil)

      to-parts : (c : Command) → IsOfKind 4 c → (IsKey (key_of c) × (FitsIfThere IsValue (old_of c) × (IsValue (new_of c) × (c ≡ Cas (key_of c) (old_of c) (new_of c)))))
          × (parts_of c ≡ sized_bytes (key_of c) ++ (optional_bytes sized_bytes (old_of c) ++ (sized_bytes (new_of c) ++ [])))
      to-parts (Put k v) is = absurd (omega (arith, is.1))
      to-parts (Get k) is = absurd (omega (arith, is.1))
      to-parts (Del k) is = absurd (omega (arith, is.1))
      to-parts (Cas k old new) is = ((is.0.0, (is.0.1, (is.0.2, refl))), line (sized_bytes k) (optional_bytes sized_bytes old) (sized_bytes new))

      from-parts : (c : Command) → IsKey (key_of c) × (FitsIfThere IsValue (old_of c) × (IsValue (new_of c) × (c ≡ Cas (key_of c) (old_of c) (new_of c))))
          → IsOfKind 4 c × (parts_of c ≡ sized_bytes (key_of c) ++ (optional_bytes sized_bytes (old_of c) ++ (sized_bytes (new_of c) ++ [])))
      from-parts (Put k v) is = let e = is.1.1.1 in absurd cc
      from-parts (Get k) is = let e = is.1.1.1 in absurd cc
      from-parts (Del k) is = let e = is.1.1.1 in absurd cc
      from-parts (Cas k old new) is = (((is.0, is.1.0, is.1.1.0), refl), line (sized_bytes k) (optional_bytes sized_bytes old) (sized_bytes new))

  of-kind-spelt : (kind : ℕ) → IsWithin 1 4 kind → IsReadAsSpelt batch (command_of_kind kind) parts_of (IsOfKind kind)
  of-kind-spelt zero is = let low = is.0 in absurd (omega arith)
  of-kind-spelt (suc zero) is = put-spelt
  of-kind-spelt (suc (suc zero)) is = get-spelt
  of-kind-spelt (suc (suc (suc zero))) is = del-spelt
  of-kind-spelt (suc (suc (suc (suc zero)))) is = cas-spelt
  of-kind-spelt (suc (suc (suc (suc (suc k))))) is = let high = is.1 in absurd (omega arith)

  pub command-spelt : IsReadAsSpelt batch command command_bytes IsCommand
  command-spelt = in_other_words command_bytes IsCommand (field kind_of (number-spelt numbers-1 1 4 (lit< tt)) (λ kind c is. is.1) of-kind-spelt) to-kind from-kind
    where
      line : (c : Command) → command_bytes c ≡ (kind_of c ∷ []) ++ parts_of c
      line (Put k v) = refl
      line (Get k) = refl
      line (Del k) = refl
      line (Cas k old new) = refl

      kind : (c : Command) → IsWithin 1 4 (kind_of c)
      kind (Put k v) = (lit≤ tt, lit≤ tt)
      kind (Get k) = (lit≤ tt, lit≤ tt)
      kind (Del k) = (lit≤ tt, lit≤ tt)
      kind (Cas k old new) = (lit≤ tt, lit≤ tt)

      to-kind : (c : Command) → IsCommand c → (IsWithin 1 4 (kind_of c) × IsOfKind (kind_of c) c) × (command_bytes c ≡ (kind_of c ∷ []) ++ parts_of c)
      to-kind c is = ((kind c, (is, refl)), line c)

      from-kind : (c : Command) → IsWithin 1 4 (kind_of c) × IsOfKind (kind_of c) c → IsCommand c × (command_bytes c ≡ (kind_of c ∷ []) ++ parts_of c)
      from-kind c is = (is.1.0, line c)

  -- ---- Requests

  pub request-spelt : IsReadAsSpelt batch request request_bytes IsRequest
  request-spelt =
      in_other_words request_bytes IsRequest
      (field (λ r. r.client) (number-spelt numbers-8 0 1023 (lit< tt)) (λ client r is. ap (λ (q : Request). q.client) is.1.1)
      (λ client is. field (λ r. r.number) (number-spelt numbers-8 1 (2 ^ 48) (lit< tt)) (λ number r is. ap (λ (q : Request). q.number) is.1)
      (λ number is. field (λ r. r.command) command-spelt (λ command r is. ap (λ (q : Request). q.command) is)
      (λ command is. given (record { client = client; number = number; command = command })))))
      (λ r is. (((omega arith, is.client), (is.number, (is.command, refl))), line (to_be_bytes w64 r.client) (to_be_bytes w64 r.number) (command_bytes r.command)))
      (λ r is. (record { client = is.0.1; number = is.1.0; command = is.1.1.0 }, line (to_be_bytes w64 r.client) (to_be_bytes w64 r.number) (command_bytes r.command)))
    where
      line : (a b c : List ℕ) → (a ++ b) ++ c ≡ a ++ (b ++ (c ++ []))
      line a b c = simp (append_assoc, append-nil)

-- ---- Replies

abbrev reply_kind : Reply → ℕ
reply_kind Done = 1
reply_kind (Value v) = 2
reply_kind NoKey = 3
reply_kind NoRoom = 4

-- what stands behind a reply's kind
abbrev reply_part : Reply → List ℕ
reply_part Done = []
reply_part (Value v) = sized_bytes v
reply_part NoKey = []
reply_part NoRoom = []

abbrev IsReplyOf : ℕ → Reply → Type 0
IsReplyOf kind r = IsReply r × (reply_kind r ≡ kind)

module _ {batch : Option ℕ} where
  done-spelt : IsReadAsSpelt batch (gives Done) reply_part (IsReplyOf 1)
  done-spelt = in_other_words reply_part (IsReplyOf 1) (given Done) to from
    where
      to : (r : Reply) → IsReplyOf 1 r → (r ≡ Done) × (reply_part r ≡ [])
      to Done is = (refl, refl)
      to (Value v) is = absurd (omega (arith, is.1))
      to NoKey is = absurd (omega (arith, is.1))
      to NoRoom is = absurd (omega (arith, is.1))

      from : (r : Reply) → r ≡ Done → IsReplyOf 1 r × (reply_part r ≡ [])
      from Done e = ((tt, refl), refl)
      from (Value v) e = absurd cc
      from NoKey e = absurd cc
      from NoRoom e = absurd cc

  no_key-spelt : IsReadAsSpelt batch (gives NoKey) reply_part (IsReplyOf 3)
  no_key-spelt = in_other_words reply_part (IsReplyOf 3) (given NoKey) to from
    where
      to : (r : Reply) → IsReplyOf 3 r → (r ≡ NoKey) × (reply_part r ≡ [])
      to Done is = absurd (omega (arith, is.1))
      to (Value v) is = absurd (omega (arith, is.1))
      to NoKey is = (refl, refl)
      to NoRoom is = absurd (omega (arith, is.1))

      from : (r : Reply) → r ≡ NoKey → IsReplyOf 3 r × (reply_part r ≡ [])
      from Done e = absurd cc
      from (Value v) e = absurd cc
      from NoKey e = ((tt, refl), refl)
      from NoRoom e = absurd cc

  no_room-spelt : IsReadAsSpelt batch (gives NoRoom) reply_part (IsReplyOf 4)
  no_room-spelt = in_other_words reply_part (IsReplyOf 4) (given NoRoom) to from
    where
      to : (r : Reply) → IsReplyOf 4 r → (r ≡ NoRoom) × (reply_part r ≡ [])
      to Done is = absurd (omega (arith, is.1))
      to (Value v) is = absurd (omega (arith, is.1))
      to NoKey is = absurd (omega (arith, is.1))
      to NoRoom is = (refl, refl)

      from : (r : Reply) → r ≡ NoRoom → IsReplyOf 4 r × (reply_part r ≡ [])
      from Done e = absurd cc
      from (Value v) e = absurd cc
      from NoKey e = absurd cc
      from NoRoom e = ((tt, refl), refl)

  answer-spelt : IsReadAsSpelt batch (value >>= λ v. gives (Value v)) reply_part (IsReplyOf 2)
  answer-spelt = variant (λ v. Value v) reply_part (IsReplyOf 2) value-spelt of (λ v is. (is, refl)) (λ v. refl)
    where
      of : (r : Reply) → IsReplyOf 2 r → (v : List ℕ) × IsValue v × (r ≡ Value v)
      of Done is = absurd (omega (arith, is.1))
      of (Value v) is = (v, is.0, refl)
      of NoKey is = absurd (omega (arith, is.1))
      of NoRoom is = absurd (omega (arith, is.1))

  reply-of-kind-spelt : (kind : ℕ) → IsWithin 1 4 kind → IsReadAsSpelt batch (reply_of_kind kind) reply_part (IsReplyOf kind)
  reply-of-kind-spelt zero is = let low = is.0 in absurd (omega arith)
  reply-of-kind-spelt (suc zero) is = done-spelt
  reply-of-kind-spelt (suc (suc zero)) is = answer-spelt
  reply-of-kind-spelt (suc (suc (suc zero))) is = no_key-spelt
  reply-of-kind-spelt (suc (suc (suc (suc zero)))) is = no_room-spelt
  reply-of-kind-spelt (suc (suc (suc (suc (suc k))))) is = let high = is.1 in absurd (omega arith)

  pub reply-spelt : IsReadAsSpelt batch reply reply_bytes IsReply
  reply-spelt = in_other_words reply_bytes IsReply (field reply_kind (number-spelt numbers-1 1 4 (lit< tt)) (λ kind r is. is.1) reply-of-kind-spelt) to-kind from-kind
    where
      line : (r : Reply) → reply_bytes r ≡ (reply_kind r ∷ []) ++ reply_part r
      line Done = refl
      line (Value v) = refl
      line NoKey = refl
      line NoRoom = refl

      kind : (r : Reply) → IsWithin 1 4 (reply_kind r)
      kind Done = (lit≤ tt, lit≤ tt)
      kind (Value v) = (lit≤ tt, lit≤ tt)
      kind NoKey = (lit≤ tt, lit≤ tt)
      kind NoRoom = (lit≤ tt, lit≤ tt)

      to-kind : (r : Reply) → IsReply r → (IsWithin 1 4 (reply_kind r) × IsReplyOf (reply_kind r) r) × (reply_bytes r ≡ (reply_kind r ∷ []) ++ reply_part r)
      to-kind r is = ((kind r, (is, refl)), line r)

      from-kind : (r : Reply) → IsWithin 1 4 (reply_kind r) × IsReplyOf (reply_kind r) r → IsReply r × (reply_bytes r ≡ (reply_kind r ∷ []) ++ reply_part r)
      from-kind r is = (is.1.0, line r)

-- ---- Whole frames

-- the fields of a whole frame read back
pub fields-read-back : {A : Type 0} {reader : Reader A} {spelling : A → List ℕ} {Fits : A → Type 0} → IsReadAsSpelt None reader spelling Fits → (at : ℕ) (x : A) → Fits x → read_fields reader at (spelling x) ≡ Ok x
fields-read-back {A} {reader} {spelling} law at x is =
    let begin : Place = record { at = at; rest = spelling x; batch = None } in
    let end : Place = record { at = at + length (spelling x); rest = []; batch = None } in
    let read = law.reads_back begin x end refl is (record { rest = sym (append-nil (spelling x)); at = refl; batch = refl }) refl in
    ap (λ (r : Result (A × Place) Fault). whole r) read

-- the fields of a whole frame were spelt so
pub fields-were-spelt : {A : Type 0} {reader : Reader A} {spelling : A → List ℕ} {Fits : A → Type 0} → IsReadAsSpelt None reader spelling Fits → (at : ℕ) (bs : List ℕ) (x : A) → AreBytes bs → read_fields reader at bs ≡ Ok x → IsSpelling spelling Fits bs x
fields-were-spelt {A} {reader} {spelling} {Fits} law at bs x are e = go (reader begin) refl e
  where
    begin : Place
    begin = record { at = at; rest = bs; batch = None }

    ended : (y : A) (q : Place) → reader begin ≡ Ok (y, q) → (rest : List ℕ) → q.rest ≡ rest → at_end y rest q.at ≡ Ok x → IsSpelling spelling Fits bs x
    ended y q f [] g h =
        let same : y ≡ x = cc in
        let was = law.was_spelt begin y q refl are refl f in
        let is : IsSpelling spelling Fits bs y = record { fits = was.fits; spelt = was.spans.rest ∙ ap (λ (l : List ℕ). spelling y ++ l) g ∙ append-nil (spelling y) } in
        subst (λ (z : A). IsSpelling spelling Fits bs z) same is
    ended y q f (b ∷ rest) g h = absurd cc

    go : (r : Result (A × Place) Fault) → reader begin ≡ r → whole r ≡ Ok x → IsSpelling spelling Fits bs x
    go (Err fault) f h = absurd cc
    go (Ok r) f h = ended r.0 r.1 f r.1.rest refl h

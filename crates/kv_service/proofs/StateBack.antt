-- Bytes that read as a state are that state's, which is within its limits.
use Rattle.std.proofs.Common.{◌≡◌, ℕ, zero, suc, ◌+◌, ◌*◌, ◌^◌, ◌<◌, ◌≤◌, Bool, true, false, List, [], ◌∷◌, ◌++◌, length, take, drop, get_or, fold, nat_lt, nat_cmp, ◌==◌, if◌then◌else◌, Option, Some, None, Result, Ok, Err, refl, sym, ap, subst, ◌∙◌, arith, append-nil, append_assoc}
use Rattle.std.specs.declared.cmp.Ordering.{Ordering}
use Rattle.std.specs.declared.cmp.Ordering.TheVariants.{Less, Equal, Greater}
use Rattle.std.specs.Ordering.{is_lt}
use Rattle.std.specs.Cmp.{IsTotalOrder, nat_cmp_total}
use Rattle.std.specs.Cmp.Lexicographic.{nat_list_cmp_total}
use Rattle.std.specs.List.{AllByRecursion, flat_map}
use Rattle.std.specs.List.Sorted.{IsStrictlySortedBy}
use Rattle.std.specs.Map.{keys_of}
use Rattle.std.specs.Int.{to_be_bytes, from_be_bytes, w16, w32, w64}
use Rattle.std.proofs.lemmas.Bool.{eqb-true, ltb-false}
use Rattle.std.proofs.lemmas.List.{take-append-drop}
use Rattle.std.proofs.lemmas.Nat.{be_bytes_2, be_bytes_4, be_bytes_8}
use Rattle.jp_types.specs.declared.command.Reply.{Reply}
use Rattle.jp_types.specs.declared.command.Reply.TheVariants.{Done, Value, NoKey, NoRoom}
use Rattle.kv_service.specs.Ascending.{IsAscending}
use Rattle.kv_service.specs.Service.{State}
use Rattle.kv_service.specs.Store.{Store, bytes_cmp}
use Rattle.kv_service.specs.StateBytes.{sized_bytes, pair_bytes, reply_bytes, client_bytes, state_bytes}
use Rattle.kv_service.specs.StateReading.{Fault, BadField, TooLong, Unordered, Place, Reader, gives, fails, read_on, ◌>>=◌, bytes, number, number_within, count_within, key, value, reply_of_kind, reply, follows, pairs, clients, state, at_end, whole, read_state}
use Rattle.kv_service.specs.Limits.{IsReply, IsPair, IsLast, IsWithinLimits}
use Rattle.kv_service.specs.StateTelling.{pair, client}
use Rattle.kv_service.proofs.ReadingLoops.{IsOneByOne, Last, pairs_one_by_one, clients_one_by_one}

-- ---- Steps of a reader that gave a value

-- a read value and what f reads behind it
on-back : {A B : Type 0} (r : Result (A × Place) Fault) (f : A → Reader B) (y : B) (q : Place) → read_on r f ≡ Ok (y, q) → (x : A) × (p : Place) × (r ≡ Ok (x, p)) × (f x p ≡ Ok (y, q))
on-back (Ok r) f y q e = (r.0, r.1, refl, e)
on-back (Err fault) f y q e = absurd cc

-- a test that stops
stop-back : {A : Type 0} (b : Bool) (fault : Fault) (g : Reader A) (p : Place) (z : A × Place) → (if b then fails fault else g) p ≡ Ok z → (b ≡ false) × (g p ≡ Ok z)
stop-back true fault g p z e = absurd cc
stop-back false fault g p z e = (refl, e)

-- a test that goes on
go-back : {A : Type 0} (b : Bool) (fault : Fault) (g : Reader A) (p : Place) (z : A × Place) → (if b then g else fails fault) p ≡ Ok z → (b ≡ true) × (g p ≡ Ok z)
go-back true fault g p z e = (refl, e)
go-back false fault g p z e = absurd cc

given : {A : Type 0} (x y : A) (p q : Place) → gives x p ≡ Ok (y, q) → (x ≡ y) × (p ≡ q)
given {A} x y p q e =
    let a : A × Place = (x, p) in
    let b : A × Place = (y, q) in
    let f : a ≡ b = cc in
    (ap (λ (z : A × Place). z.0) f, ap (λ (z : A × Place). z.1) f)

-- ---- Bytes

abbrev pub AreBytes : List ℕ → Type 0
AreBytes bs = (i : ℕ) → get_or bs i 0 < 256

left-bytes : (xs ys : List ℕ) → AreBytes (xs ++ ys) → AreBytes xs
left-bytes [] ys are i = omega arith
left-bytes (x ∷ xs) ys are zero = are zero
left-bytes (x ∷ xs) ys are (suc i) = left-bytes xs ys (λ j. are (suc j)) i

right-bytes : (xs ys : List ℕ) → AreBytes (xs ++ ys) → AreBytes ys
right-bytes [] ys are = are
right-bytes (x ∷ xs) ys are = right-bytes xs ys (λ j. are (suc j))

-- what a reader that gave x took from the front
record Takes (p : Place) (text : List ℕ) (q : Place) : Type 0 where
  parts : p.rest ≡ text ++ q.rest
  bytes : AreBytes q.rest

takes : (p : Place) (text : List ℕ) (q : Place) → AreBytes p.rest → p.rest ≡ text ++ q.rest → Takes p text q
takes p text q are e = record { parts = e; bytes = right-bytes text q.rest (subst AreBytes e are) }

takes-then : (p : Place) (a : List ℕ) (q : Place) (b : List ℕ) (r : Place) → Takes p a q → Takes q b r → Takes p (a ++ b) r
takes-then p a q b r h k = record { parts = h.parts ∙ ap (λ (l : List ℕ). a ++ l) k.parts ∙ sym (append_assoc a b r.rest); bytes = k.bytes }

-- of bytes, a reader gives only what stands so in front
abbrev Back : {A : Type 0} → Reader A → (A → List ℕ) → Type 0
Back {A} reader enc = (p : Place) (x : A) (q : Place) → AreBytes p.rest → reader p ≡ Ok (x, q) → Takes p (enc x) q

bytes-back : (k : ℕ) (p : Place) (x : List ℕ) (q : Place) → bytes k p ≡ Ok (x, q) → (p.rest ≡ x ++ q.rest) × (length x ≡ k)
bytes-back k p x q e = go (length (take k p.rest) == k) refl e
  where
    next : Place
    next = record { at = p.at + k; rest = drop k p.rest }

    read : List ℕ × Place
    read = (take k p.rest, next)

    gave : List ℕ × Place
    gave = (x, q)

    go : (b : Bool) → (length (take k p.rest) == k) ≡ b → (if b then Ok read else Err (Fault.Truncated p.at)) ≡ Ok gave → (p.rest ≡ x ++ q.rest) × (length x ≡ k)
    go true f g =
        let h : read ≡ gave = cc in
        (subst (λ (z : List ℕ × Place). p.rest ≡ z.0 ++ z.1.rest) h (sym (take-append-drop k p.rest)), subst (λ (z : List ℕ × Place). length z.0 ≡ k) h (eqb-true (length (take k p.rest)) k f))
    go false f g = absurd cc

-- ---- Numbers

unfoldable pub value_of : List ℕ → ℕ
value_of bs = fold (λ n b. n * 256 + b) 0 bs

pub value_2 : (bs : List ℕ) → length bs ≡ 2 → value_of bs ≡ from_be_bytes w16 bs
unfolding value_of
value_2 [] l = absurd (omega arith)
value_2 (a ∷ []) l = absurd (omega arith)
value_2 (a ∷ b ∷ []) l = omega arith
value_2 (a ∷ b ∷ c ∷ bs) l = absurd (omega arith)

pub value_4 : (bs : List ℕ) → length bs ≡ 4 → value_of bs ≡ from_be_bytes w32 bs
unfolding value_of
value_4 [] l = absurd (omega arith)
value_4 (a ∷ []) l = absurd (omega arith)
value_4 (a ∷ b ∷ []) l = absurd (omega arith)
value_4 (a ∷ b ∷ c ∷ []) l = absurd (omega arith)
value_4 (a ∷ b ∷ c ∷ d ∷ []) l = omega arith
value_4 (a ∷ b ∷ c ∷ d ∷ e ∷ bs) l = absurd (omega arith)

pub value_8 : (bs : List ℕ) → length bs ≡ 8 → value_of bs ≡ from_be_bytes w64 bs
unfolding value_of
value_8 [] l = absurd (omega arith)
value_8 (a ∷ []) l = absurd (omega arith)
value_8 (a ∷ b ∷ []) l = absurd (omega arith)
value_8 (a ∷ b ∷ c ∷ []) l = absurd (omega arith)
value_8 (a ∷ b ∷ c ∷ d ∷ []) l = absurd (omega arith)
value_8 (a ∷ b ∷ c ∷ d ∷ e ∷ []) l = absurd (omega arith)
value_8 (a ∷ b ∷ c ∷ d ∷ e ∷ f ∷ []) l = absurd (omega arith)
value_8 (a ∷ b ∷ c ∷ d ∷ e ∷ f ∷ g ∷ []) l = absurd (omega arith)
value_8 (a ∷ b ∷ c ∷ d ∷ e ∷ f ∷ g ∷ h ∷ []) l = omega arith
value_8 (a ∷ b ∷ c ∷ d ∷ e ∷ f ∷ g ∷ h ∷ x ∷ bs) l = absurd (omega arith)

value_1 : (bs : List ℕ) → length bs ≡ 1 → value_of bs ∷ [] ≡ bs
unfolding value_of
value_1 [] l = absurd (omega arith)
value_1 (a ∷ []) l = let e : 0 * 256 + a ≡ a = omega arith in ap (λ x. x ∷ []) e
value_1 (a ∷ b ∷ bs) l = absurd (omega arith)

-- k bytes hold their value in this way
abbrev Holds : ℕ → (ℕ → List ℕ) → Type 0
Holds k enc = (bs : List ℕ) → length bs ≡ k → AreBytes bs → enc (value_of bs) ≡ bs

holds-1 : Holds 1 (λ n. n ∷ [])
holds-1 bs l are = value_1 bs l

holds-2 : Holds 2 (to_be_bytes w16)
holds-2 bs l are = be_bytes_2 bs (value_of bs) l are (value_2 bs l)

holds-4 : Holds 4 (to_be_bytes w32)
holds-4 bs l are = be_bytes_4 bs (value_of bs) l are (value_4 bs l)

holds-8 : Holds 8 (to_be_bytes w64)
holds-8 bs l are = be_bytes_8 bs (value_of bs) l are (value_8 bs l)

number-back : (k : ℕ) (enc : ℕ → List ℕ) → Holds k enc → Back (number k) enc
unfolding value_of
number-back k enc holds p n q are e =
    let a = on-back (bytes k p) (λ read. gives (fold (λ n b. n * 256 + b) 0 read)) n q e in
    let b = bytes-back k p a.0 a.1 a.2 in
    let g = given (value_of a.0) n a.1 q a.3 in
    let h = holds a.0 b.1 (left-bytes a.0 a.1.rest (subst AreBytes b.0 are)) in
    takes p (enc n) q are (b.0 ∙ ap (λ xs. xs ++ a.1.rest) (sym h) ∙ ap (λ m. enc m ++ a.1.rest) g.0 ∙ ap (λ (z : Place). enc n ++ z.rest) g.1)

within-back : (k low high : ℕ) (enc : ℕ → List ℕ) → Holds k enc → (p : Place) (n : ℕ) (q : Place) → AreBytes p.rest → number_within k low high p ≡ Ok (n, q) → Takes p (enc n) q × (low ≤ n) × (n ≤ high)
within-back k low high enc holds p n q are e =
    let a = on-back (number k p) (λ m. if nat_lt m low then fails (BadField p.at) else (if nat_lt high m then fails (BadField p.at) else gives m)) n q e in
    let b = stop-back (nat_lt a.0 low) (BadField p.at) (if nat_lt high a.0 then fails (BadField p.at) else gives a.0) a.1 (n, q) a.3 in
    let d = stop-back (nat_lt high a.0) (BadField p.at) (gives a.0) a.1 (n, q) b.1 in
    let g = given a.0 n a.1 q d.1 in
    let h = number-back k enc holds p a.0 a.1 are a.2 in (
      takes p (enc n) q are (h.parts ∙ ap (λ m. enc m ++ a.1.rest) g.0 ∙ ap (λ (z : Place). enc n ++ z.rest) g.1),
      subst (λ m. low ≤ m) g.0 (ltb-false a.0 low b.0),
      subst (λ m. m ≤ high) g.0 (ltb-false high a.0 d.0),
    )

count-back : (k low high : ℕ) (enc : ℕ → List ℕ) → Holds k enc → (p : Place) (n : ℕ) (q : Place) → AreBytes p.rest → count_within k low high p ≡ Ok (n, q) → Takes p (enc n) q × (low ≤ n) × (n ≤ high)
count-back k low high enc holds p n q are e =
    let a = on-back (number k p) (λ m. if nat_lt high m then fails (TooLong p.at) else (if nat_lt m low then fails (BadField p.at) else gives m)) n q e in
    let b = stop-back (nat_lt high a.0) (TooLong p.at) (if nat_lt a.0 low then fails (BadField p.at) else gives a.0) a.1 (n, q) a.3 in
    let d = stop-back (nat_lt a.0 low) (BadField p.at) (gives a.0) a.1 (n, q) b.1 in
    let g = given a.0 n a.1 q d.1 in
    let h = number-back k enc holds p a.0 a.1 are a.2 in (
      takes p (enc n) q are (h.parts ∙ ap (λ m. enc m ++ a.1.rest) g.0 ∙ ap (λ (z : Place). enc n ++ z.rest) g.1),
      subst (λ m. low ≤ m) g.0 (ltb-false a.0 low d.0),
      subst (λ m. m ≤ high) g.0 (ltb-false high a.0 b.0),
    )

-- ---- Keys, values, replies

-- a length within these and so many bytes
abbrev SizedBack : Reader (List ℕ) → ℕ → ℕ → Type 0
SizedBack reader low high = (p : Place) (x : List ℕ) (q : Place) → AreBytes p.rest → reader p ≡ Ok (x, q) → Takes p (sized_bytes x) q × (low ≤ length x) × (length x ≤ high)

sized-back : (low high : ℕ) → SizedBack (count_within 2 low high >>= λ n. bytes n) low high
sized-back low high p x q are e =
    let a = on-back (count_within 2 low high p) (λ n. bytes n) x q e in
    let b = count-back 2 low high (to_be_bytes w16) holds-2 p a.0 a.1 are a.2 in
    let d = bytes-back a.0 a.1 x q a.3 in
    let both = takes-then p (to_be_bytes w16 a.0) a.1 x q b.0 (takes a.1 x q b.0.bytes d.0) in
    subst (λ (m : ℕ). Takes p (to_be_bytes w16 m ++ x) q × (low ≤ m) × (m ≤ high)) (sym d.1) (both, b.1, b.2)

key-back : SizedBack key 1 256
key-back = sized-back 1 256

value-back : SizedBack value 0 4096
value-back = sized-back 0 4096

reply-back : (p : Place) (x : Reply) (q : Place) → AreBytes p.rest → reply p ≡ Ok (x, q) → Takes p (reply_bytes x) q × IsReply x
reply-back p x q are e =
    let a = on-back (number_within 1 1 4 p) (λ kind. reply_of_kind kind) x q e in
    let b = within-back 1 1 4 (λ n. n ∷ []) holds-1 p a.0 a.1 are a.2 in
    let r = of_kind a.0 a.1 b.0.bytes b.1 b.2 a.3 in
    (takes p (reply_bytes x) q are (b.0.parts ∙ r.0), r.1)
  where
    plain : (kind : ℕ) (y : Reply) (r : Place) → (kind ∷ r.rest ≡ reply_bytes y ++ r.rest) → IsReply y → gives y r ≡ Ok (x, q) → (kind ∷ r.rest ≡ reply_bytes x ++ q.rest) × IsReply x
    plain kind y r first is f =
        let g = given y x r q f in
        (ap (λ (z : Place). kind ∷ z.rest) g.1 ∙ subst (λ (z : Place). kind ∷ z.rest ≡ reply_bytes y ++ z.rest) g.1 first ∙ ap (λ (w : Reply). reply_bytes w ++ q.rest) g.0, subst IsReply g.0 is)

    of_kind : (kind : ℕ) (r : Place) → AreBytes r.rest → 1 ≤ kind → kind ≤ 4 → reply_of_kind kind r ≡ Ok (x, q) → (kind ∷ r.rest ≡ reply_bytes x ++ q.rest) × IsReply x
    of_kind zero r are lo hi f = absurd (omega (arith, lo))
    of_kind (suc zero) r are lo hi f = plain 1 Done r refl tt f
    of_kind (suc (suc zero)) r are lo hi f =
        let a = on-back (value r) (λ v. gives (Value v)) x q f in
        let g = given (Value a.0) x a.1 q a.3 in
        let h = value-back r a.0 a.1 are a.2 in
        (ap (λ xs. 2 ∷ xs) (h.0.parts ∙ ap (λ (z : Place). sized_bytes a.0 ++ z.rest) g.1) ∙ ap (λ (y : Reply). reply_bytes y ++ q.rest) g.0, subst IsReply g.0 h.2)
    of_kind (suc (suc (suc zero))) r are lo hi f = plain 3 NoKey r refl tt f
    of_kind (suc (suc (suc (suc zero)))) r are lo hi f = plain 4 NoRoom r refl tt f
    of_kind (suc (suc (suc (suc (suc k))))) r are lo hi f = absurd (omega (arith, hi))

-- ---- One entry

-- one entry that is read stands so in front, and its key may follow the one before it
record IsEntry {X K : Type 0} (cmp : K → K → Ordering) (enc : K × X → List ℕ) (Fits : K × X → Type 0) (before : Option K) (p : Place) (x : K × X) (q : Place) : Type 0 where
  taken : Takes p (enc x) q
  follows : follows cmp before x.0 ≡ true
  fits : Fits x

abbrev EntryBack : {X K : Type 0} → (K → K → Ordering) → (Option K → Reader (K × X)) → (K × X → List ℕ) → (K × X → Type 0) → Type 0
EntryBack {X} {K} cmp one enc Fits = (before : Option K) (p : Place) (x : K × X) (q : Place) → AreBytes p.rest → one before p ≡ Ok (x, q) → IsEntry cmp enc Fits before p x q

pair-back : EntryBack bytes_cmp pair pair_bytes IsPair
pair-back before p x q are e =
    let a = on-back (key p) (λ y. if follows bytes_cmp before y then (value >>= λ v. gives (y, v)) else fails (Unordered p.at)) x q e in
    let h = key-back p a.0 a.1 are a.2 in
    let on = go-back (follows bytes_cmp before a.0) (Unordered p.at) (value >>= λ v. gives (a.0, v)) a.1 (x, q) a.3 in
    let b = on-back (value a.1) (λ v. gives (a.0, v)) x q on.1 in
    let k = value-back a.1 b.0 b.1 h.0.bytes b.2 in
    let g = given (a.0, b.0) x b.1 q b.3 in
    let both = takes-then p (sized_bytes a.0) a.1 (sized_bytes b.0) b.1 h.0 k.0 in
    let so : IsEntry bytes_cmp pair_bytes IsPair before p (a.0, b.0) b.1 = record { taken = both; follows = on.0; fits = record { some = h.1; limit = h.2; value = k.2 } } in
    subst (λ (z : Place). IsEntry bytes_cmp pair_bytes IsPair before p x z) {x = b.1} g.1 (subst (λ (y : List ℕ × List ℕ). IsEntry bytes_cmp pair_bytes IsPair before p y b.1) {x = (a.0, b.0)} g.0 so)

client-back : EntryBack nat_cmp client client_bytes IsLast
client-back before p x q are e =
    let body : ℕ → Reader Last = λ c. number_within 8 1 (2 ^ 48) >>= λ n. reply >>= λ r. gives (c, (n, r)) in
    let a = on-back (number_within 8 0 1023 p) (λ c. if follows nat_cmp before c then body c else fails (Unordered p.at)) x q e in
    let h = within-back 8 0 1023 (to_be_bytes w64) holds-8 p a.0 a.1 are a.2 in
    let on = go-back (follows nat_cmp before a.0) (Unordered p.at) (body a.0) a.1 (x, q) a.3 in
    let b = on-back (number_within 8 1 (2 ^ 48) a.1) (λ n. reply >>= λ r. gives (a.0, (n, r))) x q on.1 in
    let k = within-back 8 1 (2 ^ 48) (to_be_bytes w64) holds-8 a.1 b.0 b.1 h.0.bytes b.2 in
    let d = on-back (reply b.1) (λ r. gives (a.0, (b.0, r))) x q b.3 in
    let l = reply-back b.1 d.0 d.1 k.0.bytes d.2 in
    let entry : Last = (a.0, (b.0, d.0)) in
    let g = given entry x d.1 q d.3 in
    let all = takes-then p (to_be_bytes w64 a.0) a.1 (to_be_bytes w64 b.0 ++ reply_bytes d.0) d.1 h.0 (takes-then a.1 (to_be_bytes w64 b.0) b.1 (reply_bytes d.0) d.1 k.0 l.0) in
    let so : IsEntry nat_cmp client_bytes IsLast before p entry d.1 = record { taken = all; follows = on.0; fits = record { client = h.2; some = k.1; limit = k.2; reply = l.1 } } in
    subst (λ (z : Place). IsEntry nat_cmp client_bytes IsLast before p x z) {x = d.1} g.1 (subst (λ (y : Last). IsEntry nat_cmp client_bytes IsLast before p y d.1) {x = entry} g.0 so)

-- ---- Many entries

-- the first key follows the one before it
abbrev pub Follows : {K X : Type 0} → (K → K → Ordering) → Option K → List (K × X) → Type 0
Follows cmp None es = Unit {0}
Follows cmp (Some before) es = AllByRecursion (λ y. cmp before y ≡ Less) (keys_of es)

-- so many entries stand in front, ascending behind a key
record AreTaken {K X : Type 0} (cmp : K → K → Ordering) (enc : K × X → List ℕ) (Fits : K × X → Type 0) (before : Option K) (k : ℕ) (p : Place) (es : List (K × X)) (q : Place) : Type 0 where
  taken : Takes p (flat_map enc es) q
  size : length es ≡ k
  follow : Follows cmp before es
  ascending : IsAscending cmp es
  fit : AllByRecursion Fits es

less : (r : Ordering) → is_lt r ≡ true → r ≡ Less
less Less e = refl
less Equal e = absurd cc
less Greater e = absurd cc

module _ {X K : Type 0} {cmp : K → K → Ordering} (total : IsTotalOrder cmp) (one : Option K → Reader (K × X)) (many : ℕ → Option K → Reader (List (K × X))) (is : IsOneByOne (λ e. e.0) one many) (enc : K × X → List ℕ)
    (Fits : K × X → Type 0) (back : EntryBack cmp one enc Fits) where
  below-all : (b k : K) (ks : List K) → cmp b k ≡ Less → AllByRecursion (λ y. cmp k y ≡ Less) ks → AllByRecursion (λ y. cmp b y ≡ Less) ks
  below-all b k [] h a = tt
  below-all b k (y ∷ ks) h a = (total.trans b k y h a.0, below-all b k ks h a.1)

  follow-more : (before : Option K) (e : K × X) (es : List (K × X)) → follows cmp before e.0 ≡ true → AllByRecursion (λ y. cmp e.0 y ≡ Less) (keys_of es) → Follows cmp before (e ∷ es)
  follow-more None e es f a = tt
  follow-more (Some b) e es f a = let h = less (cmp b e.0) f in (h, below-all b e.0 (keys_of es) h a)

  taken-none : (before : Option K) (p : Place) → AreBytes p.rest → AreTaken cmp enc Fits before 0 p [] p
  unfolding IsStrictlySortedBy
  taken-none None p are = record { taken = record { parts = refl; bytes = are }; size = refl; follow = tt; ascending = tt; fit = tt }
  taken-none (Some b) p are = record { taken = record { parts = refl; bytes = are }; size = refl; follow = tt; ascending = tt; fit = tt }

  taken-more : (before : Option K) (k : ℕ) (p : Place) (e : K × X) (r : Place) (es : List (K × X)) (q : Place) → IsEntry cmp enc Fits before p e r → AreTaken cmp enc Fits (Some e.0) k r es q → AreTaken cmp enc Fits before (suc k) p (e ∷ es) q
  unfolding IsStrictlySortedBy
  taken-more before k p e r es q h more =
      record { taken = takes-then p (enc e) r (flat_map enc es) q h.taken more.taken; size = ap suc more.size; follow = follow-more before e es h.follows more.follow; ascending = (more.follow, more.ascending); fit = (h.fits, more.fit) }

  many-back : (k : ℕ) (before : Option K) (p : Place) (x : List (K × X)) (q : Place) → AreBytes p.rest → many k before p ≡ Ok (x, q) → AreTaken cmp enc Fits before k p x q
  many-back zero before p x q are e =
      let none : List (K × X) = [] in
      let g = given none x p q (sym (is.none before p) ∙ e) in
      subst (λ (z : Place). AreTaken cmp enc Fits before 0 p x z) {x = p} g.1 (subst (λ (y : List (K × X)). AreTaken cmp enc Fits before 0 p y p) {x = none} g.0 (taken-none before p are))
  many-back (suc k) before p x q are e =
      let a = on-back (one before p) (λ y. many k (Some y.0) >>= λ es. gives (y ∷ es)) x q (sym (is.more k before p) ∙ e) in
      let h = back before p a.0 a.1 are a.2 in
      let b = on-back (many k (Some a.0.0) a.1) (λ es. gives (a.0 ∷ es)) x q a.3 in
      let more = many-back k (Some a.0.0) a.1 b.0 b.1 h.taken.bytes b.2 in
      let g = given (a.0 ∷ b.0) x b.1 q b.3 in
      let all = taken-more before k p a.0 a.1 b.0 b.1 h more in
      subst (λ (z : Place). AreTaken cmp enc Fits before (suc k) p x z) {x = b.1} g.1 (subst (λ (y : List (K × X)). AreTaken cmp enc Fits before (suc k) p y b.1) {x = a.0 ∷ b.0} g.0 all)

pairs-back : (k : ℕ) (p : Place) (x : Store) (q : Place) → AreBytes p.rest → pairs k None p ≡ Ok (x, q) → AreTaken bytes_cmp pair_bytes IsPair None k p x q
pairs-back k p x q are e = many-back nat_list_cmp_total pair pairs pairs_one_by_one pair_bytes IsPair pair-back k None p x q are e

clients-back : (k : ℕ) (p : Place) (x : List Last) (q : Place) → AreBytes p.rest → clients k None p ≡ Ok (x, q) → AreTaken nat_cmp client_bytes IsLast None k p x q
clients-back k p x q are e = many-back nat_cmp_total client clients clients_one_by_one client_bytes IsLast client-back k None p x q are e

-- ---- States

-- the parts of a state behind its executed number
unfoldable pub last_part : ℕ → Store → ℕ → Reader State
last_part executed store count = clients count None >>= λ last. gives (record { store = store; executed = executed; last = last })

unfoldable pub count_part : ℕ → Store → Reader State
count_part executed store = count_within 4 0 1024 >>= λ count. clients count None >>= λ last. gives (record { store = store; executed = executed; last = last })

unfoldable pub store_part : ℕ → ℕ → Reader State
store_part executed keys =
    pairs keys None >>= λ store. count_within 4 0 1024 >>= λ count. clients count None >>= λ last. gives (record { store = store; executed = executed; last = last })

unfoldable pub keys_part : ℕ → Reader State
keys_part executed =
    count_within 4 0 16384 >>= λ keys. pairs keys None >>= λ store. count_within 4 0 1024 >>= λ count. clients count None >>= λ last.
    gives (record { store = store; executed = executed; last = last })

-- a state within its limits that stands in front
record IsTaken (p : Place) (s : State) (q : Place) : Type 0 where
  parts : p.rest ≡ state_bytes s ++ q.rest
  within : IsWithinLimits s

joined : (n keys count : ℕ) (store : Store) (last : List Last) (rest : List ℕ) → length store ≡ keys → length last ≡ count
    → to_be_bytes w64 n ++ (to_be_bytes w32 keys ++ (flat_map pair_bytes store ++ (to_be_bytes w32 count ++ (flat_map client_bytes last ++ rest)))) ≡ state_bytes (record { store = store; executed = n; last = last }) ++ rest
unfolding state_bytes
joined n keys count store last rest is-keys is-count =
    ap (λ (k : ℕ). to_be_bytes w64 n ++ (to_be_bytes w32 k ++ (flat_map pair_bytes store ++ (to_be_bytes w32 count ++ (flat_map client_bytes last ++ rest))))) (sym is-keys)
    ∙ ap (λ (k : ℕ). to_be_bytes w64 n ++ (to_be_bytes w32 (length store) ++ (flat_map pair_bytes store ++ (to_be_bytes w32 k ++ (flat_map client_bytes last ++ rest))))) (sym is-count)
    ∙ five (to_be_bytes w64 n) (to_be_bytes w32 (length store)) (flat_map pair_bytes store) (to_be_bytes w32 (length last)) (flat_map client_bytes last) rest
  where
    five : (a b c d e f : List ℕ) → a ++ (b ++ (c ++ (d ++ (e ++ f)))) ≡ ((((a ++ b) ++ c) ++ d) ++ e) ++ f
    five a b c d e f = simp append_assoc

state-back : (p : Place) (x : State) (q : Place) → AreBytes p.rest → state p ≡ Ok (x, q) → IsTaken p x q
unfolding last_part count_part store_part keys_part
state-back p x q are e =
    let a = on-back (number_within 8 0 (2 ^ 48) p) keys_part x q e in
    let h = within-back 8 0 (2 ^ 48) (to_be_bytes w64) holds-8 p a.0 a.1 are a.2 in
    let b = on-back (count_within 4 0 16384 a.1) (store_part a.0) x q a.3 in
    let i = count-back 4 0 16384 (to_be_bytes w32) holds-4 a.1 b.0 b.1 h.0.bytes b.2 in
    let c = on-back (pairs b.0 None b.1) (count_part a.0) x q b.3 in
    let j = pairs-back b.0 b.1 c.0 c.1 i.0.bytes c.2 in
    let d = on-back (count_within 4 0 1024 c.1) (last_part a.0 c.0) x q c.3 in
    let k = count-back 4 0 1024 (to_be_bytes w32) holds-4 c.1 d.0 d.1 j.taken.bytes d.2 in
    let f = on-back (clients d.0 None d.1) (λ last. gives (record { store = c.0; executed = a.0; last = last })) x q d.3 in
    let l = clients-back d.0 d.1 f.0 f.1 k.0.bytes f.2 in
    let s : State = record { store = c.0; executed = a.0; last = f.0 } in
    let g = given s x f.1 q f.3 in
    let line : p.rest ≡ to_be_bytes w64 a.0 ++ (to_be_bytes w32 b.0 ++ (flat_map pair_bytes c.0 ++ (to_be_bytes w32 d.0 ++ (flat_map client_bytes f.0 ++ f.1.rest))))
    = h.0.parts ∙ ap (λ (xs : List ℕ). to_be_bytes w64 a.0 ++ xs) (i.0.parts ∙ ap (λ (xs : List ℕ). to_be_bytes w32 b.0 ++ xs) (j.taken.parts ∙ ap (λ (xs : List ℕ). flat_map pair_bytes c.0 ++ xs) (k.0.parts ∙ ap (λ (xs : List ℕ). to_be_bytes w32 d.0 ++ xs) l.taken.parts))) in
    let room : length c.0 ≤ 16384 = subst (λ (m : ℕ). m ≤ 16384) (sym j.size) i.2 in
    let within : IsWithinLimits s = record { executed = h.2; room = room; pairs = j.fit; ascending_keys = j.ascending; last = l.fit; ascending_clients = l.ascending } in
    let all : IsTaken p s f.1 = record { parts = line ∙ joined a.0 b.0 d.0 c.0 f.0 f.1.rest j.size l.size; within = within } in
    subst (λ (z : Place). IsTaken p x z) {x = f.1} g.1 (subst (λ (y : State). IsTaken p y f.1) {x = s} g.0 all)

-- the bytes are those of a state within its limits
pub record IsRead (bs : List ℕ) (s : State) : Type 0 where
  pub spelled : bs ≡ state_bytes s
  pub within : IsWithinLimits s

pub read-back : (bs : List ℕ) (s : State) → AreBytes bs → read_state bs ≡ Ok s → IsRead bs s
unfolding read_state
read-back bs s are e = go (state begin) refl e
  where
    begin : Place
    begin = record { at = 0; rest = bs }

    ended : (x : State) (q : Place) → state begin ≡ Ok (x, q) → (rest : List ℕ) → q.rest ≡ rest → at_end x rest q.at ≡ Ok s → IsRead bs s
    ended x q f [] g h =
        let same : x ≡ s = cc in
        let back = state-back begin x q are f in
        let is : IsRead bs x = record { spelled = back.parts ∙ ap (λ xs. state_bytes x ++ xs) g ∙ append-nil (state_bytes x); within = back.within } in
        subst (λ (y : State). IsRead bs y) same is
    ended x q f (b ∷ rest) g h = absurd cc

    go : (r : Result (State × Place) Fault) → state begin ≡ r → whole r ≡ Ok s → IsRead bs s
    go (Err fault) f h = absurd cc
    go (Ok r) f h = ended r.0 r.1 f r.1.rest refl h

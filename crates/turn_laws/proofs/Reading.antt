-- Bytes that read as a state are that state's.
use Rattle.std.proofs.Common.{◌≡◌, ℕ, zero, suc, ◌+◌, ◌*◌, ◌^◌, ◌<◌, Bool, true, false, List, [], ◌∷◌, ◌++◌, length, take, drop, get_or, fold, nat_lt, ◌==◌, if◌then◌else◌, Option, Some, None, Result, Ok, Err, refl, sym, ap, subst, ◌∙◌, inl, inr, arith, append-nil, append_assoc}
use Rattle.std.specs.List.{flat_map}
use Rattle.std.specs.Int.{to_be_bytes, from_be_bytes, w16, w32, w64}
use Rattle.std.proofs.lemmas.Nat.{be_bytes_2, be_bytes_4, be_bytes_8}
use Rattle.jp_types.specs.declared.command.Reply.{Reply}
use Rattle.jp_types.specs.declared.command.Reply.TheVariants.{Done, Value, NoKey, NoRoom}
use Rattle.kv_service.specs.Service.{State}
use Rattle.kv_service.specs.Store.{Store, bytes_cmp}
use Rattle.std.specs.Ordering.{nat_cmp}
use Rattle.kv_service.specs.StateBytes.{sized_bytes, pair_bytes, reply_bytes, client_bytes, state_bytes}
use Rattle.kv_service.specs.StateReading.{Fault, BadField, TooLong, Unordered, Place, Reader, gives, fails, read_on, ◌>>=◌, bytes, number, number_within, count_within, key, value, reply_of_kind, reply, follows, pairs, clients, state, at_end, whole, read_state, state_if, state_in}
use Rattle.jp_types.specs.Lists.{In}
use Rattle.paxos_world.proofs.Basics.{In-left, In-right}
use Rattle.paxos_world.proofs.Replies.{same}
use Rattle.jp_types.specs.Limits.{AreBytes}
use Rattle.turn_laws.proofs.Scanning.{not-lt-of}

-- ---- Readers

-- what a reader gives was in front of what it leaves, as these bytes
abbrev Back : {A : Type 0} → Reader A → (A → List ℕ) → Type 0
Back {A} reader enc = (p : Place) (x : A) (q : Place) → AreBytes p.rest → reader p ≡ Ok (x, q) → p.rest ≡ enc x ++ q.rest

-- a read value and what f reads behind it
pub on-back : {A B : Type 0} (r : Result (A × Place) Fault) (f : A → Reader B) (y : B) (q : Place) → read_on r f ≡ Ok (y, q) → (x : A) × (p : Place) × (r ≡ Ok (x, p)) × (f x p ≡ Ok (y, q))
on-back (Ok r) f y q e = (r.0, r.1, refl, e)
on-back (Err fault) f y q e = absurd cc

-- a test that stops
pub stop-back : {A : Type 0} (b : Bool) (fault : Fault) (g : Reader A) (p : Place) (z : A × Place) → (if b then fails fault else g) p ≡ Ok z → (b ≡ false) × (g p ≡ Ok z)
stop-back true fault g p z e = absurd cc
stop-back false fault g p z e = (refl, e)

pub go-back : {A : Type 0} (b : Bool) (fault : Fault) (g : Reader A) (p : Place) (z : A × Place) → (if b then g else fails fault) p ≡ Ok z → g p ≡ Ok z
go-back true fault g p z e = e
go-back false fault g p z e = absurd cc

pub given : {A : Type 0} (x y : A) (p q : Place) → gives x p ≡ Ok (y, q) → (x ≡ y) × (p ≡ q)
given {A} x y p q e =
    let a : A × Place = (x, p) in
    let b : A × Place = (y, q) in
    let f : a ≡ b = cc in
    (ap (λ (z : A × Place). z.0) f, ap (λ (z : A × Place). z.1) f)

pub rest-bytes : (xs ys : List ℕ) (zs : List ℕ) → zs ≡ xs ++ ys → AreBytes zs → AreBytes xs × AreBytes ys
rest-bytes xs ys zs e are = (λ b n. are b (subst (λ (l : List ℕ). In b l) (sym e) (In-left b xs ys n)), λ b n. are b (subst (λ (l : List ℕ). In b l) (sym e) (In-right b xs ys n)))

take-drop : (k : ℕ) (xs : List ℕ) → xs ≡ take k xs ++ drop k xs
take-drop zero xs = refl
take-drop (suc k) [] = refl
take-drop (suc k) (x ∷ xs) = ap (λ ys. x ∷ ys) (take-drop k xs)

pub bytes-back : (k : ℕ) (p : Place) (x : List ℕ) (q : Place) → bytes k p ≡ Ok (x, q) → (p.rest ≡ x ++ q.rest) × (length x ≡ k)
bytes-back k p x q e = go (length (take k p.rest) == k) refl e
  where
    next : Place
    next = record { at = p.at + k; rest = drop k p.rest }

    read : List ℕ × Place
    read = (take k p.rest, next)

    gave : List ℕ × Place
    gave = (x, q)

    go : (b : Bool) → (length (take k p.rest) == k) ≡ b → (if b then Ok read else Err (Fault.Truncated p.at)) ≡ Ok gave → (p.rest ≡ x ++ q.rest) × (length x ≡ k)
    go true f g =
        let h : read ≡ gave = cc in
        (subst (λ (z : List ℕ × Place). p.rest ≡ z.0 ++ z.1.rest) h (take-drop k p.rest), subst (λ (z : List ℕ × Place). length z.0 ≡ k) h (same (length (take k p.rest)) k f))
    go false f g = absurd cc

-- ---- Numbers

small : (bs : List ℕ) → AreBytes bs → (i : ℕ) → get_or bs i 0 < 256
small [] are i = omega arith
small (b ∷ bs) are zero = are b (inl refl)
small (b ∷ bs) are (suc i) = small bs (λ c n. are c (inr n)) i

unfoldable pub value_of : List ℕ → ℕ
value_of bs = fold (λ n b. n * 256 + b) 0 bs

pub value_2 : (bs : List ℕ) → length bs ≡ 2 → value_of bs ≡ from_be_bytes w16 bs
unfolding value_of
value_2 [] l = absurd (omega arith)
value_2 (a ∷ []) l = absurd (omega arith)
value_2 (a ∷ b ∷ []) l = omega arith
value_2 (a ∷ b ∷ c ∷ bs) l = absurd (omega arith)

pub value_4 : (bs : List ℕ) → length bs ≡ 4 → value_of bs ≡ from_be_bytes w32 bs
unfolding value_of
value_4 [] l = absurd (omega arith)
value_4 (a ∷ []) l = absurd (omega arith)
value_4 (a ∷ b ∷ []) l = absurd (omega arith)
value_4 (a ∷ b ∷ c ∷ []) l = absurd (omega arith)
value_4 (a ∷ b ∷ c ∷ d ∷ []) l = omega arith
value_4 (a ∷ b ∷ c ∷ d ∷ e ∷ bs) l = absurd (omega arith)

pub value_8 : (bs : List ℕ) → length bs ≡ 8 → value_of bs ≡ from_be_bytes w64 bs
unfolding value_of
value_8 [] l = absurd (omega arith)
value_8 (a ∷ []) l = absurd (omega arith)
value_8 (a ∷ b ∷ []) l = absurd (omega arith)
value_8 (a ∷ b ∷ c ∷ []) l = absurd (omega arith)
value_8 (a ∷ b ∷ c ∷ d ∷ []) l = absurd (omega arith)
value_8 (a ∷ b ∷ c ∷ d ∷ e ∷ []) l = absurd (omega arith)
value_8 (a ∷ b ∷ c ∷ d ∷ e ∷ f ∷ []) l = absurd (omega arith)
value_8 (a ∷ b ∷ c ∷ d ∷ e ∷ f ∷ g ∷ []) l = absurd (omega arith)
value_8 (a ∷ b ∷ c ∷ d ∷ e ∷ f ∷ g ∷ h ∷ []) l = omega arith
value_8 (a ∷ b ∷ c ∷ d ∷ e ∷ f ∷ g ∷ h ∷ x ∷ bs) l = absurd (omega arith)

value_1 : (bs : List ℕ) → length bs ≡ 1 → value_of bs ∷ [] ≡ bs
unfolding value_of
value_1 [] l = absurd (omega arith)
value_1 (a ∷ []) l = let e : 0 * 256 + a ≡ a = omega arith in ap (λ x. x ∷ []) e
value_1 (a ∷ b ∷ bs) l = absurd (omega arith)

-- k bytes hold their value in this way
abbrev Holds : ℕ → (ℕ → List ℕ) → Type 0
Holds k enc = (bs : List ℕ) → length bs ≡ k → AreBytes bs → enc (value_of bs) ≡ bs

holds-1 : Holds 1 (λ n. n ∷ [])
holds-1 bs l are = value_1 bs l

holds-2 : Holds 2 (to_be_bytes w16)
holds-2 bs l are = be_bytes_2 bs (value_of bs) l (small bs are) (value_2 bs l)

holds-4 : Holds 4 (to_be_bytes w32)
holds-4 bs l are = be_bytes_4 bs (value_of bs) l (small bs are) (value_4 bs l)

holds-8 : Holds 8 (to_be_bytes w64)
holds-8 bs l are = be_bytes_8 bs (value_of bs) l (small bs are) (value_8 bs l)

number-back : (k : ℕ) (enc : ℕ → List ℕ) → Holds k enc → Back (number k) enc
unfolding value_of
number-back k enc holds p n q are e =
    let a = on-back (bytes k p) (λ read. gives (fold (λ n b. n * 256 + b) 0 read)) n q e in
    let b = bytes-back k p a.0 a.1 a.2 in
    let g = given (value_of a.0) n a.1 q a.3 in
    let h = holds a.0 b.1 (rest-bytes a.0 a.1.rest p.rest b.0 are).0 in
    b.0 ∙ ap (λ xs. xs ++ a.1.rest) (sym h) ∙ ap (λ m. enc m ++ a.1.rest) g.0 ∙ ap (λ (z : Place). enc n ++ z.rest) g.1

within-back : (k low high : ℕ) (enc : ℕ → List ℕ) → Holds k enc → (p : Place) (n : ℕ) (q : Place) → AreBytes p.rest → number_within k low high p ≡ Ok (n, q) → (p.rest ≡ enc n ++ q.rest) × (nat_lt n low ≡ false) × (nat_lt high n ≡ false)
within-back k low high enc holds p n q are e =
    let a = on-back (number k p) (λ m. if nat_lt m low then fails (BadField p.at) else (if nat_lt high m then fails (BadField p.at) else gives m)) n q e in
    let b = stop-back (nat_lt a.0 low) (BadField p.at) (if nat_lt high a.0 then fails (BadField p.at) else gives a.0) a.1 (n, q) a.3 in
    let d = stop-back (nat_lt high a.0) (BadField p.at) (gives a.0) a.1 (n, q) b.1 in
    let g = given a.0 n a.1 q d.1 in
    let h = number-back k enc holds p a.0 a.1 are a.2 in (
      h ∙ ap (λ m. enc m ++ a.1.rest) g.0 ∙ ap (λ (z : Place). enc n ++ z.rest) g.1,
      subst (λ m. nat_lt m low ≡ false) g.0 b.0,
      subst (λ m. nat_lt high m ≡ false) g.0 d.0,
    )

count-back : (k low high : ℕ) (enc : ℕ → List ℕ) → Holds k enc → Back (count_within k low high) enc
count-back k low high enc holds p n q are e =
    let a = on-back (number k p) (λ m. if nat_lt high m then fails (TooLong p.at) else (if nat_lt m low then fails (BadField p.at) else gives m)) n q e in
    let b = stop-back (nat_lt high a.0) (TooLong p.at) (if nat_lt a.0 low then fails (BadField p.at) else gives a.0) a.1 (n, q) a.3 in
    let d = stop-back (nat_lt a.0 low) (BadField p.at) (gives a.0) a.1 (n, q) b.1 in
    let g = given a.0 n a.1 q d.1 in
    let h = number-back k enc holds p a.0 a.1 are a.2 in
    h ∙ ap (λ m. enc m ++ a.1.rest) g.0 ∙ ap (λ (z : Place). enc n ++ z.rest) g.1

-- ---- Keys, values, replies

-- a length and so many bytes
sized-back : (low high : ℕ) → Back (count_within 2 low high >>= λ n. bytes n) sized_bytes
sized-back low high p x q are e =
    let a = on-back (count_within 2 low high p) (λ n. bytes n) x q e in
    let b = count-back 2 low high (to_be_bytes w16) holds-2 p a.0 a.1 are a.2 in
    let d = bytes-back a.0 a.1 x q a.3 in
    b ∙ ap (λ (xs : List ℕ). to_be_bytes w16 a.0 ++ xs) d.0 ∙ ap (λ m. to_be_bytes w16 m ++ (x ++ q.rest)) (sym d.1) ∙ sym (append_assoc (to_be_bytes w16 (length x)) x q.rest)

key-back : Back key sized_bytes
key-back = sized-back 1 256

value-back : Back value sized_bytes
value-back = sized-back 0 4096

reply-back : Back reply reply_bytes
reply-back p x q are e =
    let a = on-back (number_within 1 1 4 p) (λ kind. reply_of_kind kind) x q e in
    let b = within-back 1 1 4 (λ n. n ∷ []) holds-1 p a.0 a.1 are a.2 in
    let are' = (rest-bytes (a.0 ∷ []) a.1.rest p.rest b.0 are).1 in
    b.0 ∙ of_kind a.0 a.1 are' b.1 b.2 a.3
  where
    of_kind : (kind : ℕ) (r : Place) → AreBytes r.rest → nat_lt kind 1 ≡ false → nat_lt 4 kind ≡ false → reply_of_kind kind r ≡ Ok (x, q) → kind ∷ r.rest ≡ reply_bytes x ++ q.rest
    of_kind zero r are lo hi e = absurd cc
    of_kind (suc zero) r are lo hi e = let g = given Done x r q e in ap (λ (z : Place). 1 ∷ z.rest) g.1 ∙ ap (λ (y : Reply). reply_bytes y ++ q.rest) g.0
    of_kind (suc (suc zero)) r are lo hi e =
        let a = on-back (value r) (λ v. gives (Value v)) x q e in
        let g = given (Value a.0) x a.1 q a.3 in
        let h = value-back r a.0 a.1 are a.2 in
        ap (λ xs. 2 ∷ xs) (h ∙ ap (λ (z : Place). sized_bytes a.0 ++ z.rest) g.1) ∙ ap (λ (y : Reply). reply_bytes y ++ q.rest) g.0
    of_kind (suc (suc (suc zero))) r are lo hi e = let g = given NoKey x r q e in ap (λ (z : Place). 3 ∷ z.rest) g.1 ∙ ap (λ (y : Reply). reply_bytes y ++ q.rest) g.0
    of_kind (suc (suc (suc (suc zero)))) r are lo hi e = let g = given NoRoom x r q e in ap (λ (z : Place). 4 ∷ z.rest) g.1 ∙ ap (λ (y : Reply). reply_bytes y ++ q.rest) g.0
    of_kind (suc (suc (suc (suc (suc k))))) r are lo hi e = let h = not-lt-of 4 (suc (suc (suc (suc (suc k))))) hi in absurd (omega arith)

-- ---- Keys with values, clients

-- so many pairs, behind any key
abbrev PairsBack : ℕ → Type 0
PairsBack k = (before : Option (List ℕ)) (p : Place) (x : Store) (q : Place) → AreBytes p.rest → pairs k before p ≡ Ok (x, q) → (p.rest ≡ flat_map pair_bytes x ++ q.rest) × (length x ≡ k)

pairs-back : (k : ℕ) (before : Option (List ℕ)) (p : Place) (x : Store) (q : Place) → AreBytes p.rest → pairs k before p ≡ Ok (x, q) → (p.rest ≡ flat_map pair_bytes x ++ q.rest) × (length x ≡ k)
pairs-back zero before p x q are e = let g = given [] x p q e in (ap (λ (z : Place). z.rest) g.1 ∙ ap (λ (y : Store). flat_map pair_bytes y ++ q.rest) g.0, ap length (sym g.0))
pairs-back (suc k) before p x q are e = let rec : PairsBack k = λ b r y z w f. pairs-back k b r y z w f in (first rec, size rec)
  where
    a : (y : List ℕ) × (r : Place) × (key p ≡ Ok (y, r)) × ((if follows bytes_cmp before y then (value >>= λ v. pairs k (Some y) >>= λ more. gives ((y, v) ∷ more)) else fails (Unordered p.at)) r ≡ Ok (x, q))
    a = on-back (key p) (λ y. if follows bytes_cmp before y then (value >>= λ v. pairs k (Some y) >>= λ more. gives ((y, v) ∷ more)) else fails (Unordered p.at)) x q e

    read_key : p.rest ≡ sized_bytes a.0 ++ a.1.rest
    read_key = key-back p a.0 a.1 are a.2

    are-1 : AreBytes a.1.rest
    are-1 = (rest-bytes (sized_bytes a.0) a.1.rest p.rest read_key are).1

    on : (value >>= λ v. pairs k (Some a.0) >>= λ more. gives ((a.0, v) ∷ more)) a.1 ≡ Ok (x, q)
    on = go-back (follows bytes_cmp before a.0) (Unordered p.at) (value >>= λ v. pairs k (Some a.0) >>= λ more. gives ((a.0, v) ∷ more)) a.1 (x, q) a.3

    b : (v : List ℕ) × (r : Place) × (value a.1 ≡ Ok (v, r)) × ((pairs k (Some a.0) >>= λ more. gives ((a.0, v) ∷ more)) r ≡ Ok (x, q))
    b = on-back (value a.1) (λ v. pairs k (Some a.0) >>= λ more. gives ((a.0, v) ∷ more)) x q on

    read_value : a.1.rest ≡ sized_bytes b.0 ++ b.1.rest
    read_value = value-back a.1 b.0 b.1 are-1 b.2

    are-2 : AreBytes b.1.rest
    are-2 = (rest-bytes (sized_bytes b.0) b.1.rest a.1.rest read_value are-1).1

    d : (more : Store) × (r : Place) × (pairs k (Some a.0) b.1 ≡ Ok (more, r)) × (gives ((a.0, b.0) ∷ more) r ≡ Ok (x, q))
    d = on-back (pairs k (Some a.0) b.1) (λ more. gives ((a.0, b.0) ∷ more)) x q b.3

    again : PairsBack k → (b.1.rest ≡ flat_map pair_bytes d.0 ++ d.1.rest) × (length d.0 ≡ k)
    again rec = rec (Some a.0) b.1 d.0 d.1 are-2 d.2

    g : ((a.0, b.0) ∷ d.0 ≡ x) × (d.1 ≡ q)
    g = given ((a.0, b.0) ∷ d.0) x d.1 q d.3

    first : PairsBack k → p.rest ≡ flat_map pair_bytes x ++ q.rest
    first rec =
        read_key ∙ ap (λ (xs : List ℕ). sized_bytes a.0 ++ xs) read_value ∙ ap (λ (xs : List ℕ). sized_bytes a.0 ++ (sized_bytes b.0 ++ xs)) (again rec).0
        ∙ sym (append_assoc (sized_bytes a.0) (sized_bytes b.0) (flat_map pair_bytes d.0 ++ d.1.rest))
        ∙ sym (append_assoc (sized_bytes a.0 ++ sized_bytes b.0) (flat_map pair_bytes d.0) d.1.rest)
        ∙ ap (λ (z : Place). flat_map pair_bytes ((a.0, b.0) ∷ d.0) ++ z.rest) g.1 ∙ ap (λ (y : Store). flat_map pair_bytes y ++ q.rest) g.0

    size : PairsBack k → length x ≡ suc k
    size rec = ap length (sym g.0) ∙ ap suc (again rec).1

abbrev Last : Type 0
Last = ℕ × (ℕ × Reply)

-- so many clients, behind any client
abbrev ClientsBack : ℕ → Type 0
ClientsBack k = (before : Option ℕ) (p : Place) (x : List Last) (q : Place) → AreBytes p.rest → clients k before p ≡ Ok (x, q) → (p.rest ≡ flat_map client_bytes x ++ q.rest) × (length x ≡ k)

clients-back : (k : ℕ) → ClientsBack k
clients-back zero before p x q are e = let none : List Last = [] in let g = given none x p q e in (ap (λ (z : Place). z.rest) g.1 ∙ ap (λ (y : List Last). flat_map client_bytes y ++ q.rest) g.0, ap length (sym g.0))
clients-back (suc k) before p x q are e = (first (clients-back k), size (clients-back k))
  where
    tail : ℕ → ℕ → Reply → Reader (List Last)
    tail c n r = clients k (Some c) >>= λ more. gives ((c, (n, r)) ∷ more)

    body : ℕ → Reader (List Last)
    body c = number_within 8 1 (2 ^ 48) >>= λ n. reply >>= λ r. tail c n r

    a : (c : ℕ) × (r : Place) × (number_within 8 0 1023 p ≡ Ok (c, r)) × ((if follows nat_cmp before c then body c else fails (Unordered p.at)) r ≡ Ok (x, q))
    a = on-back (number_within 8 0 1023 p) (λ c. if follows nat_cmp before c then body c else fails (Unordered p.at)) x q e

    read_client : p.rest ≡ to_be_bytes w64 a.0 ++ a.1.rest
    read_client = (within-back 8 0 1023 (to_be_bytes w64) holds-8 p a.0 a.1 are a.2).0

    are-1 : AreBytes a.1.rest
    are-1 = (rest-bytes (to_be_bytes w64 a.0) a.1.rest p.rest read_client are).1

    on : body a.0 a.1 ≡ Ok (x, q)
    on = go-back (follows nat_cmp before a.0) (Unordered p.at) (body a.0) a.1 (x, q) a.3

    b : (n : ℕ) × (r : Place) × (number_within 8 1 (2 ^ 48) a.1 ≡ Ok (n, r)) × ((reply >>= λ r. tail a.0 n r) r ≡ Ok (x, q))
    b = on-back (number_within 8 1 (2 ^ 48) a.1) (λ n. reply >>= λ r. tail a.0 n r) x q on

    read_number : a.1.rest ≡ to_be_bytes w64 b.0 ++ b.1.rest
    read_number = (within-back 8 1 (2 ^ 48) (to_be_bytes w64) holds-8 a.1 b.0 b.1 are-1 b.2).0

    are-2 : AreBytes b.1.rest
    are-2 = (rest-bytes (to_be_bytes w64 b.0) b.1.rest a.1.rest read_number are-1).1

    d : (r : Reply) × (at : Place) × (reply b.1 ≡ Ok (r, at)) × (tail a.0 b.0 r at ≡ Ok (x, q))
    d = on-back (reply b.1) (λ r. tail a.0 b.0 r) x q b.3

    read_reply : b.1.rest ≡ reply_bytes d.0 ++ d.1.rest
    read_reply = reply-back b.1 d.0 d.1 are-2 d.2

    are-3 : AreBytes d.1.rest
    are-3 = (rest-bytes (reply_bytes d.0) d.1.rest b.1.rest read_reply are-2).1

    f : (more : List Last) × (r : Place) × (clients k (Some a.0) d.1 ≡ Ok (more, r)) × (gives ((a.0, (b.0, d.0)) ∷ more) r ≡ Ok (x, q))
    f = on-back (clients k (Some a.0) d.1) (λ more. gives ((a.0, (b.0, d.0)) ∷ more)) x q d.3

    again : ClientsBack k → (d.1.rest ≡ flat_map client_bytes f.0 ++ f.1.rest) × (length f.0 ≡ k)
    again rec = rec (Some a.0) d.1 f.0 f.1 are-3 f.2

    entry : List Last
    entry = (a.0, (b.0, d.0)) ∷ f.0

    g : (entry ≡ x) × (f.1 ≡ q)
    g = given entry x f.1 q f.3

    first : ClientsBack k → p.rest ≡ flat_map client_bytes x ++ q.rest
    first rec =
        let line : p.rest ≡ to_be_bytes w64 a.0 ++ (to_be_bytes w64 b.0 ++ (reply_bytes d.0 ++ (flat_map client_bytes f.0 ++ f.1.rest)))
        = read_client ∙ ap (λ (xs : List ℕ). to_be_bytes w64 a.0 ++ xs) (read_number ∙ ap (λ (xs : List ℕ). to_be_bytes w64 b.0 ++ xs) (read_reply ∙ ap (λ (xs : List ℕ). reply_bytes d.0 ++ xs) (again rec).0)) in
        let joined : to_be_bytes w64 a.0 ++ (to_be_bytes w64 b.0 ++ (reply_bytes d.0 ++ (flat_map client_bytes f.0 ++ f.1.rest))) ≡ flat_map client_bytes entry ++ f.1.rest
        = four (to_be_bytes w64 a.0) (to_be_bytes w64 b.0) (reply_bytes d.0) (flat_map client_bytes f.0) f.1.rest in
        line ∙ joined ∙ ap (λ (z : Place). flat_map client_bytes entry ++ z.rest) g.1 ∙ ap (λ (y : List Last). flat_map client_bytes y ++ q.rest) g.0
      where
        four : (a b c d e : List ℕ) → a ++ (b ++ (c ++ (d ++ e))) ≡ ((a ++ (b ++ c)) ++ d) ++ e
        four a b c d e = simp append_assoc

    size : ClientsBack k → length x ≡ suc k
    size rec = ap length (sym g.0) ∙ ap suc (again rec).1

-- ---- States

-- the parts of a state behind its executed number
unfoldable pub last_part : ℕ → Store → ℕ → Reader State
last_part executed store count = clients count None >>= λ last. gives (record { store = store; executed = executed; last = last })

unfoldable pub count_part : ℕ → Store → Reader State
count_part executed store = count_within 4 0 1024 >>= λ count. clients count None >>= λ last. gives (record { store = store; executed = executed; last = last })

unfoldable pub store_part : ℕ → ℕ → Reader State
store_part executed keys =
    pairs keys None >>= λ store. count_within 4 0 1024 >>= λ count. clients count None >>= λ last. gives (record { store = store; executed = executed; last = last })

unfoldable pub keys_part : ℕ → Reader State
keys_part executed =
    count_within 4 0 16384 >>= λ keys. pairs keys None >>= λ store. count_within 4 0 1024 >>= λ count. clients count None >>= λ last.
    gives (record { store = store; executed = executed; last = last })

five : (a b c d e f : List ℕ) → a ++ (b ++ (c ++ (d ++ (e ++ f)))) ≡ ((((a ++ b) ++ c) ++ d) ++ e) ++ f
five a b c d e f = simp append_assoc

joined-state : (s : State) (rest : List ℕ)
    → to_be_bytes w64 s.executed ++ (to_be_bytes w32 (length s.store) ++ (flat_map pair_bytes s.store ++ (to_be_bytes w32 (length s.last) ++ (flat_map client_bytes s.last ++ rest)))) ≡ state_bytes s ++ rest
unfolding state_bytes
joined-state s rest = five (to_be_bytes w64 s.executed) (to_be_bytes w32 (length s.store)) (flat_map pair_bytes s.store) (to_be_bytes w32 (length s.last)) (flat_map client_bytes s.last) rest

state-back : Back state state_bytes
unfolding last_part count_part store_part keys_part
state-back p x q are e =
    let a = on-back (number_within 8 0 (2 ^ 48) p) keys_part x q e in
    let read_a = (within-back 8 0 (2 ^ 48) (to_be_bytes w64) holds-8 p a.0 a.1 are a.2).0 in
    let are_a = (rest-bytes (to_be_bytes w64 a.0) a.1.rest p.rest read_a are).1 in
    let b = on-back (count_within 4 0 16384 a.1) (store_part a.0) x q a.3 in
    let read_b = count-back 4 0 16384 (to_be_bytes w32) holds-4 a.1 b.0 b.1 are_a b.2 in
    let are_b = (rest-bytes (to_be_bytes w32 b.0) b.1.rest a.1.rest read_b are_a).1 in
    let c = on-back (pairs b.0 None b.1) (count_part a.0) x q b.3 in
    let read_c = pairs-back b.0 None b.1 c.0 c.1 are_b c.2 in
    let are_c = (rest-bytes (flat_map pair_bytes c.0) c.1.rest b.1.rest read_c.0 are_b).1 in
    let d = on-back (count_within 4 0 1024 c.1) (last_part a.0 c.0) x q c.3 in
    let read_d = count-back 4 0 1024 (to_be_bytes w32) holds-4 c.1 d.0 d.1 are_c d.2 in
    let are_d = (rest-bytes (to_be_bytes w32 d.0) d.1.rest c.1.rest read_d are_c).1 in
    let f = on-back (clients d.0 None d.1) (λ last. gives (record { store = c.0; executed = a.0; last = last })) x q d.3 in
    let read_f = clients-back d.0 None d.1 f.0 f.1 are_d f.2 in
    let s : State = record { store = c.0; executed = a.0; last = f.0 } in
    let g = given s x f.1 q f.3 in
    let line : p.rest ≡ to_be_bytes w64 a.0 ++ (to_be_bytes w32 b.0 ++ (flat_map pair_bytes c.0 ++ (to_be_bytes w32 d.0 ++ (flat_map client_bytes f.0 ++ f.1.rest))))
    = read_a ∙ ap (λ (xs : List ℕ). to_be_bytes w64 a.0 ++ xs) (read_b ∙ ap (λ (xs : List ℕ). to_be_bytes w32 b.0 ++ xs) (read_c.0 ∙ ap (λ (xs : List ℕ). flat_map pair_bytes c.0 ++ xs) (read_d ∙ ap (λ (xs : List ℕ). to_be_bytes w32 d.0 ++ xs) read_f.0))) in
    let sized : to_be_bytes w64 a.0 ++ (to_be_bytes w32 b.0 ++ (flat_map pair_bytes c.0 ++ (to_be_bytes w32 d.0 ++ (flat_map client_bytes f.0 ++ f.1.rest))))
    ≡ to_be_bytes w64 a.0 ++ (to_be_bytes w32 (length c.0) ++ (flat_map pair_bytes c.0 ++ (to_be_bytes w32 (length f.0) ++ (flat_map client_bytes f.0 ++ f.1.rest))))
    = ap (λ (n : ℕ). to_be_bytes w64 a.0 ++ (to_be_bytes w32 n ++ (flat_map pair_bytes c.0 ++ (to_be_bytes w32 d.0 ++ (flat_map client_bytes f.0 ++ f.1.rest))))) (sym read_c.1)
    ∙ ap (λ (n : ℕ). to_be_bytes w64 a.0 ++ (to_be_bytes w32 (length c.0) ++ (flat_map pair_bytes c.0 ++ (to_be_bytes w32 n ++ (flat_map client_bytes f.0 ++ f.1.rest))))) (sym read_f.1) in
    line ∙ sized ∙ joined-state s f.1.rest
    ∙ ap (λ (z : Place). state_bytes s ++ z.rest) g.1 ∙ ap (λ (y : State). state_bytes y ++ q.rest) g.0

pub reads-back : (bs : List ℕ) (s : State) → AreBytes bs → state_in bs ≡ Some s → bs ≡ state_bytes s
unfolding read_state
reads-back bs s are e = go (state begin) refl e
  where
    begin : Place
    begin = record { at = 0; rest = bs }

    ended : (x : State) (q : Place) → state begin ≡ Ok (x, q) → (rest : List ℕ) → q.rest ≡ rest → state_if (at_end x rest q.at) ≡ Some s → bs ≡ state_bytes s
    ended x q f [] g h =
        let k : x ≡ s = cc in
        state-back begin x q are f ∙ ap (λ xs. state_bytes x ++ xs) g ∙ append-nil (state_bytes x) ∙ ap state_bytes k
    ended x q f (b ∷ rest) g h = absurd cc

    go : (r : Result (State × Place) Fault) → state begin ≡ r → state_if (whole r) ≡ Some s → bs ≡ state_bytes s
    go (Err fault) f h = absurd cc
    go (Ok r) f h = ended r.0 r.1 f r.1.rest refl h

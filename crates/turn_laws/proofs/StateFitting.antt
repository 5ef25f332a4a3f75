-- What reads as a state is within the limits, so that executing a batch keeps a state that reads back from its bytes.
use Rattle.std.proofs.Common.{◌≡◌, ℕ, zero, suc, ◌+◌, ◌*◌, ◌^◌, ◌≤◌, Bool, true, false, List, [], ◌∷◌, length, fold, nat_lt, nat_cmp, if◌then◌else◌, Option, Some, None, Result, Ok, Err, refl, sym, ap, subst, arith}
use Rattle.std.specs.declared.cmp.Ordering.{Ordering}
use Rattle.std.specs.declared.cmp.Ordering.TheVariants.{Less, Equal, Greater}
use Rattle.std.specs.Ordering.{is_lt}
use Rattle.std.specs.Cmp.{IsTotalOrder, nat_cmp_total}
use Rattle.std.specs.Cmp.Lexicographic.{nat_list_cmp_total}
use Rattle.std.specs.List.{AllByRecursion}
use Rattle.std.specs.List.Sorted.{IsStrictlySortedBy}
use Rattle.std.specs.Map.{keys_of}
use Rattle.jp_types.specs.declared.command.Reply.{Reply}
use Rattle.jp_types.specs.declared.command.Reply.TheVariants.{Done, Value, NoKey, NoRoom}
use Rattle.kv_service.specs.Ascending.{IsAscending}
use Rattle.kv_service.specs.Service.{State, execute}
use Rattle.kv_service.specs.Store.{Store, bytes_cmp}
use Rattle.kv_service.specs.StateBytes.{state_bytes}
use Rattle.kv_service.specs.StateReading.{Fault, BadField, TooLong, Unordered, Place, Reader, gives, fails, ◌>>=◌, bytes, number, number_within, count_within, key, value, reply_of_kind, reply, follows, pairs, clients, state, at_end, whole, read_state, state_if, state_in}
use Rattle.jp_types.specs.Limits.{AreBytes, IsKey, IsValue}
use Rattle.turn_laws.specs.Limits.{StatesRead}
use Rattle.turn_laws.proofs.Scanning.{not-lt-of}
use Rattle.turn_laws.proofs.Reading.{on-back, stop-back, go-back, given, rest-bytes, bytes-back, last_part, count_part, store_part, keys_part}
use Rattle.turn_laws.proofs.StateLimits.{EntriesFit, IsReply, IsClient, IsLast, StoreFits, StateFits, execute-fits}
use Rattle.turn_laws.proofs.StateWriting.{Follows, Last, state-of-fits}

-- ---- Numbers and bytes

-- of bytes a reader gives such a value, and leaves bytes
abbrev Fits : {A : Type 0} → Reader A → (A → Type 0) → Type 0
Fits {A} reader P = (p : Place) (x : A) (q : Place) → AreBytes p.rest → reader p ≡ Ok (x, q) → P x × AreBytes q.rest

bytes-fit : (k : ℕ) → Fits (bytes k) (λ x. (length x ≡ k) × AreBytes x)
bytes-fit k p x q are e =
    let b = bytes-back k p x q e in
    let r = rest-bytes x q.rest p.rest b.0 are in
    ((b.1, r.0), r.1)

number-fits : (k : ℕ) → Fits (number k) (λ n. Unit {0})
number-fits k p n q are e =
    let a = on-back (bytes k p) (λ read. gives (fold (λ n b. n * 256 + b) 0 read)) n q e in
    let b = bytes-fit k p a.0 a.1 are a.2 in
    let g = given (fold (λ n b. n * 256 + b) 0 a.0) n a.1 q a.3 in
    (tt, subst (λ (z : Place). AreBytes z.rest) g.1 b.1)

-- a number within these
abbrev Between : ℕ → ℕ → ℕ → Type 0
Between low high n = (low ≤ n) × (n ≤ high)

within-fits : (k low high : ℕ) → Fits (number_within k low high) (Between low high)
within-fits k low high p n q are e =
    let a = on-back (number k p) (λ m. if nat_lt m low then fails (BadField p.at) else (if nat_lt high m then fails (BadField p.at) else gives m)) n q e in
    let b = stop-back (nat_lt a.0 low) (BadField p.at) (if nat_lt high a.0 then fails (BadField p.at) else gives a.0) a.1 (n, q) a.3 in
    let d = stop-back (nat_lt high a.0) (BadField p.at) (gives a.0) a.1 (n, q) b.1 in
    let g = given a.0 n a.1 q d.1 in
    let h = number-fits k p a.0 a.1 are a.2 in
    (subst (λ (m : ℕ). Between low high m) g.0 (not-lt-of a.0 low b.0, not-lt-of high a.0 d.0), subst (λ (z : Place). AreBytes z.rest) g.1 h.1)

count-fits : (k low high : ℕ) → Fits (count_within k low high) (Between low high)
count-fits k low high p n q are e =
    let a = on-back (number k p) (λ m. if nat_lt high m then fails (TooLong p.at) else (if nat_lt m low then fails (BadField p.at) else gives m)) n q e in
    let b = stop-back (nat_lt high a.0) (TooLong p.at) (if nat_lt a.0 low then fails (BadField p.at) else gives a.0) a.1 (n, q) a.3 in
    let d = stop-back (nat_lt a.0 low) (BadField p.at) (gives a.0) a.1 (n, q) b.1 in
    let g = given a.0 n a.1 q d.1 in
    let h = number-fits k p a.0 a.1 are a.2 in
    (subst (λ (m : ℕ). Between low high m) g.0 (not-lt-of a.0 low d.0, not-lt-of high a.0 b.0), subst (λ (z : Place). AreBytes z.rest) g.1 h.1)

-- ---- Keys, values, replies

sized-fits : (low high : ℕ) → Fits (count_within 2 low high >>= λ n. bytes n) (λ x. Between low high (length x) × AreBytes x)
sized-fits low high p x q are e =
    let a = on-back (count_within 2 low high p) (λ n. bytes n) x q e in
    let b = count-fits 2 low high p a.0 a.1 are a.2 in
    let d = bytes-fit a.0 a.1 x q b.1 a.3 in
    ((subst (λ (m : ℕ). Between low high m) (sym d.0.0) b.0, d.0.1), d.1)

key-fits : Fits key IsKey
key-fits p x q are e =
    let a = sized-fits 1 256 p x q are e in
    (record { some = a.0.0.0; limit = a.0.0.1; bytes = a.0.1 }, a.1)

value-fits : Fits value IsValue
value-fits p x q are e =
    let a = sized-fits 0 4096 p x q are e in
    (record { limit = a.0.0.1; bytes = a.0.1 }, a.1)

reply-fits : Fits reply IsReply
reply-fits p x q are e =
    let a = on-back (number_within 1 1 4 p) (λ kind. reply_of_kind kind) x q e in
    let b = within-fits 1 1 4 p a.0 a.1 are a.2 in
    of_kind a.0 a.1 b.1 b.0 a.3
  where
    plain : (r : Reply) (at : Place) → IsReply r → AreBytes at.rest → gives r at ≡ Ok (x, q) → IsReply x × AreBytes q.rest
    plain r at is are f = let g = given r x at q f in (subst IsReply g.0 is, subst (λ (z : Place). AreBytes z.rest) g.1 are)

    of_kind : (kind : ℕ) (at : Place) → AreBytes at.rest → Between 1 4 kind → reply_of_kind kind at ≡ Ok (x, q) → IsReply x × AreBytes q.rest
    of_kind zero at are is f = let low = is.0 in absurd (omega arith)
    of_kind (suc zero) at are is f = plain Done at tt are f
    of_kind (suc (suc zero)) at are is f =
        let a = on-back (value at) (λ v. gives (Value v)) x q f in
        let v = value-fits at a.0 a.1 are a.2 in
        plain (Value a.0) a.1 v.0 v.1 a.3
    of_kind (suc (suc (suc zero))) at are is f = plain NoKey at tt are f
    of_kind (suc (suc (suc (suc zero)))) at are is f = plain NoRoom at tt are f
    of_kind (suc (suc (suc (suc (suc k))))) at are is f = let high = is.1 in absurd (omega arith)

-- ---- Keys with values, clients

-- so many entries of these kinds, ascending behind a key
record Listed {K X : Type 0} (cmp : K → K → Ordering) (P : K → Type 0) (Q : X → Type 0) (before : Option K) (k : ℕ) (es : List (K × X)) : Type 0 where
  follow : Follows cmp before es
  ascending : IsAscending cmp es
  entries : EntriesFit P Q es
  size : length es ≡ k

module _ {K X : Type 0} {cmp : K → K → Ordering} (total : IsTotalOrder cmp) (P : K → Type 0) (Q : X → Type 0) where
  less : (r : Ordering) → is_lt r ≡ true → r ≡ Less
  less Less e = refl
  less Equal e = absurd cc
  less Greater e = absurd cc

  below-all : (b k : K) (ks : List K) → cmp b k ≡ Less → AllByRecursion (λ y. cmp k y ≡ Less) ks → AllByRecursion (λ y. cmp b y ≡ Less) ks
  below-all b k [] h a = tt
  below-all b k (y ∷ ks) h a = (total.trans b k y h a.0, below-all b k ks h a.1)

  follow-more : (before : Option K) (e : K × X) (es : List (K × X)) → follows cmp before e.0 ≡ true → AllByRecursion (λ y. cmp e.0 y ≡ Less) (keys_of es) → Follows cmp before (e ∷ es)
  follow-more None e es f a = tt
  follow-more (Some b) e es f a = let h = less (cmp b e.0) f in (h, below-all b e.0 (keys_of es) h a)

  listed-more : (before : Option K) (k : ℕ) (e : K × X) (es : List (K × X)) → follows cmp before e.0 ≡ true → P e.0 → Q e.1 → Listed cmp P Q (Some e.0) k es → Listed cmp P Q before (suc k) (e ∷ es)
  unfolding IsStrictlySortedBy
  listed-more before k e es f p q h =
      record { follow = follow-more before e es f h.follow; ascending = (h.follow, h.ascending); entries = ((p, q), h.entries); size = ap suc h.size }

  listed-none : (before : Option K) → Listed cmp P Q before 0 []
  unfolding IsStrictlySortedBy
  listed-none None = record { follow = tt; ascending = tt; entries = tt; size = refl }
  listed-none (Some b) = record { follow = tt; ascending = tt; entries = tt; size = refl }

-- a test that let the reader go on
passed : {A : Type 0} (b : Bool) (fault : Fault) (g : Reader A) (p : Place) (z : A × Place) → (if b then g else fails fault) p ≡ Ok z → b ≡ true
passed true fault g p z e = refl
passed false fault g p z e = absurd cc

ArePairs : Option (List ℕ) → ℕ → Store → Type 0
ArePairs before k x = Listed bytes_cmp IsKey IsValue before k x

pairs-fit : (k : ℕ) (before : Option (List ℕ)) → Fits (pairs k before) (ArePairs before k)
unfolding ArePairs
pairs-fit zero before p x q are e =
    let none : Store = [] in
    let g = given none x p q e in
    (subst (λ (y : Store). Listed bytes_cmp IsKey IsValue before 0 y) g.0 (listed-none nat_list_cmp_total IsKey IsValue before), subst (λ (z : Place). AreBytes z.rest) g.1 are)
pairs-fit (suc k) before p x q are e =
    let a = on-back (key p) (λ y. if follows bytes_cmp before y then (value >>= λ v. pairs k (Some y) >>= λ more. gives ((y, v) ∷ more)) else fails (Unordered p.at)) x q e in
    let h = key-fits p a.0 a.1 are a.2 in
    let rest : Reader Store = value >>= λ v. pairs k (Some a.0) >>= λ more. gives ((a.0, v) ∷ more) in
    let up = passed (follows bytes_cmp before a.0) (Unordered p.at) rest a.1 (x, q) a.3 in
    let on = go-back (follows bytes_cmp before a.0) (Unordered p.at) rest a.1 (x, q) a.3 in
    let b = on-back (value a.1) (λ v. pairs k (Some a.0) >>= λ more. gives ((a.0, v) ∷ more)) x q on in
    let i = value-fits a.1 b.0 b.1 h.1 b.2 in
    let d = on-back (pairs k (Some a.0) b.1) (λ more. gives ((a.0, b.0) ∷ more)) x q b.3 in
    let j = pairs-fit k (Some a.0) b.1 d.0 d.1 i.1 d.2 in
    let all : Store = (a.0, b.0) ∷ d.0 in
    let g = given all x d.1 q d.3 in
    (subst (λ (y : Store). Listed bytes_cmp IsKey IsValue before (suc k) y) g.0 (listed-more nat_list_cmp_total IsKey IsValue before k (a.0, b.0) d.0 up h.0 i.0 j.0), subst (λ (z : Place). AreBytes z.rest) g.1 j.1)

AreClients : Option ℕ → ℕ → List Last → Type 0
AreClients before k x = Listed nat_cmp IsClient IsLast before k x

clients-fit : (k : ℕ) (before : Option ℕ) → Fits (clients k before) (AreClients before k)
unfolding AreClients
clients-fit zero before p x q are e =
    let none : List Last = [] in
    let g = given none x p q e in
    (subst (λ (y : List Last). Listed nat_cmp IsClient IsLast before 0 y) g.0 (listed-none nat_cmp_total IsClient IsLast before), subst (λ (z : Place). AreBytes z.rest) g.1 are)
clients-fit (suc k) before p x q are e =
    let tail : ℕ → ℕ → Reply → Reader (List Last) = λ c n r. clients k (Some c) >>= λ more. gives ((c, (n, r)) ∷ more) in
    let body : ℕ → Reader (List Last) = λ c. number_within 8 1 (2 ^ 48) >>= λ n. reply >>= λ r. tail c n r in
    let a = on-back (number_within 8 0 1023 p) (λ c. if follows nat_cmp before c then body c else fails (Unordered p.at)) x q e in
    let h = within-fits 8 0 1023 p a.0 a.1 are a.2 in
    let up = passed (follows nat_cmp before a.0) (Unordered p.at) (body a.0) a.1 (x, q) a.3 in
    let on = go-back (follows nat_cmp before a.0) (Unordered p.at) (body a.0) a.1 (x, q) a.3 in
    let b = on-back (number_within 8 1 (2 ^ 48) a.1) (λ n. reply >>= λ r. tail a.0 n r) x q on in
    let i = within-fits 8 1 (2 ^ 48) a.1 b.0 b.1 h.1 b.2 in
    let d = on-back (reply b.1) (λ r. tail a.0 b.0 r) x q b.3 in
    let j = reply-fits b.1 d.0 d.1 i.1 d.2 in
    let f = on-back (clients k (Some a.0) d.1) (λ more. gives ((a.0, (b.0, d.0)) ∷ more)) x q d.3 in
    let l = clients-fit k (Some a.0) d.1 f.0 f.1 j.1 f.2 in
    let all : List Last = (a.0, (b.0, d.0)) ∷ f.0 in
    let g = given all x f.1 q f.3 in
    (subst (λ (y : List Last). Listed nat_cmp IsClient IsLast before (suc k) y) g.0 (listed-more nat_cmp_total IsClient IsLast before k (a.0, (b.0, d.0)) f.0 up h.0.1 (i.0.0, i.0.1, j.0) l.0), subst (λ (z : Place). AreBytes z.rest) g.1 l.1)

-- ---- States

state-fits : Fits state StateFits
unfolding last_part count_part store_part keys_part ArePairs AreClients
state-fits p x q are e =
    let a = on-back (number_within 8 0 (2 ^ 48) p) keys_part x q e in
    let h = within-fits 8 0 (2 ^ 48) p a.0 a.1 are a.2 in
    let b = on-back (count_within 4 0 16384 a.1) (store_part a.0) x q a.3 in
    let i = count-fits 4 0 16384 a.1 b.0 b.1 h.1 b.2 in
    let c = on-back (pairs b.0 None b.1) (count_part a.0) x q b.3 in
    let j = pairs-fit b.0 None b.1 c.0 c.1 i.1 c.2 in
    let d = on-back (count_within 4 0 1024 c.1) (last_part a.0 c.0) x q c.3 in
    let k = count-fits 4 0 1024 c.1 d.0 d.1 j.1 d.2 in
    let f = on-back (clients d.0 None d.1) (λ last. gives (record { store = c.0; executed = a.0; last = last })) x q d.3 in
    let l = clients-fit d.0 None d.1 f.0 f.1 k.1 f.2 in
    let s : State = record { store = c.0; executed = a.0; last = f.0 } in
    let g = given s x f.1 q f.3 in
    let room : length c.0 ≤ 16384 = subst (λ (m : ℕ). m ≤ 16384) (sym j.0.size) i.0.1 in
    let store : StoreFits c.0 = record { ascending = j.0.ascending; pairs = j.0.entries; room = room } in
    let fits : StateFits s = record { executed = h.0.1; store = store; ascending = l.0.ascending; last = l.0.entries } in
    (subst StateFits g.0 fits, subst (λ (z : Place). AreBytes z.rest) g.1 l.1)

-- what reads as a state is within the limits
pub read-fits : (bs : List ℕ) (s : State) → AreBytes bs → state_in bs ≡ Some s → StateFits s
unfolding read_state
read-fits bs s are e = go (state begin) refl e
  where
    begin : Place
    begin = record { at = 0; rest = bs }

    ended : (x : State) (q : Place) (rest : List ℕ) → state begin ≡ Ok (x, q) → state_if (at_end x rest q.at) ≡ Some s → StateFits s
    ended x q [] f h = let same : x ≡ s = cc in subst StateFits same (state-fits begin x q are f).0
    ended x q (b ∷ rest) f h = absurd cc

    go : (r : Result (State × Place) Fault) → state begin ≡ r → state_if (whole r) ≡ Some s → StateFits s
    go (Err fault) f h = absurd cc
    go (Ok r) f h = ended r.0 r.1 r.1.rest f h

-- executing a batch within the limits keeps a state that reads back from its bytes
pub states-read : StatesRead
states-read = record { executes = λ s batch is are below. state-of-fits (execute s batch) (execute-fits s batch (read-fits (state_bytes s) s is.1 is.0) are below) }

-- What is written of a state within the limits reads back as it, and is bytes.
use Rattle.std.proofs.Common.{◌≡◌, ℕ, zero, suc, ◌+◌, ◌*◌, ◌/◌, ◌^◌, ◌<◌, ◌≤◌, Bool, true, false, List, [], ◌∷◌, ◌++◌, length, take, drop, fold, nat_lt, nat_cmp, ◌==◌, if◌then◌else◌, Option, Some, None, Result, Ok, Err, lit<, lit≤, mod-lt, refl, sym, ap, subst, ◌∙◌, inl, inr, ⊎_elim, arith, append-nil, append_assoc}
use Rattle.std.proofs.lemmas.Bool.Decides.{nat_tests}
use Rattle.std.proofs.lemmas.Nat.{from_be_bytes-to_be_bytes_2, from_be_bytes-to_be_bytes_4, from_be_bytes-to_be_bytes_8}
use Rattle.std.specs.declared.cmp.Ordering.{Ordering}
use Rattle.std.specs.declared.cmp.Ordering.TheVariants.{Less}
use Rattle.std.specs.List.{AllByRecursion, flat_map}
use Rattle.std.specs.List.Sorted.{IsStrictlySortedBy}
use Rattle.std.specs.Map.{keys_of}
use Rattle.std.specs.Int.{to_be_bytes, byte_at, bytes_high_first, w16, w32, w64}
use Rattle.jp_types.specs.declared.command.Reply.{Reply}
use Rattle.jp_types.specs.declared.command.Reply.TheVariants.{Done, Value, NoKey, NoRoom}
use Rattle.kv_service.specs.Ascending.{IsAscending}
use Rattle.kv_service.specs.Service.{State}
use Rattle.kv_service.specs.Store.{Store, bytes_cmp}
use Rattle.kv_service.specs.StateBytes.{sized_bytes, pair_bytes, reply_bytes, client_bytes, state_bytes}
use Rattle.kv_service.specs.StateReading.{Fault, BadField, TooLong, Unordered, Truncated, Place, Reader, gives, fails, read_on, ◌>>=◌, bytes, number, number_within, count_within, key, value, reply_of_kind, reply, follows, pairs, clients, state, at_end, whole, read_state, state_if, state_in}
use Rattle.paxos_world.proofs.Basics.{In-append}
use Rattle.paxos_world.proofs.Replies.{same-test}
use Rattle.jp_types.specs.Limits.{AreBytes, IsKey, IsValue}
use Rattle.turn_laws.specs.Limits.{IsState}
use Rattle.turn_laws.proofs.Reading.{value_of, value_2, value_4, value_8, last_part, count_part, store_part, keys_part}
use Rattle.turn_laws.proofs.StateLimits.{EntriesFit, IsReply, IsClient, IsLast, StateFits, few-clients}

-- ---- Readers

-- where x stands written, a reader gives it, and leaves what is behind it
abbrev Forth : {A : Type 0} → Reader A → (A → List ℕ) → A → Type 0
Forth reader enc x = (p : Place) (more : List ℕ) → p.rest ≡ enc x ++ more → (q : Place) × (reader p ≡ Ok (x, q)) × (q.rest ≡ more)

-- one read value, and what f reads behind it
on-forth : {A B : Type 0} (r : Result (A × Place) Fault) (f : A → Reader B) (x : A) (q : Place) (z : Result (B × Place) Fault) → r ≡ Ok (x, q) → f x q ≡ z → read_on r f ≡ z
on-forth r f x q z e g = ap (λ (y : Result (_ × Place) Fault). read_on y f) e ∙ g

take-all : (xs ys : List ℕ) → take (length xs) (xs ++ ys) ≡ xs
take-all [] ys = refl
take-all (x ∷ xs) ys = ap (λ l. x ∷ l) (take-all xs ys)

drop-all : (xs ys : List ℕ) → drop (length xs) (xs ++ ys) ≡ ys
drop-all [] ys = refl
drop-all (x ∷ xs) ys = drop-all xs ys

bytes-forth : (k : ℕ) (x : List ℕ) → length x ≡ k → Forth (bytes k) (λ y. y) x
bytes-forth k x size p more e = (record { at = p.at + k; rest = drop k p.rest }, read, drop-is)
  where
    take-is : take k p.rest ≡ x
    take-is = ap (λ (n : ℕ). take n p.rest) (sym size) ∙ ap (λ (l : List ℕ). take (length x) l) e ∙ take-all x more

    drop-is : drop k p.rest ≡ more
    drop-is = ap (λ (n : ℕ). drop n p.rest) (sym size) ∙ ap (λ (l : List ℕ). drop (length x) l) e ∙ drop-all x more

    test : (length (take k p.rest) == k) ≡ true
    test = same-test (length (take k p.rest)) k (ap length take-is ∙ size)

    next : Place
    next = record { at = p.at + k; rest = drop k p.rest }

    taken : List ℕ × Place
    taken = (take k p.rest, next)

    passed : (b : Bool) → b ≡ true → (if b then Ok taken else Err (Truncated p.at)) ≡ Ok (x, next)
    passed true f = ap (λ (l : List ℕ). Ok (l, next)) take-is
    passed false f = absurd cc

    read : bytes k p ≡ Ok (x, next)
    read = passed (length (take k p.rest) == k) test

-- ---- Numbers

-- k bytes stand for the number
record Stands (k : ℕ) (enc : ℕ → List ℕ) (n : ℕ) : Type 0 where
  size : length (enc n) ≡ k
  value : value_of (enc n) ≡ n

stands-1 : (n : ℕ) → Stands 1 (λ m. m ∷ []) n
unfolding value_of
stands-1 n = record { size = refl; value = omega arith }

stands-2 : (n : ℕ) → n < 2 ^ 16 → Stands 2 (to_be_bytes w16) n
stands-2 n lt = record { size = refl; value = value_2 (to_be_bytes w16 n) refl ∙ from_be_bytes-to_be_bytes_2 n lt }

stands-4 : (n : ℕ) → n < 2 ^ 32 → Stands 4 (to_be_bytes w32) n
stands-4 n lt = record { size = refl; value = value_4 (to_be_bytes w32 n) refl ∙ from_be_bytes-to_be_bytes_4 n lt }

stands-8 : (n : ℕ) → n < 2 ^ 64 → Stands 8 (to_be_bytes w64) n
stands-8 n lt = record { size = refl; value = value_8 (to_be_bytes w64 n) refl ∙ from_be_bytes-to_be_bytes_8 n lt }

number-forth : (k : ℕ) (enc : ℕ → List ℕ) (n : ℕ) → Stands k enc n → Forth (number k) enc n
unfolding value_of
number-forth k enc n is p more e =
    let a = bytes-forth k (enc n) is.size p more e in
    (a.0, on-forth (bytes k p) (λ read. gives (fold (λ n b. n * 256 + b) 0 read)) (enc n) a.0 (Ok (n, a.0)) a.1 (ap (λ (m : ℕ). Ok (m, a.0)) is.value), a.2)

module _ (k low high : ℕ) (enc : ℕ → List ℕ) (n : ℕ) (is : Stands k enc n) (from : low ≤ n) (to : n ≤ high) where
  not-low : nat_lt n low ≡ false
  not-low = grind (arith, nat_tests)

  not-high : nat_lt high n ≡ false
  not-high = grind (arith, nat_tests)

  within-forth : Forth (number_within k low high) enc n
  within-forth p more e =
      let a = number-forth k enc n is p more e in
      (a.0, on-forth (number k p) (λ m. if nat_lt m low then fails (BadField p.at) else (if nat_lt high m then fails (BadField p.at) else gives m)) n a.0 (Ok (n, a.0)) a.1 (rw (not-low, not-high) refl), a.2)

  count-forth : Forth (count_within k low high) enc n
  count-forth p more e =
      let a = number-forth k enc n is p more e in
      (a.0, on-forth (number k p) (λ m. if nat_lt high m then fails (TooLong p.at) else (if nat_lt m low then fails (BadField p.at) else gives m)) n a.0 (Ok (n, a.0)) a.1 (rw (not-low, not-high) refl), a.2)

-- ---- Keys, values, replies

sized-forth : (low high : ℕ) (x : List ℕ) → high < 2 ^ 16 → low ≤ length x → length x ≤ high → Forth (count_within 2 low high >>= λ n. bytes n) sized_bytes x
sized-forth low high x small from to p more e =
    let a = count-forth 2 low high (to_be_bytes w16) (length x) (stands-2 (length x) (omega arith)) from to p (x ++ more) (e ∙ append_assoc (to_be_bytes w16 (length x)) x more) in
    let b = bytes-forth (length x) x refl a.0 more a.2 in
    (b.0, on-forth (count_within 2 low high p) (λ n. bytes n) (length x) a.0 (Ok (x, b.0)) a.1 b.1, b.2)

key-forth : (x : List ℕ) → IsKey x → Forth key sized_bytes x
key-forth x is = sized-forth 1 256 x (lit< tt) is.some is.limit

value-forth : (x : List ℕ) → IsValue x → Forth value sized_bytes x
value-forth x is = sized-forth 0 4096 x (lit< tt) (omega arith) is.limit

-- a reply without a value
simple-forth : (kind : ℕ) (r : Reply) → 1 ≤ kind → kind ≤ 4 → ((at : Place) → reply_of_kind kind at ≡ Ok (r, at)) → (p : Place) (more : List ℕ) → p.rest ≡ kind ∷ more → (q : Place) × (reply p ≡ Ok (r, q)) × (q.rest ≡ more)
simple-forth kind r from to gave p more e =
    let a = within-forth 1 1 4 (λ n. n ∷ []) kind (stands-1 kind) from to p more e in
    (a.0, on-forth (number_within 1 1 4 p) (λ n. reply_of_kind n) kind a.0 (Ok (r, a.0)) a.1 (gave a.0), a.2)

reply-forth : (r : Reply) → IsReply r → Forth reply reply_bytes r
reply-forth Done is p more e = simple-forth 1 Done (lit≤ tt) (lit≤ tt) (λ at. refl) p more e
reply-forth (Value v) is p more e =
    let a = within-forth 1 1 4 (λ n. n ∷ []) 2 (stands-1 2) (lit≤ tt) (lit≤ tt) p (sized_bytes v ++ more) e in
    let b = value-forth v is a.0 more a.2 in
    let read : reply_of_kind 2 a.0 ≡ Ok (Value v, b.0) = on-forth (value a.0) (λ w. gives (Value w)) v b.0 (Ok (Value v, b.0)) b.1 refl in
    (b.0, on-forth (number_within 1 1 4 p) (λ n. reply_of_kind n) 2 a.0 (Ok (Value v, b.0)) a.1 read, b.2)
reply-forth NoKey is p more e = simple-forth 3 NoKey (lit≤ tt) (lit≤ tt) (λ at. refl) p more e
reply-forth NoRoom is p more e = simple-forth 4 NoRoom (lit≤ tt) (lit≤ tt) (λ at. refl) p more e

-- ---- Keys with values, clients

-- the first key follows the one before it
abbrev pub Follows : {K X : Type 0} → (K → K → Ordering) → Option K → List (K × X) → Type 0
Follows cmp None es = Unit {0}
Follows cmp (Some before) es = AllByRecursion (λ y. cmp before y ≡ Less) (keys_of es)

followed : {K X : Type 0} (cmp : K → K → Ordering) (before : Option K) (e : K × X) (es : List (K × X)) → Follows cmp before (e ∷ es) → follows cmp before e.0 ≡ true
followed cmp None e es h = refl
followed cmp (Some before) e es h = rw h.0 refl

-- behind a key that follows
goes : {A : Type 0} (b : Bool) (fault : Fault) (g : Reader A) (p : Place) (z : Result (A × Place) Fault) → b ≡ true → g p ≡ z → (if b then g else fails fault) p ≡ z
goes true fault g p z f e = e
goes false fault g p z f e = absurd cc

pairs-forth : (before : Option (List ℕ)) (x : Store) → Follows bytes_cmp before x → IsAscending bytes_cmp x → EntriesFit IsKey IsValue x → Forth (pairs (length x) before) (flat_map pair_bytes) x
unfolding IsStrictlySortedBy
pairs-forth before [] f h are p more e = (p, refl, e)
pairs-forth before (x ∷ xs) f h are p more e =
    let line : p.rest ≡ sized_bytes x.0 ++ (sized_bytes x.1 ++ (flat_map pair_bytes xs ++ more)) = e ∙ three (sized_bytes x.0) (sized_bytes x.1) (flat_map pair_bytes xs) more in
    let a = key-forth x.0 are.0.0 p (sized_bytes x.1 ++ (flat_map pair_bytes xs ++ more)) line in
    let b = value-forth x.1 are.0.1 a.0 (flat_map pair_bytes xs ++ more) a.2 in
    let c = pairs-forth (Some x.0) xs h.0 h.1 are.1 b.0 more b.2 in
    let z : Result (Store × Place) Fault = Ok (x ∷ xs, c.0) in
    let on_c : (pairs (length xs) (Some x.0) >>= λ more. gives ((x.0, x.1) ∷ more)) b.0 ≡ z = on-forth (pairs (length xs) (Some x.0) b.0) (λ more. gives ((x.0, x.1) ∷ more)) xs c.0 z c.1 refl in
    let on_b : (value >>= λ v. pairs (length xs) (Some x.0) >>= λ more. gives ((x.0, v) ∷ more)) a.0 ≡ z = on-forth (value a.0) (λ v. pairs (length xs) (Some x.0) >>= λ more. gives ((x.0, v) ∷ more)) x.1 b.0 z b.1 on_c in
    let on_a = goes (follows bytes_cmp before x.0) (Unordered p.at) (value >>= λ v. pairs (length xs) (Some x.0) >>= λ more. gives ((x.0, v) ∷ more)) a.0 z (followed bytes_cmp before x xs f) on_b in
    (c.0, on-forth (key p) (λ q. if follows bytes_cmp before q then (value >>= λ v. pairs (length xs) (Some q) >>= λ more. gives ((q, v) ∷ more)) else fails (Unordered p.at)) x.0 a.0 z a.1 on_a, c.2)
  where
    three : (a b c d : List ℕ) → ((a ++ b) ++ c) ++ d ≡ a ++ (b ++ (c ++ d))
    three a b c d = simp append_assoc

abbrev pub Last : Type 0
Last = ℕ × (ℕ × Reply)

clients-forth : (before : Option ℕ) (x : List Last) → Follows nat_cmp before x → IsAscending nat_cmp x → EntriesFit IsClient IsLast x → Forth (clients (length x) before) (flat_map client_bytes) x
unfolding IsStrictlySortedBy
clients-forth before [] f h are p more e = (p, refl, e)
clients-forth before (x ∷ xs) f h are p more e =
    let line : p.rest ≡ to_be_bytes w64 x.0 ++ (to_be_bytes w64 x.1.0 ++ (reply_bytes x.1.1 ++ (flat_map client_bytes xs ++ more))) = e ∙ four (to_be_bytes w64 x.0) (to_be_bytes w64 x.1.0) (reply_bytes x.1.1) (flat_map client_bytes xs) more in
    let low = are.0.0 in
    let limit = are.0.1.1 in
    let a = within-forth 8 0 1023 (to_be_bytes w64) x.0 (stands-8 x.0 (omega arith)) (omega arith) low p (to_be_bytes w64 x.1.0 ++ (reply_bytes x.1.1 ++ (flat_map client_bytes xs ++ more))) line in
    let b = within-forth 8 1 (2 ^ 48) (to_be_bytes w64) x.1.0 (stands-8 x.1.0 (omega arith)) are.0.1.0 limit a.0 (reply_bytes x.1.1 ++ (flat_map client_bytes xs ++ more)) a.2 in
    let c = reply-forth x.1.1 are.0.1.2 b.0 (flat_map client_bytes xs ++ more) b.2 in
    let d = clients-forth (Some x.0) xs h.0 h.1 are.1 c.0 more c.2 in
    let z : Result (List Last × Place) Fault = Ok (x ∷ xs, d.0) in
    let on_d : tail x.0 x.1.0 x.1.1 c.0 ≡ z = on-forth (clients (length xs) (Some x.0) c.0) (λ more. gives ((x.0, (x.1.0, x.1.1)) ∷ more)) xs d.0 z d.1 refl in
    let on_c : (reply >>= λ r. tail x.0 x.1.0 r) b.0 ≡ z = on-forth (reply b.0) (λ r. tail x.0 x.1.0 r) x.1.1 c.0 z c.1 on_d in
    let on_b : body x.0 a.0 ≡ z = on-forth (number_within 8 1 (2 ^ 48) a.0) (λ n. reply >>= λ r. tail x.0 n r) x.1.0 b.0 z b.1 on_c in
    let on_a = goes (follows nat_cmp before x.0) (Unordered p.at) (body x.0) a.0 z (followed nat_cmp before x xs f) on_b in
    (d.0, on-forth (number_within 8 0 1023 p) (λ c. if follows nat_cmp before c then body c else fails (Unordered p.at)) x.0 a.0 z a.1 on_a, d.2)
  where
    four : (a b c d e : List ℕ) → ((a ++ (b ++ c)) ++ d) ++ e ≡ a ++ (b ++ (c ++ (d ++ e)))
    four a b c d e = simp append_assoc

    tail : ℕ → ℕ → Reply → Reader (List Last)
    tail c n r = clients (length xs) (Some c) >>= λ more. gives ((c, (n, r)) ∷ more)

    body : ℕ → Reader (List Last)
    body c = number_within 8 1 (2 ^ 48) >>= λ n. reply >>= λ r. tail c n r

-- ---- States

apart : (s : State) → state_bytes s ++ [] ≡ to_be_bytes w64 s.executed ++ (to_be_bytes w32 (length s.store) ++ (flat_map pair_bytes s.store ++ (to_be_bytes w32 (length s.last) ++ (flat_map client_bytes s.last ++ []))))
unfolding state_bytes
apart s = five (to_be_bytes w64 s.executed) (to_be_bytes w32 (length s.store)) (flat_map pair_bytes s.store) (to_be_bytes w32 (length s.last)) (flat_map client_bytes s.last) []
  where
    five : (a b c d e f : List ℕ) → ((((a ++ b) ++ c) ++ d) ++ e) ++ f ≡ a ++ (b ++ (c ++ (d ++ (e ++ f))))
    five a b c d e f = simp append_assoc

state-forth : (s : State) → StateFits s → (p : Place) → p.rest ≡ state_bytes s → (q : Place) × (state p ≡ Ok (s, q)) × (q.rest ≡ [])
unfolding last_part count_part store_part keys_part
state-forth s h p e =
    let limit = h.executed in
    let room = h.store.room in
    let few = few-clients s h in
    let line = e ∙ sym (append-nil (state_bytes s)) ∙ apart s in
    let a = within-forth 8 0 (2 ^ 48) (to_be_bytes w64) s.executed (stands-8 s.executed (omega arith)) (omega arith) limit p (to_be_bytes w32 (length s.store) ++ (flat_map pair_bytes s.store ++ (to_be_bytes w32 (length s.last) ++ (flat_map client_bytes s.last ++ [])))) line in
    let b = count-forth 4 0 16384 (to_be_bytes w32) (length s.store) (stands-4 (length s.store) (omega arith)) (omega arith) room a.0 (flat_map pair_bytes s.store ++ (to_be_bytes w32 (length s.last) ++ (flat_map client_bytes s.last ++ []))) a.2 in
    let c = pairs-forth None s.store tt h.store.ascending h.store.pairs b.0 (to_be_bytes w32 (length s.last) ++ (flat_map client_bytes s.last ++ [])) b.2 in
    let d = count-forth 4 0 1024 (to_be_bytes w32) (length s.last) (stands-4 (length s.last) (omega arith)) (omega arith) few c.0 (flat_map client_bytes s.last ++ []) c.2 in
    let f = clients-forth None s.last tt h.ascending h.last d.0 [] d.2 in
    let z : Result (State × Place) Fault = Ok (s, f.0) in
    let on_f : last_part s.executed s.store (length s.last) d.0 ≡ z = on-forth (clients (length s.last) None d.0) (λ last. gives (record { store = s.store; executed = s.executed; last = last })) s.last f.0 z f.1 refl in
    let on_d : count_part s.executed s.store c.0 ≡ z = on-forth (count_within 4 0 1024 c.0) (λ count. last_part s.executed s.store count) (length s.last) d.0 z d.1 on_f in
    let on_c : store_part s.executed (length s.store) b.0 ≡ z = on-forth (pairs (length s.store) None b.0) (λ store. count_part s.executed store) s.store c.0 z c.1 on_d in
    let on_b : keys_part s.executed a.0 ≡ z = on-forth (count_within 4 0 16384 a.0) (λ keys. store_part s.executed keys) (length s.store) b.0 z b.1 on_c in
    (f.0, on-forth (number_within 8 0 (2 ^ 48) p) (λ executed. keys_part executed) s.executed a.0 z a.1 on_b, f.2)

told : (s : State) → StateFits s → state_in (state_bytes s) ≡ Some s
unfolding read_state
told s h =
    let begin : Place = record { at = 0; rest = state_bytes s } in
    let a = state-forth s h begin refl in
    ap (λ (r : Result (State × Place) Fault). state_if (whole r)) a.1 ∙ ap (λ (l : List ℕ). state_if (at_end s l a.0.at)) a.2

-- ---- Bytes

no-bytes : AreBytes []
no-bytes b n = absurd n

joined-bytes : (xs ys : List ℕ) → AreBytes xs → AreBytes ys → AreBytes (xs ++ ys)
joined-bytes xs ys h k b n = ⊎_elim (λ m. h b m) (λ m. k b m) (In-append b xs ys n)

byte-below : (k n : ℕ) → byte_at k n < 256
byte-below zero n = mod-lt n (lit< tt)
byte-below (suc k) n = mod-lt (n / 256 ^ suc k) (lit< tt)

number-bytes : (k n : ℕ) → AreBytes (bytes_high_first k n)
number-bytes zero n b m = absurd m
number-bytes (suc k) n b (inl e) = subst (λ (m : ℕ). m < 256) (sym e) (byte-below k n)
number-bytes (suc k) n b (inr m) = number-bytes k n b m

sized-are : (xs : List ℕ) → AreBytes xs → AreBytes (sized_bytes xs)
sized-are xs h = joined-bytes (to_be_bytes w16 (length xs)) xs (number-bytes 2 (length xs)) h

pairs-are : (x : Store) → EntriesFit IsKey IsValue x → AreBytes (flat_map pair_bytes x)
pairs-are [] h = no-bytes
pairs-are (e ∷ es) h =
    joined-bytes (pair_bytes e) (flat_map pair_bytes es) (joined-bytes (sized_bytes e.0) (sized_bytes e.1) (sized-are e.0 h.0.0.bytes) (sized-are e.1 h.0.1.bytes)) (pairs-are es h.1)

kind-are : (kind : ℕ) (xs : List ℕ) → kind < 256 → AreBytes xs → AreBytes (kind ∷ xs)
kind-are kind xs lt h b (inl e) = omega arith
kind-are kind xs lt h b (inr n) = h b n

reply-are : (r : Reply) → IsReply r → AreBytes (reply_bytes r)
reply-are Done is = kind-are 1 [] (lit< tt) no-bytes
reply-are (Value v) is = kind-are 2 (sized_bytes v) (lit< tt) (sized-are v is.bytes)
reply-are NoKey is = kind-are 3 [] (lit< tt) no-bytes
reply-are NoRoom is = kind-are 4 [] (lit< tt) no-bytes

clients-are : (x : List Last) → EntriesFit IsClient IsLast x → AreBytes (flat_map client_bytes x)
clients-are [] h = no-bytes
clients-are (e ∷ es) h =
    let last = joined-bytes (to_be_bytes w64 e.1.0) (reply_bytes e.1.1) (number-bytes 8 e.1.0) (reply-are e.1.1 h.0.1.2) in
    joined-bytes (client_bytes e) (flat_map client_bytes es) (joined-bytes (to_be_bytes w64 e.0) (to_be_bytes w64 e.1.0 ++ reply_bytes e.1.1) (number-bytes 8 e.0) last) (clients-are es h.1)

state-are : (s : State) → StateFits s → AreBytes (state_bytes s)
unfolding state_bytes
state-are s h =
    let a = to_be_bytes w64 s.executed in
    let b = to_be_bytes w32 (length s.store) in
    let c = flat_map pair_bytes s.store in
    let d = to_be_bytes w32 (length s.last) in
    joined-bytes (((a ++ b) ++ c) ++ d) (flat_map client_bytes s.last)
    (joined-bytes ((a ++ b) ++ c) d (joined-bytes (a ++ b) c (joined-bytes a b (number-bytes 8 s.executed) (number-bytes 4 (length s.store))) (pairs-are s.store h.store.pairs)) (number-bytes 4 (length s.last)))
    (clients-are s.last h.last)

-- a state within the limits reads back from its bytes
pub state-of-fits : (s : State) → StateFits s → IsState s
state-of-fits s h = (told s h, state-are s h)

-- The bytes of a state within its limits read as that state.
use Rattle.std.proofs.Common.{◌≡◌, ℕ, suc, ◌+◌, ◌*◌, ◌^◌, ◌<◌, ◌≤◌, Bool, true, false, List, [], ◌∷◌, ◌++◌, length, take, drop, fold, nat_lt, nat_cmp, ◌==◌, if◌then◌else◌, Option, Some, None, Result, Ok, Err, lit<, lit≤, refl, sym, ap, ◌∙◌, arith, append-nil, append_assoc}
use Rattle.std.proofs.lemmas.Bool.{eq-eqb}
use Rattle.std.proofs.lemmas.Bool.Decides.{nat_tests}
use Rattle.std.proofs.lemmas.List.{take_at, drop_at}
use Rattle.std.proofs.lemmas.Nat.{from_be_bytes-to_be_bytes_2, from_be_bytes-to_be_bytes_4, from_be_bytes-to_be_bytes_8}
use Rattle.std.specs.declared.cmp.Ordering.{Ordering}
use Rattle.std.specs.declared.cmp.Ordering.TheVariants.{Less}
use Rattle.std.specs.List.{AllByRecursion, flat_map}
use Rattle.std.specs.List.Sorted.{IsStrictlySortedBy}
use Rattle.std.specs.Map.{keys_of}
use Rattle.std.specs.Int.{to_be_bytes, w16, w32, w64}
use Rattle.jp_types.specs.declared.command.Reply.{Reply}
use Rattle.jp_types.specs.declared.command.Reply.TheVariants.{Done, Value, NoKey, NoRoom}
use Rattle.kv_service.specs.Ascending.{IsAscending}
use Rattle.kv_service.specs.Limits.{IsReply, IsPair, IsLast, IsWithinLimits}
use Rattle.kv_service.specs.Service.{State}
use Rattle.kv_service.specs.Store.{bytes_cmp}
use Rattle.kv_service.specs.StateBytes.{sized_bytes, pair_bytes, reply_bytes, client_bytes, state_bytes}
use Rattle.kv_service.specs.StateReading.{Fault, BadField, TooLong, Unordered, Truncated, Place, Reader, gives, fails, read_on, ◌>>=◌, bytes, number, number_within, count_within, key, value, reply_of_kind, reply, follows, pairs, clients, state, at_end, whole, read_state}
use Rattle.kv_service.specs.declared.fault.StateFault.{StateFault}
use Rattle.kv_service.specs.declared.fault.StateFault.TheVariants as told
use Rattle.kv_service.specs.StateTelling.{fault_of, IsFault, pair, client}
use Rattle.kv_service.proofs.ReadingLoops.{IsOneByOne, Last, pairs_one_by_one, clients_one_by_one}
use Rattle.kv_service.proofs.StateBack.{Follows, value_of, value_2, value_4, value_8, last_part, count_part, store_part, keys_part}

-- where x stands written, a reader gives it, and leaves what is behind it
abbrev Forth : {A : Type 0} → Reader A → (A → List ℕ) → A → Type 0
Forth reader enc x = (p : Place) (more : List ℕ) → p.rest ≡ enc x ++ more → (q : Place) × (reader p ≡ Ok (x, q)) × (q.rest ≡ more)

-- one read value, and what f reads behind it
on-forth : {A B : Type 0} (r : Result (A × Place) Fault) (f : A → Reader B) (x : A) (q : Place) (z : Result (B × Place) Fault) → r ≡ Ok (x, q) → f x q ≡ z → read_on r f ≡ z
on-forth r f x q z e g = ap (λ (y : Result (_ × Place) Fault). read_on y f) e ∙ g

bytes-forth : (k : ℕ) (x : List ℕ) → length x ≡ k → Forth (bytes k) (λ y. y) x
bytes-forth k x size p more e = (next, read, drop-is)
  where
    take-is : take k p.rest ≡ x
    take-is = ap (λ (l : List ℕ). take k l) e ∙ take_at x more k size

    drop-is : drop k p.rest ≡ more
    drop-is = ap (λ (l : List ℕ). drop k l) e ∙ drop_at x more k size

    test : (length (take k p.rest) == k) ≡ true
    test = eq-eqb (length (take k p.rest)) k (ap length take-is ∙ size)

    next : Place
    next = record { at = p.at + k; rest = drop k p.rest }

    taken : List ℕ × Place
    taken = (take k p.rest, next)

    passed : (b : Bool) → b ≡ true → (if b then Ok taken else Err (Truncated p.at)) ≡ Ok (x, next)
    passed true f = ap (λ (l : List ℕ). Ok (l, next)) take-is
    passed false f = absurd cc

    read : bytes k p ≡ Ok (x, next)
    read = passed (length (take k p.rest) == k) test

-- ---- Numbers

-- k bytes stand for the number
record Stands (k : ℕ) (enc : ℕ → List ℕ) (n : ℕ) : Type 0 where
  size : length (enc n) ≡ k
  value : value_of (enc n) ≡ n

stands-1 : (n : ℕ) → Stands 1 (λ m. m ∷ []) n
unfolding value_of
stands-1 n = record { size = refl; value = omega arith }

stands-2 : (n : ℕ) → n < 2 ^ 16 → Stands 2 (to_be_bytes w16) n
stands-2 n lt = record { size = refl; value = value_2 (to_be_bytes w16 n) refl ∙ from_be_bytes-to_be_bytes_2 n lt }

stands-4 : (n : ℕ) → n < 2 ^ 32 → Stands 4 (to_be_bytes w32) n
stands-4 n lt = record { size = refl; value = value_4 (to_be_bytes w32 n) refl ∙ from_be_bytes-to_be_bytes_4 n lt }

stands-8 : (n : ℕ) → n < 2 ^ 64 → Stands 8 (to_be_bytes w64) n
stands-8 n lt = record { size = refl; value = value_8 (to_be_bytes w64 n) refl ∙ from_be_bytes-to_be_bytes_8 n lt }

number-forth : (k : ℕ) (enc : ℕ → List ℕ) (n : ℕ) → Stands k enc n → Forth (number k) enc n
unfolding value_of
number-forth k enc n is p more e =
    let a = bytes-forth k (enc n) is.size p more e in
    (a.0, on-forth (bytes k p) (λ read. gives (fold (λ n b. n * 256 + b) 0 read)) (enc n) a.0 (Ok (n, a.0)) a.1 (ap (λ (m : ℕ). Ok (m, a.0)) is.value), a.2)

module _ (k low high : ℕ) (enc : ℕ → List ℕ) (n : ℕ) (is : Stands k enc n) (from : low ≤ n) (to : n ≤ high) where
  not-low : nat_lt n low ≡ false
  not-low = grind (arith, nat_tests)

  not-high : nat_lt high n ≡ false
  not-high = grind (arith, nat_tests)

  within-forth : Forth (number_within k low high) enc n
  within-forth p more e =
      let a = number-forth k enc n is p more e in
      (a.0, on-forth (number k p) (λ m. if nat_lt m low then fails (BadField p.at) else (if nat_lt high m then fails (BadField p.at) else gives m)) n a.0 (Ok (n, a.0)) a.1 (rw (not-low, not-high) refl), a.2)

  count-forth : Forth (count_within k low high) enc n
  count-forth p more e =
      let a = number-forth k enc n is p more e in
      (a.0, on-forth (number k p) (λ m. if nat_lt high m then fails (TooLong p.at) else (if nat_lt m low then fails (BadField p.at) else gives m)) n a.0 (Ok (n, a.0)) a.1 (rw (not-low, not-high) refl), a.2)

-- ---- Keys, values, replies

sized-forth : (low high : ℕ) (x : List ℕ) → high < 2 ^ 16 → low ≤ length x → length x ≤ high → Forth (count_within 2 low high >>= λ n. bytes n) sized_bytes x
sized-forth low high x small from to p more e =
    let a = count-forth 2 low high (to_be_bytes w16) (length x) (stands-2 (length x) (omega arith)) from to p (x ++ more) (e ∙ append_assoc (to_be_bytes w16 (length x)) x more) in
    let b = bytes-forth (length x) x refl a.0 more a.2 in
    (b.0, on-forth (count_within 2 low high p) (λ n. bytes n) (length x) a.0 (Ok (x, b.0)) a.1 b.1, b.2)

key-forth : (x : List ℕ) → 1 ≤ length x → length x ≤ 256 → Forth key sized_bytes x
key-forth x some limit = sized-forth 1 256 x (lit< tt) some limit

value-forth : (x : List ℕ) → length x ≤ 4096 → Forth value sized_bytes x
value-forth x limit = sized-forth 0 4096 x (lit< tt) (omega arith) limit

-- a reply without a value
simple-forth : (kind : ℕ) (r : Reply) → 1 ≤ kind → kind ≤ 4 → ((at : Place) → reply_of_kind kind at ≡ Ok (r, at)) → (p : Place) (more : List ℕ) → p.rest ≡ kind ∷ more → (q : Place) × (reply p ≡ Ok (r, q)) × (q.rest ≡ more)
simple-forth kind r from to gave p more e =
    let a = within-forth 1 1 4 (λ n. n ∷ []) kind (stands-1 kind) from to p more e in
    (a.0, on-forth (number_within 1 1 4 p) (λ n. reply_of_kind n) kind a.0 (Ok (r, a.0)) a.1 (gave a.0), a.2)

reply-forth : (r : Reply) → IsReply r → Forth reply reply_bytes r
reply-forth Done is p more e = simple-forth 1 Done (lit≤ tt) (lit≤ tt) (λ at. refl) p more e
reply-forth (Value v) is p more e =
    let a = within-forth 1 1 4 (λ n. n ∷ []) 2 (stands-1 2) (lit≤ tt) (lit≤ tt) p (sized_bytes v ++ more) e in
    let b = value-forth v is a.0 more a.2 in
    let read : reply_of_kind 2 a.0 ≡ Ok (Value v, b.0) = on-forth (value a.0) (λ w. gives (Value w)) v b.0 (Ok (Value v, b.0)) b.1 refl in
    (b.0, on-forth (number_within 1 1 4 p) (λ n. reply_of_kind n) 2 a.0 (Ok (Value v, b.0)) a.1 read, b.2)
reply-forth NoKey is p more e = simple-forth 3 NoKey (lit≤ tt) (lit≤ tt) (λ at. refl) p more e
reply-forth NoRoom is p more e = simple-forth 4 NoRoom (lit≤ tt) (lit≤ tt) (λ at. refl) p more e

-- ---- One entry

-- one entry that fits and whose key may follow the one before it
abbrev EntryForth : {X K : Type 0} → (K → K → Ordering) → (Option K → Reader (K × X)) → (K × X → List ℕ) → (K × X → Type 0) → Type 0
EntryForth {X} {K} cmp one enc Fits = (before : Option K) (x : K × X) → follows cmp before x.0 ≡ true → Fits x → Forth (one before) enc x

-- behind a key that follows
goes : {A : Type 0} (b : Bool) (fault : Fault) (g : Reader A) (p : Place) (z : Result (A × Place) Fault) → b ≡ true → g p ≡ z → (if b then g else fails fault) p ≡ z
goes true fault g p z f e = e
goes false fault g p z f e = absurd cc

pair-forth : EntryForth bytes_cmp pair pair_bytes IsPair
pair-forth before x f is p more e =
    let a = key-forth x.0 is.some is.limit p (sized_bytes x.1 ++ more) (e ∙ append_assoc (sized_bytes x.0) (sized_bytes x.1) more) in
    let b = value-forth x.1 is.value a.0 more a.2 in
    let z : Result ((List ℕ × List ℕ) × Place) Fault = Ok ((x.0, x.1), b.0) in
    let on_b : (value >>= λ v. gives (x.0, v)) a.0 ≡ z = on-forth (value a.0) (λ v. gives (x.0, v)) x.1 b.0 z b.1 refl in
    let on_a = goes (follows bytes_cmp before x.0) (Unordered p.at) (value >>= λ v. gives (x.0, v)) a.0 z f on_b in
    (b.0, on-forth (key p) (λ q. if follows bytes_cmp before q then (value >>= λ v. gives (q, v)) else fails (Unordered p.at)) x.0 a.0 z a.1 on_a, b.2)

client-forth : EntryForth nat_cmp client client_bytes IsLast
client-forth before x f is p more e =
    let low = is.client in
    let limit = is.limit in
    let body : ℕ → Reader Last = λ c. number_within 8 1 (2 ^ 48) >>= λ n. reply >>= λ r. gives (c, (n, r)) in
    let a = within-forth 8 0 1023 (to_be_bytes w64) x.0 (stands-8 x.0 (omega arith)) (omega arith) low p (to_be_bytes w64 x.1.0 ++ (reply_bytes x.1.1 ++ more)) (e ∙ three (to_be_bytes w64 x.0) (to_be_bytes w64 x.1.0) (reply_bytes x.1.1) more) in
    let b = within-forth 8 1 (2 ^ 48) (to_be_bytes w64) x.1.0 (stands-8 x.1.0 (omega arith)) is.some limit a.0 (reply_bytes x.1.1 ++ more) a.2 in
    let c = reply-forth x.1.1 is.reply b.0 more b.2 in
    let z : Result (Last × Place) Fault = Ok ((x.0, (x.1.0, x.1.1)), c.0) in
    let on_c : (reply >>= λ r. gives (x.0, (x.1.0, r))) b.0 ≡ z = on-forth (reply b.0) (λ r. gives (x.0, (x.1.0, r))) x.1.1 c.0 z c.1 refl in
    let on_b : body x.0 a.0 ≡ z = on-forth (number_within 8 1 (2 ^ 48) a.0) (λ n. reply >>= λ r. gives (x.0, (n, r))) x.1.0 b.0 z b.1 on_c in
    let on_a = goes (follows nat_cmp before x.0) (Unordered p.at) (body x.0) a.0 z f on_b in
    (c.0, on-forth (number_within 8 0 1023 p) (λ c. if follows nat_cmp before c then body c else fails (Unordered p.at)) x.0 a.0 z a.1 on_a, c.2)
  where
    three : (a b c d : List ℕ) → (a ++ (b ++ c)) ++ d ≡ a ++ (b ++ (c ++ d))
    three a b c d = simp append_assoc

-- ---- Many entries

followed : {K X : Type 0} (cmp : K → K → Ordering) (before : Option K) (e : K × X) (es : List (K × X)) → Follows cmp before (e ∷ es) → follows cmp before e.0 ≡ true
followed cmp None e es h = refl
followed cmp (Some before) e es h = rw h.0 refl

module _ {X K : Type 0} (cmp : K → K → Ordering) (one : Option K → Reader (K × X)) (many : ℕ → Option K → Reader (List (K × X))) (is : IsOneByOne (λ e. e.0) one many) (enc : K × X → List ℕ) (Fits : K × X → Type 0)
    (forth : EntryForth cmp one enc Fits) where
  many-forth : (before : Option K) (es : List (K × X)) → Follows cmp before es → IsAscending cmp es → AllByRecursion Fits es → Forth (many (length es) before) (flat_map enc) es
  unfolding IsStrictlySortedBy
  many-forth before [] f h are p more e = (p, is.none before p, e)
  many-forth before (x ∷ xs) f h are p more e =
      let a = forth before x (followed cmp before x xs f) are.0 p (flat_map enc xs ++ more) (e ∙ append_assoc (enc x) (flat_map enc xs) more) in
      let b = many-forth (Some x.0) xs h.0 h.1 are.1 a.0 more a.2 in
      let z : Result (List (K × X) × Place) Fault = Ok (x ∷ xs, b.0) in
      let on_b : (many (length xs) (Some x.0) >>= λ es. gives (x ∷ es)) a.0 ≡ z = on-forth (many (length xs) (Some x.0) a.0) (λ es. gives (x ∷ es)) xs b.0 z b.1 refl in
      let on_a = on-forth (one before p) (λ y. many (length xs) (Some y.0) >>= λ es. gives (y ∷ es)) x a.0 z a.1 on_b in
      (b.0, is.more (length xs) before p ∙ on_a, b.2)

-- numbers that ascend from a low one to 1,023 are no more than there are
few-from : (X : Type 0) (low : ℕ) (es : List (ℕ × X)) → low ≤ 1024 → AllByRecursion (λ y. low ≤ y) (keys_of es) → IsAscending nat_cmp es → AllByRecursion (λ y. y ≤ 1023) (keys_of es) → low + length es ≤ 1024
unfolding IsStrictlySortedBy
few-from X low [] le from h within = omega arith
few-from X low (e ∷ es) le from h within =
    let first = from.0 in
    let bound = within.0 in
    let rest = few-from X (suc e.0) es (omega arith) (all-above es h.0) h.1 within.1 in
    omega arith
  where
    next : (y : ℕ) → nat_cmp e.0 y ≡ Less → suc e.0 ≤ y
    next y f = grind (arith, nat_tests)

    all-above : (fs : List (ℕ × X)) → AllByRecursion (λ y. nat_cmp e.0 y ≡ Less) (keys_of fs) → AllByRecursion (λ y. suc e.0 ≤ y) (keys_of fs)
    all-above [] a = tt
    all-above (f ∷ fs) a = (next f.0 a.0, all-above fs a.1)

all-from-zero : (ys : List ℕ) → AllByRecursion (λ y. 0 ≤ y) ys
all-from-zero [] = tt
all-from-zero (y ∷ ys) = (omega arith, all-from-zero ys)

all-within : (es : List Last) → AllByRecursion IsLast es → AllByRecursion (λ y. y ≤ 1023) (keys_of es)
all-within [] h = tt
all-within (e ∷ es) h = (h.0.client, all-within es h.1)

few-clients : (es : List Last) → IsAscending nat_cmp es → AllByRecursion IsLast es → length es ≤ 1024
few-clients es ascending within = let few = few-from (ℕ × Reply) 0 es (omega arith) (all-from-zero (keys_of es)) ascending (all-within es within) in omega arith

-- ---- States

apart : (s : State) → state_bytes s ++ [] ≡ to_be_bytes w64 s.executed ++ (to_be_bytes w32 (length s.store) ++ (flat_map pair_bytes s.store ++ (to_be_bytes w32 (length s.last) ++ (flat_map client_bytes s.last ++ []))))
unfolding state_bytes
apart s = five (to_be_bytes w64 s.executed) (to_be_bytes w32 (length s.store)) (flat_map pair_bytes s.store) (to_be_bytes w32 (length s.last)) (flat_map client_bytes s.last) []
  where
    five : (a b c d e f : List ℕ) → ((((a ++ b) ++ c) ++ d) ++ e) ++ f ≡ a ++ (b ++ (c ++ (d ++ (e ++ f))))
    five a b c d e f = simp append_assoc

state-forth : (s : State) → IsWithinLimits s → (p : Place) → p.rest ≡ state_bytes s → (q : Place) × (state p ≡ Ok (s, q)) × (q.rest ≡ [])
unfolding last_part count_part store_part keys_part
state-forth s h p e =
    let limit = h.executed in
    let room = h.room in
    let few = few-clients s.last h.ascending_clients h.last in
    let line = e ∙ sym (append-nil (state_bytes s)) ∙ apart s in
    let a = within-forth 8 0 (2 ^ 48) (to_be_bytes w64) s.executed (stands-8 s.executed (omega arith)) (omega arith) limit p (to_be_bytes w32 (length s.store) ++ (flat_map pair_bytes s.store ++ (to_be_bytes w32 (length s.last) ++ (flat_map client_bytes s.last ++ [])))) line in
    let b = count-forth 4 0 16384 (to_be_bytes w32) (length s.store) (stands-4 (length s.store) (omega arith)) (omega arith) room a.0 (flat_map pair_bytes s.store ++ (to_be_bytes w32 (length s.last) ++ (flat_map client_bytes s.last ++ []))) a.2 in
    let c = many-forth bytes_cmp pair pairs pairs_one_by_one pair_bytes IsPair pair-forth None s.store tt h.ascending_keys h.pairs b.0 (to_be_bytes w32 (length s.last) ++ (flat_map client_bytes s.last ++ [])) b.2 in
    let d = count-forth 4 0 1024 (to_be_bytes w32) (length s.last) (stands-4 (length s.last) (omega arith)) (omega arith) few c.0 (flat_map client_bytes s.last ++ []) c.2 in
    let f = many-forth nat_cmp client clients clients_one_by_one client_bytes IsLast client-forth None s.last tt h.ascending_clients h.last d.0 [] d.2 in
    let z : Result (State × Place) Fault = Ok (s, f.0) in
    let on_f : last_part s.executed s.store (length s.last) d.0 ≡ z = on-forth (clients (length s.last) None d.0) (λ last. gives (record { store = s.store; executed = s.executed; last = last })) s.last f.0 z f.1 refl in
    let on_d : count_part s.executed s.store c.0 ≡ z = on-forth (count_within 4 0 1024 c.0) (λ count. last_part s.executed s.store count) (length s.last) d.0 z d.1 on_f in
    let on_c : store_part s.executed (length s.store) b.0 ≡ z = on-forth (pairs (length s.store) None b.0) (λ store. count_part s.executed store) s.store c.0 z c.1 on_d in
    let on_b : keys_part s.executed a.0 ≡ z = on-forth (count_within 4 0 16384 a.0) (λ keys. store_part s.executed keys) (length s.store) b.0 z b.1 on_c in
    (f.0, on-forth (number_within 8 0 (2 ^ 48) p) (λ executed. keys_part executed) s.executed a.0 z a.1 on_b, f.2)

-- a state within its limits reads back from its bytes
pub read-forth : (s : State) → IsWithinLimits s → read_state (state_bytes s) ≡ Ok s
unfolding read_state
read-forth s h =
    let begin : Place = record { at = 0; rest = state_bytes s } in
    let a = state-forth s h begin refl in
    ap (λ (r : Result (State × Place) Fault). whole r) a.1 ∙ ap (λ (l : List ℕ). at_end s l a.0.at) a.2

abbrev okay : {A : Type 0} → A → Result A Fault
okay x = Ok x

-- what is read of its bytes is that state
pub is-state : (bs : List ℕ) (x s : State) → read_state bs ≡ Ok x → IsWithinLimits s → bs ≡ state_bytes s → x ≡ s
is-state bs x s e h spelled =
    let both : okay x ≡ okay s = sym e ∙ ap read_state spelled ∙ read-forth s h in
    cc

-- no fault is read of its bytes
pub is-want : (t : StateFault) (bs : List ℕ) (s : State) → IsFault (fault_of t) (read_state bs) → IsWithinLimits s → bs ≡ state_bytes s → t ≡ told.NoMemory
is-want t bs s e h spelled = by t e
  where
    read : read_state bs ≡ Ok s
    read = ap read_state spelled ∙ read-forth s h

    never : (f : Fault) → read_state bs ≡ Err f → ⊥
    never f g = let both : Ok s ≡ Err f = sym read ∙ g in absurd cc

    by : (u : StateFault) → IsFault (fault_of u) (read_state bs) → u ≡ told.NoMemory
    by (told.Truncated at) g = absurd (never (Fault.Truncated at) g)
    by (told.Unordered at) g = absurd (never (Fault.Unordered at) g)
    by (told.TooLong at) g = absurd (never (Fault.TooLong at) g)
    by (told.Trailing at) g = absurd (never (Fault.Trailing at) g)
    by (told.BadField at) g = absurd (never (Fault.BadField at) g)
    by told.NoMemory g = refl

-- A service's state within the limits, which executing a batch within the limits keeps.
use Rattle.std.proofs.Common.{◌≡◌, ℕ, suc, ◌+◌, ◌<◌, ◌≤◌, Bool, true, false, ◌&&◌, not, cond, List, [], ◌∷◌, length, nat_le, nat_cmp, if◌then◌else◌, Option, Some, None, is_some, refl, sym, ap, subst, ◌∙◌, inl, inr, arith}
use Rattle.std.proofs.lemmas.Bool.Decides.{nat_tests}
use Rattle.std.specs.declared.cmp.Ordering.{Ordering}
use Rattle.std.specs.declared.cmp.Ordering.TheVariants.{Less, Equal, Greater}
use Rattle.std.specs.Ordering.{match_ordering}
use Rattle.std.specs.Cmp.{IsTotalOrder, nat_cmp_total}
use Rattle.std.specs.Cmp.Lexicographic.{nat_list_cmp_total}
use Rattle.std.specs.BTreeMap.{is_at, insert_entry}
use Rattle.std.specs.Map.{keys_of, lookup, remove_entry}
use Rattle.std.specs.List.{AllByRecursion}
use Rattle.std.specs.List.Sorted.{IsStrictlySortedBy}
use Rattle.jp_types.specs.Views.{number_limit}
use Rattle.jp_types.specs.declared.command.Command.{Command}
use Rattle.jp_types.specs.declared.command.Command.TheVariants.{Put, Get, Del, Cas}
use Rattle.jp_types.specs.declared.command.Reply.{Reply}
use Rattle.jp_types.specs.declared.command.Reply.TheVariants.{Done, Value, NoKey, NoRoom}
use Rattle.jp_types.specs.declared.command.Request.{Request}
use Rattle.kv_service.specs.Ascending.{IsAscending}
use Rattle.kv_service.specs.Entries
use Rattle.kv_service.specs.Store.{Store, bytes_cmp, get, contains_key, is_over, put, reply_of, is_same, apply}
use Rattle.kv_service.specs.declared.outcome.Kind.{Kind}
use Rattle.kv_service.specs.declared.outcome.Kind.TheVariants.{First, Repeated, Passed}
use Rattle.kv_service.specs.Service.{State, last_of, kind_of, take_by, take_request, take_requests, execute}
use Rattle.kv_service.proofs.Places.{ascending_insert}
use Rattle.kv_service.proofs.Requests.{executed-take_requests}
use Rattle.jp_types.specs.Instances.{Batch}
use Rattle.jp_types.specs.Limits.{IsKey, IsValue, IsCommand, IsRequest, IsBatch}

-- each entry has a key and a value of these kinds
abbrev pub EntriesFit : {K X : Type 0} → (K → Type 0) → (X → Type 0) → List (K × X) → Type 0
EntriesFit P Q es = AllByRecursion (λ e. P e.0 × Q e.1) es

-- a reply within the limits
abbrev pub IsReply : Reply → Type 0
IsReply Done = Unit {0}
IsReply (Value value) = IsValue value
IsReply NoKey = Unit {0}
IsReply NoRoom = Unit {0}

-- a client within the limit
abbrev pub IsClient : ℕ → Type 0
IsClient client = client ≤ 1023

-- a last number and the reply to it, within the limits
abbrev pub IsLast : ℕ × Reply → Type 0
IsLast last = (1 ≤ last.0) × (last.0 ≤ number_limit) × IsReply last.1

-- a store within the limits
pub record StoreFits (s : Store) : Type 0 where
  pub ascending : IsAscending bytes_cmp s
  pub pairs : EntriesFit IsKey IsValue s
  pub room : length s ≤ 16384

-- a state within the limits
pub record StateFits (s : State) : Type 0 where
  pub executed : s.executed ≤ number_limit
  pub store : StoreFits s.store
  pub ascending : IsAscending nat_cmp s.last
  pub last : EntriesFit IsClient IsLast s.last

-- ---- Entries

module _ {K X : Type 0} (P : K → Type 0) (Q : X → Type 0) where
  insert-step : (k : K) (v : X) (e : K × X) (es rest : List (K × X)) → P k → Q v → EntriesFit P Q (e ∷ es) → EntriesFit P Q rest
      → (r : Ordering) → EntriesFit P Q (match_ordering r ((k, v) ∷ e ∷ es) ((e.0, v) ∷ es) (e ∷ rest))
  insert-step k v e es rest p q h more Less = ((p, q), h)
  insert-step k v e es rest p q h more Equal = ((h.0.0, q), h.1)
  insert-step k v e es rest p q h more Greater = (h.0, more)

  entries-insert : (cmp : K → K → Ordering) (k : K) (v : X) (es : List (K × X)) → P k → Q v → EntriesFit P Q es → EntriesFit P Q (insert_entry cmp es k v)
  entries-insert cmp k v [] p q h = ((p, q), tt)
  entries-insert cmp k v (e ∷ es) p q h = insert-step k v e es (insert_entry cmp es k v) p q h (entries-insert cmp k v es p q h.1) (cmp k e.0)

  entries-remove : (test : K → Bool) (es : List (K × X)) → EntriesFit P Q es → EntriesFit P Q (remove_entry test es)
  entries-remove test [] h = h
  entries-remove test (e ∷ es) h = go (test e.0) (entries-remove test es h.1)
    where
      go : (b : Bool) → EntriesFit P Q (remove_entry test es) → EntriesFit P Q (cond b es (e ∷ remove_entry test es))
      go true more = h.1
      go false more = (h.0, more)

  entries-lookup : (test : K → Bool) (es : List (K × X)) (v : X) → EntriesFit P Q es → lookup test es ≡ Some v → Q v
  entries-lookup test [] v h e = absurd cc
  entries-lookup test (e ∷ es) v h f = go (test e.0) f (λ g. entries-lookup test es v h.1 g)
    where
      go : (b : Bool) → cond b (Some e.1) (lookup test es) ≡ Some v → (lookup test es ≡ Some v → Q v) → Q v
      go true g again = let same : e.1 ≡ v = cc in subst Q same h.0.1
      go false g again = again g

module _ {K X : Type 0} (test : K → Bool) where
  keys-remove : (P : K → Type 0) (es : List (K × X)) → AllByRecursion P (keys_of es) → AllByRecursion P (keys_of (remove_entry test es))
  keys-remove P [] h = h
  keys-remove P (e ∷ es) h = go (test e.0) (keys-remove P es h.1)
    where
      go : (b : Bool) → AllByRecursion P (keys_of (remove_entry test es)) → AllByRecursion P (keys_of (cond b es (e ∷ remove_entry test es)))
      go true more = h.1
      go false more = (h.0, more)

  removed-step : (cmp : K → K → Ordering) (e : K × X) (es : List (K × X)) → IsAscending cmp (e ∷ es) → IsAscending cmp (remove_entry test es) → (b : Bool) → IsAscending cmp (cond b es (e ∷ remove_entry test es))
  unfolding IsStrictlySortedBy
  removed-step cmp e es h more true = h.1
  removed-step cmp e es h more false = (keys-remove (λ y. cmp e.0 y ≡ Less) es h.0, more)

  ascending-remove : (cmp : K → K → Ordering) (es : List (K × X)) → IsAscending cmp es → IsAscending cmp (remove_entry test es)
  unfolding IsStrictlySortedBy
  ascending-remove cmp [] h = h
  ascending-remove cmp (e ∷ es) h = removed-step cmp e es h (ascending-remove cmp es h.1) (test e.0)

  length-remove : (es : List (K × X)) → length (remove_entry test es) ≤ length es
  length-remove [] = omega arith
  length-remove (e ∷ es) = go (test e.0) (length-remove es)
    where
      go : (b : Bool) → length (remove_entry test es) ≤ length es → length (cond b es (e ∷ remove_entry test es)) ≤ suc (length es)
      go true le = omega arith
      go false le = omega arith

-- ---- How many entries there are

module _ {K X : Type 0} (cmp : K → K → Ordering) (k : K) (v : X) where
  more-step : (e : K × X) (es rest : List (K × X)) → length rest ≤ suc (length es) → (r : Ordering) → length (match_ordering r ((k, v) ∷ e ∷ es) ((e.0, v) ∷ es) (e ∷ rest)) ≤ suc (suc (length es))
  more-step e es rest le Less = omega arith
  more-step e es rest le Equal = omega arith
  more-step e es rest le Greater = omega arith

  length-more : (es : List (K × X)) → length (insert_entry cmp es k v) ≤ suc (length es)
  length-more [] = omega arith
  length-more (e ∷ es) = more-step e es (insert_entry cmp es k v) (length-more es) (cmp k e.0)

  module _ (total : IsTotalOrder cmp) where
    none-above : (e : K × X) (es : List (K × X)) → cmp k e.0 ≡ Less → AllByRecursion (λ y. cmp e.0 y ≡ Less) (keys_of es) → lookup (is_at (cmp k)) es ≡ None
    none-above e [] h a = refl
    none-above e (f ∷ es) h a = rw (total.trans k e.0 f.0 h a.0) (none-above e es h a.1)

    held-step : (e : K × X) (es : List (K × X)) → IsAscending cmp (e ∷ es)
        → (is_some (lookup (is_at (cmp k)) es) ≡ true → length (insert_entry cmp es k v) ≡ length es)
        → (r : Ordering) → cmp k e.0 ≡ r → is_some (lookup (is_at (cmp k)) (e ∷ es)) ≡ true
        → length (match_ordering r ((k, v) ∷ e ∷ es) ((e.0, v) ∷ es) (e ∷ insert_entry cmp es k v)) ≡ suc (length es)
    unfolding IsStrictlySortedBy
    held-step e es h again Less at there =
        let passed : lookup (is_at (cmp k)) (e ∷ es) ≡ lookup (is_at (cmp k)) es = rw at refl in
        let none = none-above e es at h.0 in
        let never : false ≡ true = ap is_some (sym (passed ∙ none)) ∙ there in
        absurd cc
    held-step e es h again Equal at there = refl
    held-step e es h again Greater at there =
        let passed : lookup (is_at (cmp k)) (e ∷ es) ≡ lookup (is_at (cmp k)) es = rw at refl in
        ap suc (again (ap is_some (sym passed) ∙ there))

    length-held : (es : List (K × X)) → IsAscending cmp es → is_some (lookup (is_at (cmp k)) es) ≡ true → length (insert_entry cmp es k v) ≡ length es
    unfolding IsStrictlySortedBy
    length-held [] h there = absurd cc
    length-held (e ∷ es) h there = held-step e es h (λ f. length-held es h.1 f) (cmp k e.0) refl there

-- numbers that ascend from a low one to 1,023 are no more than there are
few-from : (X : Type 0) (low : ℕ) (es : List (ℕ × X)) → low ≤ 1024 → AllByRecursion (λ y. low ≤ y) (keys_of es) → IsAscending nat_cmp es → AllByRecursion (λ y. y ≤ 1023) (keys_of es) → low + length es ≤ 1024
unfolding IsStrictlySortedBy
few-from X low [] le from h within = omega arith
few-from X low (e ∷ es) le from h within =
    let first = from.0 in
    let bound = within.0 in
    let rest = few-from X (suc e.0) es (omega arith) (all-above es h.0) h.1 within.1 in
    omega arith
  where
    next : (y : ℕ) → nat_cmp e.0 y ≡ Less → suc e.0 ≤ y
    next y f = grind (arith, nat_tests)

    all-above : (fs : List (ℕ × X)) → AllByRecursion (λ y. nat_cmp e.0 y ≡ Less) (keys_of fs) → AllByRecursion (λ y. suc e.0 ≤ y) (keys_of fs)
    all-above [] a = tt
    all-above (f ∷ fs) a = (next f.0 a.0, all-above fs a.1)

all-from-zero : (ys : List ℕ) → AllByRecursion (λ y. 0 ≤ y) ys
all-from-zero [] = tt
all-from-zero (y ∷ ys) = (omega arith, all-from-zero ys)

all-within : (es : List (ℕ × (ℕ × Reply))) → EntriesFit IsClient IsLast es → AllByRecursion (λ y. y ≤ 1023) (keys_of es)
all-within [] h = tt
all-within (e ∷ es) h = (h.0.0, all-within es h.1)

-- there are at most 1,024 clients
pub few-clients : (s : State) → StateFits s → length s.last ≤ 1024
few-clients s h = let few = few-from (ℕ × Reply) 0 s.last (omega arith) (all-from-zero (keys_of s.last)) h.ascending (all-within s.last h.last) in omega arith

-- ---- Commands

-- what is left and answered is within the limits
abbrev Fitting : Store × Reply → Type 0
Fitting a = StoreFits a.0 × IsReply a.1

put-room : (s : Store) (key value : List ℕ) → StoreFits s → is_over s key ≡ false → length (Entries.insert bytes_cmp s key value) ≤ 16384
put-room s key value h = go (contains_key s key) refl
  where
    go : (b : Bool) → contains_key s key ≡ b → (nat_le 16384 (length s) && not b) ≡ false → length (Entries.insert bytes_cmp s key value) ≤ 16384
    go true there f = let same = length-held bytes_cmp key value nat_list_cmp_total s h.ascending there in let room = h.room in omega arith
    go false there f =
        let more = length-more bytes_cmp key value s in
        let below = under (nat_le 16384 (length s)) refl f in
        omega arith
      where
        under : (b : Bool) → nat_le 16384 (length s) ≡ b → (b && true) ≡ false → length s < 16384
        under true e g = absurd cc
        under false e g = grind (arith, nat_tests)

put-fits : (s : Store) (key value : List ℕ) → StoreFits s → IsKey key → IsValue value → Fitting (put s key value)
put-fits s key value h k v = go (is_over s key) refl
  where
    go : (b : Bool) → is_over s key ≡ b → Fitting (if b then (s, NoRoom) else (Entries.insert bytes_cmp s key value, Done))
    go true over = (h, tt)
    go false over =
        let store : StoreFits (Entries.insert bytes_cmp s key value) = record {
          ascending = ascending_insert nat_list_cmp_total key value s h.ascending;
          pairs = entries-insert IsKey IsValue bytes_cmp key value s k v h.pairs;
          room = put-room s key value h over;
        } in
        (store, tt)

found-fits : (s : Store) (key : List ℕ) → StoreFits s → IsReply (reply_of (get s key))
found-fits s key h = go (get s key) refl
  where
    go : (o : Option (List ℕ)) → get s key ≡ o → IsReply (reply_of o)
    go None e = tt
    go (Some value) e = entries-lookup IsKey IsValue (is_at (bytes_cmp key)) s value h.pairs e

removed-fits : (s : Store) (key : List ℕ) → StoreFits s → StoreFits (Entries.remove bytes_cmp s key)
removed-fits s key h =
    let fewer = length-remove (is_at (bytes_cmp key)) s in
    let room = h.room in
    record {
      ascending = ascending-remove (is_at (bytes_cmp key)) bytes_cmp s h.ascending;
      pairs = entries-remove IsKey IsValue (is_at (bytes_cmp key)) s h.pairs;
      room = omega arith;
    }

either : (P : Store × Reply → Type 0) (b : Bool) (x y : Store × Reply) → P x → P y → P (if b then x else y)
either P true x y h k = h
either P false x y h k = k

apply-fits : (s : Store) (c : Command) → StoreFits s → IsCommand c → Fitting (apply s c)
apply-fits s (Put key value) h is = put-fits s key value h is.0 is.1
apply-fits s (Get key) h is = (h, found-fits s key h)
apply-fits s (Del key) h is = either Fitting (contains_key s key) (Entries.remove bytes_cmp s key, Done) (s, NoKey) (removed-fits s key h, tt) (h, tt)
apply-fits s (Cas key old new) h is = either Fitting (is_same (get s key) old) (put s key new) (s, reply_of (get s key)) (put-fits s key new h is.0 is.2) (h, found-fits s key h)

-- ---- Requests and batches

by-kind : (k : Kind) (s : State) (r : Request) → StateFits s → IsRequest r → StateFits (take_by k s r).0
by-kind First s r h is =
    let a = apply-fits s.store r.command h.store is.command in
    record {
      executed = h.executed;
      store = a.0;
      ascending = ascending_insert nat_cmp_total r.client (r.number, (apply s.store r.command).1) s.last h.ascending;
      last = entries-insert IsClient IsLast nat_cmp r.client (r.number, (apply s.store r.command).1) s.last is.client (is.number.0, is.number.1, a.1) h.last;
    }
by-kind Repeated s r h is = h
by-kind Passed s r h is = h

requests-fit : (s : State) (rs : List Request) → StateFits s → IsBatch rs → StateFits (take_requests s rs).0
requests-fit s [] h are = h
requests-fit s (r ∷ rs) h are = requests-fit (take_request s r).0 rs (by-kind (kind_of (last_of s r.client) r.number) s r h (are r (inl refl))) (λ q n. are q (inr n))

-- a state within the limits stays within them
pub execute-fits : (s : State) (batch : Batch) → StateFits s → IsBatch batch → s.executed < number_limit → StateFits (execute s batch)
execute-fits s batch h are below =
    let after = requests-fit s batch h are in
    let same = executed-take_requests s batch in
    record { executed = omega arith; store = after.store; ascending = after.ascending; last = after.last }

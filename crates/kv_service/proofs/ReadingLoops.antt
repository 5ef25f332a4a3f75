-- Reading entries one after the other, as a loop does.
use Rattle.std.proofs.Common.{◌≡◌, ℕ, zero, suc, ◌-◌, ◌+◌, ◌^◌, ◌≤◌, ◌<◌, Bool, true, false, List, [], ◌∷◌, ◌++◌, Option, Some, None, Result, Ok, Err, nat_cmp, if◌then◌else◌, refl, sym, ap, ◌∙◌, append_assoc, append-nil, arith}
use Rattle.jp_types.specs.declared.command.Reply.{Reply}
use Rattle.kv_service.specs.Store.{Store, bytes_cmp}
use Rattle.kv_service.specs.StateReading.{Fault, Unordered, Place, Reader, gives, fails, read_on, ◌>>=◌, number_within, key, value, reply, follows, pairs, clients}
use Rattle.kv_service.specs.StateTelling.{IsFault, pair, client}

-- what was read before, and what is still read
abbrev pub with_front : {A : Type 0} → List A → Result (List A × Place) Fault → Result (List A × Place) Fault
with_front front read = read_on read (λ more. gives (front ++ more))

-- one entry, and then those that follow it
abbrev pub then_more : {A : Type 0} → (A → Reader (List A)) → Result (A × Place) Fault → Result (List A × Place) Fault
then_more more first = read_on first (λ e. more e >>= λ es. gives (e ∷ es))

module _ {A K : Type 0} (key_of : A → K) (one : Option K → Reader A) (many : ℕ → Option K → Reader (List A)) where
  -- many entries are read one by one
  pub record IsOneByOne : Type 0 where
    pub none : (before : Option K) (p : Place) → many zero before p ≡ Ok ([], p)
    pub more : (k : ℕ) (before : Option K) (p : Place) → many (suc k) before p ≡ then_more (λ e. many k (Some (key_of e))) (one before p)

  module _ (is : IsOneByOne) where
    regroup : (front : List A) (e : A) (read : Result (List A × Place) Fault) → with_front front (read_on read (λ es. gives (e ∷ es))) ≡ with_front (front ++ e ∷ []) read
    regroup front e (Ok r) = ap (λ (es : List A). Ok (es, r.1)) (simp append_assoc)
    regroup front e (Err f) = refl

    pub goes_on : (front : List A) (count i : ℕ) (before : Option K) (p : Place) (e : A) (q : Place) (total : Result (List A × Place) Fault) → i < count → one before p ≡ Ok (e, q)
        → with_front front (many (count - i) before p) ≡ total → with_front (front ++ e ∷ []) (many (count - (i + 1)) (Some (key_of e)) q) ≡ total
    goes_on front count i before p e q total lt h so_far =
        let left : count - i ≡ suc (count - (i + 1)) = omega arith in
        let one_more : many (count - i) before p ≡ read_on (many (count - (i + 1)) (Some (key_of e)) q) (λ es. gives (e ∷ es))
        = ap (λ (k : ℕ). many k before p) left ∙ is.more (count - (i + 1)) before p ∙ ap (then_more (λ x. many (count - (i + 1)) (Some (key_of x)))) h in
        sym (regroup front e (many (count - (i + 1)) (Some (key_of e)) q)) ∙ ap (with_front front) (sym one_more) ∙ so_far

    stopped : (front : List A) (count i : ℕ) (before : Option K) (p : Place) (f : Fault) (total : Result (List A × Place) Fault) → i < count → one before p ≡ Err f
        → with_front front (many (count - i) before p) ≡ total → total ≡ Err f
    stopped front count i before p f total lt h so_far =
        let left : count - i ≡ suc (count - (i + 1)) = omega arith in
        sym so_far ∙ ap (λ (k : ℕ). with_front front (many k before p)) left ∙ ap (with_front front) (is.more (count - (i + 1)) before p ∙ ap (then_more (λ x. many (count - (i + 1)) (Some (key_of x)))) h)

    pub ends : (o : Option Fault) (front : List A) (count i : ℕ) (before : Option K) (p : Place) (total : Result (List A × Place) Fault) → i < count → IsFault o (one before p)
        → with_front front (many (count - i) before p) ≡ total → IsFault o total
    ends None front count i before p total lt h so_far = tt
    ends (Some f) front count i before p total lt h so_far = stopped front count i before p f total lt h so_far

    pub is_done : (front : List A) (count i : ℕ) (before : Option K) (p : Place) (total : Result (List A × Place) Fault) → count ≤ i → with_front front (many (count - i) before p) ≡ total → total ≡ Ok (front, p)
    is_done front count i before p total le so_far =
        let left : count - i ≡ 0 = omega arith in
        sym so_far ∙ ap (λ (k : ℕ). with_front front (many k before p)) left ∙ ap (with_front front) (is.none before p) ∙ ap (λ (es : List A). Ok (es, p)) (append-nil front)

-- ---- Keys with values

pair_more : (k : ℕ) (before : Option (List ℕ)) (p : Place) → pairs (suc k) before p ≡ then_more (λ e. pairs k (Some e.0)) (pair before p)
pair_more k before p = by_key (key p)
  where
    whole : List ℕ → Reader Store
    whole q = value >>= λ v. pairs k (Some q) >>= λ more. gives ((q, v) ∷ more)

    first : List ℕ → Reader (List ℕ × List ℕ)
    first q = value >>= λ v. gives (q, v)

    rest : List ℕ × List ℕ → Reader Store
    rest e = pairs k (Some e.0)

    by_value : (q : List ℕ) (r : Result (List ℕ × Place) Fault) → read_on r (λ v. pairs k (Some q) >>= λ more. gives ((q, v) ∷ more)) ≡ then_more rest (read_on r (λ v. gives (q, v)))
    by_value q (Ok r) = refl
    by_value q (Err f) = refl

    by_test : (b : Bool) (q : List ℕ) (r : Place) → (if b then whole q else fails (Unordered p.at)) r ≡ then_more rest ((if b then first q else fails (Unordered p.at)) r)
    by_test true q r = by_value q (value r)
    by_test false q r = refl

    by_key : (r : Result (List ℕ × Place) Fault)
        → read_on r (λ q. if follows bytes_cmp before q then whole q else fails (Unordered p.at)) ≡ then_more rest (read_on r (λ q. if follows bytes_cmp before q then first q else fails (Unordered p.at)))
    by_key (Ok r) = by_test (follows bytes_cmp before r.0) r.0 r.1
    by_key (Err f) = refl

pub pairs_one_by_one : IsOneByOne (λ e. e.0) pair pairs
pairs_one_by_one = record { none = λ before p. refl; more = pair_more }

-- ---- Clients

abbrev pub Last : Type 0
Last = ℕ × (ℕ × Reply)

client_more : (k : ℕ) (before : Option ℕ) (p : Place) → clients (suc k) before p ≡ then_more (λ e. clients k (Some e.0)) (client before p)
client_more k before p = by_client (number_within 8 0 1023 p)
  where
    tail : ℕ → ℕ → Reply → Reader (List Last)
    tail c n r = clients k (Some c) >>= λ more. gives ((c, (n, r)) ∷ more)

    whole : ℕ → Reader (List Last)
    whole c = number_within 8 1 (2 ^ 48) >>= λ n. reply >>= λ r. tail c n r

    first : ℕ → Reader Last
    first c = number_within 8 1 (2 ^ 48) >>= λ n. reply >>= λ r. gives (c, (n, r))

    rest : Last → Reader (List Last)
    rest e = clients k (Some e.0)

    by_reply : (c n : ℕ) (r : Result (Reply × Place) Fault) → read_on r (λ x. tail c n x) ≡ then_more rest (read_on r (λ x. gives (c, (n, x))))
    by_reply c n (Ok r) = refl
    by_reply c n (Err f) = refl

    by_number : (c : ℕ) (r : Result (ℕ × Place) Fault) → read_on r (λ n. reply >>= λ x. tail c n x) ≡ then_more rest (read_on r (λ n. reply >>= λ x. gives (c, (n, x))))
    by_number c (Ok r) = by_reply c r.0 (reply r.1)
    by_number c (Err f) = refl

    by_test : (b : Bool) (c : ℕ) (r : Place) → (if b then whole c else fails (Unordered p.at)) r ≡ then_more rest ((if b then first c else fails (Unordered p.at)) r)
    by_test true c r = by_number c (number_within 8 1 (2 ^ 48) r)
    by_test false c r = refl

    by_client : (r : Result (ℕ × Place) Fault)
        → read_on r (λ c. if follows nat_cmp before c then whole c else fails (Unordered p.at)) ≡ then_more rest (read_on r (λ c. if follows nat_cmp before c then first c else fails (Unordered p.at)))
    by_client (Ok r) = by_test (follows nat_cmp before r.0) r.0 r.1
    by_client (Err f) = refl

pub clients_one_by_one : IsOneByOne (λ e. e.0) client clients
clients_one_by_one = record { none = λ before p. refl; more = client_more }

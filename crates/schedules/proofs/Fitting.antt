-- A schedule that is read is within its ranges.
use Rattle.std.proofs.Common.{◌≡◌, ℕ, suc, ◌+◌, ◌*◌, ◌-◌, ◌^◌, ◌<◌, ◌≤◌, Bool, true, false, ◌&&◌, List, [], ◌∷◌, length, Option, Some, None, option_map, Result, Ok, Err, refl, sym, ap, subst, ◌∙◌, inl, inr, arith, codes, bytes_eq, if◌then◌else◌}
use Rattle.std.proofs.lemmas.Bool.Decides.{nat_tests}
use Rattle.std.specs.Char.{digit_value}
use Rattle.std.specs.Int.{is_in_range}
use Rattle.std.specs.Str.Parse.{digits_value}
use Rattle.jp_types.specs.declared.cause.Cause.{Cause}
use Rattle.jp_types.specs.declared.cause.Cause.TheVariants.{Number, Bytes, Text, AfterEnd}
use Rattle.jp_types.specs.declared.command.Command.{Command}
use Rattle.jp_types.specs.declared.command.Command.TheVariants.{Put, Get, Del, Cas}
use Rattle.jp_types.specs.declared.mode.Mode.{Mode}
use Rattle.jp_types.specs.Words.{◌>>=◌, where_so, is_empty, or_cause, words_of, is_numeral, number, is_hex, hex_bytes, word_bytes, bytes_within}
use Rattle.jp_types.specs.Commands.{key, value, old_value, put_of, get_of, del_of, cas_of, command}
use Rattle.schedules.specs.declared.line.Head.{Head}
use Rattle.schedules.specs.declared.line.Line.{Line}
use Rattle.schedules.specs.declared.schedule.Schedule.{Schedule}
use Rattle.text_lines.specs.Lines.{Bad, Raw, is_text_line, mode, as_text, at_line, lines_of}
use Rattle.schedules.specs.Schedule.{replica, head_of, plain, request_of, deliver_of, end_of, line_by_words, first_by_words, is_end, after_end, rest_of, schedule_of, read_schedule}
use Rattle.schedules.specs.Heads.{IsHead}
use Rattle.schedules.specs.Reading.{ReadsLines}
use Rattle.schedules.specs.declared.schedule.ScheduleFault.{ScheduleFault}
use Rattle.std.specs.Prelude.{IfOk}
use Rattle.schedules.specs.Fitting.{IsLineFit, IsFit}
use Rattle.jp_types.specs.Limits.{AreBytes, IsKey, IsValue, IsCommand}
use Rattle.std.specs.List.{All}
use Rattle.std.proofs.lemmas.List.Elements.{All-cons, All-nil}

-- ---- Readers in a row

-- what was read first, and what f made of it
bound : {A B E : Type 0} (r : Result A E) (f : A → Result B E) (y : B) → (r >>= f) ≡ Ok y → (x : A) × (r ≡ Ok x) × (f x ≡ Ok y)
bound (Ok x) f y e = (x, refl, e)
bound (Err z) f y e = absurd cc

-- a test that passed
held : {A : Type 0} (b : Bool) (x y : A) (cause : Cause) → where_so b x cause ≡ Ok y → (b ≡ true) × (x ≡ y)
held true x y cause e = (refl, cc)
held false x y cause e = absurd cc

-- what holds of either branch
either : {A E : Type 0} (b : Bool) (p q : Result A E) (y : A) (P : Type 0) → (p ≡ Ok y → P) → (q ≡ Ok y → P) → (if b then p else q) ≡ Ok y → P
either true p q y P f g e = f e
either false p q y P f g e = g e

both : (a b : Bool) → (a && b) ≡ true → (a ≡ true) × (b ≡ true)
both true b e = (refl, e)
both false b e = absurd cc

within : (low high c : ℕ) → is_in_range low high c ≡ true → (low ≤ c) × (c ≤ high)
within low high c e = grind (arith, nat_tests)

-- ---- Numbers and bytes

number-fits : (low high : ℕ) (word : List ℕ) (k : ℕ) → number low high word ≡ Ok k → (low ≤ k) × (k ≤ high)
number-fits low high word k e =
    let h = held (is_numeral word && is_in_range low high (digits_value 10 word)) (digits_value 10 word) k Number e in
    let t = (both (is_numeral word) (is_in_range low high (digits_value 10 word)) h.0).1 in
    let w = within low high (digits_value 10 word) t in
    (subst (λ (n : ℕ). low ≤ n) h.1 w.0, subst (λ (n : ℕ). n ≤ high) h.1 w.1)

-- a hexadecimal digit is below 16
hex-below : (c : ℕ) → is_hex c ≡ true → digit_value c < 16
hex-below c e = grind (arith, nat_tests)

-- a byte in front of bytes
cons-bytes : (b : ℕ) (bs : List ℕ) → b < 256 → AreBytes bs → AreBytes (b ∷ bs)
cons-bytes b bs lt are x (inl e) = subst (λ (n : ℕ). n < 256) (sym e) lt
cons-bytes b bs lt are x (inr h) = are x h

no-bytes : AreBytes []
no-bytes b h = absurd h

hex-step : (c d : ℕ) (rest : Option (List ℕ)) (bs : List ℕ) → ((found : List ℕ) → rest ≡ Some found → AreBytes found)
    → (if is_hex c && is_hex d then option_map (λ found. (digit_value c * 16 + digit_value d) ∷ found) rest else None) ≡ Some bs → AreBytes bs
hex-step c d rest bs ih = go (is_hex c && is_hex d) refl rest refl
  where
    go : (b : Bool) → (is_hex c && is_hex d) ≡ b → (o : Option (List ℕ)) → rest ≡ o → (if b then option_map (λ found. (digit_value c * 16 + digit_value d) ∷ found) o else None) ≡ Some bs → AreBytes bs
    go false t o f e = absurd cc
    go true t None f e = absurd cc
    go true t (Some found) f e =
        let hex = both (is_hex c) (is_hex d) t in
        let high = hex-below c hex.0 in
        let low = hex-below d hex.1 in
        let same : ((digit_value c * 16 + digit_value d) ∷ found) ≡ bs = cc in
        subst AreBytes same (cons-bytes (digit_value c * 16 + digit_value d) found (omega arith) (ih found f))

hex-fits : (word bs : List ℕ) → hex_bytes word ≡ Some bs → AreBytes bs
hex-fits [] bs e = let same : [] ≡ bs = cc in subst AreBytes same no-bytes
hex-fits (c ∷ []) bs e = absurd cc
hex-fits (c ∷ d ∷ ds) bs e = hex-step c d (hex_bytes ds) bs (hex-fits ds) e

word-fits : (word bs : List ℕ) → word_bytes word ≡ Some bs → AreBytes bs
word-fits word bs = none (is_empty word)
  where
    go : (b : Bool) → (if b then Some [] else hex_bytes word) ≡ Some bs → AreBytes bs
    go true e = let same : [] ≡ bs = cc in subst AreBytes same no-bytes
    go false e = hex-fits word bs e

    none : (b : Bool) → (if b then None else (if bytes_eq word (codes "-") then Some [] else hex_bytes word)) ≡ Some bs → AreBytes bs
    none true e = absurd cc
    none false e = go (bytes_eq word (codes "-")) e

found : (o : Option (List ℕ)) (bs : List ℕ) (cause : Cause) → or_cause o cause ≡ Ok bs → o ≡ Some bs
found (Some x) bs cause e = cc
found None bs cause e = absurd cc

bytes-fit : (low high : ℕ) (word bs : List ℕ) → bytes_within low high word ≡ Ok bs → (low ≤ length bs) × (length bs ≤ high) × AreBytes bs
bytes-fit low high word bs e =
    let b = bound (or_cause (word_bytes word) Bytes) (λ (bytes : List ℕ). where_so (is_in_range low high (length bytes)) bytes Bytes) bs e in
    let h = held (is_in_range low high (length b.0)) b.0 bs Bytes b.2 in
    let w = within low high (length b.0) h.0 in
    (subst (λ (xs : List ℕ). low ≤ length xs) h.1 w.0, subst (λ (xs : List ℕ). length xs ≤ high) h.1 w.1, subst AreBytes h.1 (word-fits word b.0 (found (word_bytes word) b.0 Bytes b.1)))

-- ---- Commands

key-fits : (word bs : List ℕ) → key word ≡ Ok bs → IsKey bs
key-fits word bs e = let h = bytes-fit 1 256 word bs e in record { some = h.0; limit = h.1; bytes = h.2 }

value-fits : (word bs : List ℕ) → value word ≡ Ok bs → IsValue bs
value-fits word bs e = let h = bytes-fit 0 4096 word bs e in record { limit = h.1; bytes = h.2 }

-- an old value, where there is one
IsOld : Option (List ℕ) → Type 0
IsOld old = (bs : List ℕ) → old ≡ Some bs → IsValue bs

old-none : (old : Option (List ℕ)) → None ≡ old → IsOld old
unfolding IsOld
old-none old e bs is = absurd cc

old-some : (bs : List ℕ) (old : Option (List ℕ)) → IsValue bs → Some bs ≡ old → IsOld old
unfolding IsOld
old-some bs old fit e found is = let same : bs ≡ found = cc in subst IsValue same fit

old-fits : (word : List ℕ) (old : Option (List ℕ)) → old_value word ≡ Ok old → IsOld old
old-fits word old e = go (bytes_eq word (codes "none")) e
  where
    go : (b : Bool) → (if b then Ok None else (value word >>= λ v. Ok (Some v))) ≡ Ok old → IsOld old
    go true f = old-none old cc
    go false f = let b = bound (value word) (λ (v : List ℕ). Ok (Some v)) old f in old-some b.0 old (value-fits word b.0 b.1) cc

put-fits : (words : List (List ℕ)) (c : Command) → put_of words ≡ Ok c → IsCommand c
put-fits [] c e = absurd cc
put-fits (k ∷ []) c e = absurd cc
put-fits (k ∷ v ∷ []) c e =
    let a = bound (key k) (λ (k : List ℕ). value v >>= λ v. Ok (Put k v)) c e in
    let b = bound (value v) (λ (v : List ℕ). Ok (Put a.0 v)) c a.2 in
    let same : Put a.0 b.0 ≡ c = cc in
    subst IsCommand same (key-fits k a.0 a.1, value-fits v b.0 b.1)
put-fits (k ∷ v ∷ w ∷ words) c e = absurd cc

get-fits : (words : List (List ℕ)) (c : Command) → get_of words ≡ Ok c → IsCommand c
get-fits [] c e = absurd cc
get-fits (k ∷ []) c e =
    let a = bound (key k) (λ (k : List ℕ). Ok (Get k)) c e in
    let same : Get a.0 ≡ c = cc in
    subst IsCommand same (key-fits k a.0 a.1)
get-fits (k ∷ v ∷ words) c e = absurd cc

del-fits : (words : List (List ℕ)) (c : Command) → del_of words ≡ Ok c → IsCommand c
del-fits [] c e = absurd cc
del-fits (k ∷ []) c e =
    let a = bound (key k) (λ (k : List ℕ). Ok (Del k)) c e in
    let same : Del a.0 ≡ c = cc in
    subst IsCommand same (key-fits k a.0 a.1)
del-fits (k ∷ v ∷ words) c e = absurd cc

cas-fits : (words : List (List ℕ)) (c : Command) → cas_of words ≡ Ok c → IsCommand c
unfolding IsOld
cas-fits [] c e = absurd cc
cas-fits (k ∷ []) c e = absurd cc
cas-fits (k ∷ old ∷ []) c e = absurd cc
cas-fits (k ∷ old ∷ new ∷ []) c e =
    let a = bound (key k) (λ (k : List ℕ). old_value old >>= λ old. value new >>= λ new. Ok (Cas k old new)) c e in
    let b = bound (old_value old) (λ (old : Option (List ℕ)). value new >>= λ new. Ok (Cas a.0 old new)) c a.2 in
    let d = bound (value new) (λ (new : List ℕ). Ok (Cas a.0 b.0 new)) c b.2 in
    let same : Cas a.0 b.0 d.0 ≡ c = cc in
    subst IsCommand same (key-fits k a.0 a.1, old-fits old b.0 b.1, value-fits new d.0 d.1)
cas-fits (k ∷ old ∷ new ∷ w ∷ words) c e = absurd cc

command-fits : (words : List (List ℕ)) (c : Command) → command words ≡ Ok c → IsCommand c
command-fits [] c e = absurd cc
command-fits (word ∷ operands) c e =
    either (bytes_eq word (codes "put")) _ _ c (IsCommand c) (put-fits operands c)
    (either (bytes_eq word (codes "get")) _ _ c (IsCommand c) (get-fits operands c)
    (either (bytes_eq word (codes "del")) _ _ c (IsCommand c) (del-fits operands c)
    (either (bytes_eq word (codes "cas")) _ _ c (IsCommand c) (cas-fits operands c) (λ f. absurd cc)))) e

-- ---- Lines

-- a replica that is read is one of them
replica-fits : (n : ℕ) (word : List ℕ) (r : ℕ) → 1 ≤ n → replica n word ≡ Ok r → r < n
replica-fits n word r some e = let h = number-fits 0 (n - 1) word r e in let high = h.1 in omega arith

-- a line with a replica alone
plain-fits : (n : ℕ) (make : ℕ → Line) (words : List (List ℕ)) (line : Line) → 1 ≤ n → ((r : ℕ) → r < n → IsLineFit n (make r)) → plain n make words ≡ Ok line → IsLineFit n line
plain-fits n make [] line some fit e = absurd cc
plain-fits n make (r ∷ []) line some fit e =
    let a = bound (replica n r) (λ (r : ℕ). Ok (make r)) line e in
    let same : make a.0 ≡ line = cc in
    subst (IsLineFit n) same (fit a.0 (replica-fits n r a.0 some a.1))
plain-fits n make (r ∷ w ∷ words) line some fit e = absurd cc

deliver-fits : (n : ℕ) (words : List (List ℕ)) (line : Line) → 1 ≤ n → deliver_of n words ≡ Ok line → IsLineFit n line
deliver-fits n [] line some e = absurd cc
deliver-fits n (r ∷ []) line some e = absurd cc
deliver-fits n (r ∷ m ∷ []) line some e =
    let a = bound (replica n r) (λ (r : ℕ). number 0 4294967295 m >>= λ m. Ok (Line.Deliver r m)) line e in
    let b = bound (number 0 4294967295 m) (λ (m : ℕ). Ok (Line.Deliver a.0 m)) line a.2 in
    let same : Line.Deliver a.0 b.0 ≡ line = cc in
    subst (IsLineFit n) same (replica-fits n r a.0 some a.1, (number-fits 0 4294967295 m b.0 b.1).1)
deliver-fits n (r ∷ m ∷ w ∷ words) line some e = absurd cc

end-fits : (n : ℕ) (words : List (List ℕ)) (line : Line) → end_of words ≡ Ok line → IsLineFit n line
end-fits n [] line e = let same : Line.End ≡ line = cc in subst (IsLineFit n) same tt
end-fits n (word ∷ words) line e = absurd cc

request-fits : (n : ℕ) (words : List (List ℕ)) (line : Line) → 1 ≤ n → request_of n words ≡ Ok line → IsLineFit n line
request-fits n [] line some e = absurd cc
request-fits n (r ∷ []) line some e = absurd cc
request-fits n (r ∷ c ∷ []) line some e = absurd cc
request-fits n (r ∷ c ∷ s ∷ []) line some e = absurd cc
request-fits n (r ∷ c ∷ s ∷ word ∷ operands) line some e =
    let made : ℕ → ℕ → ℕ → Command → Line = λ r c s k. Line.Request r (record { client = c; number = s; command = k }) in
    let a = bound (replica n r) (λ (r : ℕ). number 0 1023 c >>= λ c. number 1 (2 ^ 48) s >>= λ s. command (word ∷ operands) >>= λ k. Ok (made r c s k)) line e in
    let b = bound (number 0 1023 c) (λ (c : ℕ). number 1 (2 ^ 48) s >>= λ s. command (word ∷ operands) >>= λ k. Ok (made a.0 c s k)) line a.2 in
    let d = bound (number 1 (2 ^ 48) s) (λ (s : ℕ). command (word ∷ operands) >>= λ k. Ok (made a.0 b.0 s k)) line b.2 in
    let k = bound (command (word ∷ operands)) (λ (k : Command). Ok (made a.0 b.0 d.0 k)) line d.2 in
    let same : made a.0 b.0 d.0 k.0 ≡ line = cc in
    subst (IsLineFit n) same (
      replica-fits n r a.0 some a.1,
      record {
        client = (number-fits 0 1023 c b.0 b.1).1;
        number = number-fits 1 (2 ^ 48) s d.0 d.1;
        command = command-fits (word ∷ operands) k.0 k.1;
      },
    )

line-fits : (n : ℕ) (words : List (List ℕ)) (line : Line) → 1 ≤ n → line_by_words n words ≡ Ok line → IsLineFit n line
line-fits n [] line some e = absurd cc
line-fits n (word ∷ operands) line some e =
    let P : Type 0 = IsLineFit n line in
    either (bytes_eq word (codes "request")) _ _ line P (request-fits n operands line some)
    (either (bytes_eq word (codes "batch")) _ _ line P (plain-fits n Line.Batch operands line some (λ r h. h))
    (either (bytes_eq word (codes "tick")) _ _ line P (plain-fits n Line.Tick operands line some (λ r h. h))
    (either (bytes_eq word (codes "suspect")) _ _ line P (plain-fits n Line.Suspect operands line some (λ r h. h))
    (either (bytes_eq word (codes "deliver")) _ _ line P (deliver-fits n operands line some)
    (either (bytes_eq word (codes "protocol")) _ _ line P (plain-fits n Line.Protocol operands line some (λ r h. h))
    (either (bytes_eq word (codes "service")) _ _ line P (plain-fits n Line.Service operands line some (λ r h. h))
    (either (bytes_eq word (codes "retransmit")) _ _ line P (plain-fits n Line.Retransmit operands line some (λ r h. h))
    (either (bytes_eq word (codes "crash")) _ _ line P (plain-fits n Line.Crash operands line some (λ r h. h))
    (either (bytes_eq word (codes "start")) _ _ line P (plain-fits n Line.Start operands line some (λ r h. h))
    (either (bytes_eq word (codes "end")) _ _ line P (end-fits n operands line) (λ f. absurd cc))))))))))) e

-- what is read as text is read of some words
of-words : {A : Type 0} (raw : Raw) (f : List (List ℕ) → Result A Cause) (x : A) → as_text raw f ≡ Ok x → f (words_of raw.text) ≡ Ok x
of-words raw f x e =
    let a = bound (where_so (is_text_line raw) raw.text Text) (λ (text : List ℕ). f (words_of text)) x e in
    let h = held (is_text_line raw) raw.text a.0 Text a.1 in
    ap (λ (text : List ℕ). f (words_of text)) h.1 ∙ a.2

at-line : {A : Type 0} (k : ℕ) (r : Result A Cause) (x : A) → at_line k r ≡ Ok x → r ≡ Ok x
at-line k (Ok y) x e = cc
at-line k (Err cause) x e = absurd cc

-- behind `end` no line is read
none-behind : (k : ℕ) (raws : List Raw) (lines : List Line) → after_end k raws ≡ Ok lines → lines ≡ []
none-behind k [] lines e = cc
none-behind k (raw ∷ raws) lines e = absurd (not-read (of-words raw (λ words. Err AfterEnd) lines (at-line k (as_text raw (λ words. Err AfterEnd)) lines e)))
  where
    not-read : {A : Type 0} {x : A} {cause : Cause} → Err cause ≡ Ok x → ⊥
    not-read f = absurd cc

-- the lines behind one that is read, by whether that is the last
rest-step : (n k : ℕ) (raws : List Raw) (others : Result (List Line) Bad) (line : Line) (lines : List Line) → IsLineFit n line → ((found : List Line) → others ≡ Ok found → All (IsLineFit n) found)
    → ((if is_end line then after_end (suc k) raws else others) >>= λ lines. Ok (line ∷ lines)) ≡ Ok lines → All (IsLineFit n) lines
rest-step n k raws others line lines fit ih e = go (is_end line) e
  where
    go : (b : Bool) → ((if b then after_end (suc k) raws else others) >>= λ lines. Ok (line ∷ lines)) ≡ Ok lines → All (IsLineFit n) lines
    go true f =
        let a = bound (after_end (suc k) raws) (λ (lines : List Line). Ok (line ∷ lines)) lines f in
        let same : (line ∷ a.0) ≡ lines = cc in
        let none : All (IsLineFit n) a.0 = subst (All (IsLineFit n)) (sym (none-behind (suc k) raws a.0 a.1)) (All-nil (IsLineFit n)) in
        subst (All (IsLineFit n)) same (All-cons (IsLineFit n) line a.0 fit none)
    go false f =
        let a = bound others (λ (lines : List Line). Ok (line ∷ lines)) lines f in
        let same : (line ∷ a.0) ≡ lines = cc in
        subst (All (IsLineFit n)) same (All-cons (IsLineFit n) line a.0 fit (ih a.0 a.1))

rest-fits : (n k : ℕ) (raws : List Raw) (lines : List Line) → 1 ≤ n → rest_of n k raws ≡ Ok lines → All (IsLineFit n) lines
rest-fits n k [] lines some e = absurd cc
rest-fits n k (raw ∷ raws) lines some e =
    let follow : Line → Result (List Line) Bad = λ line. (if is_end line then after_end (suc k) raws else rest_of n (suc k) raws) >>= λ lines. Ok (line ∷ lines) in
    let a = bound (at_line k (as_text raw (line_by_words n))) follow lines e in
    let read = of-words raw (line_by_words n) a.0 (at-line k (as_text raw (line_by_words n)) a.0 a.1) in
    rest-step n k raws (rest_of n (suc k) raws) a.0 lines (line-fits n (words_of raw.text) a.0 some read) (λ found. rest-fits n (suc k) raws found some) a.2

-- ---- Schedules

head-fits : (words : List (List ℕ)) (head : Head) → head_of words ≡ Ok head → IsHead head
head-fits [] head e = absurd cc
head-fits (n ∷ []) head e = absurd cc
head-fits (n ∷ m ∷ []) head e = absurd cc
head-fits (n ∷ m ∷ w ∷ []) head e =
    let a = bound (number 3 9 n) (λ (n : ℕ). mode m >>= λ m. number 1 64 w >>= λ w. Ok (record { n = n; mode = m; window = w })) head e in
    let b = bound (mode m) (λ (m : Mode). number 1 64 w >>= λ w. Ok (record { n = a.0; mode = m; window = w })) head a.2 in
    let d = bound (number 1 64 w) (λ (w : ℕ). Ok (record { n = a.0; mode = b.0; window = w })) head b.2 in
    let made : Head = record { n = a.0; mode = b.0; window = d.0 } in
    let same : made ≡ head = cc in
    let count = number-fits 3 9 n a.0 a.1 in
    let window = number-fits 1 64 w d.0 d.1 in
    subst IsHead same (record { some = count.0; few = count.1; open_window = window.0; window_limit = window.1 })
head-fits (n ∷ m ∷ w ∷ v ∷ words) head e = absurd cc

first-fits : (words : List (List ℕ)) (head : Head) → first_by_words words ≡ Ok head → IsHead head
first-fits [] head e = absurd cc
first-fits (word ∷ operands) head e = either (bytes_eq word (codes "cluster")) _ _ head (IsHead head) (head-fits operands head) (λ f. absurd cc) e

schedule-fits : (raws : List Raw) (s : Schedule) → schedule_of raws ≡ Ok s → IsFit s
schedule-fits [] s e = absurd cc
schedule-fits (raw ∷ raws) s e =
    let a = bound (at_line 1 (as_text raw first_by_words)) (λ (head : Head). rest_of head.n 2 raws >>= λ lines. Ok (record { head = head; lines = lines })) s e in
    let b = bound (rest_of a.0.n 2 raws) (λ (lines : List Line). Ok (record { head = a.0; lines = lines })) s a.2 in
    let made : Schedule = record { head = a.0; lines = b.0 } in
    let same : made ≡ s = cc in
    let head = first-fits (words_of raw.text) a.0 (of-words raw first_by_words a.0 (at-line 1 (as_text raw first_by_words) a.0 a.1)) in
    let three = head.some in
    subst IsFit same (record { head = head; lines = rest-fits a.0.n 2 raws b.0 (omega arith) b.1 })

-- what a reader of lines answers is within its ranges
pub read_fits : (r : Result Schedule ScheduleFault) (raws : List Raw) → ReadsLines r (schedule_of raws) → IfOk r IsFit
read_fits (Ok s) raws e = schedule-fits raws s e
read_fits (Err f) raws e = tt

pub schedules_fit : (input : List ℕ) (s : Schedule) → read_schedule input ≡ Ok s → IsFit s
unfolding read_schedule
schedules_fit input s e = schedule-fits (lines_of input) s e

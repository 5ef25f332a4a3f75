-- What is read in parts is read as it is spelt, if each part is.
use Rattle.std.proofs.Common.{◌≡◌, ℕ, zero, suc, ◌+◌, ◌≤◌, Bool, true, false, List, [], ◌∷◌, ◌++◌, length, nat_lt, if◌then◌else◌, Option, Some, None, Result, Ok, Err, refl, sym, ap, subst, ◌∙◌, arith, append-nil, append_assoc, length-append, inl, inr}
use Rattle.std.proofs.lemmas.Bool.Decides.{nat_tests}
use Rattle.std.specs.List.{flat_map}
use Rattle.jp_types.specs.Limits.{AreBytes}
use Rattle.jp_types.specs.Lists.{In}
use Rattle.frame_fields.specs.Faults.{Fault}
use Rattle.frame_fields.specs.Reading.{Place, Reader, gives, read_on, ◌>>=◌, batch_limit, too_large, times, in_batch}
use Rattle.frame_fields.specs.Laws.{HasRoom, Spans, WasSpelt, IsReadAsSpelt, AllFit}

-- ---- Places

pub same-place : (p q : Place) → p.at ≡ q.at → p.rest ≡ q.rest → p.batch ≡ q.batch → p ≡ q
same-place p q e f g =
    ap (λ (at : ℕ). record { at = at; rest = p.rest; batch = p.batch }) e
    ∙ ap (λ (rest : List ℕ). record { at = q.at; rest = rest; batch = p.batch }) f
    ∙ ap (λ (batch : Option ℕ). record { at = q.at; rest = q.rest; batch = batch }) g

pub in-left : (b : ℕ) (xs ys : List ℕ) → In b xs → In b (xs ++ ys)
in-left b [] ys h = absurd h
in-left b (x ∷ xs) ys (inl e) = inl e
in-left b (x ∷ xs) ys (inr h) = inr (in-left b xs ys h)

pub in-right : (b : ℕ) (xs ys : List ℕ) → In b ys → In b (xs ++ ys)
in-right b [] ys h = h
in-right b (x ∷ xs) ys h = inr (in-right b xs ys h)

pub left-bytes : (xs ys : List ℕ) → AreBytes (xs ++ ys) → AreBytes xs
left-bytes xs ys are b h = are b (in-left b xs ys h)

pub right-bytes : (xs ys : List ℕ) → AreBytes (xs ++ ys) → AreBytes ys
right-bytes xs ys are b h = are b (in-right b xs ys h)

pub bytes-behind : (p : Place) (bytes : List ℕ) (q : Place) → Spans p bytes q → AreBytes p.rest → AreBytes q.rest
bytes-behind p bytes q h are = right-bytes bytes q.rest (subst AreBytes h.rest are)

pub spans-none : (p : Place) → Spans p [] p
spans-none p = record { rest = refl; at = omega arith; batch = refl }

pub spans-same : (p q : Place) → Spans p [] q → p ≡ q
spans-same p q h = same-place p q (let e = h.at in omega arith) h.rest (sym h.batch)

pub spans-both : (p : Place) (a : List ℕ) (q : Place) (b : List ℕ) (r : Place) → Spans p a q → Spans q b r → Spans p (a ++ b) r
spans-both p a q b r h k =
    record {
      rest = h.rest ∙ ap (λ (l : List ℕ). a ++ l) k.rest ∙ sym (append_assoc a b r.rest);
      at = let e = h.at in let f = k.at in let g = length-append a b in omega arith;
      batch = k.batch ∙ h.batch;
    }

-- the place between two parts
pub between : Place → List ℕ → List ℕ → Place → Place
between p a b r = record { at = p.at + length a; rest = b ++ r.rest; batch = p.batch }

pub spans-first : (p : Place) (a b : List ℕ) (r : Place) → Spans p (a ++ b) r → Spans p a (between p a b r)
unfolding between
spans-first p a b r h = record { rest = h.rest ∙ append_assoc a b r.rest; at = refl; batch = refl }

pub spans-second : (p : Place) (a b : List ℕ) (r : Place) → Spans p (a ++ b) r → Spans (between p a b r) b r
unfolding between
spans-second p a b r h = record { rest = refl; at = let e = h.at in let g = length-append a b in omega arith; batch = h.batch }

pub room-before : (batch : Option ℕ) (at end : ℕ) → at ≤ end → too_large batch end ≡ None → too_large batch at ≡ None
room-before None at end le e = refl
room-before (Some start) at end le e = by (nat_lt (start + batch_limit) at) refl (nat_lt (start + batch_limit) end) refl e
  where
    by : (b : Bool) → nat_lt (start + batch_limit) at ≡ b → (c : Bool) → nat_lt (start + batch_limit) end ≡ c → (if c then Some start else None) ≡ None → (if nat_lt (start + batch_limit) at then Some start else None) ≡ None
    by false f c g h = rw f refl
    by true f true g h = absurd cc
    by true f false g h = absurd (grind (arith, nat_tests))

pub room-between : (p : Place) (a b : List ℕ) (r : Place) → Spans p (a ++ b) r → HasRoom r → HasRoom (between p a b r)
unfolding between
room-between p a b r h room =
    room-before p.batch (p.at + length a) r.at (let e = h.at in let g = length-append a b in omega arith) (ap (λ (batch : Option ℕ). too_large batch r.at) (sym h.batch) ∙ room)

-- ---- Steps of a reader

pub on-back : {A B : Type 0} (r : Result (A × Place) Fault) (f : A → Reader B) (y : B) (q : Place) → read_on r f ≡ Ok (y, q) → (x : A) × (p : Place) × (r ≡ Ok (x, p)) × (f x p ≡ Ok (y, q))
on-back (Ok r) f y q e = (r.0, r.1, refl, e)
on-back (Err fault) f y q e = absurd cc

pub on-forth : {A B : Type 0} (r : Result (A × Place) Fault) (f : A → Reader B) (x : A) (p : Place) (z : Result (B × Place) Fault) → r ≡ Ok (x, p) → f x p ≡ z → read_on r f ≡ z
on-forth {A} r f x p z e g = ap (λ (y : Result (A × Place) Fault). read_on y f) e ∙ g

pub pair-same : {A : Type 0} (x y : A) (p q : Place) → gives x p ≡ Ok (y, q) → (x ≡ y) × (p ≡ q)
pair-same {A} x y p q e =
    let a : A × Place = (x, p) in
    let b : A × Place = (y, q) in
    let f : a ≡ b = cc in
    (ap (λ (z : A × Place). z.0) f, ap (λ (z : A × Place). z.1) f)

-- ---- Parts

-- what is given with nothing read
pub given : {A : Type 0} {batch : Option ℕ} (x : A) → IsReadAsSpelt batch (gives x) (λ y. []) (λ y. y ≡ x)
given {A} {batch} x = record { reads_back = forth; was_spelt = back }
  where
    forth : (from : Place) (y : A) (to : Place) → from.batch ≡ batch → y ≡ x → Spans from [] to → HasRoom to → gives x from ≡ Ok (y, to)
    forth from y to at e spans room =
        let same = spans-same from to spans in
        cc

    back : (from : Place) (y : A) (to : Place) → from.batch ≡ batch → AreBytes from.rest → HasRoom from → gives x from ≡ Ok (y, to) → WasSpelt (λ z. []) (λ z. z ≡ x) from y to
    back from y to at are room e =
        let same = pair-same x y from to e in
        record { fits = sym same.0; spans = subst (λ (q : Place). Spans from [] q) same.1 (spans-none from); room = subst (λ (q : Place). HasRoom q) same.1 room }

-- One part, and then what is read behind it: a thing whose spelling is that of its first part and of the rest.
pub sequel : {A Y : Type 0} {batch : Option ℕ} {reader : Reader A} {first : A → List ℕ} {Fits : A → Type 0} (f : A → Reader Y) (rest : A → Y → List ℕ) (Goes : A → Y → Type 0) (spelling : Y → List ℕ) (All : Y → Type 0)
    → IsReadAsSpelt batch reader first Fits
    → ((x : A) → Fits x → IsReadAsSpelt batch (f x) (rest x) (Goes x))
    → ((y : Y) → All y → (x : A) × Fits x × Goes x y × (spelling y ≡ first x ++ rest x y))
    → ((x : A) (y : Y) → Fits x → Goes x y → All y × (spelling y ≡ first x ++ rest x y))
    → IsReadAsSpelt batch (reader >>= f) spelling All
sequel {A} {Y} {batch} {reader} {first} {Fits} f rest Goes spelling All part more apart together = record { reads_back = forth; was_spelt = back }
  where
    forth : (from : Place) (y : Y) (to : Place) → from.batch ≡ batch → All y → Spans from (spelling y) to → HasRoom to → read_on (reader from) f ≡ Ok (y, to)
    forth from y to at all spans room =
        let a = apart y all in
        let both = subst (λ (l : List ℕ). Spans from l to) a.3 spans in
        let mid = between from (first a.0) (rest a.0 y) to in
        let one = spans-first from (first a.0) (rest a.0 y) to both in
        let two = spans-second from (first a.0) (rest a.0 y) to both in
        let z : Result (Y × Place) Fault = Ok (y, to) in
        on-forth (reader from) f a.0 mid z
        (part.reads_back from a.0 mid at a.1 one (room-between from (first a.0) (rest a.0 y) to both room))
        ((more a.0 a.1).reads_back mid y to (one.batch ∙ at) a.2 two room)

    back : (from : Place) (y : Y) (to : Place) → from.batch ≡ batch → AreBytes from.rest → HasRoom from → read_on (reader from) f ≡ Ok (y, to) → WasSpelt spelling All from y to
    back from y to at are room e =
        let a = on-back (reader from) f y to e in
        let one = part.was_spelt from a.0 a.1 at are room a.2 in
        let two = (more a.0 one.fits).was_spelt a.1 y to (one.spans.batch ∙ at) (bytes-behind from (first a.0) a.1 one.spans are) one.room a.3 in
        let all = together a.0 y one.fits two.fits in
        record { fits = all.0; spans = subst (λ (l : List ℕ). Spans from l to) (sym all.1) (spans-both from (first a.0) a.1 (rest a.0 y) to one.spans two.spans); room = two.room }

-- A field, and then the fields behind it, of a thing that has the field by `of`.
pub field : {A Y : Type 0} {batch : Option ℕ} {reader : Reader A} {first : A → List ℕ} {Fits : A → Type 0} {f : A → Reader Y} {rest : Y → List ℕ} {Goes : A → Y → Type 0} (of : Y → A)
    → IsReadAsSpelt batch reader first Fits
    → ((x : A) (y : Y) → Goes x y → of y ≡ x)
    → ((x : A) → Fits x → IsReadAsSpelt batch (f x) rest (Goes x))
    → IsReadAsSpelt batch (reader >>= f) (λ y. first (of y) ++ rest y) (λ y. Fits (of y) × Goes (of y) y)
field {A} {Y} {batch} {reader} {first} {Fits} {f} {rest} {Goes} of part is more =
    sequel f (λ x. rest) Goes (λ y. first (of y) ++ rest y) (λ y. Fits (of y) × Goes (of y) y) part more
    (λ y all. (of y, all.0, all.1, refl))
    (λ x y fits goes. let e = is x y goes in ((subst Fits (sym e) fits, subst (λ z. Goes z y) (sym e) goes), ap (λ z. first z ++ rest y) e))

-- the same reader, by other words for what fits and how it is spelt
pub in_other_words : {Y : Type 0} {batch : Option ℕ} {reader : Reader Y} {first : Y → List ℕ} {Fits : Y → Type 0} (spelling : Y → List ℕ) (All : Y → Type 0)
    → IsReadAsSpelt batch reader first Fits
    → ((y : Y) → All y → Fits y × (spelling y ≡ first y))
    → ((y : Y) → Fits y → All y × (spelling y ≡ first y))
    → IsReadAsSpelt batch reader spelling All
in_other_words {Y} {batch} {reader} {first} {Fits} spelling All part to-part from-part = record { reads_back = forth; was_spelt = back }
  where
    forth : (from : Place) (y : Y) (to : Place) → from.batch ≡ batch → All y → Spans from (spelling y) to → HasRoom to → reader from ≡ Ok (y, to)
    forth from y to at all spans room =
        let a = to-part y all in
        part.reads_back from y to at a.0 (subst (λ (l : List ℕ). Spans from l to) a.1 spans) room

    back : (from : Place) (y : Y) (to : Place) → from.batch ≡ batch → AreBytes from.rest → HasRoom from → reader from ≡ Ok (y, to) → WasSpelt spelling All from y to
    back from y to at are room e =
        let a = part.was_spelt from y to at are room e in
        let all = from-part y a.fits in
        record { fits = all.0; spans = subst (λ (l : List ℕ). Spans from l to) (sym all.1) a.spans; room = a.room }

-- a thing of one kind of several, which `con` makes of what is read
pub variant : {A Y : Type 0} {batch : Option ℕ} {reader : Reader A} {first : A → List ℕ} {Fits : A → Type 0} (con : A → Y) (spelling : Y → List ℕ) (All : Y → Type 0)
    → IsReadAsSpelt batch reader first Fits
    → ((y : Y) → All y → (x : A) × Fits x × (y ≡ con x))
    → ((x : A) → Fits x → All (con x))
    → ((x : A) → spelling (con x) ≡ first x)
    → IsReadAsSpelt batch (reader >>= λ x. gives (con x)) spelling All
variant {A} {Y} {batch} {reader} {first} {Fits} con spelling All part of fits spelt =
    sequel (λ x. gives (con x)) (λ x y. []) (λ x y. y ≡ con x) spelling All part (λ x is. given (con x))
    (λ y all. let a = of y all in (a.0, a.1, a.2, ap spelling a.2 ∙ spelt a.0 ∙ sym (append-nil (first a.0))))
    (λ x y is e. (subst All (sym e) (fits x is), ap spelling e ∙ spelt x ∙ sym (append-nil (first x))))

-- as many things, one after another
pub many : {A : Type 0} {batch : Option ℕ} {reader : Reader A} {spelling : A → List ℕ} {Fits : A → Type 0} (k : ℕ) → IsReadAsSpelt batch reader spelling Fits
    → IsReadAsSpelt batch (times k reader) (flat_map spelling) (λ xs. AllFit Fits xs × (length xs ≡ k))
many {A} {batch} {reader} {spelling} {Fits} zero part =
    in_other_words (flat_map spelling) (λ xs. AllFit Fits xs × (length xs ≡ 0)) (given []) none (λ ys e. back ys e)
  where
    none : (ys : List A) → AllFit Fits ys × (length ys ≡ 0) → (ys ≡ []) × (flat_map spelling ys ≡ [])
    none [] h = (refl, refl)
    none (y ∷ ys) h = let e = h.1 in absurd (omega arith)

    back : (ys : List A) → ys ≡ [] → (AllFit Fits ys × (length ys ≡ 0)) × (flat_map spelling ys ≡ [])
    back [] e = (((λ x h. absurd h), refl), refl)
    back (y ∷ ys) e = absurd cc
many {A} {batch} {reader} {spelling} {Fits} (suc k) part =
    sequel (λ x. times k reader >>= λ more. gives (x ∷ more)) (λ x. rest) (λ x. Goes x) (flat_map spelling) (λ xs. AllFit Fits xs × (length xs ≡ suc k)) part (λ x is. behind x is (many k part)) apart together
  where
    rest : List A → List ℕ
    rest [] = []
    rest (y ∷ ys) = flat_map spelling ys

    Goes : A → List A → Type 0
    Goes x [] = ⊥
    Goes x (y ∷ ys) = (y ≡ x) × (AllFit Fits ys × (length ys ≡ k))

    behind : (x : A) → Fits x → IsReadAsSpelt batch (times k reader) (flat_map spelling) (λ xs. AllFit Fits xs × (length xs ≡ k)) → IsReadAsSpelt batch (times k reader >>= λ more. gives (x ∷ more)) rest (Goes x)
    behind x is all = variant (λ ys. x ∷ ys) rest (Goes x) all of (λ ys h. (refl, h)) (λ ys. refl)
      where
        of : (ys : List A) → Goes x ys → (zs : List A) × (AllFit Fits zs × (length zs ≡ k)) × (ys ≡ x ∷ zs)
        of [] h = absurd h
        of (y ∷ ys) h = (ys, h.1, ap (λ z. z ∷ ys) h.0)

    apart : (xs : List A) → AllFit Fits xs × (length xs ≡ suc k) → (x : A) × Fits x × Goes x xs × (flat_map spelling xs ≡ spelling x ++ rest xs)
    apart [] h = let e = h.1 in absurd (omega arith)
    apart (x ∷ xs) h = (x, h.0 x (inl refl), (refl, ((λ z i. h.0 z (inr i)), (let e = h.1 in omega arith))), refl)

    together : (x : A) (xs : List A) → Fits x → Goes x xs → (AllFit Fits xs × (length xs ≡ suc k)) × (flat_map spelling xs ≡ spelling x ++ rest xs)
    together x [] is h = absurd h
    together x (y ∷ ys) is h = ((all, ap suc h.1.1), ap (λ z. spelling z ++ flat_map spelling ys) h.0)
      where
        all : AllFit Fits (y ∷ ys)
        all z (inl e) = subst Fits (sym (e ∙ h.0)) is
        all z (inr i) = h.1.0 z i

-- what is read in a batch of its own, which has to have room for it
pub batched : {A : Type 0} {reader : Reader A} {spelling : A → List ℕ} {Fits : A → Type 0} → ((start : ℕ) → IsReadAsSpelt (Some start) reader spelling Fits)
    → IsReadAsSpelt None (in_batch reader) spelling (λ x. Fits x × (length (spelling x) ≤ batch_limit))
batched {A} {reader} {spelling} {Fits} part = record { reads_back = forth; was_spelt = back }
  where
    begun : Place → Place
    begun p = record p { batch = Some p.at }

    limit : (l : List ℕ) (start end : ℕ) → end ≡ start + length l → too_large (Some start) end ≡ None → length l ≤ batch_limit
    limit l start end e f = by (nat_lt (start + batch_limit) end) refl f
      where
        by : (b : Bool) → nat_lt (start + batch_limit) end ≡ b → (if b then Some start else None) ≡ None → length l ≤ batch_limit
        by true g h = absurd cc
        by false g h = grind (arith, nat_tests)

    forth : (from : Place) (x : A) (to : Place) → from.batch ≡ None → Fits x × (length (spelling x) ≤ batch_limit) → Spans from (spelling x) to → HasRoom to → in_batch reader from ≡ Ok (x, to)
    forth from x to at fits spans room =
        let end : Place = record to { batch = Some from.at } in
        let inside : Spans (begun from) (spelling x) end = record { rest = spans.rest; at = spans.at; batch = refl } in
        let small : nat_lt (from.at + batch_limit) to.at ≡ false = (let limit = fits.1 in let e = spans.at in grind (arith, nat_tests)) in
        let within : HasRoom end = rw small refl in
        let z : Result (A × Place) Fault = Ok (x, to) in
        on-forth (reader (begun from)) (λ y p. gives y (record p { batch = None })) x end z ((part from.at).reads_back (begun from) x end refl fits.0 inside within)
        (ap (λ (b : Option ℕ). Ok (x, record { at = to.at; rest = to.rest; batch = b })) (sym (spans.batch ∙ at)))

    back : (from : Place) (x : A) (to : Place) → from.batch ≡ None → AreBytes from.rest → HasRoom from → in_batch reader from ≡ Ok (x, to) → WasSpelt spelling (λ y. Fits y × (length (spelling y) ≤ batch_limit)) from x to
    back from x to at are room e =
        let a = on-back (reader (begun from)) (λ y p. gives y (record p { batch = None })) x to e in
        let fresh : nat_lt (from.at + batch_limit) from.at ≡ false = grind (arith, nat_tests) in
        let one = (part from.at).was_spelt (begun from) a.0 a.1 refl are (rw fresh refl) a.2 in
        let same = pair-same a.0 x (record a.1 { batch = None }) to a.3 in
        let small = limit (spelling a.0) from.at a.1.at one.spans.at (ap (λ (b : Option ℕ). too_large b a.1.at) (sym one.spans.batch) ∙ one.room) in
        let spans : Spans from (spelling a.0) (record a.1 { batch = None }) = record { rest = one.spans.rest; at = one.spans.at; batch = sym at } in
        let is : WasSpelt spelling (λ y. Fits y × (length (spelling y) ≤ batch_limit)) from a.0 (record a.1 { batch = None }) = record { fits = (one.fits, small); spans = spans; room = refl } in
        subst (λ (q : Place). WasSpelt spelling (λ y. Fits y × (length (spelling y) ≤ batch_limit)) from x q) same.1
        (subst (λ (y : A). WasSpelt spelling (λ y. Fits y × (length (spelling y) ≤ batch_limit)) from y (record a.1 { batch = None })) same.0 is)

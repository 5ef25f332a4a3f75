-- A reader that follows a stream follows it with a piece more, and there is one reader that follows a stream.
use Rattle.std.proofs.Common.{◌≡◌, ℕ, ◌+◌, List, [], ◌∷◌, ◌++◌, drop, refl, sym, ◌∙◌, ap, subst, Option, Some, None, Ok, Err, append_assoc}
use Rattle.std.proofs.lemmas.List.{append-nil, drop-drop}
use Rattle.frame_fields.specs.Faults.{Fault}
use Rattle.frame_fields.specs.Telling.{fault_of}
use Rattle.frame_fields.specs.declared.fault.FrameFault.{FrameFault}
use Rattle.frame_fields.specs.declared.fault.FrameFault.TheVariants as told_fault
use Rattle.frame_stream.specs.Frames.{Rules, Whole, behind, next_frame, Passes}
use Rattle.frame_stream.specs.Following.{Progress, IsAt, HasRead, HasTaken, StopsAt, Keeps, Follows, HasFollowed, HasBegun}
use Rattle.frame_stream.proofs.Passing.{passes-append, passes-trans, passes-one, faults-append}

-- no frame is read
pub read_none : {Item : Type 0} (rules : Rules Item) (at : ℕ) (bytes : List ℕ) (before : List Item) → HasRead rules at bytes before before at bytes
read_none rules at bytes before = ([], (sym (append-nil before), (refl, refl)))

-- one frame more is read
pub read_one : {Item : Type 0} (rules : Rules Item) (at : ℕ) (bytes : List ℕ) (before middle : List Item) (mid start : ℕ) (item : Item) (size : ℕ)
    → HasRead rules at bytes before middle mid (drop start bytes) → next_frame rules mid (drop start bytes) ≡ Whole item size
    → HasRead rules at bytes before (middle ++ item ∷ []) (behind mid size) (drop (start + size) bytes)
read_one {Item} rules at bytes before middle mid start item size r e =
    let more = r.0 in
    let items : middle ++ item ∷ [] ≡ before ++ (more ++ item ∷ []) = ap (λ (xs : List Item). xs ++ item ∷ []) r.1.0 ∙ append_assoc before more (item ∷ []) in
    let passes : Passes rules at bytes (more ++ item ∷ []) (behind mid size) (drop size (drop start bytes)) = passes-one rules at bytes more mid (drop start bytes) item size r.1.1 e in
    (more ++ item ∷ [], (items, rw drop-drop at passes))

-- frames are read of a stream that goes on with a piece
read_with_piece : {Item : Type 0} (rules : Rules Item) (stream piece : List ℕ) (items before after : List Item) (at : ℕ) (kept : List ℕ) (end : ℕ) (rest : List ℕ)
    → Passes rules 0 stream items at kept → HasRead rules at (kept ++ piece) before after end rest
    → (more : List Item) × ((after ≡ before ++ more) × Passes rules 0 (stream ++ piece) (items ++ more) end rest)
read_with_piece rules stream piece items before after at kept end rest p r =
    (r.0, (r.1.0, passes-trans rules 0 (stream ++ piece) items r.0 at (kept ++ piece) end rest (passes-append rules 0 stream piece items at kept p) r.1.1))

-- what a reader without a fault has passed
passed : {G Item : Type 0} (rules : Rules Item) (stream : List ℕ) (items : List Item) (reader : Progress G) → reader.fault ≡ None → Follows rules stream items reader
    → Passes rules 0 stream items reader.at reader.kept
passed rules stream items reader none f =
    let kept : Keeps rules stream items reader.at reader.kept None = subst (λ (o : Option FrameFault). Keeps rules stream items reader.at reader.kept o) none f in
    kept.0

-- all was read
pub fed_ok : {G Item : Type 0} (rules : Rules Item) (stream piece : List ℕ) (items before after : List Item) (reader later : Progress G)
    → reader.fault ≡ None → later.fault ≡ reader.fault → Follows rules stream items reader → HasTaken rules reader.at (reader.kept ++ piece) before after later.at later.kept (Ok tt)
    → HasFollowed rules (stream ++ piece) items before after later
fed_ok rules stream piece items before after reader later none same f taken =
    let r = read_with_piece rules stream piece items before after reader.at reader.kept later.at later.kept (passed rules stream items reader none f) taken.0 in
    let still : None ≡ later.fault = sym (same ∙ none) in
    (r.0, (r.1.0, subst (λ (o : Option FrameFault). Keeps rules (stream ++ piece) (items ++ r.0) later.at later.kept o) still (r.1.1, taken.1)))

pub begun_ok : {G Item : Type 0} (rules : Rules Item) (stream piece : List ℕ) (items before after : List Item) (reader later : Progress G)
    → reader.fault ≡ None → Follows rules stream items reader → HasTaken rules reader.at (reader.kept ++ piece) before after later.at later.kept (Ok tt)
    → HasBegun rules (stream ++ piece) items before after
begun_ok rules stream piece items before after reader later none f taken =
    let r = read_with_piece rules stream piece items before after reader.at reader.kept later.at later.kept (passed rules stream items reader none f) taken.0 in
    (r.0, (r.1.0, (later.at, (later.kept, r.1.1))))

-- a fault was met
stops_at : {Item : Type 0} (rules : Rules Item) (stream : List ℕ) (items : List Item) (at : ℕ) (rest : List ℕ) (e : FrameFault) → (e ≡ told_fault.NoMemory → ⊥)
    → Passes rules 0 stream items at rest → IsAt (fault_of e) (next_frame rules at rest) → StopsAt rules stream items at (fault_of e)
stops_at rules stream items at rest (told_fault.BadKind place) n p e = (rest, (p, e))
stops_at rules stream items at rest (told_fault.BadLength place) n p e = (rest, (p, e))
stops_at rules stream items at rest (told_fault.BadField place) n p e = (rest, (p, e))
stops_at rules stream items at rest (told_fault.TooLong place) n p e = (rest, (p, e))
stops_at rules stream items at rest (told_fault.OtherCluster place got) n p e = (rest, (p, e))
stops_at rules stream items at rest told_fault.NoMemory n p e = absurd (n refl)

pub fed_err : {G Item : Type 0} (rules : Rules Item) (stream piece : List ℕ) (items before after : List Item) (reader taken later : Progress G) (e : FrameFault)
    → reader.fault ≡ None → later ≡ record taken { kept = []; fault = Some e } → Follows rules stream items reader
    → HasTaken rules reader.at (reader.kept ++ piece) before after taken.at taken.kept (Err e) → (e ≡ told_fault.NoMemory → ⊥)
    → HasFollowed rules (stream ++ piece) items before after later
fed_err {G} {Item} rules stream piece items before after reader taken later e none stopped f took n =
    let r = read_with_piece rules stream piece items before after reader.at reader.kept taken.at took.0 (passed rules stream items reader none f) took.1.0 in
    let stops : StopsAt rules (stream ++ piece) (items ++ r.0) taken.at (fault_of e) = stops_at rules (stream ++ piece) (items ++ r.0) taken.at took.0 e n r.1.1 took.1.1 in
    subst (λ (p : Progress G). HasFollowed rules (stream ++ piece) items before after p) (sym stopped) (r.0, (r.1.0, (refl, stops)))

pub begun_err : {G Item : Type 0} (rules : Rules Item) (stream piece : List ℕ) (items before after : List Item) (reader taken : Progress G) (e : FrameFault)
    → reader.fault ≡ None → Follows rules stream items reader → HasTaken rules reader.at (reader.kept ++ piece) before after taken.at taken.kept (Err e)
    → HasBegun rules (stream ++ piece) items before after
begun_err rules stream piece items before after reader taken e none f took =
    let r = read_with_piece rules stream piece items before after reader.at reader.kept taken.at took.0 (passed rules stream items reader none f) took.1.0 in
    (r.0, (r.1.0, (taken.at, (took.0, r.1.1))))

-- a fault stays when more bytes follow
stops-append : {Item : Type 0} (rules : Rules Item) (stream piece : List ℕ) (items : List Item) (at : ℕ) (o : Option Fault) → StopsAt rules stream items at o → StopsAt rules (stream ++ piece) items at o
stops-append rules stream piece items at None s = absurd s
stops-append rules stream piece items at (Some fault) s =
    (s.0 ++ piece, (passes-append rules 0 stream piece items at s.0 s.1.0, faults-append rules at s.0 piece fault s.1.1))

-- what a reader with a fault follows
stopped : {G Item : Type 0} (rules : Rules Item) (stream : List ℕ) (items : List Item) (reader : Progress G) (e : FrameFault) → reader.fault ≡ Some e → Follows rules stream items reader
    → (reader.kept ≡ []) × StopsAt rules stream items reader.at (fault_of e)
stopped rules stream items reader e some f = subst (λ (o : Option FrameFault). Keeps rules stream items reader.at reader.kept o) some f

pub fed_stopped : {G Item : Type 0} (rules : Rules Item) (stream piece : List ℕ) (items before : List Item) (reader : Progress G) (e : FrameFault)
    → reader.fault ≡ Some e → Follows rules stream items reader → HasFollowed rules (stream ++ piece) items before before reader
fed_stopped {G} {Item} rules stream piece items before reader e some f =
    let s = stopped rules stream items reader e some f in
    let later : StopsAt rules (stream ++ piece) items reader.at (fault_of e) = stops-append rules stream piece items reader.at (fault_of e) s.1 in
    let keeps : Keeps rules (stream ++ piece) items reader.at reader.kept (Some e) = (s.0, later) in
    let follows : Follows rules (stream ++ piece) items reader = subst (λ (o : Option FrameFault). Keeps rules (stream ++ piece) items reader.at reader.kept o) (sym some) keeps in
    ([], (sym (append-nil before), subst (λ (xs : List Item). Follows rules (stream ++ piece) xs reader) (sym (append-nil items)) follows))

begun_at : {Item : Type 0} (rules : Rules Item) (stream : List ℕ) (items : List Item) (at : ℕ) (o : Option Fault) → StopsAt rules stream items at o → (end : ℕ) × ((rest : List ℕ) × Passes rules 0 stream items end rest)
begun_at rules stream items at None s = absurd s
begun_at rules stream items at (Some fault) s = (at, (s.0, s.1.0))

pub begun_stopped : {G Item : Type 0} (rules : Rules Item) (stream piece : List ℕ) (items before : List Item) (reader : Progress G) (e : FrameFault)
    → reader.fault ≡ Some e → Follows rules stream items reader → HasBegun rules (stream ++ piece) items before before
begun_stopped {G} {Item} rules stream piece items before reader e some f =
    let s = stopped rules stream items reader e some f in
    let b = begun_at rules (stream ++ piece) items reader.at (fault_of e) (stops-append rules stream piece items reader.at (fault_of e) s.1) in
    ([], (sym (append-nil before), (b.0, (b.1.0, subst (λ (xs : List Item). Passes rules 0 (stream ++ piece) xs b.0 b.1.0) (sym (append-nil items)) b.1.1))))

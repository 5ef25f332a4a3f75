-- The fields of each message are read as they are spelt.
use Rattle.std.proofs.Common.{◌≡◌, ℕ, zero, suc, ◌+◌, ◌^◌, ◌≤◌, List, [], ◌∷◌, ◌++◌, length, ◌==◌, if◌then◌else◌, Option, Some, None, refl, sym, ap, subst, ◌∙◌, lit<, lit≤, arith, append-nil, append_assoc, length-append, inl, inr}
use Rattle.std.proofs.lemmas.List.Sums.{sum_by-cons}
use Rattle.std.specs.List.{flat_map, sum_by}
use Rattle.jp_types.specs.Instances.{Batch}
use Rattle.jp_types.specs.Limits.{IsBatch}
use Rattle.jp_types.specs.Sizes.{command_size, request_size, batch_size}
use Rattle.jp_types.specs.declared.command.Command.{Command}
use Rattle.jp_types.specs.declared.command.Command.TheVariants.{Put, Get, Del, Cas}
use Rattle.jp_types.specs.declared.command.Request.{Request}
use Rattle.jp_types.specs.declared.message.Entry.{Entry}
use Rattle.frame_fields.specs.Reading.{gives, ◌>>=◌, counter}
use Rattle.frame_fields.specs.Spelling.{sized_bytes, optional_bytes, command_bytes, request_bytes}
use Rattle.frame_fields.specs.Laws.{IsReadAsSpelt, AllFit, FitsIfThere, IsWithin}
use Rattle.frame_fields.proofs.Spellings.{given, sequel, field, in_other_words, variant, many, batched}
use Rattle.frame_fields.proofs.FieldSpellings.{numbers-1, numbers-4, numbers-8, number-spelt, counter-spelt, request-spelt}
use Rattle.message_codec.specs.Messages.{vector, requests, batch, vote, entry, entries, report}
use Rattle.message_codec.specs.Spelling.{counter_bytes, batch_bytes, vote_bytes, entry_bytes, report_bytes}
use Rattle.message_codec.specs.Limits.{IsCounter, IsVector, IsSentBatch, IsEntry, AscendFrom, IsReport}

-- ---- How long batches are

optional-length : (old : Option (List ℕ)) (more : List ℕ) → length (optional_bytes sized_bytes old ++ more) ≡ length (optional_bytes sized_bytes old) + length more
optional-length old more = length-append (optional_bytes sized_bytes old) more

command-length : (c : Command) → length (command_bytes c) ≡ command_size c
command-length (Put key value) = omega (arith, length-append key (sized_bytes value))
command-length (Get key) = omega arith
command-length (Del key) = omega arith
command-length (Cas key None new) = omega (arith, length-append key (0 ∷ []), length-append (key ++ 0 ∷ []) (sized_bytes new))
command-length (Cas key (Some old) new) = omega (arith, length-append key (1 ∷ sized_bytes old), length-append (key ++ 1 ∷ sized_bytes old) (sized_bytes new))

request-length : (r : Request) → length (request_bytes r) ≡ request_size r
request-length r = omega (arith, command-length r.command)

requests-length : (b : Batch) → length (flat_map request_bytes b) ≡ sum_by request_size b
requests-length [] = refl
requests-length (r ∷ rs) = length-append (request_bytes r) (flat_map request_bytes rs) ∙ omega (arith, request-length r, requests-length rs, sum_by-cons request_size r rs)

pub batch-length : (b : Batch) → length (batch_bytes b) ≡ batch_size b
batch-length b = omega (arith, requests-length b)

-- ---- Batches

pub vector-spelt : IsReadAsSpelt None vector (flat_map counter_bytes) IsVector
vector-spelt = in_other_words (flat_map counter_bytes) IsVector (many 9 counter-spelt) (λ v is. ((is.epochs, is.nine), refl)) (λ v is. (record { nine = is.1; epochs = is.0 }, refl))

requests-spelt : {inside : Option ℕ} → IsReadAsSpelt inside requests batch_bytes (λ b. IsBatch b × (length b ≤ 1024))
requests-spelt =
    in_other_words batch_bytes (λ b. IsBatch b × (length b ≤ 1024)) (field length (number-spelt numbers-4 0 1024 (lit< tt)) (λ count b is. is.1) (λ count is. many count request-spelt))
    (λ b is. (((omega arith, is.1), (is.0, refl)), refl)) (λ b is. ((is.1.0, is.0.1), refl))

pub batch-spelt : IsReadAsSpelt None batch batch_bytes IsSentBatch
batch-spelt = in_other_words batch_bytes IsSentBatch (batched (λ start. requests-spelt)) to from
  where
    to : (b : Batch) → IsSentBatch b → ((IsBatch b × (length b ≤ 1024)) × (length (batch_bytes b) ≤ 65536)) × (batch_bytes b ≡ batch_bytes b)
    to b is = (((is.requests, is.count), subst (λ (n : ℕ). n ≤ 65536) (sym (batch-length b)) is.size), refl)

    from : (b : Batch) → (IsBatch b × (length b ≤ 1024)) × (length (batch_bytes b) ≤ 65536) → IsSentBatch b × (batch_bytes b ≡ batch_bytes b)
    from b is = (record { requests = is.0.0; count = is.0.1; size = subst (λ (n : ℕ). n ≤ 65536) (batch-length b) is.1 }, refl)

-- ---- Reports

abbrev vote_tag : Option ℕ → ℕ
vote_tag (Some view) = 0
vote_tag None = 1

abbrev behind_tag : Option ℕ → List ℕ
behind_tag (Some view) = counter_bytes view
behind_tag None = []

vote-spelt : IsReadAsSpelt None vote vote_bytes (FitsIfThere IsCounter)
vote-spelt = in_other_words vote_bytes (FitsIfThere IsCounter) (field vote_tag (number-spelt numbers-1 0 1 (lit< tt)) (λ n v is. is.1) of_tag) to from
  where
    Goes : ℕ → Option ℕ → Type 0
    Goes n v = FitsIfThere IsCounter v × (vote_tag v ≡ n)

    decided : (v : Option ℕ) → Goes 1 v → (v ≡ None) × (behind_tag v ≡ [])
    decided None h = (refl, refl)
    decided (Some view) h = absurd (omega (arith, h.1))

    no-vote : (v : Option ℕ) → v ≡ None → Goes 1 v × (behind_tag v ≡ [])
    no-vote None e = (((λ y f. absurd cc), refl), refl)
    no-vote (Some view) e = absurd cc

    voted : (v : Option ℕ) → Goes 0 v → (view : ℕ) × IsCounter view × (v ≡ Some view)
    voted None h = absurd (omega (arith, h.1))
    voted (Some view) h = (view, h.0 view refl, refl)

    fits : (x y : ℕ) → IsCounter x → Some x ≡ Some y → IsCounter y
    fits x y is e = let same : x ≡ y = cc in subst IsCounter same is

    of_tag : (n : ℕ) → IsWithin 0 1 n → IsReadAsSpelt None (if n == 0 then (counter >>= λ view. gives (Some view)) else gives None) behind_tag (Goes n)
    of_tag zero is = variant Some behind_tag (Goes 0) counter-spelt voted (λ x is. ((λ y e. fits x y is e), refl)) (λ x. refl)
    of_tag (suc zero) is = in_other_words behind_tag (Goes 1) (given None) decided no-vote
    of_tag (suc (suc n)) is = let high = is.1 in absurd (omega arith)

    to : (v : Option ℕ) → FitsIfThere IsCounter v → (IsWithin 0 1 (vote_tag v) × Goes (vote_tag v) v) × (vote_bytes v ≡ (vote_tag v ∷ []) ++ behind_tag v)
    to None is = (((lit≤ tt, lit≤ tt), (is, refl)), refl)
    to (Some view) is = (((lit≤ tt, lit≤ tt), (is, refl)), refl)

    from : (v : Option ℕ) → IsWithin 0 1 (vote_tag v) × Goes (vote_tag v) v → FitsIfThere IsCounter v × (vote_bytes v ≡ (vote_tag v ∷ []) ++ behind_tag v)
    from None is = (is.1.0, refl)
    from (Some view) is = (is.1.0, refl)

three : (a b c : List ℕ) → (a ++ b) ++ c ≡ a ++ (b ++ (c ++ []))
three a b c = simp (append_assoc, append-nil)

entry-spelt : (least : ℕ) → IsReadAsSpelt None (entry least) entry_bytes (λ e. (least ≤ e.instance) × IsEntry e)
entry-spelt least =
    in_other_words entry_bytes (λ e. (least ≤ e.instance) × IsEntry e)
    (field (λ e. e.instance) (number-spelt numbers-8 least (2 ^ 48) (lit< tt)) (λ i e is. ap (λ (z : Entry). z.instance) is.1.1)
    (λ i is. field (λ e. e.vote) vote-spelt (λ v e is. ap (λ (z : Entry). z.vote) is.1)
    (λ v is. field (λ e. e.batch) batch-spelt (λ b e is. ap (λ (z : Entry). z.batch) is) (λ b is. given (record { instance = i; vote = v; batch = b })))))
    (λ e is. (((is.0, is.1.instance), (is.1.vote, (is.1.batch, refl))), three (counter_bytes e.instance) (vote_bytes e.vote) (batch_bytes e.batch)))
    (λ e is. ((is.0.0, record { instance = is.0.1; vote = is.1.0; batch = is.1.1.0 }), three (counter_bytes e.instance) (vote_bytes e.vote) (batch_bytes e.batch)))

entries-spelt : (k least : ℕ) → IsReadAsSpelt None (entries k least) (flat_map entry_bytes) (λ es. AllFit IsEntry es × (length es ≡ k) × AscendFrom least es)
entries-spelt zero least = in_other_words (flat_map entry_bytes) (λ es. AllFit IsEntry es × (length es ≡ 0) × AscendFrom least es) (given []) none back
  where
    none : (es : List Entry) → AllFit IsEntry es × (length es ≡ 0) × AscendFrom least es → (es ≡ []) × (flat_map entry_bytes es ≡ [])
    none [] h = (refl, refl)
    none (e ∷ es) h = let f = h.1 in absurd (omega arith)

    back : (es : List Entry) → es ≡ [] → (AllFit IsEntry es × (length es ≡ 0) × AscendFrom least es) × (flat_map entry_bytes es ≡ [])
    back [] f = (((λ x i. absurd i), refl, tt), refl)
    back (e ∷ es) f = absurd cc
entries-spelt (suc k) least =
    sequel (λ e. entries k (e.instance + 1) >>= λ more. gives (e ∷ more)) (λ e. rest) Goes (flat_map entry_bytes) (λ es. AllFit IsEntry es × (length es ≡ suc k) × AscendFrom least es) (entry-spelt least)
    (λ e is. behind e (entries-spelt k (e.instance + 1))) apart together
  where
    rest : List Entry → List ℕ
    rest [] = []
    rest (e ∷ es) = flat_map entry_bytes es

    Goes : Entry → List Entry → Type 0
    Goes e [] = ⊥
    Goes e (f ∷ es) = (f ≡ e) × (AllFit IsEntry es × (length es ≡ k) × AscendFrom (e.instance + 1) es)

    behind : (e : Entry) → IsReadAsSpelt None (entries k (e.instance + 1)) (flat_map entry_bytes) (λ es. AllFit IsEntry es × (length es ≡ k) × AscendFrom (e.instance + 1) es)
        → IsReadAsSpelt None (entries k (e.instance + 1) >>= λ more. gives (e ∷ more)) rest (Goes e)
    behind e all = variant (λ es. e ∷ es) rest (Goes e) all of (λ es h. (refl, h)) (λ es. refl)
      where
        of : (es : List Entry) → Goes e es → (fs : List Entry) × (AllFit IsEntry fs × (length fs ≡ k) × AscendFrom (e.instance + 1) fs) × (es ≡ e ∷ fs)
        of [] h = absurd h
        of (f ∷ es) h = (es, h.1, ap (λ (z : Entry). z ∷ es) h.0)

    apart : (es : List Entry) → AllFit IsEntry es × (length es ≡ suc k) × AscendFrom least es → (e : Entry) × ((least ≤ e.instance) × IsEntry e) × Goes e es × (flat_map entry_bytes es ≡ entry_bytes e ++ rest es)
    apart [] h = let f = h.1 in absurd (omega arith)
    apart (e ∷ es) h = (e, (h.2.0, h.0 e (inl refl)), (refl, ((λ z i. h.0 z (inr i)), (let f = h.1 in omega arith), h.2.1)), refl)

    together : (e : Entry) (es : List Entry) → (least ≤ e.instance) × IsEntry e → Goes e es → (AllFit IsEntry es × (length es ≡ suc k) × AscendFrom least es) × (flat_map entry_bytes es ≡ entry_bytes e ++ rest es)
    together e [] is h = absurd h
    together e (f ∷ es) is h = ((all, ap suc h.1.1, ascend), ap (λ (z : Entry). entry_bytes z ++ flat_map entry_bytes es) h.0)
      where
        all : AllFit IsEntry (f ∷ es)
        all z (inl g) = subst IsEntry (sym (g ∙ h.0)) is.1
        all z (inr i) = h.1.0 z i

        ascend : AscendFrom least (f ∷ es)
        ascend = subst (λ (z : Entry). (least ≤ z.instance) × AscendFrom (z.instance + 1) es) (sym h.0) (is.0, h.1.2)

pub report-spelt : IsReadAsSpelt None report report_bytes IsReport
report-spelt =
    in_other_words report_bytes IsReport (field length (number-spelt numbers-4 0 1024 (lit< tt)) (λ count es is. is.1) (λ count is. entries-spelt count 0))
    (λ es is. (((omega arith, is.count), (is.entries, refl, is.ascending)), refl)) (λ es is. (record { entries = is.1.0; count = is.0.1; ascending = is.1.2 }, refl))

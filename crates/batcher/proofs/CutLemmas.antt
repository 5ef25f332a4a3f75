-- What a batch is after what comes, and the batches of a list.
use Rattle.std.proofs.Common.{ℕ, ◌≡◌, ◌+◌, ◌≤◌, suc, Bool, true, false, ◌||◌, List, [], ◌∷◌, ◌++◌, length, nat_lt, None, Some, refl, ap, ◌∙◌, arith, append_assoc, append-nil, length-append}
use Rattle.std.proofs.lemmas.Bool.Decides.{nat_tests}
use Rattle.std.proofs.lemmas.List.Sums.{sum_by-append}
use Rattle.std.specs.List.{AllByRecursion}
use Rattle.jp_types.specs.declared.command.Command.{Command}
use Rattle.jp_types.specs.declared.command.Request.{Request}
use Rattle.jp_types.specs.Sizes.{command_size, request_size, batch_size}
use Rattle.jp_types.specs.Instances.{Batch}
use Rattle.batcher.specs.declared.fed.Fed.{Fed}
use Rattle.batcher.specs.Cut.{Fits, IsNotEmpty, IsShort, IsWithinLimits, byte_limit, cut_from, held_after, is_closed_by, request_limit, requests_in, requests_of, with_closed}

-- the size with one request more
batch_size-push : (b : Batch) (r : Request) → batch_size (b ++ r ∷ []) ≡ batch_size b + request_size r
batch_size-push b r = omega (arith, sum_by-append request_size b (r ∷ []))

-- a batch that is not empty, and a request with which it passes no limit
room : (size more count : ℕ) → (nat_lt byte_limit (size + more) || nat_lt request_limit (suc count)) ≡ false → (size + more ≤ byte_limit) × (suc count ≤ request_limit)
room size more count e = grind (arith, nat_tests)

within_by : (t : Bool) (b : Batch) (r : Request) → (nat_lt byte_limit (batch_size b + request_size r) || nat_lt request_limit (suc (length b))) ≡ t → IsWithinLimits (r ∷ []) → IsWithinLimits (held_after t b (Fed.Request r))
within_by true b r e fits = fits
within_by false b r e fits =
    let h = room (batch_size b) (request_size r) (length b) e in
    let size = batch_size-push b r in
    let count = length-append b (r ∷ []) in
    (omega arith, omega arith)

-- the batch that is being made stays within the limits
within_after : (b : Batch) (fed : Fed) → Fits fed → IsWithinLimits b → IsWithinLimits (held_after (is_closed_by b fed) b fed)
within_after [] (Fed.Request r) fits h = fits
within_after [] Fed.Tick fits h = h
within_after (q ∷ rs) (Fed.Request r) fits h = within_by _ (q ∷ rs) r refl fits
within_after (q ∷ rs) Fed.Tick fits h = (omega arith, omega arith)

-- what is closed is not empty
not_empty : (b : Batch) (fed : Fed) → is_closed_by b fed ≡ true → IsNotEmpty b
not_empty [] fed e = absurd cc
not_empty (r ∷ rs) fed e = omega arith

all_closed : (P : Batch → Type 0) (t : Bool) (b : Batch) (bs : List Batch) → (t ≡ true → P b) → AllByRecursion P bs → AllByRecursion P (with_closed t b bs)
all_closed P true b bs h hs = (h refl, hs)
all_closed P false b bs h hs = hs

pub all_not_empty : (held : Batch) (feds : List Fed) → AllByRecursion IsNotEmpty (cut_from held feds).0
all_not_empty held [] = tt
all_not_empty held (fed ∷ more) =
    all_closed IsNotEmpty (is_closed_by held fed) held _ (not_empty held fed) (all_not_empty (held_after (is_closed_by held fed) held fed) more)

pub all_within : (held : Batch) (feds : List Fed) → IsWithinLimits held → AllByRecursion Fits feds → AllByRecursion IsWithinLimits (cut_from held feds).0
all_within held [] h fit = tt
all_within held (fed ∷ more) h fit =
    all_closed IsWithinLimits (is_closed_by held fed) held _ (λ _. h) (all_within (held_after (is_closed_by held fed) held fed) more (within_after held fed fit.0 h) fit.1)

pub last_within : (held : Batch) (feds : List Fed) → IsWithinLimits held → AllByRecursion Fits feds → IsWithinLimits (cut_from held feds).1
last_within held [] h fit = h
last_within held (fed ∷ more) h fit = last_within (held_after (is_closed_by held fed) held fed) more (within_after held fed fit.0 h) fit.1

-- the batches behind one turn are the requests that were held and those that come
whole_by : (t : Bool) (held : Batch) (fed : Fed) (more : List Fed) (closed : List Batch) (last : Batch)
    → requests_in closed ++ last ≡ held_after t held fed ++ requests_of more → requests_in (with_closed t held closed) ++ last ≡ held ++ requests_of (fed ∷ more)
whole_by true held (Fed.Request r) more closed last h = rw append_assoc (ap (λ rs. held ++ rs) h)
whole_by true held Fed.Tick more closed last h = rw append_assoc (ap (λ rs. held ++ rs) h)
whole_by false held (Fed.Request r) more closed last h = h ∙ rw append_assoc refl
whole_by false held Fed.Tick more closed last h = h

pub whole : (held : Batch) (feds : List Fed) → requests_in (cut_from held feds).0 ++ (cut_from held feds).1 ≡ held ++ requests_of feds
whole held [] = simp append-nil
whole held (fed ∷ more) = whole_by (is_closed_by held fed) held fed more _ _ (whole (held_after (is_closed_by held fed) held fed) more)

closed_then : (t : Bool) (b : Batch) (bs cs : List Batch) → with_closed t b (bs ++ cs) ≡ with_closed t b bs ++ cs
closed_then true b bs cs = refl
closed_then false b bs cs = refl

-- one item more is one turn more
pub closed_by_turns : (held : Batch) (feds : List Fed) (next : Fed)
    → (cut_from held (feds ++ next ∷ [])).0 ≡ (cut_from held feds).0 ++ with_closed (is_closed_by (cut_from held feds).1 next) (cut_from held feds).1 []
closed_by_turns held [] next = refl
closed_by_turns held (fed ∷ more) next =
    let t = is_closed_by held fed in
    ap (with_closed t held) (closed_by_turns (held_after t held fed) more next) ∙ closed_then t held _ _

pub held_by_turns : (held : Batch) (feds : List Fed) (next : Fed)
    → (cut_from held (feds ++ next ∷ [])).1 ≡ held_after (is_closed_by (cut_from held feds).1 next) (cut_from held feds).1 next
held_by_turns held [] next = refl
held_by_turns held (fed ∷ more) next = held_by_turns (held_after (is_closed_by held fed) held fed) more next

short_size : (c : Command) → IsShort c → command_size c ≤ 65516
short_size (Command.Put key value) h = omega arith
short_size (Command.Get key) h = omega arith
short_size (Command.Del key) h = omega arith
short_size (Command.Cas key None new) h = omega arith
short_size (Command.Cas key (Some old) new) h = omega arith

-- a request of short parts fits a batch of its own
pub short_fits : (r : Request) → IsShort r.command → Fits (Fed.Request r)
short_fits r h = let size = short_size r.command h in (omega arith, omega arith)

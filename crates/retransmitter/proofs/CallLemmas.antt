-- What a call does to each slot, and so what calls do to it one after another.
use Rattle.std.proofs.Common.{◌≡◌, ℕ, zero, suc, ◌≤◌, ◌<◌, ◌⊎◌, inl, inr, ⊎_elim, Bool, true, false, ◌&&◌, not, nat_lt, ◌==◌, if◌then◌else◌, List, [], ◌∷◌, ◌++◌, length, get_or, set, replicate, Option, Some, None, is_some, Ok, refl, sym, ap, subst, ◌∙◌, arith}
use Rattle.std.proofs.lemmas.List.{get_or-set_same, set_past, get_or_past}
use Rattle.std.proofs.lemmas.Bool.{eqb-true}
use Rattle.std.proofs.lemmas.Bool.Decides.{nat_tests}
use Rattle.retransmitter.specs.declared.slots.Slot.{Slot}
use Rattle.retransmitter.specs.declared.outgoing.Outgoing.{Outgoing}
use Rattle.retransmitter.specs.Armed.{Armed}
use Rattle.retransmitter.specs.Slots.{answer_in, arm_answer, armed_at, cancelled, claim_of, free_slots, generation_at, generation_limit, is_free, least_free, live_at, new_slot, slot_at, slot_count, slots_in, under}
use Rattle.retransmitter.specs.Calls.{Call, Arm, Cancel, Claim, after, after_all, slots_after, Begins, Ends, OnlyArmsBegin, GenerationsNeverFall, IsLive, LiveOnce, WasArmed, CancelsEnd, ClaimsAreArmed, ArmedOnce}
use Rattle.retransmitter.proofs.SlotLemmas.{free_least, inside_least}

-- what becomes of a slot
abbrev pub Changes : List Slot → Call → ℕ → Slot → Type 0
Changes slots call k slot = (slot ≡ slot_at slots k) ⊎ (Begins slots call k slot ⊎ Ends slots call k slot)

-- a free slot is not live
none_free : (slot : Slot) → is_free slot ≡ true → slot.live ≡ None
none_free slot h = by slot.live refl
  where
    by : (o : Option Outgoing) → slot.live ≡ o → slot.live ≡ None
    by None e = e
    by (Some m) e =
        let no : false ≡ true = subst (λ (o : Option Outgoing). (not (is_some o) && nat_lt slot.generation generation_limit) ≡ true) e h in
        absurd cc

-- a write to slot j leaves slot k, or it is the same one
set_at : (slots : List Slot) (j : ℕ) (s : Slot) (k : ℕ) → (slot_at (set slots j s) k ≡ slot_at slots k) ⊎ ((k ≡ j) × (slot_at (set slots j s) k ≡ s))
set_at [] j s k = inl refl
set_at (x ∷ xs) zero s zero = inr (refl, refl)
set_at (x ∷ xs) zero s (suc k) = inl refl
set_at (x ∷ xs) (suc j) s zero = inl refl
set_at (x ∷ xs) (suc j) s (suc k) = ⊎_elim (λ e. inl e) (λ h. inr (ap suc h.0, h.1)) (set_at xs j s k)

arm_changes : (slots : List Slot) (m : Outgoing) (k : ℕ) (o : Option ℕ) → least_free slots ≡ o → Changes slots (Arm m) k (slot_at (slots_in slots m o) k)
arm_changes slots m k None e = inl refl
arm_changes slots m k (Some j) e = ⊎_elim (λ same. inl same) (λ h. inr (inl (begins h.0 h.1))) (set_at slots j (next j) k)
  where
    next : ℕ → Slot
    next i = record { generation = suc (generation_at slots i); live = Some m }

    begins : k ≡ j → slot_at (armed_at slots j m) k ≡ next j → Begins slots (Arm m) k (slot_at (armed_at slots j m) k)
    begins same is =
        let back = sym same in
        record {
          message = m;
          call_is = refl;
          free = subst (λ (i : ℕ). live_at slots i ≡ None) back (none_free (slot_at slots j) (free_least slots j e));
          slot_is = is ∙ ap next back;
          answer = ap (answer_in slots m) e ∙ ap (λ (i : ℕ). answer_in slots m (Some i)) back;
        }

cancel_changes : (slots : List Slot) (a : Armed) (k : ℕ) → Changes slots (Cancel a) k (slot_at (cancelled slots a) k)
cancel_changes slots a k = by (generation_at slots a.slot == a.generation) refl
  where
    ended : Slot
    ended = record { generation = a.generation; live = None }

    ends : generation_at slots a.slot ≡ a.generation → k ≡ a.slot → slot_at (set slots a.slot ended) k ≡ ended → Ends slots (Cancel a) k (slot_at (set slots a.slot ended) k)
    ends g same is =
        let back = sym same in
        let p : a.generation ≡ generation_at slots k = sym g ∙ ap (generation_at slots) back in
        record {
          call_is = λ t. Cancel (record { slot = back t; generation = p t });
          slot_is = is ∙ (λ t. record { generation = p t; live = None });
        }

    by : (b : Bool) → (generation_at slots a.slot == a.generation) ≡ b → Changes slots (Cancel a) k (slot_at (if b then set slots a.slot ended else slots) k)
    by false e = inl refl
    by true e = ⊎_elim (λ same. inl same) (λ h. inr (inr (ends (eqb-true _ _ e) h.0 h.1))) (set_at slots a.slot ended k)

pub only_arms_begin : OnlyArmsBegin
only_arms_begin slots (Arm m) k = arm_changes slots m k (least_free slots) refl
only_arms_begin slots (Cancel a) k = cancel_changes slots a k
only_arms_begin slots (Claim j) k = inl refl

rises : (slots : List Slot) (call : Call) (k : ℕ) → generation_at slots k ≤ generation_at (after slots call) k
rises slots call k =
    ⊎_elim (λ same. let g = ap (λ (s : Slot). s.generation) same in omega (arith, g))
    (λ h.
    ⊎_elim (λ b. let g = ap (λ (s : Slot). s.generation) b.slot_is in omega (arith, g)) (λ e. let g = ap (λ (s : Slot). s.generation) e.slot_is in omega (arith, g)) h)
    (only_arms_begin slots call k)

rises_all : (slots : List Slot) (calls : List Call) (k : ℕ) → generation_at slots k ≤ generation_at (after_all slots calls) k
rises_all slots [] k = omega arith
rises_all slots (call ∷ calls) k =
    let one = rises slots call k in
    let rest = rises_all (after slots call) calls k in
    omega (arith, one, rest)

after-append : (slots : List Slot) (calls more : List Call) → after_all slots (calls ++ more) ≡ after_all (after_all slots calls) more
after-append slots [] more = refl
after-append slots (call ∷ calls) more = after-append (after slots call) calls more

pub never_fall : GenerationsNeverFall
never_fall calls more k = subst (λ (s : List Slot). generation_at (slots_after calls) k ≤ generation_at s k) (sym (after-append free_slots calls more)) (rises_all (slots_after calls) more k)

-- a slot's generation is past this one, or it is this one and not live
abbrev pub IsPast : ℕ → Slot → Type 0
IsPast g slot = (g < slot.generation) ⊎ ((g ≡ slot.generation) × (slot.live ≡ None))

past_step : (g : ℕ) (slots : List Slot) (call : Call) (k : ℕ) → IsPast g (slot_at slots k) → IsPast g (slot_at (after slots call) k)
past_step g slots call k p =
    ⊎_elim (λ same. subst (IsPast g) (sym same) p) (λ h. ⊎_elim (λ b. subst (IsPast g) (sym b.slot_is) (inl below)) (λ e. subst (IsPast g) (sym e.slot_is) ended) h)
    (only_arms_begin slots call k)
  where
    below : g < suc (generation_at slots k)
    below = ⊎_elim (λ lt. omega (arith, lt)) (λ h. let e = h.0 in omega (arith, e)) p

    ended : IsPast g (record { generation = generation_at slots k; live = None })
    ended = ⊎_elim (λ lt. inl lt) (λ h. inr (h.0, refl)) p

past_all : (g : ℕ) (slots : List Slot) (calls : List Call) (k : ℕ) → IsPast g (slot_at slots k) → IsPast g (slot_at (after_all slots calls) k)
past_all g slots [] k p = p
past_all g slots (call ∷ calls) k p = past_all g (after slots call) calls k (past_step g slots call k p)

-- what a claim shows is the slot's
claim_parts : (at g : ℕ) (o : Option Outgoing) (m : Outgoing) → under at o ≡ Some (g, m) → (at ≡ g) × (o ≡ Some m)
claim_parts at g None m e = absurd cc
claim_parts at g (Some n) m e = let p : (at, n) ≡ (g, m) = cc in (ap (λ (x : ℕ × Outgoing). x.0) p, ap (λ (x : ℕ × Outgoing). Some x.1) p)

some_same : (m n : Outgoing) → Some m ≡ Some n → m ≡ n
some_same m n e = cc

past_dead : (g : ℕ) (slots : List Slot) (k : ℕ) → IsPast g (slot_at slots k) → ¬ IsLive slots k g
past_dead g slots k p live =
    let parts = claim_parts (generation_at slots k) g (live_at slots k) live.0 live.1 in
    let same = parts.0 in
    let some = parts.1 in
    ⊎_elim (λ lt. absurd (omega (arith, same, lt))) (λ h. let none = h.1 in absurd cc) p

-- not live under a generation that it has come to
dead_past : (g : ℕ) (slots : List Slot) (k : ℕ) → g ≤ generation_at slots k → ¬ IsLive slots k g → IsPast g (slot_at slots k)
dead_past g slots k le dead = ⊎_elim (λ lt. inl lt) (λ e. inr (e, by e (live_at slots k) refl)) split
  where
    split : (g < generation_at slots k) ⊎ (g ≡ generation_at slots k)
    split = grind (arith, le)

    by : g ≡ generation_at slots k → (o : Option Outgoing) → live_at slots k ≡ o → live_at slots k ≡ None
    by e None is = is
    by e (Some m) is = absurd (dead (m, (λ t. under (sym e t) (is t))))

pub live_once : LiveOnce
live_once calls more yet k g live dead =
    let parts = claim_parts (generation_at (slots_after calls) k) g (live_at (slots_after calls) k) live.0 live.1 in
    let same = parts.0 in
    let up = never_fall calls more k in
    let past = dead_past g (slots_after (calls ++ more)) k (omega (arith, same, up)) dead in
    let slots = after-append free_slots (calls ++ more) yet in
    past_dead g (slots_after (calls ++ more ++ yet)) k (subst (λ (s : List Slot). IsPast g (slot_at s k)) (sym slots) (past_all g (slots_after (calls ++ more)) yet k past))

-- an arm gives its slot the generation that it answers
armed_generation : (slots : List Slot) (m : Outgoing) (a : Armed) → arm_answer slots m ≡ Ok a → generation_at (after slots (Arm m)) a.slot ≡ a.generation
armed_generation slots m a e = by (least_free slots) refl e
  where
    by : (o : Option ℕ) → least_free slots ≡ o → answer_in slots m o ≡ Ok a → generation_at (slots_in slots m o) a.slot ≡ a.generation
    by None is told = absurd cc
    by (Some j) is told =
        let there : record { slot = j; generation = suc (generation_at slots j) } ≡ a = cc in
        let new = get_or-set_same slots j (record { generation = suc (generation_at slots j); live = Some m }) new_slot (inside_least slots j is) in
        subst (λ (x : Armed). generation_at (armed_at slots j m) x.slot ≡ x.generation) there (ap (λ (s : Slot). s.generation) new)

-- what was armed has not come to a later generation
was_armed : (slots : List Slot) (calls : List Call) (a : Armed) (m : Outgoing) → WasArmed slots calls a m → a.generation ≤ generation_at (after_all slots calls) a.slot
was_armed slots calls a m w =
    let now = armed_generation (after_all slots w.earlier) m a w.answer in
    let up = rises_all (after (after_all slots w.earlier) (Arm m)) w.later a.slot in
    let all : after_all slots calls ≡ after_all (after (after_all slots w.earlier) (Arm m)) w.later = ap (after_all slots) w.calls_are ∙ after-append slots w.earlier (Arm m ∷ w.later) in
    subst (λ (s : List Slot). a.generation ≤ generation_at s a.slot) (sym all) (omega (arith, now, up))

cancel_past : (slots : List Slot) (a : Armed) → a.generation ≤ generation_at slots a.slot → IsPast a.generation (slot_at (cancelled slots a) a.slot)
cancel_past slots a le = by (generation_at slots a.slot == a.generation) refl
  where
    ended : Slot
    ended = record { generation = a.generation; live = None }

    here : generation_at slots a.slot ≡ a.generation → (a.slot < length slots) ⊎ (length slots ≤ a.slot) → IsPast a.generation (slot_at (set slots a.slot ended) a.slot)
    here g (inl lt) = subst (IsPast a.generation) (sym (get_or-set_same slots a.slot ended new_slot lt)) (inr (refl, refl))
    here g (inr past) =
        let none = get_or_past slots a.slot new_slot past in
        let same = ap (λ (l : List Slot). slot_at l a.slot) (set_past slots a.slot ended past) in
        subst (IsPast a.generation) (sym same) (inr (sym g, ap (λ (s : Slot). s.live) none))

    by : (b : Bool) → (generation_at slots a.slot == a.generation) ≡ b → IsPast a.generation (slot_at (if b then set slots a.slot ended else slots) a.slot)
    by false e = inl (grind (arith, nat_tests))
    by true e = here (eqb-true _ _ e) (grind arith)

pub cancels_end : CancelsEnd
cancels_end calls more a m w =
    let le = was_armed free_slots calls a m w in
    let past = past_all a.generation (after (slots_after calls) (Cancel a)) more a.slot (cancel_past (slots_after calls) a le) in
    let slots = after-append free_slots calls (Cancel a ∷ more) in
    past_dead a.generation (slots_after (calls ++ Cancel a ∷ more)) a.slot (subst (λ (s : List Slot). IsPast a.generation (slot_at s a.slot)) (sym slots) past)

-- a claim shows what it would have shown before, or what one of the calls armed
claimed : (slots : List Slot) (calls : List Call) (a : Armed) (m : Outgoing) → claim_of (after_all slots calls) a.slot ≡ Some (a.generation, m)
    → (claim_of slots a.slot ≡ Some (a.generation, m)) ⊎ WasArmed slots calls a m
claimed slots [] a m e = inl e
claimed slots (call ∷ calls) a m e =
    ⊎_elim (λ now. back now (only_arms_begin slots call a.slot))
    (λ w. inr (record { earlier = call ∷ w.earlier; later = w.later; calls_are = ap (λ (l : List Call). call ∷ l) w.calls_are; answer = w.answer }))
    (claimed (after slots call) calls a m e)
  where
    shows : Slot → Type 0
    shows s = under s.generation s.live ≡ Some (a.generation, m)

    begun : claim_of (after slots call) a.slot ≡ Some (a.generation, m) → Begins slots call a.slot (slot_at (after slots call) a.slot) → WasArmed slots (call ∷ calls) a m
    begun now b =
        let it : under (suc (generation_at slots a.slot)) (Some b.message) ≡ Some (a.generation, m) = subst shows b.slot_is now in
        let parts = claim_parts (suc (generation_at slots a.slot)) a.generation (Some b.message) m it in
        let g = parts.0 in
        let n = some_same b.message m parts.1 in
        record {
          earlier = [];
          later = calls;
          calls_are = (λ t. b.call_is t ∷ calls) ∙ (λ t. Arm (n t) ∷ calls);
          answer = (λ t. arm_answer slots (sym n t)) ∙ b.answer ∙ (λ t. Ok (record { slot = a.slot; generation = g t }));
        }

    back : claim_of (after slots call) a.slot ≡ Some (a.generation, m) → Changes slots call a.slot (slot_at (after slots call) a.slot)
        → (claim_of slots a.slot ≡ Some (a.generation, m)) ⊎ WasArmed slots (call ∷ calls) a m
    back now (inl same) = inl (subst shows same now)
    back now (inr (inl b)) = inr (begun now b)
    back now (inr (inr e)) = let it : under (generation_at slots a.slot) None ≡ Some (a.generation, m) = subst shows e.slot_is now in absurd cc

get_or-replicate_same : {A : Type 0} (n k : ℕ) (x : A) → get_or (replicate n x) k x ≡ x
get_or-replicate_same zero k x = refl
get_or-replicate_same (suc n) zero x = refl
get_or-replicate_same (suc n) (suc k) x = get_or-replicate_same n k x

slot-free_slots : (k : ℕ) → slot_at free_slots k ≡ new_slot
unfolding free_slots
slot-free_slots k = get_or-replicate_same slot_count k new_slot

pub claims_are_armed : ClaimsAreArmed
claims_are_armed calls a m e =
    ⊎_elim
    (λ now.
    let it : under 0 None ≡ Some (a.generation, m) = subst (λ (s : Slot). under s.generation s.live ≡ Some (a.generation, m)) (slot-free_slots a.slot) now in
    absurd cc)
    (λ w. w) (claimed free_slots calls a m e)

-- an arm that answers with a later generation comes no sooner
no_later : (slots : List Slot) (calls : List Call) (a : Armed) (m n : Outgoing) → arm_answer slots m ≡ Ok a → ¬ (arm_answer (after_all (after slots (Arm m)) calls) n ≡ Ok a)
no_later slots calls a m n first second =
    let g = armed_generation slots m a first in
    let up = rises_all (after slots (Arm m)) calls a.slot in
    by (least_free later) refl second (omega (arith, g, up))
  where
    later : List Slot
    later = after_all (after slots (Arm m)) calls

    by : (o : Option ℕ) → least_free later ≡ o → answer_in later n o ≡ Ok a → a.generation ≤ generation_at later a.slot → ⊥
    by None is told le = cc
    by (Some j) is told le =
        let there : record { slot = j; generation = suc (generation_at later j) } ≡ a = cc in
        let le' : suc (generation_at later j) ≤ generation_at later j = subst (λ (x : Armed). x.generation ≤ generation_at later x.slot) (sym there) le in
        omega (arith, le')

cons_parts : (c d : Call) (cs ds : List Call) → c ∷ cs ≡ d ∷ ds → (c ≡ d) × (cs ≡ ds)
cons_parts c d cs ds e = (cc, cc)

arm_same : (m n : Outgoing) → Arm m ≡ Arm n → m ≡ n
arm_same m n e = cc

once : (slots : List Slot) (before before' later later' : List Call) (a : Armed) (m n : Outgoing) → before ++ Arm m ∷ later ≡ before' ++ Arm n ∷ later'
    → arm_answer (after_all slots before) m ≡ Ok a → arm_answer (after_all slots before') n ≡ Ok a → (before ≡ before') × (m ≡ n)
once slots [] [] later later' a m n e x y = let parts = cons_parts (Arm m) (Arm n) later later' e in (refl, arm_same m n parts.0)
once slots [] (c ∷ cs) later later' a m n e x y =
    let parts = cons_parts (Arm m) c later (cs ++ Arm n ∷ later') e in
    absurd (no_later slots cs a m n x (subst (λ (q : Call). arm_answer (after_all (after slots q) cs) n ≡ Ok a) (sym parts.0) y))
once slots (c ∷ cs) [] later later' a m n e x y =
    let parts = cons_parts c (Arm n) (cs ++ Arm m ∷ later) later' e in
    absurd (no_later slots cs a n m y (subst (λ (q : Call). arm_answer (after_all (after slots q) cs) m ≡ Ok a) parts.0 x))
once slots (c ∷ cs) (d ∷ ds) later later' a m n e x y =
    let parts = cons_parts c d (cs ++ Arm m ∷ later) (ds ++ Arm n ∷ later') e in
    let rest = once (after slots c) cs ds later later' a m n parts.1 x (subst (λ (q : Call). arm_answer (after_all (after slots q) ds) n ≡ Ok a) (sym parts.0) y) in
    ((λ t. parts.0 t ∷ rest.0 t), rest.1)

pub armed_once : ArmedOnce
armed_once calls a m n x y = once free_slots x.earlier y.earlier x.later y.later a m n (sym x.calls_are ∙ y.calls_are) x.answer y.answer

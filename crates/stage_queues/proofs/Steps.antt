-- Each kind of step keeps the lane's rule.
use Rattle.std.proofs.Common.{◌≡◌, ◌≢◌, ◌⊎◌, ℕ, zero, suc, ◌≤◌, ◌<◌, Bool, true, false, cond, List, [], ◌∷◌, ◌++◌, length, set, refl, sym, ap, ◌∙◌, subst, inl, inr, ⊎_elim, arith, append_assoc, length-append, Option, Some, None}
use Rattle.std.specs.Prelude.{◌==◌, IfSome}
use Rattle.std.specs.List.{All}
use Rattle.std.proofs.lemmas.Bool.Decides.{eqb_tells}
use Rattle.std.proofs.lemmas.List.Elements.{All-nil, All-cons, All-head, All-append, All-weaker}
use Rattle.std.proofs.lemmas.Option.{IfSome_then}
use mathlib.Core.Option.{some, some-ne-none, some-injective}
use lib.ListN.{get_elem?}
use Rattle.atomic_table.specs.Seated.{TableId}
use Rattle.crossbeam_queue.specs.Fifo.{Pushes, Pops, Forks, Merges, Learns}
use Rattle.crossbeam_queue.proofs.Lists.{at_set}
use Rattle.stage_queues.specs.declared.side.Log.{Log}
use Rattle.stage_queues.specs.declared.side.Side.{Side}
use Rattle.stage_queues.specs.declared.taken.Taken.{Taken}
use Rattle.stage_queues.specs.declared.taken.Taken.TheVariants.{Item, End}
use Rattle.stage_queues.specs.Lanes.{Element, from_producer, sent_of, log_after, sent, new_log, or_else, ends, Lane, inlet_pass, outlet_pass}
use Rattle.stage_queues.specs.Rule.{LaneState, IsLogOf, IsTakenOf, IsMadeOf, Knows, IsKept, Kept, with_at, added, first_side, opened, idle, inlet_side, consumer_side, one_more, next_inlet, with_logs, after_element, took, Took, both_sides, Told, Agreed, seen}
use Rattle.stage_queues.proofs.Elements.{with_at-cases, with_at-same, with_at-other, from_producer-append, from_producer-mine, from_producer-other, nothing_follows, sent_of-added}

-- which pass has what pass s had, once `other` is joined into `pass`
abbrev moved : ℕ → ℕ → ℕ → ℕ
moved other pass s = cond (s == other) pass s

moved-here : (other pass s : ℕ) → s ≡ other → moved other pass s ≡ pass
moved-here other pass s e = elim (eqb_tells s other) [
  | inl h ↦ subst (λ b. cond b pass s ≡ pass) (sym h.0) refl
  | inr h ↦ absurd (h.1 e)
]

moved-else : (other pass s : ℕ) → s ≢ other → moved other pass s ≡ s
moved-else other pass s ne = elim (eqb_tells s other) [
  | inl h ↦ absurd (ne h.1)
  | inr h ↦ subst (λ b. cond b pass s ≡ s) (sym h.0) refl
]

below_or_not : (a b : ℕ) → (a < b) ⊎ (b ≤ a)
below_or_not a b = grind arith

true_or_false : (b : Bool) → (b ≡ true) ⊎ (b ≡ false)
true_or_false true = inl refl
true_or_false false = inr refl

not_cons : {X : Type 0} (x : X) (xs : List X) → x ∷ xs ≡ [] → ⊥
not_cons x xs e = absurd cc

cons_in : {X : Type 0} (x : X) (a b : List X) → a ++ x ∷ b ≡ [] → ⊥
cons_in x [] b e = not_cons x b e
cons_in x (y ∷ a) b e = not_cons y (a ++ x ∷ b) e

at_new : {X : Type 0} (l : List X) (a u : X) (j : ℕ) → get_elem? (l ++ a ∷ []) j ≡ some u → (get_elem? l j ≡ some u) ⊎ ((j ≡ length l) × (a ≡ u))
at_new [] a u zero e = inr (refl, some-injective a u e)
at_new [] a u (suc j) e = absurd (some-ne-none u (sym e))
at_new (x ∷ xs) a u zero e = inl e
at_new (x ∷ xs) a u (suc j) e = elim (at_new xs a u j e) [
  | inl h ↦ inl h
  | inr h ↦ inr (ap suc h.0, h.1)
]

append-none : {X : Type 0} (a b : List X) → b ≡ [] → a ++ b ≡ a
append-none [] b e = e
append-none (x ∷ a) b e = ap (λ l. x ∷ l) (append-none a b e)

if_some-or_else : {X : Type 0} (P : X → Type 0) (a b : Option X) → IfSome a P → IfSome b P → IfSome (or_else a b) P
if_some-or_else P (Some x) b h k = h
if_some-or_else P None b h k = k

module _ {T : Type 0} where
  -- what holds of each view after a change of one, and after one more came
  all_set : (F : ℕ → Side T → Type 0) (views : List (Side T)) (pass : ℕ) (w : Side T) → F pass w → ((j : ℕ) (u : Side T) → j ≢ pass → get_elem? views j ≡ some u → F j u) → (j : ℕ) (u : Side T) → get_elem? (set views pass w) j ≡ some u → F j u
  all_set F views pass w mine others j u e = ⊎_elim
      (λ (x : (j ≡ pass) × (w ≡ u)). subst (λ (y : ℕ × Side T). F y.0 y.1) (λ i. (sym x.0 i, x.1 i)) mine)
      (λ (x : (j ≢ pass) × (get_elem? views j ≡ some u)). others j u x.0 x.1)
      (at_set views pass j w u e)

  all_new : (F : ℕ → Side T → Type 0) (views : List (Side T)) (r : Side T) → F (length views) r → ((j : ℕ) (u : Side T) → get_elem? views j ≡ some u → F j u) → (j : ℕ) (u : Side T) → get_elem? (views ++ r ∷ []) j ≡ some u → F j u
  all_new F views r new others j u e = ⊎_elim
      (λ (x : get_elem? views j ≡ some u). others j u x)
      (λ (x : (j ≡ length views) × (r ≡ u)). subst (λ (y : ℕ × Side T). F y.0 y.1) (λ i. (sym x.0 i, x.1 i)) new)
      (at_new views r u j e)

  knows_idle : (b : LaneState T) (j : ℕ) → Knows b j idle
  knows_idle b j = record { logs = All-nil _; taken = tt; made = tt }

  one_log : (b : LaneState T) (j c n : ℕ) (log : Log T) → IsLogOf b j c n log → All (IsLogOf b j c n) (log ∷ [])
  one_log b j c n log h = All-cons (IsLogOf b j c n) log [] h (All-nil _)

  -- the list of producer q with one element more at its end
  from_producer-element : (q : ℕ) (taken elements : List (Element T)) (element : Element T) → from_producer q (taken ++ (elements ++ element ∷ [])) ≡ from_producer q (taken ++ elements) ++ from_producer q (element ∷ [])
  from_producer-element q taken elements element = ap (from_producer q) (sym (append_assoc taken elements (element ∷ []))) ∙ from_producer-append q (taken ++ elements) (element ∷ [])

  -- the state after an element of producer p, and what the passes know of it
  abbrev with_element : LaneState T → Log T → Taken T → LaneState T
  with_element b log t = record b { log = with_at b.log log.number (added t (log.put, log.ended)) }

  after_own : (b : LaneState T) (pass c n : ℕ) (o : Option ℕ) (log : Log T) (t : Taken T) → IsLogOf b pass c n log → IfSome o (IsMadeOf b pass) → Knows (with_element b log t) pass (with_logs (inlet_side c n o log) (log_after t))
  after_own b pass c n o log (Item x) l m = record {
    logs = one_log _ pass c n (log_after (Item x) log) (record { made = l.made; seat = l.seat; same = with_at-same b.log log.number (added (Item x) (log.put, log.ended)); capacity = l.capacity; producers = l.producers });
    taken = tt;
    made = IfSome_then o m (λ t i. record { consumer = i.consumer; same = i.same });
  }
  after_own b pass c n o log End l m = record {
    logs = one_log _ pass c n (log_after End log) (record { made = l.made; seat = l.seat; same = with_at-same b.log log.number (added End (log.put, log.ended)); capacity = l.capacity; producers = l.producers });
    taken = tt;
    made = IfSome_then o m (λ t i. record { consumer = i.consumer; same = i.same });
  }

  after_other : (b : LaneState T) (log : Log T) (t : Taken T) (j : ℕ) (u : Side T) → b.seat log.number ≢ j → Knows b j u → Knows (with_element b log t) j u
  after_other b log t j u apart h = record {
    logs = All-weaker (IsLogOf b j u.capacity u.producers) (IsLogOf (with_element b log t) j u.capacity u.producers)
        (λ m i. record { made = i.made; seat = i.seat; same = with_at-other b.log log.number (added t (log.put, log.ended)) m.number (λ e. apart (ap b.seat (sym e) ∙ i.seat)) ∙ i.same; capacity = i.capacity; producers = i.producers })
        u.logs h.logs;
    taken = IfSome_then u.taken h.taken (λ t i. record { consumer = i.consumer; same = i.same; capacity = i.capacity; producers = i.producers });
    made = IfSome_then u.made h.made (λ t i. record { consumer = i.consumer; same = i.same });
  }

  -- kind 1: a push
  pub pushes : (c n : ℕ) (o : Option ℕ) (log : Log T) (element : Element T) (most pass : ℕ) → most ≡ c → element.0 ≡ log.number → log.ended ≡ false
      → Pushes Kept most pass (inlet_side c n o log) element (λ w. w ≡ after_element (inlet_side c n o log) element)
  pushes c n o log element most pass same number going elements views room kept at =
      let b = kept.0 in
      let k = kept.1 in
      let mine = k.known pass (inlet_side c n o log) at in
      let l : IsLogOf b pass c n log = All-head (IsLogOf b pass c n) log [] mine.logs in
      let p = log.number in
      let x : List T × Bool = added element.1 (log.put, log.ended) in
      let b' = with_element b log element.1 in
      let w : Side T = after_element (inlet_side c n o log) element in (
        w,
        (
          b',
          record {
            fits = (let r = room in let s = same in let t = l.capacity in omega (arith, length-append elements (element ∷ [])));
            made = k.made;
            order = λ q. with_at-cases (λ (y : List T × Bool). from_producer q (b.taken ++ (elements ++ element ∷ [])) ≡ sent_of y.0 y.1) b.log p x q
                (λ e. from_producer-element q b.taken elements element ∙ ap (λ l. from_producer q (b.taken ++ elements) ++ l) (from_producer-mine q element (e ∙ sym number))
                ∙ ap (λ l. l ++ element.1 ∷ []) (k.order q ∙ ap (λ (y : List T × Bool). sent_of y.0 y.1) (ap b.log e ∙ l.same))
                ∙ sym (sent_of-added element.1 log.put log.ended going))
                (λ ne. from_producer-element q b.taken elements element ∙ append-none (from_producer q (b.taken ++ elements)) (from_producer q (element ∷ [])) (from_producer-other q element (λ e. ne (e ∙ number))) ∙ k.order q);
            later = λ q h. with_at-other b.log p x q (λ e. let m = l.made in absurd (omega arith)) ∙ k.later q h;
            known = all_set (Knows b') views pass w (after_own b pass c n o log element.1 l mine.made) (λ j u apart e. after_other b log element.1 j u (λ s. apart (sym s ∙ l.seat)) (k.known j u e));
          },
        ),
        refl,
      )

  -- what a pass that isn't the consumer's knows goes on after a pop
  after_pop : (b : LaneState T) (element : Element T) (j : ℕ) (u : Side T) → b.consumer ≢ j → Knows b j u → Knows (record b { taken = b.taken ++ element ∷ [] }) j u
  after_pop b element j u apart h = record {
    logs = All-weaker (IsLogOf b j u.capacity u.producers) (IsLogOf (record b { taken = b.taken ++ element ∷ [] }) j u.capacity u.producers)
        (λ m i. record { made = i.made; seat = i.seat; same = i.same; capacity = i.capacity; producers = i.producers }) u.logs h.logs;
    taken = IfSome_then u.taken h.taken (λ t i. absurd (apart i.consumer));
    made = IfSome_then u.made h.made (λ t i. record { consumer = i.consumer; same = i.same });
  }

  -- kind 3: a pop
  pub pops : (c n : ℕ) (o : Option ℕ) (taken : List (Element T)) (pass : ℕ) → Pops Kept pass (consumer_side c n o taken) (λ element w. Took (consumer_side c n o taken) element w)
  pops c n o taken pass element elements views kept at =
      let b = kept.0 in
      let k = kept.1 in
      let v : Side T = consumer_side c n o taken in
      let mine = k.known pass v at in
      let t : IsTakenOf b pass c n taken = mine.taken in
      let b' : LaneState T = record b { taken = b.taken ++ element ∷ [] } in
      let all : from_producer element.0 taken ++ from_producer element.0 (element ∷ elements) ≡ sent_of (b.log element.0).0 (b.log element.0).1 = sym (from_producer-append element.0 taken (element ∷ elements)) ∙ ap (λ l. from_producer element.0 (l ++ element ∷ elements)) (sym t.same) ∙ k.order element.0 in
      let front : from_producer element.0 (element ∷ elements) ≡ element.1 ∷ from_producer element.0 elements = from_producer-append element.0 (element ∷ []) elements ∙ ap (λ l. l ++ from_producer element.0 elements) (from_producer-mine element.0 element refl) in (
        took v element,
        (
          b',
          record {
            fits = (let f = k.fits in omega arith);
            made = k.made;
            order = λ q. ap (from_producer q) (append_assoc b.taken (element ∷ []) elements) ∙ k.order q;
            later = k.later;
            known = all_set (Knows b') views pass (took v element)
                (record {
                  logs = All-nil _;
                  taken = record { consumer = t.consumer; same = ap (λ l. l ++ element ∷ []) t.same; capacity = t.capacity; producers = t.producers };
                  made = IfSome_then o mine.made (λ t i. record { consumer = i.consumer; same = i.same });
                })
                (λ j u apart e. after_pop b element j u (λ r. apart (sym r ∙ t.consumer)) (k.known j u e));
          },
        ),
        record {
          after = refl;
          number = ⊎_elim (λ lt. lt)
              (λ (le : n ≤ element.0). absurd (let p = t.producers in let m = k.made in
              cons_in element.1 (from_producer element.0 taken) (from_producer element.0 elements) (ap (λ l. from_producer element.0 taken ++ l) (sym front) ∙ all ∙ ap (λ (y : List T × Bool). sent_of y.0 y.1) (k.later element.0 (omega arith)))))
              (below_or_not element.0 n);
          open_yet = ⊎_elim
              (λ yes. absurd (not_cons element.1 (from_producer element.0 elements) (sym front ∙ nothing_follows (b.log element.0).0 (b.log element.0).1 (from_producer element.0 taken) (from_producer element.0 (element ∷ elements)) yes all)))
              (λ no. no)
              (true_or_false (ends element.0 taken));
        },
      )

  -- there are no elements but of the producers
  others : (b : LaneState T) (elements : List (Element T)) (views : List (Side T)) → IsKept b elements views → (p : ℕ) → b.producers ≤ p → from_producer p (b.taken ++ elements) ≡ []
  others b elements views k p le = k.order p ∙ ap (λ (y : List T × Bool). sent_of y.0 y.1) (k.later p (let m = k.made in omega arith))

  order_of : (b : LaneState T) (elements : List (Element T)) (views : List (Side T)) (pass c n : ℕ) → IsKept b elements views → (log : Log T) → IsLogOf b pass c n log → from_producer log.number (b.taken ++ elements) ≡ sent log
  order_of b elements views pass c n k log l = k.order log.number ∙ ap (λ (y : List T × Bool). sent_of y.0 y.1) l.same

  -- kinds 2 and 5: what a producer learns where its push is refused, or where it reads the length
  pub tells : (c n : ℕ) (o : Option ℕ) (log : Log T) (pass : ℕ) → Learns Kept pass (inlet_side c n o log) (Told (inlet_side c n o log))
  tells c n o log pass elements views kept at =
      let b = kept.0 in
      let k = kept.1 in
      let mine = k.known pass (inlet_side c n o log) at in
      let l : IsLogOf b pass c n log = All-head (IsLogOf b pass c n) log [] mine.logs in (
        b.taken,
        record {
          fits = (let f = k.fits in let e = l.capacity in omega arith);
          order = All-cons (λ m. from_producer m.number (b.taken ++ elements) ≡ sent m) log [] (order_of b elements views pass c n k log l) (All-nil _);
          others = λ p le. others b elements views k p (let e = l.producers in omega arith);
        },
      )

  -- kind 4, and what a pass with the consumer's side learns after a join
  pub agrees : (v : Side T) (pass : ℕ) → Learns Kept pass v (Agreed v)
  agrees v pass elements views kept at =
      let b = kept.0 in
      let k = kept.1 in
      let mine = k.known pass v at in
      IfSome_then v.taken mine.taken (λ taken i. record {
        fits = (let f = k.fits in let e = i.capacity in omega arith);
        order = All-weaker (IsLogOf b pass v.capacity v.producers) (λ m. from_producer m.number (taken ++ elements) ≡ sent m)
            (λ m l. ap (λ t. from_producer m.number (t ++ elements)) (sym i.same) ∙ order_of b elements views pass v.capacity v.producers k m l) v.logs mine.logs;
        others = λ p le. ap (λ t. from_producer p (t ++ elements)) (sym i.same) ∙ others b elements views k p (let e = i.producers in omega arith);
      })

  pub begins : Kept {T = T} [] (first_side ∷ [])
  begins = (
    record { capacity = 0; producers = 0; made = 0; consumer = 0; seat = λ p. 0; log = λ p. ([], false); taken = [] },
    record {
      fits = omega arith;
      made = omega arith;
      order = λ p. refl;
      later = λ p le. refl;
      known = only;
    },
  ) where
    only : (j : ℕ) (u : Side T) → get_elem? (first_side ∷ []) j ≡ some u → Knows (record { capacity = 0; producers = 0; made = 0; consumer = 0; seat = λ p. 0; log = λ p. ([], false); taken = [] }) j u
    only zero u e = subst (Knows _ 0) (some-injective first_side u e) (record {
      logs = All-nil _;
      taken = record { consumer = refl; same = refl; capacity = refl; producers = refl };
      made = record { consumer = refl; same = refl };
    })
    only (suc j) u e = absurd (some-ne-none u (sym e))

  -- kind 6: the splits. A producer's pass keeps one number more of its own
  pub notes : (c n : ℕ) (o : Option ℕ) (log log' : Log T) (pass : ℕ) → log'.number ≡ log.number → log'.put ≡ log.put → log'.ended ≡ log.ended → Forks Kept pass (inlet_side c n o log) (inlet_side c n o log') idle
  notes c n o log log' pass number put ended elements views kept at =
      let b = kept.0 in
      let k = kept.1 in
      let mine = k.known pass (inlet_side c n o log) at in
      let l : IsLogOf b pass c n log = All-head (IsLogOf b pass c n) log [] mine.logs in
      let l' : IsLogOf b pass c n log' = record {
        made = subst (λ p. p < b.made) (sym number) l.made;
        seat = ap b.seat number ∙ l.seat;
        same = ap b.log number ∙ l.same ∙ λ i. (sym put i, sym ended i);
        capacity = l.capacity;
        producers = l.producers;
      } in (
        b,
        record {
          fits = k.fits;
          made = k.made;
          order = k.order;
          later = k.later;
          known = all_new (Knows b) (set views pass (inlet_side c n o log')) idle (knows_idle b (length (set views pass (inlet_side c n o log'))))
              (all_set (Knows b) views pass (inlet_side c n o log') (record { logs = one_log b pass c n log' l'; taken = tt; made = mine.made }) (λ j u apart e. k.known j u e));
        },
      )

  -- the lane opens
  after_opening : (b : LaneState T) (c n : ℕ) (j : ℕ) (u : Side T) → b.made ≡ 0 → b.consumer ≢ j → Knows b j u → Knows (record b { capacity = c; producers = n }) j u
  after_opening b c n j u none apart h = record {
    logs = All-weaker (IsLogOf b j u.capacity u.producers) (IsLogOf (record b { capacity = c; producers = n }) j u.capacity u.producers)
        (λ m i. absurd (let lt = i.made in omega arith)) u.logs h.logs;
    taken = IfSome_then u.taken h.taken (λ t i. absurd (apart i.consumer));
    made = IfSome_then u.made h.made (λ t i. record { consumer = i.consumer; same = i.same });
  }

  pub opens : (c n pass : ℕ) → Forks (Kept {T = T}) pass first_side (opened c n first_side) idle
  opens c n pass elements views kept at =
      let b = kept.0 in
      let k = kept.1 in
      let mine = k.known pass first_side at in
      let t : IsTakenOf b pass 0 0 [] = mine.taken in
      let m : IsMadeOf b pass 0 = mine.made in
      let b' : LaneState T = record b { capacity = c; producers = n } in
      let w : Side T = opened c n first_side in (
        b',
        record {
          fits = (let f = k.fits in let e = t.capacity in omega arith);
          made = (let e = m.same in omega arith);
          order = k.order;
          later = k.later;
          known = all_new (Knows b') (set views pass w) idle (knows_idle b' (length (set views pass w)))
              (all_set (Knows b') views pass w
              (record {
                logs = All-nil _;
                taken = record { consumer = t.consumer; same = t.same; capacity = refl; producers = refl };
                made = record { consumer = m.consumer; same = m.same };
              })
              (λ j u apart e. after_opening b c n j u m.same (λ r. apart (sym r ∙ t.consumer)) (k.known j u e)));
        },
      )

  -- the next producer
  abbrev with_seat : LaneState T → ℕ → LaneState T
  with_seat b pass = record b { made = suc b.made; seat = with_at b.seat b.made pass }

  after_making : (b : LaneState T) (pass j : ℕ) (u : Side T) → b.consumer ≢ j → Knows b j u → Knows (with_seat b pass) j u
  after_making b pass j u apart h = record {
    logs = All-weaker (IsLogOf b j u.capacity u.producers) (IsLogOf (with_seat b pass) j u.capacity u.producers)
        (λ m i. record {
          made = (let lt = i.made in omega arith);
          seat = with_at-other b.seat b.made pass m.number (λ e. let lt = i.made in absurd (omega arith)) ∙ i.seat;
          same = i.same;
          capacity = i.capacity;
          producers = i.producers;
        }) u.logs h.logs;
    taken = IfSome_then u.taken h.taken (λ t i. absurd (apart i.consumer));
    made = IfSome_then u.made h.made (λ t i. absurd (apart i.consumer));
  }

  pub makes : (c n m pass : ℕ) → m < n → Forks (Kept {T = T}) pass (consumer_side c n (Some m) []) (one_more (consumer_side c n (Some m) [])) (next_inlet (consumer_side c n (Some m) []))
  makes c n m pass lt elements views kept at =
      let b = kept.0 in
      let k = kept.1 in
      let mine = k.known pass (consumer_side c n (Some m) []) at in
      let t : IsTakenOf b pass c n [] = mine.taken in
      let made : IsMadeOf b pass m = mine.made in
      let w : Side T = one_more (consumer_side c n (Some m) []) in
      let new : ℕ = length (set views pass w) in
      let b' = with_seat b new in
      let log : IsLogOf b' new c n (new_log m) = record {
        made = (let e = made.same in omega arith);
        seat = ap (with_at b.seat b.made new) (sym made.same) ∙ with_at-same b.seat b.made new;
        same = k.later m (let e = made.same in omega arith);
        capacity = t.capacity;
        producers = t.producers;
      } in (
        b',
        record {
          fits = k.fits;
          made = (let e = made.same in let p = t.producers in omega arith);
          order = k.order;
          later = λ p le. k.later p (omega arith);
          known = all_new (Knows b') (set views pass w) (inlet_side c n None (new_log m)) (record { logs = one_log b' new c n (new_log m) log; taken = tt; made = tt })
              (all_set (Knows b') views pass w
              (record {
                logs = All-nil _;
                taken = record { consumer = t.consumer; same = t.same; capacity = t.capacity; producers = t.producers };
                made = record { consumer = made.consumer; same = ap suc made.same };
              })
              (λ j u apart e. after_making b new j u (λ r. apart (sym r ∙ t.consumer)) (k.known j u e)));
        },
      )

  -- kind 7: a join
  abbrev with_moved : LaneState T → ℕ → ℕ → LaneState T
  with_moved b other pass = record b { consumer = moved other pass b.consumer; seat = λ p. moved other pass (b.seat p) }

  -- what the pass j knew, the pass i knows, where j's things move to i
  after_join : (b : LaneState T) (other pass j i : ℕ) (most count : ℕ) (u : Side T) → most ≡ u.capacity → count ≡ u.producers → ((s : ℕ) → s ≡ j → moved other pass s ≡ i) → Knows b j u
      → All (IsLogOf (with_moved b other pass) i most count) u.logs × IfSome u.taken (IsTakenOf (with_moved b other pass) i most count) × IfSome u.made (IsMadeOf (with_moved b other pass) i)
  after_join b other pass j i most count u c n goes h = (
    All-weaker (IsLogOf b j u.capacity u.producers) (IsLogOf (with_moved b other pass) i most count)
        (λ m l. record { made = l.made; seat = goes (b.seat m.number) l.seat; same = l.same; capacity = c ∙ l.capacity; producers = n ∙ l.producers }) u.logs h.logs,
    IfSome_then u.taken h.taken (λ t r. record { consumer = goes b.consumer r.consumer; same = r.same; capacity = c ∙ r.capacity; producers = n ∙ r.producers }),
    IfSome_then u.made h.made (λ t r. record { consumer = goes b.consumer r.consumer; same = r.same }),
  )

  pub merges : (v u : Side T) (pass other : ℕ) → u.capacity ≡ v.capacity → u.producers ≡ v.producers → Merges Kept pass v other u (both_sides v u) idle
  merges v u pass other c n elements views kept at apart at' =
      let b = kept.0 in
      let k = kept.1 in
      let w = both_sides v u in
      let was : get_elem? views other ≡ some u = ⊎_elim (λ x. absurd (apart x.0)) (λ x. x.1) (at_set views pass other w u at') in
      let b' = with_moved b other pass in
      let mine = after_join b other pass pass pass v.capacity v.producers v refl refl (λ s e. moved-else other pass s (λ o. apart (sym o ∙ e)) ∙ e) (k.known pass v at) in
      let theirs = after_join b other pass other pass v.capacity v.producers u (sym c) (sym n) (λ s e. moved-here other pass s e) (k.known other u was) in (
        b',
        record {
          fits = k.fits;
          made = k.made;
          order = k.order;
          later = k.later;
          known = all_set (Knows b') (set views pass w) other idle (knows_idle b' other)
              (λ j x ne e. all_set (λ j x. j ≢ other → Knows b' j x) views pass w
              (λ _. record {
                logs = All-append (IsLogOf b' pass v.capacity v.producers) v.logs u.logs mine.0 theirs.0;
                taken = if_some-or_else (IsTakenOf b' pass v.capacity v.producers) v.taken u.taken mine.1 theirs.1;
                made = mine.2;
              })
              (λ j x _ e ne. let r = after_join b other pass j j x.capacity x.producers x refl refl (λ s i. moved-else other pass s (λ o. ne (sym i ∙ o)) ∙ i) (k.known j x e) in record { logs = r.0; taken = r.1; made = r.2 })
              j x e ne);
        },
      )

  -- the same, of views as callers see them
  pub inlet_shape : (table : TableId) (v : Side T) (lane : Lane) (log : Log T) → seen table v ≡ inlet_pass lane log → v ≡ inlet_side v.capacity v.producers v.made log
  inlet_shape table v lane log e = λ i. record { capacity = v.capacity; producers = v.producers; made = v.made; logs = (e i).logs; taken = (e i).taken }

  pub outlet_shape : (table : TableId) (v : Side T) (lane : Lane) (taken : List (Element T)) → seen table v ≡ outlet_pass lane taken → v ≡ consumer_side v.capacity v.producers v.made taken
  outlet_shape table v lane taken e = λ i. record { capacity = v.capacity; producers = v.producers; made = v.made; logs = (e i).logs; taken = (e i).taken }

  pub pushes_as : (v : Side T) (log : Log T) (element : Element T) (most pass : ℕ) → v ≡ inlet_side v.capacity v.producers v.made log → most ≡ v.capacity → element.0 ≡ log.number → log.ended ≡ false
      → Pushes Kept most pass v element (λ w. w ≡ after_element v element)
  pushes_as v log element most pass is same number going = subst (λ (x : Side T). Pushes Kept most pass x element (λ w. w ≡ after_element x element)) (sym is) (pushes v.capacity v.producers v.made log element most pass same number going)

  pub tells_as : (v : Side T) (log : Log T) (pass : ℕ) → v ≡ inlet_side v.capacity v.producers v.made log → Learns Kept pass v (Told v)
  tells_as v log pass is = subst (λ (x : Side T). Learns Kept pass x (Told x)) (sym is) (tells v.capacity v.producers v.made log pass)

  pub notes_as : (v : Side T) (log : Log T) (f : Log T → Log T) (pass : ℕ) → v ≡ inlet_side v.capacity v.producers v.made log → (f log).number ≡ log.number → (f log).put ≡ log.put → (f log).ended ≡ log.ended
      → Forks Kept pass v (with_logs v f) idle
  notes_as v log f pass is number put ended = subst (λ (x : Side T). Forks Kept pass x (with_logs x f) idle) (sym is) (notes v.capacity v.producers v.made log (f log) pass number put ended)

  pub pops_as : (v : Side T) (taken : List (Element T)) (pass : ℕ) → v ≡ consumer_side v.capacity v.producers v.made taken → Pops Kept pass v (λ element w. Took v element w)
  pops_as v taken pass is = subst (λ (x : Side T). Pops Kept pass x (λ element w. Took x element w)) (sym is) (pops v.capacity v.producers v.made taken pass)

  pub makes_as : (v : Side T) (c n m pass : ℕ) → v ≡ consumer_side c n (Some m) [] → m < n → Forks Kept pass v (one_more v) (next_inlet v)
  makes_as v c n m pass is lt = subst (λ (x : Side T). Forks Kept pass x (one_more x) (next_inlet x)) (sym is) (makes c n m pass lt)

  pub opens_as : (v : Side T) (c n pass : ℕ) → v ≡ first_side → Forks Kept pass v (opened c n v) idle
  opens_as v c n pass is = subst (λ (x : Side T). Forks Kept pass x (opened c n x) idle) (sym is) (opens c n pass)

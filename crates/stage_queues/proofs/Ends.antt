-- What a step of the queue says of a pass as callers see it.
use Rattle.std.proofs.Common.{◌≡◌, ℕ, ◌<◌, false, List, [], ◌∷◌, ◌++◌, length, refl, ap, ◌∙◌, subst, arith, Option, Some, None}
use Rattle.std.specs.Prelude.{IfSome, MatchOption}
use Rattle.atomic_table.specs.Seated.{TableId}
use Rattle.crossbeam_queue.specs.Fifo.{Held}
use Rattle.stage_queues.specs.declared.side.Log.{Log}
use Rattle.stage_queues.specs.declared.side.Side.{Side}
use Rattle.stage_queues.specs.Lanes.{Element, Lane, PassSeen, SidesAgree, EmptyThen, HeldThen, ends, inlet_pass, outlet_pass, log_after, taken_of}
use Rattle.stage_queues.specs.Rule.{Agreed, Told, Took, after_element, seen, took}
use Rattle.stage_queues.proofs.Steps.{inlet_shape, outlet_shape}

module _ {T : Type 0} where
  pub after_push : (t t' : TableId) (v w : Side T) (p : PassSeen T) (log : Log T) (element : Element T) → t' ≡ t → seen t v ≡ p → p ≡ inlet_pass p.lane log → w ≡ after_element v element → seen t' w ≡ inlet_pass p.lane (log_after element.1 log)
  after_push t t' v w p log element te e is we =
      (λ i. seen (te i) (we i))
      ∙ ap (λ (x : Side T). seen t (after_element x element)) (inlet_shape t v p.lane log (e ∙ is))
      ∙ ap (λ (l : Lane). inlet_pass l (log_after element.1 log)) (ap (λ (q : PassSeen T). q.lane) e)

  pub after_nothing : (t t' : TableId) (v w : Side T) (p : PassSeen T) → t' ≡ t → seen t v ≡ p → w ≡ v → seen t' w ≡ p
  after_nothing t t' v w p te e we = (λ i. seen (te i) (we i)) ∙ e

  pub held_then : (t : TableId) (v : Side T) (p : PassSeen T) (log : Log T) (n m : ℕ) → seen t v ≡ p → p ≡ inlet_pass p.lane log → n ≡ m → Held n (Told v) → HeldThen p.lane log m
  held_then t v p log n m e is same h = (h.2.0, h.0, h.1 ∙ same, subst (λ (q : PassSeen T). SidesAgree q.lane.capacity q.lane.producers q.logs h.2.0 h.0) (e ∙ is) h.2.1)

  no_items : (items : List (Element T)) → length items ≡ 0 → items ≡ []
  no_items [] e = refl
  no_items (x ∷ items) e = absurd (omega arith)

  after_took : (t t' : TableId) (v w : Side T) (p : PassSeen T) (element : Element T) → t' ≡ t → seen t v ≡ p → p ≡ outlet_pass p.lane (taken_of p) → Took v element w
      → (seen t' w ≡ outlet_pass p.lane (taken_of p ++ element ∷ [])) × (element.0 < p.lane.producers) × (ends element.0 (taken_of p) ≡ false)
  after_took t t' v w p element te e is h =
      let shape = outlet_shape t v p.lane (taken_of p) (e ∙ is) in (
        (λ i. seen (te i) (h.after i))
            ∙ ap (λ (x : Side T). seen t (took x element)) shape
            ∙ ap (λ (l : Lane). outlet_pass l (taken_of p ++ element ∷ [])) (ap (λ (q : PassSeen T). q.lane) e),
        subst (λ (q : PassSeen T). element.0 < q.lane.producers) e h.number,
        subst (λ (x : Side T). IfSome x.taken (λ taken. ends element.0 taken ≡ false)) shape h.open_yet,
      )

  after_empty : (t t' : TableId) (v w : Side T) (p : PassSeen T) → t' ≡ t → seen t v ≡ p → p ≡ outlet_pass p.lane (taken_of p) → (w ≡ v) × Held 0 (Agreed v) → (seen t' w ≡ p) × EmptyThen p.lane (taken_of p)
  after_empty t t' v w p te e is h =
      let items : List (Element T) = h.1.0 in
      let none : items ≡ [] = no_items items h.1.1 in
      let one : SidesAgree p.lane.capacity p.lane.producers [] (taken_of p) items =
      subst (λ (q : PassSeen T). IfSome q.taken (λ taken. SidesAgree q.lane.capacity q.lane.producers q.logs taken items)) (e ∙ is) h.1.2 in
      (after_nothing t t' v w p te e h.0, subst (λ l. SidesAgree p.lane.capacity p.lane.producers [] (taken_of p) l) none one)

  pub after_pop : (t t' : TableId) (v w : Side T) (p : PassSeen T) (r : Option (Element T)) → t' ≡ t → seen t v ≡ p → p ≡ outlet_pass p.lane (taken_of p)
      → MatchOption r ((w ≡ v) × Held 0 (Agreed v)) (λ x. Took v x w)
      → MatchOption r ((seen t' w ≡ p) × EmptyThen p.lane (taken_of p)) (λ element. (seen t' w ≡ outlet_pass p.lane (taken_of p ++ element ∷ [])) × (element.0 < p.lane.producers) × (ends element.0 (taken_of p) ≡ false))
  after_pop t t' v w p None te e is h = after_empty t t' v w p te e is h
  after_pop t t' v w p (Some element) te e is h = after_took t t' v w p element te e is h

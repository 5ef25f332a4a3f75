-- What the two sides of a lane tell of each other.
use Rattle.std.proofs.Common.{◌≡◌, Bool, true, false, true≢false, List, [], ◌∷◌, ◌++◌, ℕ, ◌≤◌, ◌⊎◌, ⊎_elim, map, refl, sym, ap, ◌∙◌, subst, arith}
use Rattle.std.proofs.lemmas.List.Elements.{All-weaker}
use Rattle.std.proofs.lemmas.Option.{IfSome_then}
use mathlib.Core.List.{IsPrefix, append-nil}
use Rattle.stage_queues.specs.declared.side.Log.{Log}
use Rattle.stage_queues.specs.declared.taken.Taken.{Taken}
use Rattle.stage_queues.specs.declared.taken.Taken.TheVariants.{Item, End}
use Rattle.stage_queues.specs.Lanes.{Element, PassSeen, AreWhole, Agrees, Begins, IsOfOne, IsWhole, ends_in, items_in, items_of, from_producer, sent, sent_of}
use Rattle.atomic_table.specs.Seated.{TableId}
use Rattle.stage_queues.specs.declared.side.Side.{Side}
use Rattle.stage_queues.specs.Rule.{Agreed, seen}
use Rattle.stage_queues.proofs.Elements.{from_producer-append, from_producer-mine, items_in-append, items_in-sent_of, nothing_follows}

first_nil : {X : Type 0} (a b : List X) → a ++ b ≡ [] → a ≡ []
first_nil [] b e = refl
first_nil (x ∷ a) b e = absurd cc

last_nil : {X : Type 0} (a b : List X) → a ++ b ≡ [] → b ≡ []
last_nil [] b e = e
last_nil (x ∷ a) b e = absurd cc

zero_or_more : (n : ℕ) → (n ≡ 0) ⊎ (1 ≤ n)
zero_or_more n = grind arith

not_nil : {X : Type 0} (x : X) (a : List X) → x ∷ a ≡ [] → ⊥
not_nil x a e = absurd cc

module _ {T : Type 0} where
  no_end_in : (put : List T) (b : List (Taken T)) (a : List (Taken T)) → a ++ b ≡ map Item put → ends_in a ≡ true → ⊥
  no_end_in put b [] e h = true≢false (sym h)
  no_end_in [] b (x ∷ a) e h = absurd cc
  no_end_in (y ∷ put) b (Item x ∷ a) e h = no_end_in put b a (rest (Item x) (Item y) (a ++ b) (map Item put) e) h where
    rest : (x y : Taken T) (xs ys : List (Taken T)) → x ∷ xs ≡ y ∷ ys → xs ≡ ys
    rest x y xs ys h = cc
  no_end_in (y ∷ put) b (End ∷ a) e h = absurd cc

  ended_if : (put : List T) (ended : Bool) (a b : List (Taken T)) → a ++ b ≡ sent_of put ended → ends_in a ≡ true → ended ≡ true
  ended_if put true a b e h = refl
  ended_if put false a b e h = absurd (no_end_in put b a e h)

  begins_one : (log : Log T) (taken contents : List (Element T)) → from_producer log.number (taken ++ contents) ≡ sent log → IsPrefix (items_of log.number taken) log.put
  begins_one log taken contents e = (
    items_of log.number contents,
    sym (items_in-append (from_producer log.number taken) (from_producer log.number contents))
        ∙ ap items_in (sym (from_producer-append log.number taken contents) ∙ e)
        ∙ items_in-sent_of log.put log.ended,
  )

  whole_one : (log : Log T) (taken contents : List (Element T)) → from_producer log.number (taken ++ contents) ≡ sent log → IsWhole taken log
  whole_one log taken contents e h =
      let parts : from_producer log.number taken ++ from_producer log.number contents ≡ sent_of log.put log.ended = sym (from_producer-append log.number taken contents) ∙ e in
      let none : from_producer log.number contents ≡ [] = nothing_follows log.put log.ended (from_producer log.number taken) (from_producer log.number contents) h parts in (
        ap items_in (sym (append-nil (from_producer log.number taken)) ∙ ap (λ l. from_producer log.number taken ++ l) (sym none) ∙ parts) ∙ items_in-sent_of log.put log.ended,
        ended_if log.put log.ended (from_producer log.number taken) (from_producer log.number contents) parts h,
      )

  pub agrees_from : (t : TableId) (v w : Side T) → w ≡ v → (elements : List (Element T)) × Agreed v elements → Agrees (seen t w)
  agrees_from t v w e h = subst (λ (x : Side T). Agrees (seen t x)) (sym e) (IfSome_then v.taken h.1 (λ taken a. (h.0, a)))

  pub begins_from : (p : PassSeen T) → Agrees p → Begins p
  begins_from p h = IfSome_then p.taken h (λ taken a. All-weaker (λ log. from_producer log.number (taken ++ a.0) ≡ sent log) (λ log. IsPrefix (items_of log.number taken) log.put) (λ log e. begins_one log taken a.0 e) p.logs a.1.order)

  pub whole_from : (p : PassSeen T) → Agrees p → AreWhole p
  whole_from p h = IfSome_then p.taken h (λ taken a. All-weaker (λ log. from_producer log.number (taken ++ a.0) ≡ sent log) (IsWhole taken) (λ log e. whole_one log taken a.0 e) p.logs a.1.order)

  -- where nothing is of another producer, all is of producer 0
  all_of_zero : (a : List (Element T)) → ((p : ℕ) → 1 ≤ p → from_producer p a ≡ []) → map (λ (e : Element T). e.1) a ≡ from_producer 0 a
  all_of_zero [] none = refl
  all_of_zero (e ∷ a) none = ⊎_elim
      (λ (h : e.0 ≡ 0).
      ap (λ l. e.1 ∷ l) (all_of_zero a (λ p le. last_nil (from_producer p (e ∷ [])) (from_producer p a) (sym (from_producer-append p (e ∷ []) a) ∙ none p le)))
      ∙ sym (from_producer-append 0 (e ∷ []) a ∙ ap (λ l. l ++ from_producer 0 a) (from_producer-mine 0 e (sym h))))
      (λ (h : 1 ≤ e.0).
      absurd (not_nil e.1 [] (first_nil (e.1 ∷ []) (from_producer e.0 a) (ap (λ l. l ++ from_producer e.0 a) (sym (from_producer-mine e.0 e refl)) ∙ sym (from_producer-append e.0 (e ∷ []) a) ∙ none e.0 h))))
      (zero_or_more e.0)

  pub one_from : (p : PassSeen T) → Agrees p → IsOfOne p
  one_from p h one = IfSome_then p.taken h (λ taken a.
      ap items_in (all_of_zero taken (λ q le. first_nil (from_producer q taken) (from_producer q a.0) (sym (from_producer-append q taken a.0) ∙ a.1.others q (let e = one in omega arith)))))

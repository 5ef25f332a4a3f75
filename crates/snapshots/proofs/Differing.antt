-- The place told of a part that differs.
use Rattle.std.proofs.Common.{◌≡◌, ℕ, ◌+◌, ◌-◌, ◌%◌, min, Bool, true, false, cond, not, ◌&&◌, ◌==◌, nat_lt, nat_eq, bytes_eq, List, [], ◌∷◌, length, Option, Some, None, refl, sym, ap, subst, ◌∙◌, arith, eqb-true, nat_cmp, Ordering, Less, Equal, Greater}
use Rattle.std.specs.List.{All, common_prefix_len}
use Rattle.std.specs.Option.{option_map}
use Rattle.std.specs.Ordering.{is_eq}
use Rattle.std.proofs.lemmas.List.Elements.{All-head, All-tail}
use Rattle.std.proofs.lemmas.Map.Lookups.{exact_unsigned}
use Rattle.jp_types.specs.declared.message.SnapshotPart.{SnapshotPart}
use Rattle.kv_service.specs.Entries
use Rattle.kv_service.specs.Parts.{Joiner, part_size}
use Rattle.snapshots.specs.declared.joiner.PartFault.TheVariants.{WrongTotal, BadCut, Differs}
use Rattle.snapshots.specs.Joining.{HoldsCuts, IsFirstDifference, first_difference, is_cut, part_fault}
use Rattle.snapshots.proofs.Differences.{Parting, parting}
use Rattle.snapshots.proofs.Held.{Part}

-- what holds of all entries holds of the one that is found
module _ (P : Part → Type 0) (k : ℕ) (v : List ℕ) where
  found-by : (e : Part) (es : List Part) (r : Ordering) → nat_cmp k e.0 ≡ r → P e → cond (is_eq r) (Some e.1) (Entries.get nat_cmp es k) ≡ Some v → (Entries.get nat_cmp es k ≡ Some v → P (k, v)) → P (k, v)
  found-by e es Less f p h again = again h
  found-by e es Equal f p h again =
      let key = exact_unsigned k e.0 f in
      let value : e.1 ≡ v = cc in
      subst P (λ i. (sym key i, value i)) p
  found-by e es Greater f p h again = again h

  found : (es : List Part) → All P es → Entries.get nat_cmp es k ≡ Some v → P (k, v)
  found [] all h = absurd cc
  found (e ∷ es) all h = found-by e es (nat_cmp k e.0) refl (All-head P e es all) h (found es (All-tail P e es all))

-- a part that is cut as it should be has as many bytes as are cut there
count-of : (total at count : ℕ) → is_cut total at count ≡ true → count ≡ min part_size (total - at)
count-of total at count e = by ((at % part_size == 0) && nat_lt at total) (count == min part_size (total - at)) refl e where
  by : (a b : Bool) → (count == min part_size (total - at)) ≡ b → (a && b) ≡ true → count ≡ min part_size (total - at)
  by true true f h = eqb-true count (min part_size (total - at)) f
  by true false f h = absurd cc
  by false b f h = absurd cc

place-of : (a b : Bool) (kept got bad place : ℕ) (o : Option ℕ) → cond (not a) (Some (WrongTotal kept got)) (cond (not b) (Some (BadCut bad)) (option_map Differs o)) ≡ Some (Differs place) → (b ≡ true) × (o ≡ Some place)
place-of false b kept got bad place o e = absurd cc
place-of true false kept got bad place o e = absurd cc
place-of true true kept got bad place None e = absurd cc
place-of true true kept got bad place (Some at) e = let same : at ≡ place = cc in (refl, ap Some same)

module _ (j : Joiner) (m : SnapshotPart) (place : ℕ) (cuts : HoldsCuts j.total j.parts) where
  at-place : (held : List ℕ) → Entries.get nat_cmp j.parts m.at ≡ Some held → is_cut j.total m.at (length m.bytes) ≡ true → bytes_eq held m.bytes ≡ false → m.at + common_prefix_len nat_eq held m.bytes ≡ place → IsFirstDifference j m place
  at-place held is cut other at =
      let mine = count-of j.total m.at (length m.bytes) cut in
      let theirs = count-of j.total m.at (length held) (found (λ part. is_cut j.total part.0 (length part.1) ≡ true) m.at held j.parts cuts.cut is) in
      let k = common_prefix_len nat_eq held m.bytes in
      let where_at : k ≡ place - m.at = omega arith in
      let h : Parting held m.bytes (place - m.at) = subst (λ (x : ℕ). Parting held m.bytes x) where_at (parting held m.bytes (theirs ∙ sym mine) other) in
      let within = h.within in
      record { held = held; found = is; from = omega arith; within = omega arith; same = h.same; differs = h.differs }

  by-test : (held : List ℕ) (b : Bool) → bytes_eq held m.bytes ≡ b → Entries.get nat_cmp j.parts m.at ≡ Some held → is_cut j.total m.at (length m.bytes) ≡ true
      → cond b None (Some (m.at + common_prefix_len nat_eq held m.bytes)) ≡ Some place → IsFirstDifference j m place
  by-test held true f is cut e = absurd cc
  by-test held false f is cut e = let at : m.at + common_prefix_len nat_eq held m.bytes ≡ place = cc in at-place held is cut f at

  by-held : (o : Option (List ℕ)) → Entries.get nat_cmp j.parts m.at ≡ o → is_cut j.total m.at (length m.bytes) ≡ true → first_difference o m ≡ Some place → IsFirstDifference j m place
  by-held None f cut e = absurd cc
  by-held (Some held) f cut e = by-test held (bytes_eq held m.bytes) refl f cut e

  pub differing : part_fault j m ≡ Some (Differs place) → IsFirstDifference j m place
  differing e =
      let h = place-of (m.total == j.total) (is_cut j.total m.at (length m.bytes)) j.total m.total m.at place (first_difference (Entries.get nat_cmp j.parts m.at) m) e in
      by-held (Entries.get nat_cmp j.parts m.at) refl h.0 h.1

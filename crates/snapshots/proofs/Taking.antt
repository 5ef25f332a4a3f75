-- What taking a part comes to: a new part goes in, and can go out again; one that is held changes nothing.
use Rattle.std.proofs.Common.{◌≡◌, ℕ, Bool, true, false, cond, not, ◌==◌, List, [], ◌∷◌, length, Option, Some, None, is_some, refl, sym, ap, subst, ◌∙◌, nat_cmp, Ordering, Less, Equal, Greater, bytes_eq, nat_eq, ◌+◌}
use Rattle.std.specs.BTreeMap.{insert_entry, is_at}
use Rattle.std.specs.Cmp.{nat_cmp_total}
use Rattle.std.specs.List.{All, common_prefix_len}
use Rattle.std.specs.List.Sorted.{IsStrictlySortedBy}
use Rattle.std.specs.Map.{remove_entry}
use Rattle.std.specs.Option.{option_map}
use Rattle.std.specs.Ordering.{match_ordering, is_eq}
use Rattle.std.proofs.lemmas.List.Elements.{All-cons, All-head, All-tail}
use Rattle.std.proofs.lemmas.Map.Lookups.{exact_unsigned}
use Rattle.std.proofs.lemmas.Slice.Eq.{bytes_eq-Decides}
use Rattle.jp_types.specs.declared.message.SnapshotPart.{SnapshotPart}
use Rattle.kv_service.specs.Ascending.{IsAscending}
use Rattle.kv_service.specs.Entries
use Rattle.kv_service.specs.Parts.{Joiner, with_part}
use Rattle.kv_service.proofs.Places.{ascending_insert, lookup_missing}
use Rattle.snapshots.specs.declared.joiner.PartFault.{PartFault}
use Rattle.snapshots.specs.declared.joiner.PartFault.TheVariants.{Differs}
use Rattle.snapshots.specs.Joining.{HoldsCuts, first_difference, is_cut, part_fault}
use Rattle.snapshots.proofs.Held.{Part, alike}

-- ---- In and out

module _ (k : ℕ) (v : List ℕ) where
  removed-by : (e : Part) (es : List Part) (r : Ordering) → nat_cmp k e.0 ≡ r → cond (is_eq r) (Some e.1) (Entries.get nat_cmp es k) ≡ None
      → (Entries.get nat_cmp es k ≡ None → remove_entry (is_at (nat_cmp k)) (insert_entry nat_cmp es k v) ≡ es)
      → remove_entry (is_at (nat_cmp k)) (match_ordering r ((k, v) ∷ e ∷ es) ((e.0, v) ∷ es) (e ∷ insert_entry nat_cmp es k v)) ≡ e ∷ es
  removed-by e es Less f h ih = ap (λ o. cond (is_eq o) (e ∷ es) ((k, v) ∷ remove_entry (is_at (nat_cmp k)) (e ∷ es))) (alike k)
  removed-by e es Equal f h ih = absurd cc
  removed-by e es Greater f h ih =
      let rest = insert_entry nat_cmp es k v in
      ap (λ o. cond (is_eq o) rest (e ∷ remove_entry (is_at (nat_cmp k)) rest)) f ∙ ap (λ l. e ∷ l) (ih h)

  -- what was put in at an offset where nothing was goes out again
  pub removed : (es : List Part) → Entries.get nat_cmp es k ≡ None → remove_entry (is_at (nat_cmp k)) (insert_entry nat_cmp es k v) ≡ es
  removed [] h = ap (λ o. cond (is_eq o) [] ((k, v) ∷ [])) (alike k)
  removed (e ∷ es) h = removed-by e es (nat_cmp k e.0) refl h (removed es)

  again-by : (e : Part) (es : List Part) (r : Ordering) → nat_cmp k e.0 ≡ r → (r ≡ Less → Entries.get nat_cmp (e ∷ es) k ≡ None) → Entries.get nat_cmp (e ∷ es) k ≡ Some v
      → cond (is_eq r) (Some e.1) (Entries.get nat_cmp es k) ≡ Some v → (Entries.get nat_cmp es k ≡ Some v → insert_entry nat_cmp es k v ≡ es)
      → match_ordering r ((k, v) ∷ e ∷ es) ((e.0, v) ∷ es) (e ∷ insert_entry nat_cmp es k v) ≡ e ∷ es
  again-by e es Less f none h g ih = let n = none refl in absurd cc
  again-by e es Equal f none h g ih = let same : e.1 ≡ v = cc in ap (λ (x : List ℕ). (e.0, x) ∷ es) (sym same)
  again-by e es Greater f none h g ih = ap (λ l. e ∷ l) (ih g)

  -- what is held at an offset changes nothing when it comes again
  pub again : (es : List Part) → IsAscending nat_cmp es → Entries.get nat_cmp es k ≡ Some v → insert_entry nat_cmp es k v ≡ es
  unfolding IsStrictlySortedBy
  again [] up h = absurd cc
  again (e ∷ es) up h = again-by e es (nat_cmp k e.0) refl (λ f. lookup_missing nat_cmp_total k (e ∷ es) 0 f up) h h (again es up.1)

  all-by : (P : Part → Type 0) (e : Part) (es : List Part) (r : Ordering) → nat_cmp k e.0 ≡ r → P (k, v) → All P (e ∷ es) → All P (insert_entry nat_cmp es k v)
      → All P (match_ordering r ((k, v) ∷ e ∷ es) ((e.0, v) ∷ es) (e ∷ insert_entry nat_cmp es k v))
  all-by P e es Less f p h ih = All-cons P (k, v) (e ∷ es) p h
  all-by P e es Equal f p h ih = let same = exact_unsigned k e.0 f in All-cons P (e.0, v) es (subst (λ (x : ℕ). P (x, v)) same p) (All-tail P e es h)
  all-by P e es Greater f p h ih = All-cons P e (insert_entry nat_cmp es k v) (All-head P e es h) ih

  all-insert : (P : Part → Type 0) (es : List Part) → P (k, v) → All P es → All P (insert_entry nat_cmp es k v)
  all-insert P [] p h = All-cons P (k, v) [] p h
  all-insert P (e ∷ es) p h = all-by P e es (nat_cmp k e.0) refl p h (all-insert P es p (All-tail P e es h))

  -- a part that is cut as it should be keeps the others so
  pub cuts-insert : (total : ℕ) (es : List Part) → is_cut total k (length v) ≡ true → HoldsCuts total es → HoldsCuts total (insert_entry nat_cmp es k v)
  cuts-insert total es cut h =
      record {
        ascending = ascending_insert nat_cmp_total k v es h.ascending;
        cut = all-insert (λ part. is_cut total part.0 (length part.1) ≡ true) es cut h.cut;
      }

-- ---- No fault

faultless : (a b : Bool) (x y : PartFault) (o : Option PartFault) → cond (not a) (Some x) (cond (not b) (Some y) o) ≡ None → (b ≡ true) × (o ≡ None)
faultless false b x y o e = absurd cc
faultless true false x y o e = absurd cc
faultless true true x y o e = (refl, e)

no_difference : (o : Option ℕ) → option_map Differs o ≡ None → o ≡ None
no_difference None e = refl
no_difference (Some at) e = absurd cc

same-by : (held bytes : List ℕ) (b : Bool) → bytes_eq held bytes ≡ b → (at : ℕ) → cond b None (Some at) ≡ None → held ≡ bytes
same-by held bytes true e at h = (bytes_eq-Decides held bytes).0 e
same-by held bytes false e at h = absurd cc

-- the bytes held at the part's offset, where it does not differ from them
same-held : (o : Option (List ℕ)) (m : SnapshotPart) → is_some o ≡ true → first_difference o m ≡ None → o ≡ Some m.bytes
same-held None m some e = absurd cc
same-held (Some held) m some e = ap Some (same-by held m.bytes (bytes_eq held m.bytes) refl (m.at + common_prefix_len nat_eq held m.bytes) e)

module _ (j : Joiner) (m : SnapshotPart) where
  pub taken-cut : part_fault j m ≡ None → is_cut j.total m.at (length m.bytes) ≡ true
  taken-cut e = (faultless (m.total == j.total) (is_cut j.total m.at (length m.bytes)) _ _ _ e).0

  -- a part that is held and does not differ changes nothing
  pub taken-again : HoldsCuts j.total j.parts → part_fault j m ≡ None → is_some (Entries.get nat_cmp j.parts m.at) ≡ true → with_part j m ≡ j
  taken-again h e some =
      let none = no_difference _ (faultless (m.total == j.total) (is_cut j.total m.at (length m.bytes)) _ _ _ e).1 in
      ap (λ parts. record j { parts = parts }) (again m.at m.bytes j.parts h.ascending (same-held (Entries.get nat_cmp j.parts m.at) m some none))

-- ---- What the code's map comes to

pub cuts-after : (total k : ℕ) (es new : List Part) (v bytes : List ℕ) → new ≡ insert_entry nat_cmp es k v → v ≡ bytes → is_cut total k (length bytes) ≡ true → HoldsCuts total es → HoldsCuts total new
cuts-after total k es new v bytes inserted copied cut h =
    subst (HoldsCuts total) (sym inserted) (cuts-insert k v total es (ap (λ l. is_cut total k (length l)) copied ∙ cut) h)

pub back : (k : ℕ) (es mid new : List Part) (v : List ℕ) → mid ≡ insert_entry nat_cmp es k v → new ≡ remove_entry (is_at (nat_cmp k)) mid → Entries.get nat_cmp es k ≡ None → new ≡ es
back k es mid new v inserted taken none = taken ∙ ap (remove_entry (is_at (nat_cmp k))) inserted ∙ removed k v es none

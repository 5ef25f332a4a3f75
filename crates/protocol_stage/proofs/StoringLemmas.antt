-- Saving only what is above the number on the disk.
use Rattle.std.proofs.Common.{◌≡◌, inl, inr, ⊎_elim, ℕ, ◌≤◌, ◌<◌, true, false, List, [], ◌∷◌, length, Option, Some, None, refl, ap, ◌∙◌, subst, arith}
use Rattle.std.specs.Prelude.{IfSome, ⊤}
use Rattle.std.proofs.lemmas.Bool.Decides.{nat_tests}
use Rattle.stable_store.specs.Disks.{LeavesOnly}
use Rattle.stable_store.specs.Slots.{Loads, Slots, Stands, held}
use Rattle.stable_store.proofs.Moments.{started}
use Rattle.protocol_core.specs.declared.act.Act.{Act}
use Rattle.protocol_stage.specs.Performing.{LoadsOneOf, is_above, raised_number, stored_by, stored_after}

pub above_held : (stored : Option ℕ) (number : ℕ) → is_above stored number ≡ true → IfSome stored (λ kept. kept < number)
above_held None number h = tt
above_held (Some stored) number h = grind (arith, nat_tests)

-- a number above is the one that is saved
pub raised_above : (stored : Option ℕ) (number : ℕ) → is_above stored number ≡ true → raised_number stored number ≡ number
raised_above None number h = refl
raised_above (Some stored) number h = let below : stored < number = grind (arith, nat_tests) in omega (arith, below)

-- where a number is not above, the other stays
pub raised_below : (stored : Option ℕ) (number : ℕ) → is_above stored number ≡ false → Some (raised_number stored number) ≡ stored
raised_below None number h = absurd cc
raised_below (Some stored) number h = let above : number ≤ stored = grind (arith, nat_tests) in ap (λ (n : ℕ). Some n) (omega (arith, above))

-- a number on the disk is not below another, if there is one
abbrev AtLeast : Option ℕ → Option ℕ → Type 0
AtLeast None after = ⊤
AtLeast (Some stored) None = ⊥
AtLeast (Some stored) (Some after) = stored ≤ after

least_same : (stored : Option ℕ) → AtLeast stored stored
least_same None = tt
least_same (Some stored) = omega arith

least_saved : (stored s : Option ℕ) (number : ℕ) → AtLeast stored s → AtLeast stored (Some (raised_number s number))
least_saved None s number h = tt
least_saved (Some stored) None number h = absurd h
least_saved (Some stored) (Some s) number h = omega (arith, h)

least_by : (stored s : Option ℕ) (act : Act) → AtLeast stored s → AtLeast stored (stored_by s act)
least_by stored s (Act.Step step) h = h
least_by stored s (Act.Send to message) h = h
least_by stored s (Act.Hand decision) h = h
least_by stored s (Act.Save number) h = least_saved stored s number h
least_by stored s (Act.Arm topic outgoing) h = h
least_by stored s (Act.Cancel topic) h = h
least_by stored s Act.CancelProposes h = h

least_after : (stored s : Option ℕ) (acts : List Act) → AtLeast stored s → AtLeast stored (stored_after s acts)
least_after stored s [] h = h
least_after stored s (act ∷ acts) h = least_after stored (stored_by s act) acts (least_by stored s act h)

raised_least : (stored : Option ℕ) (number : ℕ) → AtLeast stored (Some number) → raised_number stored number ≡ number
raised_least None number h = refl
raised_least (Some stored) number h = omega (arith, h)

-- what acts save is not below what was stored
pub raised_after : (stored : Option ℕ) (acts : List Act) (number : ℕ) → stored_after stored acts ≡ Some number → raised_number stored number ≡ number
raised_after stored acts number e = raised_least stored number (subst (AtLeast stored) e (least_after stored stored acts (least_same stored)))

-- where nothing is on the disk after these acts, nothing was there before
pub none_after : (stored : Option ℕ) (acts : List Act) → stored_after stored acts ≡ None → stored ≡ None
none_after stored acts e = by stored (subst (AtLeast stored) e (least_after stored stored acts (least_same stored)))
  where
    by : (s : Option ℕ) → AtLeast s None → s ≡ None
    by None h = refl
    by (Some s) h = absurd h

-- ---- What a crash leaves between two calls

module _ (cell : Slots) (size : ℕ) (seen : Option (List ℕ)) (images : List ℕ → Type 0) (stands : Stands cell size seen images) (whole : (bytes : List ℕ) → seen ≡ Some bytes → length bytes ≡ size) where
  -- each image loads the number that the cell holds
  pub stands_loads : (image : List ℕ) → images image → Loads image (held cell)
  stands_loads image left = let is = stands.settled image left in (whole image is ∙ stands.fits, ap held (stands.read image is))

  pub stands_loads_as : (number : Option ℕ) → held cell ≡ number → (image : List ℕ) → images image → Loads image number
  stands_loads_as number is image left = subst (λ (n : Option ℕ). Loads image n) is (stands_loads image left)

-- a disk on which nothing was done leaves what it left
pub nothing_done : {D : Type 0} (moment : D → ℕ) (left_since : D → ℕ → List ℕ → Type 0) (disk : D) (images P : List ℕ → Type 0) → ((image : List ℕ) → left_since disk (moment disk) image → images image) → ((image : List ℕ) → images image → P image)
    → LeavesOnly moment left_since disk disk P
nothing_done moment left_since disk images P now within = started moment left_since disk P (λ image left. within image (now image left))

-- the same number, given otherwise
pub loads_one_of : (stored before after : Option ℕ) → before ≡ after → (image : List ℕ) → LoadsOneOf stored before image → LoadsOneOf stored after image
loads_one_of stored before after is image loads = ⊎_elim (λ l. inl l) (λ l. inr (subst (λ (n : Option ℕ). Loads image n) is l)) loads

-- A joiner refuses exactly the parts that it does not take.
use Rattle.std.proofs.Common.{◌≡◌, ℕ, ◌+◌, Bool, true, false, cond, not, ◌&&◌, ◌==◌, nat_cmp, nat_eq, bytes_eq, List, length, Option, Some, None, is_none, refl, sym, ap, ◌∙◌}
use Rattle.std.specs.List.{common_prefix_len}
use Rattle.std.specs.Option.{option_map}
use Rattle.jp_types.specs.declared.message.SnapshotPart.{SnapshotPart}
use Rattle.kv_service.specs.Entries
use Rattle.kv_service.specs.Parts.{Joiner, is_alike, takes_part}
use Rattle.snapshots.specs.declared.joiner.PartFault.{PartFault}
use Rattle.snapshots.specs.declared.joiner.PartFault.TheVariants.{WrongTotal, BadCut, Differs}
use Rattle.snapshots.specs.Joining.{first_difference, is_cut, part_fault}

none-where : (b : Bool) (at : ℕ) → is_none (option_map Differs (cond b None (Some at))) ≡ b
none-where true at = refl
none-where false at = refl

alike : (o : Option (List ℕ)) (m : SnapshotPart) → is_none (option_map Differs (first_difference o m)) ≡ is_alike o m.bytes
alike None m = refl
alike (Some held) m = none-where (bytes_eq held m.bytes) (m.at + common_prefix_len nat_eq held m.bytes)

all-tests : (a b c : Bool) (x y : PartFault) (o : Option PartFault) → is_none o ≡ c → is_none (cond (not a) (Some x) (cond (not b) (Some y) o)) ≡ ((a && b) && c)
all-tests false b c x y o h = refl
all-tests true false c x y o h = refl
all-tests true true c x y o h = h

pub refuses : (j : Joiner) (m : SnapshotPart) → is_none (part_fault j m) ≡ takes_part j m
refuses j m =
    let held = Entries.get nat_cmp j.parts m.at in
    all-tests (m.total == j.total) (is_cut j.total m.at (length m.bytes)) (is_alike held m.bytes) (WrongTotal j.total m.total) (BadCut m.at) (option_map Differs (first_difference held m)) (alike held m)

pub is_taken : (j : Joiner) (m : SnapshotPart) → part_fault j m ≡ None → takes_part j m ≡ true
is_taken j m e = sym (refuses j m) ∙ ap is_none e

pub not_taken : (j : Joiner) (m : SnapshotPart) (f : PartFault) → part_fault j m ≡ Some f → takes_part j m ≡ false
not_taken j m f e = sym (refuses j m) ∙ ap is_none e

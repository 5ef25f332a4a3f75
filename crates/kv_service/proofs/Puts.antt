-- What setting and removing a key come to, by the place that a search finds.
use Rattle.std.proofs.Common.{◌≡◌, ℕ, ◌<◌, ◌≤◌, Bool, true, false, ◌&&◌, List, [], length, is_some, nat_le, refl, ap, arith}
use Rattle.std.specs.Cmp.Lexicographic.{nat_list_cmp_total}
use Rattle.jp_types.specs.declared.command.Reply.TheVariants.{Done, NoRoom}
use Rattle.kv_service.specs.Ascending.{IsAscending, IsFoundAt, IsMissingAt}
use Rattle.kv_service.specs.Entries
use Rattle.kv_service.specs.Store.{Store, bytes_cmp, contains_key, put}
use Rattle.kv_service.proofs.Places.{lookup_found, lookup_missing}

module _ (s : Store) (key : List ℕ) (i : ℕ) where
  pub contains_found : IsFoundAt (bytes_cmp key) s i → contains_key s key ≡ true
  contains_found h = ap is_some (lookup_found (bytes_cmp key) s i ([], []) h)

  pub contains_missing : IsMissingAt (bytes_cmp key) s i → IsAscending bytes_cmp s → contains_key s key ≡ false
  contains_missing h a = ap is_some (lookup_missing nat_list_cmp_total key s i h a)

and_false : (b : Bool) → (b && false) ≡ false
and_false true = refl
and_false false = refl

module _ (s : Store) (key value : List ℕ) (i : ℕ) where
  pub put_held : IsFoundAt (bytes_cmp key) s i → put s key value ≡ (Entries.insert bytes_cmp s key value, Done)
  put_held h = rw (contains_found s key i h, and_false (nat_le 16384 (length s))) refl

  pub put_room : IsMissingAt (bytes_cmp key) s i → IsAscending bytes_cmp s → length s < 16384 → put s key value ≡ (Entries.insert bytes_cmp s key value, Done)
  put_room h a room = let few : nat_le 16384 (length s) ≡ false = grind arith in rw few refl

  pub put_full : IsMissingAt (bytes_cmp key) s i → IsAscending bytes_cmp s → 16384 ≤ length s → put s key value ≡ (s, NoRoom)
  put_full h a full = let many : nat_le 16384 (length s) ≡ true = grind arith in rw (many, contains_missing s key i h a) refl

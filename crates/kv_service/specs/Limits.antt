-- The limits of a service's state.
use Rattle.std.specs.Prelude.{ℕ, ◌^◌, ◌≤◌, List, length}
use Rattle.std.specs.List.{AllByRecursion}
use Rattle.std.specs.Ordering.{nat_cmp}
use Rattle.jp_types.specs.declared.command.Reply.{Reply}
use Rattle.jp_types.specs.declared.command.Reply.TheVariants.{Done, Value, NoKey, NoRoom}
use Rattle.kv_service.specs.Ascending.{IsAscending}
use Rattle.kv_service.specs.Service.{State}
use Rattle.kv_service.specs.Store.{bytes_cmp}

-- a value of at most 4,096 bytes
abbrev pub IsValue : List ℕ → Type 0
IsValue value = length value ≤ 4096

-- a key of 1 to 256 bytes, with a value
pub record IsPair (pair : List ℕ × List ℕ) : Type 0 where
  pub some : 1 ≤ length pair.0
  pub limit : length pair.0 ≤ 256
  pub value : IsValue pair.1

-- a reply whose value, if it is one, is within its limit
abbrev pub IsReply : Reply → Type 0
IsReply Done = Unit {0}
IsReply (Value value) = IsValue value
IsReply NoKey = Unit {0}
IsReply NoRoom = Unit {0}

-- a client from 0 to 1,023 with a number from 1 to 2^48 and the reply to it
pub record IsLast (last : ℕ × (ℕ × Reply)) : Type 0 where
  pub client : last.0 ≤ 1023
  pub some : 1 ≤ last.1.0
  pub limit : last.1.0 ≤ 2 ^ 48
  pub reply : IsReply last.1.1

-- a state within its limits, whose keys and clients ascend
pub record IsWithinLimits (s : State) : Type 0 where
  pub executed : s.executed ≤ 2 ^ 48
  pub room : length s.store ≤ 16384
  pub pairs : AllByRecursion IsPair s.store
  pub ascending_keys : IsAscending bytes_cmp s.store
  pub last : AllByRecursion IsLast s.last
  pub ascending_clients : IsAscending nat_cmp s.last

-- Requests within their limits.
use Rattle.std.specs.Prelude.{◌≡◌, ℕ, ◌≤◌, ◌<◌, List, length, Option, Some}
use Rattle.jp_types.specs.Instances.{Batch}
use Rattle.jp_types.specs.Lists.{In}
use Rattle.jp_types.specs.Views.{number_limit}
use Rattle.jp_types.specs.declared.command.Command.{Command}
use Rattle.jp_types.specs.declared.command.Command.TheVariants.{Put, Get, Del, Cas}
use Rattle.jp_types.specs.declared.command.Request.{Request}

-- each number is a byte
abbrev pub AreBytes : List ℕ → Type 0
AreBytes bytes = (b : ℕ) → In b bytes → b < 256

-- a key: 1 to 256 bytes
pub record IsKey (key : List ℕ) : Type 0 where
  pub some : 1 ≤ length key
  pub limit : length key ≤ 256
  pub bytes : AreBytes key

-- a value: at most 4096 bytes
pub record IsValue (value : List ℕ) : Type 0 where
  pub limit : length value ≤ 4096
  pub bytes : AreBytes value

-- a command on keys and values within the limits
abbrev pub IsCommand : Command → Type 0
IsCommand (Put key value) = IsKey key × IsValue value
IsCommand (Get key) = IsKey key
IsCommand (Del key) = IsKey key
IsCommand (Cas key old new) = IsKey key × ((value : List ℕ) → old ≡ Some value → IsValue value) × IsValue new

-- a request within the limits
pub record IsRequest (r : Request) : Type 0 where
  pub client : r.client ≤ 1023
  pub number : (1 ≤ r.number) × (r.number ≤ number_limit)
  pub command : IsCommand r.command

-- a batch of such requests
abbrev pub IsBatch : Batch → Type 0
IsBatch batch = (r : Request) → In r batch → IsRequest r

-- The state of the plain path, in bytes and read back.
use Rattle.std.specs.Prelude.{◌≡◌, ℕ, List, [], ◌∷◌, ◌++◌, ◌^◌, take, Ok, Err, refl}
use Rattle.jp_types.specs.declared.command.Command.TheVariants.{Put}
use Rattle.kv_service.specs.Service.{State, start, serve}
use Rattle.kv_service.specs.StateBytes.{state_bytes}
use Rattle.kv_service.specs.StateReading.{read_state, Truncated, Trailing}

abbrev put_once : State
put_once = serve ((record { client = 7; number = 1; command = Put (97 ∷ []) (98 ∷ []) } ∷ []) ∷ [])

abbrev its_bytes : List ℕ
its_bytes = 0 ∷ 0 ∷ 0 ∷ 0 ∷ 0 ∷ 0 ∷ 0 ∷ 1 ∷ 0 ∷ 0 ∷ 0 ∷ 1 ∷ 0 ∷ 1 ∷ 0x61 ∷ 0 ∷ 1 ∷ 0x62 ∷ 0 ∷ 0 ∷ 0 ∷ 1 ∷ 0 ∷ 0 ∷ 0 ∷ 0 ∷ 0 ∷ 0 ∷ 0 ∷ 7 ∷ 0 ∷ 0 ∷ 0 ∷ 0 ∷ 0 ∷ 0 ∷ 0 ∷ 1 ∷ 1 ∷ []

pub written : state_bytes put_once ≡ its_bytes
unfolding state_bytes
written = refl

pub read_back : read_state its_bytes ≡ Ok put_once
unfolding read_state
read_back = refl

pub one_less : read_state (take 38 its_bytes) ≡ Err (Truncated 38)
unfolding read_state
one_less = refl

pub one_more : read_state (its_bytes ++ 0 ∷ []) ≡ Err (Trailing 39)
unfolding read_state
one_more = refl

-- outside the limits bytes do not tell states: the executed number has eight bytes
pub two_alike : state_bytes (record start { executed = 0 }) ≡ state_bytes (record start { executed = 2 ^ 64 })
unfolding state_bytes
two_alike = refl

-- Batches at their limits.
use Rattle.std.specs.Prelude.{◌≡◌, ℕ, true, false, [], ◌∷◌, ◌++◌, replicate, refl}
use Rattle.jp_types.specs.declared.command.Command.TheVariants.{Put, Get}
use Rattle.jp_types.specs.declared.command.Request.{Request}
use Rattle.jp_types.specs.Sizes.{request_size, batch_size}
use Rattle.jp_types.specs.Instances.{Batch}
use Rattle.paxos_world.specs.Batching.{Asked, Tick, is_closed_by, cut}

-- a Put with a key of one byte and a value of so many
abbrev put_of : ℕ → Request
put_of n = record { client = 1; number = 1; command = Put (1 ∷ []) (replicate n 0) }

abbrev get_once : Request
get_once = record { client = 1; number = 1; command = Get (1 ∷ []) }

abbrev fifteen : Batch
fifteen = replicate 15 (put_of 4074)

pub of_request : request_size (put_of 4074) ≡ 4096
of_request = refl

pub of_fifteen : batch_size fifteen ≡ 61444
of_fifteen = refl

pub stays : is_closed_by fifteen (Asked (put_of 4070)) ≡ false
stays = refl

pub of_sixteen : batch_size (fifteen ++ put_of 4070 ∷ []) ≡ 65536
of_sixteen = refl

pub closes : is_closed_by fifteen (Asked (put_of 4071)) ≡ true
closes = refl

pub of_gets : batch_size (replicate 1024 get_once) ≡ 20484
of_gets = refl

pub gets_stay : is_closed_by (replicate 1023 get_once) (Asked get_once) ≡ false
gets_stay = refl

pub gets_close : is_closed_by (replicate 1024 get_once) (Asked get_once) ≡ true
gets_close = refl

pub empty_tick : is_closed_by [] Tick ≡ false
empty_tick = refl

pub cut_by_ticks : cut (Tick ∷ Asked get_once ∷ Asked get_once ∷ Tick ∷ Tick ∷ Asked get_once ∷ []) ≡ ((get_once ∷ get_once ∷ []) ∷ [], get_once ∷ [])
cut_by_ticks = refl

-- A state that reads back from its bytes has at most 2^28 of them.
use Rattle.std.proofs.Common.{◌≡◌, ℕ, suc, ◌+◌, ◌*◌, ◌^◌, ◌≤◌, List, [], ◌∷◌, ◌++◌, length, refl, arith, length-append}
use Rattle.std.specs.List.{flat_map}
use Rattle.std.specs.Int.{to_be_bytes, w16, w32, w64}
use Rattle.jp_types.specs.declared.command.Reply.{Reply}
use Rattle.jp_types.specs.declared.command.Reply.TheVariants.{Done, Value, NoKey, NoRoom}
use Rattle.kv_service.specs.Service.{State}
use Rattle.kv_service.specs.Store.{Store}
use Rattle.kv_service.specs.StateBytes.{sized_bytes, pair_bytes, reply_bytes, client_bytes, state_bytes}
use Rattle.jp_types.specs.Limits.{IsKey, IsValue}
use Rattle.turn_laws.specs.Limits.{IsState}
use Rattle.turn_laws.proofs.StateFitting.{read-fits}
use Rattle.turn_laws.proofs.StateLimits.{EntriesFit, IsReply, IsClient, IsLast, StateFits, few-clients}

-- what is written with its length has two bytes more
sized-length : (xs : List ℕ) → length (sized_bytes xs) ≡ 2 + length xs
sized-length xs = length-append (to_be_bytes w16 (length xs)) xs

-- a reply within the limits has at most 4,099 bytes
reply-length : (r : Reply) → IsReply r → length (reply_bytes r) ≤ 4099
reply-length Done is = omega arith
reply-length (Value v) is =
    let size = sized-length v in
    let limit = is.limit in
    let whole : length (reply_bytes (Value v)) ≡ suc (length (sized_bytes v)) = refl in
    omega arith
reply-length NoKey is = omega arith
reply-length NoRoom is = omega arith

-- so many keys with their values have at most 4,356 bytes each
pairs-length : (xs : Store) → EntriesFit IsKey IsValue xs → length (flat_map pair_bytes xs) ≤ length xs * 4356
pairs-length [] h = omega arith
pairs-length (x ∷ xs) h =
    let rest = pairs-length xs h.1 in
    let key = sized-length x.0 in
    let value = sized-length x.1 in
    let key_limit = h.0.0.limit in
    let value_limit = h.0.1.limit in
    let pair = length-append (sized_bytes x.0) (sized_bytes x.1) in
    let whole = length-append (pair_bytes x) (flat_map pair_bytes xs) in
    omega arith

-- so many clients have at most 4,115 bytes each
clients-length : (xs : List (ℕ × (ℕ × Reply))) → EntriesFit IsClient IsLast xs → length (flat_map client_bytes xs) ≤ length xs * 4115
clients-length [] h = omega arith
clients-length (x ∷ xs) h =
    let rest = clients-length xs h.1 in
    let reply = reply-length x.1.1 h.0.1.2 in
    let number = length-append (to_be_bytes w64 x.1.0) (reply_bytes x.1.1) in
    let client = length-append (to_be_bytes w64 x.0) (to_be_bytes w64 x.1.0 ++ reply_bytes x.1.1) in
    let whole = length-append (client_bytes x) (flat_map client_bytes xs) in
    omega arith

-- a state within the limits has at most 2^28 bytes
pub fits-small : (s : State) → StateFits s → length (state_bytes s) ≤ 2 ^ 28
unfolding state_bytes
fits-small s h =
    let executed = to_be_bytes w64 s.executed in
    let keys = to_be_bytes w32 (length s.store) in
    let store = flat_map pair_bytes s.store in
    let clients = to_be_bytes w32 (length s.last) in
    let last = flat_map client_bytes s.last in
    let room = h.store.room in
    let few = few-clients s h in
    let pairs = pairs-length s.store h.store.pairs in
    let replies = clients-length s.last h.last in
    let one = length-append executed keys in
    let two = length-append (executed ++ keys) store in
    let three = length-append ((executed ++ keys) ++ store) clients in
    let four = length-append (((executed ++ keys) ++ store) ++ clients) last in
    omega arith

-- a state that reads back from its bytes has at most 2^28 of them
pub small : (s : State) → IsState s → length (state_bytes s) ≤ 2 ^ 28
small s h = fits-small s (read-fits (state_bytes s) s h.1 h.0)

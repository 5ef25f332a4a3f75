-- What the store answers to some commands, one after another.
use Rattle.std.specs.Prelude.{◌≡◌, ℕ, List, [], ◌∷◌, Some, None, refl}
use Rattle.jp_types.specs.declared.command.Reply.{Reply}
use Rattle.jp_types.specs.declared.command.Reply.TheVariants.{Done, Value, NoKey}
use Rattle.jp_types.specs.declared.command.Command.{Command}
use Rattle.jp_types.specs.declared.command.Command.TheVariants.{Put, Get, Del, Cas}
use Rattle.kv_service.specs.Store.{Store, apply}

-- the replies to commands, from a store on
abbrev replies : Store → List Command → List Reply
replies s [] = []
replies s (c ∷ cs) = (apply s c).1 ∷ replies (apply s c).0 cs

abbrev a : List ℕ
a = 0x61 ∷ []

abbrev b : List ℕ
b = 0x62 ∷ []

pub in_turn : replies [] (Put a b ∷ Get a ∷ Cas a (Some (0x63 ∷ [])) (0x64 ∷ []) ∷ Cas a (Some b) [] ∷ Get a ∷ Del a ∷ Del a ∷ Cas a None (0x65 ∷ []) ∷ [])
    ≡ Done ∷ Value b ∷ Value b ∷ Done ∷ Value [] ∷ Done ∷ NoKey ∷ Done ∷ []
in_turn = refl

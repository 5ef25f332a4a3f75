-- How what a life does is written: the life after it, and its acts in order.
use Rattle.std.specs.Prelude.{◌≡◌, List, [], ◌++◌}
use Rattle.protocol_core.specs.declared.act.Act.{Act}
use Rattle.protocol_core.specs.declared.life.Life.{Life}

-- a life, and the acts on the way to it
pub record Turned : Type 0 where
  pub life : Life
  pub acts : List Act

-- nothing is done
abbrev pub stay : Life → Turned
stay life = record { life = life; acts = [] }

-- one thing and then another
abbrev pub followed_by : Turned → (Life → Turned) → Turned
followed_by t f = let u = f t.life in record { life = u.life; acts = t.acts ++ u.acts }

-- what a method of a life does to the life and to the acts that it is handed
abbrev pub Does : Turned → Life → List Act → List Act → Type 0
Does t life before after = (life ≡ t.life) × (after ≡ before ++ t.acts)

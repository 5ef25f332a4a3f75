-- What a Protocol stage does is what a stage of the model does: in each turn, and as it begins.
use Rattle.std.proofs.Common.{◌≡◌, ◌∙◌, inl, inr, ⊎_elim, ℕ, false, List, [], ◌∷◌, Option, Some, None, refl, sym, ap, subst}
use Rattle.paxos_world.specs.Stage as model
use Rattle.paxos_world.specs.Turn as model_turn
use Rattle.retransmitter.specs.declared.slots.Slot.{Slot}
use Rattle.protocol_core.specs.declared.act.Act.{Act}
use Rattle.protocol_core.specs.declared.config.Config.{Config}
use Rattle.protocol_core.specs.declared.item.Item.{Item}
use Rattle.protocol_core.specs.declared.life.Life.{Life}
use Rattle.protocol_core.specs.Starting.{opening}
use Rattle.protocol_core.specs.Turned.{Turned}
use Rattle.protocol_core.specs.Turning.{turn}
use Rattle.protocol_laws.specs.Acting.{item_of, model_acts, model_decision}
use Rattle.protocol_laws.specs.Arming.{Arming, arming_of, armed_after}
use Rattle.protocol_laws.specs.Coming.{Comes, SendsFitly}
use Rattle.protocol_laws.specs.Following.{Follows}
use Rattle.protocol_laws.specs.Keeping.{KeepsLife}
use Rattle.protocol_laws.specs.Laws.{AreAlike, BeginsAlike}
use Rattle.protocol_laws.proofs.Whole.{turns_alike, openings_alike}
use Rattle.protocol_stage.specs.Arming.{arming_in, IsTight, RepeatsFitly, takes_least}
use Rattle.stable_store.specs.Slots.{Loads}
use Rattle.protocol_stage.specs.Following.{going_out, TakesLeast, Took, model_config, model_slots, Began, LoadsAtStart}
use Rattle.protocol_stage.specs.Performing.{Repeats, RepeatsAfter, outward}
use Rattle.protocol_stage.specs.Repeating.{Repeating, unarmed}
use Rattle.protocol_stage.specs.Running.{IsOpened, LoadsAtOpening, Opens, Running}
use Rattle.protocol_stage.specs.Standing.{Lives, Stands}
use Rattle.protocol_stage.proofs.Goals.{TurnsFollow, TurnsStable, OpensFollow}
use Rattle.protocol_stage.proofs.Arming.{arms-alike, repeats-are-fit}

-- ---- Acts that go out

-- the acts that go out are those of the model that go out
outward-acts : (acts : List Act) → model_acts (outward acts) ≡ going_out (model_acts acts)
outward-acts [] = refl
outward-acts (Act.Step step ∷ acts) = ap (λ xs. model.Show step ∷ xs) (outward-acts acts)
outward-acts (Act.Send to message ∷ acts) = ap (λ xs. model.Send to message ∷ xs) (outward-acts acts)
outward-acts (Act.Hand decision ∷ acts) = ap (λ xs. model.Hand (model_decision decision) ∷ xs) (outward-acts acts)
outward-acts (Act.Save number ∷ acts) = outward-acts acts
outward-acts (Act.Arm topic outgoing ∷ acts) = outward-acts acts
outward-acts (Act.Cancel topic ∷ acts) = outward-acts acts
outward-acts (Act.CancelProposes ∷ acts) = outward-acts acts

-- where the messages of acts may be sent, those that go out may
outward-fit : (c : model.Config) (acts : List Act) → SendsFitly c acts → SendsFitly c (outward acts)
outward-fit c [] h = tt
outward-fit c (Act.Step step ∷ acts) h = outward-fit c acts h
outward-fit c (Act.Send to message ∷ acts) h = (h.0, outward-fit c acts h.1)
outward-fit c (Act.Hand decision ∷ acts) h = outward-fit c acts h
outward-fit c (Act.Save number ∷ acts) h = outward-fit c acts h
outward-fit c (Act.Arm topic outgoing ∷ acts) h = outward-fit c acts h.1
outward-fit c (Act.Cancel topic ∷ acts) h = outward-fit c acts h
outward-fit c (Act.CancelProposes ∷ acts) h = outward-fit c acts h

-- ---- What is repeated

module _ (may_take : List Slot → Option ℕ → Type 0) where
  -- where no slot but the least free one is taken, it is taken for an act
  least-after : TakesLeast may_take → (act : Act) (before after : Repeating) → RepeatsAfter may_take act before after → RepeatsAfter takes_least act before after
  least-after least (Act.Step step) before after e = e
  least-after least (Act.Send to message) before after e = e
  least-after least (Act.Hand decision) before after e = e
  least-after least (Act.Save number) before after e = e
  least-after least (Act.Arm topic outgoing) before after e = (e.0, (least before.slots e.0 e.1.0, e.1.1), e.2)
  least-after least (Act.Cancel topic) before after e = e
  least-after least Act.CancelProposes before after e = e

  -- and for each of the acts
  least-repeats : TakesLeast may_take → (acts : List Act) (before after : Repeating) → Repeats may_take acts before after → Repeats takes_least acts before after
  least-repeats least [] before after e = e
  least-repeats least (act ∷ acts) before after e = (e.0, least-after least act before e.0 e.1, least-repeats least acts e.0 after e.2)

  -- a stage that performed the acts of a life, which is that of a stage of the model
  module _ (s : model.Stage) (acts : List Act) (before : Repeating) (p : Running) (keeps : KeepsLife s p.life) (sends : SendsFitly s.config acts) (repeats : Repeats may_take acts before p.repeating) (up : p.down ≡ false) where
    -- it lives as that stage, where what was repeated before may be sent
    lives-after : RepeatsFitly s.config before.slots → Lives s p
    lives-after fitly = record { keeps = keeps; fitly = repeats-are-fit may_take s.config before p.repeating acts sends fitly repeats; up = up }

    -- it stands for that stage, where each message was repeated in the least free slot, and before as the stage of the model has it
    stands-after : TakesLeast may_take → RepeatsFitly s.config before.slots → IsTight before → arming_of s ≡ armed_after (arming_in before) acts → Stands s p
    stands-after least fitly tight arming = record { keeps = keeps; arming = arming ∙ both.0; tight = both.1; fitly = (lives-after fitly).fitly; up = up }
      where
        both : (armed_after (arming_in before) acts ≡ arming_in p.repeating) × IsTight p.repeating
        both = arms-alike before p.repeating acts tight (least-repeats least acts before p.repeating repeats)

-- ---- Turns

module _ (s : model.Stage) (item : model.Item) (room : ℕ) (old : Running) (comes : Comes s item) (keeps : KeepsLife s old.life) where
  -- the turn of the life follows that of the model
  follows : Follows (model_turn.untouched s) (model_turn.turn s item room) (turn old.life (item_of item) room)
  follows = turns_alike s old.life item room keeps comes

  -- the stable number after it is that of the model
  stable-follows : (turn old.life (item_of item) room).life.stable ≡ (model_turn.turn s item room).stage.stable
  stable-follows = ap (λ (l : Life). l.stable) follows.keeps.is

module _ (may_take : List Slot → Option ℕ → Type 0) (s : model.Stage) (item : model.Item) (room : ℕ) (old new : Running) (out : List Act) (lives : Lives s old) (comes : Comes s item)
    (is : new.life ≡ (turn old.life (item_of item) room).life) (gone : out ≡ outward (turn old.life (item_of item) room).acts)
    (repeated : Repeats may_take (turn old.life (item_of item) room).acts old.repeating new.repeating) (up : new.down ≡ false) where
  -- the stage of the model after its turn
  abbrev turned : model.Stage
  turned = (model_turn.turn s item room).stage

  -- the acts of the life
  abbrev done : List Act
  done = (turn old.life (item_of item) room).acts

  -- the turns
  f : Follows (model_turn.untouched s) (model_turn.turn s item room) (turn old.life (item_of item) room)
  f = follows s item room old comes lives.keeps

  -- the life after the turn is that of the stage
  keeps-turned : KeepsLife turned new.life
  keeps-turned = subst (λ (l : Life). KeepsLife turned l) (sym is) f.keeps

  -- its messages may be sent
  sends-turned : SendsFitly turned.config done
  sends-turned = subst (λ (c : model.Config). SendsFitly c done) (sym f.config) f.sends

  -- what was repeated may be sent
  fitly-turned : RepeatsFitly s.config old.repeating.slots → RepeatsFitly turned.config old.repeating.slots
  fitly-turned h = subst (λ (c : model.Config). RepeatsFitly c old.repeating.slots) (sym f.config) h

  -- the stage that took the item took it as that of the model
  took : Took may_take s item room old out new
  took =
      record {
        acts = ap model_acts gone ∙ outward-acts done ∙ ap going_out (sym f.acts);
        sends = subst (λ (xs : List Act). SendsFitly s.config xs) (sym gone) (outward-fit s.config done f.sends);
        lives = lives-after may_take turned done old.repeating new keeps-turned sends-turned repeated up (fitly-turned lives.fitly);
        stands = λ least h. stands-after may_take turned done old.repeating new keeps-turned sends-turned repeated up least (fitly-turned h.fitly) h.tight (f.arming ∙ ap (λ (x : Arming). armed_after x done) h.arming);
      }

-- where a life took this item, and its stage performed the acts, the model's turn was taken
abbrev TookItem : (List Slot → Option ℕ → Type 0) → model.Stage → model.Item → ℕ → Running → List Act → Running → Item → Type 0
TookItem may_take s i room old out new item =
    new.life ≡ (turn old.life item room).life → out ≡ outward (turn old.life item room).acts → Repeats may_take (turn old.life item room).acts old.repeating new.repeating → new.down ≡ false
    → Took may_take s i room old out new

-- a stage whose life took a turn, and that performed its acts, follows the model's turn
pub turns-follow : TurnsFollow
turns-follow may_take item room old new out is gone repeated up s i lives comes same =
    subst (λ (x : Item). TookItem may_take s i room old out new x) same (took may_take s i room old new out lives comes) is gone repeated up

-- the stable number of its life after a turn is that of the model
pub turns-stable : TurnsStable
turns-stable s item room old lives comes = stable-follows s item room old comes lives.keeps

-- ---- Starts

-- nothing is repeated over slots at first
unarmed-tight : (slots : List Slot) → IsTight (unarmed slots)
unarmed-tight slots = record { repeated = λ a x. absurd x; apart = tt }

module _ (may_take : List Slot → Option ℕ → Type 0) (slots : List Slot) (config : Config) (stored : Option ℕ) (made : Running) (out : List Act) (o : IsOpened may_take slots config stored made out) (number : ℕ) where
  module _ (m : model_turn.Opened) (did : Turned) (is : o.opened ≡ did) (h : BeginsAlike (model_config config) (model_slots slots) m did) where
    -- the stage of the model that began
    abbrev begun : model.Stage
    begun = m.turned.stage

    -- the life that began is that of the stage
    keeps-begun : KeepsLife begun made.life
    keeps-begun = subst (λ (l : Life). KeepsLife begun l) (sym (o.life ∙ ap (λ (x : Turned). x.life) is)) h.keeps

    -- its messages may be sent
    sends-begun : SendsFitly begun.config did.acts
    sends-begun = subst (λ (c : model.Config). SendsFitly c did.acts) (sym h.config) h.sends

    -- what is repeated came from its acts
    repeated-begun : Repeats may_take did.acts (unarmed slots) made.repeating
    repeated-begun = subst (λ (x : Turned). Repeats may_take x.acts (unarmed slots) made.repeating) is o.repeated

    -- what goes out of them
    gone-begun : out ≡ outward did.acts
    gone-begun = o.gone_out ∙ ap (λ (x : Turned). outward x.acts) is

    -- what was repeated may be sent
    fitly-begun : RepeatsFitly (model_config config) slots → RepeatsFitly begun.config slots
    fitly-begun x = subst (λ (c : model.Config). RepeatsFitly c slots) (sym h.config) x

    -- the stage began as that of the model
    began : model_turn.opening (model_config config) (model_slots slots) number stored ≡ Some m → Began may_take slots config stored number made out
    began opening-is =
        record {
          opened = m;
          opening_is = opening-is;
          acts = ap model_acts gone-begun ∙ outward-acts did.acts ∙ ap going_out (sym h.acts);
          sends = subst (λ (xs : List Act). SendsFitly (model_config config) xs) (sym gone-begun) (outward-fit (model_config config) did.acts h.sends);
          keeps = keeps-begun;
          up = o.up;
          lives = λ x. lives-after may_take begun did.acts (unarmed slots) made keeps-begun sends-begun repeated-begun o.up (fitly-begun x);
          stands = λ least x. stands-after may_take begun did.acts (unarmed slots) made keeps-begun sends-begun repeated-begun o.up least (fitly-begun x) (unarmed-tight slots) h.arming;
        }

  -- a life begins where one does in the model
  began-alike : (m : Option model_turn.Opened) (did : Option Turned) → model_turn.opening (model_config config) (model_slots slots) number stored ≡ m → opening config stored ≡ did
      → AreAlike (model_config config) (model_slots slots) m did → Began may_take slots config stored number made out
  began-alike (Some m) (Some did) there here alike = let opens = o.opening_is in let same : o.opened ≡ did = cc in began m did same alike there
  began-alike None None there here alike = let opens = o.opening_is in absurd cc
  began-alike None (Some did) there here alike = absurd alike
  began-alike (Some m) None there here alike = absurd alike

-- a stage that began follows the model's opening
pub opens-follow : OpensFollow
opens-follow may_take slots config stored made out o number =
    began-alike may_take slots config stored made out o number (model_turn.opening (model_config config) (model_slots slots) number stored) (opening config stored) refl refl
    (openings_alike (model_config config) config.valid (model_slots slots) number stored)

-- ---- The number on the disk as a life begins

module _ (config : Config) (slots : List model.Slot) (number : ℕ) (stored : Option ℕ) (image : List ℕ) where
  -- the number that a life saves first is that of the model
  saved-first : (m : Option model_turn.Opened) (did : Option Turned) → model_turn.opening (model_config config) slots number stored ≡ m → opening config stored ≡ did → AreAlike (model_config config) slots m did
      → (t : Turned) → Opens config stored t → Loads image (Some t.life.stable) → LoadsAtStart (model_config config) slots number stored image
  saved-first (Some m) (Some did) there here alike t opens loads =
      let same : t ≡ did = cc in
      let stable : t.life.stable ≡ m.turned.stage.stable = ap (λ (x : Turned). x.life.stable) same ∙ ap (λ (l : Life). l.stable) alike.keeps.is in
      inr (m, there, subst (λ (n : ℕ). Loads image (Some n)) stable loads)
  saved-first None None there here alike t opens loads = absurd cc
  saved-first None (Some did) there here alike t opens loads = absurd alike
  saved-first (Some m) None there here alike t opens loads = absurd alike

  -- an image that a start may leave is one that a start of the model may leave
  pub stops-at-start : LoadsAtOpening config stored image → LoadsAtStart (model_config config) slots number stored image
  stops-at-start h =
      ⊎_elim (λ l. inl l)
      (λ l. saved-first (model_turn.opening (model_config config) slots number stored) (opening config stored) refl refl (openings_alike (model_config config) config.valid slots number stored) l.0 l.1 l.2) h.one

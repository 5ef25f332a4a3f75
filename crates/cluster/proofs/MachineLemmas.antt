-- Lives that begin on machines.
use Rattle.std.proofs.Common.{◌≡◌, ℕ, true, List, refl, sym, ap, subst}
use Rattle.std.specs.Prelude.{Option, Some, Result, Ok, Err, IfOk}
use Rattle.stable_store.specs.Slots.{Loads}
use Rattle.protocol_core.specs.declared.act.Act.{Act}
use Rattle.protocol_core.specs.declared.config.Config.{Config}
use Rattle.protocol_core.specs.Starting.{opening}
use Rattle.protocol_core.specs.Turned.{Turned}
use Rattle.replica_node.specs.Beginning.{Begins}
use Rattle.replica_node.specs.Whole.{Whole}
use Rattle.jp_types.specs.declared.memory.NoMemory.{NoMemory}
use Rattle.replica_node.specs.declared.stage.Stage.{Stage}
use Rattle.replica_node.specs.declared.stage.Stepped.{Stepped}
use Rattle.replica_node.specs.declared.stage.Stepped.TheVariants as answer
use Rattle.replica_node.specs.Steps.{Steps}
use Rattle.schedules.specs.declared.line.Word.{Word}
use Rattle.schedules.specs.declared.line.Word.TheVariants.{Done}
use Rattle.cluster.specs.declared.machine.Answer.{Answer}
use Rattle.cluster.specs.Machine.{Machine}
use Rattle.cluster.specs.Machines.{BeginsBy, is_answered, IsAnswered, KeepsDisk, StepsIf, stored_on}

-- a life begins on a machine, where there is an opening
pub life_begins : (config : Config) (m : Machine) (a : Whole) (acts : List Act) (disk : List ℕ)
    → Begins config (stored_on m.disk) a acts → Loads disk (Some a.stages.protocol.life.stable)
    → BeginsBy (opening config (stored_on m.disk)) config m Done acts (record { disk = disk; running = Some a })
life_begins config m a acts disk begins loads =
    subst (λ (o : Option Turned). BeginsBy o config m Done acts (record { disk = disk; running = Some a })) (sym begins.opened.opening_is)
    (record { a = a; begins = begins; up = refl; disk = loads; word_is = refl })

-- a stage on a machine took a step
pub step_taken : (at : Stage) (m : Machine) (a : Whole) (stepped : Stepped) (after : Whole) (disk : List ℕ) (new : Machine) (result : Result Answer NoMemory)
    → m.running ≡ Some a → Steps at a stepped after → (is_answered stepped ≡ true → KeepsDisk at m.disk after disk)
    → IfOk result (λ did. IsAnswered stepped did.word did.acts) → new ≡ record { disk = disk; running = Some after }
    → IfOk result (λ did. StepsIf at m m.running did.word did.acts new)
step_taken at m a stepped after disk new (Ok did) up does keeps answered new_is =
    subst (λ (x : Option Whole). StepsIf at m x did.word did.acts new) (sym up) (record {
      stepped = stepped;
      after = after;
      does = does;
      answered = answered;
      up = ap (λ (x : Machine). x.running) new_is;
      disk = subst (λ (x : List ℕ). KeepsDisk at m.disk after x) (sym (ap (λ (x : Machine). x.disk) new_is)) (keeps (answers stepped did.word did.acts answered));
    }) where
      answers : (stepped : Stepped) (word : Word) (acts : List Act) → IsAnswered stepped word acts → is_answered stepped ≡ true
      answers (answer.Done done) word acts h = refl
      answers answer.Empty word acts h = refl
      answers answer.Full word acts h = refl
      answers answer.Down word acts h = absurd h
      answers answer.StoreFault word acts h = absurd h
      answers answer.NoMemory word acts h = absurd h
step_taken at m a stepped after disk new (Err e) up does keeps answered new_is = tt

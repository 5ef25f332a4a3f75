-- Values as lists of numbers, to compare them in examples.
use Rattle.std.specs.Prelude.{ℕ, Bool, ◌&&◌, List, [], ◌∷◌, ◌++◌, length, flat_map, bytes_eq, ◌==◌, Option, Some, None}
use Rattle.jp_types.specs.declared.command.Command.{Command}
use Rattle.jp_types.specs.declared.command.Command.TheVariants.{Put, Get, Del, Cas}
use Rattle.jp_types.specs.declared.message.Entry.{Entry}
use Rattle.jp_types.specs.declared.message.Message.{Message}
use Rattle.paxos_world.specs.Life.{LifeId}
use Rattle.jp_types.specs.Instances.{Batch}

abbrev pub sized : List ℕ → List ℕ
sized xs = length xs ∷ xs

abbrev pub option_code : {A : Type 0} → (A → List ℕ) → Option A → List ℕ
option_code f None = 0 ∷ []
option_code f (Some x) = 1 ∷ f x

abbrev pub command_code : Command → List ℕ
command_code (Put key value) = 1 ∷ sized key ++ sized value
command_code (Get key) = 2 ∷ sized key
command_code (Del key) = 3 ∷ sized key
command_code (Cas key old new) = 4 ∷ sized key ++ option_code sized old ++ sized new

abbrev pub batch_code : Batch → List ℕ
batch_code batch = length batch ∷ flat_map (λ r. r.client ∷ r.number ∷ command_code r.command) batch

abbrev pub entry_code : Entry → List ℕ
entry_code e = e.instance ∷ option_code (λ v. v ∷ []) e.vote ++ batch_code e.batch

abbrev pub message_code : Message → List ℕ
message_code (Message.Prepare m) = 1 ∷ m.view ∷ m.first ∷ m.mark ∷ []
message_code (Message.PrepareOk m) = 2 ∷ m.view ∷ m.mark ∷ m.low ∷ m.vector ++ flat_map entry_code m.report
message_code (Message.Propose m) = 3 ∷ m.view ∷ m.instance ∷ batch_code m.batch
message_code (Message.Accept m) = 4 ∷ m.view ∷ m.instance ∷ []
message_code (Message.Recovery m) = 5 ∷ m.mark ∷ []
message_code (Message.RecoveryAnswer m) = 6 ∷ m.mark ∷ m.view ∷ m.vector ++ option_code (λ x. x ∷ []) m.next
message_code (Message.CatchUpQuery m) = 7 ∷ m.first ∷ []
message_code (Message.CatchUpReply m) = 8 ∷ m.first ∷ flat_map batch_code m.batches
message_code (Message.SnapshotPart m) = 9 ∷ m.upto ∷ m.total ∷ m.at ∷ m.bytes
message_code (Message.Alive m) = 10 ∷ m.view ∷ m.first_undecided ∷ []

abbrev pub same_message : Message → Message → Bool
same_message a b = bytes_eq (message_code a) (message_code b)

abbrev pub same_batch : Batch → Batch → Bool
same_batch a b = bytes_eq (batch_code a) (batch_code b)

abbrev pub same_life : LifeId → LifeId → Bool
same_life a b = (a.replica == b.replica) && (a.number == b.number)

abbrev pub same_next : Option ℕ → Option ℕ → Bool
same_next a b = bytes_eq (option_code (λ x. x ∷ []) a) (option_code (λ x. x ∷ []) b)

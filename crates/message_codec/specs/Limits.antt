-- Messages within their limits.
use Rattle.std.specs.Prelude.{◌≡◌, ℕ, ◌+◌, ◌^◌, ◌<◌, ◌≤◌, List, [], ◌∷◌, length}
use Rattle.jp_types.specs.Instances.{Batch}
use Rattle.jp_types.specs.Limits.{AreBytes, IsBatch}
use Rattle.jp_types.specs.Sizes.{batch_size}
use Rattle.jp_types.specs.declared.message.Entry.{Entry}
use Rattle.jp_types.specs.declared.message.Message.{Message}
use Rattle.jp_types.specs.declared.message.Prepare.{Prepare}
use Rattle.jp_types.specs.declared.message.PrepareOk.{PrepareOk}
use Rattle.jp_types.specs.declared.message.Propose.{Propose}
use Rattle.jp_types.specs.declared.message.Accept.{Accept}
use Rattle.jp_types.specs.declared.message.RecoveryAnswer.{RecoveryAnswer}
use Rattle.jp_types.specs.declared.message.CatchUpReply.{CatchUpReply}
use Rattle.jp_types.specs.declared.message.SnapshotPart.{SnapshotPart}
use Rattle.jp_types.specs.declared.message.Alive.{Alive}
use Rattle.frame_fields.specs.Laws.{AllFit, FitsIfThere}

-- a view, an instance, a mark or an epoch
abbrev pub IsCounter : ℕ → Type 0
IsCounter n = n ≤ 2 ^ 48

-- the number of a cluster
pub record IsCluster (cluster : ℕ) : Type 0 where
  pub some : 1 ≤ cluster
  pub limit : cluster ≤ 2 ^ 48

-- nine epochs
pub record IsVector (vector : List ℕ) : Type 0 where
  pub nine : length vector ≡ 9
  pub epochs : AllFit IsCounter vector

-- at most 1,024 requests, which take at most 65,536 bytes with their count
pub record IsSentBatch (batch : Batch) : Type 0 where
  pub requests : IsBatch batch
  pub count : length batch ≤ 1024
  pub size : batch_size batch ≤ 65536

-- an entry of a report
pub record IsEntry (e : Entry) : Type 0 where
  pub instance : IsCounter e.instance
  pub vote : FitsIfThere IsCounter e.vote
  pub batch : IsSentBatch e.batch

-- entries in ascending order of their instances, none of them below the least one
abbrev pub AscendFrom : ℕ → List Entry → Type 0
AscendFrom least [] = Unit {0}
AscendFrom least (e ∷ es) = (least ≤ e.instance) × AscendFrom (e.instance + 1) es

-- at most 1,024 entries in ascending order of their instances
pub record IsReport (report : List Entry) : Type 0 where
  pub entries : AllFit IsEntry report
  pub count : length report ≤ 1024
  pub ascending : AscendFrom 0 report

pub record IsPrepare (m : Prepare) : Type 0 where
  pub view : IsCounter m.view
  pub first : IsCounter m.first
  pub mark : IsCounter m.mark

pub record IsPrepareOk (m : PrepareOk) : Type 0 where
  pub view : IsCounter m.view
  pub mark : IsCounter m.mark
  pub vector : IsVector m.vector
  pub low : IsCounter m.low
  pub report : IsReport m.report

pub record IsPropose (m : Propose) : Type 0 where
  pub view : IsCounter m.view
  pub instance : IsCounter m.instance
  pub batch : IsSentBatch m.batch

pub record IsAccept (m : Accept) : Type 0 where
  pub view : IsCounter m.view
  pub instance : IsCounter m.instance

pub record IsRecoveryAnswer (m : RecoveryAnswer) : Type 0 where
  pub mark : IsCounter m.mark
  pub view : IsCounter m.view
  pub vector : IsVector m.vector
  pub next : FitsIfThere IsCounter m.next

pub record IsCatchUpReply (m : CatchUpReply) : Type 0 where
  pub first : IsCounter m.first
  pub some : 1 ≤ length m.batches
  pub limit : length m.batches ≤ 64
  pub batches : AllFit IsSentBatch m.batches

pub record IsSnapshotPart (m : SnapshotPart) : Type 0 where
  pub upto : IsCounter m.upto
  pub total : m.total ≤ 268435456
  pub at : m.at < 2 ^ 32
  pub size : length m.bytes ≤ 65536
  pub bytes : AreBytes m.bytes

pub record IsAlive (m : Alive) : Type 0 where
  pub view : IsCounter m.view
  pub first_undecided : IsCounter m.first_undecided

-- a message whose numbers, counts and lists are within their limits
abbrev pub IsMessage : Message → Type 0
IsMessage (Message.Prepare m) = IsPrepare m
IsMessage (Message.PrepareOk m) = IsPrepareOk m
IsMessage (Message.Propose m) = IsPropose m
IsMessage (Message.Accept m) = IsAccept m
IsMessage (Message.Recovery m) = IsCounter m.mark
IsMessage (Message.RecoveryAnswer m) = IsRecoveryAnswer m
IsMessage (Message.CatchUpQuery m) = IsCounter m.first
IsMessage (Message.CatchUpReply m) = IsCatchUpReply m
IsMessage (Message.SnapshotPart m) = IsSnapshotPart m
IsMessage (Message.Alive m) = IsAlive m

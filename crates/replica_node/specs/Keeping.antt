-- The disk of a replica.
use Rattle.std.specs.Prelude.{ℕ, List, Option, Some, None}
use Rattle.std.specs.List.{slice_get}
use Rattle.protocol_stage.specs.Running.{Running}
use Rattle.protocol_core.specs.declared.item.Item.{Item}
use Rattle.stable_store.specs.Slots.{Loads, Stands}
use Rattle.replica_node.specs.Taking.{turned}
use Rattle.replica_node.specs.declared.stage.Stage.{Stage}
use Rattle.replica_node.specs.declared.stage.Stage.TheVariants as stage
use Rattle.replica_node.specs.declared.stages.Stages.{Stages}

-- the disk is as the Protocol stage left it: its cell stands there, and each image that a crash may leave loads its life's stable number
pub record Keeps (p : Running) (size : ℕ) (seen : Option (List ℕ)) (images : List ℕ → Type 0) : Type 0 where
  pub stands : Stands p.cell size seen images
  pub loads : (image : List ℕ) → images image → Loads image (Some p.life.stable)

-- the stable number after the Protocol stage takes this item, if any
abbrev pub stable_with : Stages → Option Item → ℕ
stable_with s None = s.protocol.life.stable
stable_with s (Some item) = (turned s item).life.stable

-- the stable number after a step of a stage
abbrev pub stable_after : Stage → Stages → ℕ
stable_after stage.Batch s = s.protocol.life.stable
stable_after stage.Protocol s = stable_with s (slice_get s.dispatcher 0)
stable_after stage.Service s = s.protocol.life.stable
stable_after stage.Retransmit s = s.protocol.life.stable

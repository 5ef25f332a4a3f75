-- What contracts see of links and peers over the sockets of the system.
use Rattle.std.specs.Prelude.{ℕ}
use Rattle.links.specs.declared.received.Receipts.{Receipts}

-- a link over a socket
pub record Socketed : Type 0 where
  pub faults : ℕ
  pub received : Receipts

-- a peer that is reached over sockets
pub record Reached : Type 0 where
  pub faults : ℕ
  pub nones : ℕ

use Rattle.std.proofs.Common.{◌≡◌, refl, rules}
use Rattle.stable_store.specs.Disks.{overwritten}
use Rattle.stable_store.proofs.DiskLemmas.{torn_to}
use Rattle.stable_store.proofs.memory.MemoryDiskDisk.write_at.Goals as goal

pub returns-clause-images : goal.returns-clause-images
returns-clause-images c image is =
    let put : image ≡ overwritten c.args.at c.args.piece.now c.args.self.now = search rules in
    (c.args.self.now, refl, torn_to c.args.at c.args.piece.now c.args.self.now image c.requires put)

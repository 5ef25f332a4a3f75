-- The parts' limits add up to less than the batch's.
use Rattle.batcher.proofs.CutLemmas.{short_fits}
use Rattle.batcher.proofs.laws.short_requests_fit.Goals as goal

pub returns : goal.returns
returns c = short_fits

-- The runs of the code are those of the model.
use Rattle.cluster.proofs.Ready.{runs-ready}
use Rattle.cluster.proofs.Whole.{event-alike, opens-alike}
use Rattle.run_laws.specs.Laws.{RunsAlike, RunsPastAlike, DrawnAlike, DrawnPastAlike, DrawnWithin}
use Rattle.run_laws.proofs.Drawing as drawing
use Rattle.run_laws.proofs.Generated.{generate-is-runnable}
use Rattle.run_laws.proofs.Running as running

-- a run of a schedule is the model's
pub runs_alike : RunsAlike
runs_alike = running.runs-alike opens-alike event-alike runs-ready

-- a run that passes the limit is the model's, which does too
pub runs_past_alike : RunsPastAlike
runs_past_alike = running.runs-past-alike opens-alike event-alike runs-ready

-- what a seed draws line by line is what the model draws
pub drawn_alike : DrawnAlike
drawn_alike = drawing.drawn-alike opens-alike event-alike runs-ready

-- and passes the limit where the model's run does
pub drawn_past_alike : DrawnPastAlike
drawn_past_alike = drawing.drawn-past-alike opens-alike event-alike runs-ready

-- what the model draws is within the limits
pub generated_is_runnable : DrawnWithin
generated_is_runnable = generate-is-runnable

-- All parts of a turn go as the model's, and so does the turn.
use Rattle.protocol_laws.specs.Laws.{TurnsAlike, OpeningsAlike}
use Rattle.protocol_laws.proofs.Answering.{goes-prepare-ok, goes-recovery, goes-answer}
use Rattle.protocol_laws.proofs.CatchingUp.{goes-batch, goes-query, goes-batches}
use Rattle.protocol_laws.proofs.Handing.{goes-handing}
use Rattle.protocol_laws.proofs.Installing.{goes-snapshot, goes-part}
use Rattle.protocol_laws.proofs.Launching.{goes-learn-open, goes-launch}
use Rattle.protocol_laws.proofs.Opening as opening
use Rattle.protocol_laws.proofs.Preparing.{goes-prepared}
use Rattle.protocol_laws.proofs.Raising.{goes-phase-1, goes-raise-up, goes-suspect}
use Rattle.protocol_laws.proofs.Rejoining.{goes-rejoin}
use Rattle.protocol_laws.proofs.Taking.{goes-take}
use Rattle.protocol_laws.proofs.Ticking.{goes-hear, goes-alive, goes-tick}
use Rattle.protocol_laws.proofs.Turning as turning
use Rattle.protocol_laws.proofs.Voting.{goes-prepare, goes-propose, goes-accept}
use Rattle.protocol_laws.proofs.Waiting.{goes-waiting}

parts : turning.Parts
parts =
    record {
      take = goes-take;
      hear = goes-hear;
      prepare = goes-prepare goes-raise-up;
      prepare_ok = goes-prepare-ok;
      propose = goes-propose goes-raise-up;
      accept = goes-accept;
      recovery = goes-recovery goes-raise-up;
      answer = goes-answer;
      query = goes-query;
      batches = goes-batches goes-learn-open;
      part = goes-part;
      alive = goes-alive;
      tick = goes-tick;
      batch = goes-batch;
      suspect = goes-suspect;
      snapshot = goes-snapshot;
      rejoin = goes-rejoin;
      prepared = goes-prepared goes-learn-open goes-launch;
      waiting = goes-waiting;
      handing = goes-handing;
    }

-- the turn of a life is that of the model
pub turns_alike : TurnsAlike
turns_alike = turning.turns_alike parts

-- a life begins as a stage of the model does
pub openings_alike : OpeningsAlike
openings_alike = opening.openings_alike goes-phase-1

-- Answers of phase 1 and of recoveries, and the leader's word that it is alive.
use Rattle.std.specs.Prelude.{ℕ, ◌&&◌, [], ◌∷◌, length, nat_lt, ◌==◌, if◌then◌else◌, Option, Some, None}
use Rattle.jp_types.specs.declared.message.Alive.{Alive}
use Rattle.jp_types.specs.declared.message.Message.{Message}
use Rattle.jp_types.specs.declared.message.PrepareOk.{PrepareOk}
use Rattle.jp_types.specs.declared.message.RecoveryAnswer.{RecoveryAnswer}
use Rattle.jp_types.specs.Vectors.{merged, raised}
use Rattle.paxos_world.specs.declared.step.Step.{Step}
use Rattle.paxos_world.specs.Counting.{is_recovering}
use Rattle.paxos_world.specs.Leading.{is_working, is_view_ss}
use Rattle.proposer_core.specs.Proposing.{is_awaited, after_promise, vector_after, next_of}
use Rattle.recovery.specs.Rejoining.{after_answer}
use Rattle.protocol_core.specs.declared.act.Act.{Act}
use Rattle.protocol_core.specs.declared.life.Life.{Life}
use Rattle.protocol_core.specs.Leading.{raised_up_to}
use Rattle.protocol_core.specs.Turned.{Turned, stay, followed_by}
use Rattle.protocol_core.specs.Voting.{horizon_to, leads}

-- ---- PrepareOk

-- the proposer and the vector after a promise of p
abbrev pub with_promise : Life → ℕ → PrepareOk → Life
with_promise life p m = record life { proposer = after_promise life.proposer p m; vector = vector_after life.proposer life.vector m }

-- PrepareOk of a replica that the proposer counts: where it answers the phase 1 that the life is in, it is merged, it may be held, and the horizon rises to its `low`
abbrev pub on_prepare_ok : Life → ℕ → PrepareOk → Life
on_prepare_ok life p m =
    if nat_lt p life.proposer.n && is_awaited life.proposer.leading m then with_promise (horizon_to life m.low) p m else life

-- ---- Recovery

-- the vector's entry for p is at least the mark of its life. In ViewSS the vector stays all 0
abbrev pub with_entry : Life → ℕ → ℕ → Life
with_entry life p mark = if is_view_ss life.config.mode then life else (if nat_lt p 9 then record life { vector = raised life.vector p mark } else life)

-- a recovery of p is answered
abbrev pub answer_sent : Life → ℕ → ℕ → Turned
answer_sent life p mark =
    record {
      life = life;
      acts =
          Act.Step (Step.Answer life.config.me p life.view (next_of life.proposer.leading))
          ∷ Act.Send p (Message.RecoveryAnswer (record { mark = mark; view = life.view; vector = life.vector; next = next_of life.proposer.leading }))
          ∷ [];
    }

-- in ViewSS a Working life is raised to the mark of a recovery
abbrev pub raised_to_mark : Life → ℕ → Turned
raised_to_mark life mark = if is_view_ss life.config.mode then raised_up_to life mark else stay life

-- Recovery: a Working life answers. In ViewSS it first raises its view to the mark
abbrev pub on_recovery : Life → ℕ → ℕ → Turned
on_recovery life p mark =
    if is_working life.phase then followed_by (raised_to_mark life mark) (λ raised. answer_sent (with_entry raised p mark) p mark) else stay life

-- ---- RecoveryAnswer

-- the horizon is at least the instance, if there is one
abbrev pub horizon_to_next : Life → Option ℕ → Life
horizon_to_next life None = life
horizon_to_next life (Some next) = horizon_to life next

-- the rejoiner and the vector after an answer of p, which has the life's mark
abbrev pub with_answer : Life → ℕ → RecoveryAnswer → Life
with_answer life p m = record life { rejoiner = after_answer life.rejoiner p m; vector = merged life.vector m.vector }

-- an answer of p to this life: it is merged and may be held, and the horizon rises to its `next`
abbrev pub answer_taken : Life → ℕ → RecoveryAnswer → Life
answer_taken life p m = if m.mark == life.rejoiner.mark then horizon_to_next (with_answer life p m) m.next else life

-- RecoveryAnswer of a replica that the rejoiner counts, to a Recovering life
abbrev pub on_recovery_answer : Life → ℕ → RecoveryAnswer → Life
on_recovery_answer life p m = if is_recovering life.phase && nat_lt p (length life.rejoiner.answers) then answer_taken life p m else life

-- ---- Alive

-- Alive of the leader of its view: the horizon rises to the leader's first undecided instance, and a Working life raises its view to the Alive's
abbrev pub on_alive : Life → ℕ → Alive → Turned
on_alive life p m = if leads life p m.view then raised_up_to (horizon_to life m.first_undecided) m.view else stay life

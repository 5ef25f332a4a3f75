-- A life that recovers holds and counts answers as the model says, and so rejoins where the model says.
use Rattle.std.specs.Prelude.{◌≡◌, ◌≢◌, ℕ, ◌≤◌, ◌<◌, List, length, true}
use Rattle.jp_types.specs.declared.message.Message.{Message}
use Rattle.jp_types.specs.declared.message.RecoveryAnswer.{RecoveryAnswer}
use Rattle.jp_types.specs.declared.mode.Mode.{Mode}
use Rattle.jp_types.specs.declared.mode.Mode.TheVariants.{ViewSs}
use Rattle.jp_types.specs.Vectors.{entry, merged}
use Rattle.paxos_world.specs.Setup.{Setup}
use Rattle.paxos_world.specs.Life.{LifeId, Life}
use Rattle.paxos_world.specs.Counting.{is_recovering}
use Rattle.paxos_world.specs.World.{Take, life_after}
use Rattle.paxos_world.specs.Stage.{setup_of, Stage}
use Rattle.paxos_world.specs.Logs.{first_undecided}
use Rattle.paxos_world.specs.Settling as settling
use Rattle.recovery.specs.Rejoining.{Rejoining, rejoin_view, after_answer}
use Rattle.core_laws.specs.Holding.{KeepsAnswers}

-- a vector is all 0 in ViewSS
abbrev pub IsPlain : Mode → List ℕ → Type 0
IsPlain mode vector = mode ≡ ViewSs → (p : ℕ) → entry vector p ≡ 0

-- where the answers held are those of a life that recovers, the view to rejoin with is the model's
abbrev pub RejoinsAlike : Type 0
RejoinsAlike =
    (s : Stage) (own : List ℕ) (k : Rejoining) → 3 ≤ s.config.n → s.config.n ≤ 9 → is_recovering s.life.phase ≡ true → length k.answers ≡ s.config.n
    → KeepsAnswers (setup_of s.config) s.config.me s.life own k.answers
    → rejoin_view own k (first_undecided s) ≡ settling.rejoin_view s

-- and they still are after the life took one more answer to it
abbrev pub AnswersAreKept : Type 0
AnswersAreKept =
    (c : Setup) (r : ℕ) (l : Life) (own : List ℕ) (k : Rejoining) (from : LifeId) (m : RecoveryAnswer) → from.replica < length k.answers → from.replica ≢ r
    → is_recovering l.phase ≡ true → m.mark ≡ l.mark → IsPlain c.mode m.vector → KeepsAnswers c r l own k.answers
    → KeepsAnswers c r (life_after c r l (Take from (Message.RecoveryAnswer m))) (merged own m.vector) (after_answer k from.replica m).answers

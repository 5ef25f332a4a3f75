-- When the replies that a core holds are those that a life holds by what it took.
use Rattle.std.specs.Prelude.{◌≡◌, ◌≢◌, ℕ, List, Option, None}
use Rattle.std.specs.Option.{option_map}
use Rattle.jp_types.specs.declared.message.PrepareOk.{PrepareOk}
use Rattle.jp_types.specs.declared.message.RecoveryAnswer.{RecoveryAnswer}
use Rattle.jp_types.specs.Vectors.{table}
use Rattle.paxos_world.specs.Setup.{Setup}
use Rattle.paxos_world.specs.Life.{Life}
use Rattle.paxos_world.specs.Counting.{Held, entry_in, held_ok, held_answer}
use Rattle.epoch_vectors.specs.Replies.{Replies, reply_of}

-- a held PrepareOk, as its vector and itself
abbrev pub as_ok : Option (Held PrepareOk) → Option (List ℕ × PrepareOk)
as_ok held = option_map (λ h. (h.body.vector, h.body)) held

-- a held RecoveryAnswer, as its vector and itself
abbrev pub as_answer : Option (Held RecoveryAnswer) → Option (List ℕ × RecoveryAnswer)
as_answer held = option_map (λ h. (h.body.vector, h.body)) held

-- the own vector is that of a life of r
abbrev pub KeepsVector : Setup → ℕ → Life → List ℕ → Type 0
KeepsVector c r l own = own ≡ table (entry_in c.mode r l)

-- the own vector is that of a life of r, and the replies are the PrepareOks that it holds for the view that it prepares
pub record KeepsOks (c : Setup) (r : ℕ) (l : Life) (own : List ℕ) (replies : Replies PrepareOk) : Type 0 where
  pub vector : KeepsVector c r l own
  pub held : (p : ℕ) → reply_of replies p ≡ as_ok (held_ok l.mark l.view p l.taken)

-- the own vector is that of a life of r, and the replies are the RecoveryAnswers of other replicas that it holds
pub record KeepsAnswers (c : Setup) (r : ℕ) (l : Life) (own : List ℕ) (replies : Replies RecoveryAnswer) : Type 0 where
  pub vector : KeepsVector c r l own
  pub none : reply_of replies r ≡ None
  pub held : (p : ℕ) → p ≢ r → reply_of replies p ≡ as_answer (held_answer l.mark p l.taken)

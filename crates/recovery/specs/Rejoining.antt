-- The answers to a life that recovers, and when it rejoins.
use Rattle.std.specs.Prelude.{◌≡◌, ◌≤◌, ℕ, zero, suc, max, Bool, true, false, ◌&&◌, List, length, nat_le, ◌==◌, if◌then◌else◌, Option, Some, None}
use Rattle.jp_types.specs.declared.message.RecoveryAnswer.{RecoveryAnswer}
use Rattle.jp_types.specs.Views.{majority, leader, count_below, number_if}
use Rattle.jp_types.specs.Vectors.{is_less_answer}
use Rattle.epoch_vectors.specs.Replies.{Replies, no_replies, reply_of, with_reply, is_counted}

-- an answer that is held, with its vector
abbrev pub Answer : Type 0
Answer = List ℕ × RecoveryAnswer

-- the mark of a life that recovers, and the answers that it holds, with one place for each replica
pub record Rejoining : Type 0 where
  pub mark : ℕ
  pub answers : Replies RecoveryAnswer

-- how many replicas there are
abbrev pub replicas : Rejoining → ℕ
replicas k = length k.answers

-- a life of one of n replicas that has no answer yet
abbrev pub asking : ℕ → ℕ → Rejoining
asking n mark = record { mark = mark; answers = no_replies n }

-- whether an answer of p is to take the place of what is held: nothing, or a lesser answer
abbrev pub is_better : ℕ → Option Answer → RecoveryAnswer → Bool
is_better p None m = true
is_better p (Some held) m = is_less_answer p held.1 m

-- an answer of p is held, where it is better than the held one
abbrev pub after_answer : Rejoining → ℕ → RecoveryAnswer → Rejoining
after_answer k p m = if is_better p (reply_of k.answers p) m then record k { answers = with_reply k.answers p m.vector m } else k

-- the counted answer of p, by the own vector
abbrev pub counted_answer : List ℕ → Rejoining → ℕ → Option Answer
counted_answer own k p = if is_counted own k.answers p then reply_of k.answers p else None

-- the view of an answer, and 0 where there is none
abbrev pub view_of_answer : Option Answer → ℕ
view_of_answer None = 0
view_of_answer (Some answer) = answer.1.view

-- the highest view of the counted answers of the replicas below p
abbrev pub highest_answered : ℕ → List ℕ → Rejoining → ℕ
highest_answered zero own k = 0
highest_answered (suc p) own k = max (highest_answered p own k) (view_of_answer (counted_answer own k p))

-- whether there is a `next`, and it is at most the first undecided instance
abbrev pub is_next_known : Option ℕ → ℕ → Bool
is_next_known None undecided = false
is_next_known (Some next) undecided = nat_le next undecided

-- whether the answer of a view's leader is counted, is at that view and has a `next` below which all instances are known
abbrev pub is_leader_ready : Option Answer → ℕ → ℕ → Bool
is_leader_ready None view undecided = false
is_leader_ready (Some answer) view undecided = (answer.1.view == view) && is_next_known answer.1.next undecided

-- whether the answers of a majority are counted
abbrev pub is_answered_enough : List ℕ → Rejoining → Bool
is_answered_enough own k = nat_le (majority (replicas k)) (count_below (replicas k) (is_counted own k.answers))

-- the view to rejoin with, where the condition holds
abbrev pub rejoin_view : List ℕ → Rejoining → ℕ → Option ℕ
rejoin_view own k undecided =
    let view = highest_answered (replicas k) own k in
    number_if (is_answered_enough own k && is_leader_ready (counted_answer own k (leader (replicas k) view)) view undecided) view

-- the answer of a view's leader is counted, is at that view, and has a `next` below which all instances are known
pub record LeaderIsReady (own : List ℕ) (k : Rejoining) (undecided view : ℕ) : Type 0 where
  pub answer : Answer
  pub next : ℕ
  pub counted : counted_answer own k (leader (replicas k) view) ≡ Some answer
  pub at : answer.1.view ≡ view
  pub prepared : answer.1.next ≡ Some next
  pub known : next ≤ undecided

-- the life may rejoin in this view: the answers of a majority are counted, none of them is of a higher view, and the view's leader is ready
pub record MayRejoin (own : List ℕ) (k : Rejoining) (undecided view : ℕ) : Type 0 where
  pub enough : majority (replicas k) ≤ count_below (replicas k) (is_counted own k.answers)
  pub highest : (p : ℕ) (answer : Answer) → counted_answer own k p ≡ Some answer → answer.1.view ≤ view
  pub ready : LeaderIsReady own k undecided view

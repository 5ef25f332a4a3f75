-- Where the answers held are those of a life that recovers, the view to rejoin with is the model's.
use Rattle.std.proofs.Common.{◌≡◌, ℕ, zero, suc, ◌≤◌, ◌<◌, Bool, true, false, ◌&&◌, List, length, nat_le, ◌==◌, Option, Some, None, is_some, refl, sym, ap, ◌∙◌, arith}
use Rattle.jp_types.specs.declared.message.RecoveryAnswer.{RecoveryAnswer}
use Rattle.jp_types.specs.Views.{majority, leader, count_below}
use Rattle.paxos_world.specs.Counting.{Held, is_recovering, is_answered}
use Rattle.paxos_world.specs.Stage.{setup_of, Stage}
use Rattle.paxos_world.specs.Logs.{first_undecided}
use Rattle.paxos_world.specs.Settling as settling
use Rattle.epoch_vectors.specs.Replies.{Replies, reply_of, is_counted}
use Rattle.recovery.specs.Rejoining as core
use Rattle.recovery.specs.Rejoining.{Rejoining}
use Rattle.core_laws.specs.Holding.{as_answer, KeepsAnswers}
use Rattle.core_laws.specs.RejoinLaws.{RejoinsAlike}
use Rattle.core_laws.proofs.Alike.{count-alike}
use Rattle.core_laws.proofs.ReplyLemmas.{answer-counted}
use Rattle.core_laws.specs.KeptLaws.{counted_reply}

counted-some : {A : Type 0} (own : List ℕ) (replies : Replies A) (p : ℕ) → is_counted own replies p ≡ is_some (counted_reply own replies p)
counted-some {A} own replies p = by (reply_of replies p) refl (is_counted own replies p) refl
  where
    by : (o : Option (List ℕ × A)) → reply_of replies p ≡ o → (b : Bool) → is_counted own replies p ≡ b → is_counted own replies p ≡ is_some (counted_reply own replies p)
    by o e false t = t ∙ ap is_some (sym (off t))
      where
        off : is_counted own replies p ≡ false → counted_reply own replies p ≡ None
        off f = rw f refl
    by None e true t = absurd cc
    by (Some x) e true t = t ∙ ap is_some (sym (on t))
      where
        on : is_counted own replies p ≡ true → counted_reply own replies p ≡ Some x
        on f = rw f e

some-as : (h : Option (Held RecoveryAnswer)) → is_some (as_answer h) ≡ is_some h
some-as None = refl
some-as (Some h) = refl

view-as : (h : Option (Held RecoveryAnswer)) → core.view_of_answer (as_answer h) ≡ settling.view_of_answer h
view-as None = refl
view-as (Some h) = refl

next-alike : (n : Option ℕ) (u : ℕ) → core.is_next_known n u ≡ settling.is_next_known n u
next-alike None u = refl
next-alike (Some n) u = refl

ready-as : (h : Option (Held RecoveryAnswer)) (v u : ℕ) → core.is_leader_ready (as_answer h) v u ≡ settling.is_leader_ready h v u
ready-as None v u = refl
ready-as (Some h) v u = ap (λ b. (h.body.view == v) && b) (next-alike h.body.next u)

module _ (s : Stage) (own : List ℕ) (k : Rejoining) (h : KeepsAnswers (setup_of s.config) s.config.me s.life own k.answers) where
  at : (p : ℕ) → p < 9 → core.counted_answer own k p ≡ as_answer (settling.answer_from s p)
  at p lt = answer-counted (setup_of s.config) s.config.me s.life own k.answers p h lt

  highest : (p : ℕ) → p ≤ 9 → core.highest_answered p own k ≡ settling.highest_answered p s
  highest zero le = refl
  highest (suc p) le =
      let before = highest p (omega arith) in
      let here = ap core.view_of_answer (at p (omega arith)) ∙ view-as (settling.answer_from s p) in
      cc

  answered : (p : ℕ) → p < 9 → is_counted own k.answers p ≡ is_answered (setup_of s.config) s.config.me s.life p
  answered p lt = counted-some own k.answers p ∙ ap is_some (at p lt) ∙ some-as (settling.answer_from s p)

  alike : 3 ≤ s.config.n → s.config.n ≤ 9 → is_recovering s.life.phase ≡ true → length k.answers ≡ s.config.n → core.rejoin_view own k (first_undecided s) ≡ settling.rejoin_view s
  alike least most recovering size =
      let n = s.config.n in
      let undecided = first_undecided s in
      let top : core.highest_answered (core.replicas k) own k ≡ settling.highest_answered n s = ap (λ (j : ℕ). core.highest_answered j own k) size ∙ highest n most in
      let view = settling.highest_answered n s in
      let counts : count_below n (is_counted own k.answers) ≡ count_below n (is_answered (setup_of s.config) s.config.me s.life) = count-alike n _ _ (λ p lt. answered p (omega arith)) in
      let enough : core.is_answered_enough own k ≡ settling.is_answered_enough s = ap (λ (j : ℕ). nat_le (majority j) (count_below j (is_counted own k.answers))) size ∙ ap (nat_le (majority n)) counts in
      let low : leader n view < n = omega arith in
      let ready : core.is_leader_ready (core.counted_answer own k (leader n view)) view undecided ≡ settling.is_leader_ready (settling.answer_from s (leader n view)) view undecided
      = ap (λ (o : Option core.Answer). core.is_leader_ready o view undecided) (at (leader n view) (omega arith)) ∙ ready-as (settling.answer_from s (leader n view)) view undecided in
      cc

pub rejoins_alike : RejoinsAlike
rejoins_alike s own k least most recovering size h = alike s own k h least most recovering size

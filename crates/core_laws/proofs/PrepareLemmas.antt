-- A leader in phase 1 becomes Prepared where the model says, and then proposes what the model says.
use Rattle.std.proofs.Common.{◌≡◌, ℕ, zero, suc, ◌+◌, ◌-◌, min, max, ◌≤◌, ◌<◌, Bool, true, false, ◌&&◌, List, nat_le, nat_lt, Option, Some, None, if◌then◌else◌, Ok, Err, inl, inr, refl, ap, ◌∙◌, arith}
use Rattle.std.specs.Option.{option_map}
use Rattle.std.specs.FinMap as map
use Rattle.std.proofs.lemmas.Bool.Decides.{nat_tests, leb_tells}
use Rattle.jp_types.specs.declared.message.Entry.{Entry}
use Rattle.jp_types.specs.declared.message.PrepareOk.{PrepareOk}
use Rattle.jp_types.specs.Views.{majority, number_if}
use Rattle.jp_types.specs.ReplicaSets.{is_member}
use Rattle.jp_types.specs.Instances.{Batch, span}
use Rattle.jp_types.specs.Reports.{report_end, decided_below, highest_below}
use Rattle.paxos_world.specs.Life.{Leading, No, Preparing, Leads}
use Rattle.paxos_world.specs.Counting as counting
use Rattle.paxos_world.specs.Counting.{Held, counted_ok}
use Rattle.paxos_world.specs.Adoption as adopting
use Rattle.paxos_world.specs.Adoption.{counted_report, adopted_by}
use Rattle.paxos_world.specs.Stage.{setup_of, Stage}
use Rattle.paxos_world.specs.Logs as logs
use Rattle.paxos_world.specs.Settling as settling
use Rattle.epoch_vectors.specs.Replies.{Replies, reply_of, is_counted, counted_set}
use Rattle.replica_log.specs.Log.{Log}
use Rattle.proposer_core.specs.declared.leading.Leading as proposer
use Rattle.proposer_core.specs.Counting.{promise_in, report_of, low_of, report_in, low_in, is_promised, is_promised_enough, greatest_low, reported_end}
use Rattle.proposer_core.specs.Adoption.{own_end, adoption_end, is_prepared, adopted_batch, launches_from, adoption}
use Rattle.proposer_core.specs.declared.not_now.NotNow.{NotNow}
use Rattle.proposer_core.specs.declared.not_now.NotNow.TheVariants.{Waiting}
use Rattle.proposer_core.specs.Window.{limit, offered_below}
use Rattle.core_laws.specs.Keeping.{KeepsLog}
use Rattle.core_laws.specs.Holding.{as_ok, KeepsOks}
use Rattle.core_laws.specs.PrepareLaws.{leading_as, launches_of, PreparesAsTheModel, ok_of, OffersAlike}
use Rattle.core_laws.proofs.Alike.{count-alike, decided-alike, highest-alike}
use Rattle.core_laws.proofs.LogLemmas.{logs_are_read}
use Rattle.core_laws.proofs.ReplyLemmas.{ok-counted, ok-is}

-- ---- The set of the counted replicas

pub in-set : {A : Type 0} (own : List ℕ) (held : Replies A) (p : ℕ) → p < 9 → is_member (counted_set own held) p ≡ is_counted own held p
in-set own held zero lt = refl
in-set own held (suc zero) lt = refl
in-set own held (suc (suc zero)) lt = refl
in-set own held (suc (suc (suc zero))) lt = refl
in-set own held (suc (suc (suc (suc zero)))) lt = refl
in-set own held (suc (suc (suc (suc (suc zero))))) lt = refl
in-set own held (suc (suc (suc (suc (suc (suc zero)))))) lt = refl
in-set own held (suc (suc (suc (suc (suc (suc (suc zero))))))) lt = refl
in-set own held (suc (suc (suc (suc (suc (suc (suc (suc zero)))))))) lt = refl
in-set own held (suc (suc (suc (suc (suc (suc (suc (suc (suc p))))))))) lt = absurd (omega arith)

second-if : (b : Bool) (o : Option (List ℕ × PrepareOk)) → (if b then option_map (λ reply. reply.1) o else None) ≡ option_map (λ reply. reply.1) (if b then o else None)
second-if true o = refl
second-if false o = refl

body-as : (h : Option (Held PrepareOk)) → option_map (λ reply. reply.1) (as_ok h) ≡ option_map (λ x. x.body) h
body-as None = refl
body-as (Some h) = refl

report-as : (h : Option (Held PrepareOk)) → report_of (option_map (λ x. x.body) h) ≡ adopting.report_in h
report-as None = refl
report-as (Some h) = refl

low-as : (h : Option (Held PrepareOk)) → low_of (option_map (λ x. x.body) h) ≡ settling.low_of h
low-as None = refl
low-as (Some h) = refl

module _ (s : Stage) (own : List ℕ) (held : Replies PrepareOk) (h : KeepsOks (setup_of s.config) s.config.me s.life own held) where
  -- what the life counts of p
  abbrev counted : ℕ → Option (Held PrepareOk)
  counted p = counted_ok (setup_of s.config) s.config.me s.life p

  promised : (p : ℕ) → p < 9 → promise_in (counted_set own held) held p ≡ option_map (λ x. x.body) (counted p)
  promised p lt =
      let member = in-set own held p lt in
      let reply = ok-counted (setup_of s.config) s.config.me s.life own held p h lt in
      ap (λ b. if b then option_map (λ reply. reply.1) (reply_of held p) else None) member
      ∙ second-if (is_counted own held p) (reply_of held p)
      ∙ ap (option_map (λ reply. reply.1)) reply
      ∙ body-as (counted p)

  report-at : (p : ℕ) → p < 9 → report_in (counted_set own held) held p ≡ counted_report (setup_of s.config) s.config.me s.life p
  report-at p lt = ap report_of (promised p lt) ∙ report-as (counted p)

  low-at : (p : ℕ) → p < 9 → low_in (counted_set own held) held p ≡ settling.low_of (counted p)
  low-at p lt = ap low_of (promised p lt) ∙ low-as (counted p)

  lows : (k : ℕ) → k ≤ 9 → greatest_low k (counted_set own held) held ≡ settling.greatest_low k s
  lows zero le = refl
  lows (suc k) le = let before = lows k (omega arith) in let here = low-at k (omega arith) in cc

  ends : (k : ℕ) → k ≤ 9 → reported_end k (counted_set own held) held ≡ settling.reported_end k s
  ends zero le = refl
  ends (suc k) le = let before = ends k (omega arith) in let here = ap report_end (report-at k (omega arith)) in cc

  counts : (p : ℕ) → p < 9 → is_promised (counted_set own held) s.config.me p ≡ counting.is_promised (setup_of s.config) s.config.me s.life p
  counts p lt =
      let member = in-set own held p lt ∙ ok-is (setup_of s.config) s.config.me s.life own held p h lt in
      cc

  enough : s.config.n ≤ 9 → is_promised_enough (counted_set own held) s.config.n s.config.me ≡ settling.is_promised_enough s
  enough le = ap (nat_le (majority s.config.n)) (count-alike s.config.n _ _ (λ p lt. counts p (omega arith)))

-- ---- The own log

own-ends : (k : ℕ) (s : Stage) (l : Log) (first : ℕ) → KeepsLog s l → own_end k l first ≡ settling.own_end k s.life s.base first
own-ends zero s l first h = refl
own-ends (suc k) s l first h =
    let before = own-ends k s l first h in
    let base = h.base in
    let known = h.known (s.base + k) (omega arith) in
    let vote = h.votes (s.base + k) (omega arith) in
    cc

module _ (s : Stage) (l : Log) (own : List ℕ) (held : Replies PrepareOk) (first : ℕ) (le : s.config.n ≤ 9) (keeps : KeepsLog s l) (h : KeepsOks (setup_of s.config) s.config.me s.life own held) where
  abbrev reports : ℕ → List Entry
  reports = report_in (counted_set own held) held

  abbrev told : ℕ → List Entry
  told = counted_report (setup_of s.config) s.config.me s.life

  end-alike : adoption_end s.config.n (counted_set own held) held l first ≡ settling.adoption_end s first
  unfolding adoption_end settling.adoption_end
  end-alike = let a = ends s own held h s.config.n le in let b = own-ends span s l first keeps in cc

  prepared-alike : is_prepared s.config.n s.config.me (counted_set own held) held l first ≡ settling.is_prepared s first
  prepared-alike =
      let read = logs_are_read s l keeps in
      let a = enough s own held h le in
      let b = lows s own held h s.config.n le in
      let c = end-alike in
      let u = read.first_undecided in
      let e = read.span_end in
      cc

  decided-at : (i : ℕ) → decided_below s.config.n reports i ≡ decided_below s.config.n told i
  decided-at i = decided-alike s.config.n reports told i (λ p lt. report-at s own held h p (omega arith))

  batch-at : (i : ℕ) → s.base ≤ i → adopted_batch s.config.n reports l i ≡ adopted_by s.config.n told s.life i
  batch-at i low =
      let known = keeps.known i low in
      let vote = keeps.votes i low in
      let decided = decided-at i in
      let highest = highest-alike s.config.n reports told (s.life.votes i) i (λ p lt. report-at s own held h p (omega arith)) in
      let moved : highest_below s.config.n reports (map.get l.votes i) i ≡ highest_below s.config.n told (s.life.votes i) i = ap (λ (o : Option (ℕ × Batch)). highest_below s.config.n reports o i) vote ∙ highest in
      cc

  launches-alike : (k i : ℕ) → s.base ≤ i → launches_from k s.config.n reports l i ≡ launches_of k s i
  launches-alike zero i low = refl
  launches-alike (suc k) i low =
      let rest = launches-alike k (suc i) (omega arith) in
      let read = logs_are_read s l keeps in
      let known = read.known i in
      let batch = batch-at i low in
      let decided = decided-at i in
      cc

  next-alike : (adoption s.config.n (counted_set own held) held l first).next ≡ max (settling.adoption_end s first) (logs.first_undecided s)
  next-alike = let read = logs_are_read s l keeps in let u = read.first_undecided in let e = end-alike in cc

  all-alike : (adoption s.config.n (counted_set own held) held l first).launches ≡ launches_of (settling.adoption_end s first - max first s.base) s (max first s.base)
  all-alike =
      let e = end-alike in
      let base = keeps.base in
      let moved : (adoption s.config.n (counted_set own held) held l first).launches ≡ launches_from (settling.adoption_end s first - max first s.base) s.config.n reports l (max first s.base) = cc in
      moved ∙ launches-alike (settling.adoption_end s first - max first s.base) (max first s.base) (omega arith)

pub prepares_as_the_model : PreparesAsTheModel
prepares_as_the_model s l own q first le keeps is h =
    let n = is.n in
    let me = is.me in
    let prepared = prepared-alike s l own q.held first le keeps h in
    let next = next-alike s l own q.held first le keeps h in
    let launches = all-alike s l own q.held first le keeps h in
    record { prepared = cc; next = cc; launches = cc }

-- ---- Offers

pub below-both : (x a b : ℕ) → nat_lt x (min a b) ≡ (nat_lt x a && nat_lt x b)
below-both x a b = elim (leb_tells (suc x) a) [
  | inl p ↦ elim (leb_tells (suc x) b) [
    | inl q ↦ (let t = p.0 in let u = q.0 in let v : nat_lt x (min a b) ≡ true = grind (arith, nat_tests) in v ∙ cc)
    | inr q ↦ (let t = p.0 in let u = q.0 in let ge = q.1 in let v : nat_lt x (min a b) ≡ false = grind (arith, nat_tests) in v ∙ cc)
  ]
  | inr p ↦ (let t = p.0 in let ge = p.1 in let v : nat_lt x (min a b) ≡ false = grind (arith, nat_tests) in v ∙ cc)
]

place-alike : (leading : Leading) (view mark : ℕ) (s : Stage) (end : ℕ) (batch : Batch) → end ≡ min (logs.first_undecided s + s.config.window) (logs.span_end s)
    → ok_of (offered_below (leading_as leading view mark) end batch) ≡ settling.place_in leading s
place-alike No view mark s end batch e = refl
place-alike (Preparing first) view mark s end batch e = refl
place-alike (Leads lead) view mark s end batch e =
    let both = below-both lead.next (logs.first_undecided s + s.config.window) (logs.span_end s) in
    let test : nat_lt lead.next end ≡ (nat_lt lead.next (logs.first_undecided s + s.config.window) && nat_lt lead.next (logs.span_end s)) = ap (nat_lt lead.next) e ∙ both in
    by (nat_lt lead.next end) ∙ ap (λ b. number_if b lead.next) test
  where
    by : (b : Bool) → ok_of {E = NotNow × Batch} (if b then Ok lead.next else Err (Waiting end, batch)) ≡ number_if b lead.next
    by true = refl
    by false = refl

pub offers_alike : OffersAlike
offers_alike s l q batch keeps is =
    let read = logs_are_read s l keeps in
    let u = read.first_undecided in
    let e = read.span_end in
    let w = is.window in
    let end : limit q l ≡ min (logs.first_undecided s + s.config.window) (logs.span_end s) = cc in
    ap (λ (x : proposer.Leading). ok_of (offered_below x (limit q l) batch)) is.leading ∙ place-alike s.life.leading s.life.view s.life.mark s (limit q l) batch end

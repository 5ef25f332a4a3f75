-- Fronts of a schedule's lines: the cluster after them, and the bytes of the messages that were sent.
use Rattle.std.proofs.Common.{◌≡◌, ℕ, ◌+◌, ◌≤◌, ◌<◌, true, List, [], ◌∷◌, ◌++◌, map, nat_lt, sum_by, refl, sym, ap, subst, ◌∙◌, inl, inr, arith, append-nil, append_assoc}
use Rattle.std.proofs.lemmas.Bool.Decides.{nat_tests}
use Rattle.std.proofs.lemmas.List.Sums.{sum_by-append, sum_by-cons}
use Rattle.jp_types.specs.Sizes.{frame_size}
use Rattle.jp_types.specs.Lists.{In}
use Rattle.paxos_world.specs.World as world
use Rattle.paxos_world.specs.World.{World, Move, opening}
use Rattle.paxos_world.specs.Trace.{end_of}
use Rattle.paxos_world.specs.Shown.{sends_along}
use Rattle.paxos_world.proofs.Turning.{end-sent}
use Rattle.schedules.specs.declared.line.Line.{Line}
use Rattle.schedules.specs.declared.schedule.Schedule.{Schedule}
use Rattle.cluster.specs.declared.sent.Sent.{Sent}
use Rattle.schedules.specs.Cluster.{Cluster}
use Rattle.cluster.specs.Frames.{frame_bytes, frame_limit}
use Rattle.schedules.specs.Run.{event, cluster_after, first_event, sent_bytes, sends_too_much}
use Rattle.cluster.specs.Stepping.{Stepping}
use Rattle.cluster_laws.specs.Laws.{IsSchedule, setup_of_run, steps_over, steps_after, world_after, after_lines}
use Rattle.cluster_laws.proofs.Schedules.{Reached, reached, steps-append, end-append}
use Rattle.turn_laws.proofs.StateFitting.{states-read}
use Rattle.cluster.specs.Resembling.{sent_of, IsCluster}

-- ---- The bytes of the frames

-- the bytes of a message's frame, in the model
abbrev model_size : world.Sent → ℕ
model_size m = frame_size m.message

-- the bytes of a message's frame, in the code
abbrev size : Sent → ℕ
size m = frame_size m.message

-- messages have the same bytes in the code as in the model
bytes-of : (xs : List world.Sent) → sum_by size (map sent_of xs) ≡ sum_by model_size xs
bytes-of [] = refl
bytes-of (x ∷ xs) = sum_by-cons size (sent_of x) (map sent_of xs) ∙ ap (λ (n : ℕ). frame_size x.message + n) (bytes-of xs) ∙ sym (sum_by-cons model_size x xs)

-- the frames of a run have the bytes of the cluster's
pub bytes-alike : (c : Cluster) (s : Stepping) → IsCluster c s → frame_bytes s.sent ≡ sent_bytes c
bytes-alike c s h = ap frame_bytes h.sent ∙ bytes-of c.sent

-- ---- Fronts of a schedule

-- a front of a list of lines has only lines of the list
front-in : (line : Line) (xs ys : List Line) → In line xs → In line (xs ++ ys)
front-in line [] ys n = absurd n
front-in line (x ∷ xs) ys (inl e) = inl e
front-in line (x ∷ xs) ys (inr n) = inr (front-in line xs ys n)

-- after a front of a schedule's lines the cluster matches the world
pub reached-by : (schedule : Schedule) → IsSchedule schedule → (lines more : List Line) → schedule.lines ≡ lines ++ more → Reached schedule.head (steps_after schedule lines) (after_lines schedule lines)
reached-by schedule is lines more e =
    reached schedule.head states-read is.some lines (λ line n. is.lines line (subst (λ (xs : List Line). In line xs) (sym e) (front-in line lines more n)))

-- the cluster after two runs of lines is the one after the second from the one after the first
pub after-append : (c : Cluster) (xs ys : List Line) → cluster_after c (xs ++ ys) ≡ cluster_after (cluster_after c xs) ys
after-append c [] ys = refl
after-append c (x ∷ xs) ys = after-append (event c x).cluster xs ys

-- the messages after more lines are those after a front, and more
sent-more : (schedule : Schedule) → IsSchedule schedule → (lines more : List Line) → schedule.lines ≡ lines ++ more
    → (xs : List world.Sent) × ((after_lines schedule (lines ++ more)).sent ≡ (after_lines schedule lines).sent ++ xs)
sent-more schedule is lines more e =
    let front = reached-by schedule is lines more e in
    let all = reached-by schedule is (lines ++ more) [] (e ∙ sym (append-nil (lines ++ more))) in
    let c = setup_of_run schedule in
    let first = first_event schedule.head in
    let w = world_after schedule lines in
    let moves = steps_over (after_lines schedule lines) more in
    let steps : steps_after schedule (lines ++ more) ≡ steps_after schedule lines ++ moves
    = ap (λ ms. first.moves ++ ms) (steps-append first.cluster lines more) ∙ sym (append_assoc first.moves (steps_over first.cluster lines) moves) in
    let ends : end_of c opening (steps_after schedule (lines ++ more)) ≡ end_of c w moves
    = ap (λ (ms : List Move). end_of c opening ms) steps ∙ end-append c opening (steps_after schedule lines) moves in
    (sends_along c w moves, sym all.matches.sent ∙ ap (λ (v : World). v.sent) ends ∙ end-sent c w moves ∙ ap (λ (ys : List world.Sent). ys ++ sends_along c w moves) front.matches.sent)

-- the bytes of all messages are no fewer after more lines
bytes-grow : (schedule : Schedule) → IsSchedule schedule → (lines more : List Line) → schedule.lines ≡ lines ++ more → sent_bytes (after_lines schedule lines) ≤ sent_bytes (after_lines schedule schedule.lines)
bytes-grow schedule is lines more e =
    let m = sent-more schedule is lines more e in
    let old = (after_lines schedule lines).sent in
    let all : sent_bytes (after_lines schedule schedule.lines) ≡ sent_bytes (after_lines schedule lines) + sum_by model_size m.0
    = ap (λ (ls : List Line). sent_bytes (after_lines schedule ls)) e ∙ ap (sum_by model_size) m.1 ∙ sum_by-append model_size old m.0 in
    no-fewer (sent_bytes (after_lines schedule lines)) (sum_by model_size m.0) (sent_bytes (after_lines schedule schedule.lines)) all
  where
    no-fewer : (a b c : ℕ) → c ≡ a + b → a ≤ c
    no-fewer a b c f = omega arith

-- where the frames of a run that is the cluster after a front pass the limit, the schedule's run sends too much
pub front-past : (schedule : Schedule) → IsSchedule schedule → (lines more : List Line) (s : Stepping) → schedule.lines ≡ lines ++ more → IsCluster (after_lines schedule lines) s
    → frame_limit < frame_bytes s.sent → sends_too_much schedule ≡ true
unfolding sends_too_much
front-past schedule is lines more s split cluster past =
    let more_than : frame_limit < sent_bytes (after_lines schedule lines) = subst (λ (n : ℕ). frame_limit < n) (bytes-alike (after_lines schedule lines) s cluster) past in
    too-much frame_limit (sent_bytes (after_lines schedule lines)) (sent_bytes (after_lines schedule schedule.lines)) more_than (bytes-grow schedule is lines more split)
  where
    too-much : (limit m n : ℕ) → limit < m → m ≤ n → nat_lt limit n ≡ true
    too-much limit m n lt le = grind (arith, nat_tests)

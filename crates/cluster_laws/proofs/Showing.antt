-- What an event shows, by its steps of the world.
use Rattle.std.proofs.Common.{◌≡◌, ℕ, suc, ◌+◌, Bool, true, false, not, List, [], ◌∷◌, ◌++◌, length, filter, cond, Option, Some, None, refl, sym, ap, ◌∙◌, arith, append_assoc, length-append}
use Rattle.std.proofs.lemmas.List.{append_cancel_left}
use Rattle.std.proofs.lemmas.List.Elements.{filter-append}
use Rattle.paxos_world.specs.declared.step.Step.{Step}
use Rattle.paxos_world.specs.Setup.{Setup}
use Rattle.paxos_world.specs.Life.{LifeId, Life}
use Rattle.paxos_world.specs.World.{Replica, World, Sent, Deed, Take, Enter, Open, Promise, Prepared, Launch, Vote, Learn, Answer, Rejoin, Install, Execute, Restore, Say, Move, First, Return, Crash, of_running, life_after, replica_after, sends, after}
use Rattle.paxos_world.specs.World as W
use Rattle.paxos_world.specs.Trace.{end_of}
use Rattle.paxos_world.specs.Stage.{Act, Show, Send, Hand, Save}
use Rattle.paxos_world.specs.Shown.{shown_of_deed, shown_of, shown_along, sends_along, shown_in}
use Rattle.paxos_world.proofs.Turning.{end-sent}
use Rattle.schedules.specs.declared.line.Word.TheVariants.{Done}
use Rattle.schedules.specs.Cluster.{Happened, kind_of, steps_of, sent_by}
use Rattle.schedules.specs.Generator.{is_send}
use Rattle.cluster_laws.specs.Laws.{sends_from, ShowsMoves}

abbrev is_other : Step → Bool
is_other step = not (is_send step)

-- ---- What steps of the world show is no Send

-- none of these steps is a Send
abbrev NoSends : List Step → Type 0
NoSends xs = (filter is_other xs ≡ xs) × (filter is_send xs ≡ [])

no-sends-append : (xs ys : List Step) → NoSends xs → NoSends ys → NoSends (xs ++ ys)
no-sends-append xs ys h k = (
  filter-append is_other xs ys ∙ ap (λ zs. zs ++ filter is_other ys) h.0 ∙ ap (λ zs. xs ++ zs) k.0,
  filter-append is_send xs ys ∙ ap (λ zs. zs ++ filter is_send ys) h.1 ∙ k.1,
)

no-sends-deed : (r : ℕ) (l : Life) (d : Deed) → NoSends (shown_of_deed r l d)
no-sends-deed r l (Take from message) = (refl, refl)
no-sends-deed r l (Enter view) = (refl, refl)
no-sends-deed r l (Open view first) = (refl, refl)
no-sends-deed r l (Promise view first mark low report) = (refl, refl)
no-sends-deed r l (Prepared view x) = (refl, refl)
no-sends-deed r l (Launch view i batch) = (refl, refl)
no-sends-deed r l (Vote view i batch) = (refl, refl)
no-sends-deed r l (Learn i batch) = (refl, refl)
no-sends-deed r l (Answer to view next mark) = (refl, refl)
no-sends-deed r l (Rejoin view) = (refl, refl)
no-sends-deed r l (Install upto state) = (refl, refl)
no-sends-deed r l (Execute i) = (refl, refl)
no-sends-deed r l (Restore upto state) = (refl, refl)
no-sends-deed r l (Say to message) = (refl, refl)

no-sends-running : (r : ℕ) (d : Deed) (o : Option Life) → NoSends (of_running o (λ l. shown_of_deed r l d))
no-sends-running r d None = (refl, refl)
no-sends-running r d (Some l) = no-sends-deed r l d

no-sends-of : (w : World) (m : Move) → NoSends (shown_of w m)
no-sends-of w (First r) = (refl, refl)
no-sends-of w (Return r mark) = (refl, refl)
no-sends-of w (Crash r) = (refl, refl)
no-sends-of w (W.Act r d) = no-sends-running r d (w.replicas r).running

no-sends-along : (c : Setup) (w : World) (ms : List Move) → NoSends (shown_along c w ms)
no-sends-along c w [] = (refl, refl)
no-sends-along c w (m ∷ ms) = no-sends-append (shown_of w m) (shown_along c (after c w m) ms) (no-sends-of w m) (no-sends-along c (after c w m) ms)

-- ---- The steps of acts

-- the steps of acts but Send are those that the acts show
others-steps : (number : ℕ) (acts : List Act) → filter is_other (steps_of number acts) ≡ filter is_other (shown_in acts)
others-steps number [] = refl
others-steps number (Show step ∷ acts) = ap (λ xs. cond (is_other step) (step ∷ xs) xs) (others-steps number acts)
others-steps number (Send to m ∷ acts) = others-steps (suc number) acts
others-steps number (Hand d ∷ acts) = others-steps number acts
others-steps number (Save k ∷ acts) = others-steps number acts

-- the Send steps of acts are those of the messages that they send
sends-steps : (from : LifeId) (number : ℕ) (acts : List Act) → filter is_send (shown_in acts) ≡ [] → filter is_send (steps_of number acts) ≡ sends_from number (sent_by from acts)
sends-steps from number [] none = refl
sends-steps from number (Show step ∷ acts) none = go (is_send step) none (sends-steps from number acts)
  where
    go : (b : Bool) → cond b (step ∷ filter is_send (shown_in acts)) (filter is_send (shown_in acts)) ≡ []
        → (filter is_send (shown_in acts) ≡ [] → filter is_send (steps_of number acts) ≡ sends_from number (sent_by from acts))
        → cond b (step ∷ filter is_send (steps_of number acts)) (filter is_send (steps_of number acts)) ≡ sends_from number (sent_by from acts)
    go true e again = absurd cc
    go false e again = again e
sends-steps from number (Send to m ∷ acts) none = ap (λ xs. Step.Send number to (kind_of m) ∷ xs) (sends-steps from (suc number) acts none)
sends-steps from number (Hand d ∷ acts) none = sends-steps from number acts none
sends-steps from number (Save k ∷ acts) none = sends-steps from number acts none

-- ---- Steps of the world

-- an event with these acts shows these steps of the world
pub shows-acts : (c : Setup) (w : World) (number : ℕ) (from : LifeId) (acts : List Act) (h : Happened) → h.steps ≡ steps_of number acts → shown_in acts ≡ shown_along c w h.moves
    → (end_of c w h.moves).sent ≡ w.sent ++ sent_by from acts → number ≡ length w.sent → ShowsMoves c w h
shows-acts c w number from acts h steps shown sent same =
    let none = no-sends-along c w h.moves in
    record {
      steps = ap (filter is_other) steps ∙ others-steps number acts ∙ ap (filter is_other) shown ∙ none.0;
      sends = ap (filter is_send) steps ∙ sends-steps from number acts (ap (filter is_send) shown ∙ none.1) ∙ ap (λ (n : ℕ). sends_from n (sent_by from acts)) same
          ∙ ap (sends_from (length w.sent)) (append_cancel_left w.sent (sent_by from acts) (sends_along c w h.moves) (sym sent ∙ end-sent c w h.moves));
    }

-- ---- One event after another

along-append : (c : Setup) (w : World) (xs ys : List Move) → shown_along c w (xs ++ ys) ≡ shown_along c w xs ++ shown_along c (end_of c w xs) ys
along-append c w [] ys = refl
along-append c w (x ∷ xs) ys =
    let v = after c w x in
    ap (λ zs. shown_of w x ++ zs) (along-append c v xs ys) ∙ sym (append_assoc (shown_of w x) (shown_along c v xs) (shown_along c (end_of c v xs) ys))

sends-append : (c : Setup) (w : World) (xs ys : List Move) → sends_along c w (xs ++ ys) ≡ sends_along c w xs ++ sends_along c (end_of c w xs) ys
sends-append c w [] ys = refl
sends-append c w (x ∷ xs) ys =
    let v = after c w x in
    ap (λ zs. sends c w x ++ zs) (sends-append c v xs ys) ∙ sym (append_assoc (sends c w x) (sends_along c v xs) (sends_along c (end_of c v xs) ys))

sends_from-append : (number : ℕ) (xs ys : List Sent) → sends_from number (xs ++ ys) ≡ sends_from number xs ++ sends_from (number + length xs) ys
sends_from-append number [] ys = let e : number ≡ number + 0 = omega arith in ap (λ (n : ℕ). sends_from n ys) e
sends_from-append number (x ∷ xs) ys =
    let e : suc number + length xs ≡ number + suc (length xs) = omega arith in
    ap (λ zs. Step.Send number x.to (kind_of x.message) ∷ zs) (sends_from-append (suc number) xs ys ∙ ap (λ (n : ℕ). sends_from (suc number) xs ++ sends_from n ys) e)

-- an event that is two, one after the other
pub shows-both : (c : Setup) (w : World) (h k : Happened) → ShowsMoves c w h → ShowsMoves c (end_of c w h.moves) k
    → ShowsMoves c w (record { word = Done; steps = h.steps ++ k.steps; moves = h.moves ++ k.moves; cluster = k.cluster })
shows-both c w h k a b =
    let v = end_of c w h.moves in
    let xs = sends_along c w h.moves in
    let ys = sends_along c v k.moves in
    let count : length v.sent ≡ length w.sent + length xs = ap length (end-sent c w h.moves) ∙ length-append w.sent xs in
    record {
      steps = filter-append is_other h.steps k.steps ∙ ap (λ zs. zs ++ filter is_other k.steps) a.steps ∙ ap (λ zs. shown_along c w h.moves ++ zs) b.steps ∙ sym (along-append c w h.moves k.moves);
      sends = filter-append is_send h.steps k.steps ∙ ap (λ zs. zs ++ filter is_send k.steps) a.sends ∙ ap (λ zs. sends_from (length w.sent) xs ++ zs) (b.sends ∙ ap (λ (n : ℕ). sends_from n ys) count)
          ∙ sym (sends_from-append (length w.sent) xs ys) ∙ ap (sends_from (length w.sent)) (sym (sends-append c w h.moves k.moves));
    }

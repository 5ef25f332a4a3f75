-- Schedules that are being drawn.
use Rattle.std.proofs.Common.{◌≡◌, ◌∙◌, ◌<◌, ◌⊎◌, inl, inr, lit<, ℕ, zero, suc, List, [], ◌∷◌, ◌++◌, length, replicate, refl, sym, ap, subst, arith, length-append}
use Rattle.std.specs.Prelude.{slice_index}
use Rattle.std.proofs.lemmas.List.{get_or-replicate, get_or_past, length-replicate}
use Rattle.std.proofs.lemmas.Bool.{cases_order}
use Rattle.paxos_world.specs.declared.step.Step.{Step}
use Rattle.schedules.specs.declared.event.Event.{Event}
use Rattle.schedules.specs.declared.line.Head.{Head}
use Rattle.schedules.specs.declared.line.Line.{Line}
use Rattle.cluster.specs.declared.sent.Sent.{Sent}
use Rattle.cluster.specs.Drawing.{Draws, drawn_head, Drawing, first_drawing, Generating, IsBeingDrawn, IsLookedAt, next_line, Serves}
use Rattle.cluster.specs.Runs.{RunsLine}
use Rattle.cluster.specs.Stepping.{FirstStarts, fresh, Opens, Stepping}
use Rattle.cluster.proofs.DrawingLemmas.{looked_at_next, looked_at_still}
use Rattle.cluster.proofs.GrowthLemmas.{Grows, grows_started, happens_grows}
use Rattle.cluster.proofs.MadeLemmas.{next_more}
use Rattle.cluster.proofs.RunLemmas.{draws_more}

-- the first starts leave the constants
first_starts_head : (k : ℕ) (s : Stepping) (steps : List Step) (after : Stepping) → FirstStarts k s steps after → after.head ≡ s.head
first_starts_head zero s steps after h = ap (λ (t : Stepping). t.head) h.1
first_starts_head (suc k) s steps after (before, (shown, (earlier, next))) =
    ap (λ (t : Stepping). t.head) next.after_is ∙ (grows_started before k next.o next.starts).head ∙ first_starts_head k s shown before earlier

-- and so does the first line
pub opens_head : (head : Head) (e : Event) (after : Stepping) → Opens head e after → after.head ≡ head
opens_head head e after opens = first_starts_head head.n (fresh head) e.steps after opens.starts

-- a generator goes on with a run that goes on
pub serves_still : (s after : Stepping) (g : Generating) → Grows s after → Serves s g → Serves after g
serves_still s after g grows serves =
    let n_is : after.head.n ≡ s.head.n = ap (λ (h : Head). h.n) grows.head in
    record {
      replicas = serves.replicas ∙ sym n_is;
      places = serves.places ∙ sym n_is;
      looked = λ r low. subst (λ (sent : List Sent). IsLookedAt r (slice_index g.drawing.from r) (slice_index g.seen r) sent) (sym grows.sent)
          (looked_at_still r (slice_index g.drawing.from r) (slice_index g.seen r) s.sent grows.more (serves.looked r low));
    }

-- before the first line is drawn
pub being_drawn_first : (seed n : ℕ) (e : Event) (s : Stepping) → Opens (drawn_head seed n) e s
    → IsBeingDrawn seed n 0 (record { drawing = first_drawing seed n; seen = replicate n 0 }) s [] (e ∷ [])
being_drawn_first seed n e s opens =
    let head_is : s.head ≡ drawn_head seed n = opens_head (drawn_head seed n) e s opens in
    let n_is : n ≡ s.head.n = sym (ap (λ (h : Head). h.n) head_is) in
    record {
      draws = record { first = e; more = []; begun = s; events_are = refl; opens = opens; draws = (refl, refl) };
      count_is = refl;
      serves = record {
        replicas = length-replicate n 0 ∙ n_is;
        places = length-replicate n 0 ∙ n_is;
        looked = λ r low. looked_at_next r (slice_index (replicate n 0) r) s.sent (let below : r < n = rw length-replicate at low in rw (get_or-replicate {A = ℕ} n r 0 0 below) (omega arith));
      };
      made = λ client. made_none client;
    } where
      made_none : (client : ℕ) → slice_index (replicate 8 0) client < 1
      made_none client = by (cases_order client 8) where
        by : (client ≡ 8) ⊎ ((client < 8) ⊎ (8 < client)) → slice_index (replicate 8 0) client < 1
        by (inl same) = rw same (lit< tt)
        by (inr (inl low)) = let zeros : List ℕ = replicate 8 0 in let none : slice_index zeros client ≡ 0 = get_or-replicate {A = ℕ} 8 client 0 0 low in rw none (lit< tt)
        by (inr (inr past)) = let zeros : List ℕ = replicate 8 0 in let none : slice_index zeros client ≡ 0 = get_or_past zeros client 0 (omega arith) in rw none (lit< tt)

-- one line more is drawn
pub being_drawn_more : (seed n count : ℕ) (g after_g : Generating) (s after : Stepping) (lines lines_after : List Line) (events events_after : List Event)
    → IsBeingDrawn seed n count g s lines events → RunsLine (next_line s g.drawing).0 s lines events after lines_after events_after
    → after_g.drawing ≡ (next_line s g.drawing).1 → Serves s after_g → IsBeingDrawn seed n (suc count) after_g after lines_after events_after
being_drawn_more seed n count g after_g s after lines lines_after events events_after drawn runs drawing serves =
    record {
      draws = record {
        first = drawn.draws.first;
        more = drawn.draws.more ++ runs.event ∷ [];
        begun = drawn.draws.begun;
        events_are = runs.events_are ∙ ap (λ (es : List Event). es ++ runs.event ∷ []) drawn.draws.events_are;
        opens = drawn.draws.opens;
        draws = all;
      };
      count_is = ap (λ (ls : List Line). length ls) runs.lines_are ∙ longer;
      serves = serves_still s after after_g (happens_grows s (next_line s g.drawing).0 runs.event after runs.happens) serves;
      made = λ client. made client;
    } where
      more : Draws (first_drawing seed n) drawn.draws.begun (lines ++ (next_line s g.drawing).0 ∷ []) (drawn.draws.more ++ runs.event ∷ []) (next_line s g.drawing).1 after
      more = draws_more (first_drawing seed n) drawn.draws.begun lines drawn.draws.more g.drawing s runs.event after drawn.draws.draws runs.happens

      all : Draws (first_drawing seed n) drawn.draws.begun lines_after (drawn.draws.more ++ runs.event ∷ []) after_g.drawing after
      all = subst (λ (ls : List Line). Draws (first_drawing seed n) drawn.draws.begun ls (drawn.draws.more ++ runs.event ∷ []) after_g.drawing after) (sym runs.lines_are)
          (subst (λ (d : Drawing). Draws (first_drawing seed n) drawn.draws.begun (lines ++ (next_line s g.drawing).0 ∷ []) (drawn.draws.more ++ runs.event ∷ []) d after) (sym drawing) more)

      longer : length (lines ++ (next_line s g.drawing).0 ∷ []) ≡ suc count
      longer = (let so_far = drawn.count_is in rw (length-append lines ((next_line s g.drawing).0 ∷ [])) (omega arith))

      made : (client : ℕ) → slice_index after_g.drawing.made client < suc (suc count)
      made client =
          let below = drawn.made client in
          let risen = next_more client s g.drawing in
          rw drawing (omega (arith, below, risen))

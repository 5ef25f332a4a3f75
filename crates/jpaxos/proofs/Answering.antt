-- The answer to a schedule is one to the input that spells it, and holds what the laws say of its run.
use Rattle.std.proofs.Common.{◌≡◌, ℕ, ◌≤◌, true, List, Some, Ok, inl, inr, refl, sym, ap, subst, ◌∙◌}
use Rattle.std.specs.Prelude.{Option, None, IfSome, Result, Err, IfOk, ◌⊎◌}
use Rattle.std.specs.Io.KnownBytes.{Appends}
use Rattle.jp_types.specs.declared.status.Status.{Status}
use Rattle.jp_types.specs.declared.status.Status.TheVariants as status
use Rattle.jp_types.specs.Faults.{Rose}
use Rattle.turn_laws.proofs.StateFitting.{states-read}
use Rattle.schedules.specs.declared.event.Run.{Run}
use Rattle.schedules.specs.declared.schedule.Schedule.{Schedule}
use Rattle.schedules.specs.Schedule.{read_schedule}
use Rattle.cluster.specs.Drawing.{IsDrawn, IsDrawnPast}
use Rattle.schedules.specs.Fitting.{IsFit}
use Rattle.schedules.specs.Generator.{generate, summary}
use Rattle.schedules.specs.Run.{run_of, sends_too_much}
use Rattle.cluster.specs.Runs.{Runs, RunsPast}
use Rattle.schedules.specs.Text.{show}
use Rattle.cluster_laws.specs.Laws.{IsSchedule}
use Rattle.cluster_laws.proofs.Chosen as chosen
use Rattle.cluster_laws.proofs.ReadFit.{within, schedules_within}
use Rattle.cluster_laws.proofs.Whole as whole
use Rattle.due_laws.proofs.Handing as handing
use Rattle.due_laws.proofs.Walking as walking
use Rattle.due_laws.proofs.Whole as due
use Rattle.request_laws.proofs.Asking as asking
use Rattle.observed_laws.proofs.Whole.{observed}
use Rattle.run_laws.specs.Laws as run_laws
use Rattle.run_laws.proofs.Whole.{runs_alike, runs_past_alike, drawn_alike, drawn_past_alike, generated_is_runnable}
use Rattle.step_laws.proofs.Counting.{counts_quiet_exactly, handed_exactly, waits_exactly}
use Rattle.step_laws.proofs.Entering.{answers_exactly, enters_exactly, promises_exactly}
use Rattle.step_laws.proofs.Handing.{hands_on_exactly}
use Rattle.step_laws.proofs.Installing.{installs_exactly}
use Rattle.step_laws.proofs.Learning.{learns_exactly}
use Rattle.step_laws.proofs.Saving.{repeats_only, saves_exactly, shows_no_other}
use Rattle.step_laws.proofs.Sending.{repeats_exactly, sends_exactly}
use Rattle.step_laws.proofs.Settling.{launches_exactly, prepared_exactly, rejoins_exactly}
use Rattle.step_laws.proofs.Voting.{votes_exactly}
use Rattle.jpaxos.specs.declared.answer.Answer.{Answer}
use Rattle.jpaxos.specs.Answers.{Fits, IsShown, IsRunText, IsObservedText, IsRunnable, IsDrawnAnswer, IsRunAnswer, IsAnswer, IsSummary, IsClusterStatus, IsTold, Answers, AnswersObserved}
use Rattle.jpaxos.specs.Headline.{Headline, TurnsAreExact}
use Rattle.jpaxos.specs.Words.{refusal}

-- ---- The laws of a run

-- the turns do exactly what the protocol says
exact_turns : TurnsAreExact
exact_turns =
    record {
      enters = enters_exactly;
      promises = promises_exactly;
      prepared = prepared_exactly;
      launches = launches_exactly;
      votes = votes_exactly;
      learns = learns_exactly;
      installs = installs_exactly;
      answers = answers_exactly;
      rejoins = rejoins_exactly;
      no_other = shows_no_other;
      hands_on = hands_on_exactly;
      handed = handed_exactly;
      sends = sends_exactly;
      saves = saves_exactly;
      waits = waits_exactly;
      quiet = counts_quiet_exactly;
      repeats = repeats_exactly;
      repeats_only = repeats_only;
    }

-- the laws hold of the run of a schedule within the limits
headline : (s : Schedule) → IsSchedule s → Headline s
headline s h =
    record {
      world_run = record { told = chosen.is_told s; run = whole.world_run s states-read h; same = whole.world_same s states-read h; shown = whole.all_shown s states-read h };
      one_list = record { chosen = chosen.list_chosen s states-read h; one = chosen.one_is_chosen s states-read h; stand = whole.one_list s states-read h; states = whole.states_listed s states-read h; known = whole.known_same s states-read h; known_chosen = chosen.known_is_chosen s states-read h };
      requests_are_asked = record { list = asking.list_is_asked s states-read h; known = asking.known_is_asked s states-read h; stores = asking.stores_are_asked s states-read h; states = asking.states_are_asked s states-read h };
      at_most_once = record { first = whole.at_most_once s; life = whole.executes_once s states-read h };
      replies = record { shown = whole.replies s states-read h; first = whole.first_shows_none s states-read h };
      recovering_is_silent = whole.recovering_is_silent s states-read h;
      rejoins_exactly = record { met = whole.rejoins s states-read h; due = whole.rejoins_due s states-read h };
      turns_are_exact = exact_turns;
      nothing_is_due = record { prepares = due.prepared_due s states-read h; learns = due.learn_due s states-read h; notes = walking.note_due; launches = due.launch_due s states-read h; hands_on = handing.hand_due s states-read h; serves = handing.serve_due s };
    }

-- a schedule within its ranges is one whose run is that of the model
runnable : (s : Schedule) → IsFit s → run_laws.IsRunnable s
runnable s h = record { schedule_is = within s h; more = h.head.some; some = h.head.open_window; window = h.head.window_limit }

-- ---- The text of a run

-- the text of a run of a schedule is that of its run by the model
pub shown_as_run : (s : Schedule) (run : Run) (text : List ℕ) → IsFit s → Runs s run → text ≡ show run → IsShown s text
shown_as_run s run text fit runs is =
    let told = runs_alike s run (runnable s fit) runs in
    record { within = told.within; shown = is ∙ ap show told.run_is }

-- a run that sends too much is the model's, which does too
pub sends_past : (s : Schedule) → IsFit s → RunsPast s → sends_too_much s ≡ true
sends_past s fit past = runs_past_alike s (runnable s fit) past

-- the summary of the run of a drawn schedule is that of the model
pub summed_as_drawn : (seed n steps : ℕ) (s : Schedule) (run : Run) (text : List ℕ) → 3 ≤ n → n ≤ 9 → steps ≤ 99998 → IsDrawn seed n steps s run → Runs s run → text ≡ summary run seed
    → IsSummary seed n steps text
summed_as_drawn seed n steps s run text more few most drawn runs is =
    let same : s ≡ generate seed n steps = drawn_alike seed n steps s run more few most drawn in
    let fit = generated_is_runnable seed n steps more few most in
    let told = runs_alike (generate seed n steps) run fit (subst (λ (x : Schedule). Runs x run) same runs) in
    record { within = told.within; summed = is ∙ ap (λ (r : Run). summary r seed) told.run_is; laws = headline (generate seed n steps) fit.schedule_is }

-- ---- Answers

-- the answer to a schedule is one to the input that spells it
pub run_answers : (input text : List ℕ) (s : Schedule) (told : Status) → Fits input → read_schedule input ≡ Ok s → IsRunAnswer s text told → IsAnswer input text told
run_answers input text s status.Done fits reads shown = record { fits = fits; schedule = s; reads = reads; shown = shown; laws = headline s (schedules_within input s reads) }
run_answers input text s (status.TooLarge kind) fits reads h =
    inr (inr (h.0, record { fits = fits; schedule = s; reads = reads; sends = h.1; told = h.2 }))
run_answers input text s status.Usage fits reads h = absurd h
run_answers input text s (status.BadSchedule line cause) fits reads h = absurd h
run_answers input text s status.ReadFault fits reads h = absurd h
run_answers input text s status.WriteFault fits reads h = absurd h
run_answers input text s status.StoreFault fits reads h = absurd h
run_answers input text s status.NoMemory fits reads h = absurd h
run_answers input text s status.OutsideFault fits reads h = absurd h
run_answers input text s (status.BadConfig line cause) fits reads h = absurd h
run_answers input text s (status.NoAnswer number) fits reads h = absurd h
run_answers input text s (status.Damaged size) fits reads h = absurd h
run_answers input text s (status.Spent number) fits reads h = absurd h
run_answers input text s (status.OtherCluster number) fits reads h = absurd h
run_answers input text s (status.LogFull size) fits reads h = absurd h
run_answers input text s (status.Disagrees what) fits reads h = absurd h
run_answers input text s status.TraceFault fits reads h = absurd h

-- what tells that a drawn schedule sends too much is its answer
pub drawn_past : {E : Type 0} (seed n steps : ℕ) (r : Result Answer E) → 3 ≤ n → n ≤ 9 → steps ≤ 99998 → IsDrawnPast seed n steps → IfOk r (λ answer. answer.status ≡ status.TooLarge 3)
    → IfOk r (λ answer. answer.text ≡ refusal (status.TooLarge 3)) → IfOk r (λ answer. IsDrawnAnswer seed n steps answer.text answer.status)
drawn_past seed n steps (Ok answer) more few most sends is told =
    subst (λ (s : Status). IsDrawnAnswer seed n steps answer.text s) (sym is) (refl, record { sends = drawn_past_alike seed n steps more few most sends; told = told })
drawn_past seed n steps (Err e) more few most sends is told = is

-- ---- What is observed

-- an answer at Done is the text of a run that has what is observed
observed_text : (input text : List ℕ) → IsRunText input text → IsObservedText input text
observed_text input text h =
    record {
      schedule = h.schedule;
      reads = h.reads;
      run = run_of h.schedule;
      shown = h.shown.shown;
      observed = observed h.schedule states-read (schedules_within input h.schedule h.reads);
    }

pub is_observed : (told : Status) (left held held_after : Option (List ℕ)) → (IsTold told → Answers left held held_after told) → told ≡ status.Done → AnswersObserved left held held_after
is_observed told left held held_after answers e = go left (subst (λ (x : Status). Answers left held held_after x) e (answers (subst IsTold (sym e) tt)))
  where
    go : (o : Option (List ℕ)) → Answers o held held_after status.Done → AnswersObserved o held held_after
    go None a = tt
    go (Some input) a = (a.0, (observed_text input a.0 a.1.0, a.1.1))

-- ---- Completeness

-- an input that spells a schedule within the sizes is answered by no other status than Done, or for want of memory
answered_done : (input text : List ℕ) (told : Status) → IsRunnable input → IsTold told → IsAnswer input text told → told ≡ status.Done
answered_done input text status.Done may is answer = refl
answered_done input text (status.BadSchedule line cause) may is answer = let a = answer.reads in let b = may.reads in absurd cc
answered_done input text (status.TooLarge kind) may is (inl a) = let x = a.1.bytes in let y = may.fits.bytes in absurd cc
answered_done input text (status.TooLarge kind) may is (inr (inl a)) = let x = a.1.lines in let y = may.fits.lines in absurd cc
answered_done input text (status.TooLarge kind) may is (inr (inr a)) =
    let reads = a.1.reads in
    let own = may.reads in
    let same : a.1.schedule ≡ may.schedule = cc in
    let x = a.1.sends in
    let y = may.within in
    absurd cc
answered_done input text _ may is answer = absurd is

-- where nothing fails, an input that spells a schedule within the sizes is run, or memory is wanted
pub is_complete : (told : Status) (left held held_after : Option (List ℕ)) (faults faults_after calls calls_after : ℕ) (input : List ℕ) → IsClusterStatus told
    → (IsTold told → Answers left held held_after told) → (told ≡ status.ReadFault → Rose faults faults_after) → (told ≡ status.WriteFault → Rose calls calls_after)
    → left ≡ Some input → IsRunnable input → ¬ Rose faults faults_after → ¬ Rose calls calls_after → (told ≡ status.Done) ⊎ (told ≡ status.NoMemory)
is_complete told left held held_after faults faults_after calls calls_after input is answers read write known may no_read no_write = go told is refl
  where
    whole-answer : IsTold told → told ≡ status.Done
    whole-answer t = let a = subst (λ (o : Option (List ℕ)). IfSome o (λ x. (text : List ℕ) × (IsAnswer x text told × Appends held held_after text))) known (answers t) in answered_done input a.0 told may t a.1.0

    go : (x : Status) → IsClusterStatus x → told ≡ x → (told ≡ status.Done) ⊎ (told ≡ status.NoMemory)
    go status.Done s e = inl e
    go status.NoMemory s e = inr e
    go status.ReadFault s e = absurd (no_read (read e))
    go status.WriteFault s e = absurd (no_write (write e))
    go (status.BadSchedule line cause) s e = inl (whole-answer (subst IsTold (sym e) tt))
    go (status.TooLarge kind) s e = inl (whole-answer (subst IsTold (sym e) tt))
    go _ s e = absurd s

-- What the examples of runs are stated with.
use Rattle.std.specs.Prelude.{ℕ, Bool, false, List, [], ◌∷◌, ◌++◌, flat_map, nat_eq, bytes_eq, ⊤, Result, Ok, Err}
use Rattle.std.specs.List.{starts_with}
use Rattle.std.specs.Fmt.{digits}
use Rattle.kv_service.specs.StateBytes.{state_bytes}
use Rattle.kv_service.specs.StateReading.{read_state}
use Rattle.paxos_world.specs.Stage.{free_slots}
use Rattle.paxos_world.specs.Logs.{first_undecided, report_from}
use Rattle.paxos_world.specs.Retransmitting.{claim}
use Rattle.paxos_world.specs.CatchingUp.{replied_batches}
use Rattle.paxos_world.specs.Settling.{adoption_end}
use Rattle.paxos_world.specs.Turn.{turn, opening, retransmit}
use Rattle.text_lines.specs.Lines.{Bad}
use Rattle.schedules.specs.Schedule.{read_schedule}
use Rattle.schedules.specs.Run.{event, first_event, run_of, moves_of_run}
use Rattle.schedules.specs.Text.{show, text_of}

-- lines, each with its line feed
abbrev pub joined : List (List ℕ) → List ℕ
joined lines = flat_map (λ line. line ++ 10 ∷ []) lines

-- all that a run computes with
unfoldable pub whole : ⊤
unfolding digits free_slots first_undecided report_from claim replied_batches adoption_end turn opening retransmit state_bytes read_state read_schedule event first_event run_of moves_of_run show text_of
whole = tt

abbrev pub is_text : Result (List ℕ) Bad → List ℕ → Bool
is_text (Ok text) expected = bytes_eq text expected
is_text (Err bad) expected = false

abbrev pub begins_text : Result (List ℕ) Bad → List ℕ → Bool
begins_text (Ok text) expected = starts_with nat_eq text expected
begins_text (Err bad) expected = false

-- the run of these lines is written as these
unfoldable pub gives : List (List ℕ) → List (List ℕ) → Bool
unfolding whole
gives input text = is_text (text_of (joined input)) (joined text)

-- the text of the run of these lines begins with these
unfoldable pub begins : List (List ℕ) → List (List ℕ) → Bool
unfolding whole
begins input text = begins_text (text_of (joined input)) (joined text)

-- Waiting for the answer to a request, receive by receive.
use Rattle.std.proofs.Common.{◌≡◌, ◌≤◌, ◌⊎◌, inl, inr, ℕ, ◌+◌, ◌-◌, ◌^◌, min, Bool, true, false, cond, ◌==◌, List, [], ◌∷◌, ◌++◌, Option, Some, None, Result, Ok, Err, IfOk, MatchOption, length, take, fold, length-append, refl, sym, ◌∙◌, ap, subst, arith}
use Rattle.std.specs.Io.KnownBytes.{Appends, Consumes}
use Rattle.std.proofs.KnownBytes.{Consumes-trans}
use Rattle.std.proofs.lemmas.List.{take_all}
use Rattle.std.proofs.lemmas.List.Sums.{fold-append}
use Rattle.jp_types.specs.Faults.{Rose}
use Rattle.jp_types.specs.declared.command.Request.{Request}
use Rattle.jp_types.specs.declared.memory.NoMemory.{NoMemory}
use Rattle.client_codec.specs.declared.frame.ClientFrame.{ClientFrame}
use Rattle.client_codec.specs.declared.frame.ClientFrame.TheVariants as frame_kind
use Rattle.client_io.specs.Links.{FollowsClient, LinkState, Progress}
use Rattle.client_codec.specs.Spelling.{frame_bytes}
use Rattle.client_io.specs.declared.attempt_end.Attempt.{Attempt}
use Rattle.client_io.specs.declared.attempt_end.Attempt.TheVariants.{Answered, Redirected, Busy, Ended}
use Rattle.client_io.specs.declared.attempt.Waiting.{Waiting}
use Rattle.client_io.specs.declared.hearing.Heard.TheVariants.{Quiet, Lost, Frames}
use Rattle.client_io.specs.Ends.{ended_by, ended_or, ending, first_ending, for_number, next_ending}
use Rattle.client_io.specs.Attempts.{Asks, Attempts, Came, EndsSo, Waits}
use Rattle.client_io.specs.Hearing.{Brings, is_sound}

-- ---- Frames

-- an end that a frame brings is no mere end
abbrev IsEnd : Option Attempt → Type 0
IsEnd found = MatchOption found (Unit {0}) (λ end. ended_by end ≡ Some end)

for_number_is : (number answered : ℕ) (end : Attempt) → ended_by end ≡ Some end → IsEnd (for_number number answered end)
for_number_is number answered end is = by (answered == number) where
  by : (b : Bool) → IsEnd (cond b (Some end) None)
  by true = is
  by false = tt

ending_is : (number : ℕ) (frame : ClientFrame) → IsEnd (ending number frame)
ending_is number (frame_kind.Request r) = tt
ending_is number (frame_kind.Reply answered reply) = for_number_is number answered (Answered reply) refl
ending_is number (frame_kind.Redirect replica) = refl
ending_is number (frame_kind.Busy answered) = for_number_is number answered Busy refl
ending_is number frame_kind.Stop = tt

next_is : (number : ℕ) (found : Option Attempt) (frame : ClientFrame) → IsEnd found → IsEnd (next_ending number found frame)
next_is number (Some end) frame is = is
next_is number None frame is = ending_is number frame

fold_is : (number : ℕ) (found : Option Attempt) (frames : List ClientFrame) → IsEnd found → IsEnd (fold (next_ending number) found frames)
fold_is number found [] is = is
fold_is number found (frame ∷ frames) is = fold_is number (next_ending number found frame) frames (next_is number found frame is)

pub found_is : (number : ℕ) (frames : List ClientFrame) (end : Attempt) → first_ending number frames ≡ Some end → ended_by end ≡ Some end
found_is number frames end e = subst IsEnd e (fold_is number None frames tt)

-- where none of the frames so far ended it, the first that does is among the further ones
first_behind : (number : ℕ) (before more : List ClientFrame) → first_ending number before ≡ None → first_ending number (before ++ more) ≡ first_ending number more
first_behind number before more none = fold-append (next_ending number) None before more ∙ ap (λ (found : Option Attempt). fold (next_ending number) found more) none

-- ---- Known bytes

consumes_none : (left : Option (List ℕ)) → Consumes left left []
consumes_none None = tt
consumes_none (Some bytes) = refl

-- ---- One receive

module _ (number : ℕ) (before link later : LinkState) (wait : Waiting) (after : Progress) (w : Waits number before link wait) where
  pub quiet_waits : Brings Quiet link wait.reader later after → Waits number before later (record { reader = after; taken = wait.taken; waited = wait.waited + 1 })
  quiet_waits b =
      let faults = w.faults in let endings = w.endings in let quiets = w.quiets in let quiet = w.quiet in
      let bf = b.faults in let be = b.endings in let bq = b.quiets in let rose = b.brought.2 in
      record {
        bytes = w.bytes;
        frames = w.frames;
        came = record {
          consumed = subst (λ (x : Option (List ℕ)). Consumes before.left x w.bytes) (sym b.brought.0) w.came.consumed;
          given = subst (λ (x : ℕ). min (before.given + length w.bytes) (2 ^ 64 - 1) ≤ x) (sym b.brought.3) w.came.given;
          follows = subst (λ (x : Progress). FollowsClient w.bytes w.frames x) (sym b.brought.1) w.came.follows;
        };
        none = w.none;
        count = w.count;
        quiet = omega arith;
        faults = omega arith;
        endings = omega arith;
        quiets = omega arith;
      }

  pub lost_ends : Brings Lost link wait.reader later after → Attempts number before later Ended
  lost_ends b = record {
    bytes = w.bytes;
    frames = w.frames;
    reader = wait.reader;
    came = record {
      consumed = subst (λ (x : Option (List ℕ)). Consumes before.left x w.bytes) (sym b.brought.0) w.came.consumed;
      given = subst (λ (x : ℕ). min (before.given + length w.bytes) (2 ^ 64 - 1) ≤ x) (sym b.brought.3) w.came.given;
      follows = w.came.follows;
    };
    first = w.none;
    over = why b.brought.2;
  } where
    why : Rose link.faults later.faults ⊎ Rose link.endings later.endings → EndsSo Ended before later (is_sound wait.reader.fault) (length w.bytes)
    why (inl rose) = let faults = w.faults in inl (omega arith)
    why (inr rose) = let endings = w.endings in inr (inl (omega arith))

  module _ (frames : List ClientFrame) (sound : Bool) (count : ℕ) (b : Brings (Frames frames sound count) link wait.reader later after) where
    came_more : Came before later (w.bytes ++ b.brought.piece) (w.frames ++ frames) after
    came_more =
        let old = w.came.given in
        let new = b.brought.given in
        let all = length-append w.bytes b.brought.piece in
        record {
          consumed = Consumes-trans before.left link.left later.left w.bytes b.brought.piece w.came.consumed b.brought.consumed;
          given = omega arith;
          follows = b.brought.read.0.follows w.bytes w.frames w.came.follows;
        }

    pub frames_wait : first_ending number frames ≡ None → Waits number before later (record { reader = after; taken = wait.taken + count; waited = 0 })
    frames_wait none =
        let faults = w.faults in let endings = w.endings in let quiets = w.quiets in
        let bf = b.faults in let be = b.endings in let bq = b.quiets in
        let old = w.count in let new = b.brought.read.2 in let all = length-append w.bytes b.brought.piece in
        record {
          bytes = w.bytes ++ b.brought.piece;
          frames = w.frames ++ frames;
          came = came_more;
          none = first_behind number w.frames frames w.none ∙ none;
          count = omega arith;
          quiet = omega arith;
          faults = omega arith;
          endings = omega arith;
          quiets = omega arith;
        }

    pub frames_answer : (end : Attempt) → first_ending number frames ≡ Some end → Attempts number before later end
    frames_answer end found = record {
      bytes = w.bytes ++ b.brought.piece;
      frames = w.frames ++ frames;
      reader = after;
      came = came_more;
      first = first_behind number w.frames frames w.none ∙ found ∙ sym is;
      over = by end is;
    } where
      is : ended_by end ≡ Some end
      is = found_is number frames end found

      bytes : 1 ≤ length (w.bytes ++ b.brought.piece)
      bytes = let some = b.brought.some in let all = length-append w.bytes b.brought.piece in omega arith

      by : (end : Attempt) → ended_by end ≡ Some end → EndsSo end before later (is_sound after.fault) (length (w.bytes ++ b.brought.piece))
      by (Answered reply) e = bytes
      by (Redirected replica) e = bytes
      by Busy e = bytes
      by Ended e = absurd cc

    pub frames_end : first_ending number frames ≡ None → sound ≡ false → Attempts number before later Ended
    frames_end none unsound = record {
      bytes = w.bytes ++ b.brought.piece;
      frames = w.frames ++ frames;
      reader = after;
      came = came_more;
      first = first_behind number w.frames frames w.none ∙ none;
      over = inr (inr (inl (sym b.brought.read.1 ∙ unsound)));
    }

    -- the turn in which they came
    pub frames_turn : (found : Option Attempt) → first_ending number frames ≡ found → MatchOption (ended_or found sound) (Waits number before later (record { reader = after; taken = wait.taken + count; waited = 0 })) (Attempts number before later)
    frames_turn (Some end) e = frames_answer end e
    frames_turn None e = by sound refl where
      by : (s : Bool) → sound ≡ s → MatchOption (ended_or None s) (Waits number before later (record { reader = after; taken = wait.taken + count; waited = 0 })) (Attempts number before later)
      by true is = frames_wait e
      by false is = frames_end e is

-- ---- The whole wait

pub begins_waiting : (number : ℕ) (link : LinkState) (reader : Progress) → FollowsClient [] [] reader → Waits number link link (record { reader = reader; taken = 0; waited = 0 })
begins_waiting number link reader follows = record {
  bytes = [];
  frames = [];
  came = record { consumed = consumes_none link.left; given = omega arith; follows = follows };
  none = refl;
  count = refl;
  quiet = omega arith;
  faults = omega arith;
  endings = omega arith;
  quiets = omega arith;
}

-- it waited as long as it may
pub waited_out : (number : ℕ) (before now : LinkState) (wait : Waiting) → Waits number before now wait → (50 ≤ wait.waited) ⊎ (65536 ≤ wait.taken) → Attempts number before now Ended
waited_out number before now wait w over = record {
  bytes = w.bytes;
  frames = w.frames;
  reader = wait.reader;
  came = w.came;
  first = w.none;
  over = by over;
} where
  by : (50 ≤ wait.waited) ⊎ (65536 ≤ wait.taken) → EndsSo Ended before now (is_sound wait.reader.fault) (length w.bytes)
  by (inl waited) = let quiet = w.quiet in inr (inr (inr (inl (omega arith))))
  by (inr taken) = let count = w.count in inr (inr (inr (inr (omega arith))))

-- an attempt that waited on a link over which the frame was sent
pub asked_after : (r : Request) (before mid after : LinkState) (end : Attempt) → Appends before.sent mid.sent (frame_bytes (frame_kind.Request r))
    → before.faults ≤ mid.faults → mid.left ≡ before.left → mid.quiets ≡ before.quiets → mid.endings ≡ before.endings → mid.given ≡ before.given
    → after.sent ≡ mid.sent → Attempts r.number mid after end → Asks r before after end
asked_after r before mid after end sent faults left quiets endings given sent_is a =
    let frame = frame_bytes (frame_kind.Request r) in
    record {
      count = length frame;
      sent = subst (λ (x : List ℕ). Appends before.sent after.sent x) (sym (take_all (length frame) frame (omega arith))) (subst (λ (x : Option (List ℕ)). Appends before.sent x frame) (sym sent_is) sent);
      all = inr (omega arith);
      attempts = record {
        bytes = a.bytes;
        frames = a.frames;
        reader = a.reader;
        came = record {
          consumed = subst (λ (x : Option (List ℕ)). Consumes x after.left a.bytes) left a.came.consumed;
          given = subst (λ (x : ℕ). min (x + length a.bytes) (2 ^ 64 - 1) ≤ after.given) given a.came.given;
          follows = a.came.follows;
        };
        first = a.first;
        over = by end a.over;
      };
    } where
      why : (sound : Bool) (count : ℕ) → EndsSo Ended mid after sound count → EndsSo Ended before after sound count
      why sound count (inl rose) = inl (omega arith)
      why sound count (inr (inl rose)) = inr (inl (subst (λ (x : ℕ). Rose x after.endings) endings rose))
      why sound count (inr (inr (inl fault))) = inr (inr (inl fault))
      why sound count (inr (inr (inr (inl quiet)))) = inr (inr (inr (inl (subst (λ (x : ℕ). min (x + 50) (2 ^ 64 - 1) ≤ after.quiets) quiets quiet))))
      why sound count (inr (inr (inr (inr many)))) = inr (inr (inr (inr many)))

      by : (end : Attempt) → EndsSo end mid after (is_sound a.reader.fault) (length a.bytes) → EndsSo end before after (is_sound a.reader.fault) (length a.bytes)
      by (Answered reply) o = o
      by (Redirected replica) o = o
      by Busy o = o
      by Ended o = why (is_sound a.reader.fault) (length a.bytes) o

-- an attempt whose link failed as a beginning of the frame was sent
pub asked_in_vain : (r : Request) (before after : LinkState) (count : ℕ) (reader : Progress) → FollowsClient [] [] reader → Appends before.sent after.sent (take count (frame_bytes (frame_kind.Request r)))
    → Rose before.faults after.faults → after.left ≡ before.left → after.given ≡ before.given → Asks r before after Ended
asked_in_vain r before after count reader follows sent rose left given = record {
  count = count;
  sent = sent;
  all = inl refl;
  attempts = record {
    bytes = [];
    frames = [];
    reader = reader;
    came = record {
      consumed = subst (λ (x : Option (List ℕ)). Consumes before.left x []) (sym left) (consumes_none before.left);
      given = subst (λ (x : ℕ). min (before.given + 0) (2 ^ 64 - 1) ≤ x) (sym given) (omega arith);
      follows = follows;
    };
    first = refl;
    over = inl rose;
  };
}

-- the same where it may want memory
pub asked_after_ok : (r : Request) (before mid after : LinkState) (result : Result Attempt NoMemory) → Appends before.sent mid.sent (frame_bytes (frame_kind.Request r))
    → before.faults ≤ mid.faults → mid.left ≡ before.left → mid.quiets ≡ before.quiets → mid.endings ≡ before.endings → mid.given ≡ before.given
    → after.sent ≡ mid.sent → IfOk result (λ end. Attempts r.number mid after end) → IfOk result (λ end. Asks r before after end)
asked_after_ok r before mid after (Err e) sent faults left quiets endings given sent_is a = tt
asked_after_ok r before mid after (Ok end) sent faults left quiets endings given sent_is a = asked_after r before mid after end sent faults left quiets endings given sent_is a

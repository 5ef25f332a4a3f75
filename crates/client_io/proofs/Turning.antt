-- The turn of a session from its parts.
use Rattle.std.proofs.Common.{◌≡◌, ◌≤◌, ◌⊎◌, inl, inr, ℕ, ◌+◌, ◌-◌, ◌^◌, min, List, [], Option, Result, Ok, Err, IfOk, length, take, sym, ◌∙◌, ap, subst, arith}
use Rattle.std.specs.Io.KnownBytes.{Appends, Consumes}
use Rattle.std.proofs.lemmas.List.{length-take-le, take_all}
use Rattle.jp_types.specs.Faults.{Rose}
use Rattle.jp_types.specs.declared.memory.NoMemory.{NoMemory}
use Rattle.client_io.specs.Links.{LinkState, Progress}
use Rattle.client_io.specs.declared.hearing.Heard.{Heard}
use Rattle.client_io.specs.declared.hearing.Heard.TheVariants.{Quiet, Lost, Frames}
use Rattle.client_io.specs.Hearing.{Brings, BringsAtMost, Brought, ReadsPiece}
use Rattle.client_io.specs.Turning.{Flushes, FlushesSome, Receives, ReceivesOnce, Sends, Turns}
use Rattle.client_io.specs.Sessions.{Session}

-- what a link told before and after it gave a piece
pub record Gives (link : LinkState) (piece : List ℕ) (later : LinkState) : Type 0 where
  pub some : 1 ≤ length piece
  pub consumed : Consumes link.left later.left piece
  pub given : later.given ≡ min (link.given + length piece) (2 ^ 64 - 1)
  pub faults : link.faults ≤ later.faults
  pub quiets : link.quiets ≤ later.quiets
  pub endings : link.endings ≤ later.endings

pub bytes_give : (link later : LinkState) (room : List ℕ) (count : ℕ) → 1 ≤ count → count ≤ length room → Consumes link.left later.left (take count room)
    → later.given ≡ min (link.given + count) (2 ^ 64 - 1) → link.faults ≤ later.faults → link.quiets ≤ later.quiets → link.endings ≤ later.endings → Gives link (take count room) later
bytes_give link later room count some most consumed given faults quiets endings =
    let len : length (take count room) ≡ count = length-take-le count room most in
    record {
      some = omega arith;
      consumed = consumed;
      given = given ∙ ap (λ (n : ℕ). min (link.given + n) (2 ^ 64 - 1)) (sym len);
      faults = faults;
      quiets = quiets;
      endings = endings;
    }

-- a piece came over a link, and was read
pub piece_brings : (link later : LinkState) (before after : Progress) (piece taken : List ℕ) (result : Result Heard NoMemory)
    → IfOk result (λ heard. ReadsPiece before piece heard after) → Gives link taken later → piece ≡ taken → IfOk result (λ heard. Brings heard link before later after)
piece_brings link later before after piece taken (Err e) read g is = tt
piece_brings link later before after piece taken (Ok Quiet) read g is = absurd read
piece_brings link later before after piece taken (Ok Lost) read g is = absurd read
piece_brings link later before after piece taken (Ok (Frames frames sound count)) read g is = record {
  brought = record { piece = taken; some = g.some; consumed = g.consumed; given = g.given; read = subst (λ (p : List ℕ). ReadsPiece before p (Frames frames sound count) after) is read };
  faults = g.faults;
  quiets = g.quiets;
  endings = g.endings;
}

-- it has no more bytes than there was room for
pub piece_brings_at_most : (before after : Progress) (piece taken : List ℕ) (room : ℕ) (result : Result Heard NoMemory)
    → IfOk result (λ heard. ReadsPiece before piece heard after) → 1 ≤ length taken → length taken ≤ room → piece ≡ taken → IfOk result (BringsAtMost room)
piece_brings_at_most before after piece taken room (Err e) read some most is = tt
piece_brings_at_most before after piece taken room (Ok Quiet) read some most is = absurd read
piece_brings_at_most before after piece taken room (Ok Lost) read some most is = absurd read
piece_brings_at_most before after piece taken room (Ok (Frames frames sound count)) read some most is =
    let P : ℕ → Type 0 = λ n. 1 ≤ n in
    let Q : ℕ → Type 0 = λ n. n ≤ room in
    let count_is : length taken ≡ count = sym (read.2 ∙ ap length is) in
    (subst P count_is some, subst Q count_is most)

-- a count that rose later rose since
rose_since : (before mid after : ℕ) → before ≤ mid → Rose mid after → Rose before after
rose_since before mid after later rose = omega arith

-- The session after what was queued was sent: its parts that are not the link's sent bytes and faults are as they were.
module _ (before mid after : Session) (f : Flushes before mid) where
  left_is : mid.link.left ≡ before.link.left
  left_is = ap (λ (s : Session). s.link.left) f.session

  reader_is : mid.reader ≡ before.reader
  reader_is = ap (λ (s : Session). s.reader) f.session

  given_is : mid.link.given ≡ before.link.given
  given_is = ap (λ (s : Session). s.link.given) f.session

  endings_are : mid.link.endings ≡ before.link.endings
  endings_are = ap (λ (s : Session). s.link.endings) f.session

  sends_after : (heard : Heard) → after.link.sent ≡ mid.link.sent → after.queued ≡ mid.queued → Sends heard before after
  sends_after heard sent_is queued_is = by heard where
    sent : Appends before.link.sent after.link.sent before.queued
    sent = subst (λ (x : Option (List ℕ)). Appends before.link.sent x before.queued) (sym sent_is) f.sent

    none : after.queued ≡ []
    none = queued_is ∙ ap (λ (s : Session). s.queued) f.session

    by : (heard : Heard) → Sends heard before after
    by Quiet = (sent, none)
    by (Frames frames sound count) = (sent, none)
    by Lost = (length before.queued, subst (λ (q : List ℕ). Appends before.link.sent after.link.sent q) (sym (take_all (length before.queued) before.queued (omega arith))) sent)

  receives_after : (heard : Heard) → Brought heard mid.link mid.reader after.link after.reader → Receives heard before after
  receives_after Quiet r = (r.0 ∙ left_is, r.1 ∙ reader_is)
  receives_after Lost r = (r.0 ∙ left_is, why r.2) where
    why : Rose mid.link.faults after.link.faults ⊎ Rose mid.link.endings after.link.endings → Rose before.link.faults after.link.faults ⊎ Rose before.link.endings after.link.endings
    why (inl rose) = inl (rose_since before.link.faults mid.link.faults after.link.faults f.faults rose)
    why (inr rose) = inr (subst (λ (x : ℕ). Rose x after.link.endings) endings_are rose)
  receives_after (Frames frames sound count) r = record {
    piece = r.piece;
    some = r.some;
    consumed = subst (λ (x : Option (List ℕ)). Consumes x after.link.left r.piece) left_is r.consumed;
    given = subst (λ (x : ℕ). after.link.given ≡ min (x + length r.piece) (2 ^ 64 - 1)) given_is r.given;
    read = subst (λ (x : Progress). ReadsPiece x r.piece (Frames frames sound count) after.reader) reader_is r.read;
  }

  -- what is queued was sent, and then something was received
  pub flushed_turns : (heard : Heard) → ReceivesOnce mid heard after → Turns before heard after
  flushed_turns heard r =
      let flushed = f.faults in
      let received = r.brings.faults in
      let ended = r.brings.endings in
      let endings = endings_are in
      record {
        number = ap (λ (s : Session). s.number) r.session ∙ ap (λ (s : Session). s.number) f.session;
        sends = sends_after heard r.sent (ap (λ (s : Session). s.queued) r.session);
        receives = receives_after heard r.brings.brought;
        faults = omega arith;
        endings = omega arith;
      }

  -- the same where it may want memory
  pub flushed_turns_ok : (result : Result Heard NoMemory) → IfOk result (λ heard. ReceivesOnce mid heard after) → IfOk result (λ heard. Turns before heard after)
  flushed_turns_ok (Err e) r = tt
  flushed_turns_ok (Ok heard) r = flushed_turns heard r

-- the link failed when a beginning of what was queued was sent
pub failed_turns : (before after : Session) → FlushesSome before after → Turns before Lost after
failed_turns before after f = record {
  number = ap (λ (s : Session). s.number) f.session;
  sends = (f.count, f.sent);
  receives = (ap (λ (s : Session). s.link.left) f.session, inl f.rose);
  faults = f.faults;
  endings = subst (λ (x : ℕ). before.link.endings ≤ x) (sym (ap (λ (s : Session). s.link.endings) f.session)) (omega arith);
}

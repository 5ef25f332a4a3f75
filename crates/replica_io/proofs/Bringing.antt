-- What a receive that brings nothing leaves, and what one that brings bytes counts.
use Rattle.std.proofs.Common.{◌≡◌, ◌≤◌, ◌+◌, ◌-◌, ◌^◌, min, max, ℕ, List, [], ◌++◌, length, Option, Ok, Err, refl, inl, inr, sym, subst, append-nil, arith}
use Rattle.std.specs.Io.KnownBytes.{Consumes}
use Rattle.std.proofs.KnownBytes.{Consumes-nil}
use Rattle.frame_stream.specs.Frames.{Rules}
use Rattle.frame_stream.specs.Following.{Progress, Follows, HasFollowed}
use Rattle.replica_io.specs.Turns.{Observed}
use Rattle.jp_types.specs.Faults.{Rose}
use Rattle.jp_types.specs.declared.fault.Failed.{Failed}
use Rattle.jp_types.specs.declared.memory.NoMemory.{NoMemory}
use Rattle.links.specs.declared.came.Came.{Came}
use Rattle.links.specs.declared.came.Came.TheVariants.{Quiet, Ended}
use Rattle.links.specs.Receiving.{ReceiveConsumes, CountsQuiet, CountsEnded, CountsGiven}
use Rattle.replica_io.specs.declared.receive.Got.TheVariants as got
use Rattle.replica_io.specs.Receiving.{Brought, Receives, given_after}

pub kept-taken : (a b : Option (List ℕ)) → b ≡ a → Consumes a b []
kept-taken a b is = subst (λ known. Consumes a known []) (sym is) (Consumes-nil a)

pub none-given : (before : ℕ) → before ≡ given_after 0 before
none-given before = omega arith

pub some-given : (count before now : ℕ) → before ≤ now → now ≡ min (before + count) (2 ^ 64 - 1) → now ≡ given_after count before
some-given count before now later is = omega (arith, later, is)

pub same-followed : {G Item : Type 0} (rules : Rules Item) (reader : Progress G) (before : List Item) (stream : List ℕ) (items : List Item)
    → Follows rules stream items reader → HasFollowed rules (stream ++ []) items before before reader
same-followed rules reader before stream items follows =
    ([], (sym (append-nil before), subst (λ bytes. Follows rules bytes (items ++ []) reader) (sym (append-nil stream)) (subst (λ read. Follows rules stream read reader) (sym (append-nil items)) follows)))

-- a receive that brings nothing
pub nothing-brought : {L G Item : Type 0} (o : Observed L) (rules : Rules Item) (start link : L) (reader : Progress G) (items : List Item)
    → o.left link ≡ o.left start → o.given link ≡ o.given start → o.sent link ≡ o.sent start → Brought o rules start link reader reader items items []
nothing-brought o rules start link reader items left given sent = record {
  taken = kept-taken (o.left start) (o.left link) left;
  given = subst (λ count. o.given link ≡ count) (none-given (o.given start)) given;
  sent = sent;
  follows = same-followed rules reader items;
}

module _ {L G Item : Type 0} (o : Observed L) (rules : Rules Item) (start link : L) (reader : Progress G) (items : List Item) (room : List ℕ) where
  pub quiet-received : (came : Came) → came ≡ Quiet → ReceiveConsumes {E = Failed} (o.left start) (o.left link) (Ok came) room → o.sent link ≡ o.sent start
      → CountsQuiet {E = Failed} (o.quiets start) (o.quiets link) (Ok came) → CountsGiven {E = Failed} (o.given start) (o.given link) (Ok came)
      → Receives {E = NoMemory} o rules start link reader reader items items (Ok got.Quiet)
  quiet-received came is bytes sent quiets given =
      let taken = subst (λ c. ReceiveConsumes {E = Failed} (o.left start) (o.left link) (Ok c) room) is bytes in
      let more = subst (λ c. CountsGiven {E = Failed} (o.given start) (o.given link) (Ok c)) is given in
      let rose = subst (λ c. CountsQuiet {E = Failed} (o.quiets start) (o.quiets link) (Ok c)) is quiets in
      ([], (nothing-brought o rules start link reader items taken more sent, (refl, rose.1)))

  pub end-received : (came : Came) → came ≡ Ended → ReceiveConsumes {E = Failed} (o.left start) (o.left link) (Ok came) room → o.sent link ≡ o.sent start
      → CountsEnded {E = Failed} (o.endings start) (o.endings link) (Ok came) → CountsGiven {E = Failed} (o.given start) (o.given link) (Ok came)
      → Receives {E = NoMemory} o rules start link reader reader items items (Ok got.Dropped)
  end-received came is bytes sent endings given =
      let taken = subst (λ c. ReceiveConsumes {E = Failed} (o.left start) (o.left link) (Ok c) room) is bytes in
      let more = subst (λ c. CountsGiven {E = Failed} (o.given start) (o.given link) (Ok c)) is given in
      let rose = subst (λ c. CountsEnded {E = Failed} (o.endings start) (o.endings link) (Ok c)) is endings in
      ([], (nothing-brought o rules start link reader items taken more sent, inr (inl rose.1)))

  pub fault-received : o.left link ≡ o.left start → o.sent link ≡ o.sent start → o.given link ≡ o.given start → Rose (o.faults start) (o.faults link)
      → Receives {E = NoMemory} o rules start link reader reader items items (Ok got.Dropped)
  fault-received bytes sent given rose = ([], (nothing-brought o rules start link reader items bytes given sent, inl rose))

use Rattle.std.proofs.Common.{◌≡◌, ◌-◌, ◌≤◌, length, take}
use Rattle.std.specs.Io.KnownBytes.{Appends}
use Rattle.links.proofs.link.send_all.Given as goal

abbrev pub invariant-pieces : goal.invariant-pieces
invariant-pieces g l =
    let L = g.L.Link in
    record {
      within : l.done ≤ length l.text;
      sent : Appends (L.sent l.fn.link) (L.sent l.link) (take l.done l.text);
      left : L.left l.link ≡ L.left l.fn.link;
      later : L.faults l.fn.link ≤ L.faults l.link;
      quiets : L.quiets l.link ≡ L.quiets l.fn.link;
      endings : L.endings l.link ≡ L.endings l.fn.link;
      given : L.given l.link ≡ L.given l.fn.link;
    }

abbrev pub decreases-pieces : goal.decreases-pieces
decreases-pieces g l = length l.text - l.done

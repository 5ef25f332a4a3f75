-- How many requests each client made, line by line.
use Rattle.std.proofs.Common.{◌≡◌, ◌⊎◌, inl, inr, ◌<◌, ◌≤◌, ◌==◌, ℕ, suc, Bool, true, false, List, length, arith}
use Rattle.std.specs.Prelude.{Option, Some, None, nat_lt, slice_index, slice_set, if◌then◌else◌}
use Rattle.std.proofs.lemmas.Bool.{cases_eq, cases_order}
use Rattle.std.proofs.lemmas.List.{get_or-set_same, get_or-set_other, set_past}
use Rattle.schedules.specs.Generator.{drawn}
use Rattle.cluster.specs.Drawing.{after_draw, delivers_again, delivers_next, Drawing, Drawn, ends_or_begins, late_line, line_for, message_from, next_line, requests, suspects_or_ticks}
use Rattle.schedules.specs.declared.line.Line.{Line}
use Rattle.cluster.specs.Stepping.{replica_at, Stepping}

-- a client made at most one request more
abbrev pub MadeMore : ℕ → Drawing → Drawn → Type 0
MadeMore client g d = slice_index d.1.made client ≤ suc (slice_index g.made client)

-- the same of either of two
either_more : (client : ℕ) (g : Drawing) (b : Bool) (x y : Drawn) → MadeMore client g x → MadeMore client g y → MadeMore client g (if b then x else y)
either_more client g true x y of_x of_y = of_x
either_more client g false x y of_x of_y = of_y

-- one of a list of numbers rises by one
risen : (made : List ℕ) (at client : ℕ) → slice_index (slice_set made at (suc (slice_index made at))) client ≤ suc (slice_index made client)
risen made at client = by (cases_eq client at) where
  there : (at < length made) ⊎ (length made ≤ at)
  there = (let order = cases_order at (length made) in grind arith)

  here : (at < length made) ⊎ (length made ≤ at) → slice_index (slice_set made at (suc (slice_index made at))) at ≤ suc (slice_index made at)
  here (inl low) = rw (get_or-set_same made at (suc (slice_index made at)) 0 low) (omega arith)
  here (inr past) = rw (set_past made at (suc (slice_index made at)) past) (omega arith)

  by : (client ≡ at) ⊎ (client ≡ at → ⊥) → slice_index (slice_set made at (suc (slice_index made at))) client ≤ suc (slice_index made client)
  by (inl same) = rw same (here there)
  by (inr other) = rw (get_or-set_other made at client (suc (slice_index made at)) 0 other) (omega arith)

-- a delivery, or a turn of the Protocol stage
delivery_more : (client r : ℕ) (g : Drawing) (found : Option ℕ) → MadeMore client g (delivers_next found r g)
delivery_more client r g None = omega arith
delivery_more client r g (Some m) = omega arith

-- a line for a draw of 85 or more
late_more : (client d r : ℕ) (s : Stepping) (g : Drawing) → MadeMore client g (late_line d r s g)
late_more client d r s g =
    either_more client g (nat_lt d 93) (Line.Batch r, g) _ (omega arith)
    (either_more client g (nat_lt d 95) (Line.Tick r, g) _ (omega arith)
    (either_more client g (nat_lt d 97) (Line.Retransmit r, g) _ (omega arith)
    (either_more client g (d == 97) (delivers_again s.sent g) _ (omega arith)
    (either_more client g (d == 98) (ends_or_begins (replica_at s r) r s, g) (suspects_or_ticks r g) (omega arith) (omega arith)))))

-- a line for a draw below 100
line_more : (client d r : ℕ) (s : Stepping) (g : Drawing) → MadeMore client g (line_for d r s g)
line_more client d r s g =
    either_more client g (nat_lt d 30) (delivers_next (message_from r (slice_index g.from r) s.sent) r g) _ (delivery_more client r g (message_from r (slice_index g.from r) s.sent))
    (either_more client g (nat_lt d 70) (Line.Protocol r, g) _ (omega arith)
    (either_more client g (nat_lt d 80) (Line.Service r, g) _ (omega arith)
    (either_more client g (nat_lt d 85) (requests r g) (late_line d r s g) (risen g.made (drawn (after_draw g).word 8) client) (late_more client d r s g))))

-- a line that is drawn
pub next_more : (client : ℕ) (s : Stepping) (g : Drawing) → MadeMore client g (next_line s g)
next_more client s g =
    line_more client (drawn (after_draw g).word 100) (drawn (after_draw (after_draw g)).word s.head.n) s (after_draw (after_draw g))

-- A schedule that the model draws from a seed is one that can be run: 3 to 9 replicas, a window of 8, and requests within the limits.
use Rattle.std.proofs.Common.{◌≡◌, ◌⊎◌, inl, inr, lit<, lit≤, ◌+◌, ◌-◌, ◌/◌, ◌^◌, ◌<◌, ◌≤◌, ◌==◌, ℕ, zero, suc, Bool, true, false, List, [], ◌∷◌, length, replicate, sym, subst, arith}
use Rattle.std.specs.Prelude.{Option, Some, None, nat_lt, slice_get, slice_index, slice_set, if◌then◌else◌, count_by}
use Rattle.std.proofs.Math.Nat.{mod-lt}
use Rattle.std.proofs.lemmas.Bool.{cases_eq, cases_order}
use Rattle.std.proofs.lemmas.List.{get_or-set_same, get_or-set_other, set_past, get_or-replicate, get_or_past}
use Rattle.jp_types.specs.Views.{number_limit, majority}
use Rattle.jp_types.specs.Lists.{In}
use Rattle.paxos_world.specs.World.{Sent}
use Rattle.schedules.specs.Generator.{drawn, next_word, Drawing, Drawn, after_draws, message_to, dropped, delivers_next, requests, redelivers, is_away, ends_or_begins, line_for, next_line, lines_drawn, mode_of_seed, generate}
use Rattle.schedules.specs.Run.{event, first_event}
use Rattle.paxos_world.specs.Replica.{Running}
use Rattle.schedules.specs.Cluster.{running_of}
use Rattle.schedules.specs.declared.line.Head.{Head}
use Rattle.schedules.specs.declared.line.Line.{Line}
use Rattle.cluster_laws.specs.Laws.{IsLine, IsSchedule}
use Rattle.jp_types.specs.Limits.{IsKey, IsValue, AreBytes}
use Rattle.run_laws.specs.Laws.{IsRunnable}

-- ---- The counts of requests

-- no client made more requests than this
abbrev pub MadeAtMost : ℕ → Drawing → Type 0
MadeAtMost count g = (client : ℕ) → slice_index g.made client ≤ count

-- a client made at most one request more
abbrev pub MadeMore : ℕ → Drawing → Drawn → Type 0
MadeMore client g d = slice_index d.1.made client ≤ suc (slice_index g.made client)

-- what holds of the counts after each of two lines holds after the one that a test picks
either-more : (client : ℕ) (g : Drawing) (b : Bool) (x y : Drawn) → MadeMore client g x → MadeMore client g y → MadeMore client g (if b then x else y)
either-more client g true x y of_x of_y = of_x
either-more client g false x y of_x of_y = of_y

-- where one of the counts rises by one, each is at most one more than it was
risen : (made : List ℕ) (at client : ℕ) → slice_index (slice_set made at (suc (slice_index made at))) client ≤ suc (slice_index made client)
risen made at client = by (cases_eq client at) where
  there : (at < length made) ⊎ (length made ≤ at)
  there = (let order = cases_order at (length made) in grind arith)

  here : (at < length made) ⊎ (length made ≤ at) → slice_index (slice_set made at (suc (slice_index made at))) at ≤ suc (slice_index made at)
  here (inl low) = rw (get_or-set_same made at (suc (slice_index made at)) 0 low) (omega arith)
  here (inr past) = rw (set_past made at (suc (slice_index made at)) past) (omega arith)

  by : (client ≡ at) ⊎ (client ≡ at → ⊥) → slice_index (slice_set made at (suc (slice_index made at))) client ≤ suc (slice_index made client)
  by (inl same) = rw same (here there)
  by (inr other) = rw (get_or-set_other made at client (suc (slice_index made at)) 0 other) (omega arith)

-- a delivery, or a turn of the Protocol stage, raises no count
delivery-more : (client r : ℕ) (g : Drawing) (found : Option ℕ) → MadeMore client g (delivers_next found r g)
delivery-more client r g None = omega arith
delivery-more client r g (Some m) = omega arith

-- a message that is delivered once more raises no count
again-more : (client m : ℕ) (g : Drawing) (found : Option Sent) → MadeMore client g (redelivers found m g)
again-more client m g None = omega arith
again-more client m g (Some sent) = omega arith

-- a start, a crash and a turn of the Protocol stage raise no count
end-more : (client r : ℕ) (g : Drawing) (found : Option Running) → MadeMore client g (ends_or_begins found r g)
end-more client r g None = omega arith
end-more client r g (Some a) = omega arith

-- a line for a draw below 100 raises each count by one at most
line-more : (client d r : ℕ) (g : Drawing) → MadeMore client g (line_for d r g)
line-more client d r g =
    either-more client g (nat_lt d 30) (delivers_next (message_to r (slice_index g.from r) (dropped (slice_index g.from r) g.cluster.sent)) r g) _
    (delivery-more client r g (message_to r (slice_index g.from r) (dropped (slice_index g.from r) g.cluster.sent)))
    (either-more client g (nat_lt d 70) (Line.Protocol r, g) _ (omega arith)
    (either-more client g (nat_lt d 80) (Line.Service r, g) _ (omega arith)
    (either-more client g (nat_lt d 85) (requests r g) _ (risen g.made (drawn (next_word g.word) 8) client)
    (either-more client g (nat_lt d 93) (Line.Batch r, g) _ (omega arith)
    (either-more client g (nat_lt d 95) (Line.Tick r, g) _ (omega arith)
    (either-more client g (nat_lt d 97) (Line.Retransmit r, g) _ (omega arith)
    (either-more client g (d == 97) _ _ (again-more client (drawn (next_word g.word) (length g.cluster.sent)) (after_draws 1 g) (slice_get g.cluster.sent (drawn (next_word g.word) (length g.cluster.sent))))
    (either-more client g (d == 98) (ends_or_begins (running_of (slice_get g.cluster.places r)) r g) _ (end-more client r g (running_of (slice_get g.cluster.places r)))
    (either-more client g (drawn (next_word g.word) 10 == 0) (Line.Suspect r, after_draws 1 g) (Line.Tick r, after_draws 1 g) (omega arith) (omega arith))))))))))

-- a line that is drawn raises each client's count of requests by one at most
next-more : (client : ℕ) (g : Drawing) → MadeMore client g (next_line g)
next-more client g = line-more client (drawn (next_word g.word) 100) (drawn (next_word (next_word g.word)) g.cluster.head.n) (after_draws 2 g)

-- before the first line is drawn no client made a request
none-made : (client : ℕ) → slice_index (replicate 8 0) client ≤ 0
none-made client = by (cases_order client 8) where
  zeros : List ℕ
  zeros = replicate 8 0

  by : (client ≡ 8) ⊎ ((client < 8) ⊎ (8 < client)) → slice_index (replicate 8 0) client ≤ 0
  by (inl same) = rw same (lit≤ tt)
  by (inr (inl low)) = let none : slice_index (replicate 8 0) client ≡ 0 = get_or-replicate {A = ℕ} 8 client 0 0 low in rw none (lit≤ tt)
  by (inr (inr past)) = let none : slice_index (replicate 8 0) client ≡ 0 = get_or_past zeros client 0 (omega arith) in rw none (lit≤ tt)

-- ---- The lines

-- a list of one byte has bytes alone
one-byte : (b : ℕ) → b < 256 → AreBytes (b ∷ [])
one-byte b low x (inl same) = rw same low
one-byte b low x (inr more) = absurd more

-- a drawn key is within the limits
drawn-key : (word : ℕ) → IsKey (drawn word 16 ∷ [])
drawn-key word =
    let low : drawn word 16 < 16 = mod-lt (word / 2 ^ 33) (lit< tt) in
    record { some = lit≤ tt; limit = lit≤ tt; bytes = one-byte (drawn word 16) (omega arith) }

-- a drawn value is within the limits
drawn-value : (word : ℕ) → IsValue (drawn word 256 ∷ [])
drawn-value word =
    let low : drawn word 256 < 256 = mod-lt (word / 2 ^ 33) (lit< tt) in
    record { limit = lit≤ tt; bytes = one-byte (drawn word 256) low }

-- a client's next number is within the limits, where it made at most 99998 requests
next-number : (made : ℕ) → made ≤ 99998 → (1 ≤ suc made) × (suc made ≤ number_limit)
next-number made low =
    let limit : 99999 ≤ number_limit = lit≤ tt in
    (omega arith, omega arith)

-- a drawn request is within the limits, where no client made more than 99998 before
drawn-request : (r : ℕ) (g : Drawing) → MadeAtMost 99998 g → IsLine (requests r g).0
drawn-request r g made =
    let a = next_word g.word in
    let b = next_word a in
    let c = next_word b in
    let low : drawn a 8 < 8 = mod-lt (a / 2 ^ 33) (lit< tt) in
    record {
      client = omega arith;
      number = next-number (slice_index g.made (drawn a 8)) (made (drawn a 8));
      command = (drawn-key b, drawn-value c);
    }

-- where each of two lines is within the limits, so is the one that a test picks
either-line : (b : Bool) (x y : Drawn) → IsLine x.0 → IsLine y.0 → IsLine (if b then x else y).0
either-line true x y of_x of_y = of_x
either-line false x y of_x of_y = of_y

-- where each of two lines is within the limits, so is the one that a test picks, with nothing drawn beside it
either-alone : (b : Bool) (x y : Line) → IsLine x → IsLine y → IsLine (if b then x else y)
either-alone true x y of_x of_y = of_x
either-alone false x y of_x of_y = of_y

-- a delivery, or a turn of the Protocol stage, has no request
delivery-line : (found : Option ℕ) (r : ℕ) (g : Drawing) → IsLine (delivers_next found r g).0
delivery-line None r g = tt
delivery-line (Some m) r g = tt

-- a message that is delivered once more has no request
again-line : (found : Option Sent) (m : ℕ) (g : Drawing) → IsLine (redelivers found m g).0
again-line None m g = tt
again-line (Some sent) m g = tt

-- a start, a crash and a turn of the Protocol stage have no request
end-line : (found : Option Running) (r : ℕ) (g : Drawing) → IsLine (ends_or_begins found r g).0
end-line None r g = tt
end-line (Some a) r g = either-alone (nat_lt (count_by is_away g.cluster.places) (g.cluster.head.n - majority g.cluster.head.n)) (Line.Crash r) (Line.Protocol r) tt tt

-- a line for a draw below 100 is within the limits, where no client made more than 99998 requests before
line-fits : (d r : ℕ) (g : Drawing) → MadeAtMost 99998 g → IsLine (line_for d r g).0
line-fits d r g made =
    let found = message_to r (slice_index g.from r) (dropped (slice_index g.from r) g.cluster.sent) in
    let h = after_draws 1 g in
    let m = drawn h.word (length g.cluster.sent) in
    either-line (nat_lt d 30) (delivers_next found r g) _ (delivery-line found r g)
    (either-line (nat_lt d 70) (Line.Protocol r, g) _ tt
    (either-line (nat_lt d 80) (Line.Service r, g) _ tt
    (either-line (nat_lt d 85) (requests r g) _ (drawn-request r g made)
    (either-line (nat_lt d 93) (Line.Batch r, g) _ tt
    (either-line (nat_lt d 95) (Line.Tick r, g) _ tt
    (either-line (nat_lt d 97) (Line.Retransmit r, g) _ tt
    (either-line (d == 97) (redelivers (slice_get g.cluster.sent m) m h) _ (again-line (slice_get g.cluster.sent m) m h)
    (either-line (d == 98) (ends_or_begins (running_of (slice_get g.cluster.places r)) r g) _ (end-line (running_of (slice_get g.cluster.places r)) r g)
    (either-line (drawn h.word 10 == 0) (Line.Suspect r, h) (Line.Tick r, h) tt tt)))))))))

-- a line that is drawn is within the limits, where no client made more than 99998 requests before
next-fits : (g : Drawing) → MadeAtMost 99998 g → IsLine (next_line g).0
next-fits g made = line-fits (drawn (next_word g.word) 100) (drawn (next_word (next_word g.word)) g.cluster.head.n) (after_draws 2 g) made

-- all lines that are drawn one after another are within the limits, where they and those before them are at most 99998
lines-fit : (k count : ℕ) (g : Drawing) → MadeAtMost count g → count + k ≤ 99998 → (line : Line) → In line (lines_drawn k g) → IsLine line
lines-fit zero count g made short line (inl same) = subst IsLine (sym same) tt
lines-fit zero count g made short line (inr none) = absurd none
lines-fit (suc k) count g made short line (inl same) = subst IsLine (sym same) (next-fits g (λ client. let a = made client in omega arith))
lines-fit (suc k) count g made short line (inr later) = lines-fit k (suc count) g_after after-made (omega arith) line later
  where
    after : Drawing
    after = (next_line g).1

    g_after : Drawing
    g_after = record after { cluster = (event after.cluster (next_line g).0).cluster }

    after-made : MadeAtMost (suc count) g_after
    after-made client = let a = made client in let b = next-more client g in omega arith

-- ---- The schedule

-- a schedule that a seed draws, of 3 to 9 replicas and at most 99998 drawn lines, is one that can be run
pub generate-is-runnable : (seed n steps : ℕ) → 3 ≤ n → n ≤ 9 → steps ≤ 99998 → IsRunnable (generate seed n steps)
unfolding generate
generate-is-runnable seed n steps more few short =
    let lines : IsSchedule (generate seed n steps)
    = record { some = omega arith; few = few; lines = λ line is_in. lines-fit steps 0 first (λ client. none-made client) (omega arith) line is_in } in
    record { schedule_is = lines; more = more; some = lit≤ tt; window = lit≤ tt }
  where
    head : Head
    head = record { n = n; mode = mode_of_seed seed; window = 8 }

    first : Drawing
    first = record { word = seed; cluster = (first_event head).cluster; from = replicate n 0; made = replicate 8 0 }

-- The line that is drawn next is the same in the model and in the code.
use Rattle.std.proofs.Common.{◌≡◌, ◌∙◌, ◌-◌, ◌==◌, ◌+◌, ℕ, zero, suc, Bool, true, false, List, [], ◌∷◌, length, map, cond, refl, sym, ap, arith}
use Rattle.std.specs.Prelude.{Option, Some, None, nat_lt, slice_get, slice_index, if◌then◌else◌, count_by, drop}
use Rattle.std.specs.Option.{option_map}
use Rattle.std.proofs.lemmas.List.{length-map}
use Rattle.std.proofs.lemmas.List.Sums.{sum_by-cons}
use Rattle.std.proofs.lemmas.Option.{slice_get-map}
use Rattle.jp_types.specs.Views.{majority}
use Rattle.paxos_world.specs.Counting.{is_recovering}
use Rattle.paxos_world.specs.World as world
use Rattle.replica_node.specs.Whole.{Whole}
use Rattle.schedules.specs.Generator as model
use Rattle.schedules.specs.Generator.{drawn, next_word}
use Rattle.cluster.specs.Drawing as code
use Rattle.paxos_world.specs.Replica.{Running}
use Rattle.schedules.specs.Cluster.{Place, Cluster, running_of}
use Rattle.cluster.specs.Machine.{Machine}
use Rattle.cluster.specs.Machines as machines
use Rattle.cluster.specs.Stepping.{Stepping, replica_at, up_on}
use Rattle.schedules.specs.declared.line.Line.{Line}
use Rattle.cluster.specs.declared.sent.Sent.{Sent}
use Rattle.replica_node.specs.Resembling.{AreAlike}
use Rattle.cluster.specs.Resembling.{sent_of, IsCluster}

-- the model's generator of a cluster that has the word and the counts of the code's
abbrev pub model_drawing : Cluster → code.Drawing → model.Drawing
model_drawing c d = record { word = d.word; cluster = c; from = d.from; made = d.made }

-- a line that the code draws and the model's generator after its draws
abbrev pub drawn_with : Cluster → code.Drawn → model.Drawn
drawn_with c x = (x.0, model_drawing c x.1)

-- ---- Messages

-- the first message to a replica has the same number in the code as in the model
to-alike : (r number : ℕ) (xs : List world.Sent) → model.message_to r number xs ≡ code.message_to r number (map sent_of xs)
to-alike r number [] = refl
to-alike r number (x ∷ xs) = let more = to-alike r (suc number) xs in λ k. if x.to == r then Some number else more k

-- the messages from a number on are the same in the code as in the model
rest-alike : (k : ℕ) (xs : List world.Sent) → map sent_of (model.dropped k xs) ≡ drop k (map sent_of xs)
rest-alike zero xs = refl
rest-alike (suc k) [] = refl
rest-alike (suc k) (x ∷ xs) = rest-alike k xs

-- the first message to a replica from a number on has the same number in the code as in the model
found-alike : (r k : ℕ) (xs : List world.Sent) (sent : List Sent) → sent ≡ map sent_of xs → model.message_to r k (model.dropped k xs) ≡ code.message_from r k sent
found-alike r k xs sent e =
    to-alike r k (model.dropped k xs) ∙ ap (λ (ys : List Sent). code.message_to r k ys) (rest-alike k xs) ∙ ap (λ (ys : List Sent). code.message_from r k ys) (sym e)

-- the next message is delivered alike
delivers-alike : (c : Cluster) (r : ℕ) (d : code.Drawing) (o : Option ℕ) → model.delivers_next o r (model_drawing c d) ≡ drawn_with c (code.delivers_next o r d)
delivers-alike c r d None = refl
delivers-alike c r d (Some m) = refl

-- a message is delivered once more alike
once-more-alike : (c : Cluster) (m : ℕ) (d : code.Drawing) (o : Option world.Sent) → model.redelivers o m (model_drawing c d) ≡ drawn_with c (code.redelivers (option_map sent_of o) m, d)
once-more-alike c m d None = refl
once-more-alike c m d (Some sent) = refl

-- a message that is drawn is delivered once more alike
again-alike : (c : Cluster) (d : code.Drawing) (sent : List Sent) → sent ≡ map sent_of c.sent
    → model.redelivers (slice_get c.sent (drawn (next_word d.word) (length c.sent))) (drawn (next_word d.word) (length c.sent)) (model_drawing c (code.after_draw d)) ≡ drawn_with c (code.delivers_again sent d)
again-alike c d sent e =
    let m = drawn (next_word d.word) (length c.sent) in
    let count = length-map c.sent sent_of in
    let got = slice_get-map sent_of c.sent m in
    once-more-alike c m (code.after_draw d) (slice_get c.sent m)
    ∙ (λ k. drawn_with c (code.redelivers (sym got k) m, code.after_draw d))
    ∙ (λ k. let n = drawn (next_word d.word) (sym count k) in drawn_with c (code.redelivers (slice_get (map sent_of c.sent) n) n, code.after_draw d))
    ∙ ap (λ (ys : List Sent). drawn_with c (code.delivers_again ys d)) (sym e)

-- ---- Replicas

-- a replica of the code that is alike is down or Recovering where the model's is
away-by : (o : Option Running) (p : Option Whole) → AreAlike o p → machines.is_away_by p ≡ model.is_away_by o
away-by None None h = refl
away-by (Some a) (Some w) h = let life = h.stage.keeps.is in λ k. is_recovering (life k).phase
away-by None (Some w) h = absurd h
away-by (Some a) None h = absurd h

-- one more item is counted, or is not
count-one : {X : Type 0} (p : X → Bool) (x : X) (xs : List X) → count_by p (x ∷ xs) ≡ cond (p x) 1 0 + count_by p xs
count-one p x xs = sum_by-cons (λ y. cond (p y) 1 0) x xs

-- two lists of the same length that agree at each place on a test have the same count
counts-alike : (xs : List Place) (ys : List Machine) → length xs ≡ length ys
    → ((r : ℕ) (x : Place) (y : Machine) → slice_get xs r ≡ Some x → slice_get ys r ≡ Some y → code.is_away y ≡ model.is_away x)
    → count_by code.is_away ys ≡ count_by model.is_away xs
counts-alike [] [] e h = refl
counts-alike [] (y ∷ ys) e h = absurd cc
counts-alike (x ∷ xs) [] e h = absurd cc
counts-alike (x ∷ xs) (y ∷ ys) e h =
    let one = h 0 x y refl refl in
    let rest = counts-alike xs ys (let d = e in omega arith) (λ r a b p q. h (suc r) a b p q) in
    count-one code.is_away y ys ∙ (λ k. cond (one k) 1 0 + rest k) ∙ sym (count-one model.is_away x xs)

-- as many replicas are down or Recovering in the code as in the model
away-alike : (c : Cluster) (s : Stepping) → IsCluster c s → code.away_count s ≡ count_by model.is_away c.places
away-alike c s h =
    counts-alike c.places s.machines (h.count ∙ sym h.machines) (λ r place m p q. away-by place.running m.running (h.places r place m p q).running)

-- where two lists of the same length agree at each place, what runs at any number is alike
runs-alike-at : (xs : List Place) (ys : List Machine) → length xs ≡ length ys
    → ((r : ℕ) (x : Place) (y : Machine) → slice_get xs r ≡ Some x → slice_get ys r ≡ Some y → AreAlike x.running y.running)
    → (r : ℕ) → AreAlike (running_of (slice_get xs r)) (up_on (slice_get ys r))
runs-alike-at [] [] e h r = tt
runs-alike-at [] (y ∷ ys) e h r = absurd cc
runs-alike-at (x ∷ xs) [] e h r = absurd cc
runs-alike-at (x ∷ xs) (y ∷ ys) e h zero = h 0 x y refl refl
runs-alike-at (x ∷ xs) (y ∷ ys) e h (suc r) = runs-alike-at xs ys (let d = e in omega arith) (λ r a b p q. h (suc r) a b p q) r

-- what runs at a replica is alike
replica-alike : (c : Cluster) (s : Stepping) (r : ℕ) → IsCluster c s → AreAlike (running_of (slice_get c.places r)) (replica_at s r)
replica-alike c s r h = runs-alike-at c.places s.machines (h.count ∙ sym h.machines) (λ r place m p q. (h.places r place m p q).running) r

-- a replica starts or crashes alike
ends-alike : (c : Cluster) (s : Stepping) (r : ℕ) (d : code.Drawing) → IsCluster c s → (o : Option Running) (p : Option Whole) → AreAlike o p
    → model.ends_or_begins o r (model_drawing c d) ≡ drawn_with c (code.ends_or_begins p r s, d)
ends-alike c s r d h None None alike = refl
ends-alike c s r d h (Some a) (Some w) alike =
    let head = h.head in
    let count = away-alike c s h in
    λ k. (if nat_lt (sym count k) ((sym head k).n - majority (sym head k).n) then Line.Crash r else Line.Protocol r, model_drawing c d)
ends-alike c s r d h None (Some w) alike = absurd alike
ends-alike c s r d h (Some a) None alike = absurd alike

-- ---- Lines

-- where each of two lines is drawn alike, so is the one that a test picks
either-alike : (c : Cluster) (b : Bool) (x y : model.Drawn) (x' y' : code.Drawn) → x ≡ drawn_with c x' → y ≡ drawn_with c y' → (if b then x else y) ≡ drawn_with c (if b then x' else y')
either-alike c true x y x' y' of_x of_y = of_x
either-alike c false x y x' y' of_x of_y = of_y

-- a suspicion or a tick is drawn alike
ticks-alike : (c : Cluster) (r : ℕ) (g : model.Drawing) (h : code.Drawing) (b : Bool) → g ≡ model_drawing c h
    → (if b then (Line.Suspect r, g) else (Line.Tick r, g)) ≡ drawn_with c (if b then Line.Suspect r else Line.Tick r, h)
ticks-alike c r g h true e = λ k. (Line.Suspect r, e k)
ticks-alike c r g h false e = λ k. (Line.Tick r, e k)

-- the line for the same draws is the same
line-alike : (c : Cluster) (s : Stepping) (k r : ℕ) (d : code.Drawing) → IsCluster c s → model.line_for k r (model_drawing c d) ≡ drawn_with c (code.line_for k r s d)
line-alike c s k r d h =
    let g = model_drawing c d in
    let from = slice_index d.from r in
    let found = model.message_to r from (model.dropped from c.sent) in
    let delivers : model.delivers_next found r g ≡ drawn_with c (code.delivers_next (code.message_from r from s.sent) r d)
    = delivers-alike c r d found ∙ ap (λ (o : Option ℕ). drawn_with c (code.delivers_next o r d)) (found-alike r from c.sent s.sent h.sent) in
    either-alike c (nat_lt k 30) (model.delivers_next found r g) _ (code.delivers_next (code.message_from r from s.sent) r d) _ delivers
    (either-alike c (nat_lt k 70) (Line.Protocol r, g) _ (Line.Protocol r, d) _ refl
    (either-alike c (nat_lt k 80) (Line.Service r, g) _ (Line.Service r, d) _ refl
    (either-alike c (nat_lt k 85) (model.requests r g) _ (code.requests r d) _ refl
    (either-alike c (nat_lt k 93) (Line.Batch r, g) _ (Line.Batch r, d) _ refl
    (either-alike c (nat_lt k 95) (Line.Tick r, g) _ (Line.Tick r, d) _ refl
    (either-alike c (nat_lt k 97) (Line.Retransmit r, g) _ (Line.Retransmit r, d) _ refl
    (either-alike c (k == 97) _ _ (code.delivers_again s.sent d) _ (again-alike c d s.sent h.sent)
    (either-alike c (k == 98) (model.ends_or_begins (running_of (slice_get c.places r)) r g) _ (code.ends_or_begins (replica_at s r) r s, d) (code.suspects_or_ticks r d)
    (ends-alike c s r d h (running_of (slice_get c.places r)) (replica_at s r) (replica-alike c s r h))
    (ticks-alike c r (model_drawing c (code.after_draw d)) (code.after_draw d) (drawn (next_word d.word) 10 == 0) refl)))))))))

-- the line that is drawn next, and the generator after its draws, are the same
pub next-alike : (c : Cluster) (s : Stepping) (d : code.Drawing) → IsCluster c s → model.next_line (model_drawing c d) ≡ drawn_with c (code.next_line s d)
next-alike c s d h =
    let a = next_word d.word in
    let b = next_word a in
    let e = code.after_draw (code.after_draw d) in
    let head = h.head in
    line-alike c s (drawn a 100) (drawn b c.head.n) e h ∙ (λ k. drawn_with c (code.line_for (drawn a 100) (drawn b (sym head k).n) s e))

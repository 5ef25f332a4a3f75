-- Catching up: queries, known batches, snapshots.
use Rattle.std.proofs.Common.{◌≡◌, ◌≢◌, ℕ, zero, suc, ◌+◌, ◌-◌, ◌*◌, ◌/◌, ◌%◌, ◌≤◌, ◌<◌, ◌⊎◌, min, Bool, true, false, ◌&&◌, not, List, [], ◌∷◌, map, length, take, drop, nat_le, nat_lt, ◌==◌, if◌then◌else◌, Option, Some, None, is_some, slice_get, refl, sym, ap, subst, ◌∙◌, inl, inr, ⊎_elim, arith, le_refl, mul-zero}
use Rattle.std.specs.List.{flat_map}
use Rattle.std.specs.Ordering.{nat_cmp}
use Rattle.jp_types.specs.declared.message.Message.{Message}
use Rattle.jp_types.specs.declared.message.SnapshotPart.{SnapshotPart}
use Rattle.kv_service.specs.Entries
use Rattle.kv_service.specs.Service.{State}
use Rattle.kv_service.specs.StateBytes.{state_bytes}
use Rattle.kv_service.specs.StateReading.{state_in}
use Rattle.paxos_world.specs.declared.step.Step.{Step}
use Rattle.jp_types.specs.Lists.{In}
use Rattle.paxos_world.specs.Life.{Life, IsFirstUnknown, Took}
use Rattle.jp_types.specs.Instances.{Batch}
use Rattle.paxos_world.specs.World.{Install, By_catch_up, CanInstall, MaySay, stable_after}
use Rattle.kv_service.specs.Parts.{part_size}
use Rattle.paxos_world.specs.Stage.{setup_of, Snapshot, Stage, Turned}
use Rattle.kv_service.specs.Parts.{Joiner}
use Rattle.paxos_world.specs.Writing.{◌▹◌, when, when_some, for_each, with_stage, does, says}
use Rattle.paxos_world.specs.Logs.{is_in_span, is_known, first_undecided}
use Rattle.jp_types.specs.Instances.{span}
use Rattle.paxos_world.specs.Retransmitting.{arms_query, cancels_query}
use Rattle.paxos_world.specs.Learning.{learns}
use Rattle.paxos_world.specs.CatchingUp.{query_of, queries_peer, query_where_due, replied_batches, parts_of, on_query, learns_each, on_batches, is_joining_above, joiner_for, keeps_joiner, installs, installs_if, has_part, puts_part, on_part, place_of, on_snapshot}
use Rattle.jp_types.specs.Instances.{peer, known_then, known_from, reply_limit}
use Rattle.kv_service.specs.Parts.{parts_from, part_count, is_alike, takes_part, with_part, is_joined, joined_bytes}
use Rattle.paxos_world.proofs.Basics.{In-append}
use Rattle.paxos_world.proofs.Replies.{same}
use Rattle.jp_types.specs.Limits.{AreBytes}
use Rattle.turn_laws.proofs.Sane.{took-sane}
use Rattle.turn_laws.proofs.Reading.{reads-back}
use Rattle.turn_laws.proofs.Fitting.{SnapshotTrue, JoinerTrue, Fits, Frame, Goes}
use Rattle.turn_laws.proofs.Going.{keep-when, keep-some, keep-each, note-more, stage_after, Follows, as_of, goes-does-as}
use Rattle.turn_laws.proofs.Words.{re, goes-stage, goes-freely, goes-show, goes-says, onward-deed, plain-stable}
use Rattle.turn_laws.proofs.Scanning.{le-of, lt-of, not-lt-of, and-of, not-known, in-span, undecided-base, undecided-is}
use Rattle.turn_laws.proofs.Arming.{still, goes-cancels_query, goes-arms_query}
use Rattle.turn_laws.proofs.Learning.{goes-learns}
use Rattle.turn_laws.proofs.Messages.{Came, took-at}
use Rattle.turn_laws.proofs.Joining.{insert-in, insert-rising, Cut, placed, count-all, get-map, get-in, map-length, flat-map}

-- ---- Queries

times-not : (n k x : ℕ) → 0 < x → x < n → n * k ≡ x → ⊥
times-not n zero x some less e = let f : n * 0 ≡ 0 = mul-zero n in omega arith
times-not n (suc k) x some less e = let f : n * suc k ≡ n * k + n = grind arith in omega arith

pub peer-other : (me n queries : ℕ) → 2 ≤ n → peer me n queries ≢ me
peer-other me n queries two e =
    let r = queries % (n - 1) in
    let small : r < n - 1 = omega arith in
    let x = me + 1 + r in
    let div : n * (x / n) + x % n ≡ x = omega arith in
    let f : n * (x / n) ≡ 1 + r = omega arith in
    times-not n (x / n) (1 + r) (omega arith) (omega arith) f

pub goes-queries_peer : (f : Frame) (t : Turned) → Goes (still f) [] t → Goes (still f) [] (queries_peer t)
goes-queries_peer f t h =
    let s = t.stage in
    let m = query_of (first_undecided s) in
    let to = peer s.config.me s.config.n s.queries in
    let ne : to ≢ s.config.me = λ e. peer-other s.config.me s.config.n s.queries h.more e in
    let a = goes-cancels_query (still f) [] t h in
    let u = cancels_query t in
    let b = goes-says (still f) u to m a ne tt in
    let v = says to m u in
    let d = goes-arms_query (still f) [] v m to b ne (λ k. tt) in
    let w = arms_query m to v in
    goes-freely (still f) [] w (record w.stage { queries = (s.queries + 1) % (s.config.n - 1) }) d

pub goes-query_where_due : (f : Frame) (t : Turned) → Goes (still f) [] t → Goes (still f) [] (query_where_due t)
goes-query_where_due f t h =
    keep-when (Goes (still f) []) (nat_lt (first_undecided t.stage) t.stage.horizon) queries_peer t (λ e. goes-queries_peer f t h) (λ e. h)

-- ---- Answering a query

known_from-is : (k : ℕ) (known : ℕ → Option Batch) (i j : ℕ) (batch : Batch) → slice_get (known_from k known i) j ≡ Some batch → known (i + j) ≡ Some batch
known_from-is zero known i j batch e = absurd cc
known_from-is (suc k) known i j batch e = go (known i) refl j e (λ x f. known_from-is k known (suc i) x batch f)
  where
    go : (o : Option Batch) → known i ≡ o → (j : ℕ) → slice_get (known_then o (known_from k known (suc i))) j ≡ Some batch
        → ((x : ℕ) → slice_get (known_from k known (suc i)) x ≡ Some batch → known (suc i + x) ≡ Some batch) → known (i + j) ≡ Some batch
    go None f j e again = absurd cc
    go (Some b) f zero e again = let g : i ≡ i + 0 = omega arith in subst (λ x. known x ≡ Some batch) g (f ∙ e)
    go (Some b) f (suc j) e again = let g : suc i + j ≡ i + suc j = omega arith in subst (λ x. known x ≡ Some batch) g (again j e)

replied-is : (s : Stage) (first j : ℕ) (batch : Batch) → slice_get (replied_batches s first) j ≡ Some batch → s.life.known (first + j) ≡ Some batch
unfolding replied_batches
replied-is s first j batch e = known_from-is reply_limit s.life.known first j batch e

-- a part of these bytes
record PartOf (upto total : ℕ) (bytes : List ℕ) (m : Message) : Type 0 where
  at : ℕ
  is : m ≡ Message.SnapshotPart (record { upto = upto; total = total; at = at; bytes = take part_size (drop at bytes) })
  cut : at % part_size ≡ 0
  within : at < total

parts-are : (k upto total : ℕ) (bytes : List ℕ) (at : ℕ) (m : Message) → at % part_size ≡ 0 → at + part_size * k < total + part_size → In m (parts_from k upto total bytes at) → PartOf upto total bytes m
parts-are zero upto total bytes at m cut less n = absurd n
parts-are (suc k) upto total bytes at m cut less (inl e) = record { at = at; is = e; cut = cut; within = omega arith }
parts-are (suc k) upto total bytes at m cut less (inr n) = parts-are k upto total bytes (at + part_size) m (omega arith) (omega arith) n

part-said : (s : Stage) (l : Life) (n : Snapshot) (m : Message) → SnapshotTrue l n → In m (parts_of n) → MaySay (setup_of s.config) s.config.me l m
part-said s l n m h i =
    let a = parts-are (part_count (length n.bytes)) n.place (length n.bytes) n.bytes 0 m (omega arith) (omega arith) i in
    let same : length n.bytes ≡ length (state_bytes h.0) = ap length h.3 in
    subst (λ (x : Message). MaySay (setup_of s.config) s.config.me l x) (sym a.is) (
      h.0,
      h.1,
      h.2,
      record { total_is = same; within = a.within; at_cut = a.cut; part_is = ap (λ (xs : List ℕ). take part_size (drop a.at xs)) h.3 },
    )

-- the turn is lawful so far, and its stage is this one
abbrev Stays : Frame → Stage → Turned → Type 0
Stays f s t = Goes (still f) [] t × (t.stage ≡ s)

pub goes-on_query : (f : Frame) (t : Turned) (p first : ℕ) → Goes (still f) [] t → p ≢ t.stage.config.me → Goes (still f) [] (on_query p first t)
goes-on_query f t p first h ne = (keep-when (Stays f s) (not (nat_lt first s.base) && is_some (s.life.known first)) (says p reply) u (λ e. (goes-says (still f) u p reply held.0 (other u held.1) (may u held.1), held.1)) (λ e. held)).0
  where
    s : Stage
    s = t.stage

    reply : Message
    reply = Message.CatchUpReply (record { first = first; batches = replied_batches s first })

    u : Turned
    u = when (nat_lt first s.base) (when_some s.newest (λ snapshot. for_each (parts_of snapshot) (says p))) t

    other : (x : Turned) → x.stage ≡ s → p ≢ x.stage.config.me
    other x e equal = ne (equal ∙ ap (λ (y : Stage). y.config.me) e)

    may : (x : Turned) → x.stage ≡ s → MaySay (setup_of x.stage.config) x.stage.config.me x.stage.life reply
    may x e = subst (λ (y : Stage). MaySay (setup_of y.config) y.config.me y.life reply) (sym e) (λ j batch. replied-is s first j batch)

    parts : (n : Snapshot) → s.newest ≡ Some n → Stays f s (for_each (parts_of n) (says p) t)
    parts n e =
        keep-each (Stays f s) (parts_of n) (says p)
        (λ m i x k. (
          goes-says (still f) x p m k.0 (other x k.1) (subst (λ (y : Stage). MaySay (setup_of y.config) y.config.me y.life m) (sym k.1) (part-said s s.life n m (h.fits.newest n e) i)),
          k.1,
        )) t (h, refl)

    held : Stays f s u
    held = keep-when (Stays f s) (nat_lt first s.base) (when_some s.newest (λ snapshot. for_each (parts_of snapshot) (says p))) t
        (λ e. keep-some (Stays f s) s.newest (λ snapshot. for_each (parts_of snapshot) (says p)) t parts (λ e. (h, refl))) (λ e. (h, refl))

-- ---- Known batches

goes-learns_each : (f : Frame) (p first : ℕ) (all : List Batch) (i at : ℕ) (batches : List Batch) (t : Turned) → Goes (still f) [] t → Came f p (Message.CatchUpReply (record { first = first; batches = all }))
    → i ≡ first + at → ((j : ℕ) (batch : Batch) → slice_get batches j ≡ Some batch → slice_get all (at + j) ≡ Some batch) → Goes (still f) [] (learns_each i batches t)
goes-learns_each f p first all i at [] t h came is found = h
goes-learns_each f p first all i at (batch ∷ batches) t h came is found =
    goes-learns_each f p first all (suc i) (suc at) batches (when (is_in_span t.stage i && not (is_known t.stage i)) (learns i batch) t) one came (omega arith)
    (λ j b e. let g : at + suc j ≡ suc at + j = omega arith in subst (λ k. slice_get all k ≡ Some b) g (found (suc j) b e))
  where
    here : slice_get all at ≡ Some batch
    here = let g : at + 0 ≡ at = omega arith in subst (λ k. slice_get all k ≡ Some batch) g (found 0 batch refl)

    not-of : (b : Bool) → not b ≡ true → b ≡ false
    not-of true e = cc
    not-of false e = refl

    one : Goes (still f) [] (when (is_in_span t.stage i && not (is_known t.stage i)) (learns i batch) t)
    one =
        keep-when (Goes (still f) []) (is_in_span t.stage i && not (is_known t.stage i)) (learns i batch) t
        (λ e. let a = and-of (is_in_span t.stage i) (not (is_known t.stage i)) e in
        let b = not-known t.stage i (not-of (is_known t.stage i) a.1) in
        let d = in-span t.stage i a.0 in
        let took = took-at (still f) [] t p (Message.CatchUpReply (record { first = first; batches = all })) h came in
        goes-learns (still f) t i batch h b.1 d.1 (By_catch_up p first at all took is here)) (λ e. h)

pub goes-on_batches : (f : Frame) (t : Turned) (p first : ℕ) (batches : List Batch) → Goes (still f) [] t → Came f p (Message.CatchUpReply (record { first = first; batches = batches })) → Goes (still f) [] (on_batches first batches t)
goes-on_batches f t p first batches h came =
    goes-learns_each f p first batches first 0 batches (cancels_query t) (goes-cancels_query (still f) [] t h) came (omega arith)
    (λ j b e. let g : j ≡ 0 + j = omega arith in subst (λ k. slice_get batches k ≡ Some b) g e)

-- ---- Snapshots

goes-keeps_joiner : (f : Frame) (t : Turned) (j : Option Joiner) (h : Goes (still f) [] t) → ((k : Joiner) → j ≡ Some k → JoinerTrue t.stage.life k) → Goes (still f) [] (keeps_joiner j t)
goes-keeps_joiner f t j h true_joiner =
    let s = t.stage in
    let joiner : (k : Joiner) → j ≡ Some k → JoinerTrue s.life k = true_joiner in
    let g = h.fits in
    let fits : Fits (setup_of s.config) h.world s.config.me true (re s (record s { joiner = j })) = assumption (joiner, g) in
    goes-stage (still f) [] t (record s { joiner = j }) h fits

goes-installs : (f : Frame) (t : Turned) (upto : ℕ) (bytes : List ℕ) (state : State) → bytes ≡ state_bytes state → AreBytes bytes → (h : Goes (still f) [] t) → first_undecided t.stage < upto → state_in bytes ≡ Some state
    → CanInstall (setup_of t.stage.config) t.stage.life upto state → Goes (still f) [] (installs upto bytes state t)
goes-installs f t upto bytes state is are h above read can =
    goes-show (still f) [] (does (Install upto state) (record u { stage = as_of u.stage n })) (Step.Install t.stage.config.me upto) refl
    (goes-does-as (still f) f.taken f.phase true None [] u n (Install upto state) a follows)
  where
    u : Turned
    u = cancels_query t

    a : Goes (still f) [] u
    a = goes-cancels_query (still f) [] t h

    s : Stage
    s = u.stage

    l : Life
    l = s.life

    new : Life
    new = record l { below = upto; installed = state ∷ l.installed }

    snapshot : Snapshot
    snapshot = record { place = upto; bytes = bytes; installed = true }

    n : Stage
    n = record s { base = upto; newest = Some snapshot }

    up : s.base ≤ upto
    up = let b = undecided-base t.stage in omega arith

    fits : Fits (setup_of s.config) a.world s.config.me true (stage_after (as_of s n) (Install upto state))
    fits =
        let g = a.fits in
        let k = up in
        record {
          below = le_refl upto;
          base_known = λ i lt. inl lt;
          known_end = λ i b e. let x = g.known_end i b e in omega arith;
          voted_end = λ i v e. let x = g.voted_end i v e in omega arith;
          noted = λ x i. note-more (setup_of s.config) a.world a.world s.config.me l new (s.base + span) (upto + span) x (λ y j. j) (λ y j. j) (λ y j. j) refl (omega arith) (g.noted x i);
          waiting = g.waiting;
          base_place = le_refl upto;
          place_known = λ i lt. inl lt;
          newest = λ x e. (let y : snapshot ≡ x = cc in subst (λ (z : Snapshot). SnapshotTrue new z) y (state, inr (inl refl), can.place, is, λ _. (inl refl, read)));
          joiner = g.joiner;
          slots = g.slots;
        }

    install-stable : (mode : _) (number : Option ℕ) → stable_after mode number (Install upto state) ≡ number
    install-stable mode number = plain-stable mode number (Install upto state) tt

    follows : Follows (still f) (still f) a.world (as_of s n) (Install upto state)
    follows = record {
      can = can;
      fits = fits;
      onward = onward-deed (setup_of s.config) s.config.me l (Install upto state) tt;
      valid = (subst (λ (b : List ℕ). state_in b ≡ Some state) is read, subst (λ (b : List ℕ). AreBytes b) is are);
      taken = a.taken;
      phase = a.phase;
      stable = λ number x. subst (λ (o : Option ℕ). o ≡ Some s.stable) (sym (install-stable s.config.mode number)) x;
      fresh = λ x y z. a.fresh x y z;
    }

-- the parts of a joiner are a cut of its total
joiner-cut : (l : Life) (j : Joiner) → JoinerTrue l j → Cut j.total 0 j.parts
joiner-cut l j h =
    record {
      from = λ a n. omega arith;
      cut = λ a n. (a.0 / part_size, let c = (h.0 a n).1 in omega arith);
      below = λ a n. (h.0 a n).2;
      rising = h.1;
    }

joined-can : (t : Turned) (j : Joiner) (state : State) → JoinerTrue t.stage.life j → is_joined j ≡ true → joined_bytes j ≡ state_bytes state → state.executed ≡ j.upto
    → IsFirstUnknown t.stage.life (first_undecided t.stage) → first_undecided t.stage < j.upto → CanInstall (setup_of t.stage.config) t.stage.life j.upto state
joined-can t j state h full is place unknown above =
    record {
      place = place;
      unknown = first_undecided t.stage;
      first_unknown = unknown;
      above = above;
      total = j.total;
      parts = map (λ (p : ℕ × List ℕ). p.1) j.parts;
      all = (let e : length (map (λ (p : ℕ × List ℕ). p.1) j.parts) ≡ part_count j.total = map-length (λ (p : ℕ × List ℕ). p.1) j.parts ∙ all_there in count-all j.total _ e);
      joined = flat-map j.parts ∙ is;
      taken = λ k part e. taken k part (get-map (λ (p : ℕ × List ℕ). p.1) j.parts k part e);
    }
  where
    all_there : length j.parts ≡ part_count j.total
    all_there = same (length j.parts) (part_count j.total) full

    taken : (k : ℕ) (part : List ℕ) → ((a : ℕ × List ℕ) × (slice_get j.parts k ≡ Some a) × (a.1 ≡ part))
        → (p : ℕ) × Took t.stage.life p (Message.SnapshotPart (record { upto = j.upto; total = j.total; at = part_size * k; bytes = part }))
    taken k part g =
        let a = g.0 in
        let at : a.0 ≡ part_size * k = (let x = placed j.total 0 j.parts (joiner-cut t.stage.life j h) (let y = all_there in omega arith) k a g.1 in omega arith) in
        let took = (h.0 a (get-in j.parts k a g.1)).0 in
        (took.0, subst (λ (x : ℕ × List ℕ). Took t.stage.life took.0 (Message.SnapshotPart (record { upto = j.upto; total = j.total; at = x.0; bytes = x.1 }))) (pair at g.2) took.1)
      where
        pair : {y : ℕ} {bs : List ℕ} → g.0.0 ≡ y → g.0.1 ≡ bs → g.0 ≡ (y, bs)
        pair e f = λ i. (e i, f i)

-- joined bytes are bytes
flat-in : (parts : List (ℕ × List ℕ)) (b : ℕ) → In b (flat_map (λ (p : ℕ × List ℕ). p.1) parts) → (a : ℕ × List ℕ) × In a parts × In b a.1
flat-in [] b n = absurd n
flat-in (x ∷ xs) b n = ⊎_elim (λ m. (x, inl refl, m)) (λ m. let h = flat-in xs b m in (h.0, inr h.1, h.2)) (In-append b x.1 (flat_map (λ (p : ℕ × List ℕ). p.1) xs) n)

joined-bytes : (f : Frame) (t : Turned) (j : Joiner) → Goes (still f) [] t → JoinerTrue t.stage.life j → AreBytes (joined_bytes j)
joined-bytes f t j h true_joiner b n =
    let a = flat-in j.parts b n in
    let took = (true_joiner.0 a.0 a.1).0 in
    took-sane t.stage.config h.reads h.world t.stage.config.me t.stage.life h.good.sound h.sane h.running took.0 _ took.1 b a.2

goes-installs_if : (f : Frame) (t : Turned) (j : Joiner) (state : State) → Goes (still f) [] t → JoinerTrue t.stage.life j → is_joined j ≡ true → first_undecided t.stage < j.upto → state_in (joined_bytes j) ≡ Some state
    → Goes (still f) [] (installs_if j.upto (joined_bytes j) state t)
goes-installs_if f t j state h true_joiner full above read =
    let are = joined-bytes f t j h true_joiner in
    let is = reads-back (joined_bytes j) state are read in
    keep-when (Goes (still f) []) (state.executed == j.upto) (installs j.upto (joined_bytes j) state) t
    (λ e. goes-installs f t j.upto (joined_bytes j) state is are h above read
    (joined-can t j state true_joiner full is (same state.executed j.upto e) (undecided-is (setup_of t.stage.config) h.world t.stage.config.me true t.stage h.fits) above)) (λ e. h)

-- the first undecided instance does not depend on the joiner
undecided-joiner : (s : Stage) (j : Option Joiner) → first_undecided (record s { joiner = j }) ≡ first_undecided s
unfolding first_undecided
undecided-joiner s j = refl

goes-has_part : (f : Frame) (t : Turned) (j : Joiner) → Goes (still f) [] t → JoinerTrue t.stage.life j → first_undecided t.stage < j.upto → Goes (still f) [] (has_part j t)
goes-has_part f t j h true_joiner above = go (is_joined j) refl
  where
    go : (b : Bool) → is_joined j ≡ b
        → Goes (still f) [] (t ▹ when (not b) (keeps_joiner (Some j)) ▹ when b (λ t. t ▹ keeps_joiner None ▹ when_some (state_in (joined_bytes j)) (installs_if j.upto (joined_bytes j))))
    go false e = goes-keeps_joiner f t (Some j) h (λ k g. let y : j ≡ k = cc in subst (λ (z : Joiner). JoinerTrue t.stage.life z) y true_joiner)
    go true e =
        let u = keeps_joiner None t in
        let a = goes-keeps_joiner f t None h (λ k g. absurd cc) in
        let up : first_undecided u.stage < j.upto = subst (λ x. x < j.upto) (sym (undecided-joiner t.stage None)) above in
        keep-some (Goes (still f) []) (state_in (joined_bytes j)) (installs_if j.upto (joined_bytes j)) u
        (λ state g. goes-installs_if f u j state a true_joiner e up g) (λ g. a)

-- a joiner with one more part
joiner-with : (l : Life) (j : Joiner) (p : ℕ) (m : SnapshotPart) → JoinerTrue l j → Took l p (Message.SnapshotPart m) → j.upto ≡ m.upto → takes_part j m ≡ true → JoinerTrue l (with_part j m)
joiner-with l j p m h took place takes = (λ a n. one a (insert-in j.parts m.at m.bytes a n), insert-rising j.parts m.at m.bytes h.1)
  where
    tests : ((m.total == j.total) ≡ true) × ((m.at % part_size == 0) ≡ true) × (nat_lt m.at j.total ≡ true)
    tests =
        let a = and-of ((m.total == j.total) && ((m.at % part_size == 0) && nat_lt m.at j.total && (length m.bytes == min part_size (j.total - m.at)))) (is_alike (Entries.get nat_cmp j.parts m.at) m.bytes) takes in
        let b = and-of (m.total == j.total) ((m.at % part_size == 0) && nat_lt m.at j.total && (length m.bytes == min part_size (j.total - m.at))) a.0 in
        let c = and-of ((m.at % part_size == 0) && nat_lt m.at j.total) (length m.bytes == min part_size (j.total - m.at)) b.1 in
        let d = and-of (m.at % part_size == 0) (nat_lt m.at j.total) c.0 in
        (b.0, d.0, d.1)

    part : Message.SnapshotPart m ≡ Message.SnapshotPart (record { upto = j.upto; total = j.total; at = m.at; bytes = m.bytes })
    part = let e = same m.total j.total tests.0 in λ i. Message.SnapshotPart (record { upto = (sym place) i; total = e i; at = m.at; bytes = m.bytes })

    new : ((q : ℕ) × Took l q (Message.SnapshotPart (record { upto = j.upto; total = j.total; at = m.at; bytes = m.bytes }))) × (m.at % part_size ≡ 0) × (m.at < j.total)
    new = ((p, (took.0, took.1, took.2, took.3 ∙ part)), same (m.at % part_size) 0 tests.1, lt-of m.at j.total tests.2)

    one : (a : ℕ × List ℕ) → (a ≡ (m.at, m.bytes)) ⊎ In a j.parts → ((q : ℕ) × Took l q (Message.SnapshotPart (record { upto = j.upto; total = j.total; at = a.0; bytes = a.1 }))) × (a.0 % part_size ≡ 0) × (a.0 < j.total)
    one a (inl e) =
        subst (λ (x : ℕ × List ℕ). ((q : ℕ) × Took l q (Message.SnapshotPart (record { upto = j.upto; total = j.total; at = x.0; bytes = x.1 }))) × (x.0 % part_size ≡ 0) × (x.0 < j.total)) (sym e) new
    one a (inr n) = h.0 a n

goes-puts_part : (f : Frame) (t : Turned) (p : ℕ) (j : Joiner) (m : SnapshotPart) → Goes (still f) [] t → Came f p (Message.SnapshotPart m) → JoinerTrue t.stage.life j → j.upto ≡ m.upto
    → first_undecided t.stage < m.upto → Goes (still f) [] (puts_part j m t)
goes-puts_part f t p j m h came true_joiner place above = go (takes_part j m) refl
  where
    go : (b : Bool) → takes_part j m ≡ b → Goes (still f) [] (t ▹ when b (has_part (with_part j m)) ▹ when (not b) (keeps_joiner (Some j)))
    go true e =
        let up : first_undecided t.stage < (with_part j m).upto = omega arith in
        goes-has_part f t (with_part j m) h (joiner-with t.stage.life j p m true_joiner (took-at (still f) [] t p (Message.SnapshotPart m) h came) place e) up
    go false e = goes-keeps_joiner f t (Some j) h (λ k g. let y : j ≡ k = cc in subst (λ (z : Joiner). JoinerTrue t.stage.life z) y true_joiner)

empty-true : (l : Life) (upto total : ℕ) → JoinerTrue l (record { upto = upto; total = total; parts = [] })
empty-true l upto total = (λ a n. absurd n, tt)

-- the joiner that a part goes to
joiner-for : (l : Life) (o : Option Joiner) (upto total : ℕ) → ((j : Joiner) → o ≡ Some j → JoinerTrue l j) → not (is_joining_above o upto) ≡ true → JoinerTrue l (joiner_for o upto total) × ((joiner_for o upto total).upto ≡ upto)
joiner-for l None upto total h low = (empty-true l upto total, refl)
joiner-for l (Some j) upto total h low = go (nat_lt j.upto upto) refl
  where
    under : (b : Bool) → nat_lt upto j.upto ≡ b → not b ≡ true → j.upto ≤ upto
    under true e f = absurd cc
    under false e f = not-lt-of upto j.upto e

    go : (b : Bool) → nat_lt j.upto upto ≡ b
        → JoinerTrue l (if b then record { upto = upto; total = total; parts = [] } else j) × ((if b then record { upto = upto; total = total; parts = [] } else j).upto ≡ upto)
    go true e = (empty-true l upto total, refl)
    go false e = let a = not-lt-of j.upto upto e in let b = under (nat_lt upto j.upto) refl low in (h j refl, omega arith)

pub goes-on_part : (f : Frame) (t : Turned) (p : ℕ) (m : SnapshotPart) → Goes (still f) [] t → Came f p (Message.SnapshotPart m) → Goes (still f) [] (on_part m t)
goes-on_part f t p m h came =
    let s = t.stage in
    keep-when (Goes (still f) []) (nat_lt (first_undecided s) m.upto && not (is_joining_above s.joiner m.upto)) (puts_part (joiner_for s.joiner m.upto m.total) m) t
    (λ e. let a = and-of (nat_lt (first_undecided s) m.upto) (not (is_joining_above s.joiner m.upto)) e in
    let b = joiner-for s.life s.joiner m.upto m.total h.fits.joiner a.1 in
    goes-puts_part f t p (joiner_for s.joiner m.upto m.total) m h came b.0 b.1 (lt-of (first_undecided s) m.upto a.0)) (λ e. h)

-- a snapshot of the own service
pub goes-on_snapshot : (f : Frame) (t : Turned) (upto : ℕ) (bytes : List ℕ) → Goes (still f) [] t → ((state : State) × In state t.stage.life.states × (state.executed ≡ upto) × (bytes ≡ state_bytes state))
    → Goes (still f) [] (on_snapshot upto bytes t)
goes-on_snapshot f t upto bytes h has =
    keep-when (Goes (still f) []) (nat_lt (place_of s.newest) upto && nat_le upto (first_undecided s)) (with_stage (λ s. record s { base = place_of s.newest; newest = Some (record { place = upto; bytes = bytes; installed = false }) })) t
    (λ e. goes-stage (still f) [] t n h (fits (and-of (nat_lt (place_of s.newest) upto) (nat_le upto (first_undecided s)) e))) (λ e. h)
  where
    s : Stage
    s = t.stage

    snapshot : Snapshot
    snapshot = record { place = upto; bytes = bytes; installed = false }

    n : Stage
    n = record s { base = place_of s.newest; newest = Some snapshot }

    fits : (nat_lt (place_of s.newest) upto ≡ true) × (nat_le upto (first_undecided s) ≡ true) → Fits (setup_of s.config) h.world s.config.me true (re s (record n { stable = s.stable }))
    fits e =
        let g = h.fits in
        let up = g.base_place in
        let low = lt-of (place_of s.newest) upto e.0 in
        let high = le-of upto (first_undecided s) e.1 in
        record {
          below = (let x = g.below in omega arith);
          base_known = g.place_known;
          known_end = λ i b x. let y = g.known_end i b x in omega arith;
          voted_end = λ i v x. let y = g.voted_end i v x in omega arith;
          noted = λ x i. note-more (setup_of s.config) h.world h.world s.config.me s.life s.life (s.base + span) (place_of s.newest + span) x (λ y j. j) (λ y j. j) (λ y j. j) refl (omega arith) (g.noted x i);
          waiting = g.waiting;
          base_place = omega arith;
          place_known = λ i lt. (undecided-is (setup_of s.config) h.world s.config.me true s g).below i (omega arith);
          newest = λ x y. (let z : snapshot ≡ x = cc in subst (λ (k : Snapshot). SnapshotTrue s.life k) z (has.0, inl has.1, has.2, has.3, λ q. absurd cc));
          joiner = g.joiner;
          slots = g.slots;
        }

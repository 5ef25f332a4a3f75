-- Each service state is the sequential service's after a prefix of the one list of chosen batches.
use Rattle.std.proofs.Common.{◌≡◌, ℕ, zero, suc, ◌+◌, ◌*◌, ◌≤◌, ◌<◌, List, [], ◌∷◌, ◌++◌, Option, Some, None, refl, sym, ap, subst, ◌∙◌, drop, add-zero, length, take, slice_get, inl, inr, ⊎_elim, arith, zero-add}
use Rattle.jp_types.specs.declared.message.Message.{Message}
use Rattle.kv_service.specs.Service.{State, start, serve, execute}
use Rattle.jp_types.specs.declared.mode.Phase.{Phase}
use Rattle.jp_types.specs.declared.mode.Phase.TheVariants.{Recovering, Working}
use Rattle.jp_types.specs.Lists.{In}
use Rattle.paxos_world.specs.Life.{Life, Took, new_life}
use Rattle.jp_types.specs.Instances.{Batch}
use Rattle.paxos_world.specs.World.{IsPart, CanInstall, executed_with, Replica, Sent, World, Deed, Take, Enter, Open, Promise, Prepared, Launch, Vote, Learn, Answer, Rejoin, Install, Execute, Restore, Say, Can, Allowed, after, life_after, Move, First, Return, Crash, Act, who, replica_after, id_of}
use Rattle.kv_service.specs.Parts.{part_size}
use Rattle.paxos_world.specs.Trace.{Trace, at, Runs, Does, IsChosen}
use Rattle.paxos_world.proofs.Basics.{with_at-cases, lt_or_le}
use Rattle.paxos_world.proofs.Replies.{same}
use Rattle.paxos_world.proofs.Sound.{act-is, some-is}
use Rattle.paxos_world.proofs.Runs.{at-zero, at-does, at-idle, allowed-at, life_sound-at, same_life, can-at, runs-after}
use Rattle.paxos_world.proofs.Origins.{IsSaying, IsSentBy, sent-by, Source, From_promise, From_launch, From_vote, From_answer, From_say, source-of, saying-step}
use Rattle.paxos_world.proofs.Ballots.{leads-works, took-sent}
use Rattle.paxos_world.proofs.Chosen.{known-chosen}
use Rattle.jp_types.specs.declared.message.SnapshotPart.{SnapshotPart}
use Rattle.std.specs.List.{flat_map}
use Rattle.paxos_world.specs.Served.{AreChosenFrom, IsList, Stands, Occurs, TellsStates, AllStand, ExecutesOnce, AllExecuteListed, IsSilent, RecoveringAreSilent}
use Rattle.paxos_world.proofs.Adopted.{one_chosen}
use Rattle.paxos_world.proofs.Serving.{executed-execute, executed-serve, serve-append, parts-join}

-- two lists of chosen batches of one length are one
chosen-one : (run : Trace) (i : ℕ) (xs ys : List Batch) → AreChosenFrom run i xs → AreChosenFrom run i ys → length xs ≡ length ys → xs ≡ ys
chosen-one run i [] [] a b e = refl
chosen-one run i [] (y ∷ ys) a b e = absurd (omega arith)
chosen-one run i (x ∷ xs) [] a b e = absurd (omega arith)
chosen-one run i (x ∷ xs) (y ∷ ys) a b e =
    let f : x ≡ y = one_chosen run i a.0.0 b.0.0 x y a.0.1 b.0.1 in
    let g : xs ≡ ys = chosen-one run (suc i) xs ys a.1 b.1 (omega arith) in
    cc

-- one more chosen batch
chosen-more : (run : Trace) (i : ℕ) (xs : List Batch) (b : Batch) → AreChosenFrom run i xs → (v : ℕ) × IsChosen run v (i + length xs) b → AreChosenFrom run i (xs ++ b ∷ [])
chosen-more run i [] b a c = (subst (λ k. (v : ℕ) × IsChosen run v k b) (add-zero i) c, tt)
chosen-more run i (x ∷ xs) b a c = (a.0, chosen-more run (suc i) xs b a.1 (subst (λ k. (v : ℕ) × IsChosen run v k b) (omega arith) c))

-- a list of chosen batches is the beginning of the one that ends where nothing is chosen
chosen-prefix : (run : Trace) (i : ℕ) (xs bs : List Batch) → AreChosenFrom run i xs → AreChosenFrom run i bs → ((view : ℕ) (batch : Batch) → ¬ IsChosen run view (i + length bs) batch)
    → (length xs ≤ length bs) × (xs ≡ take (length xs) bs)
chosen-prefix run i [] bs a b ends = (omega arith, refl)
chosen-prefix run i (x ∷ xs) [] a b ends = absurd (ends a.0.0 x (subst (λ k. IsChosen run a.0.0 k x) (sym (add-zero i)) a.0.1))
chosen-prefix run i (x ∷ xs) (y ∷ bs) a b ends =
    let f : x ≡ y = one_chosen run i a.0.0 b.0.0 x y a.0.1 b.0.1 in
    let r = chosen-prefix run (suc i) xs bs a.1 b.1 (λ v c h. ends v c (subst (λ k. IsChosen run v k c) (omega arith) h)) in
    let g = r.1 in
    (omega arith, cc)

-- a service state is the sequential service's after chosen batches, from instance 0 on
pub record Served (run : Trace) (s : State) : Type 0 where
  pub batches : List Batch
  pub chosen : AreChosenFrom run 0 batches
  pub state_is : s ≡ serve batches

-- each service state that a life has, had or installed is one after chosen batches
abbrev pub LifeServed : Trace → Life → Type 0
LifeServed run l = Served run l.service × ((s : State) → In s l.states → Served run s) × ((s : State) → In s l.installed → Served run s)

served-same : (run : Trace) (a b : State) → Served run a → Served run b → a.executed ≡ b.executed → a ≡ b
served-same run a b h k e =
    let f = ap (λ (s : State). s.executed) h.state_is ∙ executed-serve h.batches in
    let g = ap (λ (s : State). s.executed) k.state_is ∙ executed-serve k.batches in
    h.state_is ∙ ap serve (chosen-one run 0 h.batches k.batches h.chosen k.chosen (omega arith)) ∙ sym k.state_is

start-served : (run : Trace) → Served run start
start-served run = record { batches = []; chosen = tt; state_is = refl }

-- where a running life comes from
pub data CameFrom (run : Trace) (u q : ℕ) (l : Life) : Type 0 where
  Stayed : Runs run u q l → CameFrom run u q l
  Began : (number mark : ℕ) (phase : Phase) (view : ℕ) → l ≡ new_life number mark phase view → CameFrom run u q l
  Did : (d : Deed) (k : Life) → Does run u (Act q d) → Runs run u q k → l ≡ life_after run.setup q k d → CameFrom run u q l

acting-from : (run : Trace) (u : ℕ) (m : Move) (l : Life) → Does run u m → Allowed run.setup (at run u) m → (replica_after run.setup ((at run u).replicas (who m)) m).running ≡ Some l → CameFrom run u (who m) l
acting-from run u (First r) l e a is = Began _ _ Working 0 (sym (some-is _ l is))
acting-from run u (Return r mark) l e a is = Began _ mark Recovering _ (sym (some-is _ l is))
acting-from run u (Crash r) l e a is = absurd cc
acting-from run u (Act r d) l e a is =
    let k = a.meets.life in
    let runs = a.meets.running in
    Did d k e runs (sym (some-is _ l (sym (ap (λ (x : Replica). x.running) (act-is run.setup r ((at run u).replicas r) d k runs)) ∙ is)))

pub came-from : (run : Trace) (u q : ℕ) (l : Life) → Runs run (suc u) q l → CameFrom run u q l
came-from run u q l h = go (run.moves u) refl
  where
    go : (o : Option Move) → run.moves u ≡ o → CameFrom run u q l
    go None e = Stayed (subst (λ (w : World). (w.replicas q).running ≡ Some l) (at-idle run u e) h)
    go (Some m) e =
        let h' : ((after run.setup (at run u) m).replicas q).running ≡ Some l = subst (λ (w : World). (w.replicas q).running ≡ Some l) (at-does run u m e) h in
        with_at-cases (λ (b : Replica). b.running ≡ Some l → CameFrom run u q l) (at run u).replicas (who m) (replica_after run.setup ((at run u).replicas (who m)) m) q
        (λ is f. subst (λ k. CameFrom run u k l) (sym is) (acting-from run u m l e (allowed-at run u m e) f)) (λ ne f. Stayed f) h'

-- a SnapshotPart that was sent is one of the bytes of a state that its sender had or installed
part-from : (run : Trace) (t : ℕ) (x : Sent) (m : SnapshotPart) → In x (at run t).sent → x.message ≡ Message.SnapshotPart m → IsSaying run t x.from (Message.SnapshotPart m)
part-from run t x m i e = let h = sent-by run t x i in let g = source-of run.setup h.r h.life h.deed x h.sends in go h g.0 g.1
  where
    go : (h : IsSentBy run t x) → x.from ≡ id_of h.r h.life → Source run.setup h.r h.life h.deed x → IsSaying run t x.from (Message.SnapshotPart m)
    go h f (From_promise view first mark low report is same k) = absurd cc
    go h f (From_launch view j batch is k) = absurd cc
    go h f (From_vote view j batch is k) = absurd cc
    go h f (From_answer to view next mark is same k) = absurd cc
    go h f (From_say to message is k) = saying-step run t h.s h.r to h.life h.deed x.from (Message.SnapshotPart m) h.before h.does h.runs f (is ∙ ap (Say to) (sym k ∙ e))

-- what holds of the states before moment k
ServedBelow : Trace → ℕ → Type 0
ServedBelow run k = (t q : ℕ) (l : Life) → t < k → Runs run t q l → LifeServed run l

-- a taken part is one of the bytes of a served state
record PartOf (run : Trace) (upto total at' : ℕ) (part : List ℕ) : Type 0 where
  state : State
  served : Served run state
  occurs : Occurs run state
  place : state.executed ≡ upto
  is_part : IsPart (run.setup.encode state) upto total at' part

taken-part : (run : Trace) (t q : ℕ) (l : Life) (p upto total at' : ℕ) (part : List ℕ) → ServedBelow run t → Runs run t q l → Took l p (Message.SnapshotPart (record { upto = upto; total = total; at = at'; bytes = part })) → PartOf run upto total at' part
unfolding ServedBelow
taken-part run t q l p upto total at' part ih runs took =
    let m : SnapshotPart = record { upto = upto; total = total; at = at'; bytes = part } in
    let x = took-sent run t q l p (Message.SnapshotPart m) runs took in
    let h = part-from run t x.0 m x.1 x.2 in
    let s = ih h.s x.0.from.replica h.life h.before h.runs in
    record { state = h.may.0; served = ⊎_elim (λ i. s.1 h.may.0 i) (λ i. s.2 h.may.0 i) h.may.1; occurs = (h.s, x.0.from.replica, h.life, h.runs, h.may.1); place = h.may.2; is_part = h.may.3 }

-- an installed state is served
install-served : (run : Trace) (t q : ℕ) (l : Life) (upto : ℕ) (state : State) → TellsStates run → ServedBelow run t → Runs run t q l → CanInstall run.setup l upto state → Occurs run state → Served run state
install-served run t q l upto state tells ih runs can occurs = go can.parts can.joined can.all (λ k part e. let h = can.taken k part e in taken-part run t q l h.0 upto can.total (part_size * k) part ih runs h.1)
  where
    go : (parts : List (List ℕ)) → flat_map (λ part. part) parts ≡ run.setup.encode state → can.total ≤ part_size * length parts → ((k : ℕ) (part : List ℕ) → slice_get parts k ≡ Some part → PartOf run upto can.total (part_size * k) part) → Served run state
    go [] e all each = absurd (tells.some state occurs (sym e))
    go (part ∷ parts) e all each =
        let one = each 0 part refl in
        let bytes = run.setup.encode one.state in
        let cut : (j : ℕ) (p : List ℕ) → slice_get (part ∷ parts) j ≡ Some p → p ≡ take part_size (drop (part_size * j) bytes)
        = λ j p f. let other = each j p f in
        let same_state : other.state ≡ one.state = served-same run other.state one.state other.served one.served (other.place ∙ sym one.place) in
        other.is_part.part_is ∙ ap (λ (s : State). take part_size (drop (part_size * j) (run.setup.encode s))) same_state in
        let total = one.is_part.total_is in
        let enough : length bytes ≤ part_size * length (part ∷ parts) = subst (λ k. k ≤ part_size * length (part ∷ parts)) total all in
        let whole = parts-join part_size bytes (part ∷ parts) cut enough in
        let same_state : state ≡ one.state = tells.same state one.state occurs one.occurs (sym e ∙ whole) in
        subst (λ (s : State). Served run s) (sym same_state) one.served

-- one more executed batch
execute-served : (run : Trace) (s : State) (batch : Batch) → Served run s → (v : ℕ) × IsChosen run v s.executed batch → Served run (execute s batch)
execute-served run s batch h c =
    let place : s.executed ≡ 0 + length h.batches = ap (λ (x : State). x.executed) h.state_is ∙ executed-serve h.batches ∙ omega arith in
    record {
      batches = h.batches ++ batch ∷ [];
      chosen = chosen-more run 0 h.batches batch h.chosen (subst (λ k. (v : ℕ) × IsChosen run v k batch) place c);
      state_is = ap (λ (x : State). execute x batch) h.state_is ∙ sym (serve-append h.batches batch);
    }

-- what a life does keeps its states served
deed-served : (run : Trace) (t q : ℕ) (l : Life) (d : Deed) → TellsStates run → ServedBelow run t → Runs run t q l → Can run.setup (at run t) q l d → LifeServed run l → ((s : State) → In s (life_after run.setup q l d).installed → Occurs run s) → LifeServed run (life_after run.setup q l d)
deed-served run t q l (Execute i) tells ih runs can h on =
    let d = known-chosen run t q l i can.batch runs can.known in
    let c : (v : ℕ) × IsChosen run v l.service.executed can.batch = subst (λ k. (v : ℕ) × IsChosen run v k can.batch) can.place (d.0, (t, d.1)) in
    let new : Served run (executed_with l.service (l.known i)) = subst (λ (o : Option Batch). Served run (executed_with l.service o)) (sym can.known) (execute-served run l.service can.batch h.0 c) in
    (new, λ s j. ⊎_elim (λ e. subst (λ (x : State). Served run x) (sym e) new) (λ k. h.1 s k) j, h.2)
deed-served run t q l (Install upto state) tells ih runs can h on =
    let new = install-served run t q l upto state tells ih runs can (on state (inl refl)) in
    (h.0, h.1, λ s j. ⊎_elim (λ e. subst (λ (x : State). Served run x) (sym e) new) (λ k. h.2 s k) j)
deed-served run t q l (Restore upto state) tells ih runs can h on =
    let new = h.2 state can.installed in
    (new, λ s j. ⊎_elim (λ e. subst (λ (x : State). Served run x) (sym e) new) (λ k. h.1 s k) j, h.2)
deed-served run t q l _ tells ih runs can h on = h

new-served : (run : Trace) (number mark : ℕ) (phase : Phase) (view : ℕ) → LifeServed run (new_life number mark phase view)
new-served run number mark phase view =
    (start-served run, λ s j. ⊎_elim (λ e. subst (λ (x : State). Served run x) (sym e) (start-served run)) (λ k. absurd k) j, λ s j. absurd j)

served-from : (run : Trace) (u q : ℕ) (l : Life) → TellsStates run → ServedBelow run (suc u) → CameFrom run u q l → LifeServed run l
unfolding ServedBelow
served-from run u q l tells ih (Stayed h) = ih u q l (omega arith) h
served-from run u q l tells ih (Began number mark phase view e) = subst (λ (k : Life). LifeServed run k) (sym e) (new-served run number mark phase view)
served-from run u q l tells ih (Did d k e runs is) =
    subst (λ (x : Life). LifeServed run x) (sym is)
    (deed-served run u q k d tells (λ t2 q2 l2 lt2 r2. ih t2 q2 l2 (omega arith) r2) runs (can-at run u q d k e runs) (ih u q k (omega arith) runs) (λ s i. (suc u, q, life_after run.setup q k d, runs-after run u q d k e runs, inr i)))

served-at : (run : Trace) (t q : ℕ) (l : Life) → TellsStates run → ServedBelow run t → Runs run t q l → LifeServed run l
served-at run zero q l tells ih runs = let f = subst (λ (w : World). (w.replicas q).running ≡ Some l) (at-zero run) runs in absurd cc
served-at run (suc u) q l tells ih runs = served-from run u q l tells ih (came-from run u q l runs)

served_below : (run : Trace) (k : ℕ) → TellsStates run → ServedBelow run k
unfolding ServedBelow
served_below run zero tells t q l lt runs = absurd (omega arith)
served_below run (suc k) tells t q l lt runs = served-at run t q l tells (λ t2 q2 l2 lt2 r2. served_below run k tells t2 q2 l2 (omega arith) r2) runs

-- each service state of a running life is the sequential service's after chosen batches
pub life_served : (run : Trace) (t q : ℕ) (l : Life) → TellsStates run → Runs run t q l → LifeServed run l
unfolding ServedBelow
life_served run t q l tells runs = served_below run (suc t) tells t q l (omega arith) runs

-- a state after chosen batches is one after a prefix of the one list
stands-of : (run : Trace) (batches : List Batch) (s : State) → IsList run batches → Served run s → Stands batches s
stands-of run batches s list h =
    let r = chosen-prefix run 0 h.batches batches h.chosen list.chosen (λ v b c. list.ends v b (subst (λ k. IsChosen run v k b) (zero-add (length batches)) c)) in
    let e : s.executed ≡ length h.batches = ap (λ (x : State). x.executed) h.state_is ∙ executed-serve h.batches in
    let le = r.0 in
    record { within = omega arith; state_is = h.state_is ∙ ap serve (r.1 ∙ ap (λ k. take k batches) (sym e)) }

pub all_stand : (run : Trace) → AllStand run
all_stand run tells batches list t q l runs =
    let h = life_served run t q l tells runs in
    (stands-of run batches l.service list h.0, λ s i. stands-of run batches s list (h.1 s i), λ s i. stands-of run batches s list (h.2 s i))

-- the state that an Execute comes to
executes-next : (run : Trace) (t q i : ℕ) (l : Life) → Does run t (Act q (Execute i)) → Runs run t q l
    → ((life_after run.setup q l (Execute i)).service.executed ≡ suc i) × (i ≡ l.service.executed)
executes-next run t q i l e runs =
    let can = can-at run t q (Execute i) l e runs in
    let f = executed-execute l.service can.batch in
    let g : (executed_with l.service (l.known i)).executed ≡ (execute l.service can.batch).executed = ap (λ (o : Option Batch). (executed_with l.service o).executed) can.known in
    let p = can.place in
    (g ∙ f ∙ ap suc (sym p), p)

once-after : (run : Trace) (t t' q i : ℕ) (l l' : Life) → Does run t (Act q (Execute i)) → Does run t' (Act q (Execute i)) → Runs run t q l → Runs run t' q l' → l.number ≡ l'.number → t < t' → ⊥
once-after run t t' q i l l' e e' a b n lt =
    let x = executes-next run t q i l e a in
    let y = executes-next run t' q i l' e' b in
    let up = (same_life run (suc t) t' q (life_after run.setup q l (Execute i)) l' lt (runs-after run t q (Execute i) l e a) b n).executed in
    let f = x.0 in
    let g = y.1 in
    omega arith

-- a life executes an instance at most once
pub executes_once : (run : Trace) → ExecutesOnce run
executes_once run t t' q i l l' e e' a b n =
    elim (lt_or_le t t') [
      | inl lt ↦ absurd (once-after run t t' q i l l' e e' a b n lt)
      | inr ge ↦ elim (lt_or_le t' t) [ inl lt ↦ absurd (once-after run t' t q i l' l e' e b a (sym n) lt) | inr le ↦ omega arith ]
    ]

-- a chosen batch is the list's at its instance
listed-at : (run : Trace) (i k v : ℕ) (batches : List Batch) (batch : Batch) → AreChosenFrom run i batches → k < length batches → IsChosen run v (i + k) batch → slice_get batches k ≡ Some batch
listed-at run i k v [] batch a lt c = absurd (omega arith)
listed-at run i zero v (b ∷ bs) batch a lt c = let e : b ≡ batch = one_chosen run i a.0.0 v b batch a.0.1 (subst (λ j. IsChosen run v j batch) (add-zero i) c) in cc
listed-at run i (suc k) v (b ∷ bs) batch a lt c = listed-at run (suc i) k v bs batch a.1 (omega arith) (subst (λ j. IsChosen run v j batch) (omega arith) c)

pub all_execute_listed : (run : Trace) → AllExecuteListed run
all_execute_listed run tells batches list t q i l e runs =
    let can = can-at run t q (Execute i) l e runs in
    let stands = (all_stand run tells batches list t q l runs).0 in
    let place = can.place in
    let d = known-chosen run t q l i can.batch runs can.known in
    let c : IsChosen run d.0 (0 + i) can.batch = subst (λ j. IsChosen run d.0 j can.batch) (sym (zero-add i)) (t, d.1) in
    let le = stands.within in
    let inside : i < length batches = elim (lt_or_le i (length batches)) [
      | inl lt ↦ lt
      | inr ge ↦ (let at_end : i ≡ length batches = omega arith in absurd (list.ends d.0 can.batch (subst (λ j. IsChosen run d.0 j can.batch) at_end (t, d.1))))
    ] in
    record { batch = can.batch; known = can.known; listed = listed-at run 0 i d.0 batches can.batch list.chosen inside c; state_is = stands.state_is ∙ ap (λ k. serve (take k batches)) (sym place) }

recovering-silent : (run : Trace) (t q : ℕ) (d : Deed) (l : Life) → Runs run t q l → Can run.setup (at run t) q l d → l.phase ≡ Recovering → IsSilent d
recovering-silent run t q (Enter view) l runs can e = let w = can.working in absurd cc
recovering-silent run t q (Open view first) l runs can e = let w = can.working in absurd cc
recovering-silent run t q (Promise view first mark low report) l runs can e = let w = can.working in absurd cc
recovering-silent run t q (Prepared view x) l runs can e = let w = ((life_sound-at run t q l runs).waiting e).1 in let f = can.preparing in absurd cc
recovering-silent run t q (Launch view i batch) l runs can e = let w = leads-works run t q l can.lead runs can.leads in absurd cc
recovering-silent run t q (Vote view i batch) l runs can e = let w = can.working in absurd cc
recovering-silent run t q (Answer to view next mark) l runs can e = let w = can.working in absurd cc
recovering-silent run t q (Take from message) l runs can e = tt
recovering-silent run t q (Learn i batch) l runs can e = tt
recovering-silent run t q (Rejoin view) l runs can e = tt
recovering-silent run t q (Install upto state) l runs can e = tt
recovering-silent run t q (Execute i) l runs can e = tt
recovering-silent run t q (Restore upto state) l runs can e = tt
recovering-silent run t q (Say to message) l runs can e = tt

-- whatever a Recovering life does is one of the silent steps
pub recovering_are_silent : (run : Trace) → RecoveringAreSilent run
recovering_are_silent run t q d l e runs f = recovering-silent run t q d l runs (can-at run t q d l e runs) f

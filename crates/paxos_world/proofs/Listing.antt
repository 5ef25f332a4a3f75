-- The computed list of a finite run is its list.
use Rattle.std.proofs.Common.{◌≡◌, ℕ, zero, suc, ◌+◌, ◌≤◌, ◌<◌, Bool, true, false, ◌&&◌, ◌||◌, List, [], ◌∷◌, length, Option, Some, None, if◌then◌else◌, nat_le, ◌==◌, refl, sym, ap, subst, ◌∙◌, inl, inr, ⊎_elim, arith, le_refl, add-zero, zero-add}
use Rattle.std.proofs.lemmas.Bool.Decides.{leb_tells, nat_tests}
use Rattle.jp_types.specs.Views.{majority, count_below}
use Rattle.jp_types.specs.Lists.{In}
use Rattle.paxos_world.specs.Setup.{Setup}
use Rattle.paxos_world.specs.Life.{LifeId}
use Rattle.jp_types.specs.Instances.{Batch}
use Rattle.paxos_world.specs.World.{World, Ballot, Move, opening}
use Rattle.paxos_world.specs.Trace.{Trace, at, IsChosenIn, IsRun, end_of}
use Rattle.paxos_world.specs.Served.{AreChosenFrom, IsList, AreChosenIn, ListIsChosen}
use Rattle.paxos_world.specs.ListOf.{is_on, has_voted, batch_on, chosen_in, chosen_below, above_views, above_instances, chosen_batch, before, list_from, list_of}
use Rattle.paxos_world.proofs.Basics.{shared, lt_or_le}
use Rattle.paxos_world.proofs.Replies.{if-option, and-true, same, same-test}
use Rattle.paxos_world.proofs.Back.{or-true}
use Rattle.paxos_world.proofs.Ballots.{cast-by}
use Rattle.paxos_world.proofs.Adopting.{or-some, or-right, or-left}
use Rattle.paxos_world.proofs.Chosen.{launched-same}
use Rattle.paxos_world.proofs.Listed.{run_of, at-end, chosen-at-end}

-- a replica that has voted has a vote in the list
voted-ballot : (p v i : ℕ) (votes : List Ballot) → has_voted p v i votes ≡ true → (number : ℕ) × (batch : Batch) × In (record { life = record { replica = p; number = number }; view = v; instance = i; batch = batch }) votes
voted-ballot p v i [] e = cc
voted-ballot p v i (b ∷ bs) e =
    elim (or-true (b.life.replica == p && is_on v i b) (has_voted p v i bs) e) [
      | inl h ↦ (
          let x = and-true (b.life.replica == p) (is_on v i b) h in
          let y = and-true (b.view == v) (b.instance == i) x.1 in
          let r = same b.life.replica p x.0 in let w = same b.view v y.0 in let j = same b.instance i y.1 in
          (b.life.number, b.batch, inl (λ k. record { life = record { replica = sym r k; number = b.life.number }; view = sym w k; instance = sym j k; batch = b.batch })))
      | inr h ↦ (let r = voted-ballot p v i bs h in (r.0, r.1, inr r.2))
    ]

or-right-true : (a b : Bool) → b ≡ true → (a || b) ≡ true
or-right-true true b e = refl
or-right-true false b e = e

ballot-voted : (p number v i : ℕ) (batch : Batch) (votes : List Ballot) → In (record { life = record { replica = p; number = number }; view = v; instance = i; batch = batch }) votes → has_voted p v i votes ≡ true
ballot-voted p number v i batch [] h = absurd h
ballot-voted p number v i batch (b ∷ bs) (inl e) =
    subst (λ (x : Ballot). ((x.life.replica == p && is_on v i x) || has_voted p v i bs) ≡ true) e (rw (same-test p p refl, same-test v v refl, same-test i i refl) refl)
ballot-voted p number v i batch (b ∷ bs) (inr h) = or-right-true (b.life.replica == p && is_on v i b) (has_voted p v i bs) (ballot-voted p number v i batch bs h)

-- the batch of a vote
batch-ballot : (v i : ℕ) (votes : List Ballot) (batch : Batch) → batch_on v i votes ≡ Some batch → (life : LifeId) × In (record { life = life; view = v; instance = i; batch = batch }) votes
batch-ballot v i [] batch e = cc
batch-ballot v i (b ∷ bs) batch e = go (is_on v i b) refl e (λ g. batch-ballot v i bs batch g)
  where
    go : (t : Bool) → is_on v i b ≡ t → (if t then Some b.batch else batch_on v i bs) ≡ Some batch → (batch_on v i bs ≡ Some batch → (life : LifeId) × In (record { life = life; view = v; instance = i; batch = batch }) bs)
        → (life : LifeId) × In (record { life = life; view = v; instance = i; batch = batch }) (b ∷ bs)
    go true f g again =
        let y = and-true (b.view == v) (b.instance == i) f in
        let w = same b.view v y.0 in let j = same b.instance i y.1 in
        let k : b.batch ≡ batch = cc in
        (b.life, inl (λ z. record { life = b.life; view = sym w z; instance = sym j z; batch = sym k z }))
    go false f g again = let r = again g in (r.0, inr r.1)

ballot-batch : (v i : ℕ) (votes : List Ballot) (b : Ballot) → b.view ≡ v → b.instance ≡ i → In b votes → (batch : Batch) × (batch_on v i votes ≡ Some batch)
ballot-batch v i [] b e f h = absurd h
ballot-batch v i (x ∷ xs) b e f h = go (is_on v i x) refl h (λ k. ballot-batch v i xs b e f k)
  where
    go : (t : Bool) → is_on v i x ≡ t → In b (x ∷ xs) → (In b xs → (batch : Batch) × (batch_on v i xs ≡ Some batch)) → (batch : Batch) × ((if t then Some x.batch else batch_on v i xs) ≡ Some batch)
    go true g k again = (x.batch, refl)
    go false g (inl s) again =
        let a = same-test x.view v (ap (λ (y : Ballot). y.view) (sym s) ∙ e) in
        let c = same-test x.instance i (ap (λ (y : Ballot). y.instance) (sym s) ∙ f) in
        let both : is_on v i x ≡ true = rw (a, c) refl in
        absurd cc
    go false g (inr k) again = again k

-- a test that passes wherever another does counts at least as many
count-up : (n : ℕ) (f g : ℕ → Bool) → ((p : ℕ) → p < n → f p ≡ true → g p ≡ true) → count_below n f ≤ count_below n g
count-up zero f g h = le_refl _
count-up (suc k) f g h = go (f k) (g k) refl refl (count-up k f g (λ p lt e. h p (omega arith) e))
  where
    go : (a b : Bool) → f k ≡ a → g k ≡ b → count_below k f ≤ count_below k g → count_below (suc k) f ≤ count_below (suc k) g
    go true true ea eb le = rw (ea, eb) (omega arith)
    go true false ea eb le = let x = h k (omega arith) ea in absurd cc
    go false true ea eb le = rw (ea, eb) (omega arith)
    go false false ea eb le = rw (ea, eb) (omega arith)

module _ (run : Trace) (t : ℕ) where
  votes : List Ballot
  votes = (at run t).votes

  n : ℕ
  n = run.setup.n

  -- a computed batch is chosen
  in-sound : (v i : ℕ) (batch : Batch) → chosen_in n votes v i ≡ Some batch → IsChosenIn n (at run t) v i batch
  unfolding votes n
  in-sound v i batch e =
      let f = if-option (nat_le (majority n) (count_below n (λ p. has_voted p v i votes))) (batch_on v i votes) batch e in
      let b = batch-ballot v i votes batch f.1 in
      let c = cast-by run t _ b.1 in
      record {
        members = λ p. has_voted p v i votes;
        quorum = ⊎_elim (λ h. h.1) (λ h. let x = h.0 in let y = f.0 in absurd cc) (leb_tells (majority n) (count_below n (λ p. has_voted p v i votes)));
        voted = λ p lt e.
            let k = voted-ballot p v i votes e in
            let d = cast-by run t _ k.2 in
            let same_batch : k.1 ≡ batch = launched-same run (suc d.s) (suc c.s) v i k.1 batch d.launched c.launched in
            (k.0, subst (λ (y : Batch). In (record { life = record { replica = p; number = k.0 }; view = v; instance = i; batch = y }) votes) same_batch k.2);
      }

  -- a chosen batch is computed
  in-complete : (v i : ℕ) (batch : Batch) → IsChosenIn n (at run t) v i batch → (other : Batch) × (chosen_in n votes v i ≡ Some other)
  unfolding votes n
  in-complete v i batch h =
      let up = count-up n h.members (λ p. has_voted p v i votes) (λ p lt e. let k = h.voted p lt e in ballot-voted p k.0 v i batch votes k.1) in
      let q = h.quorum in
      let enough : majority n ≤ count_below n (λ p. has_voted p v i votes) = omega arith in
      let z = shared n h.members h.members h.quorum h.quorum in
      let k = h.voted z.0 z.1 z.2 in
      let b = ballot-batch v i votes _ refl refl k.1 in
      (b.0, rw (leb-is (majority n) (count_below n (λ p. has_voted p v i votes)) enough) b.1)
    where
      leb-is : (x y : ℕ) → x ≤ y → nat_le x y ≡ true
      leb-is x y le = grind (arith, nat_tests)

  below-sound : (k i : ℕ) (batch : Batch) → chosen_below n votes i k ≡ Some batch → (v : ℕ) × IsChosenIn n (at run t) v i batch
  below-sound zero i batch e = cc
  below-sound (suc k) i batch e =
      elim (or-some (chosen_below n votes i k) (chosen_in n votes k i) batch e) [ inl a ↦ below-sound k i batch a | inr a ↦ (k, in-sound k i batch a) ]

  below-complete : (k v i : ℕ) (batch : Batch) → v < k → IsChosenIn n (at run t) v i batch → (other : Batch) × (chosen_below n votes i k ≡ Some other)
  below-complete zero v i batch lt h = absurd (omega arith)
  below-complete (suc k) v i batch lt h =
      elim (lt_or_le v k) [
        | inl less ↦ (let r = below-complete k v i batch less h in (r.0, or-left (chosen_below n votes i k) (chosen_in n votes k i) r.0 r.1))
        | inr ge ↦ (let e : v ≡ k = omega arith in let r = in-complete k i batch (subst (λ (y : ℕ). IsChosenIn n (at run t) y i batch) e h) in or-right (chosen_below n votes i k) (chosen_in n votes k i) r.0 r.1)
      ]

view-below : (votes : List Ballot) (b : Ballot) → In b votes → b.view < above_views votes
view-below [] b h = absurd h
view-below (x ∷ xs) b (inl e) = let f = ap (λ (y : Ballot). y.view) e in omega arith
view-below (x ∷ xs) b (inr h) = let r = view-below xs b h in omega arith

instance-below : (votes : List Ballot) (b : Ballot) → In b votes → b.instance < above_instances votes
instance-below [] b h = absurd h
instance-below (x ∷ xs) b (inl e) = let f = ap (λ (y : Ballot). y.instance) e in omega arith
instance-below (x ∷ xs) b (inr h) = let r = instance-below xs b h in omega arith

-- a vote on a chosen batch
some-ballot : (n : ℕ) (w : World) (v i : ℕ) (batch : Batch) → IsChosenIn n w v i batch → (life : LifeId) × In (record { life = life; view = v; instance = i; batch = batch }) w.votes
some-ballot n w v i batch h =
    let z = shared n h.members h.members h.quorum h.quorum in
    let k = h.voted z.0 z.1 z.2 in
    (record { replica = z.0; number = k.0 }, k.1)

-- the computed batch of an instance
batch-sound : (run : Trace) (t i : ℕ) (batch : Batch) → chosen_batch run.setup.n (at run t).votes i ≡ Some batch → (v : ℕ) × IsChosenIn run.setup.n (at run t) v i batch
unfolding votes n
batch-sound run t i batch e = below-sound run t (above_views (at run t).votes) i batch e

batch-complete : (run : Trace) (t v i : ℕ) (batch : Batch) → IsChosenIn run.setup.n (at run t) v i batch → (other : Batch) × (chosen_batch run.setup.n (at run t).votes i ≡ Some other)
unfolding votes n
batch-complete run t v i batch h =
    let b = some-ballot run.setup.n (at run t) v i batch h in
    below-complete run t (above_views (at run t).votes) v i batch (view-below (at run t).votes _ b.1) h

-- the computed list, from i on
record IsListFrom (run : Trace) (t i : ℕ) (batches : List Batch) : Type 0 where
  chosen : AreChosenFrom run i batches
  ends : (v : ℕ) (batch : Batch) → ¬ IsChosenIn run.setup.n (at run t) v (i + length batches) batch

list-is : (run : Trace) (t k i : ℕ) → above_instances (at run t).votes ≤ i + k → IsListFrom run t i (list_from run.setup.n (at run t).votes k i)
list-is run t zero i up =
    record { chosen = tt; ends = λ v batch h. let b = some-ballot run.setup.n (at run t) v (i + 0) batch h in let less = instance-below (at run t).votes _ b.1 in omega arith }
list-is run t (suc k) i up = go (chosen_batch run.setup.n (at run t).votes i) refl (list-is run t k (suc i) (omega arith))
  where
    go : (o : Option Batch) → chosen_batch run.setup.n (at run t).votes i ≡ o → IsListFrom run t (suc i) (list_from run.setup.n (at run t).votes k (suc i))
        → IsListFrom run t i (before o (list_from run.setup.n (at run t).votes k (suc i)))
    go None e rest = record { chosen = tt; ends = λ v batch h. let r = batch-complete run t v i batch (subst (λ (y : ℕ). IsChosenIn run.setup.n (at run t) v y batch) (add-zero i) h) in let f = r.1 in absurd cc }
    go (Some b) e rest =
        let s = batch-sound run t i b e in
        record { chosen = ((s.0, (t, s.1)), rest.chosen); ends = λ v batch h. rest.ends v batch (subst (λ (y : ℕ). IsChosenIn run.setup.n (at run t) v y batch) (omega arith) h) }

-- the computed list is the list of the run
pub list_of-is : (c : Setup) (few : c.n ≤ 9) (ms : List Move) (h : IsRun c opening ms) → IsList (run_of c few ms h) (list_of c.n (end_of c opening ms).votes)
list_of-is c few ms h =
    let run = run_of c few ms h in
    let e : at run (length ms) ≡ end_of c opening ms = at-end c few ms h (length ms) (le_refl _) in
    let l = list-is run (length ms) (above_instances (at run (length ms)).votes) 0 (omega arith) in
    let l' : IsListFrom run (length ms) 0 (list_of c.n (end_of c opening ms).votes) = subst (λ (w : World). IsListFrom run (length ms) 0 (list_of c.n w.votes)) e l in
    record {
      chosen = l'.chosen;
      ends = λ v batch d.
          let g = chosen-at-end c few ms h v (length (list_of c.n (end_of c opening ms).votes)) batch d in
          l'.ends v batch (subst (λ (y : ℕ). IsChosenIn c.n (at run (length ms)) v y batch) (sym (zero-add (length (list_of c.n (end_of c opening ms).votes)))) (subst (λ (w : World). IsChosenIn c.n w v (length (list_of c.n (end_of c opening ms).votes)) batch) (sym e) g));
    }

chosen-in : (c : Setup) (few : c.n ≤ 9) (ms : List Move) (h : IsRun c opening ms) (i : ℕ) (batches : List Batch) → AreChosenFrom (run_of c few ms h) i batches → AreChosenIn c.n (end_of c opening ms) i batches
chosen-in c few ms h i [] a = tt
chosen-in c few ms h i (batch ∷ batches) a = ((a.0.0, chosen-at-end c few ms h a.0.0 i batch a.0.1), chosen-in c few ms h (suc i) batches a.1)

-- the computed list is the list of the last world
pub list_is_chosen : ListIsChosen
list_is_chosen c few ms h =
    let run = run_of c few ms h in
    let w = end_of c opening ms in
    let l = list_of-is c few ms h in
    record {
      chosen = chosen-in c few ms h 0 (list_of c.n w.votes) l.chosen;
      ends = λ v batch d. l.ends v batch (length ms, subst (λ (x : World). IsChosenIn c.n x v (length (list_of c.n w.votes)) batch) (sym (at-end c few ms h (length ms) (le_refl _))) d);
    }

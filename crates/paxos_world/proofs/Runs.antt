-- What holds along a run.
use Rattle.std.proofs.Common.{◌≡◌, ℕ, zero, suc, ◌+◌, ◌≤◌, ◌<◌, ◌⊎◌, Option, Some, None, refl, sym, ap, subst, ◌∙◌, inl, inr, arith, le_of_lt, zero-add, suc-add, ◌-◌}
use Rattle.paxos_world.specs.Life.{Life}
use Rattle.paxos_world.specs.World.{Replica, World, Deed, Can, Allowed, after, opening, life_after, Move, Act, who, replica_after}
use Rattle.paxos_world.proofs.Basics.{le_or_lt, with_at-same}
use Rattle.paxos_world.specs.Trace.{MayHappen, happens, world_from, Trace, at, Runs, Does}
use Rattle.paxos_world.proofs.Sound.{top, LifeSound, WorldSound, tops_of, act-is, some-is, step_sound, opening_sound}
use Rattle.paxos_world.proofs.Growth.{Grows, Later, later-refl, later-trans, step_later, deed_grows}

pub at-zero : (run : Trace) → at run 0 ≡ opening
unfolding at world_from
at-zero run = refl

at-suc : (run : Trace) (t : ℕ) → at run (suc t) ≡ happens run.setup (at run t) (run.moves t)
unfolding at world_from
at-suc run t = refl

may-at : (run : Trace) (t : ℕ) → MayHappen run.setup (at run t) (run.moves t)
unfolding at
may-at run t = run.allowed t

-- the world after a step of the run
pub at-does : (run : Trace) (t : ℕ) (m : Move) → Does run t m → at run (suc t) ≡ after run.setup (at run t) m
at-does run t m e = at-suc run t ∙ ap (happens run.setup (at run t)) e

pub at-idle : (run : Trace) (t : ℕ) → run.moves t ≡ None → at run (suc t) ≡ at run t
at-idle run t e = at-suc run t ∙ ap (happens run.setup (at run t)) e

-- a step of the run is allowed
pub allowed-at : (run : Trace) (t : ℕ) (m : Move) → Does run t m → Allowed run.setup (at run t) m
allowed-at run t m e = subst (MayHappen run.setup (at run t)) e (may-at run t)

-- what each step keeps holds throughout
keeps : (run : Trace) (P : ℕ → World → Type 0) (t : ℕ) → ((w : World) → P t w → P (suc t) w)
    → ((m : Move) → Does run t m → Allowed run.setup (at run t) m → P t (at run t) → P (suc t) (after run.setup (at run t) m))
    → (o : Option Move) → run.moves t ≡ o → P t (at run t) → P (suc t) (happens run.setup (at run t) o)
keeps run P t idle step None e h = idle (at run t) h
keeps run P t idle step (Some m) e h = step m e (allowed-at run t m e) h

pub always : (run : Trace) (P : ℕ → World → Type 0) → P 0 opening → ((t : ℕ) (w : World) → P t w → P (suc t) w)
    → ((t : ℕ) (m : Move) → Does run t m → Allowed run.setup (at run t) m → P t (at run t) → P (suc t) (after run.setup (at run t) m))
    → (t : ℕ) → P t (at run t)
always run P begin idle step zero = subst (P 0) (sym (at-zero run)) begin
always run P begin idle step (suc t) =
    subst (P (suc t)) (sym (at-suc run t)) (keeps run P t (idle t) (step t) (run.moves t) refl (always run P begin idle step t))

-- each world of a run is sound
pub sound-at : (run : Trace) (t : ℕ) → WorldSound run.setup (at run t)
sound-at run = always run (λ t w. WorldSound run.setup w) (opening_sound run.setup) (λ t w h. h) (λ t m does allowed h. step_sound run.setup (at run t) m h allowed.meets)

-- a running life is sound
pub life_sound-at : (run : Trace) (t q : ℕ) (l : Life) → Runs run t q l
    → LifeSound run.setup q ((at run t).replicas q).starts (top ((at run t).replicas q).stable) (tops_of (at run t)) (at run t).sent l
life_sound-at run t q l e = ((sound-at run t).replica q).life l e

-- each replica at a later moment
later-by : (run : Trace) (s q k : ℕ) → Later run.setup q ((at run s).replicas q) ((at run (k + s)).replicas q)
later-by run s q zero = rw zero-add (later-refl run.setup q _)
later-by run s q (suc k) = rw suc-add (go (run.moves (k + s)) refl (later-by run s q k))
  where
    go : (o : Option Move) → run.moves (k + s) ≡ o → Later run.setup q ((at run s).replicas q) ((at run (k + s)).replicas q) → Later run.setup q ((at run s).replicas q) ((at run (suc (k + s))).replicas q)
    go None e h = rw (at-suc run (k + s), e) h
    go (Some m) e h = rw (at-does run (k + s) m e) (later-trans run.setup q _ _ _ h (step_later run.setup (at run (k + s)) m (sound-at run (k + s)) (allowed-at run (k + s) m e).meets q))

pub later-at : (run : Trace) (s t q : ℕ) → s ≤ t → Later run.setup q ((at run s).replicas q) ((at run t).replicas q)
later-at run s t q le = let e : (t - s) + s ≡ t = omega arith in subst (λ k. Later run.setup q ((at run s).replicas q) ((at run k).replicas q)) e (later-by run s q (t - s))

-- a life that still runs at a later moment is the same one, later
pub same_life : (run : Trace) (s t q : ℕ) (k l : Life) → s ≤ t → Runs run s q k → Runs run t q l → k.number ≡ l.number → Grows run.setup q k l
same_life run s t q k l le a b same =
    let h = life_sound-at run s q k a in
    let n = h.number in
    elim ((later-at run s t q le).life l b) [
      | inl i ↦ absurd (let j = i.0 in omega arith)
      | inr i ↦ let e : i.0 ≡ k = some-is _ k (sym i.1 ∙ a) in subst (λ (m : Life). Grows run.setup q m l) e i.2
    ]

-- a life of higher number runs later, with a mark above the stable number of before
pub newer_life : (run : Trace) (s t q : ℕ) (k l : Life) → Runs run s q k → Runs run t q l → k.number < l.number → (s < t) × (top ((at run s).replicas q).stable < l.mark)
newer_life run s t q k l a b less = go (le_or_lt s t)
  where
    h : LifeSound run.setup q ((at run s).replicas q).starts (top ((at run s).replicas q).stable) (tops_of (at run s)) (at run s).sent k
    h = life_sound-at run s q k a

    i : LifeSound run.setup q ((at run t).replicas q).starts (top ((at run t).replicas q).stable) (tops_of (at run t)) (at run t).sent l
    i = life_sound-at run t q l b

    above : s ≤ t → top ((at run s).replicas q).stable < l.mark
    above le = elim ((later-at run s t q le).life l b) [
      | inl j ↦ let n = h.number in let z = h.started in j.1 (omega arith)
      | inr j ↦ let e : j.0 ≡ k = some-is _ k (sym j.1 ∙ a) in let f : j.0.number ≡ k.number = ap (λ (m : Life). m.number) e in let g = j.2.number in absurd (omega arith)
    ]

    go : (s ≤ t) ⊎ (t < s) → (s < t) × (top ((at run s).replicas q).stable < l.mark)
    go (inl le) = (elim (le_or_lt t s) [ inl ge ↦ (let e : s ≡ t = omega arith in let b' : Runs run s q l = subst (λ x. Runs run x q l) (sym e) b in let f : k ≡ l = some-is k l (sym a ∙ b') in let g : k.number ≡ l.number = ap (λ (m : Life). m.number) f in absurd (omega arith)) | inr lt ↦ lt ], above le)
    go (inr lt) = let n = h.number in let m = i.number in let up = (later-at run t s q (le_of_lt lt)).starts in absurd (omega arith)

-- a life of higher number has a higher mark
pub newer_mark : (run : Trace) (s t q : ℕ) (k l : Life) → Runs run s q k → Runs run t q l → k.number < l.number → k.mark < l.mark
newer_mark run s t q k l a b less =
    let h = life_sound-at run s q k a in
    let x = h.mark_top in
    let y = (newer_life run s t q k l a b less).1 in
    omega arith

-- the condition of what a running life does holds
pub can-at : (run : Trace) (t r : ℕ) (d : Deed) (l : Life) → Does run t (Act r d) → Runs run t r l → Can run.setup (at run t) r l d
can-at run t r d l e a =
    let h = (allowed-at run t (Act r d) e).meets in
    let f : h.life ≡ l = some-is h.life l (sym h.running ∙ a) in
    subst (λ (m : Life). Can run.setup (at run t) r m d) f h.can

pub within-at : (run : Trace) (t : ℕ) (m : Move) → Does run t m → who m < run.setup.n
within-at run t m e = (allowed-at run t m e).within

-- the life after what it did
pub runs-after : (run : Trace) (t r : ℕ) (d : Deed) (l : Life) → Does run t (Act r d) → Runs run t r l → Runs run (suc t) r (life_after run.setup r l d)
runs-after run t r d l e a =
    let w = at run t in
    let f : (at run (suc t)).replicas r ≡ replica_after run.setup (w.replicas r) (Act r d)
    = ap (λ (x : World). x.replicas r) (at-does run t (Act r d) e) ∙ with_at-same w.replicas r (replica_after run.setup (w.replicas r) (Act r d)) in
    ap (λ (x : Replica). x.running) (f ∙ act-is run.setup r (w.replicas r) d l a)

-- a replica that does something is up
pub does-runs : (run : Trace) (t r : ℕ) (d : Deed) → Does run t (Act r d) → (l : Life) × Runs run t r l
does-runs run t r d e = let h = (allowed-at run t (Act r d) e).meets in (h.life, h.running)

-- the life after what it did is the same one, later
pub grows-at : (run : Trace) (t r : ℕ) (d : Deed) (l : Life) → Does run t (Act r d) → Runs run t r l → Grows run.setup r l (life_after run.setup r l d)
grows-at run t r d l e a =
    deed_grows run.setup (at run t) r _ _ (tops_of (at run t)) l d (life_sound-at run t r l a) (sound-at run t).sent (can-at run t r d l e a)

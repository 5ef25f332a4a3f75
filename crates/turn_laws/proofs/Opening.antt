-- How a life begins.
use Rattle.std.proofs.Common.{◌≡◌, ◌≢◌, ℕ, suc, ◌+◌, ◌-◌, ◌*◌, ◌/◌, ◌%◌, ◌≤◌, Bool, true, false, [], ◌++◌, ◌==◌, if◌then◌else◌, Option, Some, None, option_map, refl, sym, ap, subst, ◌∙◌, inl, inr, ⊎_elim, arith, le_refl, append-nil}
use Rattle.std.proofs.lemmas.Bool.Decides.{eqb_tells}
use Rattle.jp_types.specs.declared.mode.Phase.{Phase}
use Rattle.jp_types.specs.declared.mode.Phase.TheVariants.{Recovering, Working}
use Rattle.jp_types.specs.declared.mode.Mode.{Mode}
use Rattle.jp_types.specs.declared.mode.Mode.TheVariants.{ViewSs, EpochSs}
use Rattle.paxos_world.specs.declared.step.Step.{Step}
use Rattle.jp_types.specs.Views.{leader, number_limit}
use Rattle.paxos_world.specs.Setup.{Setup}
use Rattle.paxos_world.specs.Life.{Life, new_life}
use Rattle.jp_types.specs.Marks.{first_mark, view_at_return}
use Rattle.paxos_world.specs.World.{Replica, World, Move, First, Return, IsNextMark, CanFirst, CanReturn, Allowed, who, after, replica_after}
use Rattle.paxos_world.specs.Stage.{Config, setup_of, Stage, free_slots, new_stage}
use Rattle.paxos_world.specs.Writing.{when, says_to_all}
use Rattle.paxos_world.specs.Leading.{leads_own, begin_phase_1}
use Rattle.paxos_world.specs.Retransmitting.{arms_recovery}
use Rattle.paxos_world.specs.Turn.{Opened, begun, first_start, recovery_of, later_start, opening}
use Rattle.jp_types.specs.Marks.{return_mark}
use Rattle.paxos_world.proofs.Basics.{lt_or_le, with_at-same}
use Rattle.paxos_world.proofs.Replies.{same}
use Rattle.turn_laws.proofs.Fitting.{executions, shown_by, Fits, Good, Frame, Goes}
use Rattle.turn_laws.proofs.Sane.{Sane, life_sane}
use Rattle.turn_laws.proofs.Goods.{step_good}
use Rattle.turn_laws.proofs.Going.{keep-when}
use Rattle.turn_laws.proofs.Words.{goes-says-all, onward-refl}
use Rattle.turn_laws.proofs.Slots.{live-free_slots}
use Rattle.turn_laws.proofs.Arming.{still, goes-arms_recovery}
use Rattle.turn_laws.proofs.Raising.{limit-of, goes-begin_phase_1}
use Rattle.paxos_world.specs.Settling.{rejoin_view}
use Rattle.paxos_world.specs.Shown.{shown_of}
use Rattle.paxos_world.proofs.Turning.{Told, first-told, later-told}
use Rattle.turn_laws.proofs.Rejoinable.{taken-none}
use Rattle.turn_laws.proofs.Sitting.{Placed, Over, over-of}

-- ---- The next mark

-- neighbours have different leaders
times-apart : (n a b r x : ℕ) → 2 ≤ n → n * a + r ≡ x → n * b + r ≡ x + 1 → ⊥
times-apart n a b r x two e f =
    elim (lt_or_le a b) [
      | inl lt ↦ (let d = b - suc a in let g : b ≡ suc (a + d) = omega arith in let k : n * b ≡ n * suc (a + d) = ap (λ y. n * y) g in let m : n * suc (a + d) ≡ n * a + n * d + n = grind arith in omega arith)
      | inr ge ↦ (let d = a - b in let g : a ≡ b + d = omega arith in let k : n * a ≡ n * (b + d) = ap (λ y. n * y) g in let m : n * (b + d) ≡ n * b + n * d = grind arith in omega arith)
    ]

neighbours : (n x : ℕ) → 2 ≤ n → leader n x ≢ leader n (x + 1)
neighbours n x two e =
    let a : n * (x / n) + x % n ≡ x = omega arith in
    let b : n * ((x + 1) / n) + (x + 1) % n ≡ x + 1 = omega arith in
    times-apart n (x / n) ((x + 1) / n) (x % n) x two a (omega arith)

next-mark : (mode : Mode) (n me stable mark : ℕ) → 2 ≤ n → return_mark mode n me stable ≡ Some mark → IsNextMark mode n me stable mark × (mark ≤ number_limit)
next-mark EpochSs n me stable mark two e = let a = limit-of (suc stable) mark e in let b = a.0 in (omega arith, a.1)
next-mark ViewSs n me stable mark two e = let a = limit-of _ mark e in (go (leader n (stable + 1) == me) refl a.0, a.1)
  where
    go : (b : Bool) → (leader n (stable + 1) == me) ≡ b → (if b then stable + 2 else stable + 1) ≡ mark → IsNextMark ViewSs n me stable mark
    go true f g =
        let led = same (leader n (stable + 1)) me f in
        let next : (stable + 1) + 1 ≡ mark = omega arith in (
          omega arith,
          λ k. neighbours n (stable + 1) two (led ∙ sym k ∙ ap (leader n) (sym next)),
          λ v lo hi. (let is : stable + 1 ≡ v = omega arith in subst (λ y. leader n y ≡ me) is led),
        )
    go false f g =
        let ne : leader n (stable + 1) ≢ me = λ k. ⊎_elim (λ h. let x = h.0 in let y : false ≡ true = sym f ∙ x in absurd cc) (λ h. h.1 k) (eqb_tells (leader n (stable + 1)) me) in
        (omega arith, subst (λ y. leader n y ≢ me) g ne, λ v lo hi. absurd (omega arith))

-- ---- A new life

-- a new stage fits
fits-new : (c : Config) (w : World) (number mark : ℕ) (phase : Phase) (view : ℕ) → Fits (setup_of c) w c.me true (new_stage c free_slots (new_life number mark phase view) mark)
fits-new c w number mark phase view =
    record {
      below = le_refl 0;
      base_known = λ i lt. absurd (omega arith);
      known_end = λ i b e. absurd cc;
      voted_end = λ i v e. absurd cc;
      noted = λ x n. absurd n;
      base_place = le_refl 0;
      waiting = λ b n. absurd n;
      place_known = λ i lt. absurd (omega arith);
      newest = λ n e. absurd cc;
      joiner = λ j e. absurd cc;
      slots = λ k o e. absurd (live-free_slots k o e);
    }

-- the frame in which a life begins
abbrev frame_at : World → Config → ℕ → Life → Frame
frame_at w c number life = record { world = w; life = life; sent = w.sent; config = c; number = number; taken = []; phase = life.phase; clean = true; ahead = None }

goes-begun : (c : Config) (w : World) (number mark : ℕ) (phase : Phase) (view : ℕ) (step : Step) → executions step ≡ [] → Placed c → Good (setup_of c) w → Sane w
    → (w.replicas c.me).running ≡ Some (new_life number mark phase view) → (w.replicas c.me).stable ≡ Some mark → Goes (frame_at w c number (new_life number mark phase view)) [] (begun c free_slots (new_life number mark phase view) step)
goes-begun c w number mark phase view step none place good sane running stable =
    record {
      config = refl;
      number = refl;
      taken = refl;
      phase = refl;
      me = place.me;
      more = place.more;
      world = w;
      run = tt;
      ends = refl;
      good = good;
      running = running;
      stable = stable;
      fresh = λ a p m. refl;
      fits = fits-new c w number mark phase view;
      cast = λ i v e. absurd cc;
      served = inl refl;
      reads = place.reads;
      sane = sane;
      along = sane;
      sent = sym (append-nil (w.sent ++ []) ∙ append-nil w.sent);
      handed = (refl, append-nil _ ∙ none);
      onward = onward-refl (new_life number mark phase view);
    }

-- a start is lawful: its first step is allowed, and the others are a run from there on
pub record Opens (c : Config) (number : ℕ) (w : World) (o : Opened) : Type 0 where
  pub allowed : Allowed (setup_of c) w o.move
  pub life : Life
  pub over : Over c number (after (setup_of c) w o.move) life o.turned
  pub mine : who o.move ≡ c.me
  -- the first step sends nothing, and is one more start
  pub silent : (after (setup_of c) w o.move).sent ≡ w.sent
  pub starts : ((after (setup_of c) w o.move).replicas c.me).starts ≡ number
  pub shown : shown_by o.turned.acts ≡ []
  -- the new life does not meet the condition of Rejoin
  pub settled : rejoin_view o.turned.stage ≡ None
  -- the first step begins this life, and the acts show that step and then the others
  pub born : ((after (setup_of c) w o.move).replicas c.me).running ≡ Some life
  pub told : Told c life (shown_of w o.move) o.turned

acted : (c : Setup) (w : World) (m : Move) → (after c w m).replicas (who m) ≡ replica_after c (w.replicas (who m)) m
acted c w m = with_at-same w.replicas (who m) (replica_after c (w.replicas (who m)) m)

opens-first : (c : Config) (number : ℕ) (w : World) → Placed c → Good (setup_of c) w → Sane w → (w.replicas c.me).running ≡ None → (w.replicas c.me).stable ≡ None → suc (w.replicas c.me).starts ≡ number → Opens c number w (first_start c free_slots number)
opens-first c number w place good sane down none next =
    let k = setup_of c in
    let m = First c.me in
    let meets : CanFirst k (w.replicas c.me) = record { down = down; fresh = none } in
    let v = after k w m in
    let life = new_life number (first_mark c.mode) Working 0 in
    let good_after = step_good k w m good meets in
    let sane_after = life_sane k w m tt sane in
    let running : (v.replicas c.me).running ≡ Some life
    = ap (λ (a : Replica). a.running) (acted k w m) ∙ ap (λ (n : ℕ). Some (new_life n (first_mark c.mode) Working 0)) next in
    let stable : (v.replicas c.me).stable ≡ Some (first_mark c.mode) = ap (λ (a : Replica). a.stable) (acted k w m) in
    let f = frame_at v c number life in
    let a = goes-begun c v number (first_mark c.mode) Working 0 (Step.First c.me) refl place good_after sane_after running stable in
    let t = begun c free_slots life (Step.First c.me) in
    let b = keep-when (Goes (still f) []) (leads_own t.stage) begin_phase_1 t (λ e. goes-begin_phase_1 f t a refl refl (same (leader c.n 0) c.me e)) (λ e. a) in
    record {
      allowed = record { within = place.me; meets = meets };
      life = life;
      over = over-of c number v t.stage f Working (when (leads_own t.stage) begin_phase_1 t) refl refl refl refl refl refl refl b;
      shown = b.handed.1;
      settled = taken-none (when (leads_own t.stage) begin_phase_1 t).stage b.taken;
      born = running;
      told = first-told c free_slots life;
      mine = refl;
      silent = append-nil w.sent;
      starts = ap (λ (a : Replica). a.starts) (acted k w m) ∙ next;
    }

opens-later : (c : Config) (number mark stable : ℕ) (w : World) → Placed c → Good (setup_of c) w → Sane w → (w.replicas c.me).running ≡ None → (w.replicas c.me).stable ≡ Some stable → suc (w.replicas c.me).starts ≡ number
    → return_mark c.mode c.n c.me stable ≡ Some mark → Opens c number w (later_start c free_slots number mark)
opens-later c number mark stable w place good sane down held next is =
    let k = setup_of c in
    let m = Return c.me mark in
    let n = next-mark c.mode c.n c.me stable mark place.more is in
    let meets : CanReturn k c.me (w.replicas c.me) mark = record { down = down; number = stable; stable = held; next = n.0; limit = n.1 } in
    let v = after k w m in
    let view = view_at_return c.mode mark in
    let life = new_life number mark Recovering view in
    let good_after = step_good k w m good meets in
    let sane_after = life_sane k w m tt sane in
    let running : (v.replicas c.me).running ≡ Some life
    = ap (λ (a : Replica). a.running) (acted k w m) ∙ ap (λ (x : ℕ). Some (new_life x mark Recovering view)) next in
    let saved : (v.replicas c.me).stable ≡ Some mark = ap (λ (a : Replica). a.stable) (acted k w m) in
    let f = frame_at v c number life in
    let a = goes-begun c v number mark Recovering view (Step.Return c.me mark) refl place good_after sane_after running saved in
    let t = begun c free_slots life (Step.Return c.me mark) in
    let b = goes-says-all (still f) (recovery_of mark) t a refl in
    let u = says_to_all (recovery_of mark) t in
    let d = goes-arms_recovery (still f) [] u (recovery_of mark) b.0 (λ x. ap (λ (s : Stage). s.life.mark) b.1) in
    record {
      allowed = record { within = place.me; meets = meets };
      life = life;
      over = over-of c number v t.stage f Recovering (arms_recovery (recovery_of mark) u) refl refl refl refl refl refl refl d;
      shown = d.handed.1;
      settled = taken-none (arms_recovery (recovery_of mark) u).stage d.taken;
      born = running;
      told = later-told c free_slots life mark (recovery_of mark);
      mine = refl;
      silent = append-nil w.sent;
      starts = ap (λ (a : Replica). a.starts) (acted k w m) ∙ next;
    }

-- a start of a replica that is down
pub opens : (c : Config) (number : ℕ) (stable : Option ℕ) (w : World) (o : Opened) → Placed c → Good (setup_of c) w → Sane w → (w.replicas c.me).running ≡ None → (w.replicas c.me).stable ≡ stable → suc (w.replicas c.me).starts ≡ number
    → opening c free_slots number stable ≡ Some o → Opens c number w o
unfolding opening
opens c number None w o place good sane down held next e = let f : first_start c free_slots number ≡ o = cc in subst (λ (x : Opened). Opens c number w x) f (opens-first c number w place good sane down held next)
opens c number (Some s) w o place good sane down held next e = go (return_mark c.mode c.n c.me s) refl e
  where
    go : (x : Option ℕ) → return_mark c.mode c.n c.me s ≡ x → option_map (later_start c free_slots number) x ≡ Some o → Opens c number w o
    go None f g = absurd cc
    go (Some mark) f g =
        let k : later_start c free_slots number mark ≡ o = cc in subst (λ (y : Opened). Opens c number w y) k (opens-later c number mark s w place good sane down held next f)

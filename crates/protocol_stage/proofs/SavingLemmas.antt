-- Acts that save nothing, and how what acts save is joined.
use Rattle.std.proofs.Common.{◌≡◌, ℕ, zero, suc, ◌≤◌, ◌++◌, ◌==◌, Bool, true, false, List, [], ◌∷◌, Option, Some, if◌then◌else◌, refl, sym, ap, ◌∙◌, arith}
use Rattle.jp_types.specs.declared.message.Message.{Message}
use Rattle.jp_types.specs.declared.mode.Phase.{Phase}
use Rattle.paxos_world.specs.Counting.{is_recovering}
use Rattle.protocol_core.specs.declared.act.Act.{Act}
use Rattle.protocol_core.specs.declared.config.Config.{Config}
use Rattle.protocol_core.specs.declared.life.Life.{Life}
use Rattle.protocol_stage.specs.Performing.{stored_by, stored_after}
use Rattle.protocol_core.specs.Sending.{to_all}
use Rattle.protocol_core.specs.Turned.{Turned, followed_by}

-- what holds in both branches holds of an `if`
pub if_holds : {X : Type 0} (P : X → Type 0) (b : Bool) (x y : X) → (b ≡ true → P x) → (b ≡ false → P y) → P (if b then x else y)
if_holds P true x y f g = f refl
if_holds P false x y f g = g refl

-- acts that save nothing
abbrev pub SavesNothing : List Act → Type 0
SavesNothing acts = (s : Option ℕ) → stored_after s acts ≡ s

pub stored-append : (s : Option ℕ) (a b : List Act) → stored_after s (a ++ b) ≡ stored_after (stored_after s a) b
stored-append s [] b = refl
stored-append s (act ∷ a) b = stored-append (stored_by s act) a b

pub nothing-append : (a b : List Act) → SavesNothing a → SavesNothing b → SavesNothing (a ++ b)
nothing-append a b h k s = stored-append s a b ∙ ap (λ (n : Option ℕ). stored_after n b) (h s) ∙ k s

pub nothing-to_all : (k me : ℕ) (m : Message) → SavesNothing (to_all k me m)
nothing-to_all zero me m = λ s. refl
nothing-to_all (suc k) me m =
    nothing-append (to_all k me m) (if k == me then [] else Act.Send k m ∷ []) (nothing-to_all k me m)
    (if_holds SavesNothing (k == me) [] (Act.Send k m ∷ []) (λ e s. refl) (λ e s. refl))

-- ---- Turns that leave the constants, the phase, the mark and the stable number

pub record Same (config : Config) (phase : Phase) (mark stable : ℕ) (t : Turned) : Type 0 where
  pub config_is : t.life.config ≡ config
  pub phase_is : t.life.phase ≡ phase
  pub mark_is : t.life.mark ≡ mark
  pub stable_is : t.life.stable ≡ stable
  pub nothing : SavesNothing t.acts

-- from this life, a turn that leaves them and saves nothing
abbrev pub Quiet : Life → Turned → Type 0
Quiet life t = Same life.config life.phase life.mark life.stable t

pub quiet-then : (life : Life) (t : Turned) (f : Life → Turned) → Quiet life t → ((next : Life) → Quiet next (f next)) → Quiet life (followed_by t f)
quiet-then life t f h k =
    let u = k t.life in
    record {
      config_is = u.config_is ∙ h.config_is;
      phase_is = u.phase_is ∙ h.phase_is;
      mark_is = u.mark_is ∙ h.mark_is;
      stable_is = u.stable_is ∙ h.stable_is;
      nothing = nothing-append t.acts (f t.life).acts h.nothing u.nothing;
    }

-- ---- Turns whose saves are the stable number

-- of a phase, a stable number and a mark: while it recovers, the stable number is not above the mark
abbrev pub Steady : Phase → ℕ → ℕ → Type 0
Steady phase mark stable = is_recovering phase ≡ true → stable ≤ mark

pub record KeepsFrom (phase : Phase) (mark stable : ℕ) (t : Turned) : Type 0 where
  pub stored : Steady phase mark stable → stored_after (Some stable) t.acts ≡ Some t.life.stable
  pub steady : Steady phase mark stable → Steady t.life.phase t.life.mark t.life.stable

-- from this life, a turn whose acts save the stable number that it leaves
abbrev pub Keeps : Life → Turned → Type 0
Keeps life t = KeepsFrom life.phase life.mark life.stable t

pub keeps_quiet : (life : Life) (t : Turned) → Quiet life t → Keeps life t
keeps_quiet life t q =
    record {
      stored = λ s. q.nothing (Some life.stable) ∙ ap (λ (n : ℕ). Some n) (sym q.stable_is);
      steady = λ s r. let a = s (ap is_recovering (sym q.phase_is) ∙ r) in let m = q.mark_is in let n = q.stable_is in omega (arith, a, m, n);
    }

pub keeps-then : (life : Life) (t : Turned) (f : Life → Turned) → Keeps life t → Keeps t.life (f t.life) → Keeps life (followed_by t f)
keeps-then life t f h k =
    record {
      stored = λ s. stored-append (Some life.stable) t.acts (f t.life).acts ∙ ap (λ (n : Option ℕ). stored_after n (f t.life).acts) (h.stored s) ∙ k.stored (h.steady s);
      steady = λ s. k.steady (h.steady s);
    }

-- What the cores keep, where of a stage only its view, how it leads, its counts, what waits and what is armed change.
use Rattle.std.proofs.Common.{◌≡◌, ℕ, zero, suc, ◌≤◌, true, List, length, refl, ap, le_refl, arith}
use Rattle.jp_types.specs.declared.message.PrepareOk.{PrepareOk}
use Rattle.jp_types.specs.declared.mode.Phase.{Phase}
use Rattle.jp_types.specs.declared.mode.Phase.TheVariants.{Recovering, Working}
use Rattle.jp_types.specs.Instances.{Batch}
use Rattle.paxos_world.specs.Life.{Leading, No, Preparing}
use Rattle.paxos_world.specs.Counting.{is_recovering}
use Rattle.paxos_world.specs.Leading.{is_working}
use Rattle.paxos_world.specs.Stage.{Stage}
use Rattle.epoch_vectors.specs.Replies.{Replies, no_replies}
use Rattle.protocol_laws.specs.Arming.{Arming, arming_of}
use Rattle.protocol_laws.specs.Keeping.{HoldsOks, Cores}

-- what changes of a stage
pub record Changed : Type 0 where
  pub view : ℕ
  pub leading : Leading
  pub stable : ℕ
  pub horizon : ℕ
  pub quiet : ℕ
  pub queries : ℕ
  pub waiting : List Batch
  pub arming : Arming

-- as the stage has it
abbrev pub unchanged : Stage → Changed
unchanged s =
    record {
      view = s.life.view;
      leading = s.life.leading;
      stable = s.stable;
      horizon = s.horizon;
      quiet = s.quiet;
      queries = s.queries;
      waiting = s.waiting;
      arming = arming_of s;
    }

-- the stage after the change
abbrev pub changed : Stage → Changed → Stage
changed s d =
    record s {
      life = record s.life { view = d.view; leading = d.leading };
      stable = d.stable;
      horizon = d.horizon;
      quiet = d.quiet;
      queries = d.queries;
      waiting = d.waiting;
      slots = d.arming.slots;
      armed_prepare = d.arming.prepare;
      armed_recovery = d.arming.recovery;
      armed_query = d.arming.query;
      armed_proposes = d.arming.proposes;
    }

-- a phase is not both Working and Recovering
pub not-both : (p : Phase) → is_working p ≡ true → is_recovering p ≡ true → ⊥
not-both Recovering w r = absurd cc
not-both Working w r = absurd cc

-- there is one place for each replica where no reply is held
pub none-length : (A : Type 0) (n : ℕ) → length (no_replies {A = A} n) ≡ n
none-length A zero = refl
none-length A (suc n) = ap suc (none-length A n)

-- at most what is at most a number
pub up-to : (a b c : ℕ) → a ≤ b → b ≤ c → a ≤ c
up-to a b c le up = omega arith

module _ (s : Stage) (c : Cores s) (d : Changed) where
  -- the cores after a change, with these promises
  abbrev pub with-change : (promises : Replies PrepareOk) → length promises ≡ s.config.n → ((first : ℕ) → d.leading ≡ Preparing first → HoldsOks (changed s d) promises)
      → (is_recovering s.life.phase ≡ true → d.leading ≡ No) → s.life.view ≤ d.view → Cores (changed s d)
  with-change promises places promised led up =
      record {
        within = c.within;
        log = c.log;
        promises = promises;
        answers = c.answers;
        kept = record { n = c.kept.n; base = c.kept.base; votes = c.kept.votes; known = c.kept.known; tallies = c.kept.tallies };
        promise_places = places;
        answer_places = c.answer_places;
        promised = promised;
        answered = λ r. let held = c.answered r in record { none = held.none; held = held.held };
        fit =
            record {
              sane = record { most = c.fit.sane.most; me = c.fit.sane.me; notes = c.fit.sane.notes };
              led = led;
              untaken = c.fit.untaken;
              below = λ t view m e. up-to view s.life.view d.view (c.fit.below t view m e) up;
              base = c.fit.base;
              newest = λ snapshot e. let is = c.fit.newest snapshot e in record { size = is.size; own = is.own };
              joiner = c.fit.joiner;
            };
      }

  -- a Working life has a new view or leads in another way: it holds no promise, and in phase 1 none was taken
  abbrev pub re-led : is_working s.life.phase ≡ true → s.life.view ≤ d.view → ((first : ℕ) → d.leading ≡ Preparing first → HoldsOks (changed s d) (no_replies s.config.n)) → Cores (changed s d)
  re-led works up promised = with-change (no_replies s.config.n) (none-length PrepareOk s.config.n) promised (λ r. absurd (not-both s.life.phase works r)) up

-- neither the view changes nor how it is led
abbrev pub same-led : (s : Stage) (c : Cores s) (stable horizon quiet queries : ℕ) (waiting : List Batch) (arming : Arming)
    → Cores (changed s (record (unchanged s) { stable = stable; horizon = horizon; quiet = quiet; queries = queries; waiting = waiting; arming = arming }))
same-led s c stable horizon quiet queries waiting arming =
    with-change s c (record (unchanged s) { stable = stable; horizon = horizon; quiet = quiet; queries = queries; waiting = waiting; arming = arming }) c.promises c.promise_places c.promised c.fit.led (le_refl _)

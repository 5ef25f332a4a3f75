-- A turn stays lawful by each of its words.
use Rattle.std.proofs.Common.{◌≡◌, ◌≢◌, ℕ, zero, suc, ◌⊎◌, Bool, true, false, List, [], ◌∷◌, ◌++◌, map, Option, Some, None, if◌then◌else◌, ◌==◌, refl, sym, ap, subst, ◌∙◌, inl, inr, append-nil, append_assoc, eqb}
use Rattle.std.proofs.lemmas.Bool.Decides.{eqb_tells}
use Rattle.jp_types.specs.declared.message.Message.{Message}
use Rattle.jp_types.specs.declared.mode.Phase.TheVariants.{Recovering}
use Rattle.jp_types.specs.declared.mode.Mode.{Mode}
use Rattle.jp_types.specs.declared.mode.Mode.TheVariants.{ViewSs, EpochSs}
use Rattle.paxos_world.specs.declared.step.Step.{Step}
use Rattle.jp_types.specs.Lists.{In}
use Rattle.paxos_world.specs.Setup.{Setup}
use Rattle.paxos_world.specs.Life.{LifeId, Life}
use Rattle.jp_types.specs.Instances.{Batch}
use Rattle.paxos_world.specs.World.{World, Sent, Deed, Take, Enter, Open, Promise, Prepared, Launch, Vote, Learn, Answer, Rejoin, Install, Execute, Restore, Say, Can, MaySay, id_of, life_after, stable_after, sends_of, to_others}
use Rattle.paxos_world.specs.Stage.{Config, setup_of, Stage, Act, Show, Send, Turned}
use Rattle.paxos_world.specs.Writing.{◌▹◌, when, when_some, for_each, for_range, with_stage, acts, does, shows, says, others_below, others, sends_to_all, says_to_all}
use Rattle.paxos_world.specs.Writing as Word
use Rattle.paxos_world.proofs.Basics.{with_at-cases, In-append}
use Rattle.turn_laws.proofs.Fitting.{Fits, executions, shown_by, Ahead, Frame, who_of, Goes, to_all}
use Rattle.jp_types.specs.Limits.{IsBatch}
use Rattle.turn_laws.proofs.Going.{keep-each, sent_by-append, handed_by-append, shown_by-append, stage_after, Follows, turned_to, goes-does}
use Rattle.turn_laws.specs.Nodes.{Onward, sent_by, handed_by, KeepsLimits}

-- ---- The stage and the acts change, and no step is made

-- the stage n, with the constants and the life of s
abbrev pub re : Stage → Stage → Stage
re s n = record n { config = s.config; life = s.life }

pub goes-re : (f : Frame) (clean : Bool) (ahead : Option ℕ) (owed left : List Sent) (t : Turned) (n : Stage) (did : List Act) (h : Goes f owed t)
    → Fits (setup_of t.stage.config) h.world t.stage.config.me clean (re t.stage n)
    → Ahead ahead t.stage.config.mode (h.world.replicas t.stage.config.me).stable n.stable
    → (ahead ≡ None → f.phase ≡ Recovering → t.stage.config.mode ≡ ViewSs → n.stable ≡ t.stage.life.mark)
    → h.world.sent ≡ (f.sent ++ sent_by (who_of f) did) ++ left → (handed_by did ≡ []) × (shown_by did ≡ [])
    → Goes (turned_to f f.taken f.phase clean ahead) left (record { stage = re t.stage n; acts = did; deeds = t.deeds })
goes-re f clean ahead owed left t n did h fits stable fresh sent handed =
    record {
      config = h.config;
      number = h.number;
      taken = h.taken;
      phase = h.phase;
      me = h.me;
      more = h.more;
      world = h.world;
      run = h.run;
      ends = h.ends;
      good = h.good;
      running = h.running;
      stable = stable;
      fresh = fresh;
      fits = fits;
      cast = h.cast;
      served = h.served;
      reads = h.reads;
      sane = h.sane;
      along = h.along;
      sent = sent;
      handed = handed;
      onward = h.onward;
    }

-- whether a stage fits depends only on these parts of it
pub fits-as : (c : Setup) (w : World) (r : ℕ) (clean : Bool) (s n : Stage) → Fits c w r clean s
    → Fits c w r clean (record n { life = s.life; base = s.base; waiting = s.waiting; noted = s.noted; newest = s.newest; joiner = s.joiner; slots = s.slots; armed_prepare = s.armed_prepare })
fits-as c w r clean s n h = assumption h

-- a turn stays lawful where its stage is another that fits
pub goes-stage : (f : Frame) (owed : List Sent) (t : Turned) (n : Stage) (h : Goes f owed t) → Fits (setup_of t.stage.config) h.world t.stage.config.me f.clean (re t.stage (record n { stable = t.stage.stable }))
    → Goes f owed (record t { stage = re t.stage (record n { stable = t.stage.stable }) })
goes-stage f owed t n h fits = goes-re f f.clean f.ahead owed owed t (record n { stable = t.stage.stable }) t.acts h fits h.stable h.fresh h.sent h.handed

-- a turn stays lawful where parts of its stage change of which nothing is asked
pub goes-freely : (f : Frame) (owed : List Sent) (t : Turned) (n : Stage) (h : Goes f owed t)
    → Goes f owed
    (record t { stage = record n { config = t.stage.config; life = t.stage.life; stable = t.stage.stable; base = t.stage.base; waiting = t.stage.waiting; noted = t.stage.noted; newest = t.stage.newest; joiner = t.stage.joiner; slots = t.stage.slots; armed_prepare = t.stage.armed_prepare } })
goes-freely f owed t n h =
    let s = t.stage in
    let m : Stage = record n { base = s.base; waiting = s.waiting; noted = s.noted; newest = s.newest; joiner = s.joiner; slots = s.slots; armed_prepare = s.armed_prepare } in
    goes-stage f owed t m h (fits-as (setup_of s.config) h.world s.config.me f.clean s (re s (record m { stable = s.stable })) h.fits)

-- a turn stays lawful where other batches wait, each within the limits
pub goes-waiting : (f : Frame) (owed : List Sent) (t : Turned) (batches : List Batch) (h : Goes f owed t) → ((batch : Batch) → In batch batches → IsBatch batch) → Goes f owed (with_stage (λ s. record s { waiting = batches }) t)
goes-waiting f owed t batches h are =
    let s = t.stage in
    let waiting : (batch : Batch) → In batch batches → IsBatch batch = are in
    let g = h.fits in
    let fits : Fits (setup_of s.config) h.world s.config.me f.clean (re s (record s { waiting = batches })) = assumption (waiting, g) in
    goes-stage f owed t (record s { waiting = batches }) h fits

-- ---- The acts alone

pub goes-show : (f : Frame) (owed : List Sent) (t : Turned) (step : Step) → executions step ≡ [] → Goes f owed t → Goes f owed (acts (Show step) t)
goes-show f owed t step none h =
    let e : sent_by (who_of f) (t.acts ++ Show step ∷ []) ≡ sent_by (who_of f) t.acts = sent_by-append (who_of f) t.acts (Show step ∷ []) ∙ append-nil _ in
    goes-re f f.clean f.ahead owed owed t t.stage (t.acts ++ Show step ∷ []) h h.fits h.stable h.fresh
    (h.sent ∙ sym (ap (λ (xs : List Sent). (f.sent ++ xs) ++ owed) e)) (
      handed_by-append t.acts (Show step ∷ []) ∙ append-nil _ ∙ h.handed.0,
      shown_by-append t.acts (Show step ∷ []) ∙ ap (λ (xs : List Step). shown_by t.acts ++ (xs ++ [])) none ∙ append-nil _ ∙ h.handed.1,
    )

pub goes-send : (f : Frame) (owed : List Sent) (t : Turned) (to : ℕ) (m : Message) (x : Sent) → x ≡ record { from = who_of f; to = to; message = m } → Goes f (x ∷ owed) t → Goes f owed (acts (Send to m) t)
goes-send f owed t to m x is h =
    let y : Sent = record { from = who_of f; to = to; message = m } in
    let e : sent_by (who_of f) (t.acts ++ Send to m ∷ []) ≡ sent_by (who_of f) t.acts ++ y ∷ [] = sent_by-append (who_of f) t.acts (Send to m ∷ []) in
    let xs = sent_by (who_of f) t.acts in
    let a : (f.sent ++ xs) ++ (x ∷ owed) ≡ (f.sent ++ (xs ++ y ∷ [])) ++ owed
    = ap (λ (z : Sent). (f.sent ++ xs) ++ (z ∷ owed)) is ∙ sym (append_assoc (f.sent ++ xs) (y ∷ []) owed) ∙ ap (λ (zs : List Sent). zs ++ owed) (append_assoc f.sent xs (y ∷ [])) in
    goes-re f f.clean f.ahead (x ∷ owed) owed t t.stage (t.acts ++ Send to m ∷ []) h h.fits h.stable h.fresh
    (h.sent ∙ a ∙ sym (ap (λ (zs : List Sent). (f.sent ++ zs) ++ owed) e)) (handed_by-append t.acts (Send to m ∷ []) ∙ append-nil _ ∙ h.handed.0, shown_by-append t.acts (Send to m ∷ []) ∙ append-nil _ ∙ h.handed.1)

pub goes-owed : (f : Frame) (owed left : List Sent) (t : Turned) → owed ≡ left → Goes f owed t → Goes f left t
goes-owed f owed left t e h = subst (λ (xs : List Sent). Goes f xs t) e h

-- ---- Steps that most parts of a life outlast

-- a step that takes no message, enters no view and does not rejoin
abbrev pub IsPlain : Deed → Type 0
IsPlain (Take from message) = ⊥
IsPlain (Enter view) = ⊥
IsPlain (Rejoin view) = ⊥
IsPlain _ = Unit {0}

plain-life : (c : Setup) (r : ℕ) (l : Life) (d : Deed) → IsPlain d → ((life_after c r l d).taken ≡ l.taken) × ((life_after c r l d).phase ≡ l.phase) × ((life_after c r l d).mark ≡ l.mark)
plain-life c r l (Take from message) p = absurd p
plain-life c r l (Enter view) p = absurd p
plain-life c r l (Rejoin view) p = absurd p
plain-life c r l (Open view first) p = (refl, refl, refl)
plain-life c r l (Promise view first mark low report) p = (refl, refl, refl)
plain-life c r l (Prepared view x) p = (refl, refl, refl)
plain-life c r l (Launch view i batch) p = (refl, refl, refl)
plain-life c r l (Vote view i batch) p = (refl, refl, refl)
plain-life c r l (Learn i batch) p = (refl, refl, refl)
plain-life c r l (Answer to view next mark) p = (refl, refl, refl)
plain-life c r l (Install upto state) p = (refl, refl, refl)
plain-life c r l (Execute i) p = (refl, refl, refl)
plain-life c r l (Restore upto state) p = (refl, refl, refl)
plain-life c r l (Say to message) p = (refl, refl, refl)

pub plain-stable : (mode : Mode) (number : Option ℕ) (d : Deed) → IsPlain d → stable_after mode number d ≡ number
plain-stable EpochSs number d p = refl
plain-stable ViewSs number (Take from message) p = refl
plain-stable ViewSs number (Enter view) p = absurd p
plain-stable ViewSs number (Rejoin view) p = absurd p
plain-stable ViewSs number (Open view first) p = refl
plain-stable ViewSs number (Promise view first mark low report) p = refl
plain-stable ViewSs number (Prepared view x) p = refl
plain-stable ViewSs number (Launch view i batch) p = refl
plain-stable ViewSs number (Vote view i batch) p = refl
plain-stable ViewSs number (Learn i batch) p = refl
plain-stable ViewSs number (Answer to view next mark) p = refl
plain-stable ViewSs number (Install upto state) p = refl
plain-stable ViewSs number (Execute i) p = refl
plain-stable ViewSs number (Restore upto state) p = refl
plain-stable ViewSs number (Say to message) p = refl

-- what is learned was not known
abbrev pub IsNew : Life → Deed → Type 0
IsNew l (Learn i batch) = l.known i ≡ None
IsNew l _ = Unit {0}

pub onward-refl : (l : Life) → Onward l l
onward-refl l = record { known = λ i batch e. e; states = λ x i. i; installed = λ x i. i }

pub onward-deed : (c : Setup) (r : ℕ) (l : Life) (d : Deed) → IsNew l d → Onward l (life_after c r l d)
onward-deed c r l (Learn i batch) new =
    record {
      known = λ j b e. with_at-cases (λ o. o ≡ Some b) l.known i (Some batch) j (λ same. absurd (let f : l.known j ≡ None = subst (λ k. l.known k ≡ None) (sym same) new in cc)) (λ ne. e);
      states = λ x i. i;
      installed = λ x i. i;
    }
onward-deed c r l (Install upto state) new = record { known = λ i batch e. e; states = λ x i. i; installed = λ x i. inr i }
onward-deed c r l (Execute i) new = record { known = λ i batch e. e; states = λ x i. inr i; installed = λ x i. i }
onward-deed c r l (Restore upto state) new = record { known = λ i batch e. e; states = λ x i. inr i; installed = λ x i. i }
onward-deed c r l (Take from message) new = record { known = λ i batch e. e; states = λ x i. i; installed = λ x i. i }
onward-deed c r l (Enter view) new = record { known = λ i batch e. e; states = λ x i. i; installed = λ x i. i }
onward-deed c r l (Rejoin view) new = record { known = λ i batch e. e; states = λ x i. i; installed = λ x i. i }
onward-deed c r l (Open view first) new = record { known = λ i batch e. e; states = λ x i. i; installed = λ x i. i }
onward-deed c r l (Promise view first mark low report) new = onward-refl l
onward-deed c r l (Prepared view x) new = record { known = λ i batch e. e; states = λ x i. i; installed = λ x i. i }
onward-deed c r l (Launch view i batch) new = record { known = λ i batch e. e; states = λ x i. i; installed = λ x i. i }
onward-deed c r l (Vote view i batch) new = record { known = λ i batch e. e; states = λ x i. i; installed = λ x i. i }
onward-deed c r l (Answer to view next mark) new = record { known = λ i batch e. e; states = λ x i. i; installed = λ x i. i }
onward-deed c r l (Say to message) new = onward-refl l

pub goes-plain : (f : Frame) (owed : List Sent) (t : Turned) (d : Deed) (h : Goes f owed t) → IsPlain d → IsNew t.stage.life d → KeepsLimits t.stage.life d
    → Can (setup_of t.stage.config) h.world t.stage.config.me t.stage.life d
    → Fits (setup_of t.stage.config) h.world t.stage.config.me f.clean (stage_after t.stage d)
    → Goes f (owed ++ sends_of (setup_of t.stage.config) t.stage.config.me t.stage.life d) (does d t)
goes-plain f owed t d h plain new valid can fits =
    let s = t.stage in
    let c = setup_of s.config in
    let same = plain-life c s.config.me s.life d plain in
    let n : Follows f f h.world s d = record {
      can = can;
      fits = fits;
      onward = onward-deed c s.config.me s.life d new;
      valid = valid;
      taken = same.0 ∙ h.taken;
      phase = same.1 ∙ h.phase;
      stable = λ number a. subst (λ (x : Option ℕ). Ahead f.ahead s.config.mode x s.stable) (sym (plain-stable s.config.mode number d plain)) a;
      fresh = λ a p m. h.fresh a p m ∙ sym same.2;
    } in
    goes-does f f.taken f.phase f.clean f.ahead owed t d h n

pub goes-shows : (f : Frame) (owed : List Sent) (t : Turned) (step : Step) (d : Deed) (h : Goes f owed t) → IsPlain d → IsNew t.stage.life d → KeepsLimits t.stage.life d
    → Can (setup_of t.stage.config) h.world t.stage.config.me t.stage.life d
    → Fits (setup_of t.stage.config) h.world t.stage.config.me f.clean (stage_after t.stage d) → executions step ≡ []
    → Goes f (owed ++ sends_of (setup_of t.stage.config) t.stage.config.me t.stage.life d) (shows step d t)
goes-shows f owed t step d h plain new valid can fits none = goes-show f _ (does d t) step none (goes-plain f owed t d h plain new valid can fits)

-- ---- Messages

-- the life whose turn it is, by its stage
pub who-is : (f : Frame) (owed : List Sent) (t : Turned) → Goes f owed t → id_of t.stage.config.me t.stage.life ≡ who_of f
who-is f owed t h = ap (λ (k : Config). record { replica = k.me; number = t.stage.life.number }) h.config ∙ ap (λ (n : ℕ). record { replica = f.config.me; number = n }) h.number

pub to_all-is : (f : Frame) (owed : List Sent) (t : Turned) (m : Message) → Goes f owed t → to_others t.stage.config.n t.stage.config.me (id_of t.stage.config.me t.stage.life) m ≡ to_all f m
to_all-is f owed t m h = ap (λ (x : LifeId). to_others t.stage.config.n t.stage.config.me x m) (who-is f owed t h) ∙ ap (λ (k : Config). to_others k.n k.me (who_of f) m) h.config

pub goes-says : (f : Frame) (t : Turned) (to : ℕ) (m : Message) (h : Goes f [] t) → to ≢ t.stage.config.me → MaySay (setup_of t.stage.config) t.stage.config.me t.stage.life m → Goes f [] (says to m t)
goes-says f t to m h ne may =
    let x : Sent = record { from = id_of t.stage.config.me t.stage.life; to = to; message = m } in
    let g : Goes f (x ∷ []) (does (Say to m) t) = goes-plain f [] t (Say to m) h tt tt tt (ne, may) h.fits in
    goes-send f [] (does (Say to m) t) to m x (ap (λ (i : LifeId). record { from = i; to = to; message = m }) (who-is f [] t h)) g

-- a replica is not among the others
pub other-ne : (k r q : ℕ) → In q (others_below k r) → q ≢ r
other-ne zero r q i same = absurd i
other-ne (suc k) r q i same =
    elim (In-append q (others_below k r) (if k == r then [] else k ∷ []) i) [
      | inl a ↦ other-ne k r q a same
      | inr b ↦ go (eqb_tells k r) b
    ]
  where
    last : k ≢ r → In q (k ∷ []) → ⊥
    last ne (inl e) = ne (sym e ∙ same)
    last ne (inr n) = n

    go : ((eqb k r ≡ true) × (k ≡ r)) ⊎ ((eqb k r ≡ false) × (k ≢ r)) → In q (if k == r then [] else k ∷ []) → ⊥
    go (inl h) j = absurd (subst (λ (b : Bool). In q (if b then [] else k ∷ [])) h.0 j)
    go (inr h) j = last h.1 (subst (λ (b : Bool). In q (if b then [] else k ∷ [])) h.0 j)

-- a message that the life may send with no step goes to each of these, and the stage stays as it is
pub goes-says-each : (f : Frame) (qs : List ℕ) (m : Message) (t : Turned) (h : Goes f [] t) → ((q : ℕ) → In q qs → q ≢ t.stage.config.me) → MaySay (setup_of t.stage.config) t.stage.config.me t.stage.life m
    → Goes f [] (for_each qs (λ q. says q m) t) × ((for_each qs (λ q. says q m) t).stage ≡ t.stage)
goes-says-each f qs m t h ne may =
    keep-each (λ u. Goes f [] u × (u.stage ≡ t.stage)) qs (λ q. says q m)
    (λ q i u k. (
      goes-says f u q m k.0 (λ e. ne q i (e ∙ ap (λ (s : Stage). s.config.me) k.1)) (subst (λ (s : Stage). MaySay (setup_of s.config) s.config.me s.life m) (sym k.1) may),
      k.1,
    )) t (h, refl)

pub goes-says-all : (f : Frame) (m : Message) (t : Turned) (h : Goes f [] t) → MaySay (setup_of t.stage.config) t.stage.config.me t.stage.life m
    → Goes f [] (says_to_all m t) × ((says_to_all m t).stage ≡ t.stage)
goes-says-all f m t h may = goes-says-each f (others t.stage.config) m t h (λ q i. other-ne t.stage.config.n t.stage.config.me q i) may

-- the message of a step goes to all others, and the stage stays as it is
addressed : (k r : ℕ) (from : LifeId) (m : Message) → to_others k r from m ≡ map (λ q. record { from = from; to = q; message = m }) (others_below k r)
addressed zero r from m = refl
addressed (suc k) r from m = go (addressed k r from m) (k == r) ∙ sym (joined (others_below k r) (if k == r then [] else k ∷ []))
  where
    mk : ℕ → Sent
    mk q = record { from = from; to = q; message = m }

    joined : (xs ys : List ℕ) → map mk (xs ++ ys) ≡ map mk xs ++ map mk ys
    joined [] ys = refl
    joined (x ∷ xs) ys = ap (λ zs. mk x ∷ zs) (joined xs ys)

    go : to_others k r from m ≡ map mk (others_below k r) → (b : Bool) → to_others k r from m ++ (if b then [] else mk k ∷ []) ≡ map mk (others_below k r) ++ map mk (if b then [] else k ∷ [])
    go e true = ap (λ (xs : List Sent). xs ++ []) e
    go e false = ap (λ (xs : List Sent). xs ++ mk k ∷ []) e

goes-sends-each : (f : Frame) (qs : List ℕ) (m : Message) (t : Turned) → Goes f (map (λ q. record { from = who_of f; to = q; message = m }) qs) t
    → Goes f [] (for_each qs (λ q. Word.sends q m) t) × ((for_each qs (λ q. Word.sends q m) t).stage ≡ t.stage)
goes-sends-each f [] m t h = (h, refl)
goes-sends-each f (q ∷ qs) m t h = goes-sends-each f qs m (Word.sends q m t) (goes-send f _ t q m _ refl h)

pub goes-sends-all : (f : Frame) (m : Message) (t : Turned) → Goes f (to_all f m) t → Goes f [] (sends_to_all m t) × ((sends_to_all m t).stage ≡ t.stage)
goes-sends-all f m t h =
    let e : to_all f m ≡ map (λ q. record { from = who_of f; to = q; message = m }) (others t.stage.config)
    = addressed f.config.n f.config.me (who_of f) m ∙ ap (λ (k : Config). map (λ q. record { from = who_of f; to = q; message = m }) (others k)) (sym h.config) in
    goes-sends-each f (others t.stage.config) m t (goes-owed f _ _ t e h)

-- The set of the other replicas, and a message that is armed for them.
use Rattle.std.proofs.Common.{◌≡◌, ◌<◌, ℕ, zero, suc, ◌≤◌, Bool, true, false, ◌&&◌, not, List, [], ◌∷◌, ◌++◌, length, nat_lt, ◌==◌, if◌then◌else◌, Option, inl, inr, refl, sym, ap, ◌∙◌, le_refl, subst, arith}
use Rattle.std.proofs.lemmas.Bool.Decides.{nat_tests}
use Rattle.jp_types.specs.declared.message.Message.{Message}
use Rattle.jp_types.specs.ReplicaSets.{is_member, no_members, with_member}
use Rattle.paxos_world.specs.Writing as writing
use Rattle.paxos_world.proofs.Basics.{lt_or_le}
use Rattle.protocol_core.specs.Others.{others_below}
use Rattle.core_laws.proofs.Lists.{set-at, set-length}
use Rattle.paxos_world.specs.Stage.{Slot, Armed, Stage}
use Rattle.paxos_world.specs.Stage as model
use Rattle.protocol_core.specs.declared.act.Topic.{Topic}
use Rattle.protocol_core.specs.declared.life.Life.{Life}
use Rattle.protocol_core.specs.Sending.{armed_for_all}
use Rattle.protocol_core.specs.Turned.{Turned}
use Rattle.protocol_laws.specs.Acting.{model_acts}
use Rattle.protocol_laws.specs.Arming.{Arming, arming_of, armed_for, armed_after, members_below}
use Rattle.protocol_laws.specs.Coming.{IsSendable, IsAddressed, IsRepeatable, HandsBelow}
use Rattle.protocol_laws.specs.Following.{Follows}
use Rattle.protocol_laws.specs.Keeping.{IsFit, KeepsLife}
use Rattle.protocol_laws.proofs.Steps.{append-nil, model_acts-append, armed_after-append, sends-both, hands-both}

no-member : (p : ℕ) → is_member no_members p ≡ false
no-member zero = refl
no-member (suc zero) = refl
no-member (suc (suc zero)) = refl
no-member (suc (suc (suc zero))) = refl
no-member (suc (suc (suc (suc zero)))) = refl
no-member (suc (suc (suc (suc (suc zero))))) = refl
no-member (suc (suc (suc (suc (suc (suc zero)))))) = refl
no-member (suc (suc (suc (suc (suc (suc (suc zero))))))) = refl
no-member (suc (suc (suc (suc (suc (suc (suc (suc zero)))))))) = refl
no-member (suc (suc (suc (suc (suc (suc (suc (suc (suc p))))))))) = refl

-- a set of the others has a place for each replica
others-length : (k me : ℕ) → length (others_below k me) ≡ 9
others-length zero me = refl
others-length (suc k) me = go (k == me) (others-length k me)
  where
    go : (b : Bool) → length (others_below k me) ≡ 9 → length (if b then others_below k me else with_member (others_below k me) k) ≡ 9
    go true e = e
    go false e = set-length (others_below k me) k true ∙ e

-- whether a replica is below k, and is another
below-more : (k me q : ℕ) → k ≡ me → (nat_lt q k && not (q == me)) ≡ (nat_lt q (suc k) && not (q == me))
below-more k me q e = go (q == me) refl
  where
    go : (b : Bool) → (q == me) ≡ b → (nat_lt q k && not (q == me)) ≡ (nat_lt q (suc k) && not (q == me))
    go true f = grind (arith, nat_tests)
    go false f = grind (arith, nat_tests)

below-other : (k me q : ℕ) → (k == me) ≡ false → (if q == k then true else (nat_lt q k && not (q == me))) ≡ (nat_lt q (suc k) && not (q == me))
below-other k me q e = go (q == k) refl
  where
    go : (b : Bool) → (q == k) ≡ b → (if q == k then true else (nat_lt q k && not (q == me))) ≡ (nat_lt q (suc k) && not (q == me))
    go true f = grind (arith, nat_tests)
    go false f = grind (arith, nat_tests)

-- a replica is in the set where it is below k and another
member-others : (k me q : ℕ) → k ≤ 9 → is_member (others_below k me) q ≡ (nat_lt q k && not (q == me))
member-others zero me q le = no-member q ∙ none
  where
    none : false ≡ (nat_lt q 0 && not (q == me))
    none = grind (arith, nat_tests)
member-others (suc k) me q le = go (k == me) refl (member-others k me q (omega arith))
  where
    set : List Bool
    set = others_below k me

    in-set : is_member (with_member set k) q ≡ (if q == k then true else is_member set q)
    in-set = let nine = others-length k me in set-at set false true k q (omega arith)

    go : (b : Bool) → (k == me) ≡ b → is_member set q ≡ (nat_lt q k && not (q == me)) → is_member (if b then set else with_member set k) q ≡ (nat_lt q (suc k) && not (q == me))
    go true e h = let same : k ≡ me = grind (arith, nat_tests) in h ∙ below-more k me q same
    go false e h = in-set ∙ ap (λ (x : Bool). if q == k then true else x) h ∙ below-other k me q e

-- no member from n on is told below j
members-above : (j n : ℕ) (set : List Bool) → n ≤ j → ((q : ℕ) → n ≤ q → is_member set q ≡ false) → members_below j set ≡ members_below n set
members-above zero n set le none = let same : n ≡ 0 = omega arith in ap (λ (k : ℕ). members_below k set) (sym same)
members-above (suc j) n set le none = elim (lt_or_le j n) [
  | inl lt ↦ (let same : n ≡ suc j = omega arith in ap (λ (k : ℕ). members_below k set) (sym same))
  | inr ge ↦ (
      let no = none j ge in
      let last : members_below (suc j) set ≡ members_below j set ++ [] = rw no refl in
      last ∙ append-nil (members_below j set) ∙ members-above j n set ge none)
]

-- the members below k, where those are the others
members-are : (k n me : ℕ) (set : List Bool) → k ≤ n → ((q : ℕ) → is_member set q ≡ (nat_lt q n && not (q == me))) → members_below k set ≡ writing.others_below k me
members-are zero n me set le h = refl
members-are (suc k) n me set le h =
    ap (λ (xs : List ℕ). xs ++ (if is_member set k then k ∷ [] else [])) (members-are k n me set (omega arith) h)
    ∙ ap (λ (xs : List ℕ). writing.others_below k me ++ xs) last
  where
    other : is_member set k ≡ not (k == me)
    other = h k ∙ below
      where
        below : (nat_lt k n && not (k == me)) ≡ not (k == me)
        below = grind (arith, nat_tests)

    by : (b : Bool) → (if not b then k ∷ [] else []) ≡ (if b then [] else k ∷ [])
    by true = refl
    by false = refl

    last : (if is_member set k then k ∷ [] else []) ≡ (if k == me then [] else k ∷ [])
    last = ap (λ (b : Bool). if b then k ∷ [] else []) other ∙ by (k == me)

-- the set of the others has the model's others for members
pub others-alike : (n me : ℕ) → n ≤ 9 → members_below 9 (others_below n me) ≡ writing.others_below n me
others-alike n me le = members-above 9 n (others_below n me) le above ∙ members-are n n me (others_below n me) (le_refl _) (λ q. member-others n me q le)
  where
    above : (q : ℕ) → n ≤ q → is_member (others_below n me) q ≡ false
    above q ge = member-others n me q le ∙ none
      where
        none : (nat_lt q n && not (q == me)) ≡ false
        none = grind (arith, nat_tests)

-- what is armed is not kept of a life
pub rearmed : (s : Stage) (slots : List Slot) (prepare recovery query : Option Armed) (proposes : List (ℕ × Armed)) (life : Life) → KeepsLife s life
    → KeepsLife (record s { slots = slots; armed_prepare = prepare; armed_recovery = recovery; armed_query = query; armed_proposes = proposes }) life
rearmed s slots prepare recovery query proposes life h =
    let c = h.cores in
    let fit : IsFit (record s { slots = slots; armed_prepare = prepare; armed_recovery = recovery; armed_query = query; armed_proposes = proposes })
    = record {
      sane = record { most = c.fit.sane.most; me = c.fit.sane.me; notes = c.fit.sane.notes };
      led = c.fit.led;
      untaken = c.fit.untaken;
      below = c.fit.below;
      base = c.fit.base;
      newest = λ snapshot e. let n = c.fit.newest snapshot e in record { size = n.size; own = n.own };
      joiner = c.fit.joiner;
    } in
    record {
      cores = record {
        within = c.within;
        log = c.log;
        promises = c.promises;
        answers = c.answers;
        kept = record { n = c.kept.n; base = c.kept.base; votes = c.kept.votes; known = c.kept.known; tallies = c.kept.tallies };
        promise_places = c.promise_places;
        answer_places = c.answer_places;
        promised = c.promised;
        answered = λ e. let a = c.answered e in record { none = a.none; held = a.held };
        fit = fit;
      };
      is = h.is;
    }

-- a member of a set of one replica is that one
pub member-one : (p q : ℕ) → p < 9 → is_member (with_member no_members p) q ≡ true → q ≡ p
member-one p q lt e = go (q == p) refl
  where
    set : is_member (with_member no_members p) q ≡ (if q == p then true else is_member no_members q)
    set = set-at no_members false true p q lt

    go : (b : Bool) → (q == p) ≡ b → q ≡ p
    go true f = grind (arith, nat_tests)
    go false f =
        let none = no-member q in
        let is : is_member (with_member no_members p) q ≡ is_member no_members q = set ∙ rw f refl in
        absurd cc

-- a message that may be sent is repeated to others
pub armed-fits : (c : model.Config) (m : Message) → c.n ≤ 9 → IsSendable c.mode m → IsRepeatable c (record { to = others_below c.n c.me; message = m })
armed-fits c m le may q e = both (member-others c.n c.me q le)
  where
    both : is_member (others_below c.n c.me) q ≡ (nat_lt q c.n && not (q == c.me)) → IsAddressed c q m
    both same = let f : (nat_lt q c.n && not (q == c.me)) ≡ true = sym same ∙ e in record { below = grind (arith, nat_tests); other = λ x. absurd (grind (arith, nat_tests)); may = may }

-- a message is armed for all others after what was done
pub and-armed : (t u v : model.Turned) (k : Turned) (h : Follows t u k) (topic : Topic) (m : Message) → v.stage.config ≡ u.stage.config → KeepsLife v.stage k.life → v.acts ≡ u.acts
    → arming_of v.stage ≡ armed_for topic (record { message = m; to = writing.others u.stage.config }) (arming_of u.stage)
    → v.stage.handed ≡ u.stage.handed → v.stage.life.service ≡ u.stage.life.service → IsSendable t.stage.config.mode m → Follows t v (record { life = k.life; acts = k.acts ++ armed_for_all u.stage.config.n u.stage.config.me topic m })
and-armed t u v k h topic m config keeps same arming handed service may =
    let n = u.stage.config.n in
    let me = u.stage.config.me in
    let last = armed_for_all n me topic m in
    let silent : model_acts (k.acts ++ last) ≡ model_acts k.acts = model_acts-append k.acts last ∙ append-nil (model_acts k.acts) in
    let all : members_below 9 (others_below n me) ≡ writing.others u.stage.config = others-alike n me h.keeps.cores.fit.sane.most in
    record {
      config = config ∙ h.config;
      keeps = keeps;
      acts = same ∙ h.acts ∙ ap (λ (xs : List model.Act). t.acts ++ xs) (sym silent);
      arming = arming ∙ ap (λ (a : Arming). armed_for topic (record { message = m; to = writing.others u.stage.config }) a) h.arming
          ∙ ap (λ (to : List ℕ). armed_for topic (record { message = m; to = to }) (armed_after (arming_of t.stage) k.acts)) (sym all)
          ∙ sym (armed_after-append (arming_of t.stage) k.acts last);
      sends = sends-both t.stage.config k.acts last h.sends (repeatable, tt);
      handed = (let a = h.handed in omega arith);
      hands = hands-both v.stage.handed k.acts last (subst (λ (place : ℕ). HandsBelow place k.acts) (sym handed) h.hands) tt;
      service = service ∙ h.service;
    }
  where
    repeatable : IsRepeatable t.stage.config (record { to = others_below u.stage.config.n u.stage.config.me; message = m })
    repeatable = subst (λ (c : model.Config). IsRepeatable t.stage.config (record { to = others_below c.n c.me; message = m })) (sym h.config) (armed-fits t.stage.config m most may)
      where
        most : t.stage.config.n ≤ 9
        most = subst (λ (c : model.Config). c.n ≤ 9) h.config h.keeps.cores.fit.sane.most

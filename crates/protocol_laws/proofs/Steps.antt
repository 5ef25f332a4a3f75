-- How what a life does is put together from smaller steps.
use Rattle.std.proofs.Common.{◌≡◌, ℕ, zero, suc, Bool, true, false, List, [], ◌∷◌, ◌++◌, ◌==◌, if◌then◌else◌, refl, sym, ap, subst, ◌≤◌, le_refl, le_trans, arith, ◌∙◌}
use Rattle.std.proofs.lemmas.Bool.Decides.{nat_tests}
use Rattle.jp_types.specs.declared.message.Message.{Message}
use Rattle.paxos_world.specs.Stage.{Config, Stage, Send}
use Rattle.paxos_world.specs.Stage as model
use Rattle.paxos_world.specs.Writing.{when, for_each, sends, says, others_below, sends_to_all, says_to_all}
use Rattle.protocol_core.specs.declared.act.Act.{Act}
use Rattle.protocol_core.specs.declared.life.Life.{Life}
use Rattle.protocol_core.specs.Sending.{to_all}
use Rattle.protocol_core.specs.Turned.{Turned, stay, followed_by}
use Rattle.protocol_laws.specs.Acting.{model_act, model_acts}
use Rattle.protocol_laws.specs.Arming.{Arming, arming_of, armed_by, armed_after}
use Rattle.protocol_laws.specs.Keeping.{Cores, life_in, KeepsLife}
use Rattle.protocol_laws.specs.Coming.{IsSendable, SendsFitly, HandsBelow}
use Rattle.protocol_laws.specs.Following.{Follows}

pub append-nil : {A : Type 0} (xs : List A) → xs ++ [] ≡ xs
append-nil [] = refl
append-nil (x ∷ xs) = ap (λ ys. x ∷ ys) (append-nil xs)

pub append-assoc : {A : Type 0} (xs ys zs : List A) → (xs ++ ys) ++ zs ≡ xs ++ (ys ++ zs)
append-assoc [] ys zs = refl
append-assoc (x ∷ xs) ys zs = ap (λ ws. x ∷ ws) (append-assoc xs ys zs)

pub model_acts-append : (xs ys : List Act) → model_acts (xs ++ ys) ≡ model_acts xs ++ model_acts ys
model_acts-append [] ys = refl
model_acts-append (x ∷ xs) ys = ap (λ zs. model_act x ++ zs) (model_acts-append xs ys) ∙ sym (append-assoc (model_act x) (model_acts xs) (model_acts ys))

pub armed_after-append : (a : Arming) (xs ys : List Act) → armed_after a (xs ++ ys) ≡ armed_after (armed_after a xs) ys
armed_after-append a [] ys = refl
armed_after-append a (x ∷ xs) ys = armed_after-append (armed_by a x) xs ys

-- ---- What acts send and hand on

-- acts that send fitly, and others that do
pub sends-both : (c : Config) (xs ys : List Act) → SendsFitly c xs → SendsFitly c ys → SendsFitly c (xs ++ ys)
sends-both c [] ys a b = b
sends-both c (Act.Step x ∷ xs) ys a b = sends-both c xs ys a b
sends-both c (Act.Send to m ∷ xs) ys a b = (a.0, sends-both c xs ys a.1 b)
sends-both c (Act.Hand x ∷ xs) ys a b = sends-both c xs ys a b
sends-both c (Act.Save x ∷ xs) ys a b = sends-both c xs ys a b
sends-both c (Act.Arm topic o ∷ xs) ys a b = (a.0, sends-both c xs ys a.1 b)
sends-both c (Act.Cancel x ∷ xs) ys a b = sends-both c xs ys a b
sends-both c (Act.CancelProposes ∷ xs) ys a b = sends-both c xs ys a b

-- acts whose decisions lie below a place, and others whose do
pub hands-both : (place : ℕ) (xs ys : List Act) → HandsBelow place xs → HandsBelow place ys → HandsBelow place (xs ++ ys)
hands-both place [] ys a b = b
hands-both place (Act.Step x ∷ xs) ys a b = hands-both place xs ys a b
hands-both place (Act.Send to m ∷ xs) ys a b = hands-both place xs ys a b
hands-both place (Act.Hand x ∷ xs) ys a b = (a.0, hands-both place xs ys a.1 b)
hands-both place (Act.Save x ∷ xs) ys a b = hands-both place xs ys a b
hands-both place (Act.Arm topic o ∷ xs) ys a b = hands-both place xs ys a b
hands-both place (Act.Cancel x ∷ xs) ys a b = hands-both place xs ys a b
hands-both place (Act.CancelProposes ∷ xs) ys a b = hands-both place xs ys a b

-- decisions that lie below a place lie below a higher one
pub hands-more : (low high : ℕ) (xs : List Act) → low ≤ high → HandsBelow low xs → HandsBelow high xs
hands-more low high [] le a = tt
hands-more low high (Act.Step x ∷ xs) le a = hands-more low high xs le a
hands-more low high (Act.Send to m ∷ xs) le a = hands-more low high xs le a
hands-more low high (Act.Hand x ∷ xs) le a = (le_trans a.0 le, hands-more low high xs le a.1)
hands-more low high (Act.Save x ∷ xs) le a = hands-more low high xs le a
hands-more low high (Act.Arm topic o ∷ xs) le a = hands-more low high xs le a
hands-more low high (Act.Cancel x ∷ xs) le a = hands-more low high xs le a
hands-more low high (Act.CancelProposes ∷ xs) le a = hands-more low high xs le a

-- ---- Nothing, one thing after another, and choices

-- nothing is done
pub stays : (t : model.Turned) (c : Cores t.stage) → Follows t t (stay (life_in t.stage c))
stays t c =
    record { config = refl; keeps = record { cores = c; is = refl }; acts = sym (append-nil t.acts); arming = refl; sends = tt; handed = le_refl _; hands = tt; service = refl }

-- the stage changes without an act, and the life with it
pub changes : (t u : model.Turned) (life : Life) → u.stage.config ≡ t.stage.config → KeepsLife u.stage life → u.acts ≡ t.acts → arming_of u.stage ≡ arming_of t.stage → u.stage.handed ≡ t.stage.handed
    → u.stage.life.service ≡ t.stage.life.service → Follows t u (stay life)
changes t u life config keeps same arming handed service =
    record { config = config; keeps = keeps; acts = same ∙ sym (append-nil t.acts); arming = arming; sends = tt; handed = up; hands = tt; service = service }
  where
    up : t.stage.handed ≤ u.stage.handed
    up = omega arith

-- one thing and then another
pub and-then : (t u v : model.Turned) (k : Turned) (f : Life → Turned) (h : Follows t u k) → Follows u v (f (life_in u.stage h.keeps.cores)) → Follows t v (followed_by k f)
and-then t u v k f h next = both (subst (λ (l : Life). Follows u v (f l)) (sym h.keeps.is) next)
  where
    both : Follows u v (f k.life) → Follows t v (followed_by k f)
    both n =
        record {
          config = n.config ∙ h.config;
          keeps = n.keeps;
          acts = n.acts ∙ ap (λ (xs : List model.Act). xs ++ model_acts (f k.life).acts) h.acts ∙ append-assoc t.acts (model_acts k.acts) (model_acts (f k.life).acts)
              ∙ ap (λ (xs : List model.Act). t.acts ++ xs) (sym (model_acts-append k.acts (f k.life).acts));
          arming = n.arming ∙ ap (λ (a : Arming). armed_after a (f k.life).acts) h.arming ∙ sym (armed_after-append (arming_of t.stage) k.acts (f k.life).acts);
          sends = sends-both t.stage.config k.acts (f k.life).acts h.sends (subst (λ (c : Config). SendsFitly c (f k.life).acts) h.config n.sends);
          handed = (let a = h.handed in let b = n.handed in omega arith);
          hands = hands-both v.stage.handed k.acts (f k.life).acts (hands-more u.stage.handed v.stage.handed k.acts n.handed h.hands) n.hands;
          service = n.service ∙ h.service;
        }

-- what is done where a test passes
pub chooses : (b : Bool) (f : model.Turned → model.Turned) (t : model.Turned) (done left : Turned) → (b ≡ true → Follows t (f t) done) → (b ≡ false → Follows t t left)
    → Follows t (when b f t) (if b then done else left)
chooses true f t done left y n = y refl
chooses false f t done left y n = n refl

-- the same, where the life's test is another, which tells the same
pub chooses-alike : (b d : Bool) (f : model.Turned → model.Turned) (t : model.Turned) (done left : Turned) → d ≡ b → (b ≡ true → Follows t (f t) done) → (b ≡ false → Follows t t left)
    → Follows t (when b f t) (if d then done else left)
chooses-alike b d f t done left e y n = subst (λ (x : Bool). Follows t (when b f t) (if x then done else left)) (sym e) (chooses b f t done left y n)

-- ---- Sends to all others

each-append : (xs ys : List ℕ) (f : ℕ → model.Turned → model.Turned) (t : model.Turned) → for_each (xs ++ ys) f t ≡ for_each ys f (for_each xs f t)
each-append [] ys f t = refl
each-append (x ∷ xs) ys f t = each-append xs ys f (f x t)

-- the model's sends of a message
abbrev pub sent_each : Message → List ℕ → List model.Act
sent_each m [] = []
sent_each m (q ∷ qs) = Send q m ∷ sent_each m qs

sent_each-append : (m : Message) (xs ys : List ℕ) → sent_each m (xs ++ ys) ≡ sent_each m xs ++ sent_each m ys
sent_each-append m [] ys = refl
sent_each-append m (x ∷ xs) ys = ap (λ zs. Send x m ∷ zs) (sent_each-append m xs ys)

pub says-stage : (qs : List ℕ) (m : Message) (t : model.Turned) → (for_each qs (λ q. says q m) t).stage ≡ t.stage
says-stage [] m t = refl
says-stage (q ∷ qs) m t = says-stage qs m (says q m t)

pub says-acts : (qs : List ℕ) (m : Message) (t : model.Turned) → (for_each qs (λ q. says q m) t).acts ≡ t.acts ++ sent_each m qs
says-acts [] m t = sym (append-nil t.acts)
says-acts (q ∷ qs) m t = says-acts qs m (says q m t) ∙ append-assoc t.acts (Send q m ∷ []) (sent_each m qs)

pub sends-stage : (qs : List ℕ) (m : Message) (t : model.Turned) → (for_each qs (λ q. sends q m) t).stage ≡ t.stage
sends-stage [] m t = refl
sends-stage (q ∷ qs) m t = sends-stage qs m (sends q m t)

pub sends-acts : (qs : List ℕ) (m : Message) (t : model.Turned) → (for_each qs (λ q. sends q m) t).acts ≡ t.acts ++ sent_each m qs
sends-acts [] m t = sym (append-nil t.acts)
sends-acts (q ∷ qs) m t = sends-acts qs m (sends q m t) ∙ append-assoc t.acts (Send q m ∷ []) (sent_each m qs)

-- a life's sends to all others are the model's
pub to_all-is : (k me : ℕ) (m : Message) → model_acts (to_all k me m) ≡ sent_each m (others_below k me)
to_all-is zero me m = refl
to_all-is (suc k) me m =
    model_acts-append (to_all k me m) (if k == me then [] else Act.Send k m ∷ [])
    ∙ ap (λ (xs : List model.Act). xs ++ model_acts (if k == me then [] else Act.Send k m ∷ [])) (to_all-is k me m)
    ∙ ap (λ (xs : List model.Act). sent_each m (others_below k me) ++ xs) (one (k == me))
    ∙ sym (sent_each-append m (others_below k me) (if k == me then [] else k ∷ []))
  where
    one : (b : Bool) → model_acts (if b then [] else Act.Send k m ∷ []) ≡ sent_each m (if b then [] else k ∷ [])
    one true = refl
    one false = refl

-- sends leave what is armed as it is
pub to_all-arms : (k me : ℕ) (m : Message) (a : Arming) → armed_after a (to_all k me m) ≡ a
to_all-arms zero me m a = refl
to_all-arms (suc k) me m a =
    armed_after-append a (to_all k me m) (if k == me then [] else Act.Send k m ∷ [])
    ∙ ap (λ (x : Arming). armed_after x (if k == me then [] else Act.Send k m ∷ [])) (to_all-arms k me m a)
    ∙ one (k == me)
  where
    one : (b : Bool) → armed_after a (if b then [] else Act.Send k m ∷ []) ≡ a
    one true = refl
    one false = refl

-- a message that may be sent goes to all others fitly
pub to_all-fits : (c : Config) (k : ℕ) (m : Message) → k ≤ c.n → IsSendable c.mode m → SendsFitly c (to_all k c.me m)
to_all-fits c zero m le may = tt
to_all-fits c (suc k) m le may =
    sends-both c (to_all k c.me m) (if k == c.me then [] else Act.Send k m ∷ []) (to_all-fits c k m (omega arith) may) (go (k == c.me) refl)
  where
    go : (b : Bool) → (k == c.me) ≡ b → SendsFitly c (if b then [] else Act.Send k m ∷ [])
    go true e = tt
    go false e = (record { below = omega arith; other = λ same. absurd (grind (arith, nat_tests)); may = may }, tt)

-- nothing is handed on by sends
pub to_all-hands : (place k me : ℕ) (m : Message) → HandsBelow place (to_all k me m)
to_all-hands place zero me m = tt
to_all-hands place (suc k) me m = hands-both place (to_all k me m) (if k == me then [] else Act.Send k m ∷ []) (to_all-hands place k me m) (go (k == me))
  where
    go : (b : Bool) → HandsBelow place (if b then [] else Act.Send k m ∷ [])
    go true = tt
    go false = tt

-- a message goes to all others, with no step of its own
pub said-to-all : (t : model.Turned) (c : Cores t.stage) (m : Message) → IsSendable t.stage.config.mode m
    → Follows t (says_to_all m t) (record { life = life_in t.stage c; acts = to_all t.stage.config.n t.stage.config.me m })
said-to-all t c m may =
    let qs = others_below t.stage.config.n t.stage.config.me in
    let same = says-stage qs m t in
    record {
      config = ap (λ (s : Stage). s.config) same;
      keeps = subst (λ (s : Stage). KeepsLife s (life_in t.stage c)) (sym same) (record { cores = c; is = refl });
      acts = says-acts qs m t ∙ ap (λ (xs : List model.Act). t.acts ++ xs) (sym (to_all-is t.stage.config.n t.stage.config.me m));
      arming = ap arming_of same ∙ sym (to_all-arms t.stage.config.n t.stage.config.me m (arming_of t.stage));
      sends = to_all-fits t.stage.config t.stage.config.n m (le_refl _) may;
      handed = (let e = ap (λ (s : Stage). s.handed) same in omega arith);
      hands = to_all-hands _ t.stage.config.n t.stage.config.me m;
      service = ap (λ (s : Stage). s.life.service) same;
    }

-- a message goes to all others, which the step before it sends
pub sent-to-all : (t : model.Turned) (c : Cores t.stage) (m : Message) → IsSendable t.stage.config.mode m
    → Follows t (sends_to_all m t) (record { life = life_in t.stage c; acts = to_all t.stage.config.n t.stage.config.me m })
sent-to-all t c m may =
    let qs = others_below t.stage.config.n t.stage.config.me in
    let same = sends-stage qs m t in
    record {
      config = ap (λ (s : Stage). s.config) same;
      keeps = subst (λ (s : Stage). KeepsLife s (life_in t.stage c)) (sym same) (record { cores = c; is = refl });
      acts = sends-acts qs m t ∙ ap (λ (xs : List model.Act). t.acts ++ xs) (sym (to_all-is t.stage.config.n t.stage.config.me m));
      arming = ap arming_of same ∙ sym (to_all-arms t.stage.config.n t.stage.config.me m (arming_of t.stage));
      sends = to_all-fits t.stage.config t.stage.config.n m (le_refl _) may;
      handed = (let e = ap (λ (s : Stage). s.handed) same in omega arith);
      hands = to_all-hands _ t.stage.config.n t.stage.config.me m;
      service = ap (λ (s : Stage). s.life.service) same;
    }

-- What acts show and send is what they do in the model.
use Rattle.std.proofs.Common.{◌≡◌, ◌∙◌, ℕ, suc, ◌<◌, List, [], ◌∷◌, map, inl, inr, refl, sym, ap, subst}
use Rattle.jp_types.specs.declared.message.Message.{Message}
use Rattle.jp_types.specs.Lists.{In}
use Rattle.paxos_world.specs.Life.{LifeId}
use Rattle.paxos_world.specs.Stage as model
use Rattle.paxos_world.specs.World as world
use Rattle.paxos_world.specs.declared.step.Step.{Step}
use Rattle.protocol_core.specs.declared.act.Act.{Act}
use Rattle.protocol_laws.specs.Acting.{model_acts}
use Rattle.protocol_laws.specs.Coming.{SendsFitly, IsAddressed, IsSendable}
use Rattle.replica_node.specs.Following.{leaving}
use Rattle.schedules.specs.Cluster.{steps_of, kind_of}
use Rattle.schedules.specs.Cluster as cluster
use Rattle.schedules.specs.declared.line.Head.{Head}
use Rattle.cluster.specs.Frames as frames
use Rattle.cluster.specs.Resembling.{sent_of, IsSentFitly}
use Rattle.cluster.specs.declared.sent.Sent.{Sent}
use Rattle.cluster.proofs.Goals.{ActsAlike}

-- ---- What acts show

-- the steps that are shown of acts are the model's
shown : (number : ℕ) (acts : List Act) → frames.shown_by number acts ≡ steps_of number (model_acts acts)
shown number [] = refl
shown number (Act.Step step ∷ acts) = ap (λ x. step ∷ x) (shown number acts)
shown number (Act.Send to message ∷ acts) = ap (λ x. Step.Send number to (kind_of message) ∷ x) (shown (suc number) acts)
shown number (Act.Hand decision ∷ acts) = shown number acts
shown number (Act.Save k ∷ acts) = shown number acts
shown number (Act.Arm topic outgoing ∷ acts) = shown number acts
shown number (Act.Cancel topic ∷ acts) = shown number acts
shown number (Act.CancelProposes ∷ acts) = shown number acts

-- the acts that leave a replica show what all of them show
shown-leaving : (number : ℕ) (did : List model.Act) → steps_of number (leaving did) ≡ steps_of number did
shown-leaving number [] = refl
shown-leaving number (model.Show step ∷ did) = ap (λ x. step ∷ x) (shown-leaving number did)
shown-leaving number (model.Send to m ∷ did) = ap (λ x. Step.Send number to (kind_of m) ∷ x) (shown-leaving (suc number) did)
shown-leaving number (model.Hand decision ∷ did) = shown-leaving number did
shown-leaving number (model.Save k ∷ did) = shown-leaving number did

-- ---- What acts send

-- the messages that acts send are the model's
sent : (id : LifeId) (acts : List Act) → frames.sent_by id.replica acts ≡ map sent_of (cluster.sent_by id (model_acts acts))
sent id [] = refl
sent id (Act.Step step ∷ acts) = sent id acts
sent id (Act.Send to message ∷ acts) = let m : Sent = record { from = id.replica; to = to; message = message } in ap (λ x. m ∷ x) (sent id acts)
sent id (Act.Hand decision ∷ acts) = sent id acts
sent id (Act.Save k ∷ acts) = sent id acts
sent id (Act.Arm topic outgoing ∷ acts) = sent id acts
sent id (Act.Cancel topic ∷ acts) = sent id acts
sent id (Act.CancelProposes ∷ acts) = sent id acts

-- the acts that leave a replica send what all of them send
sent-leaving : (id : LifeId) (did : List model.Act) → cluster.sent_by id (leaving did) ≡ cluster.sent_by id did
sent-leaving id [] = refl
sent-leaving id (model.Show step ∷ did) = sent-leaving id did
sent-leaving id (model.Send to m ∷ did) = let x : world.Sent = record { from = id; to = to; message = m } in ap (λ xs. x ∷ xs) (sent-leaving id did)
sent-leaving id (model.Hand decision ∷ did) = sent-leaving id did
sent-leaving id (model.Save k ∷ did) = sent-leaving id did

-- acts of which the same leave the replica as of the model's acts send the same
sent-same : (id : LifeId) (acts : List Act) (did : List model.Act) → model_acts acts ≡ leaving did → cluster.sent_by id (model_acts acts) ≡ cluster.sent_by id did
sent-same id acts did same = ap (cluster.sent_by id) same ∙ sent-leaving id did

module _ (c : model.Config) (head : Head) (id : LifeId) (n_is : c.n ≡ head.n) (mode_is : c.mode ≡ head.mode) (me_is : c.me ≡ id.replica) (below : id.replica < c.n) where
  -- a message that may be sent to a replica may be sent from this one
  sent-fit : (to : ℕ) (message : Message) → IsAddressed c to message → IsSentFitly head (record { from = id; to = to; message = message })
  sent-fit to message h =
      record {
        from = subst (λ (n : ℕ). id.replica < n) n_is below;
        other = λ e. h.other (sym (me_is ∙ e));
        may = subst (λ mode. IsSendable mode message) mode_is h.may;
      }

  -- the messages that acts send fitly may be sent from this replica
  sent-fitly : (acts : List Act) → SendsFitly c acts → (m : world.Sent) → In m (cluster.sent_by id (model_acts acts)) → IsSentFitly head m
  sent-fitly [] h m x = absurd x
  sent-fitly (Act.Step step ∷ acts) h m x = sent-fitly acts h m x
  sent-fitly (Act.Send to message ∷ acts) h m (inl e) = subst (IsSentFitly head) (sym e) (sent-fit to message h.0)
  sent-fitly (Act.Send to message ∷ acts) h m (inr x) = sent-fitly acts h.1 m x
  sent-fitly (Act.Hand decision ∷ acts) h m x = sent-fitly acts h m x
  sent-fitly (Act.Save k ∷ acts) h m x = sent-fitly acts h m x
  sent-fitly (Act.Arm topic outgoing ∷ acts) h m x = sent-fitly acts h.1 m x
  sent-fitly (Act.Cancel topic ∷ acts) h m x = sent-fitly acts h m x
  sent-fitly (Act.CancelProposes ∷ acts) h m x = sent-fitly acts h m x

-- what acts show and send is what they do in the model
pub acts-alike : ActsAlike
acts-alike =
    record {
      shown = λ number acts did same. shown number acts ∙ ap (steps_of number) same ∙ shown-leaving number did;
      sent = λ id acts did same. sent id acts ∙ ap (map sent_of) (sent-same id acts did same);
      fitly = λ c head id acts did same n_is mode_is me_is below fit m x. sent-fitly c head id n_is mode_is me_is below acts fit m (subst (In m) (sym (sent-same id acts did same)) x);
    }

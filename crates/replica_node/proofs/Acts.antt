-- What acts leave, send and hand on is what they do in the model.
use Rattle.std.proofs.Common.{◌≡◌, List, [], ◌∷◌, map, refl, ap, ◌∙◌, sym}
use Rattle.paxos_world.specs.Replica.{handed_by}
use Rattle.paxos_world.specs.Stage as model
use Rattle.protocol_core.specs.declared.act.Act.{Act}
use Rattle.protocol_laws.specs.Acting.{model_acts, model_decision}
use Rattle.protocol_laws.specs.Coming.{SendsFitly}
use Rattle.protocol_stage.specs.Performing.{outward}
use Rattle.replica_node.specs.Following.{leaving}
use Rattle.replica_node.specs.Taking.{kept_of, handed_of}

-- the decisions that acts hand on are the model's
pub handed : (acts : List Act) → map model_decision (handed_of acts) ≡ handed_by (model_acts acts)
handed [] = refl
handed (Act.Step step ∷ acts) = handed acts
handed (Act.Send to message ∷ acts) = handed acts
handed (Act.Hand decision ∷ acts) = ap (λ x. model_decision decision ∷ x) (handed acts)
handed (Act.Save k ∷ acts) = handed acts
handed (Act.Arm topic outgoing ∷ acts) = handed acts
handed (Act.Cancel topic ∷ acts) = handed acts
handed (Act.CancelProposes ∷ acts) = handed acts

-- the acts that a stage keeps are those that leave the replica in the model
pub kept-leaving : (acts : List Act) → model_acts (kept_of (outward acts)) ≡ leaving (model_acts acts)
kept-leaving [] = refl
kept-leaving (Act.Step step ∷ acts) = ap (λ x. model.Show step ∷ x) (kept-leaving acts)
kept-leaving (Act.Send to message ∷ acts) = ap (λ x. model.Send to message ∷ x) (kept-leaving acts)
kept-leaving (Act.Hand decision ∷ acts) = kept-leaving acts
kept-leaving (Act.Save k ∷ acts) = kept-leaving acts
kept-leaving (Act.Arm topic outgoing ∷ acts) = kept-leaving acts
kept-leaving (Act.Cancel topic ∷ acts) = kept-leaving acts
kept-leaving (Act.CancelProposes ∷ acts) = kept-leaving acts

-- where no decision is handed on, all acts that go out are kept
pub kept-all : (acts : List Act) → handed_of acts ≡ [] → kept_of (outward acts) ≡ outward acts
kept-all [] e = refl
kept-all (Act.Step step ∷ acts) e = ap (λ x. Act.Step step ∷ x) (kept-all acts e)
kept-all (Act.Send to message ∷ acts) e = ap (λ x. Act.Send to message ∷ x) (kept-all acts e)
kept-all (Act.Hand decision ∷ acts) e = absurd cc
kept-all (Act.Save k ∷ acts) e = kept-all acts e
kept-all (Act.Arm topic outgoing ∷ acts) e = kept-all acts e
kept-all (Act.Cancel topic ∷ acts) e = kept-all acts e
kept-all (Act.CancelProposes ∷ acts) e = kept-all acts e

-- so that these are the acts that leave the replica in the model
pub outward-leaving : (acts : List Act) → handed_of acts ≡ [] → model_acts (outward acts) ≡ leaving (model_acts acts)
outward-leaving acts none = ap model_acts (sym (kept-all acts none)) ∙ kept-leaving acts

-- what acts send fitly, those that are kept of them send fitly
pub kept-fit : (c : model.Config) (acts : List Act) → SendsFitly c acts → SendsFitly c (kept_of acts)
kept-fit c [] h = tt
kept-fit c (Act.Step step ∷ acts) h = kept-fit c acts h
kept-fit c (Act.Send to message ∷ acts) h = (h.0, kept-fit c acts h.1)
kept-fit c (Act.Hand decision ∷ acts) h = kept-fit c acts h
kept-fit c (Act.Save k ∷ acts) h = kept-fit c acts h
kept-fit c (Act.Arm topic outgoing ∷ acts) h = (h.0, kept-fit c acts h.1)
kept-fit c (Act.Cancel topic ∷ acts) h = kept-fit c acts h
kept-fit c (Act.CancelProposes ∷ acts) h = kept-fit c acts h

-- One thing and then another, as methods of a life do them.
use Rattle.std.proofs.Common.{◌≡◌, List, ◌++◌, ap, ◌∙◌, append_assoc}
use Rattle.protocol_core.specs.declared.act.Act.{Act}
use Rattle.protocol_core.specs.declared.life.Life.{Life}
use Rattle.protocol_core.specs.Turned.{Turned, followed_by, Does}

-- once t is done, what f does then is what is left of the two
pub left-then : (t : Turned) (f : Life → Turned) (before after : List Act) (new : Life) → Does t new before after → ((f new).life ≡ (followed_by t f).life) × (after ++ (f new).acts ≡ before ++ (followed_by t f).acts)
left-then t f before after new d =
    (ap (λ (life : Life). (f life).life) d.0, ap (λ (acts : List Act). acts ++ (f new).acts) d.1 ∙ append_assoc before t.acts (f new).acts ∙ ap (λ (life : Life). before ++ (t.acts ++ (f life).acts)) d.0)

-- a method that does t, and then one that does f
pub does-then : (t : Turned) (f : Life → Turned) (before middle after : List Act) (new newer : Life) → Does t new before middle → Does (f new) newer middle after → Does (followed_by t f) newer before after
does-then t f before middle after new newer d e = let left = left-then t f before middle new d in (e.0 ∙ left.0, e.1 ∙ left.1)

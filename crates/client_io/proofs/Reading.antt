-- What a reader gives of a piece.
use Rattle.std.proofs.Common.{◌≡◌, ◌≢◌, ℕ, Bool, List, [], ◌++◌, Option, Some, None, Result, Err, is_ok, length, refl, sym, ◌∙◌, ap, subst}
use Rattle.frame_fields.specs.declared.fault.FrameFault.{FrameFault}
use Rattle.frame_fields.specs.declared.fault.FrameFault.TheVariants as answer_kind
use Rattle.frame_stream.specs.Following.{HasFollowed, answer_of}
use Rattle.client_codec.specs.declared.frame.ClientFrame.{ClientFrame}
use Rattle.client_codec.specs.Frames.{client_rules}
use Rattle.client_io.specs.Hearing.{Feeds, IsSound, is_sound}
use Rattle.client_io.specs.Links.{FollowsClient, Progress}

sound_of : (fault : Option FrameFault) → is_ok (answer_of fault) ≡ is_sound fault
sound_of None = refl
sound_of (Some fault) = refl

-- a piece was fed, and the frames that came were put where none were
pub fed : (before after : Progress) (piece : List ℕ) (start out made : List ClientFrame) (answer : Result (Unit {0}) FrameFault) (sound : Bool)
    → start ≡ [] → made ≡ out → answer ≡ answer_of after.fault → IsSound answer sound
    → ((stream : List ℕ) (items : List ClientFrame) → FollowsClient stream items before → answer ≢ Err answer_kind.NoMemory → HasFollowed client_rules (stream ++ piece) items start out after)
    → Feeds before piece made after × (sound ≡ is_sound after.fault) × (length piece ≡ length piece)
fed before after piece start out made answer sound none is answered sounds follows = (record { follows = on }, sounds.1 ∙ ap is_ok answered ∙ sound_of after.fault, refl) where
  on : (stream : List ℕ) (items : List ClientFrame) → FollowsClient stream items before → FollowsClient (stream ++ piece) (items ++ made) after
  on stream items f =
      let h = follows stream items f sounds.0 in
      let more : h.0 ≡ made = sym (is ∙ h.1.0 ∙ ap (λ (xs : List ClientFrame). xs ++ h.0) none) in
      subst (λ (xs : List ClientFrame). FollowsClient (stream ++ piece) (items ++ xs) after) more h.1.1

-- What the answers of a peer say of its counts and of the links that it gives.
use Rattle.std.specs.Prelude.{◌≡◌, ℕ, List, [], Option, Some, None, Result, Ok, Err, IfSome}
use Rattle.links.specs.Receiving.{Rises}

-- a link as it is given: no count has risen, and nothing was sent
pub record IsFresh (faults quiets endings given : ℕ) (sent : Option (List ℕ)) : Type 0 where
  pub no_faults : faults ≡ 0
  pub no_quiets : quiets ≡ 0
  pub no_endings : endings ≡ 0
  pub none_given : given ≡ 0
  pub none_sent : IfSome sent (λ bytes. bytes ≡ [])

-- the count of accepts that found no link over an accept
abbrev pub CountsNone : {L E : Type 0} → ℕ → ℕ → Result (Option L) E → Type 0
CountsNone before now (Ok None) = Rises before now
CountsNone before now (Ok (Some link)) = now ≡ before
CountsNone before now (Err failed) = now ≡ before

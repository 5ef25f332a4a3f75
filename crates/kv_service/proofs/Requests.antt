-- What one request after others comes to, and what stays.
use Rattle.std.proofs.Common.{◌≡◌, ℕ, ◌+◌, ◌<◌, List, [], ◌∷◌, ◌++◌, length, get_or, take, refl, sym, ap, ◌∙◌}
use Rattle.std.proofs.lemmas.List.{take_more}
use Rattle.jp_types.specs.declared.command.Request.{Request}
use Rattle.kv_service.specs.declared.outcome.Kind.{Kind}
use Rattle.kv_service.specs.declared.outcome.Outcome.{Outcome}
use Rattle.kv_service.specs.declared.outcome.Kind.TheVariants.{First, Repeated, Passed}
use Rattle.kv_service.specs.Service.{State, kind_of, last_of, outcomes, take_by, take_request, take_requests}

-- the requests so far, and one more
pub take_requests-push : (s : State) (rs : List Request) (r : Request)
    → take_requests s (rs ++ r ∷ []) ≡ (let a = take_requests s rs in let b = take_request a.0 r in (b.0, a.1 ++ b.1 ∷ []))
take_requests-push s [] r = refl
take_requests-push s (q ∷ rs) r =
    let rest = take_requests-push (take_request s q).0 rs r in
    ap (λ p. (p.0, (take_request s q).1 ∷ p.1)) rest

-- no request counts as a batch
by_kind : (k : Kind) (s : State) (r : Request) → (take_by k s r).0.executed ≡ s.executed
by_kind First s r = refl
by_kind Repeated s r = refl
by_kind Passed s r = refl

pub executed-take_requests : (s : State) (rs : List Request) → (take_requests s rs).0.executed ≡ s.executed
executed-take_requests s [] = refl
executed-take_requests s (r ∷ rs) = executed-take_requests (take_request s r).0 rs ∙ by_kind (kind_of (last_of s r.client) r.number) s r

-- one request more in the loop over a batch
module _ (s now after : State) (rs : List Request) (i : ℕ) (r : Request) (inside : i < length rs) (at : r ≡ get_or rs i r) (so_far : now ≡ (take_requests s (take i rs)).0) where
  one_more : take_requests s (take (i + 1) rs) ≡ (let a = take_requests s (take i rs) in let b = take_request a.0 r in (b.0, a.1 ++ b.1 ∷ []))
  one_more = ap (take_requests s) (take_more rs i r inside ∙ ap (λ q. take i rs ++ q ∷ []) (sym at)) ∙ take_requests-push s (take i rs) r

  pub after_more : after ≡ (take_request now r).0 → after ≡ (take_requests s (take (i + 1) rs)).0
  after_more h = h ∙ ap (λ q. (take_request q r).0) so_far ∙ sym (ap (λ p. p.0) one_more)

  pub outcomes_more : (made next : List Outcome) (o : Outcome) → made ≡ outcomes s (take i rs) → o ≡ (take_request now r).1 → next ≡ made ++ o ∷ [] → next ≡ outcomes s (take (i + 1) rs)
  outcomes_more made next o told h n =
      let one : o ≡ (take_request (take_requests s (take i rs)).0 r).1 = h ∙ ap (λ q. (take_request q r).1) so_far in
      n ∙ (λ j. told j ++ one j ∷ []) ∙ sym (ap (λ p. p.1) one_more)

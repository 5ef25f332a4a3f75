-- Where a replica changes and sends messages, the others stay.
use Rattle.std.proofs.Common.{◌≡◌, ℕ, ◌++◌, map, slice_get, slice_set, Option, Some, None, refl, sym, ap, subst, ◌∙◌, inl, inr}
use Rattle.std.proofs.lemmas.List.{map-append}
use Rattle.jp_types.specs.Lists.{In}
use Rattle.paxos_world.specs.World as world
use Rattle.paxos_world.proofs.Basics.{In-append}
use Rattle.paxos_world.specs.Replica.{Running}
use Rattle.schedules.specs.Cluster.{Place, Cluster, config_of}
use Rattle.cluster.specs.Machine.{Machine}
use Rattle.cluster_laws.proofs.Beside.{set-cases, length-set}
use Rattle.cluster.specs.Resembling.{sent_of, IsSentFitly, IsPlace, IsPlaced}
use Rattle.cluster.proofs.Goals.{PlacesAlike}

-- what is placed in a cluster is placed in each of the same constants
pub placed-same : (c d : Cluster) (r : ℕ) (place : Place) (o : Option Running) → d.head ≡ c.head → IsPlaced c r place o → IsPlaced d r place o
placed-same c d r place None e h = tt
placed-same c d r place (Some a) e h = (h.0 ∙ ap (λ head. config_of head r) (sym e), h.1)

-- a replica changes and sends messages, and the machines are still the cluster
pub places-alike : PlacesAlike
places-alike c s r place place' m m' xs ys h at on is placed same fit =
    record {
      head = h.head;
      count = length-set c.places r place' ∙ h.count;
      machines = length-set s.machines r m' ∙ h.machines;
      places = alike;
      placed = stays;
      sent = sent;
      fitly = fitly;
    }
  where
    d : Cluster
    d = record c { places = slice_set c.places r place'; sent = c.sent ++ xs }

    alike : (q : ℕ) (p : Place) (n : Machine) → slice_get (slice_set c.places r place') q ≡ Some p → slice_get (slice_set s.machines r m') q ≡ Some n → IsPlace p n
    alike q p n e f =
        elim (set-cases c.places r q place' p e) [
          | inl a ↦ elim (set-cases s.machines r q m' n f) [
            | inl b ↦ subst (λ (z : Place). IsPlace z n) (sym a.1) (subst (λ (z : Machine). IsPlace place' z) (sym b.1) is)
            | inr b ↦ absurd (b.0 a.0)
          ]
          | inr a ↦ elim (set-cases s.machines r q m' n f) [
            | inl b ↦ absurd (a.0 b.0)
            | inr b ↦ h.places q p n a.1 b.1
          ]
        ]

    stays : (q : ℕ) (p : Place) → slice_get (slice_set c.places r place') q ≡ Some p → IsPlaced d q p p.running
    stays q p e =
        elim (set-cases c.places r q place' p e) [
          | inl a ↦ subst (λ (z : Place). IsPlaced d q z z.running) (sym a.1) (subst (λ (k : ℕ). IsPlaced d k place' place'.running) (sym a.0) (placed-same c d r place' place'.running refl placed))
          | inr a ↦ placed-same c d q p p.running refl (h.placed q p a.1)
        ]

    sent : s.sent ++ ys ≡ map sent_of (c.sent ++ xs)
    sent = ap (λ zs. zs ++ ys) h.sent ∙ ap (λ zs. map sent_of c.sent ++ zs) same ∙ sym (map-append sent_of c.sent xs)

    fitly : (x : world.Sent) → In x (c.sent ++ xs) → IsSentFitly c.head x
    fitly x i = elim (In-append x c.sent xs i) [ inl a ↦ h.fitly x a | inr b ↦ fit x b ]

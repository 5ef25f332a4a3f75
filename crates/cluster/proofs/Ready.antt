-- The clusters of a schedule's run are ready.
use Rattle.std.proofs.Common.{◌≡◌, ℕ, ◌≤◌, List, [], ◌∷◌, Some, slice_get, refl, sym, subst, inl}
use Rattle.paxos_world.specs.Replica.{Running}
use Rattle.paxos_world.specs.Serving.{serves}
use Rattle.jp_types.specs.Lists.{In}
use Rattle.paxos_world.specs.Stage.{Decision, Turned}
use Rattle.paxos_world.specs.Trace.{end_of}
use Rattle.paxos_world.specs.Turn.{untouched}
use Rattle.paxos_world.specs.World.{World, opening}
use Rattle.turn_laws.specs.Nodes.{DecisionComes}
use Rattle.turn_laws.proofs.Sitting.{Placed, Over, over-serves}
use Rattle.turn_laws.proofs.StateFitting.{states-read}
use Rattle.replica_node.specs.Following.{MayServe}
use Rattle.schedules.specs.Cluster.{Place, Cluster, config_of}
use Rattle.schedules.specs.declared.line.Head.{Head}
use Rattle.cluster_laws.specs.Laws.{steps_after}
use Rattle.cluster_laws.proofs.Beside.{setup_at, IsUp, Matches}
use Rattle.cluster.proofs.Fronts.{reached-by}
use Rattle.cluster.proofs.Goals.{AreReady, RunsReady}
use Rattle.cluster.proofs.Sizes.{small}

module _ (c : Cluster) (w : World) (h : Matches c w) (two : 2 ≤ c.head.n) (r : ℕ) (place : Place) (a : Running) (there : slice_get c.places r ≡ Some place) (up : IsUp (config_of c.head r) place.starts w a) where
  -- where the cluster matches a world, a replica may serve decisions that may come
  may-serve : (decisions : List Decision) → ((d : Decision) → In d decisions → DecisionComes a.stage.life d) → MayServe a decisions
  may-serve [] comes = tt
  may-serve (d ∷ more) comes = (comes d (inl refl), small t.stage.life.service (o.sane.lives t.stage.config.me t.stage.life o.sits.running).service)
    where
      t : Turned
      t = serves d (untouched a.stage)

      placed : Placed (config_of c.head r)
      placed = record { me = h.within r place there; more = two; reads = states-read }

      o : Over (config_of c.head r) place.starts w a.stage.life t
      o = over-serves (config_of c.head r) place.starts w a.stage d placed up.sits h.good h.sane (comes d (inl refl))

-- a cluster that matches a world is ready
matches-ready : (c : Cluster) (w : World) → Matches c w → 2 ≤ c.head.n → AreReady c
matches-ready c w h two r place a there running = let up = (h.places r place there).up a running in may-serve c w h two r place a there up a.decisions up.decisions

-- the clusters of a schedule's run are ready, after each line
pub runs-ready : RunsReady
runs-ready schedule is lines more e =
    let reached = reached-by schedule is lines more e in
    matches-ready _ (end_of (setup_at schedule.head) opening (steps_after schedule lines)) reached.matches (subst (λ (x : Head). 2 ≤ x.n) (sym reached.head_is) is.some)

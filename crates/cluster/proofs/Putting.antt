-- What is put in the lanes of a replica is put there in the model.
use Rattle.std.proofs.Common.{◌≡◌, ℕ, Bool, true, false, not, ◌||◌, [], ◌∷◌, ◌++◌, if◌then◌else◌, slice_get, Some, None, refl, sym, ap, ◌∙◌}
use Rattle.batcher.specs.declared.fed.Fed.{Fed}
use Rattle.paxos_world.specs.Batching as batching
use Rattle.paxos_world.specs.Replica.{Running, is_full}
use Rattle.paxos_world.specs.Stage.{Tick}
use Rattle.paxos_world.specs.Stage as model
use Rattle.protocol_laws.specs.Acting.{item_of}
use Rattle.protocol_laws.specs.Coming.{Comes}
use Rattle.replica_node.specs.Lanes.{is_full_at}
use Rattle.replica_node.specs.Resembling.{fed_of, Resembles}
use Rattle.replica_node.specs.Whole.{Whole}
use Rattle.replica_node.specs.declared.stage.LaneItem.{LaneItem}
use Rattle.replica_node.specs.declared.stage.Stage.TheVariants as stage
use Rattle.replica_node.proofs.Goals.{PutsFollow}
use Rattle.schedules.specs.Cluster.{Place, Cluster, with_running}
use Rattle.schedules.specs.Run as run
use Rattle.schedules.specs.declared.line.Word.{Word}
use Rattle.cluster.specs.Machine.{Machine}
use Rattle.cluster.specs.Machines.{with_lane_item, with_tick}
use Rattle.cluster.specs.Resembling.{IsPlace, IsCluster, Alike}
use Rattle.cluster.specs.Stepping.{Stepping}
use Rattle.cluster.specs.Stepping as stepping
use Rattle.cluster.proofs.Going.{resembles-at, placed-at, refused-alike, still-alike, quietly-alike}

module _ (c : Cluster) (s : Stepping) (r : ℕ) (place : Place) (m : Machine) (a : Running) (w : Whole) (h : IsCluster c s) (at : slice_get c.places r ≡ Some place) (on : slice_get s.machines r ≡ Some m) (up : place.running ≡ Some a) (runs : m.running ≡ Some w) where
  -- what is up is that of the model
  old : Resembles a w
  old = resembles-at c s r place m a w h at on up runs

  -- where a lane is full both refuse what is put in it, and else both replicas change
  puts-alike : (kept b : Running) (v : Whole) (x y : Bool) → b.stage ≡ a.stage → not x ≡ not y → Resembles (if y then kept else b) v
      → Alike (if y then run.refused Word.Full c else run.quietly c r place b) (if x then stepping.refused Word.Full s else stepping.quietly s r (record m { running = Some v }))
  puts-alike kept b v true true same e alike = refused-alike c s Word.Full h
  puts-alike kept b v true false same e alike = absurd cc
  puts-alike kept b v false true same e alike = absurd cc
  puts-alike kept b v false false same e alike = quietly-alike c s r place m h at on b (record m { running = Some v }) is (ap (λ (z : model.Stage). z.config) same ∙ (placed-at c s r place a h at up).0)
    where
      is : IsPlace (with_running b place) (record m { running = Some v })
      is = record { stored = (h.places r place m at on).stored ∙ (placed-at c s r place a h at up).1 ∙ sym (ap (λ (z : model.Stage). Some z.stable) same); running = alike }

  -- a life ends
  pub crash-alike : Alike (run.on_crash c r place a) (stepping.crashes s r m w)
  crash-alike =
      record {
        word = refl;
        steps = refl;
        after = still-alike c s r place m h at on (record place { running = None }) (record m { running = None }) (record { stored = (h.places r place m at on).stored; running = tt }) tt;
      }

  module _ (puts : PutsFollow) where
    -- a request is put in the request lane
    pub request-alike : (fed : batching.Fed) → Alike (run.puts_request fed c r place a) (stepping.puts stage.Batch (LaneItem.Fed (fed_of fed)) s r m w)
    request-alike fed =
        let new = record a { requests = a.requests ++ fed ∷ [] } in
        let put = puts a stage.Batch (LaneItem.Fed (fed_of fed)) w old fed refl in
        puts-alike a new (with_lane_item stage.Batch (LaneItem.Fed (fed_of fed)) w) (is_full_at w.stages stage.Batch) (is_full a.requests) refl put.0 put.1

    -- an item that may come is put in the dispatcher lane
    pub item-alike : (item : model.Item) → Comes a.stage item → Alike (run.puts_item item c r place a) (stepping.puts stage.Protocol (LaneItem.Item (item_of item)) s r m w)
    item-alike item comes =
        let new = record a { dispatcher = a.dispatcher ++ item ∷ [] } in
        let put = puts a stage.Protocol (LaneItem.Item (item_of item)) w old item refl comes in
        puts-alike a new (with_lane_item stage.Protocol (LaneItem.Item (item_of item)) w) (is_full_at w.stages stage.Protocol) (is_full a.dispatcher) refl put.0 put.1

    -- a tick is put in both lanes
    pub tick-alike : Alike (run.puts_tick c r place a) (stepping.ticks s r m w)
    tick-alike = let put = puts a stage.Batch (LaneItem.Fed Fed.Tick) w old batching.Tick refl in go (is_full_at w.stages stage.Batch) (is_full a.requests) put.0 put.1
      where
        one : Running
        one = record a { requests = a.requests ++ batching.Tick ∷ [] }

        both : Running
        both = record a { requests = a.requests ++ batching.Tick ∷ []; dispatcher = a.dispatcher ++ Tick ∷ [] }

        go : (x y : Bool) → not x ≡ not y → Resembles (if y then a else one) (with_lane_item stage.Batch (LaneItem.Fed Fed.Tick) w)
            → Alike (if y || is_full a.dispatcher then run.refused Word.Full c else run.quietly c r place both)
            (if x || is_full_at w.stages stage.Protocol then stepping.refused Word.Full s else stepping.quietly s r (record m { running = Some (with_tick w) }))
        go true true e alike = refused-alike c s Word.Full h
        go true false e alike = absurd cc
        go false true e alike = absurd cc
        go false false e alike =
            let put = puts one stage.Protocol (LaneItem.Item (item_of Tick)) (with_lane_item stage.Batch (LaneItem.Fed Fed.Tick) w) alike Tick refl tt in
            puts-alike one both (with_tick w) (is_full_at w.stages stage.Protocol) (is_full a.dispatcher) refl put.0 put.1

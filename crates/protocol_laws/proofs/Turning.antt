-- A turn goes as the model's, where each of its parts does.
use Rattle.std.proofs.Common.{◌≡◌, ◌≢◌, ℕ, ◌<◌, None, refl, sym, subst, ◌∙◌}
use Rattle.jp_types.specs.declared.message.Message.{Message}
use Rattle.paxos_world.specs.Life.{LifeId, preparing_in}
use Rattle.paxos_world.specs.Counting.{own_ok, own_answer}
use Rattle.paxos_world.specs.World.{Deed}
use Rattle.paxos_world.specs.Stage.{Stage, Item, Came, Closed, Tick, Suspect, Snapped}
use Rattle.paxos_world.specs.Stage as model
use Rattle.paxos_world.specs.Writing.{does}
use Rattle.paxos_world.specs.Messages as messages
use Rattle.paxos_world.specs.Settling as settling
use Rattle.paxos_world.specs.Turn as model_turn
use Rattle.protocol_core.specs.declared.life.Life.{Life}
use Rattle.protocol_core.specs.Messages as kinds
use Rattle.protocol_core.specs.Settling as settles
use Rattle.protocol_core.specs.Turning.{turn}
use Rattle.protocol_core.specs.Turning as turning
use Rattle.protocol_core.specs.Turned.{stay, followed_by}
use Rattle.protocol_laws.specs.Acting.{item_of}
use Rattle.protocol_laws.specs.Coming.{IsSendable, Comes}
use Rattle.protocol_laws.specs.Following.{Follows}
use Rattle.protocol_laws.specs.Keeping.{Cores, life_in}
use Rattle.protocol_laws.specs.Laws.{TurnsAlike}
use Rattle.protocol_laws.proofs.Goes.{Goes, GoesTake, GoesHear, GoesPrepare, GoesPrepareOk, GoesPropose, GoesAccept, GoesRecovery, GoesAnswer, GoesQuery, GoesBatches, GoesPart, GoesAlive, GoesTick, GoesBatch, GoesSuspect, GoesSnapshot, GoesRejoin, GoesPrepared, GoesWaiting, GoesHanding, IsOther, hears}
use Rattle.protocol_laws.proofs.Steps.{and-then}

-- each part of a turn goes as the model's
pub record Parts : Type 0 where
  pub take : GoesTake
  pub hear : GoesHear
  pub prepare : GoesPrepare
  pub prepare_ok : GoesPrepareOk
  pub propose : GoesPropose
  pub accept : GoesAccept
  pub recovery : GoesRecovery
  pub answer : GoesAnswer
  pub query : GoesQuery
  pub batches : GoesBatches
  pub part : GoesPart
  pub alive : GoesAlive
  pub tick : GoesTick
  pub batch : GoesBatch
  pub suspect : GoesSuspect
  pub snapshot : GoesSnapshot
  pub rejoin : GoesRejoin
  pub prepared : GoesPrepared
  pub waiting : GoesWaiting
  pub handing : GoesHanding

module _ (parts : Parts) where
  -- what a kind of message asks for, at a stage with these constants
  abbrev GoesKind : LifeId → Message → model.Turned → Type 0
  GoesKind from m t =
      (u : model.Turned) (d : Cores u.stage) → u.stage.config ≡ t.stage.config → Follows u (messages.on_kind from.replica m u) (kinds.on_kind (life_in u.stage d) from.replica m)

  -- a message that is no own reply: it is taken, its replica may be heard as the leader, and what its kind asks for is done
  heard-then : (from : LifeId) (m : Message) (t : model.Turned) (c : Cores t.stage) → own_ok t.stage.life.mark (preparing_in t.stage.life.leading t.stage.life.view) m ≡ None → own_answer t.stage.life.mark t.stage.life.phase m ≡ None
      → GoesKind from m t → Follows t (messages.on_message from m t) (kinds.on_message (life_in t.stage c) from.replica m)
  heard-then from m t c ok answer kind =
      let p = from.replica in
      let t1 = does (Deed.Take from m) t in
      let t2 = hears p t1 in
      let h1 = parts.take from m t c (ok, answer) in
      let h2 = parts.hear p t1 h1.keeps.cores in
      let h3 = kind t2 h2.keeps.cores (h2.config ∙ h1.config) in
      let rest = and-then t1 t2 (messages.on_kind p m t2) (stay (kinds.heard (life_in t1.stage h1.keeps.cores) p)) (λ (l : Life). kinds.on_kind l p m) h2 h3 in
      and-then t t1 (messages.on_kind p m t2) (stay (life_in t.stage c)) (λ (l : Life). kinds.on_message l p m) h1 rest

  -- it is another replica at a stage with the same constants too
  is-other : (from : LifeId) (t u : model.Turned) → from.replica < t.stage.config.n → from.replica ≢ t.stage.config.me → u.stage.config ≡ t.stage.config → IsOther from.replica u.stage
  is-other from t u lt ne e = subst (λ (k : model.Config). (from.replica < k.n) × (from.replica ≢ k.me)) (sym e) (lt, ne)

  -- a message of another replica
  goes-message : (from : LifeId) (m : Message) (t : model.Turned) (c : Cores t.stage) → from.replica < t.stage.config.n → from.replica ≢ t.stage.config.me → IsSendable t.stage.config.mode m
      → Follows t (messages.on_message from m t) (kinds.on_message (life_in t.stage c) from.replica m)
  goes-message from (Message.Prepare m) t c lt ne may = heard-then from (Message.Prepare m) t c refl refl (λ u d e. parts.prepare from.replica m u d (is-other from t u lt ne e))
  goes-message from (Message.PrepareOk m) t c lt ne may = parts.prepare_ok from m t c (lt, ne, may)
  goes-message from (Message.Propose m) t c lt ne may =
      heard-then from (Message.Propose m) t c refl refl (λ u d e. parts.propose from.replica m u d (subst (λ (k : model.Config). from.replica < k.n) (sym e) lt, may))
  goes-message from (Message.Accept m) t c lt ne may =
      heard-then from (Message.Accept m) t c refl refl (λ u d e. parts.accept from.replica m u d (subst (λ (k : model.Config). from.replica < k.n) (sym e) lt, may))
  goes-message from (Message.Recovery m) t c lt ne may =
      heard-then from (Message.Recovery m) t c refl refl (λ u d e. parts.recovery from.replica m.mark u d (is-other from t u lt ne e))
  goes-message from (Message.RecoveryAnswer m) t c lt ne may = parts.answer from m t c (lt, ne, may)
  goes-message from (Message.CatchUpQuery m) t c lt ne may = heard-then from (Message.CatchUpQuery m) t c refl refl (λ u d e. parts.query from.replica m.first u d (is-other from t u lt ne e))
  goes-message from (Message.CatchUpReply m) t c lt ne may = heard-then from (Message.CatchUpReply m) t c refl refl (λ u d e. parts.batches m.first m.batches u d)
  goes-message from (Message.SnapshotPart m) t c lt ne may = heard-then from (Message.SnapshotPart m) t c refl refl (λ u d e. parts.part m u d may)
  goes-message from (Message.Alive m) t c lt ne may = heard-then from (Message.Alive m) t c refl refl (λ u d e. parts.alive from.replica m u d)

  -- what is done with an item
  goes-item : (item : Item) (t : model.Turned) (c : Cores t.stage) → Comes t.stage item → Follows t (model_turn.on_item item t) (turning.on_item (life_in t.stage c) (item_of item))
  goes-item (Came from m) t c may = goes-message from m t c may.0 may.1 may.2
  goes-item (Closed batch) t c may = parts.batch batch t c
  goes-item Tick t c may = parts.tick t c
  goes-item Suspect t c may = parts.suspect t c
  goes-item (Snapped upto bytes) t c may = parts.snapshot upto bytes t c may

  -- settling
  goes-settled : (room : ℕ) → Goes (settling.settles room) (λ l. settles.settled l room)
  goes-settled room t c =
      let t1 = settling.settles_rejoin t in
      let t2 = settling.settles_prepared t1 in
      let t3 = settling.settles_waiting t2 in
      let t4 = settling.hands_on room t3 in
      let h1 = parts.rejoin t c in
      let h2 = parts.prepared t1 h1.keeps.cores in
      let h3 = parts.waiting t2 h2.keeps.cores in
      let h4 = parts.handing room t3 h3.keeps.cores in
      let last = and-then t2 t3 t4 (settles.settled_waiting (life_in t2.stage h2.keeps.cores)) (settles.settled_handing room) h3 h4 in
      let next = and-then t1 t2 t4 (settles.settled_prepared (life_in t1.stage h1.keeps.cores)) (λ (l : Life). followed_by (settles.settled_waiting l) (settles.settled_handing room)) h2 last in
      and-then t t1 t4 (settles.settled_rejoin (life_in t.stage c))
      (λ (l : Life). followed_by (settles.settled_prepared l) (λ (k : Life). followed_by (settles.settled_waiting k) (settles.settled_handing room))) h1 next

  -- a turn
  goes-turn : (s : Stage) (c : Cores s) (item : Item) (room : ℕ) → Comes s item → Follows (model_turn.untouched s) (model_turn.turn s item room) (turn (life_in s c) (item_of item) room)
  unfolding model_turn.turn
  goes-turn s c item room may =
      let t = model_turn.untouched s in
      let t1 = model_turn.on_item item t in
      let h1 = goes-item item t c may in
      let h2 = goes-settled room t1 h1.keeps.cores in
      and-then t t1 (settling.settles room t1) (turning.on_item (life_in s c) (item_of item)) (λ (l : Life). settles.settled l room) h1 h2

  pub turns_alike : TurnsAlike
  turns_alike s life item room keeps may =
      subst (λ (l : Life). Follows (model_turn.untouched s) (model_turn.turn s item room) (turn l (item_of item) room)) (sym keeps.is) (goes-turn s keeps.cores item room may)

-- A turn enters, promises and answers exactly what its item makes it.
use Rattle.std.proofs.Common.{◌≡◌, ℕ, suc, Bool, true, false, ◌&&◌, List, [], ◌∷◌, ◌++◌, nat_le, nat_lt, ◌==◌, Option, Some, None, is_some, length, if◌then◌else◌, refl, sym, ap, ◌∙◌, append-nil}
use Rattle.std.specs.Option.{unwrap_or}
use Rattle.jp_types.specs.declared.message.Message.{Message}
use Rattle.jp_types.specs.Views.{leader}
use Rattle.paxos_world.specs.declared.step.Step.{Step}
use Rattle.paxos_world.specs.Life.{LifeId, Taken, next_of}
use Rattle.paxos_world.specs.Counting.{is_recovering}
use Rattle.paxos_world.specs.World.{Deed}
use Rattle.paxos_world.specs.Stage.{Stage, Item, Came, Closed, Tick, Suspect, Snapped, Turned}
use Rattle.paxos_world.specs.Writing.{when, when_some, with_stage, does}
use Rattle.paxos_world.specs.Logs.{first_undecided}
use Rattle.paxos_world.specs.Leading.{works, leads, is_leading}
use Rattle.paxos_world.specs.Learning.{horizon_to, notes}
use Rattle.paxos_world.specs.CatchingUp.{place_of}
use Rattle.paxos_world.specs.Messages.{prepares, on_kind, on_message}
use Rattle.paxos_world.specs.Turn.{waiting_limit, on_item, untouched, turn}
use Rattle.step_laws.specs.Kinds.{shown_where, is_enter, is_promise, is_answer}
use Rattle.step_laws.specs.Laws.{EntersExactly, PromisesExactly, AnswersExactly}
use Rattle.step_laws.specs.Views.{entered_view, enters, own_promise, asked_promise, recovery_answer}
use Rattle.step_laws.proofs.Viewing.{picks, quiet-when, quiet-some, Narrow, quiet-learn_check, quiet-on_query, quiet-on_batches, quiet-on_part, quiet-settles}
use Rattle.step_laws.proofs.Raising.{entering_of, picks-append, suspected}
use Rattle.step_laws.proofs.Asked.{prepare-shows, recovery-shows, alive-shows, propose-shows, none-entered, tick-shows}

-- the steps of entering, promising and answering that an item makes a turn show
abbrev pub asked_steps : Stage → Item → List Step
asked_steps s item = entering_of s.config.n s.config.me (entered_view s item) ++ (asked_promise s item ++ recovery_answer s item)

-- ---- What an item shows

module _ (P : Step → Bool) (narrow : Narrow P) where
  -- nothing is shown where no view is entered and nothing is promised or answered
  pub none-shown : (s : Stage) → [] ≡ picks P (entering_of s.config.n s.config.me (if works s then None else None) ++ [])
  none-shown s = none-entered P s.config.n s.config.me (works s) [] ∙ ap (λ (zs : List Step). picks P zs) (sym (append-nil (entering_of s.config.n s.config.me (if works s then None else None))))

  -- what a message shows, to a stage that just took it
  pub kind-shows : (s : Stage) (taken : List Taken) (quiet : ℕ) (deeds : List Deed) (from : LifeId) (m : Message)
      → shown_where P (on_kind from.replica m (record { stage = record s { life = record s.life { taken = taken }; quiet = quiet }; acts = []; deeds = deeds })).acts ≡ picks P (asked_steps s (Came from m))
  kind-shows s taken quiet deeds from (Message.Prepare m) =
      let t : Turned = record { stage = record s { life = record s.life { taken = taken }; quiet = quiet }; acts = []; deeds = deeds } in
      let view = entered_view s (Came from (Message.Prepare m)) in
      prepare-shows P from.replica m t
      ∙ ap (λ (zs : List Step). picks P (entering_of s.config.n s.config.me view ++ zs)) (sym (append-nil (asked_promise s (Came from (Message.Prepare m)))))
  kind-shows s taken quiet deeds from (Message.PrepareOk m) =
      let t : Turned = record { stage = record s { life = record s.life { taken = taken }; quiet = quiet }; acts = []; deeds = deeds } in
      quiet-when P (prepares t.stage m.view m.mark) (horizon_to m.low) (λ u. refl) t ∙ none-shown s
  kind-shows s taken quiet deeds from (Message.Propose m) =
      let t : Turned = record { stage = record s { life = record s.life { taken = taken }; quiet = quiet }; acts = []; deeds = deeds } in
      let view = entered_view s (Came from (Message.Propose m)) in
      propose-shows P narrow from.replica m t ∙ ap (λ (zs : List Step). picks P zs) (sym (append-nil (entering_of s.config.n s.config.me view)))
  kind-shows s taken quiet deeds from (Message.Accept m) =
      let t : Turned = record { stage = record s { life = record s.life { taken = taken }; quiet = quiet }; acts = []; deeds = deeds } in
      quiet-learn_check P narrow m.instance (notes m.instance m.view from.replica None (horizon_to (suc m.instance) t)) ∙ none-shown s
  kind-shows s taken quiet deeds from (Message.Recovery m) =
      let t : Turned = record { stage = record s { life = record s.life { taken = taken }; quiet = quiet }; acts = []; deeds = deeds } in
      recovery-shows P from.replica m.mark t
  kind-shows s taken quiet deeds from (Message.RecoveryAnswer m) =
      let t : Turned = record { stage = record s { life = record s.life { taken = taken }; quiet = quiet }; acts = []; deeds = deeds } in
      quiet-when P (is_recovering t.stage.life.phase && (t.stage.life.mark == m.mark)) (when_some m.next horizon_to) (quiet-some P m.next horizon_to (λ x u. refl)) t ∙ none-shown s
  kind-shows s taken quiet deeds from (Message.CatchUpQuery m) =
      let t : Turned = record { stage = record s { life = record s.life { taken = taken }; quiet = quiet }; acts = []; deeds = deeds } in
      quiet-on_query P narrow from.replica m.first t ∙ none-shown s
  kind-shows s taken quiet deeds from (Message.CatchUpReply m) =
      let t : Turned = record { stage = record s { life = record s.life { taken = taken }; quiet = quiet }; acts = []; deeds = deeds } in
      quiet-on_batches P narrow m.first m.batches t ∙ none-shown s
  kind-shows s taken quiet deeds from (Message.SnapshotPart m) =
      let t : Turned = record { stage = record s { life = record s.life { taken = taken }; quiet = quiet }; acts = []; deeds = deeds } in
      quiet-on_part P narrow m t ∙ none-shown s
  kind-shows s taken quiet deeds from (Message.Alive m) =
      let t : Turned = record { stage = record s { life = record s.life { taken = taken }; quiet = quiet }; acts = []; deeds = deeds } in
      let view = entered_view s (Came from (Message.Alive m)) in
      alive-shows P from.replica m t ∙ ap (λ (zs : List Step). picks P zs) (sym (append-nil (entering_of s.config.n s.config.me view)))

  -- what a message shows
  pub message-shows : (s : Stage) (from : LifeId) (m : Message) → shown_where P (on_message from m (untouched s)).acts ≡ picks P (asked_steps s (Came from m))
  message-shows s from m = go (leads s from.replica s.life.view)
    where
      go : (b : Bool) → shown_where P (on_kind from.replica m (when b (with_stage (λ s. record s { quiet = 0 })) (does (Deed.Take from m) (untouched s)))).acts ≡ picks P (asked_steps s (Came from m))
      go true = let t : Turned = does (Deed.Take from m) (untouched s) in kind-shows s t.stage.life.taken 0 t.deeds from m
      go false = let t : Turned = does (Deed.Take from m) (untouched s) in kind-shows s t.stage.life.taken s.quiet t.deeds from m

  -- what an item shows
  pub item-shows : (s : Stage) (item : Item) → shown_where P (on_item item (untouched s)).acts ≡ picks P (asked_steps s item)
  item-shows s (Came from m) = message-shows s from m
  item-shows s (Closed batch) =
      quiet-when P (works s && is_leading s.life.leading && nat_lt (length s.waiting) waiting_limit) (with_stage (λ s. record s { waiting = s.waiting ++ batch ∷ [] })) (λ u. refl) (untouched s) ∙ none-shown s
  item-shows s Tick = tick-shows P narrow (untouched s) ∙ ap (λ (zs : List Step). picks P zs) (sym (append-nil (entering_of s.config.n s.config.me (entered_view s Tick))))
  item-shows s Suspect = suspected P (untouched s) ∙ ap (λ (zs : List Step). picks P zs) (sym (append-nil (entering_of s.config.n s.config.me (entered_view s Suspect))))
  item-shows s (Snapped upto bytes) =
      quiet-when P (nat_lt (place_of s.newest) upto && nat_le upto (first_undecided s))
      (with_stage (λ s. record s { base = place_of s.newest; newest = Some (record { place = upto; bytes = bytes; installed = false }) })) (λ u. refl) (untouched s) ∙ none-shown s

  -- what a turn shows
  pub turn-shows : (s : Stage) (item : Item) (room : ℕ) → shown_where P (turn s item room).acts ≡ picks P (entering_of s.config.n s.config.me (entered_view s item)) ++ (picks P (asked_promise s item) ++ picks P (recovery_answer s item))
  unfolding turn
  turn-shows s item room =
      quiet-settles P narrow room (on_item item (untouched s)) ∙ item-shows s item
      ∙ picks-append P (entering_of s.config.n s.config.me (entered_view s item)) (asked_promise s item ++ recovery_answer s item)
      ∙ ap (λ (zs : List Step). picks P (entering_of s.config.n s.config.me (entered_view s item)) ++ zs) (picks-append P (asked_promise s item) (recovery_answer s item))

-- ---- The laws

-- a promise to who asks is none or one
pub promise-is : (Q : List Step → Type 0) (s : Stage) (item : Item) → Q [] → ((view : ℕ) → Q (Step.Promise s.config.me view ∷ [])) → Q (asked_promise s item)
promise-is Q s (Came from (Message.Prepare m)) a b = go (works s && leads s from.replica m.view && nat_le s.life.view m.view)
  where
    go : (c : Bool) → Q (if c then Step.Promise s.config.me m.view ∷ [] else [])
    go true = b m.view
    go false = a
promise-is Q s (Came from (Message.PrepareOk m)) a b = a
promise-is Q s (Came from (Message.Propose m)) a b = a
promise-is Q s (Came from (Message.Accept m)) a b = a
promise-is Q s (Came from (Message.Recovery m)) a b = a
promise-is Q s (Came from (Message.RecoveryAnswer m)) a b = a
promise-is Q s (Came from (Message.CatchUpQuery m)) a b = a
promise-is Q s (Came from (Message.CatchUpReply m)) a b = a
promise-is Q s (Came from (Message.SnapshotPart m)) a b = a
promise-is Q s (Came from (Message.Alive m)) a b = a
promise-is Q s (Closed batch) a b = a
promise-is Q s Tick a b = a
promise-is Q s Suspect a b = a
promise-is Q s (Snapped upto bytes) a b = a

-- an answer to a recovery is none or one
pub answer-is : (Q : List Step → Type 0) (s : Stage) (item : Item) → Q [] → ((to view : ℕ) (next : Option ℕ) → Q (Step.Answer s.config.me to view next ∷ [])) → Q (recovery_answer s item)
answer-is Q s (Came from (Message.Recovery m)) a b = go (works s)
  where
    go : (c : Bool) → Q (if c
        then Step.Answer s.config.me from.replica (unwrap_or (entered_view s (Came from (Message.Recovery m))) s.life.view)
        (if is_some (entered_view s (Came from (Message.Recovery m))) then None else next_of s.life.leading) ∷ []
        else [])
    go true = b from.replica (unwrap_or (entered_view s (Came from (Message.Recovery m))) s.life.view) (if is_some (entered_view s (Came from (Message.Recovery m))) then None else next_of s.life.leading)
    go false = a
answer-is Q s (Came from (Message.Prepare m)) a b = a
answer-is Q s (Came from (Message.PrepareOk m)) a b = a
answer-is Q s (Came from (Message.Propose m)) a b = a
answer-is Q s (Came from (Message.Accept m)) a b = a
answer-is Q s (Came from (Message.RecoveryAnswer m)) a b = a
answer-is Q s (Came from (Message.CatchUpQuery m)) a b = a
answer-is Q s (Came from (Message.CatchUpReply m)) a b = a
answer-is Q s (Came from (Message.SnapshotPart m)) a b = a
answer-is Q s (Came from (Message.Alive m)) a b = a
answer-is Q s (Closed batch) a b = a
answer-is Q s Tick a b = a
answer-is Q s Suspect a b = a
answer-is Q s (Snapped upto bytes) a b = a

-- the test of entering is narrow
pub enter-narrow : Narrow is_enter
enter-narrow =
    record { learn = λ r i. refl; vote = λ r view i. refl; launch = λ r view i batch. refl; rejoin = λ r view. refl; prepared = λ r view next. refl; install = λ r upto. refl }

-- the test of promising is narrow
pub promise-narrow : Narrow is_promise
promise-narrow =
    record { learn = λ r i. refl; vote = λ r view i. refl; launch = λ r view i batch. refl; rejoin = λ r view. refl; prepared = λ r view next. refl; install = λ r upto. refl }

-- the test of answering is narrow
pub answer-narrow : Narrow is_answer
answer-narrow =
    record { learn = λ r i. refl; vote = λ r view i. refl; launch = λ r view i batch. refl; rejoin = λ r view. refl; prepared = λ r view next. refl; install = λ r upto. refl }

-- of the steps of entering a view, the Enter is one of entering
pub entering-enters : (n me : ℕ) (o : Option ℕ) → picks is_enter (entering_of n me o) ≡ enters me o
entering-enters n me None = refl
entering-enters n me (Some view) = go (leader n view == me)
  where
    go : (b : Bool) → picks is_enter (Step.Enter me view ∷ (if b then Step.Promise me view ∷ [] else [])) ≡ Step.Enter me view ∷ []
    go true = refl
    go false = refl

-- of the steps of entering a view, the Promise is the own promise
pub entering-promises : (n me : ℕ) (o : Option ℕ) → picks is_promise (entering_of n me o) ≡ own_promise n me o
entering-promises n me None = refl
entering-promises n me (Some view) = go (leader n view == me)
  where
    go : (b : Bool) → picks is_promise (Step.Enter me view ∷ (if b then Step.Promise me view ∷ [] else [])) ≡ (if b then Step.Promise me view ∷ [] else [])
    go true = refl
    go false = refl

-- of the steps of entering a view, none is an answer
pub entering-answers : (n me : ℕ) (o : Option ℕ) → picks is_answer (entering_of n me o) ≡ []
entering-answers n me None = refl
entering-answers n me (Some view) = go (leader n view == me)
  where
    go : (b : Bool) → picks is_answer (Step.Enter me view ∷ (if b then Step.Promise me view ∷ [] else [])) ≡ []
    go true = refl
    go false = refl

-- three lists of steps, each equal to another
pub three : {A : Type 0} (a b c x y z : List A) → a ≡ x → b ≡ y → c ≡ z → a ++ (b ++ c) ≡ x ++ (y ++ z)
three a b c x y z e f g = ap (λ u. u ++ (b ++ c)) e ∙ ap (λ u. x ++ (u ++ c)) f ∙ ap (λ u. x ++ (y ++ u)) g

-- a turn enters exactly the view that its item makes it enter
pub enters_exactly : EntersExactly
enters_exactly s item room =
    turn-shows is_enter enter-narrow s item room
    ∙ three (picks is_enter (entering_of s.config.n s.config.me (entered_view s item))) (picks is_enter (asked_promise s item)) (picks is_enter (recovery_answer s item))
    (enters s.config.me (entered_view s item)) [] [] (entering-enters s.config.n s.config.me (entered_view s item)) (promise-is (λ xs. picks is_enter xs ≡ []) s item refl (λ view. refl))
    (answer-is (λ xs. picks is_enter xs ≡ []) s item refl (λ to view next. refl))
    ∙ append-nil (enters s.config.me (entered_view s item))

-- a turn promises exactly the entered view to itself, where it leads it, and a view to who asks for it
pub promises_exactly : PromisesExactly
promises_exactly s item room =
    turn-shows is_promise promise-narrow s item room
    ∙ three (picks is_promise (entering_of s.config.n s.config.me (entered_view s item))) (picks is_promise (asked_promise s item)) (picks is_promise (recovery_answer s item))
    (own_promise s.config.n s.config.me (entered_view s item)) (asked_promise s item) [] (entering-promises s.config.n s.config.me (entered_view s item))
    (promise-is (λ xs. picks is_promise xs ≡ xs) s item refl (λ view. refl)) (answer-is (λ xs. picks is_promise xs ≡ []) s item refl (λ to view next. refl))
    ∙ ap (λ (zs : List Step). own_promise s.config.n s.config.me (entered_view s item) ++ zs) (append-nil (asked_promise s item))

-- a turn answers exactly a recovery that a Working stage takes
pub answers_exactly : AnswersExactly
answers_exactly s item room =
    turn-shows is_answer answer-narrow s item room
    ∙ three (picks is_answer (entering_of s.config.n s.config.me (entered_view s item))) (picks is_answer (asked_promise s item)) (picks is_answer (recovery_answer s item)) [] []
    (recovery_answer s item) (entering-answers s.config.n s.config.me (entered_view s item)) (promise-is (λ xs. picks is_answer xs ≡ []) s item refl (λ view. refl))
    (answer-is (λ xs. picks is_answer xs ≡ xs) s item refl (λ to view next. refl))

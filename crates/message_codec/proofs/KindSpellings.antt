-- Messages, and the fields of frames of both versions, are read as they are spelt.
use Rattle.std.proofs.Common.{◌≡◌, ℕ, zero, suc, ◌^◌, ◌-◌, ◌<◌, ◌≤◌, List, [], ◌++◌, length, None, refl, ap, lit<, arith, append-nil, append_assoc}
use Rattle.std.specs.List.{flat_map}
use Rattle.std.specs.Int.{to_be_bytes, w8, w32}
use Rattle.jp_types.specs.Limits.{AreBytes}
use Rattle.jp_types.specs.declared.message.Prepare.{Prepare}
use Rattle.jp_types.specs.declared.message.PrepareOk.{PrepareOk}
use Rattle.jp_types.specs.declared.message.Propose.{Propose}
use Rattle.jp_types.specs.declared.message.Accept.{Accept}
use Rattle.jp_types.specs.declared.message.Recovery.{Recovery}
use Rattle.jp_types.specs.declared.message.RecoveryAnswer.{RecoveryAnswer}
use Rattle.jp_types.specs.declared.message.CatchUpQuery.{CatchUpQuery}
use Rattle.jp_types.specs.declared.message.CatchUpReply.{CatchUpReply}
use Rattle.jp_types.specs.declared.message.SnapshotPart.{SnapshotPart}
use Rattle.jp_types.specs.declared.message.Alive.{Alive}
use Rattle.jp_types.specs.declared.message.Message.{Message}
use Rattle.frame_fields.specs.Spelling.{optional_bytes}
use Rattle.frame_fields.specs.Laws.{IsReadAsSpelt, IsWithin}
use Rattle.frame_fields.proofs.Spellings.{given, field, in_other_words, variant, many}
use Rattle.frame_fields.proofs.FieldSpellings.{numbers-8-bits, numbers-4, number-spelt, bytes-spelt, counter-spelt, optional-spelt}
use Rattle.message_codec.specs.Messages.{prepare, prepare_ok, propose, accept, recovery, recovery_answer, catch_up_query, catch_up_reply, snapshot_part, alive, message_of_kind}
use Rattle.message_codec.specs.Spelling.{counter_bytes, batch_bytes, report_bytes, kind_of, message_fields}
use Rattle.message_codec.specs.Limits.{IsCounter, IsPrepare, IsPrepareOk, IsPropose, IsAccept, IsRecoveryAnswer, IsCatchUpReply, IsSnapshotPart, IsAlive, IsMessage}
use Rattle.message_codec.proofs.MessageSpellings.{vector-spelt, batch-spelt, report-spelt}

-- ---- The messages, each as the fields that it has

abbrev prepare_bytes : Prepare → List ℕ
prepare_bytes m = message_fields (Message.Prepare m)

abbrev prepare_ok_bytes : PrepareOk → List ℕ
prepare_ok_bytes m = message_fields (Message.PrepareOk m)

abbrev propose_bytes : Propose → List ℕ
propose_bytes m = message_fields (Message.Propose m)

abbrev accept_bytes : Accept → List ℕ
accept_bytes m = message_fields (Message.Accept m)

abbrev recovery_bytes : Recovery → List ℕ
recovery_bytes m = message_fields (Message.Recovery m)

abbrev recovery_answer_bytes : RecoveryAnswer → List ℕ
recovery_answer_bytes m = message_fields (Message.RecoveryAnswer m)

abbrev catch_up_query_bytes : CatchUpQuery → List ℕ
catch_up_query_bytes m = message_fields (Message.CatchUpQuery m)

abbrev catch_up_reply_bytes : CatchUpReply → List ℕ
catch_up_reply_bytes m = message_fields (Message.CatchUpReply m)

abbrev snapshot_part_bytes : SnapshotPart → List ℕ
snapshot_part_bytes m = message_fields (Message.SnapshotPart m)

abbrev alive_bytes : Alive → List ℕ
alive_bytes m = message_fields (Message.Alive m)

one : (a : List ℕ) → a ≡ a ++ []
one a = simp append-nil

two : (a b : List ℕ) → a ++ b ≡ a ++ (b ++ [])
two a b = simp append-nil

three : (a b c : List ℕ) → (a ++ b) ++ c ≡ a ++ (b ++ (c ++ []))
three a b c = simp (append_assoc, append-nil)

four : (a b c d : List ℕ) → ((a ++ b) ++ c) ++ d ≡ a ++ (b ++ (c ++ (d ++ [])))
four a b c d = simp (append_assoc, append-nil)

five : (a b c d e : List ℕ) → (((a ++ b) ++ c) ++ d) ++ e ≡ a ++ (b ++ (c ++ (d ++ (e ++ []))))
five a b c d e = simp (append_assoc, append-nil)

prepare-spelt : IsReadAsSpelt None prepare prepare_bytes IsPrepare
prepare-spelt =
    in_other_words prepare_bytes IsPrepare
    (field (λ m. m.view) counter-spelt (λ x m is. ap (λ (z : Prepare). z.view) is.1.1)
    (λ view is. field (λ m. m.first) counter-spelt (λ x m is. ap (λ (z : Prepare). z.first) is.1)
    (λ first is. field (λ m. m.mark) counter-spelt (λ x m is. ap (λ (z : Prepare). z.mark) is) (λ mark is. given (record { view = view; first = first; mark = mark })))))
    (λ m is. ((is.view, (is.first, (is.mark, refl))), three (counter_bytes m.view) (counter_bytes m.first) (counter_bytes m.mark)))
    (λ m is. (record { view = is.0; first = is.1.0; mark = is.1.1.0 }, three (counter_bytes m.view) (counter_bytes m.first) (counter_bytes m.mark)))

prepare_ok-spelt : IsReadAsSpelt None prepare_ok prepare_ok_bytes IsPrepareOk
prepare_ok-spelt =
    in_other_words prepare_ok_bytes IsPrepareOk
    (field (λ m. m.view) counter-spelt (λ x m is. ap (λ (z : PrepareOk). z.view) is.1.1.1.1)
    (λ view is. field (λ m. m.mark) counter-spelt (λ x m is. ap (λ (z : PrepareOk). z.mark) is.1.1.1)
    (λ mark is. field (λ m. m.vector) vector-spelt (λ x m is. ap (λ (z : PrepareOk). z.vector) is.1.1)
    (λ v is. field (λ m. m.low) counter-spelt (λ x m is. ap (λ (z : PrepareOk). z.low) is.1)
    (λ low is. field (λ m. m.report) report-spelt (λ x m is. ap (λ (z : PrepareOk). z.report) is)
    (λ r is. given (record { view = view; mark = mark; vector = v; low = low; report = r })))))))
    (λ m is. ((is.view, (is.mark, (is.vector, (is.low, (is.report, refl))))), five (counter_bytes m.view) (counter_bytes m.mark) (flat_map counter_bytes m.vector) (counter_bytes m.low) (report_bytes m.report)))
    (λ m is. (record { view = is.0; mark = is.1.0; vector = is.1.1.0; low = is.1.1.1.0; report = is.1.1.1.1.0 }, five (counter_bytes m.view) (counter_bytes m.mark) (flat_map counter_bytes m.vector) (counter_bytes m.low) (report_bytes m.report)))

propose-spelt : IsReadAsSpelt None propose propose_bytes IsPropose
propose-spelt =
    in_other_words propose_bytes IsPropose
    (field (λ m. m.view) counter-spelt (λ x m is. ap (λ (z : Propose). z.view) is.1.1)
    (λ view is. field (λ m. m.instance) counter-spelt (λ x m is. ap (λ (z : Propose). z.instance) is.1)
    (λ instance is. field (λ m. m.batch) batch-spelt (λ x m is. ap (λ (z : Propose). z.batch) is) (λ b is. given (record { view = view; instance = instance; batch = b })))))
    (λ m is. ((is.view, (is.instance, (is.batch, refl))), three (counter_bytes m.view) (counter_bytes m.instance) (batch_bytes m.batch)))
    (λ m is. (record { view = is.0; instance = is.1.0; batch = is.1.1.0 }, three (counter_bytes m.view) (counter_bytes m.instance) (batch_bytes m.batch)))

accept-spelt : IsReadAsSpelt None accept accept_bytes IsAccept
accept-spelt =
    in_other_words accept_bytes IsAccept
    (field (λ m. m.view) counter-spelt (λ x m is. ap (λ (z : Accept). z.view) is.1)
    (λ view is. field (λ m. m.instance) counter-spelt (λ x m is. ap (λ (z : Accept). z.instance) is) (λ instance is. given (record { view = view; instance = instance }))))
    (λ m is. ((is.view, (is.instance, refl)), two (counter_bytes m.view) (counter_bytes m.instance))) (λ m is. (record { view = is.0; instance = is.1.0 }, two (counter_bytes m.view) (counter_bytes m.instance)))

recovery-spelt : IsReadAsSpelt None recovery recovery_bytes (λ m. IsCounter m.mark)
recovery-spelt =
    in_other_words recovery_bytes (λ m. IsCounter m.mark) (field (λ m. m.mark) counter-spelt (λ x m is. ap (λ (z : Recovery). z.mark) is) (λ mark is. given (record { mark = mark })))
    (λ m is. ((is, refl), one (counter_bytes m.mark))) (λ m is. (is.0, one (counter_bytes m.mark)))

recovery_answer-spelt : IsReadAsSpelt None recovery_answer recovery_answer_bytes IsRecoveryAnswer
recovery_answer-spelt =
    in_other_words recovery_answer_bytes IsRecoveryAnswer
    (field (λ m. m.mark) counter-spelt (λ x m is. ap (λ (z : RecoveryAnswer). z.mark) is.1.1.1)
    (λ mark is. field (λ m. m.view) counter-spelt (λ x m is. ap (λ (z : RecoveryAnswer). z.view) is.1.1)
    (λ view is. field (λ m. m.vector) vector-spelt (λ x m is. ap (λ (z : RecoveryAnswer). z.vector) is.1)
    (λ v is. field (λ m. m.next) (optional-spelt counter-spelt) (λ x m is. ap (λ (z : RecoveryAnswer). z.next) is)
    (λ next is. given (record { mark = mark; view = view; vector = v; next = next }))))))
    (λ m is. ((is.mark, (is.view, (is.vector, (is.next, refl)))), four (counter_bytes m.mark) (counter_bytes m.view) (flat_map counter_bytes m.vector) (optional_bytes counter_bytes m.next)))
    (λ m is. (record { mark = is.0; view = is.1.0; vector = is.1.1.0; next = is.1.1.1.0 }, four (counter_bytes m.mark) (counter_bytes m.view) (flat_map counter_bytes m.vector) (optional_bytes counter_bytes m.next)))

catch_up_query-spelt : IsReadAsSpelt None catch_up_query catch_up_query_bytes (λ m. IsCounter m.first)
catch_up_query-spelt =
    in_other_words catch_up_query_bytes (λ m. IsCounter m.first) (field (λ m. m.first) counter-spelt (λ x m is. ap (λ (z : CatchUpQuery). z.first) is) (λ first is. given (record { first = first })))
    (λ m is. ((is, refl), one (counter_bytes m.first))) (λ m is. (is.0, one (counter_bytes m.first)))

catch_up_reply-spelt : IsReadAsSpelt None catch_up_reply catch_up_reply_bytes IsCatchUpReply
catch_up_reply-spelt =
    in_other_words catch_up_reply_bytes IsCatchUpReply
    (field (λ m. m.first) counter-spelt (λ x m is. ap (λ (z : CatchUpReply). z.first) is.1.1)
    (λ first is. field (λ m. length m.batches) (number-spelt numbers-8-bits 1 64 (lit< tt)) (λ count m is. is.0.1)
    (λ count is. field (λ m. m.batches) (many count batch-spelt) (λ x m is. ap (λ (z : CatchUpReply). z.batches) is) (λ bs is. given (record { first = first; batches = bs })))))
    (λ m is. ((is.first, ((is.some, is.limit), ((is.batches, refl), refl))), three (counter_bytes m.first) (to_be_bytes w8 (length m.batches)) (flat_map batch_bytes m.batches)))
    (λ m is. (record { first = is.0; some = is.1.0.0; limit = is.1.0.1; batches = is.1.1.0.0 }, three (counter_bytes m.first) (to_be_bytes w8 (length m.batches)) (flat_map batch_bytes m.batches)))

alive-spelt : IsReadAsSpelt None alive alive_bytes IsAlive
alive-spelt =
    in_other_words alive_bytes IsAlive
    (field (λ m. m.view) counter-spelt (λ x m is. ap (λ (z : Alive). z.view) is.1)
    (λ view is. field (λ m. m.first_undecided) counter-spelt (λ x m is. ap (λ (z : Alive). z.first_undecided) is) (λ first is. given (record { view = view; first_undecided = first }))))
    (λ m is. ((is.view, (is.first_undecided, refl)), two (counter_bytes m.view) (counter_bytes m.first_undecided)))
    (λ m is. (record { view = is.0; first_undecided = is.1.0 }, two (counter_bytes m.view) (counter_bytes m.first_undecided)))

snapshot_part-spelt : IsReadAsSpelt None snapshot_part snapshot_part_bytes IsSnapshotPart
snapshot_part-spelt =
    in_other_words snapshot_part_bytes IsSnapshotPart
    (field (λ m. m.upto) counter-spelt (λ x m is. ap (λ (z : SnapshotPart). z.upto) is.1.1.1.1)
    (λ upto is. field (λ m. m.total) (number-spelt numbers-4 0 268435456 (lit< tt)) (λ x m is. ap (λ (z : SnapshotPart). z.total) is.1.1.1)
    (λ total is. field (λ m. m.at) (number-spelt numbers-4 0 (2 ^ 32 - 1) (lit< tt)) (λ x m is. ap (λ (z : SnapshotPart). z.at) is.1.1)
    (λ at is. field (λ m. length m.bytes) (number-spelt numbers-4 0 65536 (lit< tt)) (λ size m is. is.0.0)
    (λ size is. field (λ m. m.bytes) (bytes-spelt size) (λ x m is. ap (λ (z : SnapshotPart). z.bytes) is) (λ part is. given (record { upto = upto; total = total; at = at; bytes = part })))))))
    (λ m is. ((is.upto, ((omega arith, is.total), ((omega arith, below m.at is.at), ((omega arith, is.size), ((refl, is.bytes), refl))))), line m)) (λ m is. (back m is.0 is.1.0.1 is.1.1.0.1 is.1.1.1.0.1 is.1.1.1.1.0.1, line m))
  where
    below : (n : ℕ) → n < 2 ^ 32 → n ≤ 2 ^ 32 - 1
    below n lt = omega arith

    under : (n : ℕ) → n ≤ 2 ^ 32 - 1 → n < 2 ^ 32
    under n le = omega arith

    back : (m : SnapshotPart) → IsCounter m.upto → m.total ≤ 268435456 → m.at ≤ 2 ^ 32 - 1 → length m.bytes ≤ 65536 → AreBytes m.bytes → IsSnapshotPart m
    back m upto total at size are = record { upto = upto; total = total; at = under m.at at; size = size; bytes = are }

    line : (m : SnapshotPart) → snapshot_part_bytes m ≡ counter_bytes m.upto ++ (to_be_bytes w32 m.total ++ (to_be_bytes w32 m.at ++ (to_be_bytes w32 (length m.bytes) ++ (m.bytes ++ []))))
    line m = five (counter_bytes m.upto) (to_be_bytes w32 m.total) (to_be_bytes w32 m.at) (to_be_bytes w32 (length m.bytes)) m.bytes

-- ---- A message of a kind

-- a message of this kind within its limits
abbrev pub IsOfKind : ℕ → Message → Type 0
IsOfKind kind m = IsMessage m × (kind_of m ≡ kind)

module _ where
  of-1 : (m : Message) → IsOfKind 1 m → (x : Prepare) × IsPrepare x × (m ≡ Message.Prepare x)
  of-1 (Message.Prepare x) is = (x, is.0, refl)
  of-1 other is = absurd (omega (arith, is.1))

  of-2 : (m : Message) → IsOfKind 2 m → (x : PrepareOk) × IsPrepareOk x × (m ≡ Message.PrepareOk x)
  of-2 (Message.PrepareOk x) is = (x, is.0, refl)
  of-2 other is = absurd (omega (arith, is.1))

  of-3 : (m : Message) → IsOfKind 3 m → (x : Propose) × IsPropose x × (m ≡ Message.Propose x)
  of-3 (Message.Propose x) is = (x, is.0, refl)
  of-3 other is = absurd (omega (arith, is.1))

  of-4 : (m : Message) → IsOfKind 4 m → (x : Accept) × IsAccept x × (m ≡ Message.Accept x)
  of-4 (Message.Accept x) is = (x, is.0, refl)
  of-4 other is = absurd (omega (arith, is.1))

  of-5 : (m : Message) → IsOfKind 5 m → (x : Recovery) × IsCounter x.mark × (m ≡ Message.Recovery x)
  of-5 (Message.Recovery x) is = (x, is.0, refl)
  of-5 other is = absurd (omega (arith, is.1))

  of-6 : (m : Message) → IsOfKind 6 m → (x : RecoveryAnswer) × IsRecoveryAnswer x × (m ≡ Message.RecoveryAnswer x)
  of-6 (Message.RecoveryAnswer x) is = (x, is.0, refl)
  of-6 other is = absurd (omega (arith, is.1))

  of-7 : (m : Message) → IsOfKind 7 m → (x : CatchUpQuery) × IsCounter x.first × (m ≡ Message.CatchUpQuery x)
  of-7 (Message.CatchUpQuery x) is = (x, is.0, refl)
  of-7 other is = absurd (omega (arith, is.1))

  of-8 : (m : Message) → IsOfKind 8 m → (x : CatchUpReply) × IsCatchUpReply x × (m ≡ Message.CatchUpReply x)
  of-8 (Message.CatchUpReply x) is = (x, is.0, refl)
  of-8 other is = absurd (omega (arith, is.1))

  of-9 : (m : Message) → IsOfKind 9 m → (x : SnapshotPart) × IsSnapshotPart x × (m ≡ Message.SnapshotPart x)
  of-9 (Message.SnapshotPart x) is = (x, is.0, refl)
  of-9 other is = absurd (omega (arith, is.1))

  of-10 : (m : Message) → IsOfKind 10 m → (x : Alive) × IsAlive x × (m ≡ Message.Alive x)
  of-10 (Message.Alive x) is = (x, is.0, refl)
  of-10 other is = absurd (omega (arith, is.1))

pub of-kind-spelt : (kind : ℕ) → IsWithin 1 10 kind → IsReadAsSpelt None (message_of_kind kind) message_fields (IsOfKind kind)
of-kind-spelt zero is = let low = is.0 in absurd (omega arith)
of-kind-spelt (suc zero) is = variant (λ m. Message.Prepare m) message_fields (IsOfKind 1) prepare-spelt of-1 (λ m is. (is, refl)) (λ m. refl)
of-kind-spelt (suc (suc zero)) is = variant (λ m. Message.PrepareOk m) message_fields (IsOfKind 2) prepare_ok-spelt of-2 (λ m is. (is, refl)) (λ m. refl)
of-kind-spelt (suc (suc (suc zero))) is = variant (λ m. Message.Propose m) message_fields (IsOfKind 3) propose-spelt of-3 (λ m is. (is, refl)) (λ m. refl)
of-kind-spelt (suc (suc (suc (suc zero)))) is = variant (λ m. Message.Accept m) message_fields (IsOfKind 4) accept-spelt of-4 (λ m is. (is, refl)) (λ m. refl)
of-kind-spelt (suc (suc (suc (suc (suc zero))))) is = variant (λ m. Message.Recovery m) message_fields (IsOfKind 5) recovery-spelt of-5 (λ m is. (is, refl)) (λ m. refl)
of-kind-spelt (suc (suc (suc (suc (suc (suc zero)))))) is = variant (λ m. Message.RecoveryAnswer m) message_fields (IsOfKind 6) recovery_answer-spelt of-6 (λ m is. (is, refl)) (λ m. refl)
of-kind-spelt (suc (suc (suc (suc (suc (suc (suc zero))))))) is = variant (λ m. Message.CatchUpQuery m) message_fields (IsOfKind 7) catch_up_query-spelt of-7 (λ m is. (is, refl)) (λ m. refl)
of-kind-spelt (suc (suc (suc (suc (suc (suc (suc (suc zero)))))))) is = variant (λ m. Message.CatchUpReply m) message_fields (IsOfKind 8) catch_up_reply-spelt of-8 (λ m is. (is, refl)) (λ m. refl)
of-kind-spelt (suc (suc (suc (suc (suc (suc (suc (suc (suc zero))))))))) is = variant (λ m. Message.SnapshotPart m) message_fields (IsOfKind 9) snapshot_part-spelt of-9 (λ m is. (is, refl)) (λ m. refl)
of-kind-spelt (suc (suc (suc (suc (suc (suc (suc (suc (suc (suc zero)))))))))) is = variant (λ m. Message.Alive m) message_fields (IsOfKind 10) alive-spelt of-10 (λ m is. (is, refl)) (λ m. refl)
of-kind-spelt (suc (suc (suc (suc (suc (suc (suc (suc (suc (suc (suc kind))))))))))) is = let high = is.1 in absurd (omega arith)

use Rattle.std.proofs.Common.{◌≡◌, ◌+◌, ◌++◌, List, ℕ, append_assoc, ap, ◌∙◌}
use Rattle.frame_fields.specs.Spelling.{begun_frame}
use Rattle.message_codec.specs.Spelling.{counter_bytes, kind_of, message_fields}
use Rattle.message_codec.proofs.writing.write.Goals as goal

pub returns : goal.returns
returns c =
    let old = c.args.out.now.items in
    let kind = kind_of c.args.message.now + 128 in
    let front = counter_bytes c.args.cluster in
    let fields = message_fields c.args.message.now in
    let begun : c.begin_frame.new.out.items ≡ old ++ begun_frame kind = c.in_ok-place.ensures.items ∙ ap (λ (k : ℕ). old ++ begun_frame (k + 128)) c.kind_of.ensures.kind in
    let line : c.push_fields.new.out.items ≡ old ++ begun_frame kind ++ (front ++ fields)
    = c.in_ok-push_fields.ensures ∙ ap (λ (l : List ℕ). l ++ fields) (c.in_ok-push_number.ensures ∙ ap (λ (l : List ℕ). l ++ front) begun) ∙ append_assoc (old ++ begun_frame kind) front fields in
    c.end_frame.ensures.frame old kind (front ++ fields) c.in_ok-place.ensures.place line

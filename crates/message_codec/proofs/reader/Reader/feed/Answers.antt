use Rattle.std.proofs.Common.{◌≢◌, ◌++◌, ℕ, List, Err, subst}
use Rattle.frame_fields.specs.declared.fault.FrameFault.TheVariants as fault
use Rattle.frame_stream.specs.Following.{Progress, Follows, HasBegun, HasFollowed}
use Rattle.jp_types.specs.declared.message.Message.{Message}
use Rattle.message_codec.specs.Frames.{rules}
use Rattle.message_codec.specs.declared.reader.MessageFrames.{MessageFrames}
use Rattle.message_codec.proofs.reader.Reader.feed.Goals as goal

pub returns-clause-follows : goal.returns-clause-follows
returns-clause-follows c =
    subst
    (λ (r : Progress MessageFrames). (stream : List ℕ) (messages : List Message) → Follows (rules r.grammar.cluster r.grammar.old) stream messages r → c.feed.result ≢ Err fault.NoMemory
    → HasFollowed (rules r.grammar.cluster r.grammar.old) (stream ++ c.args.piece.now) messages c.args.out.now.items c.feed.new.out.items c.feed.new.self)
    c.self.view_is c.feed.ensures.follows

pub returns-clause-begun : goal.returns-clause-begun
returns-clause-begun c =
    subst
    (λ (r : Progress MessageFrames). (stream : List ℕ) (messages : List Message) → Follows (rules r.grammar.cluster r.grammar.old) stream messages r
    → HasBegun (rules r.grammar.cluster r.grammar.old) (stream ++ c.args.piece.now) messages c.args.out.now.items c.feed.new.out.items)
    c.self.view_is c.feed.ensures.begun

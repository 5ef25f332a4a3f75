-- Bad schedules: the first line that is wrong, and why.
use Rattle.std.specs.Prelude.{◌≡◌, ℕ, List, [], ◌∷◌, ◌++◌, Result, Err, codes, refl}
use Rattle.jp_types.specs.declared.cause.Cause.{Cause}
use Rattle.jp_types.specs.declared.cause.Cause.TheVariants.{NoCluster, Unknown, Operands, Number, BadMode, Bytes, BadCommand, NoEnd, AfterEnd, Text}
use Rattle.schedules.specs.declared.schedule.Schedule.{Schedule}
use Rattle.text_lines.specs.Lines.{Bad}
use Rattle.schedules.specs.Schedule.{read_schedule}
use Rattle.worked_schedules.proofs.Examples.{joined}

-- no schedule, but a wrong line
abbrev bad : ℕ → Cause → Result Schedule Bad
bad line cause = Err (record { line = line; cause = cause })

-- a first line, and then this one
abbrev after_head : List ℕ → List ℕ
after_head line = joined (codes "cluster 3 viewss 4" ∷ line ∷ [])

pub no_lines : read_schedule [] ≡ bad 1 NoCluster
unfolding read_schedule
no_lines = refl

pub two_replicas : read_schedule (joined (codes "cluster 2 viewss 4" ∷ [])) ≡ bad 1 Number
unfolding read_schedule
two_replicas = refl

pub no_end : read_schedule (joined (codes "cluster 3 viewss 4" ∷ [])) ≡ bad 2 NoEnd
unfolding read_schedule
no_end = refl

pub number_zero : read_schedule (after_head (codes "request 0 7 0 get 61")) ≡ bad 2 Number
unfolding read_schedule
number_zero = refl

pub odd_digits : read_schedule (after_head (codes "request 0 7 1 get 6")) ≡ bad 2 Bytes
unfolding read_schedule
odd_digits = refl

pub no_word : read_schedule (after_head (codes "jump 1")) ≡ bad 2 Unknown
unfolding read_schedule
no_word = refl

pub second_cluster : read_schedule (after_head (codes "cluster 3 viewss 4")) ≡ bad 2 Unknown
unfolding read_schedule
second_cluster = refl

pub behind_end : read_schedule (joined (codes "cluster 3 viewss 4" ∷ codes "end" ∷ codes "tick 0" ∷ [])) ≡ bad 3 AfterEnd
unfolding read_schedule
behind_end = refl

pub no_mode : read_schedule (joined (codes "cluster 3 fullss 4" ∷ [])) ≡ bad 1 BadMode
unfolding read_schedule
no_mode = refl

pub few_words : read_schedule (after_head (codes "deliver 1")) ≡ bad 2 Operands
unfolding read_schedule
few_words = refl

pub no_command : read_schedule (after_head (codes "request 0 7 1 get 61 62")) ≡ bad 2 BadCommand
unfolding read_schedule
no_command = refl

pub leading_zero : read_schedule (after_head (codes "request 0 7 01 get 61")) ≡ bad 2 Number
unfolding read_schedule
leading_zero = refl

pub no_key : read_schedule (after_head (codes "request 0 7 1 get -")) ≡ bad 2 Bytes
unfolding read_schedule
no_key = refl

pub two_spaces : read_schedule (after_head (codes "tick  0")) ≡ bad 2 Text
unfolding read_schedule
two_spaces = refl

pub no_line_feed : read_schedule (after_head (codes "tick 0") ++ codes "end") ≡ bad 3 Text
unfolding read_schedule
no_line_feed = refl

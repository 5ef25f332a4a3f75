-- The configurations of a node and of a client, and the bytes that spell one: its parts, or the first line that is wrong and why.
use Rattle.std.specs.Prelude.{ℕ, zero, suc, ◌+◌, ◌^◌, Bool, true, false, List, [], ◌∷◌, ◌++◌, length, nat_lt, ◌==◌, if◌then◌else◌, Option, Some, None, Result, Ok, Err, bytes_eq, codes}
use Rattle.std.specs.List.{slice_split}
use Rattle.configuration.specs.declared.address.Address.{Address}
use Rattle.configuration.specs.declared.client.ClientConfig.{ClientConfig}
use Rattle.configuration.specs.declared.node.NodeConfig.{NodeConfig}
use Rattle.jp_types.specs.declared.cause.Cause.{Cause}
use Rattle.jp_types.specs.declared.cause.Cause.TheVariants.{Number, BadMode, Bytes, Unknown, Operands, NoEnd, AfterEnd}
use Rattle.jp_types.specs.declared.mode.Mode.{Mode}
use Rattle.jp_types.specs.Words.{◌>>=◌, where_so, is_empty, number}
use Rattle.text_lines.specs.Lines.{Bad, at_line, text_words, first_raw, behind_first, mode}

-- ---- Reading line by line

-- how far a text was read: the number of the next line, and the bytes from there on
pub record Place : Type 0 where
  pub line : ℕ
  pub rest : List ℕ

-- what reading from a place gives: a value and the place behind it, or a wrong line
abbrev pub Reader : Type 0 → Type 0
Reader A = Place → Result (A × Place) Bad

-- x, with nothing read
abbrev pub gives : {A : Type 0} → A → Reader A
gives x place = Ok (x, place)

-- what f reads behind what was read
abbrev pub read_on : {A B : Type 0} → Result (A × Place) Bad → (A → Reader B) → Result (B × Place) Bad
read_on (Ok r) f = f r.0 r.1
read_on (Err bad) f = Err bad

-- one reader, and then the one that f makes of what it gave
infixl 20 ◌>>-◌
abbrev pub ◌>>-◌ : {A B : Type 0} → Reader A → (A → Reader B) → Reader B
◌>>-◌ reader f place = read_on (reader place) f

-- the line that is reached
abbrev pub here : Reader ℕ
here place = Ok (place.line, place)

-- what was read at a line, and the place behind that line
abbrev pub behind_line : {A : Type 0} → Place → Result A Bad → Result (A × Place) Bad
behind_line place (Ok x) = Ok (x, record { line = place.line + 1; rest = behind_first place.rest })
behind_line place (Err bad) = Err bad

-- The words of the next line. Where there is no further line, that line is missing.
abbrev pub words : Reader (List (List ℕ))
words place =
    if is_empty place.rest
    then Err (record { line = place.line; cause = NoEnd })
    else behind_line place (at_line place.line (text_words (first_raw place.rest)))

-- what was made of the words of a line, or the cause at that line
abbrev pub checked : {A : Type 0} → ℕ → Result A Cause → Reader A
checked line (Ok x) place = Ok (x, place)
checked line (Err cause) place = Err (record { line = line; cause = cause })

-- what f makes of the words of the next line
abbrev pub line_by : {A : Type 0} → (List (List ℕ) → Result A Cause) → Reader A
line_by f = here >>- λ line. words >>- λ ws. checked line (f ws)

-- the one operand of a line
abbrev pub lone : List (List ℕ) → Result (List ℕ) Cause
lone (operand ∷ []) = Ok operand
lone _ = Err Operands

-- the one operand of a line that begins with this word
abbrev pub operand : List ℕ → List (List ℕ) → Result (List ℕ) Cause
operand word [] = Err Unknown
operand word (first ∷ operands) = if bytes_eq first word then lone operands else Err Unknown

-- ---- Replicas

-- four numbers of a byte each
abbrev pub four : List (List ℕ) → Result (List ℕ) Cause
four (a ∷ b ∷ c ∷ d ∷ []) =
    number 0 255 a >>= λ a. number 0 255 b >>= λ b. number 0 255 c >>= λ c. number 0 255 d >>= λ d.
    Ok (a ∷ b ∷ c ∷ d ∷ [])
four _ = Err Bytes

-- what is no host for whatever reason is told by one cause
abbrev pub or_bytes : {A : Type 0} → Result A Cause → Result A Cause
or_bytes (Ok x) = Ok x
or_bytes (Err cause) = Err Bytes

-- a host: `localhost`, which is 127.0.0.1, or four numbers of an IPv4 address parted by dots
abbrev pub host : List ℕ → Result (List ℕ) Cause
host word = if bytes_eq word (codes "localhost") then Ok (127 ∷ 0 ∷ 0 ∷ 1 ∷ []) else or_bytes (four (slice_split (λ c. c == 46) word))

-- the operands of replica i: its number, its host and its first port
abbrev pub address_of : ℕ → List (List ℕ) → Result Address Cause
address_of i (r ∷ h ∷ p ∷ []) =
    number i i r >>= λ r. host h >>= λ h. number 1 65000 p >>= λ p. Ok (record { host = h; port = p })
address_of i _ = Err Operands

-- how many replicas there are at least, and at most
abbrev pub least_replicas : ℕ
least_replicas = 3

abbrev pub most_replicas : ℕ
most_replicas = 9

-- The line of replica i. Where there are enough before it, a line of another word stands behind the end, and so does that of a tenth replica.
abbrev pub replica_line : ℕ → List (List ℕ) → Result Address Cause
replica_line i [] = Err Unknown
replica_line i (first ∷ operands) =
    if bytes_eq first (codes "replica")
    then (if i == most_replicas then Err AfterEnd else address_of i operands)
    else (if nat_lt i least_replicas then Err Unknown else Err AfterEnd)

-- the line of replica i, or the end of the text, where there are enough replicas
abbrev pub next_replica : ℕ → Reader (Option Address)
next_replica i place =
    if is_empty place.rest
    then (if nat_lt i least_replicas then Err (record { line = place.line; cause = NoEnd }) else Ok (None, place))
    else read_on (line_by (replica_line i) place) (λ address. gives (Some address))

-- what f reads behind one more replica; nothing, where there was none
abbrev pub behind_replica : (List Address → Reader (List Address)) → List Address → Option Address → Reader (List Address)
behind_replica f before None = gives before
behind_replica f before (Some address) = f (before ++ address ∷ [])

-- The lines of the replicas from replica i on, behind those that were read. At most so many lines are read: one for each replica, and one that is too many.
unfoldable pub replicas : ℕ → List Address → ℕ → Reader (List Address)
replicas zero before i = gives before
replicas (suc more) before i = next_replica i >>- behind_replica (λ found. replicas more found (suc i)) before

abbrev pub all_replicas : Reader (List Address)
all_replicas = replicas 10 [] 0

-- ---- A node

-- a replica's number, which is at most 8
abbrev pub id_of : List (List ℕ) → Result ℕ Cause
id_of ws = operand (codes "id") ws >>= number 0 8

abbrev pub mode_of : List (List ℕ) → Result Mode Cause
mode_of ws = operand (codes "mode") ws >>= mode

abbrev pub window_of : List (List ℕ) → Result ℕ Cause
window_of ws = operand (codes "window") ws >>= number 1 64

-- any one word
abbrev pub store_of : List (List ℕ) → Result (List ℕ) Cause
store_of ws = operand (codes "store") ws

abbrev pub cluster_of : List (List ℕ) → Result ℕ Cause
cluster_of ws = operand (codes "cluster") ws >>= number 1 (2 ^ 48)

abbrev pub yes_or_no : List ℕ → Result Bool Cause
yes_or_no word = if bytes_eq word (codes "yes") then Ok true else (if bytes_eq word (codes "no") then Ok false else Err BadMode)

-- whether frames of version 1 are read
abbrev pub old_of : List (List ℕ) → Result Bool Cause
old_of ws = operand (codes "old") ws >>= yes_or_no

-- The node is one of the replicas. This is asked last of all.
abbrev pub one_of_them : NodeConfig → Reader NodeConfig
one_of_them config place = if nat_lt config.id (length config.replicas) then Ok (config, place) else Err (record { line = 1; cause = Number })

-- the lines of a node, in order
abbrev pub node_lines : Reader NodeConfig
node_lines =
    line_by id_of >>- λ id. line_by mode_of >>- λ mode. line_by window_of >>- λ window. line_by store_of >>- λ store.
    line_by cluster_of >>- λ cluster. line_by old_of >>- λ old. all_replicas >>- λ replicas.
    one_of_them (record { id = id; mode = mode; window = window; store = store; cluster = cluster; old = old; replicas = replicas })

-- ---- A client

abbrev pub client_of : List (List ℕ) → Result ℕ Cause
client_of ws = operand (codes "client") ws >>= number 0 1023

-- the number of the first request
abbrev pub first_of : List (List ℕ) → Result ℕ Cause
first_of ws = operand (codes "first") ws >>= number 1 (2 ^ 48)

-- the lines of a client, in order
abbrev pub client_lines : Reader ClientConfig
client_lines =
    line_by client_of >>- λ client. line_by first_of >>- λ first. all_replicas >>- λ replicas.
    gives (record { client = client; first = first; replicas = replicas })

-- ---- Whole texts

-- what was read, if no line is wrong
abbrev pub value_of : {A : Type 0} → Result (A × Place) Bad → Result A Bad
value_of (Ok r) = Ok r.0
value_of (Err bad) = Err bad

-- the configuration of a node that a text spells
unfoldable pub read_node : List ℕ → Result NodeConfig Bad
read_node text = value_of (node_lines (record { line = 1; rest = text }))

-- the configuration of a client that a text spells
unfoldable pub read_client : List ℕ → Result ClientConfig Bad
read_client text = value_of (client_lines (record { line = 1; rest = text }))

-- The fields of a frame, read from the front: a value and the place behind it, or the first fault that is met.
use Rattle.std.specs.Prelude.{ℕ, zero, suc, ◌+◌, ◌*◌, ◌^◌, List, [], ◌∷◌, length, take, drop, fold, nat_lt, ◌==◌, if◌then◌else◌, Option, Some, None, Result, Ok, Err}
use Rattle.jp_types.specs.declared.command.Command.{Command}
use Rattle.jp_types.specs.declared.command.Command.TheVariants as command_kind
use Rattle.jp_types.specs.declared.command.Reply.{Reply}
use Rattle.jp_types.specs.declared.command.Reply.TheVariants as reply_kind
use Rattle.jp_types.specs.declared.command.Request.{Request}
use Rattle.frame_fields.specs.Faults.{Fault, BadLength, BadField, told}

-- how far the fields of a frame were read
pub record Place : Type 0 where
  -- the place in the stream
  pub at : ℕ
  -- the bytes of the frame from there on
  pub rest : List ℕ
  -- where the batch begins that is being read, if one is
  pub batch : Option ℕ

-- what reading from a place gives: a value and the place behind it, or a fault
abbrev pub Reader : Type 0 → Type 0
Reader A = Place → Result (A × Place) Fault

-- x, with nothing read
abbrev pub gives : {A : Type 0} → A → Reader A
gives x place = Ok (x, place)

-- the fault
abbrev pub fails : {A : Type 0} → Fault → Reader A
fails fault place = Err fault

-- what f reads behind what was read
abbrev pub read_on : {A B : Type 0} → Result (A × Place) Fault → (A → Reader B) → Result (B × Place) Fault
read_on (Ok r) f = f r.0 r.1
read_on (Err fault) f = Err fault

-- one reader, and then the one that f makes of what it gave
infixl 20 ◌>>=◌
abbrev pub ◌>>=◌ : {A B : Type 0} → Reader A → (A → Reader B) → Reader B
◌>>=◌ reader f place = read_on (reader place) f

-- the place in the stream that is reached, as it is told
abbrev pub here : Reader ℕ
here place = Ok (told place.at, place)

-- how many bytes a batch may have
abbrev pub batch_limit : ℕ
batch_limit = 65536

-- a batch that begins at `start` and has a field that ends here is too large
abbrev pub too_large : Option ℕ → ℕ → Option ℕ
too_large None end = None
too_large (Some start) end = if nat_lt (start + batch_limit) end then Some start else None

-- what a field of these bytes gives, where the batch that it stands in is not too large
abbrev pub unless : Option ℕ → List ℕ → Place → Result (List ℕ × Place) Fault
unless None read place = Ok (read, place)
unless (Some start) read place = Err (BadField (told start))

-- A field of k bytes: it is cut where the frame ends before, and else the batch in which it ends may be too large.
abbrev pub bytes : ℕ → Reader (List ℕ)
bytes k place =
    if length (take k place.rest) == k
    then unless (too_large place.batch (place.at + k)) (take k place.rest) (record place { at = place.at + k; rest = drop k place.rest })
    else Err (BadLength (told place.at))

-- a number in k bytes, the highest byte first
abbrev pub number : ℕ → Reader ℕ
number k = bytes k >>= λ read. gives (fold (λ n b. n * 256 + b) 0 read)

-- a number from low to high
abbrev pub number_within : ℕ → ℕ → ℕ → Reader ℕ
number_within k low high = here >>= λ at. number k >>= λ n. if nat_lt n low then fails (BadField at) else (if nat_lt high n then fails (BadField at) else gives n)

-- a view, an instance, a mark or an epoch
abbrev pub counter : Reader ℕ
counter = number_within 8 0 (2 ^ 48)

-- a length within limits, and so many bytes
abbrev pub sized_within : ℕ → ℕ → Reader (List ℕ)
sized_within low high = number_within 2 low high >>= λ n. bytes n

abbrev pub key : Reader (List ℕ)
key = sized_within 1 256

abbrev pub value : Reader (List ℕ)
value = sized_within 0 4096

-- a tag 0 for nothing, or a tag 1 and the thing
abbrev pub optional : {A : Type 0} → Reader A → Reader (Option A)
optional reader = number_within 1 0 1 >>= λ tag. if tag == 0 then gives None else (reader >>= λ x. gives (Some x))

-- as many things, one after another
abbrev pub times : {A : Type 0} → ℕ → Reader A → Reader (List A)
times zero reader = gives []
times (suc k) reader = reader >>= λ x. times k reader >>= λ more. gives (x ∷ more)

-- what the reader reads as a batch: none of its fields may end more than 65,536 bytes behind its first byte
abbrev pub in_batch : {A : Type 0} → Reader A → Reader A
in_batch reader place = read_on (reader (record place { batch = Some place.at })) (λ x behind. gives x (record behind { batch = None }))

-- a command of a listed kind
abbrev pub command_of_kind : ℕ → Reader Command
command_of_kind kind =
    if kind == 1 then (key >>= λ k. value >>= λ v. gives (command_kind.Put k v))
    else (if kind == 2 then (key >>= λ k. gives (command_kind.Get k))
    else (if kind == 3 then (key >>= λ k. gives (command_kind.Del k))
    else (key >>= λ k. optional value >>= λ old. value >>= λ new. gives (command_kind.Cas k old new))))

abbrev pub command : Reader Command
command = number_within 1 1 4 >>= λ kind. command_of_kind kind

-- a reply of a listed kind
abbrev pub reply_of_kind : ℕ → Reader Reply
reply_of_kind kind =
    if kind == 1 then gives reply_kind.Done
    else (if kind == 2 then (value >>= λ v. gives (reply_kind.Value v)) else (if kind == 3 then gives reply_kind.NoKey else gives reply_kind.NoRoom))

abbrev pub reply : Reader Reply
reply = number_within 1 1 4 >>= λ kind. reply_of_kind kind

-- a client, its number and its command
abbrev pub request : Reader Request
request =
    number_within 8 0 1023 >>= λ client. number_within 8 1 (2 ^ 48) >>= λ number. command >>= λ command.
    gives (record { client = client; number = number; command = command })

-- what is read of a frame that ends where it should
abbrev pub at_end : {A : Type 0} → A → List ℕ → ℕ → Result A Fault
at_end x [] at = Ok x
at_end x (b ∷ bs) at = Err (BadLength (told at))

-- the thing that these fields of a frame spell, with nothing left behind it
abbrev pub whole : {A : Type 0} → Result (A × Place) Fault → Result A Fault
whole (Ok r) = at_end r.0 r.1.rest r.1.at
whole (Err fault) = Err fault

-- all the fields of a frame, which begin at this place of the stream
abbrev pub read_fields : {A : Type 0} → Reader A → ℕ → List ℕ → Result A Fault
read_fields reader at fields = whole (reader (record { at = at; rest = fields; batch = None }))

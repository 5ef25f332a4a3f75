-- What contracts see of a disk in memory that fails at some calls and stops at one, and that remembers each moment.
use Rattle.std.specs.Prelude.{◌≡◌, ◌≤◌, ◌⊎◌, ◌+◌, ℕ, List, [], ◌∷◌, ◌++◌, length, take, drop, replicate, Option, Some, unwrap_or}
use Rattle.std.specs.List.{Contains}
use mathlib.Core.Logic.{inl, inr}
use Rattle.std.proofs.Common.{sym, ap}
use Rattle.jp_types.specs.Streams.{counted_up}
use Rattle.stable_store.specs.Disks.{Torn}

-- a disk at one moment
pub record Moment : Type 0 where
  -- what a read gives
  pub bytes : List ℕ
  -- what a read gave as the last sync ended
  pub synced : List ℕ
  -- where something was written since, and how much, the newest first
  pub written : List (ℕ × ℕ)

-- from what was synced, each written range torn
abbrev pub Reaches : List ℕ → List (ℕ × ℕ) → List ℕ → Type 0
Reaches synced [] image = image ≡ synced
Reaches synced (range ∷ earlier) image = (old : List ℕ) × Reaches synced earlier old × Torn range.0 range.1 old image

-- what a crash may leave: what a read gives, or what the written ranges allow
abbrev pub MayLeave : Moment → List ℕ → Type 0
MayLeave moment image = (image ≡ moment.bytes) ⊎ Reaches moment.synced moment.written image

-- this byte in place of each of up to n bytes from a place on
abbrev pub filled : ℕ → ℕ → ℕ → List ℕ → List ℕ
filled at n fill bytes = take at bytes ++ replicate (length (take n (drop at bytes))) fill ++ drop (at + n) bytes

-- the same in each range, the newest of which stands first
abbrev pub filled_all : ℕ → List (ℕ × ℕ) → List ℕ → List ℕ
filled_all fill [] bytes = bytes
filled_all fill (range ∷ earlier) bytes = filled range.0 range.1 fill (filled_all fill earlier bytes)

-- what a crash at one of these moments might have left
abbrev pub MightHaveLeft : List Moment → List ℕ → Type 0
MightHaveLeft [] image = ⊥
MightHaveLeft (moment ∷ later) image = MayLeave moment image ⊎ MightHaveLeft later image

-- the disk now and at each moment before, the oldest first, and the calls that fail
pub record Failing : Type 0 where
  pub present : Moment
  pub past : List Moment
  -- the numbers of the calls that fail, counted from 0
  pub failing : List ℕ
  -- the number of the call from which on each call fails
  pub stop : ℕ
  -- how many calls were made
  pub calls : ℕ
  pub faults : ℕ

-- the next call is one that fails
abbrev pub Fails : Failing → Type 0
Fails disk = (disk.stop ≤ disk.calls) ⊎ Contains disk.failing disk.calls

-- a call was made, and no other calls fail than before
pub record Called (old new : Failing) : Type 0 where
  pub calls : new.calls ≡ counted_up old.calls
  pub failing : new.failing ≡ old.failing
  pub stop : new.stop ≡ old.stop

-- something is about to be written
abbrev pub noted : ℕ → ℕ → Moment → Moment
noted at count moment = record moment { written = (at, count) ∷ moment.written }

-- what a read gives was synced
abbrev pub settled : Moment → Moment
settled moment = record { bytes = moment.bytes; synced = moment.bytes; written = [] }

abbrev pub LeftSince : Failing → ℕ → List ℕ → Type 0
LeftSince disk t image = MayLeave disk.present image ⊎ MightHaveLeft (drop t disk.past) image

-- The rest is proof. It stands here since the impl of the disk cites it, and an impl cites nothing of its own crate's proofs.

nothing_later : (past : List Moment) (image : List ℕ) → MightHaveLeft (drop (length past) past) image → ⊥
nothing_later [] image had = had
nothing_later (moment ∷ past) image had = nothing_later past image had

-- since the present moment there is no other
pub only_present : (disk : Failing) (image : List ℕ) → LeftSince disk (length disk.past) image → MayLeave disk.present image
only_present disk image (inl now) = now
only_present disk image (inr had) = absurd (nothing_later disk.past image had)

-- what a read gives is one of the images
pub read_may_stay : (moment : Moment) (bytes : List ℕ) → Some moment.bytes ≡ Some bytes → MayLeave moment bytes
read_may_stay moment bytes is = inl (sym (some_same moment.bytes bytes is)) where
  some_same : (a b : List ℕ) → Some a ≡ Some b → a ≡ b
  some_same a b is = ap (λ (o : Option (List ℕ)). unwrap_or o a) is

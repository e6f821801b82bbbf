-- The results of calls that read the values of a packet and may stop early.
use Rattle.std.specs.Prelude.{◌≡◌, ℕ, false, List, length, Option, Some, None, Result, Ok, Err}
use Rattle.std.specs.BTreeMap.{BTreeMap}
use Rattle.std.specs.Io.KnownBytes.{Consumes}
use Rattle.std.specs.declared.sync.Arc.{Arc}
use Rattle.puffin_data.specs.Value.Layout.{IsBytes}
use Rattle.puffin_data.specs.declared.data.info.StreamInfo.{StreamInfo}
use Rattle.puffin_threads.specs.declared.thread_profiler.thread_info.ThreadInfo.{ThreadInfo}
use Rattle.puffin_frames.specs.declared.frame_data.meta.FrameMeta.{FrameMeta}
use Rattle.puffin_frames.specs.declared.frame_data.decode.Stop.{Stop}
use Rattle.puffin_frames.specs.declared.frame_data.decode.Stop.TheVariants as stops
use Rattle.puffin_frames.specs.Packet.Structs.{Legacy}
use Rattle.puffin_frames.specs.Packet.Front.{is_end, AtEnd}
use Rattle.puffin_frames.specs.inner.Pairs.{pairs_of}

-- A reading is what a definition of `Packet.Structs` gives on some bytes: a value and the bytes after it, or nothing.

-- A call returned the value that a reading gives, and left the bytes after it; or it returned `None`, and the reading gives nothing.
-- What is left is unspecified then.
abbrev pub Reads : {A : Type 0} → Option A → List ℕ → Option (A × List ℕ) → Type 0
Reads (Some value) left reading = reading ≡ Some (value, left)
Reads None left reading = reading ≡ None

-- the bytes after what a reading gives
abbrev pub rest_of : {A : Type 0} → Option (A × List ℕ) → Option (List ℕ)
rest_of None = None
rest_of (Some found) = Some found.1

-- a call left the bytes after what a reading gives; or it returned `None`, and the reading gives nothing
abbrev pub Skips : {A : Type 0} → Option (Unit {0}) → List ℕ → Option (A × List ℕ) → Type 0
Skips (Some done) left reading = rest_of reading ≡ Some left
Skips None left reading = reading ≡ None

-- a call may stop for this cause where a reading gives this
abbrev pub CanStop : {A : Type 0} → Stop → Option A → Type 0
CanStop stops.Memory reading = Unit {0}
CanStop stops.NoLayout reading = reading ≡ None

-- a call returned the value that a reading gives, seen by `view`, and left the bytes after it; or it stopped
abbrev pub ReadsOrStops : {X A : Type 0} → (X → A) → Result X Stop → List ℕ →
    Option (A × List ℕ) → Type 0
ReadsOrStops view (Ok value) left reading = reading ≡ Some (view value, left)
ReadsOrStops view (Err cause) left reading = CanStop cause reading

-- the same for a call that decodes all of its bytes, so that none are left
abbrev pub DecodesOrStops : {X A : Type 0} → (X → A) → Result X Stop → Option A → Type 0
DecodesOrStops view (Ok value) decoded = decoded ≡ Some (view value)
DecodesOrStops view (Err cause) decoded = CanStop cause decoded

-- a device gave these bytes as a header: four bytes that aren't four zeros
pub record GivesHeader (old new : Option (List ℕ)) (header : List ℕ) : Type 0 where
  pub four : length header ≡ 4
  pub consumed : Consumes old new header
  pub not_end : is_end header ≡ false
  pub bytes : IsBytes header

-- a device gave a header, or it is at its end and gave none
abbrev pub GivesHeaderOrEnds : Option (List ℕ) → Option (List ℕ) → Option (List ℕ) → Type 0
GivesHeaderOrEnds old new (Some header) = GivesHeader old new header
GivesHeaderOrEnds old new None = AtEnd old new

-- a legacy frame from the meta and the streams that a call decoded
abbrev pub legacy_from_parts : {A : Type 0} → FrameMeta × BTreeMap ThreadInfo (Arc StreamInfo A) → Legacy
legacy_from_parts decoded = record { meta = decoded.0; streams = pairs_of decoded.1.entries }

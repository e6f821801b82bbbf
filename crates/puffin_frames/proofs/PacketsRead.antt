-- Reading the next frame, from its header on.
use Rattle.std.proofs.Common.{◌≡◌, ℕ, ◌<◌, true, false, List, [], ◌∷◌, ◌++◌, length, drop, ltb, Option, Some, None, Result, Ok, Err, refl, sym, ap, ◌∙◌, append_assoc, ne_eqb, arith}
use Rattle.std.specs.Prelude.{is_some}
use Rattle.std.proofs.KnownBytes.{Consumes-trans}
use Rattle.std.specs.Result.{IfOk}
use Rattle.std.proofs.lemmas.Bool.{le-ltb, lt-ltb}
use Rattle.std.proofs.lemmas.List.{drop_all}
use Rattle.byteorder.specs.Endian.{little_number}
use Rattle.puffin_data.specs.declared.file_error.FileError.{FileError}
use Rattle.puffin_data.specs.declared.file_error.FileError.TheVariants as file
use Rattle.puffin_data.specs.Device.{FromDevice, FailsAt}
use Rattle.puffin_data.proofs.lemmas.Numbers.{IsBytes-append}
use Rattle.puffin_frames.specs.declared.frame_data.frame.FrameData.{FrameData}
use Rattle.puffin_frames.specs.Frame.Holding.{Packing}
use Rattle.puffin_frames.specs.Frame.Contents.{holding_of, packet_fields}
use Rattle.puffin_frames.specs.Packet.Stored.{PacketFields, Stored, packed, legacy}
use Rattle.puffin_frames.specs.Packet.Structs.{Legacy}
use Rattle.puffin_frames.specs.Packet.Next.{legacy_of, stored_as, stored_of}
use Rattle.puffin_frames.specs.Packet.Versions.{as_stored, stored_after}
use Rattle.puffin_frames.specs.Packet.Front.{is_end, next_at}
use Rattle.puffin_frames.specs.inner.Stopping.{GivesHeader}

-- ---- behind a header

-- four bytes that aren't the end are a header, and the bytes after them are read by it
pub after_header : (header rest : List ℕ) →
    length header ≡ 4 → is_end header ≡ false →
    next_at (header ++ rest) ≡ stored_after header rest
unfolding next_at
after_header [] rest four more_bytes = absurd (omega arith)
after_header (a ∷ []) rest four more_bytes = absurd (omega arith)
after_header (a ∷ b ∷ []) rest four more_bytes = absurd (omega arith)
after_header (a ∷ b ∷ d ∷ []) rest four more_bytes = absurd (omega arith)
after_header (a ∷ b ∷ d ∷ f ∷ []) rest four more_bytes =
    let long : ltb (length (a ∷ b ∷ d ∷ f ∷ rest)) 4 ≡ false = le-ltb _ _ (omega arith) in
    rw (long, more_bytes) refl
after_header (a ∷ b ∷ d ∷ f ∷ g ∷ more) rest four more_bytes = absurd (omega arith)

from_header : (header taken rest : List ℕ) →
    length header ≡ 4 → is_end header ≡ false →
    next_at ((header ++ taken) ++ rest) ≡ stored_after header (taken ++ rest)
from_header header taken rest four more =
    ap next_at (append_assoc header taken rest) ∙ after_header header (taken ++ rest) four more

-- a fault after a header is one of the bytes from the header on
fails_after_header : (fault : FileError) (old mid new : Option (List ℕ)) (header : List ℕ) →
    GivesHeader old mid header → FailsAt fault mid new (stored_after header) →
    FailsAt fault old new next_at
fails_after_header file.Io old mid new header gives fails = tt
fails_after_header file.Memory old mid new header gives fails = tt
fails_after_header file.Truncated old mid new header gives fails =
    let (taken, consumed, at_end, truncated) = fails in (
      header ++ taken,
      Consumes-trans old mid new header taken gives.consumed consumed,
      at_end,
      after_header header taken gives.four gives.not_end ∙ truncated,
    )
fails_after_header _ old mid new header gives fails =
    let (taken, consumed, fault_there) = fails in (
      header ++ taken,
      Consumes-trans old mid new header taken gives.consumed consumed,
      λ rest. from_header header taken rest gives.four gives.not_end ∙ fault_there rest,
    )

-- a frame that follows a header is the frame of the bytes from the header on
pub given_after_header :
    {X : Type 0} (view : X → Option Stored) (result : Result X FileError) (old mid new : Option (List ℕ))
    (header : List ℕ) →
    GivesHeader old mid header → FromDevice view mid new result (stored_after header) →
    FromDevice view old new result next_at
given_after_header view (Ok x) old mid new header gives (taken, consumed, read, are_bytes) = (
  header ++ taken,
  Consumes-trans old mid new header taken gives.consumed consumed,
  λ rest. from_header header taken rest gives.four gives.not_end ∙ read rest,
  IsBytes-append header taken gives.bytes are_bytes,
)
given_after_header view (Err fault) old mid new header gives fails =
    fails_after_header fault old mid new header gives fails

-- ---- the end

drop_short : (count : ℕ) (xs : List ℕ) → length xs < count → drop count xs ≡ []
drop_short count xs short = drop_all count xs (omega arith)

pub short_end : (taken : List ℕ) → length taken < 4 → next_at taken ≡ Ok (None, [])
unfolding next_at
short_end taken lt =
    let short : ltb (length taken) 4 ≡ true = lt-ltb _ _ lt in
    rw (short, drop_short 4 taken lt) refl

pub zeros_end : (taken : List ℕ) → length taken ≡ 4 → little_number 4 taken ≡ 0 → next_at taken ≡ Ok (None, [])
unfolding next_at
zeros_end taken four zeros =
    let long : ltb (length taken) 4 ≡ false = le-ltb _ _ (omega arith) in
    rw (long, zeros, drop_all 4 taken (omega arith)) refl

pub not_end : (header : List ℕ) → length header ≡ 4 → (little_number 4 header ≡ 0 → ⊥) → is_end header ≡ false
not_end header four some =
    let long : ltb (length header) 4 ≡ false = le-ltb _ _ (omega arith) in
    rw (long, ne_eqb _ _ some) refl

-- ---- frames in the form in which they are stored

-- a reading that fails, fails too as one of a stored frame
fails_as : {A : Type 0} (form : A → Stored) (fault : FileError) (old new : Option (List ℕ))
    (read : List ℕ → Result (A × List ℕ) FileError) →
    FailsAt fault old new read →
    FailsAt fault old new (λ bytes. as_stored form (read bytes))
fails_as form file.Io old new read fails = tt
fails_as form file.Memory old new read fails = tt
fails_as form file.Truncated old new read fails =
    let (taken, consumed, at_end, truncated) = fails in (taken, consumed, at_end, ap (as_stored form) truncated)
fails_as form _ old new read fails =
    let (taken, consumed, fault_there) = fails in (taken, consumed, λ rest. ap (as_stored form) (fault_there rest))

-- a frame that is held packed is stored as a packet
packed_so : (frame : FrameData) (packing : Option Packing) →
    is_some packing ≡ true →
    stored_as frame packing ≡ packed (packet_fields frame)
packed_so frame (Some packing) some = refl
packed_so frame None some = absurd cc

pub if_packed_so : (result : Result FrameData FileError) (old new : Option (List ℕ))
    (read : List ℕ → Result (PacketFields × List ℕ) FileError) →
    IfOk result (λ frame. is_some (holding_of frame).packed ≡ true) → FromDevice packet_fields old new result read →
    FromDevice (λ frame. Some (stored_of frame)) old new result (λ bytes. as_stored packed (read bytes))
if_packed_so (Ok frame) old new read is_packed (taken, consumed, reads, are_bytes) = (
  taken,
  consumed,
  λ rest. ap (as_stored packed) (reads rest)
      ∙ ap (λ (stored : Stored). Ok (Some stored, rest)) (sym (packed_so frame (holding_of frame).packed is_packed)),
  are_bytes,
)
if_packed_so (Err fault) old new read is_packed fails = fails_as packed fault old new read fails

-- one that isn't is stored as a legacy frame
legacy_so : (frame : FrameData) (packing : Option Packing) →
    packing ≡ None →
    stored_as frame packing ≡ legacy (legacy_of frame)
legacy_so frame packing none = ap (stored_as frame) none

pub if_legacy_so : (result : Result FrameData FileError) (old new : Option (List ℕ))
    (read : List ℕ → Result (Legacy × List ℕ) FileError) →
    IfOk result (λ frame. (holding_of frame).packed ≡ None) → FromDevice legacy_of old new result read →
    FromDevice (λ frame. Some (stored_of frame)) old new result (λ bytes. as_stored legacy (read bytes))
if_legacy_so (Ok frame) old new read not_packed (taken, consumed, reads, are_bytes) = (
  taken,
  consumed,
  λ rest. ap (as_stored legacy) (reads rest)
      ∙ ap (λ (stored : Stored). Ok (Some stored, rest)) (sym (legacy_so frame (holding_of frame).packed not_packed)),
  are_bytes,
)
if_legacy_so (Err fault) old new read not_packed fails = fails_as legacy fault old new read fails

-- A file in memory has fewer frames than bytes.
use Rattle.std.proofs.Common.{◌≡◌, ℕ, ◌+◌, ◌-◌, ◌<◌, ◌≤◌, ltb, true, refl, List, [], ◌∷◌, ◌++◌, length, drop, ap, subst, arith, length-append}
use Rattle.std.proofs.lemmas.Bool.{lt-ltb}
use Rattle.std.specs.Prelude.{Option, Some, None, Result, Ok, Err}
use Rattle.puffin_data.specs.declared.file_error.FileError.{FileError}
use Rattle.puffin_data.specs.declared.file_error.FileError.TheVariants as file
use Rattle.puffin_data.specs.Device.{failures_after}
use Rattle.puffin_frames.specs.Packet.Stored.{Stored}
use Rattle.puffin_frames.specs.Packet.Front.{next_at}
use Rattle.puffin_view.specs.View.File.{magic}
use Rattle.puffin_view.specs.View.FrameFile.{frame_at, AreGiven, HasGiven}

-- the frame that a reading gives, if any
abbrev next_of : Result (Option Stored × List ℕ) FileError → Option Stored
next_of (Ok (frame, rest)) = frame
next_of (Err e) = None

-- no bytes are read as the end
no_bytes : (bytes : List ℕ) → length bytes ≡ 0 → next_at bytes ≡ Ok (None, drop 4 bytes)
unfolding next_at
no_bytes bytes none =
    let short : ltb (length bytes) 4 ≡ true = lt-ltb _ _ (omega (arith, none)) in rw short refl

-- so a frame has bytes
has_bytes : (front : List ℕ) (s : Stored) → ((rest : List ℕ) → frame_at (front ++ rest) ≡ Ok (Some s, rest)) → 0 < length front
has_bytes [] s gives =
    let read : frame_at [] ≡ Ok (Some s, []) = gives [] in
    let none : None ≡ Some s = ap next_of (rw (no_bytes [] refl) at read) in absurd (cc)
has_bytes (x ∷ xs) s gives = omega arith

-- and there are at most as many frames as bytes, not counting the four letters of the file
fewer_frames : (bytes : List ℕ) (frames : List Stored) → AreGiven bytes frames → length frames ≤ length bytes
fewer_frames bytes [] given = omega arith
fewer_frames bytes (s ∷ frames) (front, others, is, gives, rest) =
    let some = has_bytes front s gives in
    let fewer = fewer_frames others frames rest in
    omega (arith, ap length is, length-append front others)

pub few_frames : (bytes left : List ℕ) (frames : List Stored) → HasGiven (Some bytes) (Some left) frames →
    length frames + 4 ≤ length bytes
few_frames bytes left frames given =
    let fewer = fewer_frames given.bytes frames given.given in
    omega (arith, ap length given.consumed, length-append (magic ++ given.bytes) left, length-append magic given.bytes)

-- where the frames so far end
pub end_given : (bytes left : List ℕ) (frames : List Stored) (read : ℕ) → HasGiven (Some bytes) (Some left) frames →
    read ≡ length bytes - length left → read + length left ≡ length bytes
end_given bytes left frames read given is = omega (arith, ap length given.consumed, length-append (magic ++ given.bytes) left, is)

-- a call that counts no failure doesn't return `Io`
pub no_io : (X : Type 0) (e : FileError) → 0 ≡ failures_after {X = X} 0 (Err e) → e ≡ file.Io → ⊥
no_io X e none io =
    let one : 0 ≡ 1 = subst (λ (f : FileError). 0 ≡ failures_after {X = X} 0 (Err f)) io none in absurd (omega (arith, one))

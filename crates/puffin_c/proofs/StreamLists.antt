-- The streams of a frame are listed one after the other.
use Rattle.std.specs.Prelude.{Option, Some, Err}
use Rattle.std.proofs.Common.{◌≡◌, ◌⊎◌, inl, inr, ℕ, ◌+◌, List, [], ◌∷◌, ◌++◌, length, ap, subst, sym, ◌∙◌, append_assoc, append-nil, length-append, map}
use Rattle.std.specs.FinMap as tree
use Rattle.std.specs.Map.{keys_of}
use Rattle.std.specs.List.Sorted.{IsStrictlySortedBy}
use Rattle.puffin_data.specs.declared.error.Error.TheVariants as error
use Rattle.puffin_data.specs.declared.file_error.FileError.{FileError}
use Rattle.puffin_data.specs.declared.file_error.FileError.TheVariants as file
use Rattle.puffin_threads.specs.Thread.ThreadKey.{thread_cmp}
use Rattle.puffin_frames.specs.Frame.Contents.{shared_streams}
use Rattle.puffin_frames.specs.declared.frame_data.frame.FrameData.{FrameData}
use Rattle.puffin_frames.specs.Frame.Contents.{packet_fields, streams_in_fields}
use Rattle.puffin_view.specs.View.File.{file_at, FailsToRead}
use Rattle.puffin_view.proofs.lemmas.FrameStreams.{Held, entry_of, entries_held}
use Rattle.puffin_c.specs.declared.fault.Fault.{Fault}
use Rattle.puffin_c.specs.declared.fault.Fault.TheVariants as fault
use Rattle.puffin_c.specs.declared.streams.PuffinStream.{PuffinStream}
use Rattle.puffin_c.specs.Faults.{file_fault}
use Rattle.puffin_c.specs.Lists.{stream_row, stream_bytes, stream_rows, streams_bytes, IsFrameAt, LacksFrame, LacksStreams}

-- the rows so far, and those of the streams that are left, are all of them; and so are the bytes
abbrev pub AllRows : List PuffinStream → List ℕ → List Held → List PuffinStream → Type 0
AllRows rows bytes left total = rows ++ stream_rows (length bytes) (map entry_of left) ≡ total

abbrev pub AllBytes : List ℕ → List Held → List ℕ → Type 0
AllBytes bytes left total = bytes ++ streams_bytes (map entry_of left) ≡ total

-- one stream more
pub rows_more : (before after : List PuffinStream) (bytes more : List ℕ) (e : Held) (rest it : List Held)
    (total : List PuffinStream) → it ≡ e ∷ rest
    → after ≡ before ++ stream_row (length bytes) (entry_of e) ∷ [] → more ≡ bytes ++ stream_bytes (entry_of e) →
    AllRows before bytes it total → AllRows after more rest total
rows_more before after bytes more e rest it total left row longer so_far =
    let behind = length bytes + length (stream_bytes (entry_of e)) in
    let size : length more ≡ behind = ap length longer ∙ length-append bytes (stream_bytes (entry_of e)) in
    ap (λ (n : ℕ). after ++ stream_rows n (map entry_of rest)) size
    ∙ ap (λ (l : List PuffinStream). l ++ stream_rows behind (map entry_of rest)) row
    ∙ append_assoc before (stream_row (length bytes) (entry_of e) ∷ []) (stream_rows behind (map entry_of rest))
    ∙ ap (λ (es : List Held). before ++ stream_rows (length bytes) (map entry_of es)) (sym left) ∙ so_far

pub bytes_more : (bytes more : List ℕ) (e : Held) (rest it : List Held) (total : List ℕ) → it ≡ e ∷ rest →
    more ≡ bytes ++ stream_bytes (entry_of e) → AllBytes bytes it total → AllBytes more rest total
bytes_more bytes more e rest it total left longer so_far =
    let others = streams_bytes (map entry_of rest) in
    ap (λ (l : List ℕ). l ++ others) longer ∙ append_assoc bytes (stream_bytes (entry_of e)) others
    ∙ ap (λ (es : List Held). bytes ++ streams_bytes (map entry_of es)) (sym left) ∙ so_far

-- no stream is left
pub rows_done : (rows : List PuffinStream) (bytes : List ℕ) (all it : List Held) → it ≡ [] →
    AllRows rows bytes it (stream_rows 0 (map entry_of all)) → IsStrictlySortedBy thread_cmp (keys_of all) →
    rows ≡ stream_rows 0 (tree.entries (shared_streams all))
rows_done rows bytes all it none so_far sorted =
    sym (append-nil rows) ∙ sym (ap (λ (es : List Held). rows ++ stream_rows (length bytes) (map entry_of es)) none)
    ∙ so_far ∙ ap (stream_rows 0) (sym (entries_held all sorted))

pub bytes_done : (bytes : List ℕ) (all it : List Held) → it ≡ [] →
    AllBytes bytes it (streams_bytes (map entry_of all)) → IsStrictlySortedBy thread_cmp (keys_of all) →
    bytes ≡ streams_bytes (tree.entries (shared_streams all))
bytes_done bytes all it none so_far sorted =
    sym (append-nil bytes) ∙ sym (ap (λ (es : List Held). bytes ++ streams_bytes (map entry_of es)) none) ∙ so_far
    ∙ ap streams_bytes (sym (entries_held all sorted))

-- ---- refusals

-- a file that doesn't begin with its letters
pub no_letters : (bytes read : List ℕ) (left : Option (List ℕ)) (offset : ℕ) (e : FileError) (f : Fault) →
    read ≡ bytes → f ≡ file_fault e → offset ≡ 0 → (e ≡ file.Io → ⊥) → ((e ≡ file.NoMagic) ⊎ (e ≡ file.Io))
    → FailsToRead file_at (Some read) left e → LacksFrame bytes offset f
no_letters bytes read left offset e f all is start none (inl letters) fails =
    inr (inl (
      is ∙ ap file_fault letters,
      start,
      left,
      subst (λ (read : List ℕ × FileError). FailsToRead file_at (Some read.0) left read.1)
          (λ i. (all i, letters i)) fails,
    ))
no_letters bytes read left offset e f all is start none (inr io) fails = absurd (none io)

-- streams that can't be unpacked
pub not_unpacked : (bytes : List ℕ) (offset next : ℕ) (o : Option FrameData) (frame : FrameData) (e f : Fault) → f ≡ e →
    o ≡ Some frame → IsFrameAt bytes offset next o
    → ((e ≡ fault.Refused error.Memory)
    ⊎ ((cause : FileError) × (streams_in_fields (packet_fields frame) ≡ Err cause) × (e ≡ file_fault cause)))
    → (f ≡ fault.Refused error.Memory) ⊎ LacksFrame bytes offset f ⊎ LacksStreams bytes offset f
not_unpacked bytes offset next o frame e f same some at (inl memory) = inl (same ∙ memory)
not_unpacked bytes offset next o frame e f same some at (inr (cause, packed, is)) =
    inr (inr (next, frame, cause, subst (IsFrameAt bytes offset next) some at, packed, same ∙ is))

-- The streams of a frame: as they are held, as a file has them, and why there are none.
use Rattle.std.proofs.Common.{◌≡◌, ◌⊎◌, inl, inr, ℕ, true≢false, true, false, List, [], ◌∷◌, length, map, Result, Err, refl, ap, subst, sym, ◌∙◌}
use Rattle.std.proofs.lemmas.List.{length-map}
use Rattle.std.proofs.lemmas.Map.Made.{keys_of-map_values}
use Rattle.std.specs.FinMap as tree
use Rattle.std.specs.Arc.{arc_value}
use Rattle.std.specs.Map.{keys_of}
use Rattle.std.specs.List.Sorted.{IsStrictlySortedBy}
use Rattle.std.specs.declared.sync.Arc.{Arc}
use Rattle.std.specs.declared.alloc.Global.{Global}
use Rattle.puffin_data.specs.Honesty.{StreamFacts, facts_of}
use Rattle.puffin_data.specs.declared.file_error.FileError.{FileError}
use Rattle.puffin_data.specs.declared.file_error.FileError.TheVariants as file
use Rattle.puffin_data.specs.declared.data.form.Form.{Form}
use Rattle.puffin_data.specs.declared.data.info.StreamInfo.{StreamInfo}
use Rattle.puffin_threads.specs.declared.thread_profiler.thread_info.ThreadInfo.{ThreadInfo}
use Rattle.puffin_threads.specs.Thread.ThreadKey.{ThreadKey, key_of, thread_cmp, key_entries}
use Rattle.puffin_threads.specs.Details.{Details}
use Rattle.puffin_frames.specs.declared.frame_data.kind.Kind.TheVariants.{Uncompressed}
use Rattle.puffin_frames.specs.declared.frame_data.frame.FrameData.{FrameData}
use Rattle.puffin_frames.specs.declared.frame_data.held.Held.TheVariants.{Own, Shared, Packed, Both}
use Rattle.puffin_frames.specs.declared.frame_data.held.Held as way
use Rattle.puffin_frames.specs.declared.frame_data.meta.FrameMeta.{FrameMeta}
use Rattle.puffin_frames.specs.Frame.Variants.{HasMeta}
use Rattle.puffin_frames.specs.Frame.Contents.{without_sharing, shared_streams, records, packet_fields}
use Rattle.puffin_frames.specs.Packet.Next.{stored_of, IsFresh}
use Rattle.puffin_frames.specs.Packet.Tries.{DecidedInMemory}
use Rattle.puffin_frames.proofs.lemmas.Keyed.{entries-streams_of}
use Rattle.puffin_view.specs.View.ViewedFrames.{Frame, fields_of}
use Rattle.puffin_view.specs.View.FrameOf.{frame_of}
use Rattle.puffin_view.specs.View.File.{frame_stored}

abbrev pub Held : Type 0
Held = ThreadInfo × Arc StreamInfo Global

-- an entry as contracts see it
abbrev pub entry_of : Held → ThreadKey × StreamFacts
entry_of e = (key_of e.0, facts_of (arc_value e.1))

-- the number of streams is that of the entries
pub len_held : (es : List Held) → IsStrictlySortedBy thread_cmp (keys_of es) → tree.len (shared_streams es) ≡ length es
len_held es sorted =
    tree.len-entries (shared_streams es)
    ∙ ap length (entries-streams_of (without_sharing es)
    (subst (IsStrictlySortedBy thread_cmp) (sym (keys_of-map_values arc_value es)) sorted))
    ∙ length-map _ _ ∙ length-map _ _ ∙ length-map _ _

each_held : (es : List Held) → key_entries (records (without_sharing es)) ≡ map entry_of es
each_held [] = refl
each_held (e ∷ es) = ap (λ xs. entry_of e ∷ xs) (each_held es)

-- the streams in order are the entries
pub entries_held : (es : List Held) → IsStrictlySortedBy thread_cmp (keys_of es)
    → tree.entries (shared_streams es) ≡ map entry_of es
entries_held es sorted =
    entries-streams_of (without_sharing es)
    (subst (IsStrictlySortedBy thread_cmp) (sym (keys_of-map_values arc_value es)) sorted) ∙ each_held es

-- ---- a frame that was read, as a view sees it

abbrev first_said : FrameMeta → Form → List ℕ → List Details → Frame
first_said m form streams ds =
    record {
      fields = record { meta = m; form = form; kind = Uncompressed; streams = streams; details = ds };
      is_unpacked = true;
      is_packed = false;
    }

fresh_by : (frame : FrameData) (h : way.Held) (same : HasMeta h frame.meta)
    → IsFresh (record frame { held = h; same_meta = same }) → frame_of (record frame { held = h; same_meta = same })
    ≡ frame_stored (stored_of (record frame { held = h; same_meta = same }))
fresh_by frame (Own u) same fresh = ap (first_said _ _ _) (fresh.no_details refl)
fresh_by frame (Shared u) same fresh = ap (first_said _ _ _) (fresh.no_details refl)
fresh_by frame (Packed p) same fresh = refl
fresh_by frame (Both b) same fresh = absurd (true≢false fresh.one_way)

-- a frame that was just read is seen as it was stored
pub fresh_frame : (frame : FrameData) → IsFresh frame → frame_of frame ≡ frame_stored (stored_of frame)
fresh_frame frame fresh = fresh_by frame frame.held frame.same_meta fresh

-- what it says
pub said_fresh : (frame : FrameData) → IsFresh frame → packet_fields frame ≡ fields_of (frame_stored (stored_of frame))
said_fresh frame fresh = ap fields_of (fresh_frame frame fresh)

-- ---- why there are none

-- what is not decided in memory is out of memory or the answer itself
pub not_decided : {X A : Type 0} (view : X → A) (e : FileError) (answer : Result A FileError)
    → DecidedInMemory view (Err e) answer → (e ≡ file.Memory) ⊎ (answer ≡ Err e)
not_decided view file.Memory answer d = inl refl
not_decided view e answer d = inr d

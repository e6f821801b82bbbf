-- The totals of threads, stream by stream and frame by frame, and their rows.
use Rattle.std.proofs.Common.{◌≡◌, ◌⊎◌, inl, inr, ℕ, ◌+◌, List, [], ◌∷◌, ◌++◌, length, map, Option, Some, None, refl, ap, sym, ◌∙◌, append_assoc, append-nil, length-append}
use Rattle.std.specs.Prelude.{fold, unwrap_or}
use Rattle.std.specs.Option.{option_map}
use Rattle.std.specs.FinMap as tree
use Rattle.std.specs.Map.{keys_of, lookup}
use Rattle.std.specs.BTreeMap.{is_at, insert_entry}
use Rattle.std.specs.List.Sorted.{IsStrictlySortedBy}
use Rattle.std.proofs.lemmas.List.Sums.{fold-append}
use Rattle.puffin_data.specs.declared.error.Error.TheVariants as error
use Rattle.puffin_data.specs.declared.file_error.FileError.{FileError}
use Rattle.puffin_data.specs.Honesty.{StreamFacts}
use Rattle.puffin_threads.specs.declared.thread_profiler.thread_info.ThreadInfo.{ThreadInfo}
use Rattle.puffin_threads.specs.Thread.ThreadKey.{key_of, key_cmp, thread_cmp, by_key, key_entries}
use Rattle.puffin_threads.proofs.lemmas.ThreadKeys.{key_cmp_total}
use Rattle.puffin_threads.proofs.lemmas.EntriesSeen.{get-seen}
use Rattle.puffin_frames.specs.declared.frame_data.frame.FrameData.{FrameData}
use Rattle.puffin_frames.specs.Frame.Contents.{shared_streams, packet_fields, streams_in_fields}
use Rattle.puffin_frames.specs.Frame.Streams.{Streams}
use Rattle.puffin_frames.specs.Packet.Stored.{Stored}
use Rattle.puffin_frames.specs.Packet.Next.{stored_of, IsFresh}
use Rattle.puffin_frames.proofs.lemmas.Keyed.{by_key-insert, entries-by_key}
use Rattle.puffin_view.specs.View.FrameFile.{HasGiven}
use Rattle.puffin_c.specs.declared.fault.Fault.{Fault}
use Rattle.puffin_c.specs.declared.fault.Fault.TheVariants as fault
use Rattle.puffin_c.specs.Faults.{file_fault}
use Rattle.puffin_c.specs.declared.threads.ThreadTotals.{ThreadTotals}
use Rattle.puffin_c.specs.declared.threads.PuffinFileThread.{PuffinFileThread}
use Rattle.puffin_c.specs.Threads.{Totals, no_totals, totals_with, with_stream, with_frame, totals_of, opened, AreOpened, LacksTotals, thread_row, thread_rows, thread_names}
use Rattle.puffin_view.proofs.lemmas.FrameStreams.{Held, entry_of, entries_held, said_fresh}
use Rattle.std.specs.Prelude.{Ok, Err}

-- an option whose value is kept is the same
same_option : {X : Type 0} (o : Option X) → option_map (λ x. x) o ≡ o
same_option None = refl
same_option (Some x) = refl

-- what a map of threads has under a thread
pub got : {X : Type 0} (es : List (ThreadInfo × X)) (thread : ThreadInfo) (o : Option X) →
    o ≡ lookup (is_at (thread_cmp thread)) es → tree.get (by_key es) (key_of thread) ≡ o
got es thread o is = get-seen key_of (λ x. x) key_cmp key_cmp_total es (key_of thread) ∙ same_option _ ∙ sym is

-- one stream more
pub stream_added : (old new : List (ThreadInfo × ThreadTotals)) (copy thread : ThreadInfo) (before after : ThreadTotals)
    (r : StreamFacts) → new ≡ insert_entry thread_cmp old copy after → key_of copy ≡ key_of thread
    → before ≡ unwrap_or (tree.get (by_key old) (key_of thread)) no_totals → after ≡ totals_with before r →
    by_key new ≡ with_stream (by_key old) (key_of thread, r)
stream_added old new copy thread before after r is same had with =
    ap by_key is ∙ by_key-insert old copy after ∙ (λ i. tree.insert (by_key old) (same i) (with i))
    ∙ ap (λ (t : ThreadTotals). tree.insert (by_key old) (key_of thread) (totals_with t r)) had

-- the streams that are left after it lead to the same totals
pub add_more : (old new : Totals) (e : Held) (rest it : List Held) (total : Totals) → it ≡ e ∷ rest →
    new ≡ with_stream old (entry_of e) → fold with_stream old (map entry_of it) ≡ total →
    fold with_stream new (map entry_of rest) ≡ total
add_more old new e rest it total left step before =
    ap (λ (m : Totals). fold with_stream m (map entry_of rest)) step
    ∙ ap (λ (es : List Held). fold with_stream old (map entry_of es)) (sym left) ∙ before

-- none is left: all are added, in the order of their threads
pub all_added : (old new : Totals) (all it : List Held) → it ≡ [] →
    fold with_stream new (map entry_of it) ≡ fold with_stream old (map entry_of all) →
    IsStrictlySortedBy thread_cmp (keys_of all) → new ≡ fold with_stream old (tree.entries (shared_streams all))
all_added old new all it none so_far sorted =
    sym (ap (λ (es : List Held). fold with_stream new (map entry_of es)) none) ∙ so_far
    ∙ ap (fold with_stream old) (sym (entries_held all sorted))

-- a fresh frame is opened as what is stored of it
pub opened_fresh : (frame : FrameData) → IsFresh frame → streams_in_fields (packet_fields frame) ≡ opened (stored_of frame)
opened_fresh frame fresh = ap streams_in_fields (said_fresh frame fresh)

-- one frame more is opened
pub opened_more : (stored : List Stored) (streams : List Streams) (next : Stored) (more : Streams) →
    AreOpened stored streams → opened next ≡ Ok more → AreOpened (stored ++ next ∷ []) (streams ++ more ∷ [])
opened_more [] [] next more are is = (is, tt)
opened_more [] (first ∷ streams) next more are is = absurd are
opened_more (s ∷ stored) [] next more are is = absurd are
opened_more (s ∷ stored) (first ∷ streams) next more (first_is, others) is =
    (first_is, opened_more stored streams next more others is)

-- one frame more
pub totals_more : (os : List Streams) (o : Streams) (old new : Totals) → old ≡ totals_of os → new ≡ with_frame old o →
    new ≡ totals_of (os ++ o ∷ [])
totals_more os o old new had is = is ∙ ap (λ (m : Totals). with_frame m o) had ∙ sym (fold-append with_frame tree.empty os (o ∷ []))

-- ---- rows

-- a thread with its totals
abbrev pub Entry : Type 0
Entry = ThreadInfo × ThreadTotals

-- the rows so far, and those of the threads that are left, are all of them; and so are the names
abbrev pub AllRows : List PuffinFileThread → List ℕ → List Entry → List PuffinFileThread → Type 0
AllRows rows names left total = rows ++ thread_rows (length names) (key_entries left) ≡ total

abbrev pub AllNames : List ℕ → List Entry → List ℕ → Type 0
AllNames names left total = names ++ thread_names (key_entries left) ≡ total

-- one thread more
pub rows_more : (before after : List PuffinFileThread) (names more : List ℕ) (k : ThreadInfo) (t : ThreadTotals)
    (rest it : List Entry) (total : List PuffinFileThread) → it ≡ (k, t) ∷ rest
    → after ≡ before ++ thread_row (length names) (key_of k, t) ∷ [] → more ≡ names ++ (key_of k).name →
    AllRows before names it total → AllRows after more rest total
rows_more before after names more k t rest it total left row longer so_far =
    let behind = length names + length (key_of k).name in
    let size : length more ≡ behind = ap length longer ∙ length-append names (key_of k).name in
    ap (λ (n : ℕ). after ++ thread_rows n (key_entries rest)) size
    ∙ ap (λ (l : List PuffinFileThread). l ++ thread_rows behind (key_entries rest)) row
    ∙ append_assoc before (thread_row (length names) (key_of k, t) ∷ []) (thread_rows behind (key_entries rest))
    ∙ ap (λ (es : List Entry). before ++ thread_rows (length names) (key_entries es)) (sym left) ∙ so_far

pub names_more : (names more : List ℕ) (k : ThreadInfo) (t : ThreadTotals) (rest it : List Entry) (total : List ℕ) →
    it ≡ (k, t) ∷ rest → more ≡ names ++ (key_of k).name → AllNames names it total → AllNames more rest total
names_more names more k t rest it total left longer so_far =
    let others = thread_names (key_entries rest) in
    ap (λ (l : List ℕ). l ++ others) longer ∙ append_assoc names (key_of k).name others
    ∙ ap (λ (es : List Entry). names ++ thread_names (key_entries es)) (sym left) ∙ so_far

-- no thread is left
pub rows_done : (rows : List PuffinFileThread) (names : List ℕ) (all it : List Entry) → it ≡ [] →
    AllRows rows names it (thread_rows 0 (key_entries all)) → IsStrictlySortedBy thread_cmp (keys_of all) →
    rows ≡ thread_rows 0 (tree.entries (by_key all))
rows_done rows names all it none so_far sorted =
    sym (append-nil rows) ∙ sym (ap (λ (es : List Entry). rows ++ thread_rows (length names) (key_entries es)) none)
    ∙ so_far ∙ ap (thread_rows 0) (sym (entries-by_key all sorted))

pub names_done : (names : List ℕ) (all it : List Entry) → it ≡ [] → AllNames names it (thread_names (key_entries all)) →
    IsStrictlySortedBy thread_cmp (keys_of all) → names ≡ thread_names (tree.entries (by_key all))
names_done names all it none so_far sorted =
    sym (append-nil names) ∙ sym (ap (λ (es : List Entry). names ++ thread_names (key_entries es)) none) ∙ so_far
    ∙ ap thread_names (sym (entries-by_key all sorted))

-- ---- refusals

-- a frame that can't be added
pub not_added : (bytes : List ℕ) (left : Option (List ℕ)) (stored : List Stored) (frames : List Streams)
    (frame : FrameData) (e f : Fault) → f ≡ e
    → HasGiven (Some bytes) left (stored ++ stored_of frame ∷ []) → AreOpened stored frames → IsFresh frame
    → ((e ≡ fault.Refused error.Memory)
    ⊎ ((cause : FileError) × (streams_in_fields (packet_fields frame) ≡ Err cause) × (e ≡ file_fault cause))) →
    LacksTotals bytes f
not_added bytes left stored frames frame e f same given opens fresh (inl memory) = inl (same ∙ memory)
not_added bytes left stored frames frame e f same given opens fresh (inr (cause, packed, is)) =
    inr (inl (cause, same ∙ is, (left, stored, frames, stored_of frame, given, opens, sym (opened_fresh frame fresh) ∙ packed)))

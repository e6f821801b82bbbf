-- The stream that a frame has under an info.
use Rattle.std.proofs.Common.{◌≡◌, ℕ, ◌+◌, ◌*◌, ◌/◌, ◌≤◌, ℤ, Bool, true, false, cond, List, [], ◌∷◌, length, Option, Some, None, Result, Ok, Err, ◌⊎◌, inl, inr, refl, sym, ap, subst, ◌∙◌, arith}
use Rattle.std.specs.Prelude.{IfOk, IfErr}
use Rattle.std.specs.Option.{option_map}
use Rattle.std.specs.FinMap as tree
use Rattle.std.specs.FinMap.Entries.{find}
use Rattle.std.specs.Cmp.{IsTotalOrder}
use Rattle.std.specs.Map.{lookup}
use Rattle.std.specs.BTreeMap.{is_at}
use Rattle.std.specs.Arc.{arc_value}
use Rattle.std.specs.declared.sync.Arc.{Arc}
use Rattle.std.specs.declared.alloc.Global.{Global}
use Rattle.puffin_data.specs.declared.data.form.Form.{Form}
use Rattle.puffin_data.specs.declared.error.Error.{Error}
use Rattle.puffin_data.specs.declared.error.Error.TheVariants.{Memory}
use Rattle.puffin_data.specs.declared.data.info.StreamInfo.{StreamInfo}
use Rattle.puffin_data.specs.Forest.{empty}
use Rattle.puffin_data.specs.Honesty.{StreamFacts, facts_of}
use Rattle.puffin_data.specs.Walk.Visitor.{TakesAll, StopsEarly}
use Rattle.puffin_threads.specs.declared.thread_profiler.thread_info.ThreadInfo.{ThreadInfo}
use Rattle.puffin_frames.specs.declared.frame_data.unpacked.UnpackedFrameData.{UnpackedFrameData}
use Rattle.puffin_threads.specs.Thread.ThreadKey.{key_of, key_cmp, thread_cmp, key_entries}
use Rattle.puffin_frames.specs.Frame.Contents.{records, without_sharing}
use Rattle.puffin_merge.specs.declared.merge.table.Table.{Table}
use Rattle.puffin_merge.specs.declared.merge.stream.Merging.{Merging}
use Rattle.puffin_merge.specs.Merge.FrameBytes.{StreamBytes, form_of, bytes_of, most_tries_of}
use Rattle.puffin_merge.specs.Merge.Scopes.{stream_in, frame_bytes}
use Rattle.puffin_merge.specs.inner.Merging.{TakesScopes, RefusesScope, takes_none}

-- a stream as a frame holds it, shared
abbrev Shared : Type 0
Shared = Arc StreamInfo Global

-- what contracts see of it
abbrev held : Shared → StreamFacts
held x = facts_of (arc_value x)

-- its form and bytes
abbrev stream_held : Shared → StreamBytes
stream_held x = record { form = (arc_value x).stream.form; bytes = (arc_value x).stream.bytes }

-- one step of the search below, whether the thread is at this entry (b) or not
at_test : (b : Bool) (x : Shared) (f : Option StreamFacts) (l : Option Shared) → f ≡ option_map held l
    → cond b (Some (held x)) f ≡ option_map held (cond b (Some x) l)
at_test true x f l e = refl
at_test false x f l e = e

-- finding a thread's facts by its key is looking up its stream in the frame's entries
find_is : (info : ThreadInfo) (entries : List (ThreadInfo × Shared)) → find key_cmp (key_of info)
    (key_entries (records (without_sharing entries))) ≡ option_map held (lookup (is_at (thread_cmp info)) entries)
find_is info [] = refl
find_is info (e ∷ entries) =
    at_test (is_at (thread_cmp info) e.0) e.1 _ (lookup (is_at (thread_cmp info)) entries) (find_is info entries)

-- so the frame's stream for a thread is the one that the look-up gives
stream_is : IsTotalOrder key_cmp → (info : ThreadInfo) (frame : UnpackedFrameData) (r : Option Shared)
    → r ≡ lookup (is_at (thread_cmp info)) frame.thread_streams.entries
    → (frame_bytes (key_of info) frame).stream ≡ option_map stream_held r
stream_is total info frame r found_is =
    let found =
    tree.get-from_entries total (key_entries (records (without_sharing frame.thread_streams.entries))) (key_of info)
    ∙ find_is info frame.thread_streams.entries ∙ ap (option_map held) (sym found_is) in
    ap (option_map stream_in) found ∙ twice r
  where
    twice : (r : Option Shared) → option_map stream_in (option_map held r) ≡ option_map stream_held r
    twice None = refl
    twice (Some x) = refl

-- a frame without a stream for the thread has no bytes
pub no_bytes : IsTotalOrder key_cmp → (info : ThreadInfo) (frame : UnpackedFrameData)
    → ◌≡◌ {A = Option Shared} None (lookup (is_at (thread_cmp info)) frame.thread_streams.entries)
    → bytes_of (frame_bytes (key_of info) frame) ≡ []
no_bytes total info frame found_is =
    ap (λ (s : Option StreamBytes). bytes_of (record { start = frame.meta.range_ns.0; stream = s }))
    (stream_is total info frame None found_is)

-- the frame's bytes are those of the thread's stream
pub some_bytes : IsTotalOrder key_cmp → (info : ThreadInfo) (frame : UnpackedFrameData) (x : Shared)
    → Some x ≡ lookup (is_at (thread_cmp info)) frame.thread_streams.entries
    → bytes_of (frame_bytes (key_of info) frame) ≡ (arc_value x).stream.bytes
some_bytes total info frame x found_is =
    ap (λ (s : Option StreamBytes). bytes_of (record { start = frame.meta.range_ns.0; stream = s }))
    (stream_is total info frame (Some x) found_is)

-- the frame's form is that of the thread's stream
pub some_form : IsTotalOrder key_cmp → (info : ThreadInfo) (frame : UnpackedFrameData) (x : Shared)
    → Some x ≡ lookup (is_at (thread_cmp info)) frame.thread_streams.entries
    → form_of (frame_bytes (key_of info) frame) ≡ (arc_value x).stream.form
some_form total info frame x found_is =
    ap (λ (s : Option StreamBytes). form_of (record { start = frame.meta.range_ns.0; stream = s }))
    (stream_is total info frame (Some x) found_is)

-- the walk's tries are within the frame's bound
pub some_tries : IsTotalOrder key_cmp → (info : ThreadInfo) (frame : UnpackedFrameData) (x : Shared) (made : ℕ)
    → Some x ≡ lookup (is_at (thread_cmp info)) frame.thread_streams.entries
    → 31 * made ≤ length (arc_value x).stream.bytes + 31 → made ≤ most_tries_of (frame_bytes (key_of info) frame)
some_tries total info frame x made found_is few_tries =
    subst (λ (n : ℕ). made ≤ n) (sym (ap (λ (s : Option StreamBytes). most_tries_of
    (record { start = frame.meta.range_ns.0; stream = s })) (stream_is total info frame (Some x) found_is)))
    (few made (length (arc_value x).stream.bytes) few_tries)
  where
    few : (made n : ℕ) → 31 * made ≤ n + 31 → made ≤ n / 31 + 1
    few made n few_tries = omega arith

-- ---- said of the frame

-- the visitor with this table and origin
abbrev at_origin : Table → ℤ → Merging
at_origin t o = record { table = t; origin = o }

-- no bytes spell no scopes, so nothing is taken
pub nothing_taken : (form : Form) (t : Table) (origin frame_origin : ℤ) (bytes : List ℕ) → origin ≡ frame_origin → bytes ≡ []
    → TakesAll form TakesScopes (at_origin t frame_origin) (at_origin t origin) bytes 0
nothing_taken form t origin frame_origin bytes same_origin none = record {
  forest = empty;
  spells = record { whole = none; fits = tt };
  taken = subst (λ (o : ℤ). TakesScopes (at_origin t o) [] (at_origin t origin)) same_origin (takes_none (at_origin t origin));
  tries = refl;
}

-- what the walk took is told of the frame's form, bytes and origin
pub taken_of_frame : (form frame_form : Form) (t : Table) (origin frame_origin : ℤ)
    (bytes frame_bytes_are : List ℕ) (w : Merging) (made : ℕ) (r : Result (Unit {0}) Error)
    → form ≡ frame_form → origin ≡ frame_origin → bytes ≡ frame_bytes_are
    → IfOk r (λ _. TakesAll form TakesScopes (at_origin t origin) w bytes made)
    → IfOk r (λ _. TakesAll frame_form TakesScopes (at_origin t frame_origin) w frame_bytes_are made)
taken_of_frame form frame_form t origin frame_origin bytes frame_bytes_are w made (Err e) same_form same_origin same_bytes taken = tt
taken_of_frame form frame_form t origin frame_origin bytes frame_bytes_are w made (Ok x) same_form same_origin same_bytes taken =
    subst (λ (f : Form). TakesAll f TakesScopes (at_origin t frame_origin) w frame_bytes_are made)
    same_form (subst (λ (o : ℤ). TakesAll form TakesScopes (at_origin t o) w frame_bytes_are made) same_origin
    (subst (λ (xs : List ℕ). TakesAll form TakesScopes (at_origin t origin) w xs made) same_bytes taken))

-- the walk's refusal is told of the frame's form, bytes and origin
pub refused_of_frame : (form frame_form : Form) (t : Table) (origin frame_origin : ℤ)
    (bytes frame_bytes_are : List ℕ) (w : Merging) (made : ℕ) (r : Result (Unit {0}) Error)
    → form ≡ frame_form → origin ≡ frame_origin → bytes ≡ frame_bytes_are
    → IfErr r (λ e. (e ≡ Memory) ⊎ StopsEarly form TakesScopes RefusesScope (at_origin t origin) w bytes made e)
    → IfErr r (λ e. (e ≡ Memory) ⊎ StopsEarly frame_form TakesScopes RefusesScope (at_origin t frame_origin) w frame_bytes_are made e)
refused_of_frame form frame_form t origin frame_origin bytes frame_bytes_are w made (Ok x) same_form same_origin same_bytes refused = tt
refused_of_frame form frame_form t origin frame_origin bytes frame_bytes_are w made (Err e) same_form same_origin same_bytes
    (inl memory) = inl memory
refused_of_frame form frame_form t origin frame_origin bytes frame_bytes_are w made (Err e) same_form same_origin same_bytes
    (inr stops) =
    inr (subst (λ (f : Form). StopsEarly f TakesScopes RefusesScope (at_origin t frame_origin) w frame_bytes_are made e)
    same_form (subst (λ (o : ℤ). StopsEarly form TakesScopes RefusesScope (at_origin t o) w frame_bytes_are made e) same_origin
    (subst (λ (xs : List ℕ). StopsEarly form TakesScopes RefusesScope (at_origin t origin) w xs made e) same_bytes stops)))

-- The trace of a file: its frames, threads and scopes as events in JSON.
use Rattle.std.specs.Prelude.{◌≡◌, ℕ, ◌+◌, ◌/◌, ℤ, pos, negsuc, ◌-ℤ◌, unsigned_abs, List, [], ◌∷◌, ◌++◌, codes, fold, Option, Some, None}
use Rattle.std.specs.Fmt.{decimal, signed_decimal}
use Rattle.std.specs.FinMap as map
use Rattle.std.specs.List.{flat_map}
use Rattle.json.specs.Print.{quoted}
use Rattle.puffin_data.specs.Forest.{Span, Forest}
use Rattle.puffin_data.specs.Text.{text_in}
use Rattle.puffin_data.specs.Walk.PlacedScopes.{nested_in}
use Rattle.puffin_threads.specs.Details.{Details}
use Rattle.puffin_threads.specs.Thread.ThreadKey.{ThreadKey, key_cmp}
use Rattle.puffin_frames.specs.declared.frame_data.meta.FrameMeta.{FrameMeta}
use Rattle.puffin_look.specs.OpenFrame.{OpenFrame}
use Rattle.puffin_look.specs.Trees.{Tree, TreeFrame, AreRead, all_streams, outputs}
use Rattle.puffin_look.specs.Wanted.{frames_within}
use Rattle.puffin_look.specs.declared.wanted.Indices.{Indices}
use Rattle.puffin_look.specs.declared.overview.Overview.{Overview}
use Rattle.puffin_look.specs.Cells.{digit}
use Rattle.puffin_look.specs.Names.{name_or_id}
use Rattle.puffin_look.specs.ThreadLines.{start_text}

-- ---- a time in microseconds, with three digits behind the point

abbrev pub thousandths : ℕ → List ℕ
thousandths number =
    decimal (number / 1000)
    ++ (46 ∷ digit (number / 100) ∷ digit (number / 10) ∷ digit number ∷ [])

-- how long after the origin; what is before it is at it
abbrev pub at_least_zero : ℤ → ℕ
at_least_zero (pos time) = time
at_least_zero (negsuc time) = 0

abbrev pub since : ℤ → ℤ → ℕ
since origin time = at_least_zero (time -ℤ origin)

-- ---- a scope

-- when it began, after the file's least start, and how long it took
abbrev pub times_text : ℤ → ℤ → ℤ → List ℕ
times_text origin start stop =
    (codes ",\"ts\":" ++ thousandths (since origin start))
    ++ (codes ",\"dur\":" ++ thousandths (unsigned_abs (stop -ℤ start)))

-- its file and line, if it has details, and the end of the event
abbrev pub place_text : Option Details → List ℕ
place_text None = codes "}}"
place_text (Some details) =
    (codes ",\"file\":" ++ quoted details.file_path)
    ++ ((codes ",\"line\":" ++ decimal details.line_nr) ++ codes "}}")

abbrev pub labels_text : Option Details → ℕ → List ℕ → List ℕ
labels_text details id text =
    (codes ",\"name\":" ++ quoted (name_or_id id details))
    ++ ((codes ",\"args\":{\"text\":" ++ quoted (text_in text)) ++ place_text details)

abbrev pub scope_event : Overview → ℕ → Span → List ℕ
scope_event overview tid span =
    (codes ",\n{\"ph\":\"X\",\"pid\":1,\"tid\":" ++ decimal tid)
    ++ (times_text overview.start span.start span.stop
    ++ labels_text (map.get overview.details.by_id span.id) span.id span.text)

-- each scope of a forest, before its children
abbrev pub forest_events : Overview → ℕ → Forest → List ℕ
forest_events overview tid forest =
    flat_map (λ s. scope_event overview tid s.span) (nested_in [] forest)

-- ---- threads

-- Threads are numbered in the order in which they are met, from 1 on.
abbrev pub Numbers : Type 0
Numbers = map.FinMap key_cmp ℕ

-- the number of a thread, or the next one if it has none
abbrev pub number_or : Numbers → Option ℕ → ℕ
number_or numbers (Some tid) = tid
number_or numbers None = map.len numbers + 1

abbrev pub number_of : Numbers → ThreadKey → ℕ
number_of numbers key = number_or numbers (map.get numbers key)

-- the numbers, with that of this thread
abbrev pub numbered_or : Numbers → ThreadKey → Option ℕ → Numbers
numbered_or numbers key (Some tid) = numbers
numbered_or numbers key None = map.insert numbers key (map.len numbers + 1)

abbrev pub numbered : Numbers → ThreadKey → Numbers
numbered numbers key = numbered_or numbers key (map.get numbers key)

-- a thread's name and start
abbrev pub thread_event : ℕ → ThreadKey → List ℕ
thread_event tid key =
    (codes ",\n{\"ph\":\"M\",\"pid\":1,\"tid\":" ++ decimal tid)
    ++ ((codes ",\"name\":\"thread_name\",\"args\":{\"name\":" ++ quoted key.name)
    ++ ((codes ",\"start\":\"" ++ start_text key.start) ++ codes "\"}}"))

-- the event of a thread that is met for the first time
abbrev pub naming_or : Numbers → ThreadKey → Option ℕ → List ℕ
naming_or numbers key (Some tid) = []
naming_or numbers key None = thread_event (map.len numbers + 1) key

abbrev pub naming : Numbers → ThreadKey → List ℕ
naming numbers key = naming_or numbers key (map.get numbers key)

-- the scopes of a thread
abbrev pub tree_events : Overview → Numbers → Tree → List ℕ
tree_events overview numbers tree =
    naming numbers tree.0 ++ forest_events overview (number_of numbers tree.0) tree.1

abbrev pub numbered_with : Numbers → Tree → Numbers
numbered_with numbers tree = numbered numbers tree.0

-- ---- frames

-- a frame as an instant, with its range in nanoseconds
abbrev pub frame_event : ℤ → FrameMeta → List ℕ
frame_event origin meta =
    (codes ",\n{\"ph\":\"i\",\"s\":\"p\",\"pid\":1,\"tid\":0,\"ts\":"
    ++ thousandths (since origin meta.range_ns.0))
    ++ ((codes ",\"name\":\"frame " ++ decimal meta.frame_index)
    ++ ((codes "\",\"args\":{\"start\":\"" ++ signed_decimal meta.range_ns.0)
    ++ ((codes "\",\"stop\":\"" ++ signed_decimal meta.range_ns.1) ++ codes "\"}}")))

abbrev pub frame_events : Overview → Numbers → TreeFrame → List ℕ
frame_events overview numbers frame =
    frame_event overview.start frame.meta
    ++ outputs (tree_events overview) numbered_with numbers frame.trees

abbrev pub numbered_by : Numbers → TreeFrame → Numbers
numbered_by numbers frame = fold numbered_with numbers frame.trees

abbrev pub events : Overview → Numbers → List TreeFrame → List ℕ
events overview numbers frames = outputs (frame_events overview) numbered_by numbers frames

-- ---- a file

abbrev pub trace_head : List ℕ
trace_head =
    codes "{\"displayTimeUnit\":\"ns\",\"traceEvents\":[\n"
    ++ codes "{\"ph\":\"M\",\"pid\":1,\"name\":\"process_name\",\"args\":{\"name\":\"puffin\"}}"

abbrev pub trace_end : List ℕ
trace_end = codes "\n]}\n"

-- the trace of those of these frames that have these indices
abbrev pub IsTrace : Overview → Option Indices → List OpenFrame → List ℕ → Type 0
IsTrace overview indices frames text =
    (trees : List TreeFrame)
    × AreRead all_streams (frames_within indices frames) trees
    × (text ≡ trace_head ++ (events overview map.empty trees ++ trace_end))

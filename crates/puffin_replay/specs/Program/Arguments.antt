-- What the program's arguments ask for.
use Rattle.std.specs.Prelude.{ℕ, ◌+◌, ◌^◌, ◌==◌, ℤ, pos, neg_ℤ, List, [], ◌∷◌, Bool, Option, Some, None, option_map, codes, if◌then◌else◌}
use Rattle.std.specs.List.{list_any, before_first, after_first}
use Rattle.std.specs.Str.{bytes_eq}
use Rattle.std.specs.String.{string_bytes}
use Rattle.puffin_threads.specs.Thread.ThreadKey.{ThreadKey, key_of}
use Rattle.puffin_replay.specs.declared.replay.task.Task.{Task}
use Rattle.puffin_replay.specs.declared.replay.task.Task.TheVariants as task
use Rattle.puffin_data.specs.Number.{number_below}
use Rattle.puffin_replay.specs.Script.Statements.{moment_in}

-- ---- a thread

-- a time, in nanoseconds; a leading `-` makes it negative
abbrev pub signed_moment_in : List ℕ → Option ℤ
signed_moment_in [] = None
signed_moment_in (byte ∷ bytes) =
    if byte == 45 then option_map (λ n. neg_ℤ (pos n)) (number_below (2 ^ 63 + 1) bytes)
    else moment_in (byte ∷ bytes)

-- the start of a thread's first scope, or `-` for none
abbrev pub start_in : List ℕ → Option (Option ℤ)
start_in word =
    if bytes_eq word (codes "-") then Some None
    else option_map (λ time. Some time) (signed_moment_in word)

abbrev pub is_colon : ℕ → Bool
is_colon byte = byte == 58

-- `START:NAME`; the name is all that follows the first colon
abbrev pub thread_of_word : List ℕ → Option ThreadKey
thread_of_word word =
    if list_any is_colon word
    then option_map (λ start. record { start = start; name = after_first is_colon word }) (
    start_in (before_first is_colon word))
    else None

-- ---- what is asked for

-- a count, a replay of the script at one path into the file at another, or a report of the file at a path for a thread
pub data Request : Type 0 where
  count : Request
  replay : List ℕ → List ℕ → Request
  report : List ℕ → ThreadKey → Request

-- the report of this file for the thread in this word
abbrev pub report_by : List ℕ → List ℕ → Option Request
report_by file thread = option_map (report file) (thread_of_word thread)

-- the request in the program's arguments
abbrev pub request_in : List (List ℕ) → Option Request
request_in (word ∷ []) = if bytes_eq word (codes "count") then Some count else None
request_in (word ∷ (first ∷ (second ∷ []))) =
    if bytes_eq word (codes "replay") then Some (replay first second) else
    if bytes_eq word (codes "report") then report_by first second else None
request_in _ = None

-- the request of a task
abbrev pub request_of : Task → Request
request_of task.Count = count
request_of (task.Replay script out) = replay (string_bytes script) (string_bytes out)
request_of (task.Report file thread) = report (string_bytes file) (key_of thread)

-- the request has paths
abbrev pub HasPaths : Option Request → Type 0
HasPaths None = ⊥
HasPaths (Some count) = ⊥
HasPaths (Some (replay script out)) = Unit {0}
HasPaths (Some (report file thread)) = Unit {0}

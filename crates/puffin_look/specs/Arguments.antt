-- What the program's arguments ask for.
use Rattle.std.specs.Prelude.{ℕ, ◌^◌, ◌-◌, Bool, ◌==◌, List, [], ◌∷◌, nat_lt, Option, Some, None, option_map, codes, if◌then◌else◌}
use Rattle.std.specs.Option.{option_and_then}
use Rattle.std.specs.Str.{bytes_eq}
use Rattle.puffin_data.specs.Number.{number_below}
use Rattle.std.specs.List.{before_first, after_first}
use denote.Ref.{Bor}
use Rattle.puffin_look.specs.declared.wanted.Indices.{Indices}
use Rattle.puffin_look.specs.declared.top.By.{By}
use Rattle.puffin_look.specs.declared.top.By.TheVariants as by
use Rattle.puffin_look.specs.declared.task.View.{View}
use Rattle.puffin_look.specs.declared.task.View.TheVariants.{Threads, Frames, Slowest, Frame, Trace, Folded, Top, Diff, SlowFrames, Page}

-- what is shown of a file
pub data Wish : Type 0 where
  all_threads : Wish
  some_frames : (indices : Option Indices) → Wish
  slowest_frames : (limit : ℕ) → Wish
  a_frame : (index : ℕ) → (thread : Option (List ℕ)) → Wish
  a_trace : Wish
  folded_stacks : (thread : Option (List ℕ)) → Wish
  top_scopes : (thread : Option (List ℕ)) → Wish
  a_diff : (new : List ℕ) → (thread : Option (List ℕ)) → Wish
  slow_paths : (limit : ℕ) → Wish
  a_page : (place : List ℕ) → Wish

abbrev pub is_dot : ℕ → Bool
is_dot byte = byte == 46

abbrev pub behind_dot : List ℕ → Option (List ℕ)
behind_dot [] = None
behind_dot (byte ∷ bytes) = if is_dot byte then Some bytes else None

abbrev pub from_to : Option ℕ → Option ℕ → Option Indices
from_to (Some from) (Some below) =
    if nat_lt from below then Some (record { first = from; last = below - 1 }) else None
from_to _ _ = None

-- `A..B`: from A on, and below B
abbrev pub range_in : List ℕ → Option Indices
range_in word =
    from_to (number_below (2 ^ 64) (before_first is_dot word))
    (option_and_then (number_below (2 ^ 64)) (behind_dot (after_first is_dot word)))

-- so many of the slowest frames, or those with these indices
abbrev pub number_or_range : Option ℕ → List ℕ → Option Wish
number_or_range (Some limit) more = Some (slowest_frames limit)
number_or_range None more = option_map (λ i. some_frames (Some i)) (range_in more)

abbrev pub frames_in : List ℕ → Option Wish
frames_in more = number_or_range (number_below (2 ^ 64) more) more

-- a word that is followed by the path alone
abbrev pub list_in : List ℕ → Option Wish
list_in word =
    if bytes_eq word (codes "threads") then Some all_threads else
    if bytes_eq word (codes "frames") then Some (some_frames None) else
    if bytes_eq word (codes "trace") then Some a_trace else
    if bytes_eq word (codes "folded") then Some (folded_stacks None) else
    if bytes_eq word (codes "top") then Some (top_scopes None) else
    if bytes_eq word (codes "slowest") then Some (slow_paths 5) else None

-- a word that is followed by the path, an index or another path, and perhaps a thread
abbrev pub threaded_in : List ℕ → List ℕ → Option (List ℕ) → Option Wish
threaded_in word more thread =
    if bytes_eq word (codes "frame") then
    option_map (λ index. a_frame index thread) (number_below (2 ^ 64) more) else
    if bytes_eq word (codes "diff") then Some (a_diff more thread) else None

-- a word that is followed by the path and one more word
abbrev pub detailed_in : List ℕ → List ℕ → Option Wish
detailed_in word more =
    if bytes_eq word (codes "frames") then frames_in more else
    if bytes_eq word (codes "folded") then Some (folded_stacks (Some more)) else
    if bytes_eq word (codes "top") then Some (top_scopes (Some more)) else
    if bytes_eq word (codes "slowest") then
    option_map (λ limit. slow_paths limit) (number_below (2 ^ 64) more) else
    if bytes_eq word (codes "view") then Some (a_page more) else
    threaded_in word more None

-- what to show, and the path of the file
abbrev pub Request : Type 0
Request = Wish × List ℕ

abbrev pub request_in : List (List ℕ) → Option Request
request_in (word ∷ (path ∷ [])) = option_map (λ wish. (wish, path)) (list_in word)
request_in (word ∷ (path ∷ (more ∷ []))) =
    option_map (λ wish. (wish, path)) (detailed_in word more)
request_in (word ∷ (path ∷ (more ∷ (thread ∷ [])))) =
    option_map (λ wish. (wish, path)) (threaded_in word more (Some thread))
request_in _ = None

-- a view whose thread is borrowed, and a request with it
abbrev pub wish_of : View → Wish
wish_of Threads = all_threads
wish_of (Frames indices) = some_frames indices
wish_of (Slowest limit) = slowest_frames limit
wish_of (Frame index thread) = a_frame index (option_map (λ t. t.now) thread)
wish_of Trace = a_trace
wish_of (Folded thread) = folded_stacks (option_map (λ t. t.now) thread)
wish_of (Top thread) = top_scopes (option_map (λ t. t.now) thread)
wish_of (Diff new thread) = a_diff new.now (option_map (λ t. t.now) thread)
wish_of (SlowFrames limit) = slow_paths limit
wish_of (Page place) = a_page place.now

abbrev pub request_of : View × Bor (List ℕ) → Request
request_of asked = (wish_of asked.0, asked.1.now)

-- ---- in what order scopes are shown by name

abbrev pub order_in : List ℕ → Option By
order_in word =
    if bytes_eq word (codes "own") then Some by.Own else
    if bytes_eq word (codes "total") then Some by.Total else
    if bytes_eq word (codes "calls") then Some by.Calls else
    if bytes_eq word (codes "max") then Some by.Greatest else None

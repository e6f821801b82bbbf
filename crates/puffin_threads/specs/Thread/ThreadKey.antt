-- What contracts see of a thread's info (its start and name), and the order of infos.
use Rattle.std.specs.Prelude.{ℕ, ℤ, Bool, List, Option, map, string_bytes, refl}
use Rattle.std.specs.declared.cmp.Ordering.{Ordering}
use Rattle.std.specs.Ordering.{nat_cmp, int_cmp, on, then_cmp, eq_by_cmp}
use Rattle.std.specs.FinMap.{FinMap, from_entries}
use Rattle.std.specs.Coded.{Coded, code_by, coded×, coded_option, coded_list, coded_ℕ, coded_ℤ}
use Rattle.std.specs.Option.{option_cmp}
use Rattle.std.specs.Cmp.Lexicographic.{slice_cmp}
use Rattle.puffin_threads.specs.declared.thread_profiler.thread_info.ThreadInfo.{ThreadInfo}

-- the start of a thread's first scope, if it is known, and the bytes of the thread's name
pub record ThreadKey : Type 0 where
  pub start : Option ℤ
  pub name : List ℕ

-- what contracts see of a thread's info
abbrev pub key_of : ThreadInfo → ThreadKey
key_of thread = record { start = thread.start_time_ns; name = string_bytes thread.name }

-- the order of infos: by start, none first, then by the name's bytes
abbrev pub key_cmp : ThreadKey → ThreadKey → Ordering
key_cmp =
    then_cmp (on (λ thread. thread.start) (option_cmp int_cmp))
    (on (λ thread. thread.name) (slice_cmp nat_cmp))

-- the same order of threads
abbrev pub thread_cmp : ThreadInfo → ThreadInfo → Ordering
thread_cmp = on key_of key_cmp

-- whether two infos are equal
abbrev pub has_same_key : ThreadKey → ThreadKey → Bool
has_same_key = eq_by_cmp key_cmp

-- an info as the pair of its fields, and back: two are equal if their pairs are
abbrev pub key_code : Coded ThreadKey
key_code =
    code_by (Option ℤ × List ℕ) (coded× (coded_option coded_ℤ) (coded_list coded_ℕ))
    (λ thread. (thread.start, thread.name))
    (λ fields. record { start = fields.0; name = fields.1 })
    (λ _. refl)

-- the entries of a map of threads, keyed by the threads' infos
abbrev pub key_entries : {X : Type 0} → List (ThreadInfo × X) → List (ThreadKey × X)
key_entries entries = map (λ entry. (key_of entry.0, entry.1)) entries

-- the map of these entries
abbrev pub by_key : {X : Type 0} → List (ThreadInfo × X) → FinMap key_cmp X
by_key entries = from_entries (key_entries entries)

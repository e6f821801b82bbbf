-- How a guard begins: with a scope, or without one.
use Rattle.std.specs.Prelude.{ℕ, ◌+◌, ◌≡◌, ℤ, pos, ◌≤ℤ◌, List, Option, Some, None}
use Rattle.puffin_data.specs.Forest.Spelling.{size_offset}
use Rattle.puffin_data.specs.declared.error.Error.{Error}
use Rattle.puffin_data.specs.Text.{cut_text}
use Rattle.puffin_data.specs.Forest.Words.{word_size}
use Rattle.puffin_threads.specs.declared.thread_profiler.profiler.ThreadProfiler.{ThreadProfiler}
use Rattle.puffin_threads.specs.Thread.ThreadProfiler.{thread_of, clock_of}
use Rattle.puffin_threads.specs.Thread.Calls.{Thread, after_begin}
use Rattle.puffin_scopes.specs.declared.profiler_scope.ProfilerScope.{ProfilerScope}
use Rattle.puffin_scopes.specs.Guards.Guard.{profiler_of, offset_of, guard_refusal}

-- the offset at which a scope with this text will keep its size, if it begins now: past all that is written, and its own head
abbrev pub begun_offset : Thread → List ℕ → ℕ
begun_offset thread text =
    word_size thread.form thread.word + size_offset thread.form (cut_text thread.form text)

-- The guard has a scope with this id and text, begun just as the profiler's own call begins one, at a time that the clock gave.
-- `answers` is the clock's contract: its state before a reading, the time, and its state after.
pub record IsOn {Clock : Type 0} (answers : Clock → ℤ → Clock → Type 0)
    (old : ThreadProfiler Clock) (id : ℕ) (text : List ℕ) (scope : ProfilerScope Clock) : Type 0 where
  pub at : ℤ
  pub answered : answers (clock_of old) at (clock_of (profiler_of scope))
  pub never_negative : pos 0 ≤ℤ at
  pub begun : thread_of (profiler_of scope)
      ≡ after_begin (thread_of old) id (cut_text (thread_of old).form text) at
  pub offset : offset_of scope ≡ Some (begun_offset (thread_of old) text)
  pub refusal : guard_refusal scope ≡ None

-- The profiler didn't change, and the guard has no scope: it was refused for this reason, or is off if there is none.
pub record IsOff {Clock : Type 0} (old : ThreadProfiler Clock) (refusal : Option Error)
    (scope : ProfilerScope Clock) : Type 0 where
  pub unchanged : profiler_of scope ≡ old
  pub offset : offset_of scope ≡ None
  pub why : guard_refusal scope ≡ refusal

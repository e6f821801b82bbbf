-- What single commands do to a session, for the proof of a run.
use Rattle.std.specs.Prelude.{◌≡◌, ℕ, ℤ, List, [], ◌∷◌, ◌++◌, slice_set}
use Rattle.std.specs.List.{slice_index_or, flat_map, sum_by}
use Rattle.std.specs.FinMap.{values}
use Rattle.puffin_data.specs.Forest.Words.{least_open, greatest_close}
use Rattle.puffin_threads.specs.Thread.Calls.{Thread}
use Rattle.puffin_threads.specs.Details.{Details}
use Rattle.puffin_threads.specs.Thread.Closing.{Closes}
use Rattle.puffin_frames.specs.Frame.Contents.{Streams}
use Rattle.puffin_frames.specs.Frame.Sums.{total_bytes, total_scopes, joined_start, joined_stop}
use Rattle.puffin_threads.specs.declared.thread_profiler.reporter.Closed.{Closed}
use Rattle.puffin_collector.specs.Collector.State.{Collected, AcceptsReport, RefusesReport}
use Rattle.puffin_session.specs.declared.command.Command.{Command}
use Rattle.puffin_session.specs.declared.command.Reply.{Reply}
use Rattle.puffin_session.specs.Session.History.{Opening, Action, nobody}
use Rattle.puffin_session.specs.Session.Deliveries.{Delivery}
use Rattle.puffin_session.specs.Session.Due.{due, events_of, bytes_delivered, scopes_delivered}
use Rattle.puffin_session.specs.Session.{SessionState, StandsAfter}
use Rattle.puffin_session.specs.Session.Actions.{action_of}
use Rattle.puffin_session.specs.Session.Replies.{MayReply}

-- ---- what single calls do

-- the thread with this number
abbrev pub session_thread : SessionState → ℕ → Thread
session_thread state number = slice_index_or state.threads number nobody

-- the session with this thread at this number, and with this collected
abbrev pub session_with_thread : SessionState → ℕ → Thread → Collected → SessionState
session_with_thread state number thread collected =
    record { threads = slice_set state.threads number thread; collected = collected }

-- the session with the same threads, and with this collected
abbrev pub session_with_collected : SessionState → Collected → SessionState
session_with_collected state collected = record { threads = state.threads; collected = collected }

-- The innermost scope of a thread was ended. If it was the last open one, the report of the whole word was accepted, or it was
-- refused and what is collected didn't change.
abbrev pub EndsInnermost : Thread → Thread → ℤ → Collected → Collected → Closed → Type 0
EndsInnermost old new at before after closed =
    Closes AcceptsReport RefusesReport old new at before after closed

-- ---- what a run keeps

-- The sums over these streams are those over what was handed over, and their range is that of all its events.
pub record SumsTo (streams : Streams) (handed : List Delivery) : Type 0 where
  pub bytes : total_bytes (values streams) ≡ sum_by bytes_delivered handed
  pub scopes : total_scopes (values streams) ≡ sum_by scopes_delivered handed
  pub start : joined_start (values streams) ≡ least_open (flat_map events_of handed)
  pub stop : joined_stop (values streams) ≡ greatest_close (flat_map events_of handed)

-- the state of a session after a history, in which the sums over what is collected are those over what is due
pub record Continued (opening : Opening) (done : List Action) (now : SessionState) : Type 0 where
  pub stands : StandsAfter opening done now
  pub sums : SumsTo now.collected.streams (due opening done)

-- A command got this reply, and these details became known. Whatever history led to the session's old state, that history
-- followed by what the command did leads to the new one, and the command may get this reply after it.
abbrev pub ContinuesBy : SessionState → SessionState → Command → Reply → List Details → Type 0
ContinuesBy old new command reply learnt =
    (opening : Opening) (done : List Action) → Continued opening done old →
    Continued opening (done ++ (action_of command reply learnt ∷ [])) new
    × MayReply opening done command reply learnt

-- the same, with some details that became known
abbrev pub Continues : SessionState → SessionState → Command → Reply → Type 0
Continues old new command reply =
    (learnt : List Details) × ContinuesBy old new command reply learnt

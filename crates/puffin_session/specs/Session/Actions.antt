-- The action of a command with its reply, and those of a run.
use Rattle.std.specs.Prelude.{ℕ, List, [], ◌∷◌, map, Option, Some, is_some, Bool, true, false}
use Rattle.std.specs.String.{string_bytes}
use Rattle.std.specs.Option.{option_map}
use Rattle.std.specs.declared.string.String.{String}
use Rattle.puffin_threads.specs.Thread.ThreadKey.{key_of}
use Rattle.puffin_threads.specs.declared.thread_profiler.reporter.Closed.{Closed}
use Rattle.puffin_threads.specs.declared.thread_profiler.reporter.Closed.TheVariants as closed
use Rattle.puffin_threads.specs.Details.{Details, default_details, with_id}
use Rattle.puffin_session.specs.declared.command.Command.{Command}
use Rattle.puffin_session.specs.declared.command.Command.TheVariants.{Begin, End, Register, RegisterUser, ReportUser, Snapshot, NewFrame}
use Rattle.puffin_session.specs.declared.command.Reply.{Reply}
use Rattle.puffin_session.specs.declared.command.Reply.TheVariants as reply
use Rattle.puffin_session.specs.Session.{word_in}
use Rattle.puffin_session.specs.Session.History.{begun, ended, Action, calls, hands, frames, registers, adds, learns, wants, nothing}

-- the last open scope was closed, and its report accepted
abbrev pub is_reported : Closed → Bool
is_reported closed.Reported = true
is_reported _ = false

-- the details that a command registers, before they have an id
abbrev pub details_given : Option (List ℕ) → List ℕ → List ℕ → ℕ → Details
details_given name function file line = record default_details {
  scope_name = name;
  function_name = function;
  file_path = file;
  line_nr = line;
}

-- the details of user scopes, which have only a name
abbrev pub user_details : {A : Type 0} → List (String A) → List Details
user_details names =
    map (λ name. record default_details { scope_name = Some (string_bytes name) }) names

-- What a command with this reply did. The details that became known are given too, because command and reply don't contain
-- them: those of new user scopes, and those that a refused frame had already added.
abbrev pub action_of : Command → Reply → List Details → Action
action_of (Begin thread at id text) (reply.Began offset) learnt =
    calls thread (record { at = at; mark = begun id (string_bytes text) })
action_of (End thread at back) (reply.Ended closed) learnt =
    calls thread (record { at = at; mark = ended (is_reported closed) })
action_of (Register thread name function file line) (reply.Registered id) learnt =
    registers thread (with_id
    (details_given (option_map string_bytes name) (string_bytes function) (string_bytes file) line)
    id)
action_of (RegisterUser names) (reply.RegisteredUser ids) learnt = adds learnt
action_of (RegisterUser names) (reply.Refused cause) learnt = adds learnt
action_of (ReportUser info stream) reply.Reported learnt =
    hands (key_of info) (word_in stream.form stream.bytes)
action_of Snapshot reply.Snapshot learnt = wants
action_of NewFrame (reply.Frame emitted) learnt = frames (is_some emitted.frame)
action_of NewFrame (reply.Refused cause) learnt = learns learnt
action_of _ _ learnt = nothing

-- what each command did, given its reply and the details that became known
abbrev pub actions_of : List Command → List Reply → List (List Details) → List Action
actions_of (command ∷ commands) (reply ∷ replies) (details ∷ learnt) =
    action_of command reply details ∷ actions_of commands replies learnt
actions_of _ _ _ = []

-- The commands of a script.
pub mod Statements
use Rattle.std.specs.Prelude.{◌≡◌, ℕ, ◌+◌, ◌==◌, List, [], ◌∷◌, ◌++◌, map, Bool, true, false, Option, Some, None, option_map, Result, Ok, Err, if◌then◌else◌, slice_get}
use Rattle.std.specs.List.{slice_split, list_any, filter}
use Rattle.std.specs.Str.{bytes_eq, is_utf8}
use Rattle.std.specs.String.{string_bytes}
use Rattle.puffin_replay.specs.Script.Statements.{Meaning, makes_long, begins, ends, registers, registers_user, tells_all, takes_frame, words_in, line_meaning}
use Rattle.puffin_data.specs.declared.data.form.Form.{Form}
use Rattle.puffin_data.specs.declared.data.form.Form.TheVariants.{Short, Long}
use Rattle.puffin_session.specs.declared.command.Command.{Command}
use Rattle.puffin_session.specs.declared.command.Command.TheVariants as command
use Rattle.puffin_replay.specs.declared.replay.fault.ToolFault.{ToolFault}
use Rattle.puffin_replay.specs.declared.replay.fault.ToolFault.TheVariants as fault
use Rattle.puffin_replay.specs.declared.replay.script.Script.{Script}

-- ---- lines

abbrev pub is_line_feed : ℕ → Bool
is_line_feed byte = byte == 10

-- the lines of a script, without their line feeds; after the last line feed comes a line that may be empty
abbrev pub lines_in : List ℕ → List (List ℕ)
lines_in bytes = slice_split is_line_feed bytes

-- a line that is empty or begins with `#`
abbrev pub is_skipped : List ℕ → Bool
is_skipped [] = true
is_skipped (byte ∷ bytes) = byte == 35

-- the meaning of a line that isn't skipped, if it has one, and else its number
abbrev pub meaning_or_number : ℕ → Option Meaning → Result (Option Meaning) ℕ
meaning_or_number number None = Err number
meaning_or_number number (Some meaning) = Ok (Some meaning)

-- the meaning of a line with this number, unless it is skipped; or the number, if the line isn't text or isn't valid
unfoldable pub told_by : ℕ → List ℕ → Result (Option Meaning) ℕ
told_by number line =
    if is_utf8 line
    then (
    if is_skipped line then Ok None
    else meaning_or_number number (line_meaning (words_in line)))
    else Err number

-- ---- threads

-- the thread that a line names, if any
abbrev pub thread_named_by : Meaning → Option (List ℕ)
thread_named_by (makes_long thread) = Some thread
thread_named_by (begins thread at id text) = Some thread
thread_named_by (ends thread at) = Some thread
thread_named_by (registers thread name function file line) = Some thread
thread_named_by _ = None

-- a new name is appended to the others
abbrev pub with_name : List (List ℕ) → List ℕ → List (List ℕ)
with_name names name = if list_any (bytes_eq name) names then names else names ++ name ∷ []

-- the same, if there is a name
abbrev pub with_if_named : List (List ℕ) → Option (List ℕ) → List (List ℕ)
with_if_named names None = names
with_if_named names (Some name) = with_name names name

-- with the thread that a line names, if it is new
abbrev pub with_thread_of : List (List ℕ) → Meaning → List (List ℕ)
with_thread_of names meaning = with_if_named names (thread_named_by meaning)

-- the threads' names, in the order of their first lines, after the names that were already there
abbrev pub threads_after : List (List ℕ) → List (ℕ × Meaning) → List (List ℕ)
threads_after names [] = names
threads_after names (first ∷ later) = threads_after (with_thread_of names first.1) later

-- the form of a thread whose first line this is
abbrev pub form_begun : Meaning → Form
form_begun (makes_long thread) = Long
form_begun _ = Short

-- the form of a new name is appended to the others
abbrev pub with_form : List (List ℕ) → List Form → Option (List ℕ) → Form → List Form
with_form names forms None form = forms
with_form names forms (Some name) form =
    if list_any (bytes_eq name) names then forms else forms ++ form ∷ []

-- with the form of the thread that a line names, if that is new
abbrev pub with_form_of : List (List ℕ) → List Form → Meaning → List Form
with_form_of names forms meaning =
    with_form names forms (thread_named_by meaning) (form_begun meaning)

-- the forms of the threads, one for each name, after those that were already there
abbrev pub forms_after : List (List ℕ) → List Form → List (ℕ × Meaning) → List Form
forms_after names forms [] = forms
forms_after names forms (first ∷ later) =
    forms_after (with_thread_of names first.1) (with_form_of names forms first.1) later

-- ---- statements

-- a line makes long the form of a thread that an earlier line has named
abbrev pub is_late : List (List ℕ) → Meaning → Bool
is_late names (makes_long thread) = list_any (bytes_eq thread) names
is_late names _ = false

-- what a line tells, or its number if it comes too late
abbrev pub unless_late : ℕ → List (List ℕ) → Result (Option Meaning) ℕ → Result (Option Meaning) ℕ
unless_late number names (Err wrong) = Err wrong
unless_late number names (Ok None) = Ok None
unless_late number names (Ok (Some meaning)) =
    if is_late names meaning then Err number else Ok (Some meaning)

-- the first line's number and meaning, followed by those of the later lines, if those are valid
abbrev pub with_statement : ℕ × Meaning → Result (List (ℕ × Meaning)) ℕ →
    Result (List (ℕ × Meaning)) ℕ
with_statement first (Ok later) = Ok (first ∷ later)
with_statement first (Err wrong) = Err wrong

-- the meaning of a line, followed by those of the later lines, for which its thread is already named
abbrev pub with_first : ℕ → List (List ℕ) → Result (Option Meaning) ℕ →
    (List (List ℕ) → Result (List (ℕ × Meaning)) ℕ) → Result (List (ℕ × Meaning)) ℕ
with_first number names (Err wrong) later = Err wrong
with_first number names (Ok None) later = later names
with_first number names (Ok (Some meaning)) later =
    with_statement (number, meaning) (later (with_thread_of names meaning))

-- the meanings of the lines from this number on, after these threads, in order, each with its number; or the number of the first
-- line that isn't valid or comes too late
abbrev pub statements_from : ℕ → List (List ℕ) → List (List ℕ) → Result (List (ℕ × Meaning)) ℕ
statements_from number names [] = Ok []
statements_from number names (line ∷ lines) =
    with_first number names (unless_late number names (told_by number line))
    (λ named. statements_from (number + 1) named lines)

-- ---- commands

-- the meaning of a command for user scopes, which has a line only for one name
abbrev pub user_said : List (List ℕ) → Option Meaning
user_said (name ∷ []) = Some (registers_user name)
user_said _ = None

-- the meaning of a command, if threads have these names
abbrev pub command_said : List (List ℕ) → Command → Option Meaning
command_said names (command.Begin thread at id text) =
    option_map (λ name. begins name at id (string_bytes text)) (slice_get names thread)
command_said names (command.End thread at back) =
    if back == 0 then option_map (λ name. ends name at) (slice_get names thread) else None
command_said names (command.Register thread scope function file line) =
    option_map
    (λ name.
    registers name (option_map string_bytes scope) (string_bytes function) (string_bytes file)
    line)
    (slice_get names thread)
command_said names (command.RegisterUser users) = user_said (map string_bytes users.items)
command_said names (command.ReportUser info stream) = None
command_said names command.Snapshot = Some tells_all
command_said names command.NewFrame = Some takes_frame

-- a line that makes a thread's form long isn't a command
abbrev pub is_command : Meaning → Bool
is_command (makes_long thread) = false
is_command _ = true

-- the lines that are commands
abbrev pub commands_in : List (ℕ × Meaning) → List (ℕ × Meaning)
commands_in statements = filter (λ statement. is_command statement.1) statements

-- The lines have the meanings of the commands, with threads numbered in the order of their first lines, and each command has its
-- line's number.
pub record IsScript (bytes : List ℕ) (script : Script) : Type 0 where
  pub statements : List (ℕ × Meaning)
  pub told : statements_from 1 [] (lines_in bytes) ≡ Ok statements
  pub lines : script.lines.items ≡ map (λ statement. statement.0) (commands_in statements)
  pub names : map string_bytes script.names.items ≡ threads_after [] statements
  pub forms : script.forms.items ≡ forms_after [] [] statements
  pub commands : map (command_said (map string_bytes script.names.items)) script.commands.items
      ≡ map (λ statement. Some statement.1) (commands_in statements)

-- the fault is the number of the first line that isn't valid or comes too late
abbrev pub IsLineFault : List ℕ → ToolFault → Type 0
IsLineFault bytes told =
    (number : ℕ)
    × (told ≡ fault.Line number)
    × (statements_from 1 [] (lines_in bytes) ≡ Err number)

-- ---- the threads of a script

-- names with their forms, short if there is none
abbrev pub with_forms : List (List ℕ) → List Form → List (List ℕ × Form)
with_forms [] forms = []
with_forms (name ∷ names) [] = (name, Short) ∷ with_forms names []
with_forms (name ∷ names) (form ∷ forms) = (name, form) ∷ with_forms names forms

-- the names and the forms of a script's threads
abbrev pub threads_said : Script → List (List ℕ × Form)
threads_said script = with_forms (map string_bytes script.names.items) script.forms.items

-- What has been read of a script so far, and what remains of it.
use Rattle.std.specs.Prelude.{◌≡◌, ℕ, List, [], map, true, false, Option, Some, None, option_map, slice_get, MatchOption}
use Rattle.std.specs.List.{list_any}
use Rattle.std.specs.Ordering.{nat_cmp}
use Rattle.std.specs.Cmp.Lexicographic.{slice_cmp}
use Rattle.std.specs.BTreeMap.{get_by}
use Rattle.std.specs.Str.{bytes_eq}
use Rattle.std.specs.String.{string_bytes}
use Rattle.std.specs.Borrow.{Bor}
use Rattle.puffin_replay.specs.declared.replay.script.Lines.{Lines}
use Rattle.puffin_replay.specs.declared.replay.script.Reading.{Reading}
use Rattle.puffin_replay.specs.declared.replay.script.Threads.{Threads}
use Rattle.puffin_replay.specs.declared.replay.statement.Statement.{Statement}
use Rattle.puffin_replay.specs.declared.replay.statement.Statement.TheVariants as statement
use Rattle.puffin_replay.specs.declared.replay.statement.Words.{Words}
use Rattle.puffin_replay.specs.Script.Statements.{Meaning, words_in, makes_long, begins, ends, registers, registers_user, takes_frame, tells_all}
use Rattle.puffin_replay.specs.Script.{lines_in, with_thread_of, with_form_of, threads_after, forms_after, is_command, commands_in, command_said}
use Rattle.puffin_session.specs.declared.command.Command.{Command}

-- ---- a line

-- the remaining words of a line
abbrev pub words_behind : Option (Bor (List ℕ)) → List (List ℕ)
words_behind None = []
words_behind (Some text) = words_in text.now

abbrev pub words_left : Words → List (List ℕ)
words_left words = words_behind words.left

-- the meaning of a line, as the code holds it
abbrev pub meaning_of : Statement → Meaning
meaning_of (statement.Long thread) = makes_long thread.now
meaning_of (statement.Begin thread at id text) = begins thread.now at id text.now
meaning_of (statement.End thread at) = ends thread.now at
meaning_of (statement.Register thread name function file line) =
    registers thread.now (option_map (λ (scope : Bor (List ℕ)). scope.now) name) function.now
    file.now line
meaning_of (statement.RegisterUser name) = registers_user name.now
meaning_of statement.Snapshot = tells_all
meaning_of statement.NewFrame = takes_frame

-- ---- a script

-- the remaining lines of a script
abbrev pub lines_behind : Option (Bor (List ℕ)) → List (List ℕ)
lines_behind None = []
lines_behind (Some bytes) = lines_in bytes.now

abbrev pub lines_left : Lines → List (List ℕ)
lines_left lines = lines_behind lines.left

-- the names of the threads, by their numbers
abbrev pub names_in : Threads → List (List ℕ)
names_in threads = map string_bytes threads.names.items

-- each name has its number, and no other text has one
abbrev pub IsNumbered : Threads → Type 0
IsNumbered threads =
    (name : List ℕ) → MatchOption (get_by (λ k. slice_cmp nat_cmp name k.now) threads.numbers)
    (list_any (bytes_eq name) (names_in threads) ≡ false)
    (λ number. slice_get (names_in threads) number ≡ Some name)

-- a command has the meaning of a line; if there is no command, the line isn't one
abbrev pub Asks : List (List ℕ) → Option Command → Meaning → Type 0
Asks names None meaning = is_command meaning ≡ false
Asks names (Some command) meaning =
    (is_command meaning ≡ true) × (command_said names command ≡ Some meaning)

-- the threads after a line with this meaning, and its command
abbrev pub Follows : Threads → Threads → Option Command → Meaning → Type 0
Follows old new command meaning =
    IsNumbered new
    × (names_in new ≡ with_thread_of (names_in old) meaning)
    × (new.forms.items ≡ with_form_of (names_in old) old.forms.items meaning)
    × Asks (names_in new) command meaning

-- These are the meanings of the lines that were read so far, without those that are skipped.
pub record IsReading (reading : Reading) (statements : List (ℕ × Meaning)) : Type 0 where
  pub numbered : IsNumbered reading.threads
  pub lines : reading.lines.items ≡ map (λ told. told.0) (commands_in statements)
  pub names : names_in reading.threads ≡ threads_after [] statements
  pub forms : reading.threads.forms.items ≡ forms_after [] [] statements
  pub commands : map (command_said (names_in reading.threads)) reading.commands.items
      ≡ map (λ told. Some told.1) (commands_in statements)

-- The meaning of one line of a script.
use Rattle.std.specs.Prelude.{ℕ, ◌^◌, ℤ, pos, ◌==◌, List, [], ◌∷◌, codes, Bool, Option, Some, None, option_map, if◌then◌else◌}
use Rattle.std.specs.List.{slice_split, join_with_byte}
use Rattle.std.specs.Option.{option_and_then}
use Rattle.std.specs.Str.{bytes_eq}
use Rattle.puffin_data.specs.Number.{number_below}

-- what a line says
pub data Meaning : Type 0 where
  -- makes the form of a thread long
  makes_long : (thread : List ℕ) → Meaning
  -- begins a scope
  begins : (thread : List ℕ) → (at : ℤ) → (id : ℕ) → (text : List ℕ) → Meaning
  -- ends the innermost open scope of a thread
  ends : (thread : List ℕ) → (at : ℤ) → Meaning
  -- registers a scope's details with a thread; a function's have no name
  registers : (thread : List ℕ) → (name : Option (List ℕ)) → (function : List ℕ) → (file : List ℕ) →
      (line : ℕ) → Meaning
  -- registers one of the caller's own scopes
  registers_user : (name : List ℕ) → Meaning
  -- makes the next frame list every known scope
  tells_all : Meaning
  takes_frame : Meaning

-- ---- words

abbrev pub is_blank : ℕ → Bool
is_blank byte = byte == 32

-- the words of a line, separated by single blanks
abbrev pub words_in : List ℕ → List (List ℕ)
words_in line = slice_split is_blank line

-- words joined again as in their line
abbrev pub joined_words : List (List ℕ) → List ℕ
joined_words words = join_with_byte 32 words

-- a word that isn't empty
abbrev pub name_in : List ℕ → Option (List ℕ)
name_in [] = None
name_in (byte ∷ bytes) = Some (byte ∷ bytes)

-- a time, in nanoseconds
abbrev pub moment_in : List ℕ → Option ℤ
moment_in word = option_map pos (number_below (2 ^ 63) word)

-- the number of a line of code
abbrev pub line_of : List ℕ → Option ℕ
line_of word = number_below (2 ^ 32) word

-- the number, if it isn't 0
abbrev pub unless_zero : ℕ → Option ℕ
unless_zero number = if number == 0 then None else Some number

-- a scope's id
abbrev pub id_of : List ℕ → Option ℕ
id_of word = option_and_then unless_zero (line_of word)

-- ---- lines, by the words after the first

-- `THREAD TIME ID`, and a text if there is one: the rest of the line
abbrev pub begin_of : List (List ℕ) → Option Meaning
begin_of (first ∷ second ∷ third ∷ text) =
    option_and_then
    (λ thread.
    option_and_then
    (λ at. option_map (λ id. begins thread at id (joined_words text)) (id_of third))
    (moment_in second))
    (name_in first)
begin_of _ = None

-- `THREAD`
abbrev pub long_of : List (List ℕ) → Option Meaning
long_of (word ∷ []) = option_map (λ thread. makes_long thread) (name_in word)
long_of _ = None

-- `THREAD TIME`
abbrev pub end_of : List (List ℕ) → Option Meaning
end_of (first ∷ second ∷ []) =
    option_and_then (λ thread. option_map (λ at. ends thread at) (moment_in second))
    (name_in first)
end_of _ = None

-- `FUNCTION FILE LINE`, for this thread and with this name of the scope
abbrev pub registration_of : List ℕ → Option (List ℕ) → List (List ℕ) → Option Meaning
registration_of thread name (first ∷ second ∷ third ∷ []) =
    option_and_then
    (λ function.
    option_and_then
    (λ path. option_map (λ line. registers thread name function path line) (line_of third))
    (name_in second))
    (name_in first)
registration_of thread name _ = None

-- `THREAD FUNCTION FILE LINE`
abbrev pub function_of : List (List ℕ) → Option Meaning
function_of (first ∷ words) =
    option_and_then (λ thread. registration_of thread None words) (name_in first)
function_of [] = None

-- `THREAD NAME FUNCTION FILE LINE`
abbrev pub scope_of : List (List ℕ) → Option Meaning
scope_of (first ∷ second ∷ words) =
    option_and_then
    (λ thread.
    option_and_then (λ name. registration_of thread (Some name) words) (name_in second))
    (name_in first)
scope_of _ = None

-- `NAME`
abbrev pub user_of : List (List ℕ) → Option Meaning
user_of (word ∷ []) = option_map (λ name. registers_user name) (name_in word)
user_of _ = None

-- no word, in a line that means this
abbrev pub meaning_alone : Meaning → List (List ℕ) → Option Meaning
meaning_alone meaning [] = Some meaning
meaning_alone meaning (word ∷ words) = None

-- the meaning of a line, by its words
abbrev pub line_meaning : List (List ℕ) → Option Meaning
line_meaning [] = None
line_meaning (verb ∷ words) =
    if bytes_eq verb (codes "begin") then begin_of words else
    if bytes_eq verb (codes "end") then end_of words else
    if bytes_eq verb (codes "function") then function_of words else
    if bytes_eq verb (codes "scope") then scope_of words else
    if bytes_eq verb (codes "user") then user_of words else
    if bytes_eq verb (codes "snapshot") then meaning_alone tells_all words else
    if bytes_eq verb (codes "frame") then meaning_alone takes_frame words else
    if bytes_eq verb (codes "long") then long_of words else None

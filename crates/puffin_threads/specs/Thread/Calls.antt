-- What a thread has recorded, and how each call changes it.
use Rattle.std.specs.Prelude.{◌≡◌, ℕ, ◌+◌, ℤ, pos, List, [], ◌∷◌, ◌++◌, drop, fold, Option, Some, None, Result, Ok, Err}
use Rattle.std.specs.Int.{int_max}
use Rattle.std.specs.Option.{option_or}
use Rattle.puffin_data.specs.declared.error.Error.{Error}
use Rattle.puffin_data.specs.declared.data.form.Form.{Form}
use Rattle.puffin_data.specs.Forest.Spelling.{size_offset, head_size, end_size}
use Rattle.puffin_data.specs.Forest.Tour.{Event, Open, Close}
use Rattle.puffin_data.specs.Forest.Words.{word_size}
use Rattle.puffin_data.specs.Text.{cut_text}
use Rattle.puffin_threads.specs.Thread.ThreadKey.{ThreadKey}
use Rattle.puffin_threads.specs.Details.{Details, with_id, IsAddingCause}

-- a thread: its name and form, the start of its first scope, its greatest time so far, and its events and registered details that no
-- accepted report has handed over
pub record Thread : Type 0 where
  pub name : List ℕ
  pub form : Form
  pub first_start : Option ℤ
  pub latest : ℤ
  pub word : List Event
  pub details : List Details

-- a thread with this name and form that has recorded nothing
abbrev pub new_thread : List ℕ → Form → Thread
new_thread name form = record {
  name = name;
  form = form;
  first_start = None;
  latest = pos 0;
  word = [];
  details = [];
}

-- the time of a call if the clock answers `at`: the greatest answer so far
abbrev pub time_of : Thread → ℤ → ℤ
time_of thread at = int_max thread.latest at

-- after beginning a scope with this id and stored text
abbrev pub after_begin : Thread → ℕ → List ℕ → ℤ → Thread
after_begin thread id text at = record thread {
  first_start = option_or thread.first_start (Some (time_of thread at));
  latest = time_of thread at;
  word = thread.word ++ (Open id text (time_of thread at) ∷ []);
}

-- after ending the innermost scope
abbrev pub after_end : Thread → ℤ → Thread
after_end thread at = record thread {
  latest = time_of thread at;
  word = thread.word ++ (Close (time_of thread at) ∷ []);
}

-- after registering details
abbrev pub after_registering : Thread → Details → Thread
after_registering thread details = record thread { details = thread.details ++ (details ∷ []) }

-- Registers a scope with these details and the id drawn for it, for the next accepted report; or nothing changes.
abbrev pub RegistersScope : Thread → Details → Result ℕ Error → Thread → Type 0
RegistersScope old details (Ok id) new = new ≡ after_registering old (with_id details id)
RegistersScope old details (Err cause) new = (new ≡ old) × IsAddingCause cause

-- after an accepted report, which hands over all of its events and details
abbrev pub after_handing : Thread → Thread
after_handing thread = record thread { word = []; details = [] }

-- the info under which a report hands scopes over
abbrev pub key_of_thread : Thread → ThreadKey
key_of_thread thread = record { start = thread.first_start; name = thread.name }

-- the number of scopes that end
abbrev pub num_ended : List Event → ℕ
num_ended [] = 0
num_ended (Open id text start ∷ word) = num_ended word
num_ended (Close stop ∷ word) = 1 + num_ended word

-- after one more event: the number of bytes so far, and the offsets of the open scopes' sizes, the innermost first
abbrev pub opened_after : Form → ℕ × List ℕ → Event → ℕ × List ℕ
opened_after form sofar (Open id text start) =
    (sofar.0 + head_size form text, (sofar.0 + size_offset form text) ∷ sofar.1)
opened_after form sofar (Close stop) = (sofar.0 + end_size, drop 1 sofar.1)

-- the offsets of the scopes that are open after a word, the innermost first
abbrev pub open_offsets : Form → List Event → List ℕ
open_offsets form word = (fold (opened_after form) (0, []) word).1

-- the offsets of a thread's open scopes
abbrev pub offsets_of : Thread → List ℕ
offsets_of thread = open_offsets thread.form thread.word

-- the time of a scripted clock that is set to this time: a negative one counts as 0
abbrev pub clock_time : ℤ → ℤ
clock_time at = int_max (pos 0) at

-- the offset that a scope with this text gets if it begins now: where its size is stored
abbrev pub begun_place : Thread → List ℕ → ℕ
begun_place thread text =
    word_size thread.form thread.word + size_offset thread.form (cut_text thread.form text)

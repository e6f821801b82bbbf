-- How the calls on the handles of ids and threads change what the handles hold.
use Rattle.std.specs.Prelude.{◌≡◌, ◌≢◌, ◌⊎◌, ℕ, ◌<◌, ℤ, Bool, true, false, List, Option, Some, None, Result, Ok, Err, is_some, slice_get}
use Rattle.std.specs.Str.{IsUtf8}
use Rattle.puffin_data.specs.declared.data.form.Form.{Form}
use Rattle.puffin_data.specs.declared.error.Error.TheVariants as error
use Rattle.puffin_data.specs.Text.{cut_text}
use Rattle.puffin_data.specs.Forest.Words.{open_after}
use Rattle.puffin_threads.specs.Thread.Calls.{Thread, new_thread, after_begin, after_end, offsets_of, num_ended, clock_time, begun_place}
use Rattle.puffin_threads.specs.Thread.Discarding.{after_discarding}
use Rattle.puffin_c.specs.declared.fault.Fault.{Fault}
use Rattle.puffin_c.specs.declared.fault.Fault.TheVariants as fault

-- why a text is refused: the first cause that applies
abbrev pub IsNoText : List ℕ → Fault → Type 0
IsNoText text cause =
    ((cause ≡ fault.NotText) × ¬ (IsUtf8 text)) ⊎ ((cause ≡ fault.Refused error.Memory)
    × IsUtf8 text)

-- a handle that held nothing now holds ids; or nothing is changed
abbrev pub OpensIds : {X : Type 0} → Option X → Option X → Result (Unit {0}) Fault → Type 0
OpensIds old new (Ok _) = (old ≡ None) × (is_some new ≡ true)
OpensIds old new (Err cause) =
    (new ≡ old)
    × (((cause ≡ fault.IsOpen) × (is_some old ≡ true))
    ⊎ ((cause ≡ fault.Refused error.Memory) × (old ≡ None)))

-- There are ids, and a handle that held nothing now holds a new thread. Or nothing is changed, and the fault is the first that
-- applies.
abbrev pub Opens : Option Thread → Bool → List ℕ → Form → Option Thread →
    Result (Unit {0}) Fault → Type 0
Opens old has_ids name form new (Ok _) =
    (old ≡ None) × (has_ids ≡ true) × IsUtf8 name × (new ≡ Some (new_thread name form))
Opens old has_ids name form new (Err cause) =
    (new ≡ old)
    × (((cause ≡ fault.IsOpen) × (is_some old ≡ true))
    ⊎ ((old ≡ None)
    × (((cause ≡ fault.NotOpen) × (has_ids ≡ false)) ⊎ ((has_ids ≡ true) × IsNoText name cause))))

-- a handle that held something now holds nothing; or it held nothing, and the call is refused
abbrev pub Closes : {X : Type 0} → Option X → Option X → Result (Unit {0}) Fault → Type 0
Closes old new (Ok _) = (is_some old ≡ true) × (new ≡ None)
Closes old new (Err cause) = (cause ≡ fault.NotOpen) × (old ≡ None) × (new ≡ None)

-- A scope was begun in the handle's thread, and this is its offset. Or nothing is changed, and the fault is the first that
-- applies.
abbrev pub Begins : Option Thread → ℤ → ℕ → List ℕ → Option Thread → ℕ → ℕ →
    Result (Unit {0}) Fault → Type 0
Begins old at id text new before place (Ok _) =
    (thread : Thread)
    × (old ≡ Some thread)
    × (0 < id)
    × IsUtf8 text
    × (new ≡ Some (after_begin thread id (cut_text thread.form text) (clock_time at)))
    × (place ≡ begun_place thread text)
Begins old at id text new before place (Err cause) =
    (new ≡ old)
    × (place ≡ before)
    × (((cause ≡ fault.NotOpen) × (old ≡ None))
    ⊎ ((is_some old ≡ true)
    × (((cause ≡ fault.NoId) × (id ≡ 0)) ⊎ ((0 < id) × IsNoText text cause))))

-- the offset that stands for no scope; no scope has it
abbrev pub no_scope : ℕ
no_scope = 0

-- scopes are off: nothing is begun, and the offset is that of no scope; or the handle isn't open
abbrev pub Skips : Option Thread → Option Thread → ℕ → ℕ → Result (Unit {0}) Fault → Type 0
Skips old new before place (Ok _) = (new ≡ old) × (is_some old ≡ true) × (place ≡ no_scope)
Skips old new before place (Err cause) =
    (new ≡ old) × (place ≡ before) × (cause ≡ fault.NotOpen) × (old ≡ None)

-- begins a scope if scopes are on
abbrev pub BeginsIf : Bool → Option Thread → ℤ → ℕ → List ℕ → Option Thread → ℕ → ℕ →
    Result (Unit {0}) Fault → Type 0
BeginsIf true old at id text new before place answer =
    Begins old at id text new before place answer
BeginsIf false old at id text new before place answer = Skips old new before place answer

-- The innermost scope, which has this offset, was ended; or the offset is that of no scope; or nothing is changed.
abbrev pub Ends : Option Thread → ℤ → ℕ → Option Thread → Result (Unit {0}) Fault → Type 0
Ends old at place new (Ok _) =
    (thread : Thread)
    × (old ≡ Some thread)
    × (((slice_get (offsets_of thread) 0 ≡ Some place)
    × (new ≡ Some (after_end thread (clock_time at))))
    ⊎ ((slice_get (offsets_of thread) 0 ≢ Some place) × (place ≡ no_scope) × (new ≡ old)))
Ends old at place new (Err cause) =
    (new ≡ old)
    × (((cause ≡ fault.NotOpen) × (old ≡ None))
    ⊎ ((cause ≡ fault.Refused error.MismatchedEnd)
    × (place ≢ no_scope)
    × (thread : Thread)
    × (old ≡ Some thread)
    × (slice_get (offsets_of thread) 0 ≢ Some place)))

-- the closed scopes were given up, and counted; or nothing is changed
abbrev pub Discards : Option Thread → Option Thread → ℕ → ℕ → Result (Unit {0}) Fault → Type 0
Discards old new before number (Ok _) =
    (thread : Thread)
    × (old ≡ Some thread)
    × (open_after 0 thread.word ≡ 0)
    × (new ≡ Some (after_discarding thread))
    × (number ≡ num_ended thread.word)
Discards old new before number (Err cause) =
    (new ≡ old)
    × (number ≡ before)
    × (((cause ≡ fault.NotOpen) × (old ≡ None))
    ⊎ ((cause ≡ fault.Refused error.ScopesOpen)
    × (thread : Thread)
    × (old ≡ Some thread)
    × (0 < open_after 0 thread.word)))

-- what an open handle holds is as it was; or the handle isn't open
abbrev pub Keeps : {X : Type 0} → Option X → Option X → Result (Unit {0}) Fault → Type 0
Keeps old new (Ok _) = (new ≡ old) × (is_some old ≡ true)
Keeps old new (Err cause) = (new ≡ old) × (cause ≡ fault.NotOpen) × (old ≡ None)

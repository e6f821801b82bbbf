-- What is due for the next frame: all that was handed over since the last emitted frame.
use Rattle.std.specs.Prelude.{◌≡◌, ◌≢◌, ℕ, ◌+◌, ◌<◌, ◌==◌, Bool, true, false, if◌then◌else◌, List, [], ◌++◌, length, map, fold, Option, Some, None}
use Rattle.std.specs.Option.{unwrap_or}
use Rattle.std.specs.List.{count_by, sum_by}
use Rattle.puffin_data.specs.declared.data.form.Form.TheVariants.{Short}
use Rattle.puffin_data.specs.Forest.Tour.{Event}
use Rattle.puffin_data.specs.Forest.Words.{word_size, num_begun}
use Rattle.puffin_threads.specs.Thread.ThreadKey.{ThreadKey, has_same_key}
use Rattle.puffin_session.specs.Session.History.{Word, Opening, Action, frames, since_last}
use Rattle.puffin_session.specs.Session.Deliveries.{Delivery, under, all_taken, deliveries}

-- all that was handed over before was taken into a frame
abbrev pub is_taken : Delivery → Bool
is_taken (under info word) = false
is_taken all_taken = true

-- what was handed over since the last emitted frame; if there was none, what was due at the opening and all that was handed
-- over since then
abbrev pub due : Opening → List Action → List Delivery
due opening done =
    since_last is_taken
    (map (λ entry. under entry.0 entry.1) opening.due ++ deliveries opening done)

-- ---- under one info

abbrev pub no_word : Word
no_word = record { form = Short; events = [] }

-- two words, joined; without events the first takes the second's form
abbrev pub joined_word : Word → Word → Word
joined_word first second = record {
  form = if length first.events == 0 then second.form else first.form;
  events = first.events ++ second.events;
}

-- both have events, and their forms differ
abbrev pub AreUnlikeWords : Word → Word → Type 0
AreUnlikeWords first second =
    (0 < length first.events) × (0 < length second.events) × (first.form ≢ second.form)

-- what was handed over under an info, with one more delivery
abbrev pub with_delivery : ThreadKey → Option Word → Delivery → Option Word
with_delivery info sofar (under other word) =
    if has_same_key info other then Some (joined_word (unwrap_or sofar no_word) word) else sofar
with_delivery info sofar all_taken = sofar

-- what was handed over under an info: nothing, or these words joined
abbrev pub total_under : List Delivery → ThreadKey → Option Word
total_under handed info = fold (with_delivery info) None handed

-- what was handed over under an info, and this word, have events in unlike forms
abbrev pub IsUnlikeDue : List Delivery → ThreadKey → Word → Type 0
IsUnlikeDue handed info word =
    AreUnlikeWords (unwrap_or (total_under handed info) no_word) word

-- no scope is due, though there may be infos
abbrev pub NoneDue : List Delivery → Type 0
NoneDue handed =
    (info : ThreadKey) (word : Word) → total_under handed info ≡ Some word → word.events ≡ []

-- ---- in all

abbrev pub events_of : Delivery → List Event
events_of (under info word) = word.events
events_of all_taken = []

-- a command for a frame was accepted, with or without a frame
abbrev pub is_numbered : Action → Bool
is_numbered (frames emitted) = true
is_numbered _ = false

-- the next frame's index
abbrev pub index_after : Opening → List Action → ℕ
index_after opening done = opening.index + count_by is_numbered done

-- the bytes and the scopes of what was handed over
abbrev pub bytes_delivered : Delivery → ℕ
bytes_delivered (under info word) = word_size word.form word.events
bytes_delivered all_taken = 0

abbrev pub scopes_delivered : Delivery → ℕ
scopes_delivered (under info word) = num_begun word.events
scopes_delivered all_taken = 0

-- the number of scopes ever reported
abbrev pub reported_after : Opening → List Action → ℕ
reported_after opening done =
    opening.reported + sum_by scopes_delivered (deliveries opening done)

-- A thread's word, cut after each accepted report: what was handed over, and what is unreported.
use Rattle.std.specs.Prelude.{ℕ, ℤ, Bool, false, if◌then◌else◌, List, [], ◌∷◌, ◌++◌, map, Option, Some, None}
use Rattle.std.specs.Option.{option_or}
use Rattle.puffin_data.specs.declared.data.form.Form.{Form}
use Rattle.puffin_data.specs.Text.{cut_text}
use Rattle.puffin_data.specs.Forest.Tour.{Event, Open, Close}
use Rattle.puffin_threads.specs.Thread.ThreadKey.{ThreadKey}
use Rattle.puffin_session.specs.Session.History.{Word, Opening, Mark, begun, ended, Call, Action, calls, hands, frames, thread_at, calls_of, greatest, latest_of, since_last}

-- an event, and whether a report was accepted after it
pub record Marked : Type 0 where
  pub event : Event
  pub reported : Bool

-- the event of a mark at this time, with the part of the scope's text that the form stores
abbrev pub marked_call : Form → ℤ → Mark → Marked
marked_call form time (begun id text) =
    record { event = Open id (cut_text form text) time; reported = false }
marked_call form time (ended reported) = record { event = Close time; reported = reported }

-- each call at the greatest time so far, after the calls of the past
abbrev pub marked_calls : Form → ℤ → List Call → List Call → List Marked
marked_calls form latest past [] = []
marked_calls form latest past (call ∷ later) =
    marked_call form (greatest latest (past ++ (call ∷ []))) call.mark
    ∷ marked_calls form latest (past ++ (call ∷ [])) later

-- the start of the first scope
abbrev pub first_open : List Marked → Option ℤ
first_open [] = None
first_open (first ∷ later) =
    elim first.event [ Open id text start ↦ Some start | Close stop ↦ first_open later ]

module _ (opening : Opening) where
  -- a thread's calls since the opening
  abbrev pub marked_since : ℕ → List Action → List Marked
  marked_since thread done =
      marked_calls (thread_at opening thread).form (thread_at opening thread).latest []
      (calls_of thread done)

  -- a thread's word: what was unreported at the opening, and all calls since then
  abbrev pub word_of : ℕ → List Action → List Marked
  word_of thread done =
      map (λ event. record { event = event; reported = false }) (thread_at opening thread).word
      ++ marked_since thread done

  -- the part of the word after the last accepted report
  abbrev pub unreported : ℕ → List Action → List Event
  unreported thread done =
      map (λ marked. marked.event)
      (since_last (λ marked. marked.reported) (word_of thread done))

  -- the start of the thread's first scope
  abbrev pub first_start_of : ℕ → List Action → Option ℤ
  first_start_of thread done =
      option_or (thread_at opening thread).first_start (first_open (marked_since thread done))

  -- the unreported events and these, in the thread's form
  abbrev pub word_with : ℕ → List Action → List Event → Word
  word_with thread done more =
      record { form = (thread_at opening thread).form; events = unreported thread done ++ more }

  -- the info under which a thread's words are handed over
  abbrev pub key_under : ℕ → List Action → ThreadKey
  key_under thread done =
      record { start = first_start_of thread done; name = (thread_at opening thread).name }

-- a word handed over under an info, or a frame that took all words handed over before it
pub data Delivery : Type 0 where
  under : ThreadKey → Word → Delivery
  all_taken : Delivery

module _ (opening : Opening) where
  -- What an action hands over, after those before it. An accepted report hands over the part of the thread's word that it ends,
  -- and a user's report its word.
  abbrev pub deliveries_at : List Action → Action → List Delivery
  deliveries_at done (calls thread call) = elim call.mark [
    | begun id text ↦ []
    | ended reported ↦
        if reported
        then under (key_under opening thread done) (
        word_with opening thread done (
        Close (latest_of opening thread (done ++ (calls thread call ∷ []))) ∷ [])) ∷ []
        else []
  ]
  deliveries_at done (hands info word) = under info word ∷ []
  deliveries_at done (frames emitted) = if emitted then all_taken ∷ [] else []
  deliveries_at done _ = []

  -- what actions hand over, after those of the past
  abbrev pub deliveries_after : List Action → List Action → List Delivery
  deliveries_after past [] = []
  deliveries_after past (action ∷ later) =
      deliveries_at past action ++ deliveries_after (past ++ (action ∷ [])) later

  -- all that was handed over, and the frames between
  abbrev pub deliveries : List Action → List Delivery
  deliveries done = deliveries_after [] done

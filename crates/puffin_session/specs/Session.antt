-- What contracts see of a session, and the state in which a history leaves it (`StandsAfter`).
pub mod History
pub mod Deliveries
pub mod Due
pub mod Notes
pub mod Actions
pub mod Replies
pub mod Runs
use Rattle.std.specs.Prelude.{◌≡◌, ℕ, ◌<◌, List, length, map, Option, Some, None}
use Rattle.std.specs.List.{slice_index_or}
use Rattle.std.specs.FinMap.{entries, get}
use Rattle.puffin_data.specs.declared.data.form.Form.{Form}
use Rattle.puffin_data.specs.Forest.{Forest}
use Rattle.puffin_data.specs.Forest.Tour.{tour}
use Rattle.puffin_data.specs.Honesty.{StreamFacts, AreHonestFacts}
use Rattle.puffin_threads.specs.Thread.ThreadKey.{ThreadKey}
use Rattle.puffin_threads.specs.Thread.Calls.{Thread, new_thread}
use Rattle.puffin_frames.specs.Frame.Contents.{Streams}
use Rattle.puffin_collector.specs.Collector.State.{Collected, nothing_collected}
use Rattle.puffin_threads.specs.Thread.Events.{events_in}
use Rattle.puffin_session.specs.Session.History.{Word, Opening, Action, nobody, thread_at, latest_of}
use Rattle.puffin_session.specs.Session.Deliveries.{Delivery, unreported, first_start_of}
use Rattle.puffin_session.specs.Session.Notes.{details_registered, due_details, known_after, is_wanted}
use Rattle.puffin_session.specs.Session.Due.{due, total_under, index_after, reported_after}

-- a session's threads, and what is collected for the next frame
pub record SessionState : Type 0 where
  pub threads : List Thread
  pub collected : Collected

-- a session of these threads, before any command
abbrev pub new_session : List (List ℕ × Form) → SessionState
new_session threads = record {
  threads = map (λ thread. new_thread thread.0 thread.1) threads;
  collected = nothing_collected 0;
}

-- the word that bytes spell in a form
abbrev pub word_in : Form → List ℕ → Word
word_in form bytes = record { form = form; events = events_in form bytes }

-- the state before a run
abbrev pub opening_of : SessionState → Opening
opening_of state = record {
  threads = state.threads;
  due = map (λ entry. (entry.0, word_in entry.1.form entry.1.bytes))
      (entries state.collected.streams);
  index = state.collected.index;
  reported = state.collected.reported;
  collection = state.collected.collection;
  new_details = state.collected.new_details;
  wants_all = state.collected.wants_all;
}

-- a stream whose facts are honest has exactly the scopes of this word, in its form
pub record SpellsWord (facts : StreamFacts) (word : Word) : Type 0 where
  pub forest : Forest
  pub honest : AreHonestFacts facts forest
  pub form : facts.form ≡ word.form
  pub toured : tour forest ≡ word.events

-- there is a stream exactly if there is a word, and it spells that
abbrev pub SpellsIfAny : Option StreamFacts → Option Word → Type 0
SpellsIfAny None None = Unit {0}
SpellsIfAny (Some facts) (Some word) = ∥ SpellsWord facts word ∥₁
SpellsIfAny None (Some word) = ⊥
SpellsIfAny (Some facts) None = ⊥

-- there is a stream exactly under each info under which something was handed over, and it spells exactly that
abbrev pub SpellsDue : Streams → List Delivery → Type 0
SpellsDue streams handed =
    (info : ThreadKey) → SpellsIfAny (get streams info) (total_under handed info)

-- the thread with this number, after these actions
abbrev pub thread_after : Opening → List Action → ℕ → Thread
thread_after opening done thread = record {
  name = (thread_at opening thread).name;
  form = (thread_at opening thread).form;
  first_start = first_start_of opening thread done;
  latest = latest_of opening thread done;
  word = unreported opening thread done;
  details = details_registered opening thread done;
}

-- a thread's unreported scopes, in its form
abbrev pub word_of_thread : Thread → Word
word_of_thread thread = record { form = thread.form; events = thread.word }

-- the known details, those new in the next frame, and whether that frame is to list all known ones
pub record TellsAfter (opening : Opening) (done : List Action) (now : Collected) : Type 0 where
  pub collection : now.collection ≡ known_after opening done
  pub new_details : now.new_details ≡ due_details opening done
  pub wants_all : now.wants_all ≡ is_wanted opening done

-- Nothing is lost, doubled or changed: each thread holds its unreported word and details, what is collected spells exactly what
-- is due, and the new details are exactly those that are due.
pub record StandsAfter (opening : Opening) (done : List Action) (now : SessionState) : Type 0 where
  pub num_threads : length now.threads ≡ length opening.threads
  pub threads : (number : ℕ) → number < length opening.threads →
      slice_index_or now.threads number nobody ≡ thread_after opening done number
  pub collected : SpellsDue now.collected.streams (due opening done)
  pub index : now.collected.index ≡ index_after opening done
  pub reported : now.collected.reported ≡ reported_after opening done
  pub tells : TellsAfter opening done now.collected

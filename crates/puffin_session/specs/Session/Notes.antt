-- The details that a thread has registered, those that the next frame lists, and those that are known.
use Rattle.std.specs.Prelude.{ℕ, ◌==◌, Bool, true, false, if◌then◌else◌, List, [], ◌∷◌, ◌++◌, map, fold}
use Rattle.std.specs.List.{flat_map}
use Rattle.puffin_threads.specs.Details.{Details}
use Rattle.puffin_threads.specs.Details.Collection.{Collection, with_all_details}
use Rattle.puffin_session.specs.Session.History.{Opening, begun, ended, Action, calls, frames, registers, adds, learns, wants, thread_at, since_last}

-- details, or a mark that all details before it were passed on
pub data Note : Type 0 where
  noted : Details → Note
  sent : Note

abbrev pub is_sent : Note → Bool
is_sent (noted details) = false
is_sent sent = true

abbrev pub details_in : Note → List Details
details_in (noted details) = details ∷ []
details_in sent = []

-- the details since the last time that all were passed on
abbrev pub details_waiting : List Note → List Details
details_waiting notes = flat_map details_in (since_last is_sent notes)

-- what an action notes for a thread: details that it registered, which are passed on with its next accepted report
abbrev pub notes_at : ℕ → Action → List Note
notes_at thread (calls caller call) =
    if thread == caller
    then elim call.mark [
      | begun id text ↦ []
      | ended reported ↦ if reported then sent ∷ [] else []
    ]
    else []
notes_at thread (registers caller details) = if thread == caller then noted details ∷ [] else []
notes_at thread _ = []

module _ (opening : Opening) where
  -- the details that a thread has registered since its last accepted report
  abbrev pub details_registered : ℕ → List Action → List Details
  details_registered thread done =
      details_waiting
      (map noted (thread_at opening thread).details ++ flat_map (notes_at thread) done)

  -- What an action, after those before it, notes for the next frame: a thread's registered details if its report is accepted,
  -- and those of the user's new scopes. An emitted frame takes all.
  abbrev pub due_notes_at : List Action → Action → List Note
  due_notes_at done (calls thread call) = elim call.mark [
    | begun id text ↦ []
    | ended reported ↦ if reported then map noted (details_registered thread done) else []
  ]
  due_notes_at done (frames emitted) = if emitted then sent ∷ [] else []
  due_notes_at done (adds new) = map noted new
  due_notes_at done _ = []

  -- what actions note for the next frame, after those of the past
  abbrev pub due_notes_after : List Action → List Action → List Note
  due_notes_after past [] = []
  due_notes_after past (action ∷ later) =
      due_notes_at past action ++ due_notes_after (past ++ (action ∷ [])) later

  -- the details that are new in the next frame, in order
  abbrev pub due_details : List Action → List Details
  due_details done = details_waiting (map noted opening.new_details ++ due_notes_after [] done)

  -- The details that an action, after those before it, makes known: a frame's new details if it is emitted, those of the user's
  -- new scopes at once, and those that a refused frame had already added.
  abbrev pub details_learnt_at : List Action → Action → List Details
  details_learnt_at done (frames emitted) = if emitted then due_details done else []
  details_learnt_at done (adds new) = new
  details_learnt_at done (learns some) = some
  details_learnt_at done _ = []

  -- the details that actions make known, after those of the past
  abbrev pub details_learnt_after : List Action → List Action → List Details
  details_learnt_after past [] = []
  details_learnt_after past (action ∷ later) =
      details_learnt_at past action ++ details_learnt_after (past ++ (action ∷ [])) later

  -- the known details
  abbrev pub known_after : List Action → Collection
  known_after done = with_all_details opening.collection (details_learnt_after [] done)

-- whether the next frame is to list all known details, after one more action: one asks for it, and an emitted frame does it
abbrev pub wanted_at : Bool → Action → Bool
wanted_at wanted (frames emitted) = if emitted then false else wanted
wanted_at wanted wants = true
wanted_at wanted _ = wanted

abbrev pub is_wanted : Opening → List Action → Bool
is_wanted opening done = fold wanted_at opening.wants_all done

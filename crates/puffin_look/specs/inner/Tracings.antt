-- What a trace takes from frames, one after the other.
use Rattle.std.specs.Prelude.{◌≡◌, ℕ, List, [], ◌++◌, fold}
use Rattle.std.proofs.Common.{refl, sym, ap, ◌∙◌}
use Rattle.std.specs.FinMap.{insert}
use Rattle.std.proofs.lemmas.List.Sums.{fold-append}
use Rattle.puffin_data.specs.declared.error.Error.{Error}
use Rattle.puffin_data.specs.Forest.{Forest}
use Rattle.puffin_data.specs.Forest.Spelling.{Spells}
use Rattle.puffin_data.specs.Honesty.{StreamFacts}
use Rattle.puffin_threads.specs.Thread.ThreadKey.{ThreadKey, by_key}
use Rattle.puffin_look.specs.OpenFrame.{OpenFrame}
use Rattle.puffin_look.specs.Trees.{TreeFrame, AreRead, AreUnread, all_streams}
use Rattle.puffin_look.specs.inner.Reads.{AreRead-append, outputs-append}
use Rattle.puffin_look.specs.Trace.{Numbers, naming, numbered, numbered_by, tree_events, thread_event, frame_events, events}
use Rattle.puffin_look.specs.declared.trace.Trace.{Trace}

abbrev pub numbers_of : Trace → Numbers
numbers_of trace = by_key trace.numbers.entries

-- ---- steps of a frame

-- a thread was named, and has this number
pub record NumbersThread (old new : Trace) (key : ThreadKey) (tid : ℕ) : Type 0 where
  pub text : new.events.text.items ≡ old.events.text.items ++ thread_event tid key
  pub overview : new.events.overview ≡ old.events.overview
  pub numbers : numbers_of new ≡ insert (numbers_of old) key tid

-- A thread has its number, and was named if it was met for the first time.
pub record AddsThread (old new : Trace) (key : ThreadKey) : Type 0 where
  pub text : new.events.text.items ≡ old.events.text.items ++ naming (numbers_of old) key
  pub overview : new.events.overview ≡ old.events.overview
  pub numbers : numbers_of new ≡ numbered (numbers_of old) key

-- the events of a thread's stream were appended
pub record AddsStream (old new : Trace) (key : ThreadKey) (facts : StreamFacts) : Type 0 where
  pub forest : Forest
  pub spells : Spells facts.form facts.bytes forest
  pub text : new.events.text.items
      ≡ old.events.text.items ++ tree_events old.events.overview.now (numbers_of old) (key, forest)
  pub overview : new.events.overview ≡ old.events.overview
  pub numbers : numbers_of new ≡ numbered (numbers_of old) key

-- ---- frames

-- these frames were read, and their events are this text
pub record TakesTrace (old : Trace) (frames : List OpenFrame) (text : List ℕ)
    (new : Trace) : Type 0 where
  pub trees : List TreeFrame
  pub read : AreRead all_streams frames trees
  pub is : text ≡ events old.events.overview.now (numbers_of old) trees
  pub numbers : numbers_of new ≡ fold numbered_by (numbers_of old) trees
  pub overview : new.events.overview ≡ old.events.overview

abbrev pub RefusesFrame : Trace → OpenFrame → Error → Type 0
RefusesFrame old frame cause = AreUnread (all_streams frame) cause

-- ---- laws

pub trace_none : (v : Trace) → TakesTrace v [] [] v
trace_none v = record { trees = []; read = tt; is = refl; numbers = refl; overview = refl }

pub trace_more : (u v w : Trace) (xs ys : List OpenFrame) (s t : List ℕ) → TakesTrace u xs s v →
    TakesTrace v ys t w → TakesTrace u (xs ++ ys) (s ++ t) w
trace_more u v w xs ys s t a b =
    let o = u.events.overview.now in
    record {
      trees = a.trees ++ b.trees;
      read = AreRead-append all_streams xs ys a.trees b.trees a.read b.read;
      is = (λ i. a.is i ++ b.is i)
          ∙ (λ i. events o (numbers_of u) a.trees
          ++ events (a.overview i).now (a.numbers i) b.trees)
          ∙ sym (outputs-append (frame_events o) numbered_by (numbers_of u) a.trees b.trees);
      numbers = b.numbers ∙ ap (λ (r : Numbers). fold numbered_by r b.trees) a.numbers
          ∙ sym (fold-append numbered_by (numbers_of u) a.trees b.trees);
      overview = b.overview ∙ a.overview;
    }

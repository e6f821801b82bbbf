-- What one call has to account for: what frames showed, what is due and what waits. The accounts of a list of calls come from those of
-- its calls; what is due stays the same where nothing is reported, and gains what waits where all of it is.
use Rattle.std.proofs.Common.{◌≡◌, ℕ, ℤ, Bool, false, cond, List, [], ◌∷◌, ◌++◌}
use Rattle.std.proofs.Common.{Option, Some, None, unwrap_or, Ok, Err, ◌⊎◌, inl, inr, refl, sym, ap, ◌∙◌}
use Rattle.std.proofs.Common.{subst, append_assoc}
use Rattle.std.specs.List.{AllZip}
use Rattle.std.specs.FinMap.{get, insert, get-insert, get-empty}
use Rattle.std.proofs.lemmas.List.{append-nil}
use Rattle.puffin_data.specs.declared.data.form.Form.{Form}
use Rattle.puffin_data.specs.Forest.{Forest, append}
use Rattle.puffin_data.specs.Forest.Tour.{Event, tour}
use Rattle.puffin_data.specs.Honesty.{StreamFacts, AreHonestFacts, AreUnlike, joined_facts}
use Rattle.puffin_data.proofs.lemmas.Tours.{tour-append}
use Rattle.puffin_data.proofs.lemmas.Extended.{honest_joined}
use Rattle.puffin_threads.specs.Thread.ThreadKey.{ThreadKey, key_cmp, has_same_key}
use Rattle.puffin_threads.specs.Thread.Calls as calls
use Rattle.puffin_threads.specs.Thread.Calls.{after_handing}
use Rattle.puffin_threads.specs.Details.{Details}
use Rattle.puffin_threads.proofs.lemmas.ThreadKeys.{key_cmp_total, has_same_key-itself}
use Rattle.puffin_frames.specs.Frame.Contents.{Streams, stream_under}
use Rattle.puffin_collector.specs.Collector.State.{Collected, no_scopes, after_report}
use Rattle.puffin_accounts.specs.Moments.{Moment, key_at}
use Rattle.puffin_accounts.specs.Times.{Timed}
use Rattle.puffin_accounts.specs.Adding.{SpellsEvents}
use Rattle.puffin_accounts.specs.Steps.{Call, begins, ends, reports, frame}
use Rattle.puffin_accounts.specs.Steps.{Marks, flat, frames_in, tours, ShowsOf, IsDue, Accounts}
use Rattle.puffin_accounts.proofs.lemmas.Times.{same_start, timed_still, timed_both}
use Rattle.puffin_accounts.proofs.lemmas.Showing.{spells_none}

-- What one call has to account for: its events, if any, what frames showed and what is due now. What frames showed, what is due and what
-- waits are what was due and waited before, and then the call's events.
pub record Stepped {C : Type 0} (answers : C → ℤ → C → Type 0) (old : Moment C) (due : List Event)
    (call : Call) (new : Moment C) : Type 0 where
  pub events : List Event
  pub marked : Marks old.known old.thread.form call events
  pub timed : Timed answers old new events
  pub shown : List Forest
  pub frames : AllZip (ShowsOf old.thread.name) (frames_in (call ∷ [])) shown
  pub now_due : List Event
  pub is_due : IsDue new now_due
  pub kept : tours shown ++ (now_due ++ new.thread.word) ≡ (due ++ old.thread.word) ++ events

-- ---- a list of calls

-- the frames of a call and of those after it
frames_split : (call : Call) (later : List Call) → frames_in (call ∷ later) ≡ frames_in (call ∷ []) ++ frames_in later
frames_split (begins place text state) later = refl
frames_split (ends offset) later = refl
frames_split (reports result) later = refl
frames_split (frame (Ok (Some f))) later = refl
frames_split (frame (Ok None)) later = refl
frames_split (frame (Err e)) later = refl

-- lists that match pair by pair still do with others that match behind them
pub zip_both : {A B : Type 0} (R : A → B → Type 0) (lefts : List A) (rights : List B) (more_lefts : List A) (more_rights : List B)
    → AllZip R lefts rights → AllZip R more_lefts more_rights → AllZip R (lefts ++ more_lefts) (rights ++ more_rights)
zip_both R [] [] more_lefts more_rights match more_match = more_match
zip_both R [] (right ∷ rights) more_lefts more_rights match more_match = absurd match
zip_both R (left ∷ lefts) [] more_lefts more_rights match more_match = absurd match
zip_both R (left ∷ lefts) (right ∷ rights) more_lefts more_rights (first, others) more_match =
    (first, zip_both R lefts rights more_lefts more_rights others more_match)

-- the events of forests and of those after them
pub tours_both : (forests more : List Forest) → tours (forests ++ more) ≡ tours forests ++ tours more
tours_both [] more = refl
tours_both (forest ∷ forests) more =
    ap (λ events. tour forest ++ events) (tours_both forests more) ∙ sym (append_assoc (tour forest) (tours forests) (tours more))

-- What two steps account for: the first one shows events, and has others due or waiting then, with which the second one begins, and of
-- which it shows some, leaving the rest.
pub all_kept : (shown more_shown due waits now_due now_waits events rest more_events : List Event)
    → shown ++ (now_due ++ now_waits) ≡ (due ++ waits) ++ events → more_shown ++ rest ≡ (now_due ++ now_waits) ++ more_events
    → (shown ++ more_shown) ++ rest ≡ (due ++ waits) ++ (events ++ more_events)
all_kept shown more_shown due waits now_due now_waits events rest more_events first second =
    append_assoc shown more_shown rest
    ∙ ap (λ any. shown ++ any) second
    ∙ sym (append_assoc shown (now_due ++ now_waits) more_events)
    ∙ ap (λ any. any ++ more_events) first
    ∙ append_assoc (due ++ waits) events more_events

-- a call, and the others after it
pub accounts_more : {C : Type 0} (answers : C → ℤ → C → Type 0) (old mid new : Moment C) (due : List Event)
    (call : Call) (later : List Call) (s : Stepped answers old due call mid) → Accounts answers mid s.now_due later new
    → Accounts answers old due (call ∷ later) new
accounts_more answers old mid new due call later s a = record {
  events = s.events ∷ a.events;
  marked = (
    s.marked,
    subst (λ (form : Form). AllZip (Marks old.known form) later a.events) s.timed.form
        (subst (λ (k : ℕ). AllZip (Marks k mid.thread.form) later a.events) s.timed.known a.marked),
  );
  timed = timed_both answers old mid new s.events (flat a.events) s.timed a.timed;
  shown = s.shown ++ a.shown;
  frames = subst (λ fs. AllZip (ShowsOf old.thread.name) fs (s.shown ++ a.shown)) (sym (frames_split call later))
      (zip_both (ShowsOf old.thread.name) (frames_in (call ∷ [])) s.shown (frames_in later) a.shown s.frames
      (subst (λ (name : List ℕ). AllZip (ShowsOf name) (frames_in later) a.shown) s.timed.name a.frames));
  now_due = a.now_due;
  is_due = a.is_due;
  kept = ap (λ (w : List Event). w ++ (a.now_due ++ new.thread.word)) (tours_both s.shown a.shown)
      ∙ all_kept (tours s.shown) (tours a.shown) due old.thread.word s.now_due mid.thread.word s.events
      (a.now_due ++ new.thread.word) (flat a.events) s.kept a.kept;
}

-- no call: the moment is the same, and so is what is due
pub accounts_none : {C : Type 0} (answers : C → ℤ → C → Type 0) (m n : Moment C) (due : List Event) → n ≡ m → IsDue m due
    → Accounts answers m due [] n
accounts_none {C = C} answers m n due same is_due = subst (λ (x : Moment C). Accounts answers m due [] x) (sym same) (record {
  events = [];
  marked = tt;
  timed = timed_still answers m m refl refl refl;
  shown = [];
  frames = tt;
  now_due = due;
  is_due = is_due;
  kept = sym (append-nil (due ++ m.thread.word));
})

-- ---- where nothing is reported

-- the thread's stream spells these events; where it has none, there are no events
abbrev pub SpellsDue : Option StreamFacts → List Event → Type 0
SpellsDue stream due = ((stream ≡ None) × (due ≡ [])) ⊎ ((facts : StreamFacts) × (stream ≡ Some facts) × SpellsEvents facts due)

-- no other thread has a stream, and this thread's spells these events
abbrev pub AreDueUnder : Streams → ThreadKey → List Event → Type 0
AreDueUnder streams key due =
    ((other : ThreadKey) → has_same_key other key ≡ false → get streams other ≡ None) × SpellsDue (get streams key) due

-- Events were recorded from the moment `m` to the moment `n`; but the streams are the same.
module _ {C : Type 0} (answers : C → ℤ → C → Type 0) (m n : Moment C) (due events : List Event) (timed : Timed answers m n events)
    (streams : n.collected.streams ≡ m.collected.streams)
    (unstarted : n.thread.first_start ≡ None → m.thread.word ≡ [] → n.thread.word ≡ []) (was_due : IsDue m due) where
  -- a thread that has no start had none before
  unstarted_before : (start : Option ℤ) → m.thread.first_start ≡ start → n.thread.first_start ≡ None → m.thread.first_start ≡ None
  unstarted_before None is none = is
  unstarted_before (Some first) is none = absurd (let later = same_start answers m n first events timed is in cc)

  -- A thread that had no start had no streams, so the same is due under any key. Else its start, and so its key, are the same.
  due_under_key : (start : Option ℤ) → m.thread.first_start ≡ start → AreDueUnder n.collected.streams (key_at n) due
  due_under_key None is =
      let (none_due, _no_word, no_streams) = was_due.unstarted is in
      let none : (key : ThreadKey) → get n.collected.streams key ≡ None =
      λ key. ap (λ (any : Streams). get any key) (streams ∙ no_streams) ∙ get-empty key_cmp key in
      ((λ other unlike. none other), inl (none (key_at n), none_due))
  due_under_key (Some first) is =
      let later = same_start answers m n first events timed is in
      let start : n.thread.first_start ≡ m.thread.first_start = later ∙ sym is in
      let name = timed.name in
      let key : key_at n ≡ key_at m = cc in
      subst (λ (any : ThreadKey). AreDueUnder n.collected.streams any due) (sym key)
      (subst (λ (any : Streams). AreDueUnder any (key_at m) due) (sym streams) (was_due.only, was_due.here))

  -- what was due is due
  pub still_due : IsDue n due
  still_due =
      let (only, here) = due_under_key m.thread.first_start refl in
      record {
        here = here;
        only = only;
        unstarted = λ none.
            let (none_due, no_word, no_streams) = was_due.unstarted (unstarted_before m.thread.first_start refl none) in
            (none_due, unstarted none no_word, streams ∙ no_streams);
      }

  -- a call that reports nothing and shows no frame
  pub quiet_step : (call : Call) → n.thread.word ≡ m.thread.word ++ events → Marks m.known m.thread.form call events
      → AllZip (ShowsOf m.thread.name) (frames_in (call ∷ [])) [] → Stepped answers m due call n
  quiet_step call word marked frames = record {
    events = events;
    marked = marked;
    timed = timed;
    shown = [];
    frames = frames;
    now_due = due;
    is_due = still_due;
    kept = ap (λ (w : List Event). due ++ w) word ∙ sym (append_assoc due m.thread.word events);
  }

-- a call after which the thread and the streams are the same
pub still_step : {C : Type 0} (answers : C → ℤ → C → Type 0) (m n : Moment C) (due : List Event) (call : Call) → n.clock ≡ m.clock
    → n.thread ≡ m.thread → n.known ≡ m.known → n.collected.streams ≡ m.collected.streams → IsDue m due
    → Marks m.known m.thread.form call [] → AllZip (ShowsOf m.thread.name) (frames_in (call ∷ [])) []
    → Stepped answers m due call n
still_step answers m n due call clock is known streams h marked frames =
    quiet_step answers m n due [] (timed_still answers m n clock (ap after_handing is) known) streams
    (λ none word. ap (λ (t : calls.Thread). t.word) is ∙ word) h call
    (ap (λ (t : calls.Thread). t.word) is ∙ sym (append-nil m.thread.word)) marked frames

-- ---- where all that waits is reported

-- The thread's waiting events are reported, as those of a forest: they are due behind those that were due before.
pub reported_due : {C : Type 0} (m n : Moment C) (due word : List Event) (reported : StreamFacts) (details : List Details) (forest : Forest)
    → IsDue m due → (n.thread.first_start ≡ None → ⊥) → key_at n ≡ key_at m
    → n.collected ≡ after_report m.collected (key_at m) details reported
    → (AreUnlike (stream_under m.collected.streams (key_at m)) reported → ⊥) → AreHonestFacts reported forest → word ≡ tour forest
    → IsDue n (due ++ word)
reported_due m n due word reported details forest was_due started key is like honest toured = record {
  here = inr (joined, is_joined, spells_joined was_due.here);
  only = λ other unlike.
      let unlike_before : has_same_key other (key_at m) ≡ false = subst (λ (any : ThreadKey). has_same_key other any ≡ false) key unlike in
      is_at other
      ∙ get-insert key_cmp_total m.collected.streams (key_at m) joined other
      ∙ ap (λ (same : Bool). cond same (Some joined) (get m.collected.streams other)) unlike_before
      ∙ was_due.only other unlike_before;
  unstarted = λ none. absurd (started none);
}
  where
    -- what was collected from the thread, and what it reported
    joined : StreamFacts
    joined = joined_facts (stream_under m.collected.streams (key_at m)) reported

    is_at : (any : ThreadKey) → get n.collected.streams any ≡ get (insert m.collected.streams (key_at m) joined) any
    is_at any = ap (λ (collected : Collected). get collected.streams any) is

    is_joined : get n.collected.streams (key_at n) ≡ Some joined
    is_joined =
        ap (get n.collected.streams) key
        ∙ is_at (key_at m)
        ∙ get-insert key_cmp_total m.collected.streams (key_at m) joined (key_at m)
        ∙ ap (λ (same : Bool). cond same (Some joined) (get m.collected.streams (key_at m))) (has_same_key-itself (key_at m))

    -- a forest that spells what was due, and behind it the reported one
    both_spelled : SpellsEvents (stream_under m.collected.streams (key_at m)) due → SpellsEvents joined (due ++ word)
    both_spelled spells = record {
      forest = append spells.forest forest;
      honest = honest_joined (stream_under m.collected.streams (key_at m)) reported spells.forest forest like spells.honest honest;
      toured = tour-append spells.forest forest
          ∙ ap (λ (any : List Event). any ++ tour forest) spells.toured
          ∙ ap (λ (any : List Event). due ++ any) (sym toured);
    }

    spells_joined : SpellsDue (get m.collected.streams (key_at m)) due → SpellsEvents joined (due ++ word)
    spells_joined (inl (none, none_due)) =
        both_spelled (subst (λ (stream : Option StreamFacts). SpellsEvents (unwrap_or stream no_scopes) due) (sym none)
        (subst (λ (events : List Event). SpellsEvents no_scopes events) (sym none_due) spells_none))
    spells_joined (inr (facts, some, spells)) =
        both_spelled (subst (λ (stream : Option StreamFacts). SpellsEvents (unwrap_or stream no_scopes) due) (sym some) spells)

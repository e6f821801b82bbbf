-- What a frame call shows after code has run: the scopes of the code that were reported, behind those that waited; the others wait.
use Rattle.std.proofs.Common.{◌≡◌, ℕ, ◌+◌, ◌<◌, ℤ, List, [], ◌∷◌, ◌++◌, Option, Some}
use Rattle.std.proofs.Common.{None, unwrap_or, Global, inl, inr, refl, sym, ap, ◌∙◌, subst}
use Rattle.std.specs.FinMap.{get, values, get-empty}
use Rattle.std.specs.Arc.{arc_value}
use Rattle.std.specs.declared.sync.Arc.{Arc}
use Rattle.std.specs.FinMap as fin_map
use Rattle.std.proofs.lemmas.List.{append-nil}
use Rattle.puffin_data.specs.Forest.{Forest, empty, node, append}
use Rattle.puffin_data.specs.Forest.Tour.{Event, Close, tour}
use Rattle.puffin_data.specs.Forest.Words.{open_after}
use Rattle.puffin_data.specs.Honesty.{StreamFacts}
use Rattle.puffin_data.proofs.lemmas.Tours.{tour-append, one_tour}
use Rattle.puffin_threads.specs.Thread.ThreadKey.{ThreadKey, key_cmp}
use Rattle.puffin_threads.specs.Details.{Details}
use Rattle.puffin_frames.specs.declared.frame_data.frame.FrameData.{FrameData}
use Rattle.puffin_frames.specs.Frame.Contents.{Streams}
use Rattle.puffin_frames.specs.Frame.Sums.{total_scopes}
use Rattle.puffin_collector.specs.Collector.State.{Collected, no_scopes, delta_of}
use Rattle.puffin_collector.specs.Collector.Collecting.{Collects}
use Rattle.puffin_accounts.specs.Moments.{Moment, key_at}
use Rattle.puffin_accounts.specs.Times.{first_start_in}
use Rattle.puffin_accounts.specs.Adding.{SpellsEvents, Gains, PassesOn, AddsScopes}
use Rattle.puffin_accounts.specs.Showing.{ShowsForest, listed_next}
use Rattle.puffin_accounts.specs.Steps.{IsDue}
use Rattle.puffin_accounts.specs.Rounds.{Shows, listed_after}
use Rattle.puffin.proofs.lemmas.Offsets.{depth-tour}
use Rattle.puffin_accounts.proofs.lemmas.Times.{has_start, same_start, timed_still}
use Rattle.puffin_accounts.proofs.lemmas.Showing.{spells_none, one_entry, no_entry, none_in_empty, none_of, shows_spelled}
use Rattle.puffin_accounts.proofs.lemmas.Steps.{nothing_due}
use Rattle.puffin_accounts.proofs.lemmas.Accounting.{SpellsDue, AreDueUnder, still_due}

-- between rounds nothing is due, and these scopes wait
pub record Rests {C : Type 0} (m : Moment C) (waited : Forest) : Type 0 where
  pub is_due : IsDue m []
  pub word : m.thread.word ≡ tour waited
  pub details : m.thread.details ≡ []

-- a thread that has no start after code has no scopes of it
none_added : (forest : Forest) → first_start_in None (tour forest) ≡ None → tour forest ≡ []
none_added empty none = refl
none_added (node span children others) none =
    absurd (has_start None span.start (tour children ++ (Close span.stop ∷ tour others)) None (sym none) refl)

-- What a frame call after code with the scopes `f` shows: the first of those that waited and of those. The others wait.
pub record Framed {C : Type 0} (m n : Moment C) (waited f : Forest) (frame : Option (Arc FrameData Global)) : Type 0 where
  pub shown : Forest
  pub left : Forest
  pub kept : append shown left ≡ append waited f
  pub shows : Shows frame m.collected.index (key_at n) (listed_next m) shown
  pub rests : Rests n left
  pub index : n.collected.index ≡ m.collected.index + 1
  pub listed : listed_next n ≡ listed_after frame (listed_next m)
  pub started : n.thread.first_start ≡ None → shown ≡ empty

-- Code with the scopes `f` ran from the moment `m`, at which others waited, to the moment `r`.
module _ {C : Type 0} (answers : C → ℤ → C → Type 0) (m r : Moment C) (waited f : Forest) (rests : Rests m waited)
    (adds : AddsScopes answers m r f) where
  -- no scope was open, so the code's scopes are passed on
  passed : PassesOn m r (tour f)
  passed = adds.passed (ap (open_after 0) rests.word ∙ depth-tour [] waited)

  -- ---- what is due after the code has run

  -- Under the thread's key nothing was due before the code ran. A thread that had no start then had no streams under any key.
  none_under : (start : Option ℤ) → m.thread.first_start ≡ start → AreDueUnder m.collected.streams (key_at r) []
  none_under None is =
      let (_none_due, _no_word, no_streams) = rests.is_due.unstarted is in
      let none : (key : ThreadKey) → get m.collected.streams key ≡ None =
      λ key. ap (λ (any : Streams). get any key) no_streams ∙ get-empty key_cmp key in
      (λ other unlike. none other, inl (none (key_at r), refl))
  none_under (Some first) is =
      let later = same_start answers m r first (tour f) adds.timed is in
      let start : r.thread.first_start ≡ m.thread.first_start = later ∙ sym is in
      let name = adds.timed.name in
      let key : key_at r ≡ key_at m = cc in
      subst (λ (any : ThreadKey). AreDueUnder m.collected.streams any []) (sym key) (rests.is_due.only, rests.is_due.here)

  -- so what was reported is due
  due_here : SpellsDue (get m.collected.streams (key_at r)) []
      → Gains (get m.collected.streams (key_at r)) (get r.collected.streams (key_at r)) passed.reported
      → SpellsDue (get r.collected.streams (key_at r)) passed.reported
  due_here (inl (none, _)) (inl (same, none_reported)) = inl (same ∙ none, none_reported)
  due_here (inr (stream, some, spells)) (inl (same, none_reported)) =
      inr (stream, same ∙ some, subst (λ (events : List Event). SpellsEvents stream events) (sym none_reported) spells)
  due_here (inl (none, _)) (inr (joined, found, spells_joined)) =
      let before = subst (λ (any : Option StreamFacts). SpellsEvents (unwrap_or any no_scopes) []) (sym none) spells_none in
      inr (joined, found, spells_joined [] before)
  due_here (inr (stream, some, spells)) (inr (joined, found, spells_joined)) =
      let before = subst (λ (any : Option StreamFacts). SpellsEvents (unwrap_or any no_scopes) []) (sym some) spells in
      inr (joined, found, spells_joined [] before)

  -- a thread that has no start after the code has nothing
  still_unstarted : (s : Option ℤ) → m.thread.first_start ≡ s → r.thread.first_start ≡ None
      → (passed.reported ≡ []) × (r.thread.word ≡ []) × (r.collected.streams ≡ fin_map.empty)
  still_unstarted (Some first) is none = absurd (let later = same_start answers m r first (tour f) adds.timed is in cc)
  still_unstarted None is none =
      let (_none_due, no_word, no_streams) = rests.is_due.unstarted is in
      let (same_streams, none_reported) = passed.unstarted none in
      let none_recorded = none_added f (ap (λ s. first_start_in s (tour f)) (sym is) ∙ sym adds.timed.first_start ∙ none) in (
        none_reported,
        ap (λ (events : List Event). events ++ r.thread.word) (sym none_reported)
            ∙ passed.events_kept
            ∙ ap (λ (events : List Event). events ++ tour f) no_word
            ∙ none_recorded,
        same_streams ∙ no_streams,
      )

  due_after : IsDue r passed.reported
  due_after =
      let (only, here) = none_under m.thread.first_start refl in
      record {
        here = due_here here passed.stream;
        only = λ other unlike. passed.others other unlike ∙ only other unlike;
        unstarted = still_unstarted m.thread.first_start refl;
      }

  -- ---- the frame call

  -- the thread had no details to report, and has none
  none_sent : passed.sent ≡ []
  none_sent = none_of passed.sent r.thread.details (passed.details_kept ∙ rests.details)

  no_details : r.thread.details ≡ []
  no_details = ap (λ (ds : List Details). ds ++ r.thread.details) (sym none_sent) ∙ passed.details_kept ∙ rests.details

  -- what the next frame lists is the same
  same_listed : listed_next r ≡ listed_next m
  same_listed =
      ap (λ (c : Collected). delta_of c.collection c.new_details c.wants_all) passed.collected
      ∙ ap (λ (ds : List Details). delta_of m.collected.collection ds m.collected.wants_all)
      (ap (λ (ds : List Details). m.collected.new_details ++ ds) none_sent ∙ append-nil m.collected.new_details)

  same_index : r.collected.index ≡ m.collected.index
  same_index = ap (λ (c : Collected). c.index) passed.collected

  -- the reported events and those that wait are those of the scopes that waited before and of the code's
  events : passed.reported ++ r.thread.word ≡ tour (append waited f)
  events = passed.events_kept ∙ ap (λ (w : List Event). w ++ tour f) rests.word ∙ sym (tour-append waited f)

  -- what waits are whole scopes
  rest : (left : Forest) × (r.thread.word ≡ tour left)
  rest = passed.balanced (waited, rests.word)

  -- the thread, when this is what was collected
  abbrev after : Collected → Moment C
  after later = record r { collected = later }

  -- without a frame, all of it waits; a frame shows what was reported
  pub framed : (frame : Option (Arc FrameData Global)) (later : Collected) → Collects r.collected frame later
      → Framed m (after later) waited f frame
  framed None later (no_scopes, unchanged) =
      let none : passed.reported ≡ [] = nothing_due C r passed.reported later due_after (no_scopes, unchanged) in
      let streams : later.streams ≡ r.collected.streams = ap (λ (c : Collected). c.streams) unchanged in
      record {
        shown = empty;
        left = rest.0;
        kept = one_tour rest.0 (append waited f) (sym rest.1 ∙ ap (λ (w : List Event). w ++ r.thread.word) (sym none) ∙ events);
        shows = refl;
        rests = record {
          is_due = subst (IsDue (after later)) none
              (still_due answers r (after later) passed.reported [] (timed_still answers r (after later) refl refl refl) streams
              (λ unstarted word. word) due_after);
          word = rest.1;
          details = no_details;
        };
        index = ap (λ (c : Collected). c.index) unchanged ∙ ap (λ n. n + 1) same_index;
        listed = ap (λ (c : Collected). delta_of c.collection c.new_details c.wants_all) unchanged ∙ same_listed;
        started = λ none_yet. refl;
      }
  framed (Some frame) later (holds, some, emptied) = at_here due_after.here
    where
      streams : later.streams ≡ fin_map.empty
      streams = ap (λ (c : Collected). c.streams) emptied

      at_here : SpellsDue (get r.collected.streams (key_at r)) passed.reported → Framed m (after later) waited f (Some frame)
      at_here (inl (no_stream, _none_reported)) =
          let nothing : r.collected.streams ≡ fin_map.empty = no_entry r.collected.streams (key_at r) no_stream due_after.only in
          absurd (none_in_empty (subst (λ (any : Streams). 0 < total_scopes (values any)) nothing some))
      at_here (inr (stream, found, spells)) = record {
        shown = spells.forest;
        left = rest.0;
        kept = one_tour (append spells.forest rest.0) (append waited f)
            (tour-append spells.forest rest.0 ∙ ap (λ (w : List Event). w ++ tour rest.0) spells.toured
            ∙ ap (λ (w : List Event). passed.reported ++ w) (sym rest.1) ∙ events);
        shows = (
          subst (λ (k : ℕ). ShowsForest (arc_value frame) k (key_at r) spells.forest) same_index
              (shows_spelled r.collected later frame (key_at r) stream passed.reported spells
              (one_entry r.collected.streams (key_at r) stream found due_after.only) (holds, some, emptied)),
          holds.delta ∙ same_listed,
        );
        rests = record {
          is_due = record {
            here = inl (ap (λ (s : Streams). get s (key_at r)) streams ∙ get-empty key_cmp (key_at r), refl);
            only = λ other unlike. ap (λ (any : Streams). get any other) streams ∙ get-empty key_cmp other;
            unstarted = λ none. let (_none_reported, no_word, _no_streams) = due_after.unstarted none in (refl, no_word, streams);
          };
          word = rest.1;
          details = no_details;
        };
        index = ap (λ (c : Collected). c.index) emptied ∙ ap (λ n. n + 1) same_index;
        listed = ap (λ (c : Collected). delta_of c.collection c.new_details c.wants_all) emptied;
        started = λ none.
            let (none_reported, _no_word, _no_streams) = due_after.unstarted none in
            one_tour spells.forest empty (spells.toured ∙ none_reported);
      }

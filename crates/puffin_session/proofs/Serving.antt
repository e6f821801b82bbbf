-- What a command that is of no thread does to a session continues its history; and what all commands need for that.
use Rattle.std.proofs.Common.{◌≡◌, ◌≢◌, ℕ, ◌+◌, ◌-◌, ◌^◌, ◌<◌, inl, inr, Bool, true, false, fold, List, [], ◌∷◌, ◌++◌, Option, Some, None, String, Global, refl, sym, ap, ◌∙◌, subst, arith, append-nil}
use Rattle.std.specs.FinMap.{get, values, empty}
use Rattle.std.specs.Arc.{arc_value}
use Rattle.std.specs.Global.{Vec}
use Rattle.std.specs.declared.sync.Arc.{Arc}
use Rattle.puffin_data.specs.declared.data.form.Form.{Form}
use Rattle.puffin_data.specs.Forest.Spelling.{Spells}
use Rattle.puffin_data.specs.declared.error.Error.{Error}
use Rattle.puffin_data.specs.Forest.{Forest}
use Rattle.puffin_data.specs.Honesty.{StreamFacts, AreHonestFacts}
use Rattle.puffin_data.specs.Stream.{StreamState}
use Rattle.puffin_data.specs.Forest.Tour.{tour}
use Rattle.puffin_threads.specs.Thread.ThreadKey.{ThreadKey, key_of}
use Rattle.puffin_threads.specs.Details.{Details, shared_details}
use Rattle.puffin_threads.specs.Details.Collection.{Collection, with_all_details, IsPrefix}
use Rattle.puffin_frames.specs.Frame.Contents.{Streams}
use Rattle.puffin_frames.specs.Frame.Sums.{total_scopes}
use Rattle.puffin_frames.specs.declared.frame_data.frame.FrameData.{FrameData}
use Rattle.puffin_threads.specs.declared.thread_profiler.thread_info.ThreadInfo.{ThreadInfo}
use Rattle.puffin_collector.specs.Collector.State.{Collected, AcceptsReport, after_frame, after_no_frame, after_adding, after_learning, after_wanting, reported_to, delta_of}
use Rattle.puffin_collector.specs.Collector.Registering.{Registers, RegistersSome, Adds, AddsSome}
use Rattle.puffin_collector.specs.Collector.Collecting.{Collects, HoldsAll, KeepsPending}
use Rattle.puffin_session.specs.declared.command.Command.{Command}
use Rattle.puffin_session.specs.declared.command.Command.TheVariants.{RegisterUser, ReportUser, Snapshot, NewFrame}
use Rattle.puffin_session.specs.declared.command.Reply.{Reply}
use Rattle.puffin_session.specs.declared.command.Reply.TheVariants as reply
use Rattle.puffin_threads.specs.Thread.Events.{events_in}
use Rattle.puffin_session.specs.Session.History.{Word, Opening, Action, hands, frames, adds, learns, wants, call_of}
use Rattle.puffin_session.specs.Session.Deliveries.{Delivery, under, all_taken, deliveries_at}
use Rattle.puffin_session.specs.Session.Due.{due, index_after, is_numbered}
use Rattle.puffin_session.specs.Session.Notes.{notes_at, due_notes_at, details_learnt_at, due_details, known_after, is_wanted, wanted_at}
use Rattle.puffin_session.specs.Session.{SessionState, word_in, SpellsWord, TellsAfter}
use Rattle.puffin_session.specs.Session.Actions.{user_details}
use Rattle.puffin_session.specs.Session.Replies.{TellsScopes}
use Rattle.puffin_session.specs.inner.Serving.{session_with_collected, SumsTo, Continued, Continues}
use Rattle.puffin_session.proofs.Histories.{due-same, due-more, due-anew}
use Rattle.puffin_session.proofs.SessionCollects.{SpellsFrame-taken, NoneDue-untaken}
use Rattle.puffin_session.proofs.Laws.{events_in-spelling}
use Rattle.puffin_session.proofs.Telling.{waiting_with, waiting-noted, TellsAfter-more}
use Rattle.puffin_session.proofs.Standing.{StandsAfter-handed, StandsAfter-framed, StandsAfter-unframed, StandsAfter-quiet}
use Rattle.puffin_session.proofs.DueSums.{SumsTo-reported, SumsTo-none, scopes_of, MayReport-from}

-- ---- sums

module _ (o : Opening) (done : List Action) (a : Action) (old new : Streams) (before : SumsTo old (due o done)) where
  -- the sums after an action that delivers nothing, one that delivers a word, and a frame that takes all
  pub sums_same : deliveries_at o done a ≡ [] → new ≡ old → SumsTo new (due o (done ++ (a ∷ [])))
  sums_same none same = rw (same, due-same o done a none) before

  pub sums_more : (i : ThreadKey) (r : StreamFacts) (word : Word) → deliveries_at o done a ≡ under i word ∷ []
      → new ≡ reported_to old i r → SpellsWord r word → SumsTo new (due o (done ++ (a ∷ [])))
  sums_more i r word one same spells =
      subst (λ (s : Streams). SumsTo s (due o (done ++ (a ∷ [])))) (sym same)
      (subst (λ (ds : List Delivery). SumsTo (reported_to old i r) ds) (sym (due-more o done a i word one))
      (SumsTo-reported old (due o done) i r word before spells))

  sums_anew : deliveries_at o done a ≡ all_taken ∷ [] → new ≡ empty → SumsTo new (due o (done ++ (a ∷ [])))
  sums_anew frame same = rw (same, due-anew o done a frame) SumsTo-none

-- ---- what is told of scopes

-- what the next frame tells of stayed as it was
pub record TellsSame (old new : Collected) : Type 0 where
  pub collection : new.collection ≡ old.collection
  pub new_details : new.new_details ≡ old.new_details
  pub wants_all : new.wants_all ≡ old.wants_all

-- what equals tells the same
pub same_told : (old new : Collected) → new ≡ old → TellsSame old new
same_told old new is = record {
  collection = ap (λ (c : Collected). c.collection) is;
  new_details = ap (λ (c : Collected). c.new_details) is;
  wants_all = ap (λ (c : Collected). c.wants_all) is;
}

module _ (o : Opening) (done : List Action) (a : Action) (old new : Collected) (before : TellsAfter o done old) where
  -- an action of which nothing is noted
  pub tells_same : details_learnt_at o done a ≡ [] → due_notes_at o done a ≡ []
      → ((wanted : Bool) → wanted_at wanted a ≡ wanted) → TellsSame old new → TellsAfter o (done ++ (a ∷ [])) new
  tells_same none silent kept same =
      TellsAfter-more o done a old new before (same.collection ∙ ap (with_all_details old.collection) (sym none))
      (same.new_details ∙ ap (fold waiting_with old.new_details) (sym silent))
      (same.wants_all ∙ sym (kept old.wants_all))

-- ---- a user's report

-- what was parsed of a stream says that it spells
pub spelled_in : (r : StreamFacts) (f : Forest) (stream : StreamState) → r.form ≡ stream.form → r.bytes ≡ stream.bytes
    → AreHonestFacts r f → Spells stream.form stream.bytes f
spelled_in r f stream form same honest =
    subst (λ (form : Form). Spells form stream.bytes f) form
    (record { whole = sym same ∙ honest.stream.whole; fits = honest.stream.fits })

-- an accepted report of a user's scopes continues each history
pub Continues-handed : (now : SessionState) (collected : Collected) (info : ThreadInfo) (stream : StreamState)
    (r : StreamFacts) (f : Forest) → AreHonestFacts r f → r.form ≡ stream.form → r.bytes ≡ stream.bytes
    → AcceptsReport now.collected (key_of info) [] r collected
    → Continues now (session_with_collected now collected) (ReportUser info stream) reply.Reported
Continues-handed now collected info stream r f honest form same (is_after, ids, alike, fits, short) = (
  [],
  λ o done before.
      let word = word_in stream.form stream.bytes in
      let whole = spelled_in r f stream form same honest in
      let toured : tour f ≡ word.events = sym (ap (events_in stream.form) whole.whole ∙ events_in-spelling stream.form f whole.fits) in
      let spells : SpellsWord r word = record { forest = f; honest = honest; form = form; toured = toured } in
      let new = session_with_collected now collected in
      let a : Action = hands (key_of info) word in
      let streams = ap (λ (c : Collected). c.streams) is_after in
      let told : TellsSame now.collected collected = record {
        collection = ap (λ (c : Collected). c.collection) is_after;
        new_details = ap (λ (c : Collected). c.new_details) is_after ∙ append-nil now.collected.new_details;
        wants_all = ap (λ (c : Collected). c.wants_all) is_after;
      } in
      let toured_word : Word = record { form = stream.form; events = tour f } in
      let itself : SpellsWord r toured_word = record { forest = f; honest = honest; form = form; toured = refl } in (
        record {
          stands = StandsAfter-handed o done now new before.stands (key_of info) r word
              (record {
                threads = refl;
                raised = ap (λ (c : Collected). c.index) is_after;
                reported = ap (λ (c : Collected). c.reported) is_after
                    ∙ ap (λ (n : ℕ). now.collected.reported + n) (scopes_of r word spells);
              }) spells alike streams
              (tells_same o done a now.collected collected before.stands.tells refl refl (λ w. refl) told);
          sums = sums_more o done a now.collected.streams collected.streams before.sums (key_of info) r word refl streams spells;
        },
        (
          f,
          whole,
          sym toured,
          MayReport-from o done now (key_of info) r toured_word before.stands before.sums itself alike fits
              short,
        ),
      ),
)

-- ---- calls that hand over no scopes

-- an action of no thread that hands over no scopes and raises no index, where what is pending stayed
pub quiet : (now : SessionState) (c : Collected) (o : Opening) (done : List Action) (a : Action)
    → Continued o done now → ((t : ℕ) → (call_of t a ≡ None) × (notes_at t a ≡ [])) → is_numbered a ≡ false
    → deliveries_at o done a ≡ []
    → c.index ≡ now.collected.index → c.reported ≡ now.collected.reported → c.streams ≡ now.collected.streams
    → TellsAfter o (done ++ (a ∷ [])) c → Continued o (done ++ (a ∷ [])) (session_with_collected now c)
quiet now c o done a before none numbered silent index reported streams tells = record {
  stands = StandsAfter-quiet o done now (session_with_collected now c) before.stands a none numbered silent
      (record { threads = refl; raised = index; reported = reported ∙ omega arith }) streams tells;
  sums = sums_same o done a now.collected.streams c.streams before.sums silent streams;
}

-- details were learnt, which are new in the next frame
adding : (now : SessionState) (new : List Details) (o : Opening) (done : List Action) → Continued o done now
    → Continued o (done ++ (adds new ∷ [])) (session_with_collected now (after_adding now.collected new))
adding now new o done before =
    quiet now (after_adding now.collected new) o done (adds new) before (λ t. (refl, refl)) refl refl refl refl refl
    (TellsAfter-more o done (adds new) now.collected (after_adding now.collected new) before.stands.tells refl
    (sym (waiting-noted now.collected.new_details new)) refl)

-- a registration that is accepted, and one that stops early
pub Continues-added : (now : SessionState) (collected : Collected) (names : Vec (String Global)) (ids : Vec ℕ)
    → Adds now.collected (user_details names.items) ids.items collected
    → Continues now (session_with_collected now collected) (RegisterUser names) (reply.RegisteredUser ids)
Continues-added now collected names ids (new, registers_all, is) =
    subst (λ (c : Collected). Continues now (session_with_collected now c) (RegisterUser names) (reply.RegisteredUser ids)) (sym is) (
      new,
      λ o done before. (
        adding now new o done before,
        subst (λ (k : Collection). Registers k (user_details names.items) ids.items new)
            before.stands.tells.collection registers_all,
      ),
    )

pub Continues-not_added : (now : SessionState) (collected : Collected) (names : Vec (String Global)) (e : Error)
    → AddsSome now.collected (user_details names.items) e collected
    → Continues now (session_with_collected now collected) (RegisterUser names) (reply.Refused e)
Continues-not_added now collected names e (new, registers_some, is) =
    subst (λ (c : Collected). Continues now (session_with_collected now c) (RegisterUser names) (reply.Refused e)) (sym is) (
      new,
      λ o done before. (
        adding now new o done before,
        subst (λ (k : Collection). RegistersSome k (user_details names.items) e new) before.stands.tells.collection
            registers_some,
      ),
    )

-- a wanted snapshot
pub Continues-wanted : (now : SessionState)
    → Continues now (session_with_collected now (after_wanting now.collected)) Snapshot reply.Snapshot
Continues-wanted now = (
  [],
  λ o done before. (
    quiet now (after_wanting now.collected) o done wants before (λ t. (refl, refl)) refl refl refl refl refl
        (TellsAfter-more o done wants now.collected (after_wanting now.collected) before.stands.tells refl refl refl),
    tt,
  ),
)

-- ---- frames

tells_scopes : (o : Opening) (done : List Action) (c : Collected) (frame : FrameData) → TellsAfter o done c
    → shared_details frame.scope_delta.items ≡ delta_of c.collection c.new_details c.wants_all
    → frame.full_delta ≡ c.wants_all
    → TellsScopes frame (known_after o done) (due_details o done) (is_wanted o done)
tells_scopes o done c frame tells delta full = record {
  delta = delta ∙ (λ i. delta_of (tells.collection i) (tells.new_details i) (tells.wants_all i));
  full = full ∙ tells.wants_all;
}

-- a frame was taken
pub Continues-framed : (now : SessionState) (f : Arc FrameData Global) → now.collected.index ≢ 2 ^ 64 - 1
    → HoldsAll now.collected (arc_value f)
    → 0 < total_scopes (values now.collected.streams)
    → Continues now (session_with_collected now (after_frame now.collected)) NewFrame
    (reply.Frame (record { frame = Some f; refused = 0 }))
Continues-framed now f more holds some = (
  [],
  λ o done before.
      let new = session_with_collected now (after_frame now.collected) in
      let tells = before.stands.tells in (
        record {
          stands = StandsAfter-framed o done now new before.stands (record { threads = refl; raised = refl; reported = omega arith }) refl
              (TellsAfter-more o done (frames true) now.collected (after_frame now.collected) tells
              (ap (with_all_details now.collected.collection) tells.new_details) refl refl);
          sums = sums_anew o done (frames true) now.collected.streams empty before.sums refl refl;
        },
        (
          refl,
          subst (λ (n : ℕ). n ≢ 2 ^ 64 - 1) before.stands.index more,
          (
            SpellsFrame-taken (arc_value f) now.collected.index (index_after o done) now.collected.streams
                (due o done) holds.held holds.meta before.stands.index some before.stands.collected,
            tells_scopes o done now.collected (arc_value f) tells holds.delta holds.full,
          ),
        ),
      ),
)

-- no scope was collected
pub Continues-unframed : (now : SessionState) → now.collected.index ≢ 2 ^ 64 - 1
    → ((i : ThreadKey) (r : StreamFacts) → get now.collected.streams i ≡ Some r → r.num_scopes ≡ 0)
    → Continues now (session_with_collected now (after_no_frame now.collected)) NewFrame
    (reply.Frame (record { frame = None; refused = 0 }))
Continues-unframed now more none = (
  [],
  λ o done before.
      let new = session_with_collected now (after_no_frame now.collected) in (
        record {
          stands = StandsAfter-unframed o done now new before.stands (record { threads = refl; raised = refl; reported = omega arith }) refl
              (TellsAfter-more o done (frames false) now.collected (after_no_frame now.collected) before.stands.tells refl refl refl);
          sums = sums_same o done (frames false) now.collected.streams now.collected.streams before.sums refl refl;
        },
        (
          refl,
          subst (λ (n : ℕ). n ≢ 2 ^ 64 - 1) before.stands.index more,
          NoneDue-untaken now.collected.streams (due o done) none before.stands.collected,
        ),
      ),
)

-- a new frame, or none
pub Continues-taken : (now : SessionState) (new : Collected) (frame : Option (Arc FrameData Global))
    → now.collected.index ≢ 2 ^ 64 - 1 → Collects now.collected frame new
    → Continues now (session_with_collected now new) NewFrame (reply.Frame (record { frame = frame; refused = 0 }))
Continues-taken now new None more (no_scopes, is) =
    subst
    (λ (c : Collected). Continues now (session_with_collected now c) NewFrame
    (reply.Frame (record { frame = None; refused = 0 }))) (sym is)
    (Continues-unframed now more no_scopes)
Continues-taken now new (Some f) more (holds, some, is) =
    subst
    (λ (c : Collected). Continues now (session_with_collected now c) NewFrame
    (reply.Frame (record { frame = Some f; refused = 0 }))) (sym is)
    (Continues-framed now f more holds some)

-- a refused frame: nothing is learnt, or a prefix of the new details
pub Continues-not_framed : (now : SessionState) (collected : Collected) (e : Error)
    → KeepsPending now.collected e collected
    → Continues now (session_with_collected now collected) NewFrame (reply.Refused e)
Continues-not_framed now collected e (inl (exhausted, last_index, is)) =
    subst (λ (c : Collected). Continues now (session_with_collected now c) NewFrame (reply.Refused e)) (sym is) (
      [],
      λ o done before. (
        quiet now now.collected o done (learns []) before (λ t. (refl, refl)) refl refl refl refl refl
            (TellsAfter-more o done (learns []) now.collected now.collected before.stands.tells refl refl refl),
        inl (exhausted, sym before.stands.index ∙ last_index, refl),
      ),
    )
Continues-not_framed now collected e (inr (memory, (some, begins, is))) =
    subst (λ (c : Collected). Continues now (session_with_collected now c) NewFrame (reply.Refused e)) (sym is) (
      some,
      λ o done before. (
        quiet now (after_learning now.collected some) o done (learns some) before (λ t. (refl, refl)) refl refl refl
            refl refl
            (TellsAfter-more o done (learns some) now.collected (after_learning now.collected some)
            before.stands.tells refl refl refl),
        inr (memory, subst (IsPrefix some) before.stands.tells.new_details begins),
      ),
    )

-- the same of a session and a command that are equal to these
pub same : (old new other : SessionState) (c d : Command) (r : Reply) → c ≡ d → new ≡ other → Continues old other d r
    → Continues old new c r
same old new other c d r commands sessions continues =
    subst (λ (k : Command). Continues old new k r) (sym commands)
    (subst (λ (s : SessionState). Continues old s d r) (sym sessions) continues)

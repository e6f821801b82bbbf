-- The emitted frames of a run, each with what was done before it; their indices rise.
use Rattle.std.proofs.Common.{◌≡◌, ℕ, ◌+◌, ◌<◌, true, cond, List, [], ◌∷◌, ◌++◌, length, map, Option, None, Some, refl, sym, ap, subst, ◌∙◌, arith}
use Rattle.std.specs.Prelude.{nat_lt, MatchOption, if◌then◌else◌}
use Rattle.std.specs.Option.{is_some}
use Rattle.std.specs.List.{AllZip}
use Rattle.std.specs.Arc.{arc_value}
use Rattle.std.specs.declared.sync.Arc.{Arc}
use Rattle.std.specs.declared.alloc.Global.{Global}
use Rattle.std.proofs.lemmas.List.{map-append}
use Rattle.std.proofs.lemmas.List.Sums.{sum_by-append}
use Rattle.puffin_frames.specs.declared.frame_data.frame.FrameData.{FrameData}
use Rattle.puffin_frames.specs.declared.frame_data.meta.FrameMeta.{FrameMeta}
use Rattle.puffin_frames.specs.Packet.Stored.{PacketFields}
use Rattle.puffin_frames.specs.Frame.Contents.{packet_fields, holding_of, frame_streams}
use Rattle.puffin_frames.specs.Frame.Holding.{holding_streams, packing_of, streams_in}
use Rattle.puffin_threads.specs.Details.{Details}
use Rattle.puffin_view.specs.View.ViewedFrames.{fields_of, frame_index, rises_above, is_rising}
use Rattle.puffin_session.specs.declared.command.Command.{Command}
use Rattle.puffin_session.specs.declared.command.Command.TheVariants.{Begin, End, Register, RegisterUser, ReportUser, Snapshot, NewFrame}
use Rattle.puffin_session.specs.declared.command.Reply.{Reply}
use Rattle.puffin_session.specs.declared.command.Reply.TheVariants as reply
use Rattle.puffin_session.specs.Session.History.{Opening, Action, frames}
use Rattle.puffin_session.specs.Session.Due.{due, index_after, is_numbered, NoneDue}
use Rattle.puffin_session.specs.Session.Notes.{known_after, due_details, is_wanted}
use Rattle.puffin_session.specs.Session.Actions.{action_of, actions_of}
use Rattle.puffin_session.specs.Session.Replies.{MayReply, SpellsFrame, TellsScopes}
use Rattle.puffin_session.specs.Session.{SessionState, opening_of}
use Rattle.puffin_session.specs.Session.Runs.{LeadsTo, EachReply}
use Rattle.puffin_replay.specs.Program.EmittedFrames.{frame_in, emitted_by, frames_emitted}
use Rattle.puffin_replay.specs.Promise.{is_emitted, before_frames, SaysDue, EmitsDue, emitted_fields}

-- two pairs of lists, each related element by element, are so behind one another
pairs-append : {A B : Type 0} (R : A → B → Type 0) (these bs : List A) (xs ys : List B) → AllZip R these xs
    → AllZip R bs ys → AllZip R (these ++ bs) (xs ++ ys)
pairs-append R [] bs [] ys h k = k
pairs-append R [] bs (x ∷ xs) ys h k = absurd h
pairs-append R (a ∷ these) bs [] ys h k = absurd h
pairs-append R (a ∷ these) bs (x ∷ xs) ys h k = (h.0, pairs-append R these bs xs ys h.1 k)

-- ---- the replies of a run, one after another

-- Let `R` be what follows if a frame spells and lists what was due after some actions. It is true of each emitted frame and what
-- was done before it.
module _ (o : Opening) (R : List Action → PacketFields → Type 0)
    (says : (done : List Action) (f : FrameData) → SpellsFrame f (index_after o done) (due o done)
    → TellsScopes f (known_after o done) (due_details o done) (is_wanted o done) → R done (packet_fields f)) where
  -- the frame that a command for a frame may emit
  frame_said : (done : List Action) (frame : Option (Arc FrameData Global))
      → MatchOption frame (NoneDue (due o done))
      (λ f. SpellsFrame (arc_value f) (index_after o done) (due o done)
      × TellsScopes (arc_value f) (known_after o done) (due_details o done) (is_wanted o done))
      → AllZip R (if is_some frame then done ∷ [] else []) (map fields_of (frame_in frame))
  frame_said done None h = tt
  frame_said done (Some f) h = (says done (arc_value f) h.0 h.1, tt)

  -- the frame in any reply that a command may get, if there is one
  reply_said : (done : List Action) (c : Command) (r : Reply) (learnt : List Details) → MayReply o done c r learnt
      → AllZip R (if is_emitted (action_of c r learnt) then done ∷ [] else []) (map fields_of (emitted_by r))
  reply_said done NewFrame (reply.Frame emitted) learnt may = frame_said done emitted.frame may.2
  reply_said done NewFrame _ learnt may = tt
  reply_said done (Begin t at id text) (reply.Frame emitted) learnt may = absurd may
  reply_said done (Begin t at id text) _ learnt may = tt
  reply_said done (End t at back) (reply.Frame emitted) learnt may = absurd may
  reply_said done (End t at back) _ learnt may = tt
  reply_said done (Register t name function file line) (reply.Frame emitted) learnt may = absurd may
  reply_said done (Register t name function file line) _ learnt may = tt
  reply_said done (RegisterUser names) (reply.Frame emitted) learnt may = absurd may
  reply_said done (RegisterUser names) _ learnt may = tt
  reply_said done (ReportUser info stream) (reply.Frame emitted) learnt may = absurd may
  reply_said done (ReportUser info stream) _ learnt may = tt
  reply_said done Snapshot (reply.Frame emitted) learnt may = absurd may
  reply_said done Snapshot _ learnt may = tt

  -- the frames in the replies of a run
  all_so : (done : List Action) (cs : List Command) (rs : List Reply) (ls : List (List Details))
      → length rs ≡ length cs → length ls ≡ length cs → EachReply o done cs rs ls
      → AllZip R (before_frames done (actions_of cs rs ls)) (emitted_fields rs)
  all_so done [] [] ls p q may = tt
  all_so done [] (r ∷ rs) ls p q may = absurd (omega arith)
  all_so done (c ∷ cs) [] ls p q may = absurd (omega arith)
  all_so done (c ∷ cs) (r ∷ rs) [] p q may = absurd (omega arith)
  all_so done (c ∷ cs) (r ∷ rs) (l ∷ ls) p q may =
      let a = action_of c r l in
      let later = all_so (done ++ (a ∷ [])) cs rs ls (omega arith) (omega arith) may.1 in
      subst (AllZip R (before_frames done (a ∷ actions_of cs rs ls))) (sym (map-append fields_of (emitted_by r) (frames_emitted rs)))
      (pairs-append R (if is_emitted a then done ∷ [] else [])
      (before_frames (done ++ (a ∷ [])) (actions_of cs rs ls)) (map fields_of (emitted_by r)) (emitted_fields rs)
      (reply_said done c r l may.0) later)

-- each frame's packed streams are unpacked as what it holds
abbrev pub AllUnpackAgain : Type 0
AllUnpackAgain = (f : FrameData) → streams_in (packing_of (holding_of f)) ≡ frame_streams f

module _ (o : Opening) where
  -- ---- what each frame says

  -- a frame that spells and lists what was due, as its contents
  says_due : AllUnpackAgain → (done : List Action) (f : FrameData) → SpellsFrame f (index_after o done) (due o done)
      → TellsScopes f (known_after o done) (due_details o done) (is_wanted o done) → SaysDue o done (packet_fields f)
  says_due again done f spells tells = record {
    streams = spells.streams;
    unpacked = again f ∙ ap holding_streams spells.held;
    spelled = spells.spelled;
    meta = spells.meta;
    details = tells.delta;
  }

  -- each emitted frame of a run has what was due
  all_said : AllUnpackAgain → (cs : List Command) (rs : List Reply) (ls : List (List Details)) → length rs ≡ length cs
      → length ls ≡ length cs → EachReply o [] cs rs ls
      → AllZip (SaysDue o) (before_frames [] (actions_of cs rs ls)) (emitted_fields rs)
  all_said again = all_so o (SaysDue o) (says_due again) []

  -- ---- their indices

  abbrev HasIndex : List Action → PacketFields → Type 0
  HasIndex done c = frame_index c ≡ index_after o done

  -- the next frame's index after one more action
  index-more : (done : List Action) (a : Action) → index_after o (done ++ (a ∷ [])) ≡ index_after o done + cond (is_numbered a) 1 0
  index-more done a =
      let more = sum_by-append (λ (x : Action). cond (is_numbered x) 1 0) done (a ∷ []) in
      omega (arith, more)

  -- the frames that are emitted after `done` have indices above each one below the next frame's
  rise : (i : ℕ) (done later : List Action) (cs : List PacketFields) → i < index_after o done
      → AllZip HasIndex (before_frames done later) cs → rises_above i cs ≡ true
  rise i done [] [] below all = refl
  rise i done [] (c ∷ cs) below all = absurd all
  rise i done (frames true ∷ later) [] below all = absurd all
  rise i done (frames true ∷ later) (c ∷ cs) below all =
      let more = index-more done (frames true) in
      let here : frame_index c ≡ index_after o done = all.0 in
      let lt : nat_lt i (frame_index c) ≡ true = grind (arith, here, below) in
      rw lt (rise (frame_index c) (done ++ (frames true ∷ [])) later cs (omega arith) all.1)
  rise i done (a ∷ later) cs below all = let more = index-more done a in rise i (done ++ (a ∷ [])) later cs (omega arith) all

  -- and so their indices rise
  frames_rise : (done later : List Action) (cs : List PacketFields) → AllZip HasIndex (before_frames done later) cs → is_rising cs ≡ true
  frames_rise done [] [] all = refl
  frames_rise done [] (c ∷ cs) all = absurd all
  frames_rise done (frames true ∷ later) [] all = absurd all
  frames_rise done (frames true ∷ later) (c ∷ cs) all =
      let more = index-more done (frames true) in
      let here : frame_index c ≡ index_after o done = all.0 in
      rise (frame_index c) (done ++ (frames true ∷ [])) later cs (omega arith) all.1
  frames_rise done (a ∷ later) cs all = frames_rise (done ++ (a ∷ [])) later cs all

  -- the frames in the replies of a run have rising indices
  emitted_rise : (cs : List Command) (rs : List Reply) (ls : List (List Details)) → length rs ≡ length cs
      → length ls ≡ length cs → EachReply o [] cs rs ls → is_rising (emitted_fields rs) ≡ true
  emitted_rise cs rs ls p q may =
      frames_rise [] (actions_of cs rs ls) (emitted_fields rs)
      (all_so o HasIndex (λ done f spells tells. ap (λ (m : FrameMeta). m.frame_index) spells.meta) [] cs rs ls p
      q may)

-- ---- a run

-- a run emits what was due
pub emits : AllUnpackAgain → (start end : SessionState) (commands : List Command) (replies : List Reply)
    → LeadsTo start end commands replies → EmitsDue start end commands replies
emits again start end commands replies run = record {
  run = run;
  due = all_said (opening_of start) again commands replies run.learnt run.num_replies run.num_learnt run.replies_stand;
  rising = emitted_rise (opening_of start) commands replies run.learnt run.num_replies run.num_learnt run.replies_stand;
}

-- A view takes the frames of replies one after another; and what recording a run, or running a script, leaves where it fails.
use Rattle.std.proofs.Common.{◌≡◌, ◌⊎◌, inl, inr, ℕ, ◌+◌, ◌<◌, List, [], ◌∷◌, ◌++◌, length, take, drop, get_or, map, refl, sym, ap, ◌∙◌, subst, append_assoc, append-nil, Option, None, Some, Result, Err, All, ◌↔◌, true, false}
use Rattle.std.specs.Prelude.{Bool, is_none, IsSome}
use Rattle.std.specs.List.{flat_map, list_any, AllByRecursion, Any}
use Rattle.std.proofs.lemmas.List.Folds.{list_any-append, list_any_none}
use Rattle.std.proofs.lemmas.Grind.{flat_map-append}
use Rattle.std.proofs.lemmas.List.{take_more, drop_more, take-append-drop, map-append}
use Rattle.std.proofs.lemmas.List.Elements.{All-get_or, recursion_from_All}
use Rattle.std.proofs.lemmas.List.Sums.{fold-append}
use Rattle.std.specs.Io.KnownBytes.{Appends}
use Rattle.puffin_data.specs.declared.error.Error.{Error}
use Rattle.puffin_data.specs.declared.error.Error.TheVariants.{MissingId, Memory}
use Rattle.puffin_data.specs.declared.file_error.FileError.{FileError}
use Rattle.puffin_data.specs.declared.file_error.FileError.TheVariants as file
use Rattle.puffin_data.specs.Device.{IsOutside, WritesBeginning}
use Rattle.puffin_frames.specs.Packet.Grammar.{IsPacked}
use Rattle.puffin_frames.specs.Packet.Writing.{HasLongPart}
use Rattle.puffin_threads.specs.Details.{Details, lacks_id, AllHaveIds}
use Rattle.puffin_threads.specs.Details.Collection.{Collection, with_details, with_all_details, LearnsSome}
use Rattle.puffin_frames.specs.Packet.Stored.{PacketFields}
use Rattle.puffin_view.specs.declared.profile_view.frame_view.FrameView.{FrameView}
use Rattle.puffin_view.specs.View.ViewedFrames.{Frame, fields_of, index_of}
use Rattle.puffin_view.specs.View.FrameOf.{shared_frame, details_of_frame}
use Rattle.puffin_frames.specs.declared.frame_data.frame.FrameData.{FrameData}
use Rattle.std.specs.declared.sync.Arc.{Arc}
use Rattle.std.specs.declared.alloc.Global.{Global}
use Rattle.puffin_view.specs.View.{View, Took, after_taking, after_all, KeepsFrames}
use Rattle.puffin_view.specs.View.Known.{view_of, collection_of, lacks_ids}
use Rattle.puffin_view.specs.View.File.{file_of, fields_held, fields_in}
use Rattle.puffin_session.specs.declared.command.Command.{Command}
use Rattle.puffin_replay.specs.declared.replay.script.Script.{Script}
use Rattle.puffin_session.specs.declared.command.Reply.{Reply}
use Rattle.puffin_session.specs.declared.command.Reply.TheVariants as reply
use Rattle.puffin_data.specs.declared.data.form.Form.{Form}
use Rattle.puffin_replay.specs.Script.{threads_said}
use Rattle.puffin_session.specs.Session.Runs.{HasIds, AreReplies, details_listed, details_of_reply}
use Rattle.puffin_report.specs.Summary.{NoneLacksIds}
use Rattle.puffin_replay.specs.Program.EmittedFrames.{frame_in, emitted_by, frames_emitted, Takes, TakesSome, TookAlso}
use Rattle.puffin_replay.specs.Program.Recording.{file_of_view, IsBroken}
use Rattle.puffin_replay.specs.Promise.{EmitsDue, IsNotRun, IsNotTaken, emitted_fields}
use Rattle.puffin_replay.proofs.KeptFrames.{kept_by}
use Rattle.puffin_replay.specs.Program.ScriptRun.{AreAnswers, loose_view, view_after, fields_after, IsReplayed, IsUnfinished}
use Rattle.puffin_replay.specs.Program.ReplyLines.{reply_lines}
use Rattle.puffin_session.specs.Session.{SessionState, new_session}
use Rattle.puffin_report.proofs.lemmas.WrittenLines.{nothing_written}

-- ---- lists

after_all-append : (v : View) (fs gs : List Frame) → after_all v (fs ++ gs) ≡ after_all (after_all v fs) gs
after_all-append v [] gs = refl
after_all-append v (f ∷ fs) gs = after_all-append (after_taking v f) fs gs

with_all_details-append : (c : Collection) (ds es : List Details)
    → with_all_details c (ds ++ es) ≡ with_all_details (with_all_details c ds) es
with_all_details-append c ds es = fold-append with_details c ds es

told-more : (fs : List Frame) (f : Frame) → flat_map details_of_frame (fs ++ (f ∷ [])) ≡ flat_map details_of_frame fs ++ details_of_frame f
told-more fs f =
    flat_map-append details_of_frame fs (f ∷ [])
    ∙ ap (λ ds. flat_map details_of_frame fs ++ ds) (append-nil (details_of_frame f))

has_id : (id : Option ℕ) → IsSome id → is_none id ≡ false
has_id None some = cc
has_id (Some n) some = refl

-- details that all have ids are refused for want of memory alone
memory_alone : {T : Type 0} (r : Result T Error) (e : Error) (ds : List Details) → AllHaveIds ds → r ≡ Err e
    → ((r ≡ Err MissingId) ↔ (list_any lacks_id ds ≡ true)) → (e ≡ MissingId) ⊎ (e ≡ Memory) → e ≡ Memory
memory_alone r e ds all was missing (inl lacks) =
    let none = list_any_none lacks_id ds (λ k d lt. has_id _ (all k d lt)) in
    let some = missing.0 (was ∙ ap Err lacks) in
    absurd (cc)
memory_alone r e ds all was missing (inr memory) = memory

-- ---- ids

none_lack : (ds : List Details) → AllByRecursion (λ (d : Details). IsSome d.id) ds → list_any lacks_id ds ≡ false
none_lack [] all = refl
none_lack (d ∷ ds) all = rw (has_id d.id all.0) (none_lack ds all.1)

both_none : (cs ds : List PacketFields) → NoneLacksIds cs → NoneLacksIds ds → NoneLacksIds (cs ++ ds)
both_none cs ds p q = list_any-append lacks_ids cs ds ∙ rw (p, q) refl

all_first : {X : Type 0} (P : X → Type 0) (xs ys : List X) → AllByRecursion P (xs ++ ys) → AllByRecursion P xs
all_first P [] ys all = tt
all_first P (x ∷ xs) ys all = (all.0, all_first P xs ys all.1)

all_rest : {X : Type 0} (P : X → Type 0) (xs ys : List X) → AllByRecursion P (xs ++ ys) → AllByRecursion P ys
all_rest P [] ys all = all
all_rest P (x ∷ xs) ys all = all_rest P xs ys all.1

frames_lack_none : (fs : List Frame) → AllByRecursion (λ (d : Details). IsSome d.id) (flat_map details_of_frame fs)
    → NoneLacksIds (map fields_of fs)
frames_lack_none [] all = refl
frames_lack_none (f ∷ fs) all =
    rw (none_lack (details_of_frame f)
    (all_first (λ d. IsSome d.id) (details_of_frame f) (flat_map details_of_frame fs) all))
    (frames_lack_none fs (all_rest (λ d. IsSome d.id) (details_of_frame f) (flat_map details_of_frame fs) all))

-- the details of a reply are those of its frame
same_details : (r : Reply) → details_of_reply r ≡ flat_map details_of_frame (emitted_by r)
same_details (reply.Frame emitted) = in_frame emitted.frame where
  in_frame : (o : Option (Arc FrameData Global)) → details_listed o ≡ flat_map details_of_frame (frame_in o)
  in_frame None = refl
  in_frame (Some f) = sym (append-nil (details_of_frame (shared_frame f)))
same_details r = refl

replies_lack_none : (rs : List Reply) → AllByRecursion HasIds rs → NoneLacksIds (map fields_of (frames_emitted rs))
replies_lack_none [] all = refl
replies_lack_none (r ∷ rs) all =
    let told = subst AllHaveIds (same_details r) all.0 in
    let one =
    frames_lack_none (emitted_by r)
    (recursion_from_All (λ (d : Details). IsSome d.id) (flat_map details_of_frame (emitted_by r)) told) in
    subst NoneLacksIds (sym (map-append fields_of (emitted_by r) (frames_emitted rs)))
    (both_none (map fields_of (emitted_by r)) (map fields_of (frames_emitted rs)) one (replies_lack_none rs all.1))

-- what a view holds after it took the frames of these replies
pub ids_kept :
    ((p : PacketFields → Bool) (v : View) (fs : List Frame) → list_any p (fields_held v) ≡ false
    → list_any p (map fields_of fs) ≡ false → list_any p (fields_held (after_all v fs)) ≡ false)
    → (rs : List Reply) (old new : FrameView) → All HasIds rs → Takes (frames_emitted rs) old new
    → NoneLacksIds (fields_held (view_of old)) → NoneLacksIds (fields_held (view_of new))
ids_kept held rs old new ids takes before =
    subst (λ (v : View). NoneLacksIds (fields_held v)) (sym takes.taken)
    (held lacks_ids (view_of old) (frames_emitted rs) before
    (replies_lack_none rs (recursion_from_All HasIds rs ids)))

-- the view took these frames, after those that it had taken before
abbrev pub TakesAll : List Frame → FrameView → FrameView → Type 0
TakesAll fs old new = Takes fs old new × TookAlso fs (view_of old) (view_of new)

module _ (rs : List Reply) (i : ℕ) (r : Reply) (h : i < length rs) (is : r ≡ get_or rs i r) where
  -- the frames up to a reply, with the reply and without
  frames-more : frames_emitted (take (i + 1) rs) ≡ frames_emitted (take i rs) ++ emitted_by r
  frames-more =
      ap frames_emitted (take_more rs i r h ∙ ap (λ (x : Reply). take i rs ++ (x ∷ [])) (sym is))
      ∙ flat_map-append emitted_by (take i rs) (r ∷ [])
      ∙ ap (λ (fs : List Frame). frames_emitted (take i rs) ++ fs) (append-nil (emitted_by r))

  -- and all of them
  frames-split : frames_emitted rs ≡ frames_emitted (take i rs) ++ (emitted_by r ++ frames_emitted (drop (i + 1) rs))
  frames-split =
      ap frames_emitted (sym (take-append-drop i rs)) ∙ flat_map-append emitted_by (take i rs) (drop i rs)
      ∙ ap (λ (xs : List Reply). frames_emitted (take i rs) ++ frames_emitted xs)
      (drop_more rs i r h ∙ ap (λ (x : Reply). x ∷ drop (i + 1) rs) (sym is))

  -- ---- a reply without a frame

  pub TakesAll-same : emitted_by r ≡ [] → (old now : FrameView) → TakesAll (frames_emitted (take i rs)) old now
      → TakesAll (frames_emitted (take (i + 1) rs)) old now
  TakesAll-same none old now =
      subst (λ (fs : List Frame). TakesAll fs old now)
      (sym
      (frames-more
      ∙ ap (λ (fs : List Frame). frames_emitted (take i rs) ++ fs) none
      ∙ append-nil (frames_emitted (take i rs))))

  -- ---- a reply with a frame

  module _ (f : Frame) (some : emitted_by r ≡ f ∷ []) where
    one_more : frames_emitted (take (i + 1) rs) ≡ frames_emitted (take i rs) ++ (f ∷ [])
    one_more = frames-more ∙ ap (λ (fs : List Frame). frames_emitted (take i rs) ++ fs) some

    Takes-more : (old now new : FrameView) → Takes (frames_emitted (take i rs)) old now
        → view_of new ≡ after_taking (view_of now) f
        → collection_of new ≡ with_all_details (collection_of now) (details_of_frame f)
        → Takes (frames_emitted (take (i + 1) rs)) old new
    Takes-more old now new takes taken learnt =
        let fs = frames_emitted (take i rs) in
        subst (λ (gs : List Frame). Takes gs old new) (sym one_more)
        (record {
          taken = taken ∙ ap (λ (v : View). after_taking v f) takes.taken ∙ sym (after_all-append (view_of old) fs (f ∷ []));
          details =
              learnt
              ∙ ap (λ (c : Collection). with_all_details c (details_of_frame f)) takes.details
              ∙ sym (with_all_details-append (collection_of old) (flat_map details_of_frame fs) (details_of_frame f))
              ∙ ap (λ (ds : List Details). with_all_details (collection_of old) ds) (sym (told-more fs f));
        })

    Took-more : (old now new : View) → TookAlso (frames_emitted (take i rs)) old now → TookAlso (f ∷ []) now new
        → TookAlso (frames_emitted (take (i + 1) rs)) old new
    Took-more old now new before step cs took =
        let fs = frames_emitted (take i rs) in
        let joined : cs ++ map fields_of (frames_emitted (take (i + 1) rs)) ≡ (cs ++ map fields_of fs) ++ (fields_of f ∷ []) =
        ap (λ (gs : List Frame). cs ++ map fields_of gs) one_more
        ∙ ap (λ (ds : List PacketFields). cs ++ ds) (map-append fields_of fs (f ∷ []))
        ∙ sym (append_assoc cs (map fields_of fs) (fields_of f ∷ [])) in
        subst (λ (ds : List PacketFields). Took ds new) (sym joined) (step (cs ++ map fields_of fs) (before cs took))

    pub TakesAll-more : (old now new : FrameView) → TakesAll (frames_emitted (take i rs)) old now
        → view_of new ≡ after_taking (view_of now) f
        → collection_of new ≡ with_all_details (collection_of now) (details_of_frame f)
        → TookAlso (f ∷ []) (view_of now) (view_of new) → TakesAll (frames_emitted (take (i + 1) rs)) old new
    TakesAll-more old now new before taken learnt took = (
      Takes-more old now new before.0 taken learnt,
      Took-more (view_of old) (view_of now) (view_of new) before.1 took,
    )

    -- ---- and where it was refused

    split : frames_emitted rs ≡ frames_emitted (take i rs) ++ (f ∷ frames_emitted (drop (i + 1) rs))
    split = frames-split ∙ ap (λ (fs : List Frame). frames_emitted (take i rs) ++ (fs ++ frames_emitted (drop (i + 1) rs))) some

    have_ids : HasIds r → AllHaveIds (details_of_frame f)
    have_ids ids = subst AllHaveIds (same_details r ∙ ap (flat_map details_of_frame) some ∙ append-nil (details_of_frame f)) ids

    pub refused_for_memory : {T : Type 0} (answer : Result T Error) (e : Error) → All HasIds rs → answer ≡ Err e
        → ((answer ≡ Err MissingId) ↔ (lacks_ids (fields_of f) ≡ true)) → (e ≡ MissingId) ⊎ (e ≡ Memory) → e ≡ Memory
    refused_for_memory answer e ids was missing cause =
        memory_alone answer e (details_of_frame f) (have_ids (subst HasIds (sym is) (All-get_or HasIds rs i r h ids)))
        was missing cause

    pub TakesSome-refused : (old now new : FrameView) → Takes (frames_emitted (take i rs)) old now
        → KeepsFrames (view_of now) (index_of f) (view_of new)
        → LearnsSome (collection_of now) (details_of_frame f) (collection_of new) → TakesSome (frames_emitted rs) old new
    TakesSome-refused old now new takes kept learns = record {
      front = frames_emitted (take i rs);
      next = f;
      rest = frames_emitted (drop (i + 1) rs);
      split = split;
      taken = subst (λ (v : View). KeepsFrames v (index_of f) (view_of new)) takes.taken kept;
      details = subst (λ (c : Collection). LearnsSome c (details_of_frame f) (collection_of new)) takes.details learns;
    }

    -- there was no copy of it
    pub TakesSome-memory : (old now : FrameView) → Takes (frames_emitted (take i rs)) old now → TakesSome (frames_emitted rs) old now
    TakesSome-memory old now takes = TakesSome-refused old now now takes (inl refl) ([], (details_of_frame f, refl), refl)

-- ---- a recording that fails

-- a run that isn't taken whole leaves a recording that writes nothing
pub not_written : (start end : SessionState) (commands : List Command) (old new : FrameView)
    (before : Option (List ℕ)) (fault : FileError) (told : Option (List Reply))
    → IsNotRun start end commands old new fault told ⊎ IsNotTaken start end commands old new fault told
    → IsBroken start end commands old new before before fault
not_written start end commands old new before fault told (inl (memory, none, same, takes)) =
    inl (memory, same, takes, nothing_written before)
not_written start end commands old new before fault told (inr (replies, said, emits, some, memory)) =
    inr (inl (replies, emits.run, some, memory, nothing_written before))

-- ---- a script's run

-- these are the threads and the commands of a script
module _ (script : Script) (names : List (List ℕ × Form)) (commands : List Command)
    (same_names : names ≡ threads_said script) (same_commands : commands ≡ script.commands.items) where
  -- a run of these commands is one of the script
  pub answers : (replies : List Reply) (end : SessionState) → AreReplies names commands replies end → AreAnswers script replies end
  answers replies end run =
      subst (λ (ns : List (List ℕ × Form)). AreReplies ns script.commands.items replies end) same_names
      (subst (λ (cs : List Command). AreReplies names cs replies end) same_commands run)

  -- the view was new before
  module _ (old new : FrameView) (empty : view_of old ≡ loose_view) where
    pub view-after : (replies : List Reply) → Takes (frames_emitted replies) old new → view_of new ≡ view_after replies
    view-after replies takes = takes.taken ∙ ap (λ (v : View). after_all v (frames_emitted replies)) empty

    -- the file wasn't written whole
    pub unfinished : (fault : FileError) (file_before file_after lines : Option (List ℕ))
        → (end : SessionState) × IsBroken (new_session names) end commands old new file_before file_after fault
        → (fault ≡ file.PartTooLong → Any HasLongPart (fields_in (view_of new)))
        → IsUnfinished script file_before file_after lines lines fault
    unfinished fault file_before file_after lines (end, inl (memory, same, takes, nothing)) long =
        inl (memory, nothing, nothing_written lines)
    unfinished fault file_before file_after lines (end, inr (inl (replies, leads, some, memory, nothing))) long =
        inl (memory, nothing, nothing_written lines)
    unfinished fault file_before file_after lines (end, inr (inr (replies, leads, takes, begun, cause, took))) long =
        let same = view-after replies takes in
        inr (inl (
          replies,
          end,
          answers replies end leads,
          subst (λ (v : View). WritesBeginning file_before file_after (file_of (fields_in v))) same begun,
          nothing_written lines,
          cause,
          λ e. subst (λ (v : View). Any HasLongPart (fields_in v)) same (long e),
        ))

    -- the file was written
    module _ (replies : List Reply) (run : (end : SessionState) × EmitsDue (new_session names) end commands replies)
        (takes : Takes (frames_emitted replies) old new) (file_before file_after : Option (List ℕ))
        (written : Appends file_before file_after (file_of_view new))
        (ids : NoneLacksIds (fields_in (view_of new))) where
      written-after : Appends file_before file_after (file_of (fields_after replies))
      written-after = subst (λ (v : View). Appends file_before file_after (file_of (fields_in v))) (view-after replies takes) written

      ids-after : NoneLacksIds (fields_after replies)
      ids-after = subst (λ (v : View). NoneLacksIds (fields_in v)) (view-after replies takes) ids

      -- and a prefix of the lines
      pub cut_lines : (fault : FileError) (bytes : List ℕ) (lines_before lines_after : Option (List ℕ))
          → bytes ≡ reply_lines script.lines.items replies → WritesBeginning lines_before lines_after bytes
          → IsOutside fault
          → IsUnfinished script file_before file_after lines_before lines_after fault
      cut_lines fault bytes lines_before lines_after same part outside =
          inr
          (inr (
            replies,
            run.0,
            answers replies run.0 run.1.run,
            written-after,
            ids-after,
            subst (λ (bs : List ℕ). WritesBeginning lines_before lines_after bs) same part,
            outside,
          ))

      -- and no line, for want of memory
      pub no_lines : (fault : FileError) (lines : Option (List ℕ)) → fault ≡ file.Memory
          → IsUnfinished script file_before file_after lines lines fault
      no_lines fault lines memory =
          cut_lines fault (reply_lines script.lines.items replies) lines lines refl
          ([], reply_lines script.lines.items replies, refl, nothing_written lines) (inr memory)

      -- and the lines
      pub replayed : (bytes : List ℕ) (lines_before lines_after : Option (List ℕ))
          → TookAlso (frames_emitted replies) (view_of old) (view_of new) → Took [] (view_of old)
          → bytes ≡ reply_lines script.lines.items replies → AllByRecursion IsPacked (fields_in (view_of new))
          → Appends lines_before lines_after bytes
          → IsReplayed script file_before file_after lines_before lines_after
      replayed bytes lines_before lines_after took none same packed printed = record {
        replies = replies;
        end = run.0;
        emits = subst (λ (ns : List (List ℕ × Form)). EmitsDue (new_session ns) run.0 script.commands.items replies)
            same_names
            (subst (λ (cs : List Command). EmitsDue (new_session names) run.0 cs replies) same_commands run.1);
        kept = kept_by loose_view (frames_emitted replies) (view_after replies) 1000 256 (emitted_fields replies) refl
            refl refl run.1.rising took-after;
        took = took-after;
        written = written-after;
        packed = subst (λ (v : View). AllByRecursion IsPacked (fields_in v)) (view-after replies takes) packed;
        ids = ids-after;
        told = subst (λ (bs : List ℕ). Appends lines_before lines_after bs) same printed;
      }
        where
          took-after : Took (emitted_fields replies) (view_after replies)
          took-after = subst (λ (v : View). Took (emitted_fields replies) v) (view-after replies takes) (took [] none)

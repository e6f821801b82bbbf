-- Views of frames that were read.
use Rattle.std.proofs.Common.{◌≡◌, ℕ, ◌-◌, ◌^◌, ◌<◌, Bool, true, false, List, [], ◌∷◌, ◌++◌, length, map, Option, Some, Result, Ok, Err, ◌⊎◌, inl, inr, refl, sym, ap, subst, ◌∙◌}
use Rattle.std.specs.Prelude.{◌||◌, ◌↔◌}
use Rattle.std.specs.List.{flat_map, list_any}
use Rattle.std.specs.Arc.{arc_value}
use Rattle.std.specs.declared.sync.Arc.{Arc}
use Rattle.std.proofs.lemmas.List.{map-append, flat_map_more}
use Rattle.std.proofs.lemmas.List.Sums.{fold-append}
use Rattle.puffin_data.specs.declared.error.Error.{Error}
use Rattle.puffin_data.specs.declared.error.Error.TheVariants.{MissingId}
use Rattle.puffin_data.specs.declared.file_error.FileError.{FileError}
use Rattle.puffin_data.specs.declared.file_error.FileError.TheVariants as file
use Rattle.puffin_data.specs.Device.{FromDevice}
use Rattle.puffin_frames.specs.declared.frame_data.frame.FrameData.{FrameData}
use Rattle.puffin_threads.specs.declared.scope_details.details.ScopeDetails.{ScopeDetails}
use Rattle.puffin_threads.specs.Details.{Details, details_of, shared_details, lacks_id}
use Rattle.puffin_threads.specs.Details.Collection.{Collection, no_details, with_details, with_all_details}
use Rattle.puffin_frames.specs.Packet.Stored.{Stored}
use Rattle.puffin_frames.specs.Packet.Front.{next_at}
use Rattle.puffin_frames.specs.Packet.Next.{stored_of, IsFresh}
use Rattle.puffin_view.specs.declared.profile_view.frame_view.FrameView.{FrameView}
use Rattle.puffin_view.specs.View.ViewedFrames.{Frame, fields_of}
use Rattle.puffin_view.specs.View.FrameOf.{frame_of, details_of_frame}
use Rattle.puffin_view.specs.View.{View, after_taking, after_all, Took}
use Rattle.puffin_view.specs.View.Known.{view_of, collection_of, lacks_ids}
use Rattle.puffin_view.specs.View.File.{frame_stored, details_stored, read_view, file_at, FailsToRead, IsViewOf}
use Rattle.puffin_view.specs.View.FrameFile.{HasGiven}
use Rattle.puffin_view.proofs.Taking.{Took-all, Took-none}
use Rattle.puffin_view.proofs.lemmas.FilesRead.{checked, refused, given_more, fault_given}
use Rattle.puffin_view.proofs.lemmas.FrameStreams.{fresh_frame}

-- ---- one frame more

-- taking one frame more comes last
pub after_last : (v : View) (fs : List Frame) (f : Frame) → after_all v (fs ++ f ∷ []) ≡ after_taking (after_all v fs) f
after_last v [] f = refl
after_last v (g ∷ fs) f = after_last (after_taking v g) fs f

-- a view that reads frames took them all
pub took_all : (fs : List Frame) → Took (map fields_of fs) (after_all read_view fs)
took_all fs = Took-all read_view [] fs tt (Took-none read_view refl refl refl)

-- a view in this state with these details is the view of these frames
pub view_of_frames : (stored : List Stored) (v : FrameView)
    → view_of v ≡ after_all read_view (map frame_stored stored)
    → collection_of v ≡ with_all_details no_details (flat_map details_stored stored) → IsViewOf stored v
view_of_frames stored v frames details = record {
  frames = frames;
  took = subst (λ (w : View). Took (map fields_of (map frame_stored stored)) w) (sym frames)
      (took_all (map frame_stored stored));
  details = details;
}

-- the view of the frames took one more of them
pub view_of_more : (stored : List Stored) (s : Stored) (f : Frame) (v w : FrameView) → f ≡ frame_stored s
    → IsViewOf stored v → view_of w ≡ after_taking (view_of v) f
    → collection_of w ≡ with_all_details (collection_of v) (details_of_frame f) → IsViewOf (stored ++ s ∷ []) w
view_of_more stored s f v w is h taken learnt =
    let frames = map frame_stored stored in
    view_of_frames (stored ++ s ∷ []) w
    (taken ∙ (ap (λ (u : View). after_taking u f) h.frames
    ∙ (ap (after_taking (after_all read_view frames)) is ∙ (sym (after_last read_view frames (frame_stored s))
    ∙ ap (after_all read_view) (sym (map-append frame_stored stored (s ∷ [])))))))
    (learnt ∙ (ap (λ (c : Collection). with_all_details c (details_of_frame f)) h.details ∙ (ap (λ (g : Frame).
    with_all_details (with_all_details no_details (flat_map details_stored stored)) (details_of_frame g)) is
    ∙ (sym (fold-append with_details no_details (flat_map details_stored stored) (details_stored s))
    ∙ ap (with_all_details no_details) (flat_map_more details_stored [] stored s)))))

-- ---- a frame that was read and then refused or taken

-- some of its details have no id, or there was no memory
pub refused_frame : (old mid new : Option (List ℕ)) (frames : List Stored) (e : FileError) (frame : FrameData)
    → HasGiven old mid frames → length frames < 2 ^ 64 - 1 → IsFresh frame
    → FromDevice {X = FrameData} (λ f. Some (stored_of f)) mid new (Ok frame) next_at
    → (e ≡ file.Refused MissingId → lacks_ids (fields_of (frame_of frame)) ≡ true)
    → (e ≡ file.Refused MissingId) ⊎ (e ≡ file.Memory)
    → FailsToRead file_at old new e
refused_frame old mid new frames e frame given few fresh next lacks (inl missing) =
    let without = refused mid new frame next
    (ap (λ (f : Frame). lacks_ids (fields_of f)) (sym (fresh_frame frame fresh)) ∙ lacks missing) in
    subst (λ (f : FileError). FailsToRead file_at old new f) (sym missing)
    (fault_given mid new (Err (file.Refused MissingId)) without old frames given few)
refused_frame old mid new frames e frame given few fresh next lacks (inr memory) =
    subst (λ (f : FileError). FailsToRead file_at old new f) (sym memory) tt

-- one that a view took is given with its ids
pub given_frame : (old mid new : Option (List ℕ)) (frames : List Stored) (frame : FrameData) → HasGiven old mid frames
    → IsFresh frame → FromDevice {X = FrameData} (λ f. Some (stored_of f)) mid new (Ok frame) next_at
    → lacks_ids (fields_of (frame_of frame)) ≡ false → HasGiven old new (frames ++ stored_of frame ∷ [])
given_frame old mid new frames frame given fresh next ids =
    let with_ids = checked mid new frame next
    (ap (λ (f : Frame). lacks_ids (fields_of f)) (sym (fresh_frame frame fresh)) ∙ ids) in
    given_more mid new (Ok (Some frame)) with_ids old frames given

-- ---- the test of ids

any_shared : {A : Type 0} (ds : List (Arc ScopeDetails A))
    → list_any (λ d. lacks_id (details_of (arc_value d))) ds ≡ list_any lacks_id (shared_details ds)
any_shared [] = refl
any_shared (d ∷ ds) = ap (λ (b : Bool). lacks_id (details_of (arc_value d)) || b) (any_shared ds)

-- what a test of shared details tells of what they say
pub tested : {A : Type 0} (b : Bool) (ds : List (Arc ScopeDetails A)) (said : List Details)
    → b ≡ list_any (λ d. lacks_id (details_of (arc_value d))) ds → shared_details ds ≡ said
    → list_any lacks_id said ≡ b
tested b ds said is same = ap (list_any lacks_id) (sym same) ∙ sym (is ∙ any_shared ds)

-- details that weren't refused all have ids
pub has_ids : (b : Bool) (r : Result (Unit {0}) Error) (done : Unit {0}) → r ≡ Ok done
    → ((r ≡ Err MissingId) ↔ (b ≡ true)) → b ≡ false
has_ids true r done ok h =
    let e : ◌≡◌ {A = Result (Unit {0}) Error} (Ok done) (Err MissingId) = sym ok ∙ h.1 refl in absurd (cc)
has_ids false r done ok h = refl

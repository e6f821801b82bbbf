-- Merging the frames of a file, or of a view, and why there is no merge.
use Rattle.std.proofs.Common.{◌≡◌, ◌⊎◌, inl, inr, ℕ, List, [], ◌∷◌, ◌++◌, map, refl, sym, ap, subst, ◌∙◌, append_assoc, append-nil}
use Rattle.std.proofs.lemmas.List.{map-append}
use Rattle.std.specs.Prelude.{Option, Some, None, Result, Ok, Err}
use Rattle.std.specs.Str.{IsUtf8}
use Rattle.std.specs.Arc.{arc_value}
use Rattle.std.specs.declared.sync.Arc.{Arc}
use Rattle.std.specs.declared.alloc.Global.{Global}
use Rattle.puffin_data.specs.declared.error.Error.{Error}
use Rattle.puffin_data.specs.declared.error.Error.TheVariants as error
use Rattle.puffin_data.specs.declared.file_error.FileError.{FileError}
use Rattle.puffin_data.specs.declared.file_error.FileError.TheVariants as file
use Rattle.puffin_threads.specs.Thread.ThreadKey.{ThreadKey}
use Rattle.puffin_frames.specs.declared.frame_data.unpacked.UnpackedFrameData.{UnpackedFrameData}
use Rattle.puffin_frames.specs.Packet.Stored.{PacketFields, Stored}
use Rattle.puffin_merge.specs.Merge.FrameBytes.{FrameBytes}
use Rattle.puffin_merge.specs.Merge.Refusals.{IsMergeRefusal}
use Rattle.puffin_merge.specs.Merge.Scopes.{frame_bytes, frames_bytes}
use Rattle.puffin_view.specs.View.ViewedFrames.{Frame, fields_of}
use Rattle.puffin_view.specs.View.File.{file_at, TookFrames}
use Rattle.puffin_report.specs.declared.summary.Summary.{Summary}
use Rattle.puffin_report.specs.Report.{HasSummary}
use Rattle.puffin_report.specs.Summary.{bytes_in, followed_by, all_bytes_in, IsSummary, FailsToSumUp}
use Rattle.puffin_c.specs.declared.fault.Fault.{Fault}
use Rattle.puffin_c.specs.declared.fault.Fault.TheVariants as fault
use Rattle.puffin_c.specs.declared.merged.PuffinMergedList.{PuffinMergedList}
use Rattle.puffin_c.specs.declared.profiler.Profiler.{Profiler}
use Rattle.puffin_c.specs.Faults.{file_fault}
use Rattle.puffin_c.specs.Recording.{IsNoText}
use Rattle.puffin_c.specs.Reporting.{LacksSummary}
use Rattle.puffin_c.specs.Merges.{MergesFile, LacksMerge, MergesView}
use Rattle.puffin_c.proofs.Named.{refused_name}

-- ---- a file

-- a device that reads the file's bytes sums up the file, or fails as the file does
pub summed_up : (info : ThreadKey) (bytes dev : List ℕ) → dev ≡ bytes → (left : Option (List ℕ)) (summary : Summary) →
    (stored : List Stored) × TookFrames file_at (Some dev) left stored × IsSummary info stored summary →
    (rest : Option (List ℕ)) × HasSummary info (Some bytes) rest summary
summed_up info bytes dev same left summary (stored, took, sums) =
    (left, record { stored = stored; took = subst (λ (bs : List ℕ). TookFrames file_at (Some bs) left stored) same took; sums = sums })

pub not_summed_up : (info : ThreadKey) (bytes dev : List ℕ) → dev ≡ bytes → (left : Option (List ℕ)) (e : FileError) →
    FailsToSumUp info (Some dev) left e → LacksSummary bytes info e
not_summed_up info bytes dev same left e fails = (left, subst (λ (bs : List ℕ). FailsToSumUp info (Some bs) left e) same fails)

module _ (bytes : List ℕ) (info : ThreadKey) (list : PuffinMergedList) where
  -- the file isn't merged, for this reason: the name is refused, the file is, or memory ran out
  abbrev pub Unmerged : Fault → Type 0
  Unmerged f = MergesFile bytes info list list (Err f)

  pub name_not_merged : (f e : Fault) → f ≡ e → IsNoText info.name e → Unmerged f
  name_not_merged f e same why = rw same (refl, refused_name bytes info e why)

  pub file_not_merged : (f : Fault) (e : FileError) → f ≡ file_fault e → IsUtf8 info.name → LacksSummary bytes info e → Unmerged f
  file_not_merged f e is text lacks = (refl, inr (text, e, is, lacks))

  pub no_room_for_file : (f : Fault) → f ≡ fault.Refused error.Memory → IsUtf8 info.name → Unmerged f
  no_room_for_file f memory text = (refl, inr (text, file.Memory, memory, (None, inl tt)))

-- ---- the frames of a view, one after the other

-- what two parts give one after the other: the first failure, or both
abbrev joined : Result (List FrameBytes) FileError → Result (List FrameBytes) FileError → Result (List FrameBytes) FileError
joined (Err e) others = Err e
joined (Ok bs) (Err e) = Err e
joined (Ok bs) (Ok others) = Ok (bs ++ others)

none_first : (others : Result (List FrameBytes) FileError) → others ≡ joined (Ok []) others
none_first (Err e) = refl
none_first (Ok bs) = refl

one_first : (b : Result FrameBytes FileError) (bs others : Result (List FrameBytes) FileError) →
    followed_by b (joined bs others) ≡ joined (followed_by b bs) others
one_first (Err e) bs others = refl
one_first (Ok b) (Err e) others = refl
one_first (Ok b) (Ok bs) (Err e) = refl
one_first (Ok b) (Ok bs) (Ok others) = refl

module _ (info : ThreadKey) where
  -- the frames so far and the rest, one frame behind them, and a frame behind them that isn't unpacked
  all_joined : (done rest : List PacketFields) → all_bytes_in info (done ++ rest) ≡ joined (all_bytes_in info done) (all_bytes_in info rest)
  all_joined [] rest = none_first (all_bytes_in info rest)
  all_joined (c ∷ done) rest =
      ap (followed_by (bytes_in info c)) (all_joined done rest)
      ∙ one_first (bytes_in info c) (all_bytes_in info done) (all_bytes_in info rest)

  one_behind : (done : List PacketFields) (bs : List FrameBytes) (c : PacketFields) (b : FrameBytes) →
      all_bytes_in info done ≡ Ok bs → bytes_in info c ≡ Ok b → all_bytes_in info (done ++ c ∷ []) ≡ Ok (bs ++ b ∷ [])
  one_behind done bs c b is read = all_joined done (c ∷ []) ∙ (λ i. joined (is i) (followed_by (read i) (Ok [])))

  fault_behind : (done : List PacketFields) (bs : List FrameBytes) (c : PacketFields) (rest : List PacketFields)
      (e : FileError) → all_bytes_in info done ≡ Ok bs → bytes_in info c ≡ Err e →
      all_bytes_in info (done ++ c ∷ rest) ≡ Err e
  fault_behind done bs c rest e is read = all_joined done (c ∷ rest) ∙ (λ i. joined (is i) (followed_by (read i) (all_bytes_in info rest)))

-- frames that were unpacked
abbrev pub Opened : Type 0
Opened = List (Arc UnpackedFrameData Global)

-- the frames so far were unpacked to these
abbrev pub AreOpenedTo : List PacketFields → Opened → Type 0
AreOpenedTo done opened = (info : ThreadKey) → all_bytes_in info done ≡ Ok (frames_bytes info opened)

-- one frame more
pub opened_next : (done : List PacketFields) (c : PacketFields) (xs more : Opened) (x : Arc UnpackedFrameData Global) →
    more ≡ xs ++ x ∷ [] → AreOpenedTo done xs
    → ((info : ThreadKey) → bytes_in info c ≡ Ok (frame_bytes info (arc_value x))) → AreOpenedTo (done ++ c ∷ []) more
opened_next done c xs more x is so_far read =
    λ info. one_behind info done (frames_bytes info xs) c (frame_bytes info (arc_value x)) (so_far info) (read info)
    ∙ ap (λ (bs : List FrameBytes). Ok bs)
    (sym (ap (frames_bytes info) is ∙ map-append (λ held. frame_bytes info (arc_value held)) xs (x ∷ [])))

module _ (done : List PacketFields) (it : List Frame) (total : List PacketFields) (split : total ≡ done ++ map fields_of it) where
  -- the next frame, which has these contents
  next_is : (c : PacketFields) (f : Frame) (rest : List Frame) → it ≡ f ∷ rest → c ≡ fields_of f → total ≡ done ++ c ∷ map fields_of rest
  next_is c f rest left same =
      split ∙ ap (λ (fs : List Frame). done ++ map fields_of fs) left ∙ ap (λ (d : PacketFields). done ++ d ∷ map fields_of rest) (sym same)

  pub frames_next : (c : PacketFields) (f : Frame) (rest : List Frame) → it ≡ f ∷ rest → c ≡ fields_of f →
      total ≡ (done ++ c ∷ []) ++ map fields_of rest
  frames_next c f rest left same = next_is c f rest left same ∙ sym (append_assoc done (c ∷ []) (map fields_of rest))

  -- a frame that isn't unpacked: the frames in all aren't
  pub not_opened : (opened : Opened) (c : PacketFields) (f : Frame) (rest : List Frame) (e : FileError) →
      it ≡ f ∷ rest → c ≡ fields_of f → AreOpenedTo done opened
      → (e ≡ file.Memory) ⊎ ((info : ThreadKey) → bytes_in info c ≡ Err e) →
      (e ≡ file.Memory) ⊎ ((info : ThreadKey) → all_bytes_in info total ≡ Err e)
  not_opened opened c f rest e left same so_far (inl memory) = inl memory
  not_opened opened c f rest e left same so_far (inr fault) =
      inr (λ info. ap (all_bytes_in info) (next_is c f rest left same)
      ∙ fault_behind info done (frames_bytes info opened) c (map fields_of rest) e (so_far info) (fault info))

  -- no frame is left
  pub all_opened : (opened : Opened) → it ≡ [] → AreOpenedTo done opened → AreOpenedTo total opened
  all_opened opened none so_far =
      λ info. ap (all_bytes_in info) (split ∙ ap (λ (fs : List Frame). done ++ map fields_of fs) none ∙ append-nil done) ∙ so_far info

-- ---- why a view isn't merged

-- a frame isn't unpacked, the merge is refused, or the name is
pub frame_not_opened : (info : ThreadKey) (cs : List PacketFields) (f : Fault) (e : FileError) → f ≡ file_fault e →
    (e ≡ file.Memory) ⊎ ((i : ThreadKey) → all_bytes_in i cs ≡ Err e) → LacksMerge info cs f
frame_not_opened info cs f e is (inl memory) = inl (is ∙ ap file_fault memory)
frame_not_opened info cs f e is (inr fault) = inr (inl (e, is, fault info))

pub merge_refused : (info : ThreadKey) (cs : List PacketFields) (streams : List FrameBytes) (f : Fault) (e : Error) →
    f ≡ fault.Refused e → all_bytes_in info cs ≡ Ok streams → (e ≡ error.Memory) ⊎ IsMergeRefusal streams e →
    LacksMerge info cs f
merge_refused info cs streams f e is opened (inl memory) = inl (is ∙ ap (λ (x : Error). fault.Refused x) memory)
merge_refused info cs streams f e is opened (inr refusal) = inr (inr (streams, e, is, opened, refusal))

pub name_not_viewed : (held : Option Profiler) → (p : Profiler) × (held ≡ Some p) →
    (n : ℕ) (info : ThreadKey) (list : PuffinMergedList) (f e : Fault) → f ≡ e → IsNoText info.name e →
    MergesView held n info list list (Err f)
name_not_viewed held (p, some) n info list f e same (inl (cause, not_text)) = (refl, inr (p, some, inl (same ∙ cause, not_text)))
name_not_viewed held (p, some) n info list f e same (inr (memory, text)) = (refl, inr (p, some, inr (text, inl (same ∙ memory))))

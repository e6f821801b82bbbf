-- Which refusal merging returns.
use Rattle.std.specs.Prelude.{◌≡◌, ℕ, ◌+◌, ◌^◌, ◌<◌, ◌≤◌, ◌⊎◌, ℤ, ◌-ℤ◌, ◌+ℤ◌, FitsSigned, List, [], ◌∷◌, ◌++◌, length, take, slice_index, ◌==◌, if◌then◌else◌}
use Rattle.std.specs.Int.{w64}
use Rattle.puffin_data.specs.declared.data.form.Form.{Form}
use Rattle.puffin_data.specs.declared.error.Error.{Error}
use Rattle.puffin_data.specs.declared.error.Error.TheVariants.{TooDeep, TooLarge}
use Rattle.puffin_data.specs.Walk.{Reaches, IsFaultAt, IsFirstFault}
use Rattle.puffin_data.specs.Walk.PlacedScopes.{PlacedScope, Sees, scopes_of, before}
use Rattle.puffin_merge.specs.Merge.Occurrences.{Occurrence, FrameScopes, occurrence_of, occurrences_in, occurrences_from, occurrences}
use Rattle.puffin_merge.specs.Merge.Pieces.{merged_at}
use Rattle.puffin_merge.specs.Merge.Tree.{MergedForest, no_node, merged}
use Rattle.puffin_merge.specs.Merge.{IsMerge}
use Rattle.puffin_merge.specs.Merge.FrameBytes.{FrameBytes, form_of, bytes_of, start_of, HaveScopes, most_tries}

-- the greatest nesting depth that is merged
abbrev pub greatest_depth : ℕ
greatest_depth = 1024

-- a scope that isn't nested more deeply
abbrev pub IsShallow : Occurrence → Type 0
IsShallow next = length next.path ≤ greatest_depth

-- After these occurrences and the next one, the number of the next one's path fits `usize`, and the total fits `i64`.
pub record SumsFit (done : List Occurrence) (next : Occurrence) : Type 0 where
  pub number : (merged_at (done ++ (next ∷ [])) next.path).number < 2 ^ 64
  pub total : (merged_at (done ++ (next ∷ [])) next.path).total < 2 ^ 63

-- the same, and the next one's own start fits `i64`
pub record Fits (done : List Occurrence) (next : Occurrence) : Type 0 where
  pub own_start : FitsSigned w64 next.own_start
  pub sums : SumsFit done next

-- The next occurrence is refused with this error: it is nested too deeply, or its start or its sums don't fit.
abbrev pub IsRefusedFor : List Occurrence → Occurrence → Error → Type 0
IsRefusedFor done next cause =
    ((length next.path ≡ greatest_depth + 1) × (cause ≡ TooDeep))
    ⊎ (IsShallow next × (Fits done next → ⊥) × (cause ≡ TooLarge))

-- each of these is accepted in turn, after those that were accepted before
abbrev pub AreAccepted : List Occurrence → List Occurrence → Type 0
AreAccepted done [] = Unit {0}
AreAccepted done (next ∷ more) =
    IsShallow next × Fits done next × AreAccepted (done ++ (next ∷ [])) more

-- The refusal of a frame whose stream has this form, after this many tries, and after the occurrences `done` of the frames
-- before. Starts of its top-level scopes are measured from `origin`.
pub data IsFrameRefusal (done : List Occurrence) (origin : ℤ) (form : Form) (bytes : List ℕ) :
    ℕ → Error → Type 0 where
  -- the first fault of the bytes, if all sound scopes before it are accepted: one try for each of these, and one more if there
  -- is a `(` at the fault
  faulty : {place : ℕ} {fault : Error} {placed : List PlacedScope} →
      IsFirstFault form bytes place fault →
      Sees form bytes [] 0 (length bytes) placed →
      AreAccepted done (occurrences_in origin (scopes_of (before place placed))) →
      IsFrameRefusal done origin form bytes
      (length (before place placed) + (if slice_index bytes place == 40 then 1 else 0)) fault
  -- the first sound scope that isn't accepted, before any fault: one try for each before it, and one for it
  refused : (earlier later : List PlacedScope) (s : PlacedScope) {refusal : Error} →
      Sees form bytes [] 0 (length bytes) (earlier ++ (s ∷ later)) →
      AreAccepted done (occurrences_in origin (scopes_of earlier)) →
      IsRefusedFor (done ++ occurrences_in origin (scopes_of earlier))
      (occurrence_of origin s.scope) refusal →
      ((place end : ℕ) (fault : Error) → Reaches form bytes 0 (length bytes) place end →
      IsFaultAt form bytes place end fault →
      s.place ≤ place) →
      IsFrameRefusal done origin form bytes (length earlier + 1) refusal

-- the end of each node, which is its start plus its duration per frame, fits `i64`
abbrev pub EndsFit : MergedForest → Type 0
EndsFit no_node = Unit {0}
EndsFit (merged node children others) =
    FitsSigned w64 (node.start +ℤ node.per_frame) × EndsFit children × EndsFit others

-- The refusal of a merge after this many tries. It is that of the first refused frame, after one try for each scope of the
-- frames before it and the tries of the frame itself. If no frame is refused, it is that of an end that doesn't fit, after one
-- try for each scope.
pub data IsRefusalAfter (frames : List FrameBytes) : ℕ → Error → Type 0 where
  -- `earlier` are the accepted frames before the refused one
  in_frame : (earlier later : List FrameBytes) (frame : FrameBytes) (scopes : List FrameScopes)
      {tries : ℕ} {refusal : Error} →
      frames ≡ earlier ++ (frame ∷ later) → HaveScopes earlier scopes →
      AreAccepted [] (occurrences_from (start_of frames) scopes) →
      IsFrameRefusal (occurrences_from (start_of frames) scopes) (frame.start -ℤ start_of frames)
      (form_of frame) (bytes_of frame) tries refusal →
      IsRefusalAfter frames (length (occurrences_from (start_of frames) scopes) + tries) refusal
  at_end : (scopes : List FrameScopes) (f : MergedForest) → HaveScopes frames scopes →
      AreAccepted [] (occurrences scopes) → IsMerge (occurrences scopes) (length frames) f →
      (EndsFit f → ⊥) → IsRefusalAfter frames (length (occurrences scopes)) TooLarge

-- the refusal of a merge, whatever its tries
abbrev pub IsMergeRefusal : List FrameBytes → Error → Type 0
IsMergeRefusal frames refusal = (tries : ℕ) × IsRefusalAfter frames tries refusal

-- The frames are merged: each stream spells scopes, which are accepted, and the forest is their merge, whose ends fit.
pub record AreMerged (frames : List FrameBytes) (f : MergedForest) : Type 0 where
  pub scopes : List FrameScopes
  pub have : HaveScopes frames scopes
  pub accepted : AreAccepted [] (occurrences scopes)
  pub merge : IsMerge (occurrences scopes) (length frames) f
  pub ends : EndsFit f

-- A prefix of the frames is accepted, and at most the next one was also read, with this many tries in all.
pub record ReadsFew (frames : List FrameBytes) (tries : ℕ) : Type 0 where
  pub accepted : ℕ
  pub scopes : List FrameScopes
  pub have : HaveScopes (take accepted frames) scopes
  pub fine : AreAccepted [] (occurrences_from (start_of frames) scopes)
  pub few : tries ≤ most_tries (take (accepted + 1) frames)

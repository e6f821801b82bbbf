-- What is printed of the wanted frames.
use Rattle.std.proofs.Common.{◌≡◌, ℕ, Bool, false, List, [], ◌++◌, Option, ap, subst, ◌∙◌}
use denote.Ref.{Bor}
use Rattle.std.specs.List.{flat_map}
use Rattle.puffin_data.specs.declared.file_error.FileError.{FileError}
use Rattle.puffin_threads.specs.Details.Collection.{Collection}
use Rattle.puffin_look.specs.OpenFrame.{OpenFrame}
use Rattle.puffin_look.specs.Printed.{IsStopped}
use Rattle.puffin_look.specs.Trees.{AreUnread}
use Rattle.puffin_look.specs.Wanted.{frames_within, wanted_streams, RefusesTaken}
use Rattle.puffin_look.specs.declared.wanted.Wanted.{Wanted}
use Rattle.puffin_look.specs.FrameTree.{trees_text, found_in, IsFrameText}
use Rattle.puffin_look.specs.inner.FrameTrees.{TakesTrees, RefusesFrame, IsAnyFrameText}
use Rattle.puffin_look.specs.inner.Listings.{StopsListing}
use Rattle.puffin_look.specs.declared.frame_tree.Trees.{Trees}
use Rattle.puffin_look.proofs.Listed.{stopped}

abbrev pub text_in : Trees → List ℕ
text_in v = v.lines.text.items

module _ (old new : Trees) (empty : text_in old ≡ []) (k : Collection) (none : old.lines.known.now ≡ k)
    (unfound : old.is_found ≡ false) where
  -- the text so far is that of these frames
  shown_text : (frames : List OpenFrame) (more : List ℕ) (v : Trees)
      → TakesTrees old (frames_within old.wanted.now.frames frames) more v
      → IsFrameText k old.wanted.now v.is_found frames (text_in old ++ more)
  shown_text frames more v taken = (
    taken.trees,
    taken.read,
    ap (λ (any : List ℕ). any ++ more) empty
        ∙ taken.is
        ∙ ap (λ (any : Collection). flat_map (trees_text any) taken.trees) none,
    taken.found ∙ ap (λ (any : Bool). found_in any taken.trees) unfound,
  )

  -- printing the file failed
  pub frames_stopped : (unread left before after : Option (List ℕ)) (e : FileError)
      → StopsListing text_in TakesTrees RefusesFrame old.wanted.now.frames old new unread left before after e
      → IsStopped (IsAnyFrameText k old.wanted.now) (RefusesTaken old.wanted.now) unread left before after e
  frames_stopped unread left before after e stops =
      stopped text_in TakesTrees old.wanted.now.frames RefusesFrame (IsAnyFrameText k old.wanted.now)
      (RefusesTaken old.wanted.now) old new unread left before after e
      (λ frames more v taken. (v.is_found, shown_text frames more v taken))
      (λ frames more v frame cause taken there refused. (
        there,
        subst (λ (any : Wanted). AreUnread (wanted_streams any frame) cause)
            (ap (λ (lent : Bor Wanted). lent.now) taken.wanted) refused,
      )) stops

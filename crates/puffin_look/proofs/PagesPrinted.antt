-- What is printed of the data of a page.
use Rattle.std.proofs.Common.{◌≡◌, ℕ, Bool, true, false, List, [], ◌∷◌, ◌++◌, Option, None, inl, inr, refl, ap, subst, sym, ◌∙◌, append_assoc, append-nil}
use Rattle.std.specs.Prelude.{map, codes, if◌then◌else◌}
use Rattle.std.specs.List.{flat_map}
use Rattle.std.specs.Map.{keys_of, values_of}
use Rattle.std.specs.List.Sorted.{IsStrictlySortedBy}
use Rattle.std.specs.Ordering.{nat_cmp}
use Rattle.std.specs.Cmp.{nat_cmp_total}
use Rattle.std.specs.FinMap.{values}
use Rattle.std.specs.declared.sync.Arc.{Arc}
use Rattle.std.specs.Arc.{arc_value}
use Rattle.std.proofs.KnownBytes.{Appends-nil}
use Rattle.puffin_data.specs.declared.error.Error.{Error}
use Rattle.puffin_data.specs.declared.file_error.FileError.{FileError}
use Rattle.puffin_data.specs.declared.file_error.FileError.TheVariants as file
use Rattle.puffin_threads.specs.declared.scope_details.details.ScopeDetails.{ScopeDetails}
use Rattle.puffin_threads.specs.Details.{Details, details_of, shared_details}
use Rattle.puffin_threads.specs.Details.Collection.{Collection, ids_seen, by_ids}
use Rattle.puffin_threads.proofs.lemmas.EntriesSeen.{entries-seen}
use Rattle.puffin_look.specs.OpenFrame.{OpenFrame}
use Rattle.puffin_look.specs.Printed.{IsPrinted, IsStopped}
use Rattle.puffin_look.specs.Trees.{Entry, Tree, TreeFrame, AreSpelled, AreRead, AreUnread, all_streams}
use Rattle.puffin_look.specs.Wanted.{RefusesUnread}
use Rattle.puffin_look.specs.Page.{element, details_element, details_elements, frame_json, is_chosen, chosen_streams, frame_element, IsPageData}
use Rattle.puffin_look.specs.inner.Pages.{TakesPage, RefusesFrame}
use Rattle.puffin_look.specs.inner.Listings.{ListsAll, StopsListing}
use Rattle.puffin_look.specs.declared.page.Page.{Page}
use Rattle.puffin_look.specs.declared.page.PageFrames.{PageFrames}
use Rattle.puffin_look.proofs.Listed.{stopped}

-- ---- the details

-- the details of a collection, without their ids
values_seen : {A : Type 0} (es : List (ℕ × Arc ScopeDetails A)) → map (λ e. e.1) (ids_seen es) ≡ shared_details (values_of es)
values_seen [] = refl
values_seen (e ∷ es) = ap (λ (l : List Details). details_of (arc_value e.1) ∷ l) (values_seen es)

-- those of a collection, in ascending order of id
pub values_held : {A : Type 0} (es : List (ℕ × Arc ScopeDetails A)) → IsStrictlySortedBy nat_cmp (keys_of es)
    → values (by_ids es) ≡ shared_details (values_of es)
values_held es sorted =
    ap (map (λ e. e.1)) (entries-seen (λ k. k) (λ d. details_of (arc_value d)) nat_cmp nat_cmp_total es sorted) ∙ values_seen es

-- one more of them
pub details_more : {A : Type 0} (es rest : List (ℕ × Arc ScopeDetails A)) (e : ℕ × Arc ScopeDetails A) (text new all : List ℕ)
    → es ≡ e ∷ rest → new ≡ text ++ details_element (details_of (arc_value e.1))
    → text ++ flat_map details_element (shared_details (values_of es)) ≡ all
    → new ++ flat_map details_element (shared_details (values_of rest)) ≡ all
details_more es rest e text new all next step h =
    ap (λ (t : List ℕ). t ++ flat_map details_element (shared_details (values_of rest))) step
    ∙ append_assoc text (details_element (details_of (arc_value e.1)))
    (flat_map details_element (shared_details (values_of rest)))
    ∙ ap (λ es. text ++ flat_map details_element (shared_details (values_of es))) (sym next) ∙ h

-- ---- a frame

module _ (old : Page) (frame : OpenFrame) where
  abbrev chosen : PageFrames
  chosen = old.frames.now

  abbrev tree_of : List Tree → TreeFrame
  tree_of trees = record { meta = frame.meta; trees = trees }

  -- the frame's streams are taken if the page has it (`b`)
  streams_are : (b : Bool) → is_chosen chosen frame.meta.frame_index ≡ b
      → chosen_streams chosen frame ≡ (if b then all_streams frame else [])
  streams_are b is = ap (λ (x : Bool). if x then all_streams frame else []) is

  -- and so is its element written
  element_is : (trees : List Tree) (b : Bool) → is_chosen chosen frame.meta.frame_index ≡ b
      → frame_element chosen (tree_of trees) ≡ (if b then element (codes "frame") (frame_json (tree_of trees)) else [])
  element_is trees b is = ap (λ (x : Bool). if x then element (codes "frame") (frame_json (tree_of trees)) else []) is

  -- a frame that the page has
  pub frame_placed : (new : Page) (json : List ℕ) → is_chosen chosen frame.meta.frame_index ≡ true
      → (made : (trees : List Tree) × AreSpelled (all_streams frame) trees × (json ≡ frame_json (tree_of trees)))
      → new.text.items ≡ old.text.items ++ element (codes "frame") json → new.frames ≡ old.frames
      → (more : List ℕ) × (new.text.items ≡ old.text.items ++ more) × TakesPage old (frame ∷ []) more new
  frame_placed new json has (trees, spelled, made) text same = (
    element (codes "frame") json,
    text,
    record {
      trees = tree_of trees ∷ [];
      read = (record { meta = refl; trees = subst (λ (es : List Entry). AreSpelled es trees) (sym (streams_are true has)) spelled }, tt);
      is = ap (element (codes "frame")) made ∙ sym (element_is trees true has)
          ∙ sym (append-nil (frame_element chosen (tree_of trees)));
      chosen = same;
    },
  )

  -- one that it doesn't have
  pub frame_passed : is_chosen chosen frame.meta.frame_index ≡ false
      → (more : List ℕ) × (old.text.items ≡ old.text.items ++ more) × TakesPage old (frame ∷ []) more old
  frame_passed hasnt = (
    [],
    sym (append-nil old.text.items),
    record {
      trees = tree_of [] ∷ [];
      read = (record { meta = refl; trees = subst (λ (es : List Entry). AreSpelled es []) (sym (streams_are false hasnt)) tt }, tt);
      is = sym (element_is [] false hasnt) ∙ sym (append-nil (frame_element chosen (tree_of [])));
      chosen = refl;
    },
  )

  -- one with a fault is refused, if the page has it
  pub frame_unread : (fault : Error) → is_chosen chosen frame.meta.frame_index ≡ true → AreUnread (all_streams frame) fault
      → RefusesFrame old frame fault
  frame_unread fault has unread = subst (λ (es : List Entry). AreUnread es fault) (sym (streams_are true has)) unread

-- ---- a file

abbrev pub text_in : Page → List ℕ
text_in v = v.text.items

-- nothing was written, since memory ran out
pub none_written : (k : Collection) (c : PageFrames) (unread left before : Option (List ℕ)) (e : FileError) → e ≡ file.Memory
    → IsStopped (IsPageData k c) (RefusesUnread None (chosen_streams c)) unread left before before e
none_written k c unread left before e memory = record {
  stored = [];
  begins = inl refl;
  frames = [];
  opens = tt;
  text = details_elements k ++ [];
  is = ([], tt, refl);
  outcome = inl (inr memory, ([], details_elements k ++ [], refl, Appends-nil before));
}

module _ (old new : Page) (k : Collection) (c : PageFrames) (head : text_in old ≡ details_elements k) (same : old.frames.now ≡ c) where
  -- the text so far is the data of the details and of these frames
  page_text : (frames : List OpenFrame) (more : List ℕ) (v : Page) → TakesPage old frames more v
      → IsPageData k c frames (text_in old ++ more)
  page_text frames more v taken = (
    taken.trees,
    subst (λ (p : PageFrames). AreRead (chosen_streams p) frames taken.trees) same taken.read,
    (λ i. head i ++ (taken.is ∙ (λ j. flat_map (frame_element (same j)) taken.trees)) i),
  )

  -- printing the file failed
  pub page_stopped : (unread left before after : Option (List ℕ)) (e : FileError)
      → StopsListing text_in TakesPage RefusesFrame None old new unread left before after e
      → IsStopped (IsPageData k c) (RefusesUnread None (chosen_streams c)) unread left before after e
  page_stopped unread left before after e h =
      stopped text_in TakesPage None RefusesFrame (IsPageData k c)
      (RefusesUnread None (chosen_streams c)) old new unread left before after e page_text
      (λ frames more v frame cause taken there refused. (
        there,
        subst (λ (p : PageFrames). AreUnread (chosen_streams p frame) cause) ((λ i. (taken.chosen i).now) ∙ same) refused,
      )) h

  -- all frames were printed
  pub page_printed : (unread left before after : Option (List ℕ))
      → ListsAll text_in TakesPage None old new unread left before after → IsPrinted (IsPageData k c) unread left before after
  page_printed unread left before after h = record {
    stored = h.stored;
    took = h.took;
    frames = h.listed.frames;
    opens = h.listed.opens;
    text = text_in old ++ h.more;
    is = page_text h.listed.frames h.more new h.listed.taken;
    written = h.written;
  }

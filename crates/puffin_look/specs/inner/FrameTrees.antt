-- What the trees of frames take, one frame after the other.
use Rattle.std.specs.Prelude.{◌≡◌, ◌⊎◌, ℕ, Bool, true, false, List, [], ◌++◌}
use Rattle.std.specs.List.{flat_map}
use Rattle.std.proofs.Common.{refl, sym, ap, subst, ◌∙◌}
use Rattle.std.proofs.lemmas.List.Sums.{fold-append}
use Rattle.std.proofs.lemmas.List.Concat.{flat_map-append}
use denote.Ref.{Bor}
use Rattle.puffin_data.specs.declared.error.Error.{Error}
use Rattle.puffin_data.specs.Forest.{Forest}
use Rattle.puffin_data.specs.Forest.Spelling.{Spells}
use Rattle.puffin_data.specs.Honesty.{StreamFacts}
use Rattle.puffin_data.specs.Walk.{IsFault}
use Rattle.puffin_threads.specs.Details.Collection.{Collection}
use Rattle.puffin_threads.specs.Thread.ThreadKey.{ThreadKey}
use Rattle.puffin_look.specs.OpenFrame.{OpenFrame}
use Rattle.puffin_look.specs.Trees.{TreeFrame, AreRead, AreUnread}
use Rattle.puffin_look.specs.Wanted.{is_wanted, wanted_streams}
use Rattle.puffin_look.specs.declared.wanted.Wanted.{Wanted}
use Rattle.puffin_look.specs.FrameTree.{tree_text, trees_text, has_trees, found_in, IsFrameText}
use Rattle.puffin_look.specs.inner.Reads.{AreRead-append}
use Rattle.puffin_look.specs.inner.TreeLines.{HasMoreLines}
use Rattle.puffin_look.specs.declared.frame_tree.Trees.{Trees}

-- ---- a thread

pub record AddsTree (old new : Trees) (key : ThreadKey) (facts : StreamFacts) : Type 0 where
  pub forest : Forest
  pub spells : Spells facts.form facts.bytes forest
  pub lines : HasMoreLines old.lines new.lines (
      tree_text old.lines.known.now old.lines.range_ns (key, forest))
  pub found : new.is_found ≡ true
  pub wanted : new.wanted ≡ old.wanted

-- a thread's lines were appended, unless the thread isn't wanted
abbrev pub StepsTree : Trees → Trees → ThreadKey → StreamFacts → Type 0
StepsTree old new key facts =
    ((is_wanted old.wanted.now key ≡ true) × AddsTree old new key facts)
    ⊎ ((is_wanted old.wanted.now key ≡ false) × (new ≡ old))

abbrev pub IsTreeFault : Trees → ThreadKey → StreamFacts → Error → Type 0
IsTreeFault old key facts fault =
    (is_wanted old.wanted.now key ≡ true) × IsFault facts.form facts.bytes fault

-- ---- frames

-- these frames were read, and their text is this
pub record TakesTrees (old : Trees) (frames : List OpenFrame) (text : List ℕ)
    (new : Trees) : Type 0 where
  pub trees : List TreeFrame
  pub read : AreRead (wanted_streams old.wanted.now) frames trees
  pub is : text ≡ flat_map (trees_text old.lines.known.now) trees
  pub known : new.lines.known ≡ old.lines.known
  pub found : new.is_found ≡ found_in old.is_found trees
  pub wanted : new.wanted ≡ old.wanted

abbrev pub RefusesFrame : Trees → OpenFrame → Error → Type 0
RefusesFrame old frame cause = AreUnread (wanted_streams old.wanted.now frame) cause

-- the text of some frames, whether a thread was found or not
abbrev pub IsAnyFrameText : Collection → Wanted → List OpenFrame → List ℕ → Type 0
IsAnyFrameText known wanted frames text =
    (found : Bool) × IsFrameText known wanted found frames text

-- ---- laws

pub trees_none : (v : Trees) → TakesTrees v [] [] v
trees_none v = record {
  trees = [];
  read = tt;
  is = refl;
  known = refl;
  found = refl;
  wanted = refl;
}

pub trees_more : (u v w : Trees) (xs ys : List OpenFrame) (s t : List ℕ) → TakesTrees u xs s v →
    TakesTrees v ys t w → TakesTrees u (xs ++ ys) (s ++ t) w
trees_more u v w xs ys s t a b =
    let wanted = ap (λ (w : Bor Wanted). w.now) a.wanted in
    let known = u.lines.known.now in
    record {
      trees = a.trees ++ b.trees;
      read = AreRead-append (wanted_streams u.wanted.now) xs ys a.trees b.trees a.read (
          subst (λ (w : Wanted). AreRead (wanted_streams w) ys b.trees) wanted b.read);
      is = (λ i. a.is i ++ b.is i)
          ∙ (λ i. flat_map (trees_text known) a.trees ++ flat_map (trees_text (a.known i).now) b.trees)
          ∙ sym (flat_map-append (trees_text known) a.trees b.trees);
      known = b.known ∙ a.known;
      found = b.found ∙ ap (λ (f : Bool). found_in f b.trees) a.found
          ∙ sym (fold-append (λ f t. has_trees f t.trees) u.is_found a.trees b.trees);
      wanted = b.wanted ∙ a.wanted;
    }

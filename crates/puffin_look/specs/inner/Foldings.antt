-- What the folded stacks take from frames, one after the other.
use Rattle.std.specs.Prelude.{◌≡◌, ◌⊎◌, ℕ, Bool, true, false, List, [], ◌++◌, fold}
use Rattle.std.proofs.Common.{refl, sym, ap, subst, ◌∙◌}
use Rattle.std.proofs.lemmas.List.Sums.{fold-append}
use Rattle.std.proofs.lemmas.List.Concat.{flat_map-append}
use denote.Ref.{Bor}
use Rattle.puffin_data.specs.declared.error.Error.{Error}
use Rattle.puffin_data.specs.Forest.{Forest}
use Rattle.puffin_data.specs.Forest.Spelling.{Spells}
use Rattle.puffin_data.specs.Honesty.{StreamFacts}
use Rattle.puffin_data.specs.Walk.{IsFault}
use Rattle.puffin_threads.specs.Thread.ThreadKey.{ThreadKey}
use Rattle.puffin_look.specs.OpenFrame.{OpenFrame}
use Rattle.puffin_look.specs.Trees.{TreeFrame, AreRead, AreUnread}
use Rattle.puffin_look.specs.Wanted.{is_wanted, wanted_streams}
use Rattle.puffin_look.specs.declared.wanted.Wanted.{Wanted}
use Rattle.puffin_look.specs.FrameTree.{has_trees, found_in}
use Rattle.puffin_look.specs.Folded.{forest_parts, frame_parts, parts}
use Rattle.puffin_look.specs.inner.Reads.{AreRead-append}
use Rattle.puffin_look.specs.inner.Stacks.{rows_of, with_part, HasMoreParts}
use Rattle.puffin_look.specs.declared.folded.Folding.{Folding}

-- ---- a thread

pub record AddsStack (old new : Folding) (facts : StreamFacts) : Type 0 where
  pub forest : Forest
  pub spells : Spells facts.form facts.bytes forest
  pub parts : HasMoreParts old.stacks new.stacks (forest_parts old.stacks.known.now forest)
  pub found : new.is_found ≡ true
  pub wanted : new.wanted ≡ old.wanted

-- a thread's scopes were added, unless the thread isn't wanted
abbrev pub StepsStack : Folding → Folding → ThreadKey → StreamFacts → Type 0
StepsStack old new key facts =
    ((is_wanted old.wanted.now key ≡ true) × AddsStack old new facts)
    ⊎ ((is_wanted old.wanted.now key ≡ false) × (new ≡ old))

abbrev pub IsStackFault : Folding → ThreadKey → StreamFacts → Error → Type 0
IsStackFault old key facts fault =
    (is_wanted old.wanted.now key ≡ true) × IsFault facts.form facts.bytes fault

-- ---- frames

-- these frames were read, their scopes were added, and nothing was printed
pub record TakesStacks (old : Folding) (frames : List OpenFrame) (text : List ℕ)
    (new : Folding) : Type 0 where
  pub none : text ≡ []
  pub trees : List TreeFrame
  pub read : AreRead (wanted_streams old.wanted.now) frames trees
  pub rows : rows_of new.stacks
      ≡ fold with_part (rows_of old.stacks) (parts old.stacks.known.now trees)
  pub known : new.stacks.known ≡ old.stacks.known
  pub found : new.is_found ≡ found_in old.is_found trees
  pub wanted : new.wanted ≡ old.wanted

abbrev pub RefusesFrame : Folding → OpenFrame → Error → Type 0
RefusesFrame old frame cause = AreUnread (wanted_streams old.wanted.now frame) cause

-- ---- laws

pub stacks_none : (v : Folding) → TakesStacks v [] [] v
stacks_none v = record {
  none = refl;
  trees = [];
  read = tt;
  rows = refl;
  known = refl;
  found = refl;
  wanted = refl;
}

pub stacks_more : (u v w : Folding) (xs ys : List OpenFrame) (s t : List ℕ) → TakesStacks u xs s v →
    TakesStacks v ys t w → TakesStacks u (xs ++ ys) (s ++ t) w
stacks_more u v w xs ys s t a b =
    let wanted = ap (λ (w : Bor Wanted). w.now) a.wanted in
    let known = u.stacks.known.now in
    record {
      none = ap (λ (r : List ℕ). r ++ t) a.none ∙ b.none;
      trees = a.trees ++ b.trees;
      read = AreRead-append (wanted_streams u.wanted.now) xs ys a.trees b.trees a.read (
          subst (λ (w : Wanted). AreRead (wanted_streams w) ys b.trees) wanted b.read);
      rows = b.rows
          ∙ (λ i. fold with_part (a.rows i) (parts (a.known i).now b.trees))
          ∙ sym (fold-append with_part (rows_of u.stacks) (parts known a.trees)
          (parts known b.trees))
          ∙ ap (fold with_part (rows_of u.stacks)) (
          sym (flat_map-append (frame_parts known) a.trees b.trees));
      known = b.known ∙ a.known;
      found = b.found ∙ ap (λ (f : Bool). found_in f b.trees) a.found
          ∙ sym (fold-append (λ f t. has_trees f t.trees) u.is_found a.trees b.trees);
      wanted = b.wanted ∙ a.wanted;
    }

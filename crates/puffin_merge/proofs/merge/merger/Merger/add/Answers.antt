-- The same, where the tries aren't told.
use Rattle.std.proofs.Common.{◌≡◌, ◌+◌, ℕ, List, [], ◌∷◌, ◌++◌, Result, Ok, Err, ◌⊎◌, inl, inr}
use Rattle.std.specs.Prelude.{OnOk, IfErr}
use Rattle.puffin_data.specs.declared.error.Error.{Error}
use Rattle.puffin_data.specs.declared.error.Error.TheVariants.{Memory}
use Rattle.puffin_merge.specs.declared.merge.merger.Merger.{Merger}
use Rattle.puffin_merge.specs.Merge.FrameBytes.{FrameBytes}
use Rattle.puffin_merge.specs.Merge.Refusals.{IsMergeRefusal, IsRefusalAfter}
use Rattle.puffin_merge.specs.Merge.Merger.{HasAdded, tries_for}
use Rattle.puffin_merge.proofs.merge.merger.Merger.add.Goals as goal

forgets : (frames : List FrameBytes) (n : ℕ) (e : Error) → (e ≡ Memory) ⊎ IsRefusalAfter frames n e
    → (e ≡ Memory) ⊎ IsMergeRefusal frames e
forgets frames n e (inl memory) = inl memory
forgets frames n e (inr r) = inr (n, r)

added_so : (m n : Merger) (f : FrameBytes) (tries : ℕ) (r : Result (Unit {0}) Error)
    → OnOk r ((added : List FrameBytes) → (before : HasAdded added m)
    → (h : HasAdded (added ++ (f ∷ [])) n) × (tries_for h ≡ tries_for before + tries))
    → OnOk r ((added : List FrameBytes) → HasAdded added m → HasAdded (added ++ (f ∷ [])) n)
added_so m n f tries (Ok x) k = λ added h. (k added h).0
added_so m n f tries (Err e) k = tt

refused_so : (m : Merger) (f : FrameBytes) (tries : ℕ) (r : Result (Unit {0}) Error)
    → IfErr r (λ e. (added later : List FrameBytes) → (h : HasAdded added m)
    → (e ≡ Memory) ⊎ IsRefusalAfter (added ++ (f ∷ later)) (tries_for h + tries) e)
    → IfErr r (λ e. (added later : List FrameBytes) → HasAdded added m
    → (e ≡ Memory) ⊎ IsMergeRefusal (added ++ (f ∷ later)) e)
refused_so m f tries (Ok x) k = tt
refused_so m f tries (Err e) k =
    λ added later h. forgets (added ++ (f ∷ later)) (tries_for h + tries) e (k added later h)

pub returns-clause-added : goal.returns-clause-added
returns-clause-added c = added_so c.args.self.now c.add_counted.new.self _ c.add_counted.new.tries
    c.add_counted.result c.add_counted.ensures.added

pub returns-clause-refused : goal.returns-clause-refused
returns-clause-refused c =
    refused_so c.args.self.now _ c.add_counted.new.tries c.add_counted.result c.add_counted.ensures.refused

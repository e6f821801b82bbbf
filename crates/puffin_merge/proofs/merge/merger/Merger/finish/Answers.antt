-- The forest of the table is the merge of what was added.
use Rattle.std.proofs.Common.{◌≡◌, arith, List, length, Result, Ok, Err, ◌⊎◌, Vec}
use Rattle.std.specs.Prelude.{IfOk, IfErr}
use Rattle.std.proofs.lemmas.Bool.Decides.{nat_tests}
use Rattle.std.specs.declared.alloc.Global.{Global}
use Rattle.puffin_data.specs.declared.error.Error.{Error}
use Rattle.puffin_data.specs.declared.error.Error.TheVariants.{Memory, TooLarge}
use Rattle.puffin_merge.specs.declared.merge.merger.Merger.{Merger}
use Rattle.puffin_merge.specs.declared.merge.scope.MergeScope.{MergeScope}
use Rattle.puffin_merge.specs.Merge.Occurrences.{Occurrence, occurrences}
use Rattle.puffin_merge.specs.Merge.Tree.{MergedForest}
use Rattle.puffin_merge.specs.Merge.{IsMerge}
use Rattle.puffin_merge.specs.Merge.FrameBytes.{FrameBytes}
use Rattle.puffin_merge.specs.Merge.Refusals.{IsRefusalAfter, EndsFit, AreMerged}
use Rattle.puffin_merge.specs.Merge.Scopes.{forest_in}
use Rattle.puffin_merge.specs.Merge.Merger.{HasAdded, tries_for}
use Rattle.puffin_merge.specs.inner.Tables.{IsTableOf}
use Rattle.puffin_merge.proofs.Adding.{none_added, all_merged, all_refused}
use Rattle.puffin_merge.proofs.merge.merger.Merger.finish.Goals as goal

merged_of : (m : Merger) (r : Result (Vec MergeScope Global) Error)
    → IfOk r (λ merged. (all : List Occurrence) → IsTableOf all m.merging.table
    → IsMerge all m.frames (forest_in merged.items) × EndsFit (forest_in merged.items))
    → IfOk r (λ merged. (added : List FrameBytes) → (h : HasAdded added m)
    → (x : AreMerged added (forest_in merged.items)) × (tries_for h ≡ length (occurrences x.scopes)))
merged_of m (Err e) k = tt
merged_of m (Ok merged) k = λ added h. all_merged added m h (Ok merged) k

refused_of : (m : Merger) (r : Result (Vec MergeScope Global) Error)
    → IfErr r (λ e. (e ≡ Memory) ⊎ ((e ≡ TooLarge) × ((all : List Occurrence) → IsTableOf all m.merging.table
    → (f : MergedForest) × IsMerge all m.frames f × (EndsFit f → ⊥))))
    → IfErr r (λ e. (added : List FrameBytes) → (h : HasAdded added m)
    → (e ≡ Memory) ⊎ IsRefusalAfter added (tries_for h) e)
refused_of m (Ok merged) k = tt
refused_of m (Err e) k = λ added h. all_refused added m h e k

pub returns-then-self-eq0-clause-merged : goal.returns-then-self-eq0-clause-merged
returns-then-self-eq0-clause-merged c =
    λ added h. rw c.new.ensures.items (none_added added c.args.self h (grind (arith, nat_tests, c.if-self-eq0.true)))

pub returns-clause-merged : goal.returns-clause-merged
returns-clause-merged c = merged_of c.args.self c.tree_of.result c.tree_of.ensures.ok

pub returns-clause-refused : goal.returns-clause-refused
returns-clause-refused c = refused_of c.args.self c.tree_of.result c.tree_of.ensures.err

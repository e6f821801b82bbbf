-- What is written of a trace.
use Rattle.std.proofs.Common.{◌≡◌, ℕ, List, [], ◌++◌, Option, refl, subst, ◌∙◌, append_assoc}
use Rattle.std.specs.FinMap as tree
use Rattle.puffin_look.specs.OpenFrame.{OpenFrame}
use Rattle.puffin_look.specs.Trees.{all_streams, AreRead}
use Rattle.puffin_look.specs.Wanted.{frames_within}
use Rattle.puffin_look.specs.declared.wanted.Indices.{Indices}
use Rattle.puffin_look.specs.Trace.{events, trace_head, trace_end, IsTrace}
use Rattle.puffin_look.specs.inner.Tracings.{numbers_of, TakesTrace}
use Rattle.puffin_look.specs.declared.overview.Overview.{Overview}
use Rattle.puffin_look.specs.declared.trace.Trace.{Trace}
use Rattle.puffin_look.proofs.Listed.{none_within}

abbrev pub text_in : Trace → List ℕ
text_in v = v.events.text.items

-- the trace of no frames
pub none_said : (o : Overview) (indices : Option Indices) → IsTrace o indices [] (trace_head ++ ([] ++ trace_end))
none_said o indices = ([], subst (λ (fs : List OpenFrame). AreRead all_streams fs []) (none_within indices) tt, refl)

-- the text of the frames and the end are the trace
pub closed : (o : Overview) (indices : Option Indices) (old : Trace) → text_in old ≡ trace_head → numbers_of old ≡ tree.empty
    → old.events.overview.now ≡ o → (frames : List OpenFrame) (more : List ℕ) (v : Trace)
    → TakesTrace old (frames_within indices frames) more v → IsTrace o indices frames ((text_in old ++ more) ++ trace_end)
closed o indices old head none same frames more v taken = (
  taken.trees,
  taken.read,
  (λ i. (head i ++ (taken.is ∙ (λ j. events (same j) (none j) taken.trees)) i) ++ trace_end)
      ∙ append_assoc trace_head (events o tree.empty taken.trees) trace_end,
)

-- Once all scopes have ended, an empty stream is a valid state; the first start is kept apart from it.
use Rattle.std.proofs.Common.{◌∙◌, ◌+◌, ap, length, arith}
use Rattle.puffin_data.specs.Forest.Words.{open_after}
use Rattle.puffin_threads.specs.Thread.Calls.{Thread}
use Rattle.std.specs.Option.{option_or}
use Rattle.puffin_data.specs.declared.data.info.StreamInfo.{StreamInfo}
use Rattle.puffin_threads.specs.inner.FirstStart.{first_open}
use Rattle.puffin_threads.proofs.FirstStarts.{or_none}
use Rattle.puffin_threads.proofs.EndedStates.{first_in}
use Rattle.puffin_threads.proofs.ThreadStates.{cleared_in, none_in, none_innermost, none_open_in, same_thread, stays_supplied}
use Rattle.puffin_threads.proofs.thread_profiler.thread_state.ThreadState.discard.Goals as goal

pub invariant_of-self : goal.invariant_of-self
invariant_of-self g =
    let valid = g.self.invariant in
    let none = ap (λ (t : Thread). open_after 0 t.word) g.self.view_is ∙ g.requires in
    cleared_in _ valid.latest g.clear.ensures.honest (none_open_in g.self.inside valid none)
    (none_innermost g.self.inside valid (none_open_in g.self.inside valid none))
    (stays_supplied g.self.inside.supply g.self.inside.info.stream _
    (omega (
      arith,
      ap (λ (i : StreamInfo). length i.stream.bytes + i.stream.room) g.complete.ensures.info,
      g.clear.ensures.room,
    )) valid.supplied) valid.spare

pub returns : goal.returns
returns g =
    same_thread _ _ (ap (λ (t : Thread). t.name) g.self.view_is)
    (g.clear.ensures.form ∙ ap (λ (i : StreamInfo). i.stream.form) g.complete.ensures.info
    ∙ ap (λ (t : Thread). t.form) g.self.view_is)
    (ap (option_or g.complete.new.first) (ap first_open (none_in g.clear.new.self g.clear.ensures.honest))
    ∙ or_none g.complete.new.first
    ∙ g.complete.ensures.first
    ∙ first_in g.self.inside g.self.invariant
    ∙ ap (λ (t : Thread). t.first_start) g.self.view_is) (ap (λ (t : Thread). t.latest) g.self.view_is)
    (none_in g.clear.new.self g.clear.ensures.honest) (ap (λ (t : Thread). t.details) g.self.view_is)

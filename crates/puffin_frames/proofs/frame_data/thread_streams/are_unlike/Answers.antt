-- What is under the thread is what the map has there, or nothing.
use Rattle.std.proofs.Common.{◌≡◌, ◌↔◌, true, sym, ap, ◌∙◌, subst}
use Rattle.puffin_data.specs.Honesty.{StreamFacts, AreUnlike, facts_of, facts_of_ref}
use Rattle.puffin_frames.proofs.Reports.{under_there, none_under, none_unlike}
use Rattle.puffin_frames.proofs.frame_data.thread_streams.are_unlike.Goals as goal

pub returns-in-Some : goal.returns-in-Some
returns-in-Some c =
    subst (λ (u : StreamFacts). (c.is_unlike.result ≡ true) ↔ AreUnlike u (facts_of_ref c.args.times.now))
    (sym (under_there c.args.streams.now.entries c.args.info.now c.in-Some.shared.now (sym c.in-Some.ensures.value)
    ∙ ap facts_of (sym c.deref.ensures))) c.is_unlike.ensures

pub returns-in-None : goal.returns-in-None
returns-in-None c =
    let none = none_under c.args.streams.now.entries c.args.info.now (sym c.in-None.ensures.value) in
    (λ is. absurd cc, λ apart. absurd (none_unlike _ (facts_of_ref c.args.times.now) none apart))

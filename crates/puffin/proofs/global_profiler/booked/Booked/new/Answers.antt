-- What is pending at first has no scopes, since none were reported.
use Rattle.std.proofs.Common.{◌≡◌, sym, subst, arith}
use Rattle.std.specs.FinMap as map
use Rattle.std.proofs.lemmas.Grind.{merely}
use Rattle.history.specs.Entries.{events}
use Rattle.puffin_frames.specs.Frame.Contents.{Streams}
use Rattle.puffin_frames.specs.Frame.Sums.{total_scopes}
use Rattle.puffin.specs.Profiler.{collected_of}
use Rattle.puffin.specs.Happenings.{History, Stands}
use Rattle.puffin.proofs.Growing.{opened_stands}
use Rattle.puffin.proofs.global_profiler.booked.Booked.new.Goals as goal

pub invariant_of-result-clause-stands : goal.invariant_of-result-clause-stands
invariant_of-result-clause-stands g c =
    let streams : Streams = (collected_of c.args.profiler).streams in
    let counts = c.totals-totals.ensures in
    let nothing : total_scopes (map.values streams) ≡ 0 =
    omega (arith, counts.pending, counts.reported, c.totals-totals.result.sum, c.requires.fresh.0) in
    subst (λ (log : History). ∥ Stands streams (events log) ∥₁) (sym c.requires.log.1)
    (merely (opened_stands streams counts.honest nothing))

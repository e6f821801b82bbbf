use Rattle.std.proofs.Common.{sym, subst}
use Rattle.puffin_data.specs.Honesty.{StreamFacts, AreHonestFacts}
use Rattle.tests_puffin.proofs.global_profiler.borrowed.Goals as goal

pub returns : goal.returns
returns c = (c.requires.0, subst (λ (r : StreamFacts). AreHonestFacts r c.requires.0) (sym c.as_stream_into_ref.ensures) c.requires.1)

-- The walk counts the one scope that the bytes spell.
use Rattle.std.proofs.Common.{◌≡◌, ◌∙◌}
use Rattle.tests_support.specs.declared.samples.TheConstants.{ONE_SCOPE}
use Rattle.tests_support.proofs.OneScope.{one, one_spells, Counted, counted_ok, counted_err}
use Rattle.tests_support.proofs.frames.packet_info.Goals as goal

bytes : (c : goal.After-parse) → c.from_bytes.result.bytes ≡ ONE_SCOPE
bytes c = c.from_bytes.ensures.bytes ∙ c.in_ok-bytes.ensures.items

counted : (c : goal.After-parse) → Counted c.parse.result
counted c =
    let spells = one_spells c.from_bytes.result.form in
    c.parse.ensures.only one (record { whole = bytes c ∙ spells.whole; fits = spells.fits })

pub returns-clause-ok : goal.returns-clause-ok
returns-clause-ok c =
    counted_ok c.args.form c.from_bytes.result c.parse.result c.from_bytes.ensures.form (bytes c) c.parse.ensures.same (counted c)

pub returns-clause-memory : goal.returns-clause-memory
returns-clause-memory c = counted_err c.parse.result (counted c)

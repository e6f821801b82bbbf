-- Each read adds a piece to the buffer's front; the last one, of no bytes, shows that the reader is at its end.
use Rattle.std.proofs.Common.{◌≡◌, ◌+◌, length, take, ◌∙◌, rules, arith, length-take-le}
use Rattle.puffin_data.proofs.Filled.{filled_more}
use Rattle.puffin_data.proofs.lemmas.Numbers.{IsBytes-take}
use Rattle.puffin_data.proofs.data.parts.read_up_to.Goals as goal

pub reads-preserved : goal.reads-preserved
reads-preserved g c =
    let before = c.reads.invariant in
    let read = c.in_ok-count.ensures in
    let size : length c.read_behind.new.buf ≡ length c.reads.buf = search rules in
    record {
      size = size ∙ before.size;
      within = read.fits;
      consumed = filled_more _ _ _ c.reads.buf c.read_behind.new.buf c.reads.end c.in_ok-count.count read.front before.consumed read.took;
      are_bytes = IsBytes-take (c.reads.end + c.in_ok-count.count) c.read_behind.new.buf (search rules);
      failures = read.failures ∙ before.failures;
    }

pub returns-clause-took : goal.returns-clause-took
returns-clause-took g c =
    let read = c.reads.invariant in
    let size : length (take c.reads.end c.reads.buf) ≡ c.reads.end = length-take-le c.reads.end c.reads.buf read.within in (
      omega (arith, read.size, read.within),
      record {
        consumed = read.consumed;
        bytes = read.are_bytes;
        most = omega (arith, size, read.size, read.within);
        fewer = λ less. absurd (omega (arith, size, less, read.size, read.within, c.reads-test.false));
      },
    )

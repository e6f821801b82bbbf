-- The bytes that were taken are fewer than four, or four zeros: both are read as the end.
use Rattle.std.proofs.Common.{◌≡◌, ◌<◌, length, take, inl, inr, arith, length-take, take_all, subst, sym, ◌∙◌}
use Rattle.std.specs.Io.KnownBytes.{Consumes}
use Rattle.puffin_frames.proofs.PacketsRead.{short_end, zeros_end}
use Rattle.puffin_frames.proofs.frame_data.reading.read_header.Goals as goal

pub returns-then-branch-lt4-clause-header : goal.returns-then-branch-lt4-clause-header
returns-then-branch-lt4-clause-header g c =
    let count = c.in_ok-read_up_to.field-0 in
    let buf = c.read_up_to.new.buf in
    let took = c.in_ok-read_up_to.ensures.took.1 in
    let short : length (take count buf) < 4 = omega (arith, length-take count buf, c.if-branch-lt4.true) in
    record {
      taken = take count buf;
      consumed = took.consumed;
      none = short_end (take count buf) short;
      last = inr (took.fewer short);
    }

pub returns-then-read_u32-eq0-clause-header : goal.returns-then-read_u32-eq0-clause-header
returns-then-read_u32-eq0-clause-header g c =
    let count = c.in_ok-read_up_to.field-0 in
    let buf = c.read_up_to.new.buf in
    let took = c.in_ok-read_up_to.ensures.took.1 in
    let all : take count buf ≡ buf =
    take_all count buf (omega (arith, c.in_ok-read_up_to.ensures.size, c.if-branch-lt4.false)) in
    record {
      taken = buf;
      consumed = subst (Consumes _ _) all took.consumed;
      none = zeros_end buf c.in_ok-read_up_to.ensures.size (sym c.read_u32.ensures ∙ c.if-read_u32-eq0.true);
      last = inl c.in_ok-read_up_to.ensures.size;
    }

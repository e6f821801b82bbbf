-- Each read adds a piece behind `end`. In the end the vector is full, or it is cut at `end`.
use Rattle.std.proofs.Common.{◌≡◌, ◌≤◌, ◌++◌, ◌-◌, ◌+◌, [], take, length, sym, ap, ◌∙◌, rules, arith, take_all, append_assoc}
use Rattle.std.proofs.KnownBytes.{Consumes-nil, Consumes-trans}
use Rattle.std.proofs.lemmas.List.{append-nil, with_items_is, places}
use borrow.Rule.Slice.PartMut.{put_mid, post_of}
use Rattle.puffin_data.proofs.Filled.{before_room, read_there}
use Rattle.puffin_data.proofs.data.device.Source.read_to_len.Goals as goal

pub reads-init : goal.reads-init
reads-init g c = record {
  size = search rules;
  within = search rules;
  filled = ([], sym (append-nil (take c.len-end.result c.resize.new.self.items)), Consumes-nil (g.Self.Source.remaining c.args.self.now));
  failures = search rules;
}

pub reads-preserved : goal.reads-preserved
reads-preserved g c =
    let before = c.reads.invariant in
    let read = c.in-Ok.ensures in
    let lent = c.deref_mut.result.now in
    let end = c.reads.end in
    let count = c.in-Ok.count in
    let same : lent ≡ c.reads.bytes.items = c.deref_mut.ensures.value in
    let within : end ≤ length lent = search rules in
    let room = length lent - end in
    let after = put_mid end room lent c.read.new.buf in
    let long : length after ≡ c.reads.bytes.len = search (rules, places) in
    let cut = with_items_is c.reads.bytes after long in
    let there : take (end + count) after ≡ take end lent ++ take count c.read.new.buf =
    read_there lent c.read.new.buf (post_of end room lent) end count within read.bound.0 in
    let length_read : length c.read.new.buf ≡ length lent - end = search (rules, places) in
    let length_lent : length lent ≡ c.reads.bytes.len = search (rules, places) in
    let old = before.filled in
    record {
      size = ap length cut ∙ search (rules, places);
      within = omega (arith, read.bound.0, within, long, ap length cut, length_read, length_lent);
      filled = (
        old.0 ++ take count c.read.new.buf,
        ap (take (end + count)) cut
            ∙ there
            ∙ ap (λ any. take end any ++ take count c.read.new.buf) same
            ∙ ap (λ any. any ++ take count c.read.new.buf) old.1
            ∙ append_assoc _ old.0 (take count c.read.new.buf),
        Consumes-trans _ _ _ old.0 (take count c.read.new.buf) old.2 read.bytes.0,
      );
      failures = read.failed ∙ before.failures;
    }

pub returns-clause-grown : goal.returns-clause-grown
returns-clause-grown g c =
    let filled = c.reads.invariant.filled in
    let whole = take_all c.reads.end c.reads.bytes.items (omega (arith, c.reads-test.false)) in
    let before =
    before_room c.args.bytes.now.items _ c.resize.new.self.items c.len-end.result c.args.len (search rules) c.requires.len
    c.in_ok-resize.ensures.items in
    (filled.0, sym whole ∙ filled.1 ∙ ap (λ any. any ++ filled.0) before, filled.2)

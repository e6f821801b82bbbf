-- What the loop took from the iterator is what std's `split` divides the path into.
use Rattle.std.proofs.Common.{lit<, ap, map, ◌∙◌}
use Rattle.std.specs.Str.Iter.{split_text, split_has_more, split_pattern}
use Rattle.std.proofs.lemmas.Iterator.Consumers.{YieldsList-end}
use Rattle.std.proofs.lemmas.Iterator.Splits.{YieldsList-from_str_split}
use Rattle.puffin_scopes.proofs.utils.file_names.split_path.Goals as goal

pub returns-clause-ok : goal.returns-clause-ok
returns-clause-ok c =
    let same = c.into_iter-part-iterator.ensures.into_iter_gives in
    let split = c.split-part-items.ensures in
    let yields = YieldsList-from_str_split {s = c.into_iter-part-iterator.result} 47 c.args.path.now (lit< tt)
    (ap split_text same ∙ split.text) (ap split_has_more same ∙ split.has_more) (ap split_pattern same ∙ split.pattern) in
    let all = YieldsList-end yields c.loop-part.yielded c.loop-part.part-iterator c.loop-part.yielded_by
    c.next.result c.next.new.self c.in-None.is c.next.ensures.steps in
    ap (map (λ part. part.now)) c.loop-part.invariant ∙ all.0

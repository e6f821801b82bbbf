-- A path of at most two parts is kept.
use Rattle.std.proofs.Common.{◌≤◌, ◌∙◌, ap, arith, length}
use Rattle.std.proofs.lemmas.List.{length-map}
use Rattle.puffin_scopes.specs.Names.Files.{parts_of}
use Rattle.puffin_scopes.proofs.utils.file_names.shorten_path.Goals as goal
use Rattle.puffin_scopes.proofs.Parts.{short_paths}

pub returns-then-len-le2-clause-ok : goal.returns-then-len-le2-clause-ok
returns-then-len-le2-clause-ok c =
    let split = ap length c.in_ok-parts.ensures.ok in
    let read = length-map c.in_ok-parts.parts.items (λ part. part.now) in
    let few = c.if-len-le2.true in
    let len = c.len.ensures in
    let few_parts : length (parts_of c.args.path.now) ≤ 2 = omega arith in
    c.in_ok-from_str.ensures.ok ∙ short_paths _ few_parts

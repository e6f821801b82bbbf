-- From offset 0 the whole file is read, so a refusal is that its letters are missing.
use Rattle.std.proofs.Common.{◌≡◌, ◌-◌, ◌≤◌, ℕ, length, ap, ◌∙◌, arith}
use Rattle.std.specs.Prelude.{drop, take}
use Rattle.std.proofs.lemmas.List.{take_all}
use Rattle.std.proofs.lemmas.Result.{err_from_is_err_and}
use Rattle.puffin_c.proofs.GivenFrames.{no_io}
use Rattle.puffin_c.proofs.StreamLists.{no_letters}
use Rattle.puffin_c.proofs.streams.source_at.Goals as goal

pub returns-in_err-read_magic-clause-err : goal.returns-in_err-read_magic-clause-err
returns-in_err-read_magic-clause-err c =
    let (_, is_err, same_cause) = err_from_is_err_and c.from_residual.result c.from_residual.ensures.1 in
    let bytes = c.args.file.now in
    let start = c.if-offset-eq0.true in
    let size : length bytes ≤ length bytes - c.args.offset = omega (arith, start) in
    let all : c.new-source.result.unread.now ≡ bytes =
    c.new-source.ensures ∙ ap (λ (n : ℕ). take (length bytes - c.args.offset) (drop n bytes)) start
    ∙ take_all (length bytes - c.args.offset) bytes size in
    let not_io = no_io (Unit {0}) _ c.in_err-read_magic.ensures.failures in
    rw is_err (no_letters _ _ _ _ _ _ all same_cause start not_io
    c.in_err-read_magic.ensures.cause c.in_err-read_magic.ensures.err)

use Rattle.std.proofs.Common.{◌≡◌, ℕ, ◌+◌, ◌-◌, List, ◌++◌, arith, length, take, drop, sym, ap, ◌∙◌, subst, take_all, length-drop, take-append-drop}
use Rattle.std.specs.Io.KnownBytes.{Appends}
use Rattle.std.proofs.lemmas.Result.{err_from_is_err_and}
use Rattle.std.proofs.KnownBytes.{Appends-trans, Appends-kept}
use lib.Seq.{take-add}
use Rattle.puffin_data.proofs.data.transfer.write_all.Goals as goal

-- what was written before, and the front of the rest that was written now
grown : (at count : ℕ) (bytes : List ℕ) → take at bytes ++ take count (take (length bytes - at) (drop at bytes)) ≡ take (at + count) bytes
grown at count bytes =
    let rest : take (length bytes - at) (drop at bytes) ≡ drop at bytes =
    take_all (length bytes - at) (drop at bytes) (omega (arith, length-drop at bytes)) in
    ap (λ (any : List ℕ). take at bytes ++ take count any) rest ∙ sym (take-add at count bytes)

pub returns-in_err-count-clause-err : goal.returns-in_err-count-clause-err
returns-in_err-count-clause-err g c =
    let at = c.pieces.at in
    let bytes = c.args.bytes.now in
    let returned = err_from_is_err_and c.from_residual.result c.from_residual.ensures.1 in
    rw returned.1 (
      take at bytes,
      drop at bytes,
      sym (take-append-drop at bytes),
      Appends-kept _ _ _ _ c.pieces.invariant.written c.in_err-count.ensures.bytes,
    )

pub returns-then-count-eq0-clause-err : goal.returns-then-count-eq0-clause-err
returns-then-count-eq0-clause-err g c =
    let at = c.pieces.at in
    let count = c.in_ok-count.count in
    let bytes = c.args.bytes.now in (
      take (at + count) bytes,
      drop (at + count) bytes,
      sym (take-append-drop (at + count) bytes),
      subst (Appends _ _) (grown at count bytes) (Appends-trans _ _ _ _ _ c.pieces.invariant.written c.in_ok-count.ensures.bytes),
    )

pub pieces-preserved : goal.pieces-preserved
pieces-preserved g c =
    let at = c.pieces.at in
    let count = c.in_ok-count.count in
    let bytes = c.args.bytes.now in
    record {
      most = omega (arith, c.in_ok-count.ensures.bound, length-drop at bytes);
      written = subst (Appends _ _) (grown at count bytes) (Appends-trans _ _ _ _ _ c.pieces.invariant.written c.in_ok-count.ensures.bytes);
      failures = c.in_ok-count.ensures.failed ∙ c.pieces.invariant.failures;
    }

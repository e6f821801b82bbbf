-- A frame is added to a merge that goes on; a merge that was refused, or a fault, stays.
use Rattle.std.proofs.Common.{[], ◌∷◌, ◌++◌, sym, subst}
use Rattle.puffin_report.specs.inner.Summing.{IsProgress}
use Rattle.puffin_report.proofs.Stepping.{one_added, one_refused, stays_at_fault, can_add, if_ok_so}
use Rattle.puffin_report.proofs.summing.Progress.with_unpacked.Goals as goal

pub returns-in_default : goal.returns-in_default
returns-in_default c = record {
  ok = λ info kept d h read. stays_at_fault info kept c.args.self d c.args.frame.now c.in_default.not-Merged h read;
  memory = tt;
}

pub add-requires : goal.add-requires
add-requires c = can_add c.args.self c.in-Merged.merger c.in-Merged.is c.requires

pub returns-in-Ok-clause-ok : goal.returns-in-Ok-clause-ok
returns-in-Ok-clause-ok c = λ info kept d h read.
    one_added info kept c.in-Merged.merger c.add.new.self d c.args.frame.now
    (subst (IsProgress info kept) c.in-Merged.is h) read c.in-Ok.ensures.info c.in-Ok.ensures.added

pub returns-clause-ok : goal.returns-clause-ok
returns-clause-ok c =
    if_ok_so c.refused.result
    (λ progress said info kept d h read. subst (IsProgress info (kept ++ d ∷ [])) (sym said.0)
    (one_refused info kept c.in-Merged.merger d c.args.frame.now c.in-Err.cause
    (subst (IsProgress info kept) c.in-Merged.is h) read said.1 c.in-Err.ensures.refused))
    c.refused.ensures.ok

-- The device reads the bytes of the file.
use Rattle.std.proofs.lemmas.Result.{IfOk-weaker, IfErr-weaker}
use Rattle.puffin_c.proofs.MergesMade.{summed_up, not_summed_up}
use Rattle.puffin_c.proofs.merge.summary_of.Goals as goal

pub returns-clause-ok : goal.returns-clause-ok
returns-clause-ok c =
    IfOk-weaker c.summarize.result _ _ (λ summary h. summed_up _ _ _ c.new.ensures _ summary h)
    c.summarize.ensures.summary

pub returns-clause-err : goal.returns-clause-err
returns-clause-err c = IfErr-weaker c.summarize.result _ _ (λ e h. not_summed_up _ _ _ c.new.ensures _ e h) c.summarize.ensures.err

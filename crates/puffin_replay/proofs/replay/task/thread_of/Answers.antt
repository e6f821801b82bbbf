-- A word without a colon names no thread.
use Rattle.std.proofs.Common.{option_map, ap, ◌∙◌, lit<}
use Rattle.puffin_replay.proofs.StartWords.{no_thread}
use Rattle.puffin_replay.proofs.replay.task.thread_of.Goals as goal

pub returns-in_err-before : goal.returns-in_err-before
returns-in_err-before c = ap (option_map _) c.from_residual.ensures ∙ no_thread _ (c.in_err-before.ensures.byte (lit< tt) (λ w o f. f))

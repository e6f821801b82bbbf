-- Without a plus in front, what is parsed is the time in the word.
use Rattle.std.proofs.Common.{lit<, ◌∙◌}
use Rattle.puffin_data.proofs.lemmas.Decimals.{is_not_plus}
use Rattle.puffin_replay.proofs.StartWords.{signed_read}
use Rattle.puffin_replay.proofs.replay.task.parse_signed_time.Goals as goal

pub returns : goal.returns
returns c =
    let plain = is_not_plus _ (c.if-starts_with.ensures.byte (lit< tt) (lit< tt) (λ w o f. f)) in
    c.ok.ensures.value ∙ signed_read c.args.word.now _ c.parse.ensures.value.0 plain

-- Without a plus in front, what is parsed is the number in the word.
use Rattle.std.proofs.Common.{lit<, ◌∙◌}
use Rattle.puffin_data.proofs.lemmas.Decimals.{number_read, is_not_plus}
use Rattle.puffin_data.proofs.number.parse_number.Goals as goal

pub returns : goal.returns
returns c =
    let plain = is_not_plus _ (c.if-starts_with.ensures.byte (lit< tt) (lit< tt) (λ w o f. f)) in
    c.ok.ensures.value ∙ number_read 64 c.args.word.now _ c.parse.ensures.value.0 plain

-- Two honest infos make an honest one.
use Rattle.std.proofs.Common.{◌∙◌}
use Rattle.puffin_data.specs.Honesty.{facts_of, facts_of_ref}
use Rattle.puffin_data.proofs.lemmas.Extended.{extended, true_not_false}
use Rattle.puffin_data.proofs.data.info.StreamInfo.extend.Goals as goal

pub returns-clause-honest : goal.returns-clause-honest
returns-clause-honest c first second first_honest second_honest =
    extended _ (facts_of c.args.self.now) (facts_of_ref c.args.other.now) first second (c.set_form.ensures.form ∙ c.form_with-form.ensures)
    (λ apart. true_not_false c.is_unlike.result (c.is_unlike.ensures.1 apart) c.if-is_unlike.false)
    (c.set_form.ensures.bytes ∙ c.in_ok-append.ensures.ok) c.in-Some.ensures.1 c.max-self.ensures c.joined_range-self.ensures.start
    c.joined_range-self.ensures.stop first_honest second_honest

use Rattle.puffin_view.proofs.lemmas.ReadingViews.{kept_by_reading, end_goes_on, end_begins_anew}
use Rattle.puffin_view.proofs.profile_view.laws.reading_keeps_what_rises.Goals as goal

pub returns-clause-kept : goal.returns-clause-kept
returns-clause-kept c fs few = kept_by_reading fs few

pub returns-clause-goes_on : goal.returns-clause-goes_on
returns-clause-goes_on c cs d rises = end_goes_on cs d rises

pub returns-clause-begins_anew : goal.returns-clause-begins_anew
returns-clause-begins_anew c cs d falls = end_begins_anew cs d falls

-- By induction over what a reader gives.
use Rattle.puffin_data.proofs.OneReading as OneReading
use Rattle.puffin_data.proofs.TopScopes.{reads_spelling}
use Rattle.puffin_data.proofs.laws.one_reading.Goals as goal

pub returns-clause-read : goal.returns-clause-read
returns-clause-read c form bytes place within = OneReading.all_are_read form bytes place within

pub returns-clause-one : goal.returns-clause-one
returns-clause-one c form bytes place items others gives gives_others =
    OneReading.one_reading form bytes place items others gives gives_others

pub returns-clause-end : goal.returns-clause-end
returns-clause-end c form bytes items gives = OneReading.nothing_at_end form bytes items gives

pub returns-clause-spelled : goal.returns-clause-spelled
returns-clause-spelled c form bytes forest spelled small = reads_spelling form bytes forest spelled small

use Rattle.puffin_frames.proofs.lemmas.Ranges.{least_start-one, greatest_stop-one, least_start-append, greatest_stop-append}
use Rattle.puffin_frames.proofs.laws.joined_ranges.Goals as goal

pub returns-clause-start_of_one_more : goal.returns-clause-start_of_one_more
returns-clause-start_of_one_more c = least_start-one

pub returns-clause-stop_of_one_more : goal.returns-clause-stop_of_one_more
returns-clause-stop_of_one_more c = greatest_stop-one

pub returns-clause-start : goal.returns-clause-start
returns-clause-start c = least_start-append

pub returns-clause-stop : goal.returns-clause-stop
returns-clause-stop c = greatest_stop-append

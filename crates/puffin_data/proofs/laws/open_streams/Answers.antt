-- Each clause is a lemma on a stream that is cut at the size of its innermost open scope.
use Rattle.std.proofs.Common.{refl}
use Rattle.puffin_data.proofs.lemmas.Opening as Opening
use Rattle.puffin_data.proofs.laws.open_streams.Goals as goal

pub returns-clause-begins : goal.returns-clause-begins
returns-clause-begins c form open_scopes closed id start text size = Opening.begins form open_scopes closed id start text size

pub returns-clause-begins_word : goal.returns-clause-begins_word
returns-clause-begins_word c open_scopes closed id start text size = Opening.begins-word open_scopes closed id start text size

pub returns-clause-begins_place : goal.returns-clause-begins_place
returns-clause-begins_place c form innermost outer = Opening.size_last form innermost outer

pub returns-clause-place_within : goal.returns-clause-place_within
returns-clause-place_within c form innermost outer closed = Opening.size_within form innermost outer closed

pub returns-clause-unfinished : goal.returns-clause-unfinished
returns-clause-unfinished c form innermost outer closed fits = Opening.size_there form innermost outer closed fits

pub returns-clause-ends : goal.returns-clause-ends
returns-clause-ends c form innermost outer closed stop = Opening.finishes form innermost outer closed stop

pub returns-clause-ends_word : goal.returns-clause-ends_word
returns-clause-ends_word c innermost outer closed stop = Opening.finishes-word innermost outer closed stop

pub returns-clause-ends_written : goal.returns-clause-ends_written
returns-clause-ends_written c form innermost closed stop can_be_written inner fits later lasts =
    Opening.ended-written form innermost closed stop can_be_written inner fits later lasts

pub returns-clause-none_open : goal.returns-clause-none_open
returns-clause-none_open c form closed = refl

pub returns-clause-none_open_word : goal.returns-clause-none_open_word
returns-clause-none_open_word c closed = refl

pub returns-clause-size : goal.returns-clause-size
returns-clause-size c form open_scopes closed = Opening.open_size form open_scopes closed

pub returns-clause-open : goal.returns-clause-open
returns-clause-open c open_scopes closed = Opening.open_open open_scopes closed

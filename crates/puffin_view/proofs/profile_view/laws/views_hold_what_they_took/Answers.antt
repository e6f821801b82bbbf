use Rattle.puffin_view.proofs.lemmas.FramesHeld.{held_or_taken, listed_is_held}
use Rattle.puffin_view.proofs.profile_view.laws.views_hold_what_they_took.Goals as goal

pub returns-clause-held : goal.returns-clause-held
returns-clause-held c p v fs held none = held_or_taken p v fs held none

pub returns-clause-listed : goal.returns-clause-listed
returns-clause-listed c p v held = listed_is_held p v held

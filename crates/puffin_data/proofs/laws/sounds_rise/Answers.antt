-- By induction over the length of the region.
use Rattle.puffin_data.proofs.Sounds.{all_sounds, one_list, sounds_increase}
use Rattle.puffin_data.proofs.laws.sounds_rise.Goals as goal

pub returns-clause-has : goal.returns-clause-has
returns-clause-has c form bytes = all_sounds form bytes

pub returns-clause-one : goal.returns-clause-one
returns-clause-one c form bytes places others sounds other_sounds = one_list form bytes 0 _ places others sounds other_sounds

pub returns-clause-rise : goal.returns-clause-rise
returns-clause-rise c form bytes places sounds = sounds_increase form bytes places sounds

-- Each test of a reading that fails gives one of the three faults.
use Rattle.puffin_data.proofs.Causes.{three_faults}
use Rattle.puffin_data.proofs.laws.faults_of_a_walk.Goals as goal

pub returns : goal.returns
returns c form = three_faults form

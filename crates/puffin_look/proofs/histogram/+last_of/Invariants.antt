-- Each call has a lower bucket.
use Rattle.puffin_look.proofs.histogram.+last_of.Given as goal

abbrev pub decreases-last_of : goal.decreases-last_of
decreases-last_of l = l.bucket

-- Each call has a smaller duration.
use Rattle.puffin_look.proofs.histogram.+bucket_of.Given as goal

abbrev pub decreases-bucket_of : goal.decreases-bucket_of
decreases-bucket_of l = l.time

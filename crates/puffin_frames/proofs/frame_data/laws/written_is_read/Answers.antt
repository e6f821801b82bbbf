use Rattle.puffin_frames.proofs.lemmas.Packets.{packet_again, no_packet_begins_another}
use Rattle.puffin_frames.proofs.frame_data.laws.written_is_read.Goals as goal

pub returns-clause-again : goal.returns-clause-again
returns-clause-again c fields rest fits = packet_again fields rest fits

pub returns-clause-alone : goal.returns-clause-alone
returns-clause-alone c a b x y = no_packet_begins_another a b x y

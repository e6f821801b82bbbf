-- Five numbers take at most 9 bytes each.
use Rattle.puffin_frames.proofs.Writing.{meta_short}
use Rattle.puffin_frames.proofs.frame_data.writing.meta_part.Goals as goal

pub returns-clause-short : goal.returns-clause-short
returns-clause-short c = meta_short c.args.meta

pub returns-in_err-put_meta-clause-short : goal.returns-in_err-put_meta-clause-short
returns-in_err-put_meta-clause-short c = meta_short c.args.meta

pub returns-in_err-bytes-clause-short : goal.returns-in_err-bytes-clause-short
returns-in_err-bytes-clause-short c = meta_short c.args.meta

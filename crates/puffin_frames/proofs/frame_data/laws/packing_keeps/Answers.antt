use Rattle.puffin_frames.proofs.Packings.{pack-keeps, unpack-keeps}
use Rattle.puffin_frames.proofs.frame_data.laws.packing_keeps.Goals as goal

pub returns-clause-packs : goal.returns-clause-packs
returns-clause-packs c holding agree = pack-keeps holding agree

pub returns-clause-unpacks : goal.returns-clause-unpacks
returns-clause-unpacks c holding = unpack-keeps holding

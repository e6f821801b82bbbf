use Rattle.std.proofs.Common.{map}
use Rattle.puffin_data.specs.Honesty.{facts_of}
use Rattle.puffin_frames.specs.Frame.Contents.{all_facts}
use Rattle.puffin_frames.proofs.Joining.{ComesTo}
use Rattle.puffin_frames.proofs.frame_data.meta.FrameMeta.from_streams.Given as goal

-- the totals so far, with the infos that are left, come to those of all
abbrev pub invariant-loop-info : goal.invariant-loop-info
invariant-loop-info l = ComesTo l.meta (map facts_of l.info-iterator) l.frame_index (all_facts l.streams)

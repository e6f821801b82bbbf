-- What a frame holds, by infos, is what was given.
use Rattle.std.proofs.Common.{sym, ap, ◌∙◌}
use Rattle.std.specs.FinMap as map
use Rattle.puffin_frames.specs.Frame.Contents.{streams_of}
use Rattle.puffin_frames.specs.Frame.Sums.{meta_of}
use Rattle.puffin_frames.proofs.lemmas.Keyed.{values-streams_of}
use Rattle.puffin_frames.proofs.frame_data.unpacked.UnpackedFrameData.new.Goals as goal

pub returns-clause-own_meta : goal.returns-clause-own_meta
returns-clause-own_meta c =
    c.in_ok-meta.ensures.ok
    ∙ ap (meta_of c.args.frame_index) (sym (values-streams_of c.args.thread_streams.entries c.in_ok-meta.ensures.sorted))
    ∙ ap (λ es. meta_of c.args.frame_index (map.values (streams_of es))) (sym c.in_ok-share_streams.ensures.ok)

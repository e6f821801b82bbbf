-- The frames that are read are those that were written, and a frame is unpacked to what it holds.
use Rattle.std.proofs.Common.{◌∙◌, sym, ap}
use Rattle.puffin_view.specs.View.File.{fields_in}
use Rattle.puffin_frames.specs.Frame.Contents.{holding_of}
use Rattle.puffin_frames.specs.Frame.Holding.{packing_of, holding_streams}
use Rattle.puffin_report.proofs.Summaries.{summed_again, hindered_again, unpacked_again}
use Rattle.puffin_report.proofs.laws.what_was_recorded_is_summed_up.Goals as goal

pub returns-clause-summary : goal.returns-clause-summary
returns-clause-summary c info v new stored summary all few took sums =
    let again = c.what_was_written_is_read.ensures in
    summed_again info v stored summary again.all few (again.frames (fields_in v) new stored all few took) sums

pub returns-clause-fault : goal.returns-clause-fault
returns-clause-fault c info v new e all few ids fails inside =
    let again = c.what_was_written_is_read.ensures in
    hindered_again info v new e again.all few ids (λ f i. again.fault (fields_in v) new e all few f i)
    (λ stored took. again.frames (fields_in v) new stored all few took) fails inside

pub returns-clause-copied : goal.returns-clause-copied
returns-clause-copied c frame copy streams packed is =
    unpacked_again (packing_of (holding_of frame)) streams (ap holding_streams (sym packed) ∙ is)

pub returns-clause-unpacked : goal.returns-clause-unpacked
returns-clause-unpacked c frame streams is =
    unpacked_again (packing_of (holding_of frame)) streams (c.each_frame_is_read_again.ensures.again frame ∙ is)

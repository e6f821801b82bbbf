-- The rows are those of the frames so far.
use Rattle.std.proofs.Common.{◌≡◌, List, length}
use Rattle.puffin_frames.specs.Packet.Stored.{Stored}
use Rattle.puffin_view.specs.View.FrameFile.{HasGiven}
use Rattle.puffin_look.specs.inner.PageChoices.{HasRows}
use Rattle.puffin_look.proofs.page_choice.add_frames.Given as goal

abbrev pub invariant-frames : goal.invariant-frames
invariant-frames g l = record {
  stored : List Stored;
  given : HasGiven (g.S.Source.remaining l.fn.source) (g.S.Source.remaining l.source) stored;
  rows : HasRows l.rows stored;
  count : length stored ≡ l.counter;
  failures : g.S.Source.failures l.source ≡ g.S.Source.failures l.fn.source;
  limits : l.rows.limits ≡ l.fn.rows.limits;
}

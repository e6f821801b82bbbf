use Rattle.std.proofs.Common.{◌≡◌, ◌++◌, List, map}
use Rattle.std.specs.Prelude.{option_map}
use Rattle.std.specs.List.{AllByRecursion}
use Rattle.std.specs.Io.KnownBytes.{Appends}
use Rattle.puffin_frames.specs.Packet.Stored.{PacketFields}
use Rattle.puffin_frames.specs.Packet.Grammar.{IsPacked}
use Rattle.puffin_view.specs.View.ViewedFrames.{fields_of}
use Rattle.puffin_view.specs.View.Listings.{all_left}
use Rattle.puffin_view.specs.View.Known.{view_of}
use Rattle.puffin_view.specs.View.File.{file_of, fields_in, first_with}
use Rattle.puffin_view.proofs.profile_view.frame_view.FrameView.write_frames.Given as goal

-- the file of the frames so far is written, and the others are left, the first of them with the details, if it is the first of
-- all
abbrev pub invariant-frames : goal.invariant-frames
invariant-frames g l =
    (done : List PacketFields) × (first_with (option_map (λ c. c.now) l.fn.scopes) (fields_in (view_of l.fn.self))
    ≡ done ++ first_with (option_map (λ c. c.now) l.first) (map fields_of (all_left l.frame-iterator)))
    × Appends (g.D.Drain.contents l.fn.drain) (g.D.Drain.contents l.drain) (file_of done)
    × AllByRecursion IsPacked done × (g.D.Drain.failures l.drain ≡ g.D.Drain.failures l.fn.drain)

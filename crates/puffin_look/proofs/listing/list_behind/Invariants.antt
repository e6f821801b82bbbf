-- The frames so far were read and listed, and their text was written.
use Rattle.std.proofs.Common.{◌≡◌, ℕ, List, [], length, Option}
use Rattle.puffin_frames.specs.Packet.Stored.{Stored}
use Rattle.puffin_view.specs.View.FrameFile.{HasGiven}
use Rattle.puffin_look.proofs.Listed.{IsListing}
use Rattle.puffin_look.proofs.listing.list_behind.Given as goal

abbrev pub invariant-frames : goal.invariant-frames
invariant-frames g l = record {
  stored : List Stored;
  more : List ℕ;
  listing : (unread : Option (List ℕ)) → HasGiven unread (g.S.Source.remaining l.fn.source) []
      → IsListing g.L.Listing.text g.L.Listing.takes l.indices l.fn.listing l.listing unread (g.S.Source.remaining l.source)
      (g.D.Drain.contents l.fn.drain) (g.D.Drain.contents l.drain) stored more;
  count : length stored ≡ l.counter;
  reads : g.S.Source.failures l.source ≡ g.S.Source.failures l.fn.source;
  writes : g.D.Drain.failures l.drain ≡ g.D.Drain.failures l.fn.drain;
}

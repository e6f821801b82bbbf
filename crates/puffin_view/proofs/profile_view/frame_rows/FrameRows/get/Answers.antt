-- A frame is found in the row or, if the row has none with this index, in the map.
use Rattle.std.proofs.Common.{◌<◌, arith, length, sym, ◌∙◌}
use Rattle.std.specs.VecDeque.{deque_len}
use Rattle.puffin_view.specs.inner.Held.{keyed}
use Rattle.puffin_view.proofs.Rows.{at, rest_sorted, lookup-first}
use Rattle.puffin_view.proofs.RowPlaces.{got_at}
use Rattle.puffin_view.proofs.profile_view.frame_rows.FrameRows.get.Goals as goal

pub place_in-requires : goal.place_in-requires
place_in-requires c =
    rest_sorted c.args.self.now.older.entries (keyed c.args.self.now.newest.items) c.args.self.now.in_order

pub returns-in-Some : goal.returns-in-Some
returns-in-Some c =
    let s = c.args.self.now in
    let found = c.in-Some.ensures.found in
    let within : c.in-Some.at < deque_len s.newest = let low : c.in-Some.at < length s.newest.items = found.0 in
    omega arith in
    got_at s.older.entries s.newest.items c.args.index c.in-Some.at found s.in_order c.get.result
    (c.get.ensures.variant.1 within) c.get.ensures.lookup

pub returns-in-None : goal.returns-in-None
returns-in-None c =
    let s = c.args.self.now in
    c.get-in-None.ensures.value
    ∙ sym (lookup-first (at c.args.index) s.older.entries (keyed s.newest.items) c.in-None.ensures.none)

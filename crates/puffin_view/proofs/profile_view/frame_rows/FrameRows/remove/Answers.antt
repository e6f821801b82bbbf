-- The frame is removed from the row or, if the row has none with its index, from the map. What is left stays in order.
use Rattle.std.proofs.Common.{◌<◌, ◌++◌, arith, length, sym, ap, ◌∙◌}
use Rattle.std.specs.VecDeque.{deque_len}
use Rattle.puffin_view.specs.inner.Held.{keyed}
use Rattle.puffin_view.specs.inner.Rows.{rows_of}
use Rattle.puffin_view.proofs.Rows.{at, rest_sorted, lookup-first, remove-first, sorted-removed}
use Rattle.puffin_view.proofs.RowPlaces.{taken_at, rest_at}
use Rattle.puffin_view.proofs.profile_view.frame_rows.FrameRows.remove.Goals as goal

pub place_in-requires : goal.place_in-requires
place_in-requires c =
    rest_sorted c.args.self.now.older.entries (keyed c.args.self.now.newest.items) c.args.self.now.in_order

pub returns-in-Some-clause-value : goal.returns-in-Some-clause-value
returns-in-Some-clause-value c =
    let s = c.args.self.now in
    let found = c.in-Some.ensures.found in
    let within : c.in-Some.at < deque_len s.newest = let low : c.in-Some.at < length s.newest.items = found.0 in
    omega arith in
    taken_at s.older.entries s.newest.items c.args.index c.in-Some.at found s.in_order c.remove.result
    (c.remove.ensures.variant.1 within) c.remove.ensures.value

pub returns-in-Some-clause-entries : goal.returns-in-Some-clause-entries
returns-in-Some-clause-entries c =
    let s = c.args.self.now in
    let found = c.in-Some.ensures.found in
    let within : c.in-Some.at < deque_len s.newest = let low : c.in-Some.at < length s.newest.items = found.0 in
    omega arith in
    rest_at s.older.entries s.newest.items c.remove.new.self.items c.args.index c.in-Some.at found s.in_order
    c.remove.result (c.remove.ensures.variant.1 within) c.remove.ensures.items

pub returns-in-None-clause-value : goal.returns-in-None-clause-value
returns-in-None-clause-value c =
    let s = c.args.self.now in
    c.remove-in-None.ensures.value
    ∙ sym (lookup-first (at c.args.index) s.older.entries (keyed s.newest.items) c.in-None.ensures.none)

pub returns-in-None-clause-entries : goal.returns-in-None-clause-entries
returns-in-None-clause-entries c =
    let s = c.args.self.now in
    ap (λ es. es ++ keyed s.newest.items) c.remove-in-None.ensures.entries
    ∙ sym (remove-first (at c.args.index) s.older.entries (keyed s.newest.items) c.in-None.ensures.none)

pub invariant_of-self : goal.invariant_of-self
invariant_of-self c =
    let s = c.args.self.now in
    let found = c.in-Some.ensures.found in
    let within : c.in-Some.at < deque_len s.newest = let low : c.in-Some.at < length s.newest.items = found.0 in
    omega arith in
    let without = rest_at s.older.entries s.newest.items c.remove.new.self.items c.args.index c.in-Some.at found
    s.in_order c.remove.result (c.remove.ensures.variant.1 within) c.remove.ensures.items in
    record { in_order = sorted-removed (at c.args.index) (rows_of s) _ without s.in_order }

pub invariant_of-self-in-None : goal.invariant_of-self-in-None
invariant_of-self-in-None c =
    let s = c.args.self.now in
    let without = ap (λ es. es ++ keyed s.newest.items) c.remove-in-None.ensures.entries
    ∙ sym (remove-first (at c.args.index) s.older.entries (keyed s.newest.items) c.in-None.ensures.none) in
    record { in_order = sorted-removed (at c.args.index) (rows_of s) _ without s.in_order }

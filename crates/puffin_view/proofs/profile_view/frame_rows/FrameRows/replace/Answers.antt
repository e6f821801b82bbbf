-- The frame is replaced in the row or, if the row has none with its index, in the map. The indices stay, and so does their
-- order.
use Rattle.std.proofs.Common.{◌≡◌, ◌++◌, sym, ap, ◌∙◌, Some, refl, subst}
use Rattle.std.specs.Prelude.{IsSome}
use Rattle.std.specs.Map.{lookup}
use Rattle.std.specs.Ordering.{nat_cmp}
use Rattle.std.specs.BTreeMap.{insert_entry}
use Rattle.std.specs.List.{slice_set}
use Rattle.std.proofs.lemmas.List.{set_split}
use Rattle.puffin_view.specs.View.ViewedFrames.{index_of}
use Rattle.puffin_view.specs.View.FrameOf.{frame_of, shared_frame}
use Rattle.puffin_view.specs.inner.Held.{keyed}
use Rattle.puffin_view.specs.inner.Rows.{rows_of}
use Rattle.puffin_view.proofs.Rows.{at, rest_sorted, lookup-first, insert-first, no_some, sorted-inserted}
use Rattle.puffin_view.proofs.RowPlaces.{found_at, replaced_at, sorted-replaced}
use Rattle.puffin_view.proofs.profile_view.frame_rows.FrameRows.replace.Goals as goal

pub place_in-requires : goal.place_in-requires
place_in-requires c =
    rest_sorted c.args.self.now.older.entries (keyed c.args.self.now.newest.items) c.args.self.now.in_order

pub unreachable-requires : goal.unreachable-requires
unreachable-requires c =
    let s = c.args.self.now in
    let index : c.frame_index-index.result ≡ index_of (shared_frame c.args.frame) =
    c.frame_index-index.ensures ∙ ap (λ f. index_of (frame_of f)) c.deref.ensures in
    no_some (lookup (at (index_of (shared_frame c.args.frame))) (rows_of s))
    (ap (λ k. lookup (at k) (rows_of s)) (sym index) ∙ lookup-first (at c.frame_index-index.result) s.older.entries
    (keyed s.newest.items) c.in-None.ensures.none ∙ c.in-Err.ensures.absent) c.requires

pub returns-in-Some-clause-old : goal.returns-in-Some-clause-old
returns-in-Some-clause-old c =
    let s = c.args.self.now in
    let found = c.in-Some.ensures.found in
    let index : c.frame_index-index.result ≡ index_of (shared_frame c.args.frame) =
    c.frame_index-index.ensures ∙ ap (λ f. index_of (frame_of f)) c.deref.ensures in
    ap Some (c.replace.ensures.value ∙ c.index_mut.ensures.value)
    ∙ sym (found_at s.older.entries s.newest.items (index_of (shared_frame c.args.frame)) c.in-Some.at
    c.index_mut.result.now found.0 (found.1 c.index_mut.result.now ∙ index) s.in_order)

pub returns-in-Some-clause-entries : goal.returns-in-Some-clause-entries
returns-in-Some-clause-entries c =
    let s = c.args.self.now in
    let found = c.in-Some.ensures.found in
    let index : c.frame_index-index.result ≡ index_of (shared_frame c.args.frame) =
    c.frame_index-index.ensures ∙ ap (λ f. index_of (frame_of f)) c.deref.ensures in
    ap (λ row. s.older.entries ++ keyed row) (ap (slice_set s.newest.items c.in-Some.at) c.replace.ensures.after
    ∙ set_split s.newest.items c.in-Some.at c.args.frame found.0)
    ∙ replaced_at s.older.entries s.newest.items (index_of (shared_frame c.args.frame)) c.in-Some.at c.args.frame
    found.0 (found.1 c.args.frame ∙ index) s.in_order c.args.frame refl

pub returns-in-Ok-clause-old : goal.returns-in-Ok-clause-old
returns-in-Ok-clause-old c =
    let s = c.args.self.now in
    let index : c.frame_index-index.result ≡ index_of (shared_frame c.args.frame) =
    c.frame_index-index.ensures ∙ ap (λ f. index_of (frame_of f)) c.deref.ensures in
    c.in-Ok.ensures.old ∙ sym
    (lookup-first (at c.frame_index-index.result) s.older.entries (keyed s.newest.items) c.in-None.ensures.none)
    ∙ ap (λ k. lookup (at k) (rows_of s)) index

pub returns-in-Ok-clause-entries : goal.returns-in-Ok-clause-entries
returns-in-Ok-clause-entries c =
    let s = c.args.self.now in
    let k = c.frame_index-index.result in
    let index : k ≡ index_of (shared_frame c.args.frame) =
    c.frame_index-index.ensures ∙ ap (λ f. index_of (frame_of f)) c.deref.ensures in
    let first = lookup-first (at k) s.older.entries (keyed s.newest.items) c.in-None.ensures.none in
    let there : IsSome (lookup (at k) s.older.entries) =
    subst IsSome (ap (λ j. lookup (at j) (rows_of s)) (sym index) ∙ first) c.requires in
    ap (λ es. es ++ keyed s.newest.items) c.in-Ok.ensures.entries
    ∙ sym (insert-first k c.args.frame s.older.entries (keyed s.newest.items) there)
    ∙ ap (λ j. insert_entry nat_cmp (rows_of s) j c.args.frame) index

pub invariant_of-self : goal.invariant_of-self
invariant_of-self c =
    let s = c.args.self.now in
    let found = c.in-Some.ensures.found in
    let index : c.frame_index-index.result ≡ index_of (shared_frame c.args.frame) =
    c.frame_index-index.ensures ∙ ap (λ f. index_of (frame_of f)) c.deref.ensures in
    let put = ap (λ row. s.older.entries ++ keyed row) (ap (slice_set s.newest.items c.in-Some.at)
    c.replace.ensures.after ∙ set_split s.newest.items c.in-Some.at c.args.frame found.0)
    ∙ replaced_at s.older.entries s.newest.items (index_of (shared_frame c.args.frame)) c.in-Some.at c.args.frame
    found.0 (found.1 c.args.frame ∙ index) s.in_order c.args.frame refl in
    record {
      in_order = sorted-inserted (index_of (shared_frame c.args.frame)) c.args.frame (rows_of s) _ put
          s.in_order;
    }

pub invariant_of-self-in-None : goal.invariant_of-self-in-None
invariant_of-self-in-None c =
    let s = c.args.self.now in
    let k = c.frame_index-index.result in
    let index : k ≡ index_of (shared_frame c.args.frame) =
    c.frame_index-index.ensures ∙ ap (λ f. index_of (frame_of f)) c.deref.ensures in
    let there : IsSome (lookup (at k) s.older.entries) = subst IsSome (ap (λ j. lookup (at j) (rows_of s)) (sym index)
    ∙ lookup-first (at k) s.older.entries (keyed s.newest.items) c.in-None.ensures.none) c.requires in
    record {
      in_order = sorted-replaced s.older.entries c.insert.new.self.entries s.newest.items k c.args.frame
          c.insert.result c.insert.ensures.entries c.insert.ensures.err there s.in_order;
    }

-- Both guesses and the search look at the frame at their place; the search fails only if no frame has the index.
use Rattle.std.proofs.Common.{arith, rules, of_calls}
use Rattle.std.proofs.lemmas.Fn.{always_returns_same}
use Rattle.puffin_view.specs.View.ViewedFrames.{index_of}
use Rattle.puffin_view.specs.View.FrameOf.{shared_frame}
use Rattle.puffin_view.proofs.RowPlaces.{some_found, none_found}
use Rattle.puffin_view.proofs.profile_view.frame_rows.place_in.Goals as goal

pub returns-in-Ok-clause-found : goal.returns-in-Ok-clause-found
returns-in-Ok-clause-found c =
    let bound = c.in-Ok.ensures.bound in (
      omega arith,
      some_found c.args.row.now.items c.args.index c.in-Ok.at (c.in-Ok.ensures.position
          (λ a. index_of (shared_frame a)) (always_returns_same _ _ _ (λ a r f k. search (rules, of_calls)))),
    )

pub returns-in-Err-clause-none : goal.returns-in-Err-clause-none
returns-in-Err-clause-none c =
    let bound = c.in-Err.ensures.bound in
    none_found c.args.row.now.items c.args.index c.in-Err.field-0 c.requires (c.in-Err.ensures.position (λ a. index_of
    (shared_frame a)) (always_returns_same _ _ _ (λ a r f k. search (rules, of_calls)))) (omega arith)

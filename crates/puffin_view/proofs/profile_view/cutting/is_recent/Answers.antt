-- In sorted indices a search finds an equal one.
use Rattle.std.proofs.Common.{◌≡◌, ◌∙◌, arith, length}
use Rattle.std.specs.VecDeque.{deque_len}
use Rattle.puffin_view.proofs.Searching.{searched_index}
use Rattle.puffin_view.proofs.profile_view.cutting.is_recent.Goals as goal

pub returns : goal.returns
returns c =
    let as_many : deque_len c.args.recent.now ≡ length c.args.recent.now.items = omega arith in
    c.is_ok.ensures.value ∙ searched_index c.args.recent.now.items c.args.index (deque_len c.args.recent.now)
    c.binary_search.result as_many c.requires c.binary_search.ensures.bound c.binary_search.ensures.position

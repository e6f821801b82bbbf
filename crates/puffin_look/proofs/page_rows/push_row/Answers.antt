-- The scope's parts, one after the other.
--
-- A time that fits `i64` is the one that its 64 bits stand for (`to_z-of_z`).
use Rattle.std.proofs.Common.{List, ℕ, ◌++◌, codes, ap, ◌∙◌, w64}
use Rattle.json.specs.Print.{quoted}
use Rattle.std.proofs.lemmas.Int.{to_z-of_z}
use Rattle.std.proofs.lemmas.Result.{on_ok_weaker}
use Rattle.puffin_data.specs.Walk.FoundScopes.{found_of}
use Rattle.puffin_look.specs.Page.{times_json}
use Rattle.puffin_look.proofs.Pushed.{pushed5, appended_if}
use Rattle.puffin_look.proofs.page_rows.push_row.Goals as goal

pub returns : goal.returns
returns c =
    let begin = to_z-of_z w64 c.args.begin c.ranges.begin in
    let times = c.in_ok-push_times.ensures
    ∙ (λ i. c.push_count-2.new.text.items ++ times_json (begin i) (found_of c.args.scope.now).span) in
    let text = c.in_ok-push_member.ensures
    ∙ ap (λ (t : List ℕ). c.push_times.new.text.items ++ (codes "," ++ quoted t)) c.text_of.ensures in
    on_ok_weaker c.extend_from_slice.result
    (pushed5 _ _ _ _ _ _ _ _ _ _ _ c.in_ok-push_count.ensures c.in_ok-push_count-2.ensures times text)
    (appended_if c.extend_from_slice.result c.extend_from_slice.new.self.items c.push_member.new.text.items
    (codes "]") c.extend_from_slice.ensures.items)

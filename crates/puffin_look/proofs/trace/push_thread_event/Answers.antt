-- The event's parts, one after the other.
use Rattle.std.proofs.Common.{List, ℕ, ◌++◌, codes, ap, ◌∙◌}
use Rattle.std.proofs.lemmas.Result.{on_ok_weaker}
use Rattle.json.specs.Print.{quoted}
use Rattle.puffin_look.proofs.Pushed.{pushed4, appended_if}
use Rattle.puffin_look.proofs.trace.push_thread_event.Goals as goal

pub returns : goal.returns
returns c =
    let name = c.in_ok-push_member.ensures
    ∙ ap (λ (t : List ℕ). c.push_count.new.text.items ++ (codes ",\"name\":\"thread_name\",\"args\":{\"name\":" ++ quoted t))
    c.as_str.ensures.value in
    on_ok_weaker c.extend_from_slice.result (pushed4 _ _ _ _ _ _ _ _ _ c.in_ok-push_count.ensures name c.in_ok-push_start_member.ensures)
    (appended_if c.extend_from_slice.result c.extend_from_slice.new.self.items c.push_start_member.new.text.items
    (codes "\"}}") c.extend_from_slice.ensures.items)

-- The event's labels, one after the other.
use Rattle.std.proofs.Common.{List, ℕ, ◌++◌, codes, ap, ◌∙◌}
use Rattle.std.proofs.lemmas.Result.{on_ok_weaker}
use Rattle.json.specs.Print.{quoted}
use Rattle.puffin_look.proofs.Pushed.{pushed3}
use Rattle.puffin_look.proofs.events.push_labels.Goals as goal

pub returns : goal.returns
returns c =
    let member = c.in_ok-push_member.ensures
    ∙ ap (λ (t : List ℕ). c.push_name_member.new.text.items ++ (codes ",\"args\":{\"text\":" ++ quoted t))
    c.text_of.ensures in
    on_ok_weaker c.push_place.result (pushed3 _ _ _ _ _ _ _ c.in_ok-push_name_member.ensures member) c.push_place.ensures

-- The parts of the details, one after the other.
use Rattle.std.proofs.Common.{rules, ◌≡◌, List, ℕ, ◌++◌, codes, ap, ◌∙◌, Option}
use Rattle.json.specs.Print.{quoted}
use Rattle.std.proofs.lemmas.Result.{on_ok_weaker}
use Rattle.puffin_threads.specs.Details.{details_of, name_of}
use Rattle.puffin_look.specs.Page.{id_json}
use Rattle.puffin_look.proofs.Pushed.{appended_if}
use Rattle.puffin_look.proofs.PagesMade.{pushed6}
use Rattle.puffin_look.proofs.page.push_details.Goals as goal

pub returns : goal.returns
returns c =
    let d = details_of c.args.details.now in
    let id = c.in_ok-push_id.ensures ∙ ap (λ (id : Option ℕ). c.extend_from_slice.new.self.items ++ id_json id) c.scope_id.ensures in
    let name : c.as_str.result.now ≡ name_of d = search rules in
    let file : c.as_str-2.result.now ≡ d.file_path = search rules in
    let named = c.in_ok-push_member.ensures ∙ ap (λ (t : List ℕ). c.push_id.new.text.items ++ (codes "," ++ quoted t)) name in
    let placed = c.in_ok-push_member-2.ensures ∙ ap (λ (t : List ℕ). c.push_member.new.text.items ++ (codes "," ++ quoted t)) file in
    on_ok_weaker c.extend_from_slice-2.result
    (pushed6 _ _ _ _ _ _ _ _ _ _ _ _ _ c.in_ok-extend_from_slice.ensures.items id named placed c.in_ok-push_count.ensures)
    (appended_if c.extend_from_slice-2.result c.extend_from_slice-2.new.self.items c.push_count.new.text.items
    (codes "]") c.extend_from_slice-2.ensures.items)

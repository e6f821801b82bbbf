-- A known name keeps its number and its thread's form, and a new one gets the next number.
use Rattle.std.proofs.Common.{◌≡◌, length, vec_len, rules, sym, ◌∙◌}
use Rattle.std.proofs.lemmas.List.{length-map}
use Rattle.std.proofs.lemmas.Map.Text.{btree_map_updates_str}
use Rattle.puffin_replay.specs.inner.ScriptReading.{names_in}
use Rattle.puffin_replay.proofs.Scripts.{known_name, known_form, new_form, numbered_more, named_more, new_name, place_of_new, there, absent}
use Rattle.puffin_replay.proofs.replay.script.Threads.number.Goals as goal

pub returns-in-Some : goal.returns-in-Some
returns-in-Some c = λ numbered.
    let here = there (names_in c.args.self.now) c.args.name.now _ _ c.in-Some.ensures.value (numbered c.args.name.now) in
    (numbered, known_name _ _ _ here, known_form _ _ _ _ _ here, here)

pub returns : goal.returns
returns c = λ numbered.
    let names = names_in c.args.self.now in
    let name = c.args.name.now in
    let unknown = absent names name _ c.in_default.ensures.value (numbered name) in
    let more = named_more _ _ _ name c.in_ok-push.ensures.items c.in_ok-from_str.ensures.ok in
    let size : vec_len c.args.self.now.names ≡ length c.args.self.now.names.items = search rules in
    let next : c.len-number.result ≡ length names = c.len-number.ensures ∙ size ∙ sym (length-map _ _) in (
      λ q. numbered_more names _ name q c.len-number.result _ _ more next (numbered q)
          (btree_map_updates_str name c.args.self.now.numbers c.insert.new.self _ c.in_ok-insert.ensures.updates q),
      more ∙ new_name names name unknown,
      c.in_ok-push-2.ensures.items ∙ new_form names _ name c.args.form unknown,
      place_of_new names _ name _ more next,
    )

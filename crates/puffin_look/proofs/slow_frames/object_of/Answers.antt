-- The tokens that were written begin the object.
use Rattle.std.proofs.Common.{[], ◌∷◌, ◌++◌, codes, ap, ◌∙◌}
use Rattle.std.specs.List.{flat_map}
use Rattle.json.specs.Print.{print}
use Rattle.json.specs.Token.{begin_object, begin_array, key}
use Rattle.puffin_look.specs.Cells.{Cell}
use Rattle.std.specs.Prelude.{List}
use Rattle.puffin_look.specs.Objects.{member_tokens}
use Rattle.puffin_look.proofs.ObjectsMade.{array_opened}
use Rattle.puffin_look.proofs.slow_frames.object_of.Goals as goal

pub returns : goal.returns
returns c =
    array_opened _ c.new-writer.result c.begin_object.new.self c.push_members.new.writer c.key.new.self c.begin_array.new.self
    _ _ (c.new-writer.ensures.before ∙ c.new.ensures.items) c.new-writer.ensures.tokens c.begin_object.ensures.room.0
    c.in_ok-begin_object.ensures.ok c.in_ok-push_members.ensures
    c.key.ensures.room.0 c.in_ok-key.ensures.ok c.begin_array.ensures.room.0 c.in_ok-begin_array.ensures.ok c.into_inner.ensures.items
    ∙ ap (λ (cs : List Cell). print (begin_object ∷ (flat_map member_tokens cs ++ key (codes "path") ∷ begin_array ∷ [])))
    c.cells_of.ensures

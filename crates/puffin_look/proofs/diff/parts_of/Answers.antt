-- What one more row has is under its name.
use Rattle.std.proofs.Common.{◌≡◌, List, get_or, ap, ◌∙◌, ◌∷◌, [], ◌++◌, take, subst, sym, arith}
use Rattle.std.proofs.lemmas.List.{take_more}
use Rattle.puffin_look.specs.inner.Diffs.{HasParts}
use Rattle.puffin_look.specs.declared.top.TopRow.{TopRow}
use Rattle.puffin_look.specs.declared.diff.PerFrame.{PerFrame}
use Rattle.puffin_look.proofs.StackRows.{Key}
use Rattle.puffin_look.proofs.PartsHeld.{parts_more}
use Rattle.puffin_look.proofs.diff.parts_of.Goals as goal

pub loop-row-preserved : goal.loop-row-preserved
loop-row-preserved c =
    let rows = c.args.top.now.rows.items in
    let frames = c.args.top.now.frames in
    let name = c.in_ok-name.ensures.items ∙ c.deref.ensures.value in
    let item : get_or rows c.loop-row.row-index c.row-item.result
    ≡ c.row-item.result = ap (λ (rs : List TopRow). get_or rs c.loop-row.row-index c.row-item.result)
    (sym c.deref-row-items.ensures.value) ∙ sym c.row-item.is in
    let more = parts_more frames
    (take c.loop-row.row-index rows) c.row-item.result c.loop-row.parts.entries c.in_ok-name.name c.new.result
    c.loop-row.invariant name c.new.ensures in
    subst (λ (done : List TopRow). HasParts frames done c.insert.new.self.entries)
    (sym (take_more rows c.loop-row.row-index c.row-item.result
    (omega (arith, c.loop-row-test.true, c.deref-row-items.ensures.len))
    ∙ ap (λ (r : TopRow). take c.loop-row.row-index rows ++ r ∷ []) item))
    (subst (λ (es : List (Key × PerFrame)). HasParts frames (take c.loop-row.row-index rows ++ c.row-item.result ∷ []) es)
    (sym c.in_ok-insert.ensures.entries) more)

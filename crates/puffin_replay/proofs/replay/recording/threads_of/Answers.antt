-- Each turn adds a name with the form at its place.
use Rattle.std.proofs.Common.{◌≡◌, ◌+◌, ◌<◌, ℕ, List, [], ◌∷◌, ◌++◌, length, map, take, get_or, String, Global, sym, ap, ◌∙◌, arith}
use Rattle.std.specs.String.{string_bytes}
use Rattle.std.proofs.lemmas.List.{take_more, map-append, length-map, length-take-le}
use Rattle.puffin_data.specs.declared.data.form.Form.{Form}
use Rattle.puffin_data.specs.declared.data.form.Form.TheVariants.{Short}
use Rattle.puffin_replay.specs.Script.{with_forms}
use Rattle.puffin_replay.proofs.Scripts.{with_forms-more}
use Rattle.puffin_replay.proofs.replay.recording.threads_of.Goals as goal

pub names-preserved : goal.names-preserved
names-preserved c =
    let i = c.names.index in
    let items = c.deref-name-items.result.now in
    let forms = c.args.script.now.forms.items in
    let name = c.name-item.result in
    let before : List (List ℕ) = map string_bytes (take i items) in
    let within : i < length items = c.names-test.true in
    let more : take (i + 1) items ≡ take i items ++ (name ∷ []) =
    take_more items i name (omega (arith, within))
    ∙ ap (λ (x : String Global). take i items ++ (x ∷ [])) (sym c.name-item.is) in
    let named : map string_bytes (take (i + 1) items) ≡ before ++ (string_bytes name ∷ []) =
    ap (map string_bytes) more ∙ map-append string_bytes (take i items) (name ∷ []) in
    let place : length before ≡ i = length-map _ _ ∙ length-take-le i items (omega (arith, within)) in
    let form : c.form_at.result ≡ get_or forms (length before) Short =
    c.form_at.ensures
    ∙ ap (λ (fs : List Form). get_or fs i Short) c.deref.ensures.value
    ∙ ap (λ (k : ℕ). get_or forms k Short) (sym place) in
    ap (map (λ t. (string_bytes t.0, t.1))) c.in_ok-push.ensures.items
    ∙ map-append (λ t. (string_bytes t.0, t.1)) c.names.threads.items _
    ∙ (λ k. c.names.invariant k ++ ((c.in_ok-clone.ensures.cases k, form k) ∷ []))
    ∙ sym (with_forms-more before forms (string_bytes name))
    ∙ ap (λ (ns : List (List ℕ)). with_forms ns forms) (sym named)

-- All that code on a new thread told.
use Rattle.std.proofs.Common.{◌≡◌, ℕ, ◌++◌, List, [], ◌∷◌, Option, None, Bool, Result, ℤ, refl, sym, ap, ◌∙◌}
use Rattle.std.proofs.Common.{subst}
use Rattle.std.proofs.lemmas.List.{append-nil}
use Rattle.puffin_data.specs.declared.error.Error.{Error}
use Rattle.puffin_data.specs.declared.data.form.Form.{Form}
use Rattle.puffin_data.specs.Forest.{Forest, empty, append}
use Rattle.puffin_data.specs.Forest.Tour.{Event, tour}
use Rattle.puffin_data.specs.Forest.Words.{open_after}
use Rattle.puffin_data.specs.Honesty.{StreamFacts}
use Rattle.puffin_data.proofs.lemmas.Tours.{tour-append, one_tour}
use Rattle.puffin_threads.specs.Thread.Calls as calls
use Rattle.puffin_threads.specs.Thread.Calls.{new_thread}
use Rattle.puffin_threads.specs.Thread.Closing.{Reports}
use Rattle.puffin.specs.Telling.{AllFit}
use Rattle.puffin.specs.Recounted.{SpellInTurn}
use Rattle.puffin.proofs.Telling.{Stage, TellEvents, Passes, Adds, Accepts, Refuses, under, passes_both, reports_pass}
use Rattle.puffin.proofs.Telling.{reports_stay}

-- What a thread of this name told since it was new, and what waits on it now, are just these scopes.
pub record ToldScopes (first now : Stage) (name : List ℕ) (scopes : Forest) : Type 0 where
  pub start : Option ℤ
  pub streams : List StreamFacts
  pub told : now.told ≡ first.told ++ under (record { start = start; name = name }) streams
  pub shown : Forest
  pub waits : Forest
  pub spelled : SpellInTurn streams shown
  pub fit : AllFit streams
  pub whole : append shown waits ≡ scopes
  pub word : now.thread.word ≡ tour waits

-- streams that tell events spell a forest with just these events
told_forest : (streams : List StreamFacts) (events : List Event) → TellEvents streams events
    → (forest : Forest) × (SpellInTurn streams forest × AllFit streams) × (events ≡ tour forest)
told_forest [] events none = (empty, (refl, tt), none)
told_forest (stream ∷ streams) events (first, later, honest, fit, told, is) =
    let (rest, (spelled, fits), events_are) = told_forest streams later told in (
      append first rest,
      ((first, rest, honest, spelled, refl), (fit, fits)),
      is ∙ ap (λ (w : List Event). tour first ++ w) events_are ∙ sym (tour-append first rest),
    )

-- What has passed of a new thread that added these scopes: what was told and what waits are just these.
pub told_passed : (first now : Stage) (scopes : Forest) (name : List ℕ) (form : Form) → first.thread ≡ new_thread name form
    → now.thread.name ≡ name → Passes first now (tour scopes)
    → ToldScopes first now name scopes
told_passed first now scopes name form is_new its_name all =
    let nothing : first.thread.word ≡ [] = ap (λ (t : calls.Thread). t.word) is_new in
    let spelled = told_forest all.streams all.reported all.spelled in
    let rest = all.balanced (empty, nothing) in
    let whole : tour (append spelled.0 rest.0) ≡ tour scopes =
    tour-append spelled.0 rest.0
    ∙ ap (λ (w : List Event). w ++ tour rest.0) (sym spelled.2)
    ∙ ap (λ (w : List Event). all.reported ++ w) (sym rest.1)
    ∙ all.kept
    ∙ ap (λ (w : List Event). w ++ tour scopes) nothing in
    record {
      start = now.thread.first_start;
      streams = all.streams;
      told = all.told
          ∙ ap (λ (x : List ℕ). first.told ++ under (record { start = now.thread.first_start; name = x }) all.streams) its_name;
      shown = spelled.0;
      waits = rest.0;
      spelled = spelled.1.0;
      fit = spelled.1.1;
      whole = one_tour (append spelled.0 rest.0) scopes whole;
      word = rest.1;
    }

-- Code added these scopes to a new thread, and then what waited was reported, or not. What was told and what waits are just these.
pub told_all : (first added now : Stage) (scopes : Forest) (name : List ℕ) (form : Form) (result : Result Bool Error)
    → first.thread ≡ new_thread name form → Adds first added scopes
    → Reports Accepts Refuses added.thread now.thread added.told now.told result
    → ToldScopes first now name scopes
told_all first added now scopes name form result is_new adds reports =
    let nothing : first.thread.word ≡ [] = ap (λ (t : calls.Thread). t.word) is_new in
    let passed = adds.passed (ap (open_after 0) nothing) in
    let stay = reports_stay added.thread now.thread added.told now.told result reports in
    let begun : now.thread.first_start ≡ None → added.thread.word ≡ [] =
    λ none. nothing_waits passed (sym stay.1 ∙ none) (adds.none (sym stay.1 ∙ none)) nothing in
    let reported = reports_pass added now result begun reports in
    let all = passes_both first added now (tour scopes) [] stay.0 (λ t before. stay.1 ∙ before) passed reported in
    told_passed first now scopes name form is_new (stay.0 ∙ adds.name ∙ ap (λ (t : calls.Thread). t.name) is_new)
    (subst (λ (w : List Event). Passes first now w) (append-nil (tour scopes)) all)
  where
    nothing_waits : (passed : Passes first added (tour scopes)) → added.thread.first_start ≡ None → tour scopes ≡ []
        → first.thread.word ≡ [] → added.thread.word ≡ []
    nothing_waits passed none no_scopes word =
        let none_told : passed.reported ≡ [] =
        subst (λ (rs : List StreamFacts). TellEvents rs passed.reported) (passed.unstarted none) passed.spelled in
        sym (ap (λ (w : List Event). w ++ added.thread.word) none_told)
        ∙ passed.kept
        ∙ ap (λ (w : List Event). w ++ tour scopes) word
        ∙ no_scopes

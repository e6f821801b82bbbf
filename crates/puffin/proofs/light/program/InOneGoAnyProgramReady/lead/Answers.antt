-- What a leader's thread tells is the code that its program states.
use Rattle.std.proofs.Common.{ℕ, List, refl, string_bytes, ap, subst, ◌∙◌}
use Rattle.puffin_data.specs.declared.data.form.Form.TheVariants.{Short}
use Rattle.puffin.specs.Happenings.{Happening, unmarked, frames_in}
use Rattle.puffin.specs.LightThread.{reporter_of, scopes_of}
use Rattle.puffin.specs.Places.{num_known}
use Rattle.puffin.specs.Telling.{HasLedAs}
use Rattle.puffin.proofs.TellingCode.{keeps_unmarked, has_led_as}
use Rattle.puffin.proofs.light.program.InOneGoAnyProgramReady.lead.Goals as goal

pub returns-clause-tells : goal.returns-clause-tells
returns-clause-tells g c =
    let told = g.P.Meets.told in let accepts = g.P.Reporter.accepts in let refuses = g.P.Reporter.refuses in
    let s = c.start-thread.ensures in let e = c.end-reporter.ensures.reports in let name = string_bytes c.args.thread.name in
    let states = g.W.Program.states c.args.self.now.program.now in let is = g.W.Program.leads c.args.self.now.program.now in
    let after = told c.end-reporter.result.1 in let waiting = c.end-reporter.result.0.unreported in
    subst (λ (known : ℕ). HasLedAs states is name Short known (told c.args.reporter) after waiting) (ap num_known s.scopes)
    (subst (λ (before : List Happening). HasLedAs states is name Short
    (num_known (scopes_of c.start-thread.result)) before after waiting) (ap told s.reporter)
    (has_led_as g.C.NsSource.answers accepts refuses (λ r. unmarked (told r))
    (keeps_unmarked accepts refuses told g.met.P.Meets.keeps) states is c.start-thread.result c.lead.new.thread e.1
    c.end-reporter.result.1 name Short e.0 waiting
    (told (reporter_of c.start-thread.result)) after s.thread c.lead.ensures.runs e.2 e.3 refl refl))

pub returns-clause-takes : goal.returns-clause-takes
returns-clause-takes g c none =
    let is = g.met.F.Gathers.taken_is in
    subst (g.W.Program.takes c.args.self.now.program.now) (is c.lead.new.frames)
    (c.lead.ensures.takes (is c.args.frames.now ∙ ap frames_in none))

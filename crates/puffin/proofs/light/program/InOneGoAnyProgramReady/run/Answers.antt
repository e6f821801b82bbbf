-- What a thread tells is the code that its program states.
use Rattle.std.proofs.Common.{ℕ, List, refl, string_bytes, ap, sym, subst}
use Rattle.puffin_data.specs.declared.data.form.Form.TheVariants.{Short}
use Rattle.puffin.specs.Happenings.{Happening, unmarked}
use Rattle.puffin.specs.LightThread.{reporter_of, scopes_of}
use Rattle.puffin.specs.Places.{num_known}
use Rattle.puffin.specs.Telling.{HasRunAs}
use Rattle.puffin.proofs.TellingCode.{keeps_unmarked, has_run_as}
use Rattle.puffin.proofs.light.program.InOneGoAnyProgramReady.run.Goals as goal

pub returns : goal.returns
returns g c =
    let told = g.P.Meets.told in let accepts = g.P.Reporter.accepts in let refuses = g.P.Reporter.refuses in
    let s = c.start-thread.ensures in let e = c.end-reporter.ensures.reports in let name = string_bytes c.args.thread.name in
    let states = g.W.Program.states c.args.self.now.program.now in
    let is = g.W.Program.runs c.args.self.now.program.now c.args.number in
    let r = c.work-result.result in let after = told c.end-reporter.result.1 in let waiting = c.end-reporter.result.0.unreported in
    subst (λ ended. HasRunAs states is name Short (num_known c.args.thread.scopes) ended (told c.args.reporter) after waiting)
    (sym c.end-reporter.ensures.returned)
    (subst (λ (known : ℕ). HasRunAs states is name Short known r (told c.args.reporter) after waiting) (ap num_known s.scopes)
    (subst (λ (before : List Happening). HasRunAs states is name Short
    (num_known (scopes_of c.start-thread.result)) r before after waiting) (ap told s.reporter)
    (has_run_as g.C.NsSource.answers accepts refuses (λ r. unmarked (told r))
    (keeps_unmarked accepts refuses told g.met.P.Meets.keeps) states is c.start-thread.result c.work-result.new.thread e.1
    c.end-reporter.result.1 name Short r e.0 waiting
    (told (reporter_of c.start-thread.result)) after s.thread c.work-result.ensures e.2 e.3 refl refl)))

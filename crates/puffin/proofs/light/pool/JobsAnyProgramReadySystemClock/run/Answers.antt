-- Each job is one more that ran.
use Rattle.std.proofs.Common.{◌≡◌, ℕ, true, List, string_bytes, refl, ap, sym, subst, ◌∙◌}
use Rattle.std.specs.Prelude.{not, IfSome}
use Rattle.puffin_data.specs.declared.data.form.Form.TheVariants.{Short}
use Rattle.puffin.specs.Happenings.{Happening, unmarked}
use Rattle.puffin.specs.LightThread.{reporter_of, scopes_of}
use Rattle.puffin.specs.Places.{num_known}
use Rattle.puffin.specs.Telling.{HasRunAs, HaveRunAs, Named}
use Rattle.puffin.proofs.TellingCode.{keeps_unmarked, has_run_as}
use Rattle.puffin.proofs.TellingJobs.{none_run, job_run, scopes_stay, unless_failed}
use Rattle.puffin.proofs.light.pool.JobsAnyProgramReadySystemClock.run.Goals as goal

pub loop-init : goal.loop-init
loop-init g c =
    let W = g.W.Pool in let pool = c.args.self.now.pool.now in let is = Named (W.names pool) (W.runs pool) in
    let known = num_known c.args.thread.scopes in
    record {
      known = λ stated. refl;
      ran = let told = g.P.Meets.told in subst
          (λ (n : ℕ). HaveRunAs (W.states pool) is known (told c.args.reporter) (told c.args.reporter) n)
          (sym (ap (λ e. e.unreported) c.of_nothing-ended.ensures))
          (none_run is known (W.states pool) (told c.args.reporter));
    }

pub returns-in-Ok-None : goal.returns-in-Ok-None
returns-in-Ok-None g c = unless_failed c.loop.ended.result c.loop.invariant.ran

pub loop-preserved : goal.loop-preserved
loop-preserved g c =
    let W = g.W.Pool in let pool = c.args.self.now.pool.now in let is = Named (W.names pool) (W.runs pool) in
    let next = c.in-Ok-Some.next in let name = string_bytes next.0 in let its = W.runs pool next.1 in
    let s = c.start-thread.ensures in let e = c.end-back.ensures.reports in let r = c.work-result.result in
    let known = num_known c.args.thread.scopes in let own = c.end-back.result.0.unreported in
    let at_first : W.states pool ≡ true → scopes_of c.start-thread.result ≡ c.args.thread.scopes =
    λ stated. s.scopes ∙ c.loop.invariant.known stated in
    let named =
    subst (λ found. IfSome found (λ job. W.names pool job.1 (string_bytes job.0))) c.in-Ok-Some.field-0-is c.in-Ok-Some.ensures in
    let well = c.is_err.ensures.negation ∙ ap not c.if-is_err.false in
    record {
      known = λ stated. c.end-back.ensures.scopes
          ∙ scopes_stay _ g.P.Reporter.accepts g.P.Reporter.refuses
          (W.states pool) its c.start-thread.result c.work-result.new.thread r well c.work-result.ensures stated
          ∙ at_first stated;
      ran =
          let told = g.P.Meets.told in let accepts = g.P.Reporter.accepts in let refuses = g.P.Reporter.refuses in
          let after = told c.end-back.result.1 in
          let has = subst (λ (before : List Happening). HasRunAs (W.states pool) its name Short
          (num_known (scopes_of c.start-thread.result)) r before after own) (ap told s.reporter)
          (has_run_as _ accepts refuses (λ r. unmarked (told r)) (keeps_unmarked accepts refuses told g.met.P.Meets.keeps)
          (W.states pool) its c.start-thread.result c.work-result.new.thread e.1 c.end-back.result.1 name Short r e.0 own
          (told (reporter_of c.start-thread.result)) after s.thread c.work-result.ensures e.2 e.3 refl refl) in
          job_run is known (W.states pool) name its r (num_known (scopes_of c.start-thread.result)) (told c.args.reporter)
          (told c.loop.reporter) after c.loop.ended.unreported own c.followed_by-ended.result.unreported
          (λ code it. (next.1, named, it)) well
          (λ stated. ap num_known (at_first stated)) c.loop.invariant.ran has c.followed_by-ended.ensures.unreported;
    }

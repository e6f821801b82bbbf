-- Each round of the leader is one turn more, and one frame at most.
use Rattle.std.proofs.Common.{ℕ, ◌+◌, ◌≤◌, string_bytes, refl, ap, sym, subst, ◌∙◌, arith}
use Rattle.puffin.specs.Code.{Code, OrNothing}
use Rattle.puffin.specs.Happenings.{num_released}
use Rattle.puffin.specs.Places.{num_known}
use Rattle.puffin.specs.Rounds.{HasRunRounds, TakesInTurn, TakesTurns}
use Rattle.puffin.proofs.KeptSteps.{IsLeading, leads_on}
use Rattle.puffin.proofs.RunningRounds.{AfterRounds, first_turn, part_led, has_run_rounds, if_stated}
use Rattle.puffin.proofs.light.rounds.InRoundsAnyProgramReady.lead.Goals as goal
use Rattle.puffin.proofs.light.rounds.InRoundsAnyProgramReady.lead.Goals.{else-loop-round-test, then-loop-round-test+then-not-goes_on}

pub loop-round-init : goal.loop-round-init
loop-round-init g c =
    let told = g.P.Meets.told in let s = c.start-thread.ensures in
    record {
      ran = λ stated none. first_turn told _ (string_bytes c.args.thread.name)
          (num_known c.args.thread.scopes) c.start-thread.result s.thread (ap num_known s.scopes) (ap told s.reporter ∙ none);
      took = λ none. record {
        closed = ap num_released none;
        takes = subst (TakesInTurn c.args.self.now.meeting.threads 0 0 0) (sym none) refl;
      };
    }

pub loop-round-preserved : goal.loop-round-preserved
loop-round-preserved g c =
    let told = g.P.Meets.told in let W = g.W.Rounds in let program = c.args.self.now.program.now in
    let round = c.loop-round.round in
    let is : ℕ → Code → _ = λ r. OrNothing (W.leads program r) in
    record {
      ran = λ stated none.
          part_led told is (string_bytes c.args.thread.name)
          (num_known c.args.thread.scopes) g.C.NsSource.answers g.P.Reporter.accepts g.P.Reporter.refuses g.met.P.Meets.keeps
          (W.states program) round c.loop-round.thread c.lead.new._thread c.arrive.new.self c.wait_released.new.self
          stated c.lead.ensures (c.loop-round.invariant.ran stated none) c.arrive.ensures c.wait_released.ensures;
      took = λ none. leads_on c.args.self.now.meeting.threads round _ _ _ _
          (c.loop-round.invariant.took none) c.wait_arrived.ensures c.take-taken.ensures c.release.ensures;
    }

pub returns-clause-tells : goal.returns-clause-tells
returns-clause-tells g c none =
    let told = g.P.Meets.told in let W = g.W.Rounds in let program = c.args.self.now.program.now in
    let round = c.loop-round.round in
    let is : ℕ → Code → _ = λ r. OrNothing (W.leads program r) in let name = string_bytes c.args.thread.name in
    let known = num_known c.args.thread.scopes in
    let e = c.end-reporter.ensures.reports in let thread = c.loop-round-test.thread in
    let ends : (turn : ℕ) → turn ≤ c.args.self.now.rounds → AfterRounds told is name known turn thread
    → HasRunRounds is c.args.self.now.rounds name known (told c.end-reporter.result.1) c.end-reporter.result.0.unreported =
    λ turn within p. has_run_rounds told is name known g.C.NsSource.answers g.P.Reporter.accepts g.P.Reporter.refuses
    g.met.P.Meets.keeps turn c.args.self.now.rounds thread e.1 c.end-reporter.result.1 e.0 c.end-reporter.result.0.unreported
    within p e.2 e.3 in
    if_stated (W.states program) is c.args.self.now.rounds name known
    (told c.end-reporter.result.1) c.end-reporter.result.0.unreported (λ stated. elim c.loop-round-test.branch [
      | else-loop-round-test w ↦ ends round
          (omega (arith, c.loop-round.auto.round-end, c.most_rounds-round-end.ensures.within))
          (subst (λ t. AfterRounds told is name known round t) (sym w.thread-is) (c.loop-round.invariant.ran stated none))
      | then-loop-round-test+then-not-goes_on w ↦
          ends (round + 1) (omega (arith, w.loop-round-test.true, c.most_rounds-round-end.ensures.within))
          (subst (λ t. AfterRounds told is name known (round + 1) t) (sym w.thread-is)
          (part_led told is name known g.C.NsSource.answers g.P.Reporter.accepts g.P.Reporter.refuses g.met.P.Meets.keeps
          (W.states program) round c.loop-round.thread w.lead.new._thread w.arrive.new.self w.wait_released.new.self
          stated w.lead.ensures (c.loop-round.invariant.ran stated none) w.arrive.ensures w.wait_released.ensures))
    ])

pub returns-clause-takes : goal.returns-clause-takes
returns-clause-takes g c none =
    let told = g.F.Gathers.told in let round = c.loop-round.round in let parts = c.args.self.now.meeting.threads in
    let taken : (turn : ℕ) → turn ≤ c.args.self.now.rounds → IsLeading parts turn (told c.loop-round-test.frames)
    → TakesTurns parts c.args.self.now.rounds (told c.loop-round-test.frames) =
    λ turn within led. (omega (arith, led.closed, within), led.takes) in
    elim c.loop-round-test.branch [
      | else-loop-round-test w ↦ taken round
          (omega (arith, c.loop-round.auto.round-end, c.most_rounds-round-end.ensures.within))
          (subst (λ f. IsLeading parts round (told f)) (sym w.frames-is) (c.loop-round.invariant.took none))
      | then-loop-round-test+then-not-goes_on w ↦
          taken (round + 1) (omega (arith, w.loop-round-test.true, c.most_rounds-round-end.ensures.within))
          (subst (λ f. IsLeading parts (round + 1) (told f)) (sym w.frames-is)
          (leads_on parts round _ _ _ _ (c.loop-round.invariant.took none) w.wait_arrived.ensures
          w.take-taken.ensures w.release.ensures))
    ]

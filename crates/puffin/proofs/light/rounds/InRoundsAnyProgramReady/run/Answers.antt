-- Each round of a thread is one turn more.
use Rattle.std.proofs.Common.{ℕ, ◌+◌, ◌≤◌, string_bytes, ap, sym, subst, ◌∙◌, arith}
use Rattle.std.specs.Prelude.{IsOk, is_ok}
use Rattle.puffin.specs.Places.{num_known}
use Rattle.puffin.specs.Rounds.{HasRunRounds, HasRunRoundsAs}
use Rattle.puffin.proofs.RunningRounds.{AfterRounds, first_turn, part_ran, has_run_rounds, if_well}
use Rattle.puffin.proofs.light.rounds.InRoundsAnyProgramReady.run.Goals as goal
use Rattle.puffin.proofs.light.rounds.InRoundsAnyProgramReady.run.Goals.{in-Ok+in-Ok-part, in-Ok+in-Err-part, in-Err, in-Ok-state}
use Rattle.puffin.proofs.light.rounds.InRoundsAnyProgramReady.run.Goals.{in-Err-state, else-loop-round-test}
use Rattle.puffin.proofs.light.rounds.InRoundsAnyProgramReady.run.Goals.{then-loop-round-test+then-load}

pub loop-round-init : goal.loop-round-init
loop-round-init g c stated well none =
    let told = g.P.Meets.told in let s = c.start-thread.ensures in
    first_turn told _ (string_bytes c.args.thread.name) (num_known c.args.thread.scopes) c.start-thread.result s.thread
    (ap num_known s.scopes) (ap told s.reporter ∙ none)

pub loop-round-preserved : goal.loop-round-preserved
loop-round-preserved g c stated well none =
    let told = g.P.Meets.told in let W = g.W.Rounds in let program = c.args.self.now.program.now in
    let round = c.loop-round.round in
    elim c.match-state.branch [
      | in-Ok+in-Ok-part w ↦
          part_ran told (W.runs program c.args.number) (string_bytes c.args.thread.name)
          (num_known c.args.thread.scopes) g.C.NsSource.answers g.P.Reporter.accepts g.P.Reporter.refuses g.met.P.Meets.keeps
          (W.states program) round c.loop-round.thread w.part.new.thread c.match-state.thread c.arrive.new.self
          c.wait_released.new.self
          w.part.result w.in-Ok-part.field-0 stated w.in-Ok-part.is w.part.ensures w.thread-is
          (c.loop-round.invariant stated (ap is_ok w.in-Ok.is) none) c.arrive.ensures c.wait_released.ensures
      | in-Ok+in-Err-part w ↦ absurd (let no = subst IsOk w.state-is well in cc)
      | in-Err w ↦ absurd (let no = subst IsOk w.state-is well in cc)
    ]

pub returns : goal.returns
returns g c none =
    let told = g.P.Meets.told in let W = g.W.Rounds in let program = c.args.self.now.program.now in
    let is = W.runs program c.args.number in let name = string_bytes c.args.thread.name in
    let known = num_known c.args.thread.scopes in
    let round = c.loop-round.round in
    let e = c.end-reporter.ensures.reports in let thread = c.loop-round-test.thread in
    let ends : (turn : ℕ) → turn ≤ c.args.self.now.rounds → AfterRounds told is name known turn thread
    → HasRunRounds is c.args.self.now.rounds name known (told c.end-reporter.result.1) c.end-reporter.result.0.unreported =
    λ turn within p. has_run_rounds told is name known g.C.NsSource.answers g.P.Reporter.accepts g.P.Reporter.refuses
    g.met.P.Meets.keeps turn c.args.self.now.rounds thread e.1 c.end-reporter.result.1 e.0 c.end-reporter.result.0.unreported
    within p e.2 e.3 in
    subst (λ r. HasRunRoundsAs (W.states program) is c.args.self.now.rounds name known r (told c.end-reporter.result.1)
    c.end-reporter.result.0.unreported) (sym c.end-reporter.ensures.returned)
    (if_well (W.states program) is c.args.self.now.rounds name known c.match-state-2.result
    (told c.end-reporter.result.1) c.end-reporter.result.0.unreported (λ well stated.
    let state : IsOk c.loop-round-test.state = elim c.match-state-2.branch [
      | in-Ok-state w ↦ ap is_ok w.in-Ok-state.is
      | in-Err-state w ↦ absurd (let no = subst IsOk w.result-is well in cc)
    ] in
    elim c.loop-round-test.branch [
      | else-loop-round-test w ↦
          ends round (omega (arith, c.loop-round.auto.round-end, c.most_rounds-round-end.ensures.within))
          (subst (λ t. AfterRounds told is name known round t) (sym w.thread-is)
          (c.loop-round.invariant stated (subst IsOk w.state-is state) none))
      | then-loop-round-test+then-load w ↦
          let its = subst IsOk w.state-is state in
          ends (round + 1) (omega (arith, w.loop-round-test.true, c.most_rounds-round-end.ensures.within))
          (subst (λ t. AfterRounds told is name known (round + 1) t) (sym w.thread-is) (elim w.match-state.branch [
            | in-Ok+in-Ok-part v ↦
                part_ran told is name known g.C.NsSource.answers g.P.Reporter.accepts g.P.Reporter.refuses g.met.P.Meets.keeps
                (W.states program) round c.loop-round.thread v.part.new.thread w.match-state.thread
                w.arrive.new.self w.wait_released.new.self
                v.part.result v.in-Ok-part.field-0 stated v.in-Ok-part.is v.part.ensures v.thread-is
                (c.loop-round.invariant stated (ap is_ok v.in-Ok.is) none) w.arrive.ensures w.wait_released.ensures
            | in-Ok+in-Err-part v ↦ absurd (let no = subst IsOk v.state-is its in cc)
            | in-Err v ↦ absurd (let no = subst IsOk v.state-is its in cc)
          ]))
    ]))

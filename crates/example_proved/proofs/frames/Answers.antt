use Rattle.std.proofs.Common.{ap, ◌∙◌, rules}
use Rattle.puffin_threads.specs.Thread.ThreadProfiler.{thread_of, clock_of}
use Rattle.puffin.specs.Places.{num_known}
use Rattle.puffin.specs.Profiler.{collected_of}
use Rattle.puffin_accounts.proofs.lemmas.Rounds.{starts_new, runs_round, runs_more, shows_rounds}
use Rattle.example_proved.specs.Turn.{turn_code, turn_round, the_details}
use Rattle.example_proved.proofs.frames.Goals as goal

pub loop-round-preserved : goal.loop-round-preserved
loop-round-preserved g c =
    let frame = c.in_ok-new_frame.ensures in
    record {
      number = search rules;
      rounds = runs_more turn_round _ _ c.loop-round.thread _ c.in_ok-push.ensures.items c.loop-round.invariant.rounds
          (runs_round c.turn.new.thread (ap turn_code c.in_ok-scopes.ensures.places) c.turn.ensures frame.handed_out.collected.ok frame.thread);
    }

pub returns-clause-shown : goal.returns-clause-shown
returns-clause-shown g c =
    let thread = c.new-thread.ensures in
    let new = starts_new c.new-thread.result c.in_ok-scopes.ensures.scopes c.details.ensures
    (ap clock_of thread.profiler ∙ c.new-recorder.ensures.clock)
    (ap num_known thread.scopes ∙ c.in_ok-for_thread.ensures.known)
    (ap thread_of thread.profiler ∙ c.new-recorder.ensures.thread)
    (ap collected_of thread.reporter ∙ c.in_ok-add_scopes.ensures.ok)
    c.new-profiler.ensures.collected in
    shows_rounds the_details _ c.new-thread.result c.loop-round.thread new c.loop-round.invariant.rounds c.num_closed.ensures

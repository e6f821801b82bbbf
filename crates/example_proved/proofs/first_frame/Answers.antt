use Rattle.std.proofs.Common.{refl, ap, ◌∙◌}
use Rattle.puffin_threads.specs.Thread.ThreadProfiler.{thread_of, clock_of}
use Rattle.puffin.specs.Places.{num_known}
use Rattle.puffin.specs.Profiler.{collected_of}
use Rattle.puffin_accounts.proofs.lemmas.Rounds.{starts_new, runs_round, shows_rounds, lists_place}
use Rattle.example_proved.specs.Turn.{turn_code, the_details}
use Rattle.example_proved.proofs.first_frame.Goals as goal

pub returns-clause-shown : goal.returns-clause-shown
returns-clause-shown g c =
    let thread = c.new-thread.ensures in
    let frame = c.in_ok-frame.ensures in
    let new = starts_new c.new-thread.result c.in_ok-scopes.ensures.scopes c.details.ensures
    (ap clock_of thread.profiler ∙ c.new-recorder.ensures.clock)
    (ap num_known thread.scopes ∙ c.in_ok-for_thread.ensures.known)
    (ap thread_of thread.profiler ∙ c.new-recorder.ensures.thread)
    (ap collected_of thread.reporter ∙ c.in_ok-add_scopes.ensures.ok)
    c.new-profiler.ensures.collected in
    let turn = runs_round c.turn.new.thread (ap turn_code c.in_ok-scopes.ensures.places) c.turn.ensures frame.handed_out.collected.ok frame.thread in
    shows_rounds the_details _ c.new-thread.result c.new_frame.new.self new (c.new_frame.new.self, turn, refl) c.num_closed.ensures

pub returns-clause-update : goal.returns-clause-update
returns-clause-update g c = lists_place the_details c.places_are_listed.ensures (returns-clause-shown g c) 1 _ refl

pub returns-clause-physics : goal.returns-clause-physics
returns-clause-physics g c = lists_place the_details c.places_are_listed.ensures (returns-clause-shown g c) 2 _ refl

-- All clocks have the start of the first.
use Rattle.std.proofs.Common.{◌≡◌, ℕ, Some, length, map, string_bytes, rules, ap, sym, subst, ◌∙◌}
use Rattle.std.specs.Prelude.{slice_get}
use Rattle.puffin_threads.specs.declared.thread_profiler.clock.SystemClock.{SystemClock}
use Rattle.puffin.specs.declared.light.ready.Ready.{Ready}
use Rattle.puffin.specs.Places.{details_in, num_known}
use Rattle.puffin.proofs.JoinedThreads.{each_more, mapped_there}
use Rattle.std.specs.Prelude.{All}
use Rattle.std.proofs.lemmas.List.Elements.{All-push}
use Rattle.puffin_threads.specs.Thread.Clock.{clock_start, clock_begun}
use Rattle.puffin.specs.Clocks.{StartsAt}
use Rattle.puffin.proofs.light.program.prepare_all.Goals as goal

pub loop-name-preserved : goal.loop-name-preserved
loop-name-preserved g c =
    let so_far = c.loop-name.invariant in let thread = c.in_ok-prepare.field-0 in let its = c.in_ok-prepare.ensures in
    let names = c.args.names.now in
    let place : length c.loop-name.threads.items ≡ c.loop-name.name-index = sym c.loop-name.threads.ok.0 ∙ so_far.threads in
    let named : slice_get (map (λ name. name.now) names) c.loop-name.name-index ≡ Some (string_bytes thread.name) =
    mapped_there (λ name. name.now) names c.loop-name.name-index _ c.loop-name-test.true ∙ ap Some (sym its.name) in
    record {
      threads = search rules;
      names =
          rw c.in_ok-push.ensures.items (each_more
          (λ k (t : Ready (SystemClock g.row.R.Denot)).
          (slice_get (map (λ name. name.now) names) k ≡ Some (string_bytes t.name))
          × (num_known t.scopes ≡ length (details_in c.args.scopes.now)))
          c.loop-name.threads.items thread so_far.names (
            subst (λ (k : ℕ). slice_get (map (λ name. name.now) names) k ≡ Some (string_bytes thread.name))
                (sym place) named,
            its.scopes,
          ));
      clocks =
          subst (All (λ thread. StartsAt (clock_start c.in_ok-clock.clock) (clock_begun c.in_ok-clock.clock) thread.clock))
          (sym c.in_ok-push.ensures.items)
          (All-push (λ thread. StartsAt (clock_start c.in_ok-clock.clock) (clock_begun c.in_ok-clock.clock) thread.clock)
          c.loop-name.threads.items thread so_far.clocks its.clock);
    }

pub returns-clause-clocks : goal.returns-clause-clocks
returns-clause-clocks g c = (
  clock_start c.in_ok-clock.clock,
  clock_begun c.in_ok-clock.clock,
  c.in_ok-leader.ensures.clock,
  c.loop-name.invariant.clocks,
)

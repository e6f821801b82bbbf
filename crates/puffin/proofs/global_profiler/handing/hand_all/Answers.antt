-- One sink more is handed the frame; after the last one, all were.
use Rattle.std.proofs.Common.{refl, rules, arith}
use Rattle.std.specs.Arc.{arc_value}
use Rattle.puffin.proofs.HandingOn.{handed-more, rest-more, handed-whole}
use Rattle.puffin.proofs.global_profiler.handing.hand_all.Goals as goal

pub loop-entry-preserved : goal.loop-entry-preserved
loop-entry-preserved g c =
    let known = c.loop-entry.invariant in record {
      handed = handed-more (λ b. (goal.FrameSink-dyn g (b.vtable, b.value)).accepts)
          (arc_value c.args.frame.now) c.args.sinks.now c.loop-entry.sinks c.loop-entry.entry-index c.entry-item.result _
          c.hand-outcome.result c.loop-entry.refused c.refusals-refused.result
          (omega (arith, c.loop-entry-test.true, known.same_length)) known.same_length known.rest known.handed refl
          c.hand-outcome.ensures c.refusals-refused.ensures.which;
      rest = rest-more (λ b. (goal.FrameSink-dyn g (b.vtable, b.value)).accepts) c.args.sinks.now c.loop-entry.sinks
          c.loop-entry.entry-index _ known.rest;
      same_length = search rules;
      few = omega (arith, known.few, c.refusals-refused.ensures.one);
    }

pub returns : goal.returns
returns g c =
    let known = c.loop-entry.invariant in
    handed-whole (λ b. (goal.FrameSink-dyn g (b.vtable, b.value)).accepts) (arc_value c.args.frame.now) c.args.sinks.now
    c.loop-entry.sinks c.loop-entry.entry-index c.loop-entry.refused
    (omega (arith, c.loop-entry-test.false, known.same_length)) known.same_length known.handed

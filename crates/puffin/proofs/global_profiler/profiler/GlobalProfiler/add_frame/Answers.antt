-- Where learning the frame's details fails, the first few may have become known.
use Rattle.std.proofs.Common.{◌≡◌, Result, Ok, Err, subst, rules}
use Rattle.std.specs.Prelude.{OnErr}
use Rattle.std.specs.Arc.{arc_value}
use Rattle.puffin_threads.specs.Details.{shared_details}
use Rattle.puffin_frames.specs.Frame.Contents.{frame_details}
use Rattle.puffin.specs.Profiler.{collected_of}
use Rattle.puffin_collector.specs.Collector.Collecting.{KnowsSome}
use Rattle.puffin.proofs.global_profiler.profiler.GlobalProfiler.add_frame.Goals as goal

-- what holds at any result holds at a refusal
always : {T E P : Type 0} (r : Result T E) → P → OnErr r P
always (Ok x) holds = tt
always (Err e) holds = holds

-- what holds at a refusal holds, where the result is one
refused : {T E P : Type 0} (r : Result T E) (e : E) → r ≡ Err e → OnErr r P → P
refused (Ok x) e is none = absurd (cc)
refused (Err d) e is holds = holds

pub returns-in_err-learn : goal.returns-in_err-learn
returns-in_err-learn g c =
    let told : shared_details c.deref-2.result.now ≡ frame_details (arc_value c.args.frame) = search rules in
    record {
      learns = record {
        learnt = search rules;
        missing = search rules;
        unchanged = search rules;
        cause = search rules;
        known = always c.from_residual.result
            (subst (λ ds. KnowsSome (collected_of c.args.self.now) ds c.learn.new.self) told
            (refused c.learn.result _ c.in_err-learn.was c.learn.ensures.err));
        kept = search rules;
        next = search rules;
      };
      handed = search rules;
    }

-- What each call of a profiler does. The calls of the same names behind a lock do the same.
use Rattle.std.specs.Prelude.{◌≡◌, ℕ, ◌+◌, ◌-◌, ◌^◌, ◌<◌, ◌⊎◌, ◌↔◌, List, Option, Result, Err, OnOk, OnErr, IfOk, IfErr, IfSome, IfNone, IsTrue}
use Rattle.std.specs.List.{list_any}
use Rattle.std.specs.declared.alloc.Global.{Global}
use Rattle.std.specs.declared.dyn_box.DynBox.{DynBox}
use Rattle.puffin_data.specs.declared.error.Error.{Error}
use Rattle.puffin_data.specs.declared.error.Error.TheVariants.{MissingId, SinkIdsExhausted, Memory}
use Rattle.puffin_data.specs.Honesty.{StreamFacts}
use Rattle.puffin_threads.specs.Thread.ThreadKey.{ThreadKey}
use Rattle.puffin_threads.specs.Details.{Details, lacks_id}
use Rattle.puffin_frames.specs.declared.frame_data.frame.FrameData.{FrameData}
use Rattle.puffin_frames.specs.Frame.Contents.{frame_details}
use Rattle.puffin_collector.specs.declared.emitted.Emitted.{Emitted}
use Rattle.puffin_collector.specs.Collector.State.{AcceptsReport, RefusesReport, after_learning}
use Rattle.puffin_collector.specs.Collector.Registering.{Adds, AddsSome}
use Rattle.puffin_collector.specs.Collector.Collecting.{CollectsFrame, KnowsSome}
use Rattle.puffin.specs.declared.global_profiler.profiler.GlobalProfiler.{GlobalProfiler}
use Rattle.puffin.specs.declared.global_profiler.sink.Sink.{Sink}
use Rattle.puffin.specs.Profiler.{collected_of, sinks_of, next_sink_of, SameSinks}
use Rattle.puffin.specs.SharedCauses.{IsDetailsCause}
use Rattle.puffin.specs.Sinks.{PutsIn, TakesOut, HasNone}
use Rattle.puffin.specs.Sinks.Handing.{HandsOn, HandsOnAny}

module _ {I : Type 0} {F : I → Type 0} where
  -- a report of scopes under a thread's info, with these details
  pub record TakesReport (old : GlobalProfiler I F) (key : ThreadKey) (details : List Details) (report : StreamFacts)
      (result : Result (Unit {0}) Error) (new : GlobalProfiler I F) : Type 0 where
    pub ok : OnOk result (AcceptsReport (collected_of old) key details report (collected_of new))
    pub err : IfErr result (λ error. RefusesReport (collected_of old) key details report error (collected_of new))
    pub sinks : SameSinks old new

  -- the registration of the caller's own scopes, of which each gets an id
  pub record RegistersScopes {X : Type 0} (ids : X → List ℕ) (old : GlobalProfiler I F) (details : List Details)
      (result : Result X Error) (new : GlobalProfiler I F) : Type 0 where
    pub ok : IfOk result (λ registered. Adds (collected_of old) details (ids registered) (collected_of new))
    pub err : IfErr result (λ error. AddsSome (collected_of old) details error (collected_of new))
    pub sinks : SameSinks old new

  -- a new frame, which each sink is handed; `accepts` is what `FrameSink::accepts` relates, for the sink in any box
  pub record HandsOutFrame
      (accepts : (boxed : DynBox I Global F) → F boxed.vtable → FrameData → Result (Unit {0}) Error →
      F boxed.vtable → Type 0)
      (old : GlobalProfiler I F) (result : Result Emitted Error) (new : GlobalProfiler I F) : Type 0 where
    pub collected : CollectsFrame (λ emitted. emitted.frame) (collected_of old) result (collected_of new)
    pub handed : IfOk result (λ emitted.
        HandsOnAny accepts emitted.frame (sinks_of old) emitted.refused (sinks_of new))
    pub kept : OnErr result (sinks_of new ≡ sinks_of old)
    pub next : next_sink_of new ≡ next_sink_of old

  -- a frame that was made elsewhere, whose details become known
  pub record LearnsFrame (old : GlobalProfiler I F) (frame : FrameData) (result : Result ℕ Error)
      (new : GlobalProfiler I F) : Type 0 where
    pub learnt : OnOk result (
        collected_of new ≡ after_learning (collected_of old) (frame_details frame))
    pub missing : (result ≡ Err MissingId) ↔ IsTrue (list_any lacks_id (frame_details frame))
    pub unchanged : (result ≡ Err MissingId) → collected_of new ≡ collected_of old
    pub cause : IfErr result IsDetailsCause
    pub known : OnErr result (
        KnowsSome (collected_of old) (frame_details frame) (collected_of new))
    pub kept : OnErr result (sinks_of new ≡ sinks_of old)
    pub next : next_sink_of new ≡ next_sink_of old

  -- the same, and each sink is handed the frame
  pub record AddsFrame
      (accepts : (boxed : DynBox I Global F) → F boxed.vtable → FrameData → Result (Unit {0}) Error →
      F boxed.vtable → Type 0)
      (old : GlobalProfiler I F) (frame : FrameData) (result : Result ℕ Error) (new : GlobalProfiler I F) :
      Type 0 where
    pub learns : LearnsFrame old frame result new
    pub handed : IfOk result (λ refused.
        HandsOn accepts frame (sinks_of old) refused (sinks_of new))

  -- a new sink, which comes after the others, under the next number
  pub record AddsSink (old : GlobalProfiler I F) (sink : Sink I F) (result : Result ℕ (Error × Sink I F))
      (new : GlobalProfiler I F) : Type 0 where
    pub ok : IfOk result (λ id.
        (id ≡ next_sink_of old)
        × (next_sink_of new ≡ next_sink_of old + 1)
        × PutsIn id sink (sinks_of old) (sinks_of new))
    pub err : IfErr result (λ refused.
        (refused.1 ≡ sink)
        × (sinks_of new ≡ sinks_of old)
        × (next_sink_of new ≡ next_sink_of old))
    pub cause : IfErr result (λ refused.
        ((refused.0 ≡ SinkIdsExhausted) × (next_sink_of old ≡ 2 ^ 64 - 1))
        ⊎ ((refused.0 ≡ Memory) × (next_sink_of old < 2 ^ 64 - 1)))
    pub rest : collected_of new ≡ collected_of old

  -- the removal of the sink with this number
  pub record RemovesSink (old : GlobalProfiler I F) (id : ℕ) (result : Option (Sink I F))
      (new : GlobalProfiler I F) : Type 0 where
    pub some : IfSome result (λ sink. TakesOut id sink (sinks_of old) (sinks_of new))
    pub none : IfNone result (HasNone id (sinks_of old) × (sinks_of new ≡ sinks_of old))
    pub next : next_sink_of new ≡ next_sink_of old
    pub rest : collected_of new ≡ collected_of old

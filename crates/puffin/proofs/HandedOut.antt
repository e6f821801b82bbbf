-- A frame that is handed out has at least one scope, and spells as many as it says.
use Rattle.std.proofs.Common.{ℕ, ◌<◌, Option, Some, None, Result, Ok, Err, ap, sym, subst}
use Rattle.std.specs.Prelude.{IfOk}
use Rattle.std.specs.declared.sync.Arc.{Arc}
use Rattle.puffin_frames.specs.declared.frame_data.frame.FrameData.{FrameData}
use Rattle.puffin_frames.specs.declared.frame_data.meta.FrameMeta.{FrameMeta}
use Rattle.puffin_frames.specs.Frame.Contents.{AreHonest}
use Rattle.puffin_collector.specs.Collector.State.{Collected}
use Rattle.puffin_collector.specs.Collector.Collecting.{Collects}
use Rattle.puffin.specs.Shares.{SpellsItsScopes}
use Rattle.puffin_collector.specs.declared.emitted.Emitted.{Emitted}

spells : {A : Type 0} (old new : Collected) (frame : Option (Arc FrameData A)) → AreHonest old.streams → Collects old frame new
    → SpellsItsScopes frame
spells old new None honest collects = tt
spells old new (Some frame) honest collects =
    let count = ap (λ (m : FrameMeta). m.num_scopes) collects.0.meta in
    (old.streams, collects.0.held, honest, count, subst (λ (n : ℕ). 0 < n) (sym count) collects.1)

pub all_spell : {E : Type 0} (r : Result Emitted E) (old new : Collected) → AreHonest old.streams
    → IfOk r (λ e. Collects old e.frame new) → IfOk r (λ e. SpellsItsScopes e.frame)
all_spell (Ok e) old new honest collects = spells old new e.frame honest collects
all_spell (Err e) old new honest collects = tt

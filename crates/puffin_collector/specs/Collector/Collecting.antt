-- What a call that collects a frame hands out, and what it leaves behind.
use Rattle.std.specs.Prelude.{◌≡◌, ℕ, ◌+◌, ◌-◌, ◌^◌, ◌<◌, List, Option, Some, None, ◌⊎◌, ◌↔◌, Result, Err, IfOk, IfErr}
use Rattle.std.specs.FinMap as map
use Rattle.std.specs.Arc.{arc_value}
use Rattle.std.specs.declared.sync.Arc.{Arc}
use Rattle.puffin_data.specs.declared.error.Error.{Error}
use Rattle.puffin_data.specs.declared.error.Error.TheVariants.{IndexExhausted, Memory}
use Rattle.puffin_data.specs.Honesty.{StreamFacts}
use Rattle.puffin_threads.specs.Thread.ThreadKey.{ThreadKey}
use Rattle.puffin_threads.specs.Details.{Details, shared_details, AllHaveIds}
use Rattle.puffin_threads.specs.Details.Collection.{IsPrefix}
use Rattle.puffin_frames.specs.declared.frame_data.frame.FrameData.{FrameData}
use Rattle.puffin_frames.specs.declared.frame_data.meta.FrameMeta.{FrameMeta}
use Rattle.puffin_frames.specs.Frame.Contents.{Streams, AreHonest, holding_of, frame_meta, frame_details}
use Rattle.puffin_frames.specs.Frame.Holding.{HaveLayout}
use Rattle.puffin_frames.specs.Frame.Sums.{total_scopes, meta_of, IsOrdered, DurationFits}
use Rattle.puffin_collector.specs.declared.totals.Totals.{Totals}
use Rattle.puffin_collector.specs.Collector.State.{Collected, delta_of, after_frame, after_no_frame, after_learning}

-- The frame has all that was pending, unpacked, under the next index. It lists the new details, and all known ones if a snapshot
-- was wanted, and says whether one was.
pub record HoldsAll (old : Collected) (frame : FrameData) : Type 0 where
  pub held : holding_of frame ≡ record { packed = None; unpacked = Some old.streams }
  pub meta : frame_meta frame ≡ meta_of old.index (map.values old.streams)
  pub delta : shared_details frame.scope_delta.items
      ≡ delta_of old.collection old.new_details old.wants_all
  pub full : frame.full_delta ≡ old.wants_all

-- no stream has a scope
abbrev pub HaveNoScopes : Streams → Type 0
HaveNoScopes streams = (thread : ThreadKey) (stream : StreamFacts) →
    map.get streams thread ≡ Some stream → stream.num_scopes ≡ 0

-- a frame with all that is pending is handed out exactly when a scope is pending; otherwise only the index rises
abbrev pub Collects : {A : Type 0} → (old : Collected) → Option (Arc FrameData A) → (new : Collected) → Type 0
Collects old (Some frame) new =
    HoldsAll old (arc_value frame)
    × (0 < total_scopes (map.values old.streams))
    × (new ≡ after_frame old)
Collects old None new = HaveNoScopes old.streams × (new ≡ after_no_frame old)

-- the frame, if there is one, lists only details with ids
abbrev pub TellsIds : {A : Type 0} → Option (Arc FrameData A) → Type 0
TellsIds None = Unit {0}
TellsIds (Some frame) = AllHaveIds (frame_details (arc_value frame))

-- some first ones of these details became known, and nothing else changed
abbrev pub KnowsSome : (old : Collected) → List Details → (new : Collected) → Type 0
KnowsSome old details new =
    (learnt : List Details) × IsPrefix learnt details × (new ≡ after_learning old learnt)

-- A refused call keeps all that is pending: the index is the last one, or memory ran out, and a prefix of the new details may be
-- known.
abbrev pub KeepsPending : (old : Collected) → (cause : Error) → (new : Collected) → Type 0
KeepsPending old cause new =
    ((cause ≡ IndexExhausted) × (old.index ≡ 2 ^ 64 - 1) × (new ≡ old))
    ⊎ ((cause ≡ Memory) × KnowsSome old old.new_details new)

-- What a call that collects a frame returns, and what it leaves. `frame_in` takes the frame, if there is one, out of the value that
-- the call returns.
pub record CollectsFrame {X A : Type 0} (frame_in : X → Option (Arc FrameData A)) (old : Collected)
    (result : Result X Error) (new : Collected) : Type 0 where
  pub ok : IfOk result (λ returned. Collects old (frame_in returned) new)
  -- all details that the frame lists have ids
  pub ids : IfOk result (λ returned. TellsIds (frame_in returned))
  -- what was pending is honest
  pub honest : AreHonest old.streams
  -- each reported scope was pending or had been handed out
  pub sum : old.reported ≡ old.emitted + total_scopes (map.values old.streams)
  pub exhausted : (result ≡ Err IndexExhausted) ↔ (old.index ≡ 2 ^ 64 - 1)
  pub err : IfErr result (λ cause. KeepsPending old cause new)

-- these totals are the numbers of scopes reported, pending and handed out; what is pending is honest
pub record CountsScopes (now : Collected) (totals : Totals) : Type 0 where
  pub reported : totals.reported ≡ now.reported
  pub pending : totals.pending ≡ total_scopes (map.values now.streams)
  pub emitted : totals.emitted ≡ now.emitted
  pub honest : AreHonest now.streams

-- What a collector keeps beside its pending streams, which are honest and have a layout: `meta` is that of a frame of all of them,
-- and the totals add up.
pub record IsTallied (streams : Streams) (meta : FrameMeta) (reported emitted : ℕ) : Type 0 where
  pub sums : meta ≡ meta_of meta.frame_index (map.values streams)
  pub counted : reported ≡ emitted + meta.num_scopes
  pub honest : AreHonest streams
  pub layout : HaveLayout streams
  pub duration : IsOrdered meta.range_ns → DurationFits meta.range_ns

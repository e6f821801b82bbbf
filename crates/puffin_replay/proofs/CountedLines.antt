-- How many threads a frame has.
use Rattle.std.proofs.Common.{◌≡◌, List, [], ◌∷◌, length, refl, ap, sym, subst, ◌∙◌}
use Rattle.std.proofs.lemmas.List.{length-map}
use Rattle.std.specs.FinMap.{len, len-entries}
use Rattle.std.specs.List.Sorted.{IsStrictlySortedBy}
use Rattle.std.specs.Map.{keys_of}
use Rattle.std.specs.declared.sync.Arc.{Arc}
use Rattle.puffin_data.specs.declared.data.info.StreamInfo.{StreamInfo}
use Rattle.puffin_threads.specs.declared.thread_profiler.thread_info.ThreadInfo.{ThreadInfo}
use Rattle.puffin_frames.specs.Frame.Contents.{without_sharing, records, shared_streams}
use Rattle.puffin_threads.specs.Thread.ThreadKey.{thread_cmp}
use Rattle.puffin_frames.proofs.lemmas.Keyed.{entries-streams_of}

same_keys : {A : Type 0} (es : List (ThreadInfo × Arc StreamInfo A)) → keys_of (without_sharing es) ≡ keys_of es
same_keys [] = refl
same_keys (e ∷ es) = ap (λ (ks : List ThreadInfo). e.0 ∷ ks) (same_keys es)

pub len-shared_streams : {A : Type 0} (es : List (ThreadInfo × Arc StreamInfo A))
    → IsStrictlySortedBy thread_cmp (keys_of es) → len (shared_streams es) ≡ length es
len-shared_streams es sorted =
    let rising = subst (λ (ks : List ThreadInfo). IsStrictlySortedBy thread_cmp ks) (sym (same_keys es)) sorted in
    len-entries (shared_streams es) ∙ ap length (entries-streams_of (without_sharing es) rising)
    ∙ length-map (records (without_sharing es)) _ ∙ length-map (without_sharing es) _ ∙ length-map es _

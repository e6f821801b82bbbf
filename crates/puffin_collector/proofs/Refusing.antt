-- The first cause of a refusal, and what an accepted report leaves.
use Rattle.std.proofs.Common.{◌≡◌, ℕ, ◌+◌, ◌++◌, ◌^◌, ◌≤◌, ◌↔◌, ◌⊎◌, inl, inr, List, Result, Err, sym, ap, subst, arith}
use Rattle.std.specs.FinMap as map
use Rattle.puffin_data.specs.declared.error.Error.{Error}
use Rattle.puffin_data.specs.declared.error.Error.TheVariants.{UnlikeForms, TooLarge, Memory}
use Rattle.puffin_data.specs.Honesty.{StreamFacts}
use Rattle.puffin_threads.specs.Thread.ThreadKey.{ThreadKey}
use Rattle.puffin_threads.specs.Details.{Details, AllHaveIds}
use Rattle.puffin_frames.specs.Frame.Contents.{Streams, stream_under, reported_to}
use Rattle.puffin_frames.specs.Frame.Sums.{total_scopes}
use Rattle.puffin_collector.specs.Collector.State.{Collected, PendingFits, range_with, IsTooLong, IsUnlike, IsSumRefusal, IsReportRefusal, after_report}
use Rattle.puffin_collector.specs.inner.ReportSums.{IsFirstCause}

-- the result of a call that failed with this cause
abbrev failed : Error → Result (Unit {0}) Error
failed cause = Err cause

-- a call fails with one cause
same_error : (cause other : Error) → failed cause ≡ failed other → cause ≡ other
same_error cause other same = cc

not_both : (cause : Error) → cause ≡ UnlikeForms → cause ≡ Memory → ⊥
not_both cause unlike memory = absurd cc

-- a report of details that have ids
module _ (old : Collected) (thread : ThreadKey) (details : List Details) (stream : StreamFacts) (ids : AllHaveIds details) where
  -- with a cause that the sums give, unless the forms are unlike
  pub first_of_sums : (cause error : Error) → IsFirstCause old thread stream cause error → IsSumRefusal old stream cause
      → IsReportRefusal old thread details stream error
  first_of_sums cause error (inl (is, unlike)) sums = inr (inl (is, ids, unlike))
  first_of_sums cause error (inr (is, like)) sums = inr (inr (ids, like, subst (IsSumRefusal old stream) (sym is) sums))

  -- where the sums fit, appending is refused for unlike forms or for memory
  pub late_refusal : (error : Error) → (failed error ≡ failed UnlikeForms) ↔ IsUnlike old thread stream
      → (failed error ≡ failed TooLarge)
      ↔ ((¬ IsUnlike old thread stream) × (2 ^ 64 ≤ (stream_under old.streams thread).num_scopes + stream.num_scopes))
      → (stream_under old.streams thread).num_scopes ≤ total_scopes (map.values old.streams)
      → PendingFits old stream × ¬ IsTooLong (range_with old stream)
      → (error ≡ UnlikeForms) ⊎ (error ≡ TooLarge) ⊎ (error ≡ Memory) → IsReportRefusal old thread details stream error
  late_refusal error unlike large under fits (inl is) = inr (inl (is, ids, unlike.0 (ap failed is)))
  late_refusal error unlike large under fits (inr (inl is)) =
      let over = (large.0 (ap failed is)).1 in
      absurd (omega (arith, over, under, fits.0.scopes))
  late_refusal error unlike large under fits (inr (inr is)) =
      let like : ¬ IsUnlike old thread stream = (λ apart. not_both error (same_error error UnlikeForms (unlike.1 apart)) is) in
      inr (inr (ids, like, inr (inr (is, fits.0, fits.1))))

-- what an accepted report leaves, part by part
pub reported_as : (old : Collected) (thread : ThreadKey) (more : List Details) (stream : StreamFacts) (index reported : ℕ)
    (streams : Streams) (new : List Details)
    → index ≡ old.index → reported ≡ old.reported + stream.num_scopes → streams ≡ reported_to old.streams thread stream
    → new ≡ old.new_details ++ more
    → record old { index = index; reported = reported; streams = streams; new_details = new } ≡ after_report old thread more stream
reported_as old thread more stream index reported streams new index_is reported_is streams_are new_are = λ i. record old {
  index = index_is i;
  reported = reported_is i;
  streams = streams_are i;
  new_details = new_are i;
}

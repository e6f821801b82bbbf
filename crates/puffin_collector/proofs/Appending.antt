-- A report with details does what a report of no details does, after its details were appended to the new ones.
use Rattle.std.proofs.Common.{◌≡◌, ℕ, ◌++◌, inl, inr, List, [], map, length, take, ap, ◌∙◌, sym}
use Rattle.std.specs.Prelude.{IsSome}
use Rattle.std.specs.Arc.{arc_value}
use Rattle.std.specs.declared.sync.Arc.{Arc}
use Rattle.std.proofs.lemmas.List.{append-nil, length-map, map-append, take-map, take_at}
use Rattle.std.proofs.lemmas.List.Elements.{All-nil}
use Rattle.puffin_data.specs.declared.error.Error.{Error}
use Rattle.puffin_data.specs.Honesty.{StreamFacts}
use Rattle.puffin_threads.specs.Thread.ThreadKey.{ThreadKey}
use Rattle.puffin_threads.specs.declared.scope_details.details.ScopeDetails.{ScopeDetails}
use Rattle.puffin_threads.specs.Details.{Details, details_of, shared_details, AllHaveIds}
use Rattle.puffin_collector.specs.Collector.State.{Collected, PendingFits, IsSumRefusal, IsReportRefusal, AcceptsReport, after_report}

-- no details all have ids
pub no_ids : AllHaveIds []
no_ids = All-nil (λ one. IsSome one.id)

-- `all` are the new details once those of the report were appended: they have no part in sums and causes
module _ (old : Collected) (all : List Details) (stream : StreamFacts) where
  abbrev appended : Collected
  appended = record old { new_details = all }

  -- the sums don't count details, so they fit with those of the report exactly if they fit without
  fits_before : PendingFits appended stream → PendingFits old stream
  fits_before fits = record { bytes = fits.bytes; scopes = fits.scopes; reported = fits.reported }

  fits_after : PendingFits old stream → PendingFits appended stream
  fits_after fits = record { bytes = fits.bytes; scopes = fits.scopes; reported = fits.reported }

  -- so the sums give the same cause
  sums_before : (cause : Error) → IsSumRefusal appended stream cause → IsSumRefusal old stream cause
  sums_before cause (inl (is, too_large)) = inl (is, λ fits. too_large (fits_after fits))
  sums_before cause (inr (inl (is, fits, too_long))) = inr (inl (is, fits_before fits, too_long))
  sums_before cause (inr (inr (is, fits, not_too_long))) = inr (inr (is, fits_before fits, not_too_long))

  -- and the report is refused with the same cause, if its details have ids
  pub refused_before : (thread : ThreadKey) (details : List Details) (cause : Error) → AllHaveIds details
      → IsReportRefusal appended thread [] stream cause → IsReportRefusal old thread details stream cause
  refused_before thread details cause ids (inl (is, missing)) = absurd (missing no_ids)
  refused_before thread details cause ids (inr (inl (is, _, unlike))) = inr (inl (is, ids, unlike))
  refused_before thread details cause ids (inr (inr (_, like, sums))) = inr (inr (ids, like, sums_before cause sums))

  -- it leaves the same
  after_before : (thread : ThreadKey) (details : List Details) → all ≡ old.new_details ++ details
      → after_report appended thread [] stream ≡ after_report old thread details stream
  after_before thread details is =
      ap (λ (new : List Details). record (after_report appended thread [] stream) { new_details = new }) (append-nil all ∙ is)

  -- and is accepted alike
  pub accepted_before : (thread : ThreadKey) (details : List Details) (new : Collected) → AllHaveIds details
      → all ≡ old.new_details ++ details → AcceptsReport appended thread [] stream new → AcceptsReport old thread details stream new
  accepted_before thread details new ids is (grown, _, like, fits, not_too_long) =
      (grown ∙ after_before thread details is, ids, like, fits_before fits, not_too_long)

-- the first n details are those that were there before others were appended
pub seen_before : {A : Type 0} (n : ℕ) (old more new : List (Arc ScopeDetails A)) → length old ≡ n
    → shared_details new ≡ shared_details (old ++ more) → shared_details (take n new) ≡ shared_details old
seen_before n old more new size is =
    let read = λ (one : Arc ScopeDetails _). details_of (arc_value one) in
    sym (take-map read n new)
    ∙ ap (take n) (is ∙ map-append read old more)
    ∙ take_at (map read old) (map read more) n (length-map old read ∙ size)

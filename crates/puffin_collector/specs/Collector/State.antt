-- What a profiler collects for its next frame, and how each call changes it.
pub use Rattle.puffin_frames.specs.Frame.Contents.{no_scopes, reported_to}
use Rattle.std.specs.Prelude.{◌≡◌, ℕ, ◌+◌, ◌^◌, ◌<◌, ℤ, List, [], ◌∷◌, ◌++◌, Bool, true, false, if◌then◌else◌, length, ◌⊎◌, refl}
use Rattle.std.specs.FinMap as map
use Rattle.std.specs.Coded.{Coded, code_by, coded×, coded_ℕ, coded_list, coded_bool}
use Rattle.puffin_data.specs.declared.error.Error.{Error}
use Rattle.puffin_data.specs.declared.error.Error.TheVariants.{MissingId, UnlikeForms, TooLarge, RangeTooLong, Memory}
use Rattle.puffin_data.specs.Honesty.{StreamFacts, AreUnlike}
use Rattle.puffin_threads.specs.Thread.ThreadKey.{ThreadKey}
use Rattle.puffin_threads.specs.Details.{Details, details_code, AllHaveIds}
use Rattle.puffin_threads.specs.Details.Collection.{Collection, collection_code, no_details, with_all_details}
use Rattle.puffin_frames.specs.Frame.Contents.{Streams, streams_code, stream_under}
use Rattle.puffin_frames.specs.Frame.Sums.{total_bytes, total_scopes, joined_range, IsOrdered, DurationFits}

-- What a profiler holds between two calls.
pub record Collected : Type 0 where
  -- the index of the next frame
  pub index : ℕ
  -- how many scopes were ever reported, and how many of them were handed out in frames
  pub reported : ℕ
  pub emitted : ℕ
  -- what is pending: the streams of the next frame, by thread
  pub streams : Streams
  -- the details that are known, and those that are new in the next frame, in order
  pub collection : Collection
  pub new_details : List Details
  -- whether a snapshot is wanted: the next frame is to list all known details
  pub wants_all : Bool

-- the encoding of this state for contracts: the tuple of its fields
abbrev pub collected_code : Coded Collected
collected_code =
    code_by (ℕ × (ℕ × (ℕ × (Streams × (Collection × (List Details × Bool))))))
    (coded× coded_ℕ (coded× coded_ℕ (coded× coded_ℕ (coded× streams_code (
    coded× collection_code (coded× (coded_list details_code) coded_bool))))))
    (λ all.
    (all.index, (all.reported, (all.emitted, (all.streams, (all.collection, (all.new_details, all.wants_all)))))))
    (λ parts. record {
      index = parts.0;
      reported = parts.1.0;
      emitted = parts.1.1.0;
      streams = parts.1.1.1.0;
      collection = parts.1.1.1.1.0;
      new_details = parts.1.1.1.1.1.0;
      wants_all = parts.1.1.1.1.1.1;
    })
    (λ _. refl)

-- nothing was reported and no details are known; the next frame has this index
abbrev pub nothing_collected : ℕ → Collected
nothing_collected index = record {
  index = index;
  reported = 0;
  emitted = 0;
  streams = map.empty;
  collection = no_details;
  new_details = [];
  wants_all = false;
}

-- ---- reports: a thread reports a stream, and the details of its new scopes

-- after a report: its stream is appended to what is pending under the thread
abbrev pub after_report : Collected → ThreadKey → (details : List Details) → (stream : StreamFacts) → Collected
after_report old thread details stream = record old {
  reported = old.reported + stream.num_scopes;
  streams = reported_to old.streams thread stream;
  new_details = old.new_details ++ details;
}

-- together with this stream, what is pending has sums that fit 64 bits
pub record PendingFits (old : Collected) (stream : StreamFacts) : Type 0 where
  pub bytes : total_bytes (map.values old.streams) + length stream.bytes < 2 ^ 64
  pub scopes : total_scopes (map.values old.streams) + stream.num_scopes < 2 ^ 64
  pub reported : old.reported + stream.num_scopes < 2 ^ 64

-- the joined range of all that is pending and this stream
abbrev pub range_with : Collected → StreamFacts → ℤ × ℤ
range_with old stream = joined_range (stream ∷ map.values old.streams)

-- the range is too long: it isn't reversed, and its duration doesn't fit i64
abbrev pub IsTooLong : ℤ × ℤ → Type 0
IsTooLong range = IsOrdered range × ¬ DurationFits range

-- what is pending under a thread and what the thread reports have bytes in unlike forms
abbrev pub IsUnlike : Collected → ThreadKey → StreamFacts → Type 0
IsUnlike old thread stream = AreUnlike (stream_under old.streams thread) stream

-- why a report is refused although its details have ids and its form fits what is pending: the first cause that applies
abbrev pub IsSumRefusal : Collected → StreamFacts → (cause : Error) → Type 0
IsSumRefusal old stream cause =
    ((cause ≡ TooLarge) × ¬ PendingFits old stream)
    ⊎ ((cause ≡ RangeTooLong) × PendingFits old stream × IsTooLong (range_with old stream))
    ⊎ ((cause ≡ Memory) × PendingFits old stream × ¬ IsTooLong (range_with old stream))

-- why a report is refused: the first cause that applies
abbrev pub IsReportRefusal : Collected → ThreadKey → (details : List Details) → (stream : StreamFacts) →
    (cause : Error) → Type 0
IsReportRefusal old thread details stream cause =
    ((cause ≡ MissingId) × ¬ AllHaveIds details)
    ⊎ ((cause ≡ UnlikeForms) × AllHaveIds details × IsUnlike old thread stream)
    ⊎ (AllHaveIds details × (¬ IsUnlike old thread stream) × IsSumRefusal old stream cause)

-- what an accepted report does, and that no cause of a refusal applied but that there is no memory
abbrev pub AcceptsReport : (old : Collected) → ThreadKey → (details : List Details) → (stream : StreamFacts) →
    (new : Collected) → Type 0
AcceptsReport old thread details stream new =
    (new ≡ after_report old thread details stream)
    × AllHaveIds details
    × (¬ IsUnlike old thread stream)
    × PendingFits old stream
    × ¬ IsTooLong (range_with old stream)

-- a refused report changes nothing, and tells the first cause that applies
abbrev pub RefusesReport : (old : Collected) → ThreadKey → (details : List Details) → (stream : StreamFacts) →
    (cause : Error) → (new : Collected) → Type 0
RefusesReport old thread details stream cause new =
    IsReportRefusal old thread details stream cause × (new ≡ old)

-- ---- frames

-- all details of a collection, sorted by id
abbrev pub all_details : Collection → List Details
all_details collection = map.values collection.by_id

-- the details that a frame lists: the new ones, and then all known ones if a snapshot is wanted
abbrev pub delta_of : Collection → List Details → Bool → List Details
delta_of collection new wanted = new ++ (if wanted then all_details collection else [])

-- after a frame with all that was pending
abbrev pub after_frame : Collected → Collected
after_frame old = record old {
  index = old.index + 1;
  emitted = old.reported;
  streams = map.empty;
  collection = with_all_details old.collection old.new_details;
  new_details = [];
  wants_all = false;
}

-- after a call that found no pending scope, and so made no frame
abbrev pub after_no_frame : Collected → Collected
after_no_frame old = record old { index = old.index + 1 }

-- after these details became known, which no frame lists as new
abbrev pub after_learning : Collected → List Details → Collected
after_learning old learnt = record old { collection = with_all_details old.collection learnt }

-- after a snapshot was asked for
abbrev pub after_wanting : Collected → Collected
after_wanting old = record old { wants_all = true }

-- ---- the caller's own scopes

-- after these details became known, which are new in the next frame
abbrev pub after_adding : Collected → List Details → Collected
after_adding old new = record old {
  collection = with_all_details old.collection new;
  new_details = old.new_details ++ new;
}

-- What a file of frames is summed up as, and why it isn't.
use Rattle.std.proofs.Common.{◌≡◌, ℕ, suc, ◌-◌, ◌^◌, ◌<◌, List, [], ◌∷◌, ◌++◌, length, map, Result, Ok, Err, Bool, true, false, ◌⊎◌, inl, inr, refl, sym, ap, subst, ◌∙◌}
use Rattle.std.specs.Prelude.{Option, Some, None, if◌then◌else◌, ◌≢◌}
use Rattle.std.specs.List.{list_any, flat_map}
use Rattle.puffin_data.specs.declared.error.Error.{Error}
use Rattle.puffin_data.specs.declared.error.Error.TheVariants.{Memory, MissingId}
use Rattle.puffin_data.specs.declared.file_error.FileError.{FileError}
use Rattle.puffin_data.specs.declared.file_error.FileError.TheVariants as file
use Rattle.puffin_data.specs.Device.{IsOutside}
use Rattle.puffin_threads.specs.Thread.ThreadKey.{ThreadKey}
use Rattle.puffin_frames.specs.Frame.Streams.{Streams}
use Rattle.puffin_frames.specs.Frame.Holding.{Packing, streams_in, or_bad, unpacking}
use Rattle.puffin_threads.specs.Details.{Details}
use Rattle.puffin_frames.specs.Packet.Kinds.{is_uncompressed, to_byte}
use Rattle.puffin_frames.specs.Packet.Stored.{PacketFields, Stored, packed}
use Rattle.puffin_view.specs.View.File.{file_of, fields_in, details_stored, file_at, TookFrames, FailsToRead}
use Rattle.puffin_merge.specs.Merge.FrameBytes.{FrameBytes}
use Rattle.puffin_view.specs.View.Known.{lacks_ids}
use Rattle.puffin_view.specs.View.{View}
use Rattle.puffin_report.specs.declared.summary.Summary.{Summary}
use Rattle.puffin_report.specs.Summary.{NoneLacksIds, bytes_under, bytes_in, followed_by, all_bytes_in, fields_read, SumsUp, IsSummary, details_said, IsHindered, FailsToSumUp}

-- ---- how many there are

-- as many as there are frames
counted : (b : Result FrameBytes FileError) (r : Result (List FrameBytes) FileError) (n : ℕ) (bs : List FrameBytes)
    → ((os : List FrameBytes) → r ≡ Ok os → length os ≡ n) → followed_by b r ≡ Ok bs → length bs ≡ suc n
counted (Err cause) r n bs rest e = absurd (cc)
counted (Ok b) (Err cause) n bs rest e = absurd (cc)
counted (Ok b) (Ok os) n bs rest e = let same : b ∷ os ≡ bs = cc in sym (ap length same) ∙ ap suc (rest os refl)

pub size_of_all : (info : ThreadKey) (cs : List PacketFields) (bs : List FrameBytes) → all_bytes_in info cs ≡ Ok bs → length bs ≡ length cs
size_of_all info [] bs e = let same : [] ≡ bs = cc in sym (ap length same)
size_of_all info (c ∷ cs) bs e = counted (bytes_in info c) (all_bytes_in info cs) (length cs) bs (λ os k. size_of_all info cs os k) e

-- ---- why a frame isn't unpacked

NoIo : FileError → Type 0
NoIo e = e ≡ file.Io → ⊥

bad_streams : (o : Option Streams) (e : FileError) → or_bad o ≡ Err e → NoIo e
unfolding NoIo
bad_streams None e is io = cc
bad_streams (Some s) e is io = cc

either : (b : Bool) (x y : Result Streams FileError) (e : FileError) → (x ≡ Err e → NoIo e) → (y ≡ Err e → NoIo e)
    → (if b then x else y) ≡ Err e → NoIo e
either true x y e h k is = h is
either false x y e h k is = k is

compressed : (k : ℕ) (e : FileError) → ◌≡◌ {A = Result Streams FileError} (Err (file.Compressed k)) (Err e) → NoIo e
unfolding NoIo
compressed k e is io = cc

not_unpacked : (p : Packing) (e : FileError) → unpacking p ≡ Err e → NoIo e
not_unpacked p e is =
    either (is_uncompressed p.kind) _ (Err (file.Compressed (to_byte p.kind))) e (bad_streams _ e)
    (compressed (to_byte p.kind) e) is

under : (info : ThreadKey) (c : PacketFields) (r : Result Streams FileError) (e : FileError) → bytes_under info c r ≡ Err e → (r ≡ Err e)
under info c (Ok streams) e is = absurd (cc)
under info c (Err cause) e is = let same : cause ≡ e = cc in ap (λ (x : FileError). Err x) same

first_or_later : (b : Result FrameBytes FileError) (r : Result (List FrameBytes) FileError) (e : FileError)
    → followed_by b r ≡ Err e → (b ≡ Err e) ⊎ (r ≡ Err e)
first_or_later (Err cause) r e is = let same : cause ≡ e = cc in inl (ap (λ (x : FileError). Err x) same)
first_or_later (Ok b) (Err cause) e is = let same : cause ≡ e = cc in inr (ap (λ (x : FileError). Err x) same)
first_or_later (Ok b) (Ok os) e is = absurd (cc)

none_io : (info : ThreadKey) (cs : List PacketFields) (e : FileError) → all_bytes_in info cs ≡ Err e → NoIo e
none_io info [] e is = absurd (cc)
none_io info (c ∷ cs) e is = elim (first_or_later (bytes_in info c) (all_bytes_in info cs) e is) [
  | inl first ↦
      not_unpacked (record { form = c.form; kind = c.kind; bytes = c.streams }) e
      (under info c (unpacking (record { form = c.form; kind = c.kind; bytes = c.streams })) e first)
  | inr later ↦ none_io info cs e later
]

pub never_io : (info : ThreadKey) (cs : List PacketFields) (e : FileError) → all_bytes_in info cs ≡ Err e → e ≢ file.Io
unfolding NoIo
never_io info cs e is = none_io info cs e is

pub is_memory : (e : Error) → (e ≡ Memory) ⊎ (e ≡ Memory → ⊥)
is_memory Memory = inl refl
is_memory e = inr (λ h. cc)

-- ---- what was written

details_again : (cs : List PacketFields) → flat_map details_stored (map packed cs) ≡ details_said cs
details_again [] = refl
details_again (c ∷ cs) = ap (λ (ds : List Details). c.details ++ ds) (details_again cs)

abbrev pub FieldsAgain : Type 0
FieldsAgain = (v : View) → length (fields_in v) < 2 ^ 64 - 1 → fields_read (map packed (fields_in v)) ≡ fields_in v

-- the frames that are read are those that were written
pub summed_again : (info : ThreadKey) (v : View) (stored : List Stored) (summary : Summary) → FieldsAgain
    → length (fields_in v) < 2 ^ 64 - 1 → stored ≡ map packed (fields_in v) → IsSummary info stored summary
    → SumsUp info (fields_in v) (details_said (fields_in v)) summary
summed_again info v stored summary again few is sums =
    subst (λ (ds : List Details). SumsUp info (fields_in v) ds summary) (details_again (fields_in v))
    (subst (λ (cs : List PacketFields). SumsUp info cs (flat_map details_stored (map packed (fields_in v))) summary)
    (again v few) (subst (λ (ss : List Stored). IsSummary info ss summary) is sums))

abbrev pub FailsForIds : View → Option (List ℕ) → FileError → Type 0
FailsForIds v new e =
    FailsToRead file_at (Some (file_of (fields_in v))) new e → (IsOutside e → ⊥)
    → (e ≡ file.Refused MissingId) × (list_any lacks_ids (fields_in v) ≡ true)

lack_none : (b : Bool) → b ≡ true → b ≡ false → ⊥
lack_none b lacks none = cc

pub hindered_again : (info : ThreadKey) (v : View) (new : Option (List ℕ)) (e : FileError) → FieldsAgain
    → length (fields_in v) < 2 ^ 64 - 1 → NoneLacksIds (fields_in v) → FailsForIds v new e
    → ((stored : List Stored) → TookFrames file_at (Some (file_of (fields_in v))) new stored → stored ≡ map packed (fields_in v))
    → FailsToSumUp info (Some (file_of (fields_in v))) new e → (IsOutside e → ⊥) → IsHindered info (fields_in v) e
hindered_again info v new e again few ids for_ids frames (inl fails) inside =
    absurd (lack_none (list_any lacks_ids (fields_in v)) (for_ids fails inside).1 ids)
hindered_again info v new e again few ids for_ids frames (inr (stored, took, hindered)) inside =
    subst (λ (cs : List PacketFields). IsHindered info cs e) (ap fields_read (frames stored took) ∙ again v few) hindered

-- what packed bytes hold is what they are unpacked to
held_unpacked : (o : Option Streams) (s : Streams) → o ≡ Some s → or_bad o ≡ Ok s
held_unpacked None s is = cc
held_unpacked (Some t) s is = let same : t ≡ s = cc in ap (λ (x : Streams). Ok x) same

of_kind : (b : Bool) (k : ℕ) (o : Option Streams) (s : Streams) → (if b then o else None) ≡ Some s
    → (if b then or_bad o else Err (file.Compressed k)) ≡ Ok s
of_kind true k o s is = held_unpacked o s is
of_kind false k o s is = cc

pub unpacked_again : (p : Packing) (s : Streams) → streams_in p ≡ Some s → unpacking p ≡ Ok s
unpacked_again p s is = of_kind (is_uncompressed p.kind) (to_byte p.kind) _ s is

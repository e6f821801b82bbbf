-- Packing and unpacking keep what a frame holds.
use Rattle.std.proofs.Common.{◌≡◌, ℕ, Bool, true, false, cond, List, Option, Some, None, Result, Ok, Err, IfOk, refl, sym, ap, subst, ◌∙◌}
use Rattle.std.specs.Prelude.{◌↔◌, IfSome}
use Rattle.std.specs.Option.{option_map}
use Rattle.std.specs.FinMap.{entries, from_sorted, entries-from_sorted}
use Rattle.std.proofs.lemmas.Option.{same_Some}
use Rattle.puffin_data.specs.declared.file_error.FileError.{FileError}
use Rattle.puffin_data.specs.declared.file_error.FileError.TheVariants as file
use Rattle.puffin_data.specs.declared.data.form.Form.{Form}
use Rattle.puffin_data.specs.Honesty.{StreamFacts}
use Rattle.puffin_data.specs.Value.Layout.{IsBytes}
use Rattle.puffin_data.specs.Value.Decoding.{whole}
use Rattle.puffin_data.proofs.lemmas.Readers.{whole_taken}
use Rattle.puffin_frames.specs.declared.frame_data.held.Held.{Held}
use Rattle.puffin_frames.specs.declared.frame_data.held.Held.TheVariants.{Own, Shared, Packed, Both}
use Rattle.std.proofs.Props.{props}
use Rattle.puffin_frames.specs.declared.frame_data.frame.FrameData.{FrameData}
use Rattle.puffin_frames.specs.Frame.Sums.{IsOrdered, DurationFits}
use Rattle.puffin_frames.specs.Frame.Contents.{packed_as, held_as, fields_from}
use Rattle.puffin_frames.specs.Frame.Variants.{HasMeta, HasMeta-prop}
use Rattle.puffin_frames.specs.declared.frame_data.kind.Kind.{Kind}
use Rattle.puffin_frames.specs.declared.frame_data.kind.Kind.TheVariants.{Uncompressed, Lz4, Zstd}
use Rattle.puffin_frames.specs.declared.frame_data.meta.FrameMeta.{FrameMeta}
use Rattle.puffin_threads.specs.Details.{Details}
use Rattle.puffin_frames.specs.Packet.Kinds.{to_byte, is_uncompressed}
use Rattle.puffin_frames.specs.Packet.Tries.{DecidedInMemory}
use Rattle.puffin_threads.specs.Thread.ThreadKey.{ThreadKey, key_cmp}
use Rattle.puffin_frames.specs.Frame.Streams.{Streams}
use Rattle.puffin_frames.specs.Packet.Structs.{form_of_all, AreStreams, streams_layout, streams_at}
use Rattle.puffin_frames.specs.Frame.Holding.{Packing, HoldsStreams, AreReadAgain, or_bad, unpacking, unpacked_of, unpacked_from, Holding, streams_in, if_packed, either_content, holding_streams, Agree, IsHolding, packing, packing_of, plainly_packed, as_packed, as_unpacked}
use Rattle.puffin_frames.proofs.Structs.{streams_reader}
use Rattle.puffin_frames.proofs.Listed.{holds}
use Rattle.puffin_frames.proofs.lemmas.PackedAgain.{packed_again}
use Rattle.puffin_frames.proofs.PartsTaken.{same_ok}
use Rattle.puffin_frames.proofs.FormsOfAll.{sorted_in, form_stored}

-- the streams that packed bytes spell, whichever way the packing is said to be compressed
abbrev decoded_in : Packing → Option Streams
decoded_in packing = option_map from_sorted (whole (streams_at packing.form) packing.bytes)

-- what a frame says goes by its meta and its packing
pub fields_same : (meta other_meta : FrameMeta) (packing other_packing : Packing) (details : List Details) →
    meta ≡ other_meta → packing ≡ other_packing →
    fields_from meta packing details ≡ fields_from other_meta other_packing details
fields_same meta other_meta packing other_packing details metas packings =
    ap (λ changed. fields_from changed packing details) metas
    ∙ ap (λ changed. fields_from other_meta changed details) packings

-- A frame whose way to be held is replaced by an equal one is the same frame. The facts that it keeps have one proof each.
pub with_held : (frame : FrameData) (other : Held) (ordered : IsOrdered frame.meta.range_ns)
    (fits : DurationFits frame.meta.range_ns) (same : HasMeta other frame.meta) →
    frame.held ≡ other →
    record frame { held = other; ordered = ordered; duration_fits = fits; same_meta = same } ≡ frame
with_held frame other ordered fits same is =
    let ordered_once : IsProp (IsOrdered frame.meta.range_ns) = Prim.hlevel props in
    let fits_once : IsProp (DurationFits frame.meta.range_ns) = Prim.hlevel props in
    subst (λ (way : Held). (has_meta : HasMeta way frame.meta) →
    record frame { held = way; ordered = ordered; duration_fits = fits; same_meta = has_meta } ≡ frame) is
    (λ has_meta. λ i. record frame {
      ordered = ordered_once ordered frame.ordered i;
      duration_fits =
          fits_once fits frame.duration_fits i;
      same_meta = HasMeta-prop frame.held frame.meta has_meta frame.same_meta i;
    })
    same

-- a packing has the streams that the frame has, since the two ways of holding them agree
packing-keeps : (packed : Option Packing) (streams : Option Streams) →
    Agree packed streams →
    streams_in (packing packed streams) ≡ either_content packed streams
packing-keeps None None agree = absurd agree
packing-keeps (Some given) None agree = refl
packing-keeps None (Some there) agree = agree
packing-keeps (Some given) (Some there) agree = agree

-- a frame has the same streams once it is held packed only
pub pack-keeps : (holding : Holding) → IsHolding holding → holding_streams (as_packed holding) ≡ holding_streams holding
pack-keeps holding agree = packing-keeps holding.packed holding.unpacked agree

-- a frame that is held packed and whose streams are then held unpacked, too, has the same streams
unpacking-keeps : (packing : Option Packing) (streams : Option Streams) →
    either_content packing (either_content packing streams) ≡ either_content packing streams
unpacking-keeps packing (Some there) = refl
unpacking-keeps None None = refl
unpacking-keeps (Some given) None = kept (Some given) (streams_in given) refl
  where
    -- found there or not: what is packed beside what was found in it has that
    kept : (packed : Option Packing) (found : Option Streams) → if_packed packed ≡ found → either_content packed found ≡ found
    kept packed None same = same
    kept packed (Some there) same = refl

-- a frame has the same streams once it is unpacked
pub unpack-keeps : (holding : Holding) → holding_streams (as_unpacked holding) ≡ holding_streams holding
unpack-keeps holding = unpacking-keeps holding.packed holding.unpacked

-- ---- packed bytes and the streams whose layout they are

-- decoded streams are a map that was made of decoded pairs
pairs_decoded : (decoded : Option (List (ThreadKey × StreamFacts))) (streams : Streams) →
    option_map from_sorted decoded ≡ Some streams →
    (pairs : List (ThreadKey × StreamFacts)) × (decoded ≡ Some pairs) × (from_sorted pairs ≡ streams)
pairs_decoded None streams same = absurd cc
pairs_decoded (Some pairs) streams same = (pairs, refl, same_Some (from_sorted pairs) streams same)

-- only one kind is uncompressed
uncompressed : (kind : Kind) → is_uncompressed kind ≡ true → kind ≡ Uncompressed
uncompressed Uncompressed plain = refl
uncompressed Lz4 plain = absurd cc
uncompressed Zstd plain = absurd cc

-- What is read from packed bytes are the streams whose layout they are: the pairs that are read are in order, and a map of them gives
-- them back.
streams_taken : (packing : Packing) (streams : Streams) →
    IsBytes packing.bytes → streams_in packing ≡ Some streams →
    HoldsStreams packing streams
streams_taken packing streams are_bytes read =
    let (plain, decoded) = found_plain (is_uncompressed packing.kind) (decoded_in packing) streams read in
    let (pairs, whole_bytes, made) = pairs_decoded (whole (streams_at packing.form) packing.bytes) streams decoded in
    let (fit, layout) =
    whole_taken (AreStreams packing.form) (streams_layout packing.form) (streams_at packing.form)
    (streams_reader packing.form) packing.bytes pairs are_bytes whole_bytes in
    let (_all_fit, ordered) = fit in
    let back : entries streams ≡ pairs =
    ap entries (sym made) ∙ entries-from_sorted key_cmp pairs (holds _ (sorted_in packing.form pairs ordered)) in (
      uncompressed packing.kind plain,
      subst (AreStreams packing.form) (sym back) fit,
      layout ∙ ap (streams_layout packing.form) (sym back),
    )
  where
    -- streams that are in a packing, which are only in an uncompressed one: it is uncompressed, and they were decoded
    found_plain : (plain : Bool) (decoded : Option Streams) (streams : Streams) →
        cond plain decoded None ≡ Some streams →
        (plain ≡ true) × (decoded ≡ Some streams)
    found_plain true decoded streams found = (refl, found)
    found_plain false decoded streams found = absurd cc

-- packed bytes that hold streams are what packing them gives
same_packing : (packing : Packing) (streams : Streams) →
    HoldsStreams packing streams →
    packing ≡ plainly_packed streams
same_packing packing streams (plain, fit, layout) =
    let form : packing.form ≡ form_of_all (entries streams) = form_stored packing.form (entries streams) fit in
    ap (λ (kind : Kind). record packing { kind = kind }) plain
    ∙ ap (λ (bytes : List ℕ). record { form = packing.form; kind = Uncompressed; bytes = bytes }) layout
    ∙ ap (λ (any : Form). record { form = any; kind = Uncompressed; bytes = streams_layout any (entries streams) }) form

-- packed bytes that hold streams are read as these
streams_given : (packing : Packing) (streams : Streams) → HoldsStreams packing streams → streams_in packing ≡ Some streams
streams_given packing streams (plain, fit, layout) =
    let form : packing.form ≡ form_of_all (entries streams) = form_stored packing.form (entries streams) fit in
    let fit_packed = subst (λ (any : Form). AreStreams any (entries streams)) form fit in
    ap streams_in (same_packing packing streams (plain, fit, layout)) ∙ packed_again streams fit_packed

-- packed bytes hold just the streams that are read from them
pub holds_streams : (packing : Packing) (streams : Streams) →
    IsBytes packing.bytes →
    (streams_in packing ≡ Some streams) ↔ HoldsStreams packing streams
holds_streams packing streams are_bytes = (streams_taken packing streams are_bytes, streams_given packing streams)

-- ---- what unpacking gives

-- streams that unpacking gives are in the packed bytes
in_if_unpacked : (plain : Bool) (kind : ℕ) (decoded : Option Streams) (streams : Streams) →
    cond plain (or_bad decoded) (Err (file.Compressed kind)) ≡ Ok streams →
    cond plain decoded None ≡ Some streams
in_if_unpacked true kind None streams same = absurd cc
in_if_unpacked true kind (Some found) streams same = ap Some (same_ok found streams same)
in_if_unpacked false kind decoded streams same = absurd cc

-- what was unpacked is read again, packed as it is
pub unpacked-again : (packing : Packing) (streams : Streams) →
    IsBytes packing.bytes → unpacking packing ≡ Ok streams →
    AreReadAgain streams
unpacked-again packing streams are_bytes unpacked =
    let inside : streams_in packing ≡ Some streams =
    in_if_unpacked (is_uncompressed packing.kind) (to_byte packing.kind) (decoded_in packing) streams unpacked in
    let as_packed_plainly : packing ≡ plainly_packed streams =
    same_packing packing streams (streams_taken packing streams are_bytes inside) in
    ap streams_in (sym as_packed_plainly) ∙ inside

-- no streams are in bytes that unpacking refuses as bad
none_if_bad : (plain : Bool) (kind : ℕ) (decoded : Option Streams) (streams : Streams) →
    cond plain (or_bad decoded) (Err (file.Compressed kind)) ≡ Err file.BadStreams →
    cond plain decoded None ≡ Some streams →
    ⊥
none_if_bad true kind None streams bad inside = absurd cc
none_if_bad true kind (Some found) streams bad inside = absurd cc
none_if_bad false kind decoded streams bad inside = absurd cc

-- streams that are in packed bytes are what unpacking gives
unpacked_if_in : (plain : Bool) (decoded : Option Streams) (cause : FileError) (streams : Streams) →
    cond plain decoded None ≡ Some streams →
    Ok streams ≡ cond plain (or_bad decoded) (Err cause)
unpacked_if_in true decoded cause streams inside = ap or_bad (sym inside)
unpacked_if_in false decoded cause streams inside = absurd cc

-- a frame that is held unpacked has the streams in its packet
unpacks : (packed : Option Packing) (streams : Option Streams) →
    Agree packed streams →
    unpacked_of packed streams ≡ unpacking (packing packed streams)
unpacks None None agree = absurd agree
unpacks (Some given) None agree = refl
unpacks None (Some streams) agree = ap or_bad (sym agree)
unpacks (Some given) (Some streams) agree =
    unpacked_if_in (is_uncompressed given.kind) (decoded_in given) (file.Compressed (to_byte given.kind)) streams agree

-- the same of a way to be held
pub unpacks_packing : (holding : Holding) → IsHolding holding → unpacked_from holding ≡ unpacking (packing_of holding)
unpacks_packing holding agree = unpacks holding.packed holding.unpacked agree

-- the streams that are handed out are those whose layout the packed bytes are
layout_of : (held : Held) (streams : Streams) →
    unpacked_from (held_as held) ≡ Ok streams →
    IfSome (held_as held).packed (λ packing. HoldsStreams packing streams)
layout_of (Own frame) streams unpacked = tt
layout_of (Shared frame) streams unpacked = tt
layout_of (Packed packing) streams unpacked =
    let inside = in_if_unpacked (is_uncompressed packing.kind) (to_byte packing.kind) (decoded_in (packed_as packing)) streams unpacked in
    streams_taken (packed_as packing) streams packing.are_bytes inside
layout_of (Both both) streams unpacked =
    streams_taken (packed_as both.packed) streams both.packed.are_bytes (both.same ∙ ap Some (same_ok _ streams unpacked))

-- the same of a call's result, through which the streams are seen, if it is no fault
pub unpacked_layout : {X : Type 0} (view : X → Streams) (held : Held) (result : Result X FileError) →
    DecidedInMemory view result (unpacked_from (held_as held)) →
    IfOk result (λ x. IfSome (held_as held).packed (λ packing. HoldsStreams packing (view x)))
unpacked_layout view held (Ok value) decided = layout_of held (view value) decided
unpacked_layout view held (Err cause) decided = tt

-- packed bytes that are refused as bad are the layout of no streams; what is held unpacked is not refused
bad_of : (held : Held) →
    unpacked_from (held_as held) ≡ Err file.BadStreams →
    IfSome (held_as held).packed (λ packing. (streams : Streams) → HoldsStreams packing streams → ⊥)
bad_of (Own frame) bad = tt
bad_of (Shared frame) bad = tt
bad_of (Packed packing) bad = λ streams holds_them.
    none_if_bad (is_uncompressed packing.kind) (to_byte packing.kind) (decoded_in (packed_as packing)) streams bad
    (streams_given (packed_as packing) streams holds_them)
bad_of (Both both) bad = absurd cc

-- the same of a call's result
pub unpacked_no_layout : {X : Type 0} (view : X → Streams) (held : Held) (result : Result X FileError) →
    DecidedInMemory view result (unpacked_from (held_as held)) → result ≡ Err file.BadStreams →
    IfSome (held_as held).packed (λ packing. (streams : Streams) → HoldsStreams packing streams → ⊥)
unpacked_no_layout view held result decided bad =
    bad_of held (subst (λ (any : Result _ FileError). DecidedInMemory view any (unpacked_from (held_as held))) bad decided)

-- All of the bytes are the layout of a legacy frame, whose parts are those of the frame that is made.
use Rattle.std.proofs.Common.{◌≡◌, Bool, cond, List, Ok, Err, refl, ap, sym, ◌∙◌, arith}
use Rattle.puffin_data.specs.Honesty.{StreamFacts}
use Rattle.puffin_data.specs.declared.data.form.Form.TheVariants.{Short}
use Rattle.puffin_data.specs.Value.Layout.{IsBytes}
use Rattle.puffin_data.proofs.lemmas.Readers.{whole_taken}
use Rattle.puffin_data.specs.declared.file_error.FileError.TheVariants as file
use Rattle.puffin_frames.specs.declared.frame_data.meta.FrameMeta.{FrameMeta}
use Rattle.puffin_threads.specs.Thread.ThreadKey.{ThreadKey}
use Rattle.puffin_frames.specs.Frame.Holding.{Holding}
use Rattle.puffin_frames.specs.Frame.Contents.{holding_of}
use Rattle.puffin_frames.specs.inner.Pairs.{pairs_of}
use Rattle.puffin_frames.specs.Packet.Structs.{Legacy, IsLegacy, legacy_layout, legacy_at}
use Rattle.puffin_frames.specs.Packet.Next.{entries_if_any, legacy_of}
use Rattle.puffin_frames.specs.Packet.Parts.{legacy_from, legacy_with_range}
use Rattle.puffin_frames.specs.Frame.Contents.{shared_streams}
use Rattle.puffin_frames.proofs.Listed.{entries-listed}
use Rattle.puffin_frames.proofs.Structs.{legacy_reader}
use Rattle.puffin_frames.proofs.Layouts.{stored_plainly}
use Rattle.puffin_frames.proofs.lemmas.PackedAgain.{packed_again}
use Rattle.puffin_frames.proofs.frame_data.reading.parse_legacy.Goals as goal

pub returns-clause-decided : goal.returns-clause-decided
returns-clause-decided c =
    let meta : FrameMeta = c.in-Ok.frame.0 in
    let shared = c.in-Ok.frame.1.entries in
    let stored : Legacy = record { meta = meta; streams = pairs_of shared } in
    let frame = c.from_unpacked.result in
    let first : legacy_from c.args.bytes.now ≡ Ok stored =
    ap legacy_with_range c.in-Ok.ensures.given
    ∙ ap (λ (valid : Bool). cond valid (Ok stored) (Err file.BadRange)) (sym c.if-not-is_valid_range.ensures.test) in
    let streams : entries_if_any (holding_of frame).unpacked ≡ pairs_of shared =
    ap (λ (holding : Holding). entries_if_any holding.unpacked) c.from_unpacked.ensures.held
    ∙ entries-listed shared c.in-Ok.ensures.sorted in
    let same : legacy_of frame ≡ stored =
    ap (λ (other : FrameMeta). record { meta = other; streams = entries_if_any (holding_of frame).unpacked })
    c.from_unpacked.ensures.meta
    ∙ ap (λ (pairs : List (ThreadKey × StreamFacts)). record { meta = meta; streams = pairs }) streams in
    first ∙ ap Ok (sym same)

pub invariant_of-unpacked : goal.invariant_of-unpacked
invariant_of-unpacked c =
    let shared = c.in-Ok.frame.1.entries in
    let stored : Legacy = record { meta = c.in-Ok.frame.0; streams = pairs_of shared } in
    let bytes : IsBytes c.args.bytes.now = λ place. omega (arith, c.type_inv.bytes place) in
    let (fits, whole_layout) =
    whole_taken IsLegacy legacy_layout legacy_at legacy_reader c.args.bytes.now stored bytes c.in-Ok.ensures.given in
    record {
      ordered = c.if-not-is_valid_range.ensures.ordered refl;
      duration_fits = c.if-not-is_valid_range.ensures.duration_fits refl;
      read_again = packed_again (shared_streams shared) (stored_plainly shared Short fits.1.0);
    }

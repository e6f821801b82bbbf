-- The parts are read one after the other: the first that fails is the packet's fault, and three that succeed are a packet.
use Rattle.std.proofs.Common.{◌≡◌, sym, ap, ◌∙◌, subst, ℕ, List, Result, Ok}
use Rattle.std.proofs.lemmas.Result.{err_from_is_err_and}
use Rattle.puffin_data.specs.declared.file_error.FileError.{FileError}
use Rattle.puffin_frames.specs.declared.frame_data.version.Version.{Version}
use Rattle.puffin_threads.specs.Details.{Details}
use Rattle.puffin_frames.specs.declared.frame_data.kind.Kind.{Kind}
use Rattle.puffin_frames.specs.declared.frame_data.meta.FrameMeta.{FrameMeta}
use Rattle.puffin_frames.specs.Packet.Stored.{PacketFields}
use Rattle.puffin_threads.specs.Details.{shared_details}
use Rattle.puffin_data.specs.Device.{FromDevice}
use Rattle.puffin_frames.specs.Frame.Holding.{Packing}
use Rattle.puffin_data.specs.Part.{◌>>=◌}
use Rattle.puffin_frames.specs.Packet.Parts.{meta_part_at, streams_part_at, details_part_at}
use Rattle.puffin_frames.specs.Packet.Versions.{packet_at}
use Rattle.puffin_frames.specs.Packet.Letters.{text_form}
use Rattle.puffin_frames.specs.Frame.Contents.{packed_as}
use Rattle.puffin_data.specs.declared.data.form.Form.{Form}
use Rattle.puffin_data.proofs.lemmas.Devices.{fails_on, gives_on, stops, given}
use Rattle.puffin_frames.proofs.frame_data.reading.read_packed.Goals as goal

-- the packet of these parts
made : Version → FrameMeta → Kind × List ℕ → List Details → PacketFields
made version meta streams details =
    record { meta = meta; form = text_form version; kind = streams.0; streams = streams.1; details = details }

-- what follows the meta, and what follows the streams
after_meta : Version → FrameMeta → List ℕ → Result (PacketFields × List ℕ) FileError
unfolding made
after_meta version meta bytes =
    streams_part_at version bytes >>= λ streams. details_part_at version streams.1 >>= λ details.
    Ok (made version meta streams.0 details.0, details.1)

after_streams : Version → FrameMeta → Kind × List ℕ → List ℕ → Result (PacketFields × List ℕ) FileError
after_streams version meta streams bytes =
    details_part_at version bytes >>= λ details. Ok (made version meta streams details.0, details.1)

-- the streams fail
pub returns-in_err-kind-clause-part : goal.returns-in_err-kind-clause-part
unfolding made after_meta after_streams
returns-in_err-kind-clause-part g c =
    let failed = err_from_is_err_and c.from_residual-in_err-kind.result c.from_residual-in_err-kind.ensures.1 in
    let fault = c.in_err-kind.field-0.0 in
    let version = c.args.version in
    let meta = c.in_ok-meta.meta in
    rw (failed.1, failed.2) (fails_on fault meta _ _ _ meta_part_at (after_meta version) c.in_ok-meta.ensures.part
    (stops fault _ _ (streams_part_at version) (after_streams version meta) c.in_err-kind.ensures.part))

-- the details fail
pub returns-in_err-scope_delta-clause-part : goal.returns-in_err-scope_delta-clause-part
unfolding made after_meta after_streams
returns-in_err-scope_delta-clause-part g c =
    let failed = err_from_is_err_and c.from_residual-in_err-scope_delta.result c.from_residual-in_err-scope_delta.ensures.1 in
    let fault = c.in_err-scope_delta.field-0.0 in
    let version = c.args.version in
    let meta = c.in_ok-meta.meta in
    let streams : (Kind × List ℕ) = (c.in_ok-kind.kind, c.in_ok-kind.bytes.items) in
    rw (failed.1, failed.2) (fails_on fault meta _ _ _ meta_part_at (after_meta version) c.in_ok-meta.ensures.part
    (fails_on fault streams _ _ _ (streams_part_at version) (after_streams version meta) c.in_ok-kind.ensures.part
    (stops fault _ _ (details_part_at version)
    (λ details bytes. Ok (made version meta streams details, bytes)) c.in_err-scope_delta.ensures.part)))

-- all three parts are read
pub returns-clause-part : goal.returns-clause-part
unfolding made after_meta after_streams
returns-clause-part g c =
    let version = c.args.version in
    let meta = c.in_ok-meta.meta in
    let streams : (Kind × List ℕ) = (c.in_ok-kind.kind, c.in_ok-kind.bytes.items) in
    let details = shared_details c.in_ok-scope_delta.scope_delta.items in
    let out : PacketFields = made version meta streams details in
    let says : Packing → PacketFields =
    λ (failed : Packing). record { meta = meta; form = failed.form; kind = failed.kind; streams = failed.bytes; details = details } in
    let same : says (packed_as c.new.result) ≡ out =
    ap says c.new.ensures
    ∙ ap (λ (form : Form). record { meta = meta; form = form; kind = streams.0; streams = streams.1; details = details })
    c.text_form.ensures in
    let old = g.S.Source.remaining c.args.source.now in
    let now = g.S.Source.remaining c.read_details_part.new.source in
    subst (λ (said : PacketFields). FromDevice (λ (got : PacketFields). got) old now (Ok said) (packet_at version)) (sym same)
    (gives_on meta out _ _ _ meta_part_at (after_meta version) c.in_ok-meta.ensures.part
    (gives_on streams out _ _ _ (streams_part_at version) (after_streams version meta) c.in_ok-kind.ensures.part
    (gives_on details out _ _ _ (details_part_at version)
    (λ got bytes. Ok (made version meta streams got, bytes)) c.in_ok-scope_delta.ensures.part
    (given out _))))

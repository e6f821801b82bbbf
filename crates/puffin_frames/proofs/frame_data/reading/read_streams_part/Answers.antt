-- The length, the kind and the bytes are read one after the other: the first that fails is the fault of the part.
use Rattle.std.proofs.Common.{ℕ, List, Result, Ok}
use Rattle.std.proofs.lemmas.Result.{err_from_is_err_and}
use Rattle.puffin_data.specs.declared.file_error.FileError.{FileError}
use Rattle.puffin_data.specs.Part.{◌>>=◌, part_of, part_length_at}
use Rattle.puffin_frames.specs.declared.frame_data.kind.Kind.{Kind}
use Rattle.puffin_frames.specs.declared.frame_data.version.Version.{Version}
use Rattle.puffin_frames.specs.Packet.Parts.{kind_at}
use Rattle.puffin_data.proofs.lemmas.Devices.{fails_on, gives_on, stops, given}
use Rattle.puffin_frames.proofs.frame_data.reading.read_streams_part.Goals as goal

-- what follows the length, and what follows the kind
after_length : Version → ℕ → List ℕ → Result ((Kind × List ℕ) × List ℕ) FileError
after_length version size bytes =
    kind_at version bytes >>= λ kind. part_of size kind.1 >>= λ streams. Ok ((kind.0, streams.0), streams.1)

after_kind : ℕ → Kind → List ℕ → Result ((Kind × List ℕ) × List ℕ) FileError
after_kind size kind bytes = part_of size bytes >>= λ streams. Ok ((kind, streams.0), streams.1)

-- the kind fails
pub returns-in_err-kind-clause-part : goal.returns-in_err-kind-clause-part
unfolding after_length after_kind
returns-in_err-kind-clause-part g c =
    let failed = err_from_is_err_and c.from_residual-in_err-kind.result c.from_residual-in_err-kind.ensures.1 in
    let fault = c.in_err-kind.field-0.0 in
    let version = c.args.version in
    let size = c.in_ok-len.len in
    rw (failed.1, failed.2) (fails_on fault size _ _ _ part_length_at (after_length version) c.in_ok-len.ensures.part
    (stops fault _ _ (kind_at version) (after_kind size) c.in_err-kind.ensures.part))

-- the bytes fail
pub returns-in_err-streams-clause-part : goal.returns-in_err-streams-clause-part
unfolding after_length after_kind
returns-in_err-streams-clause-part g c =
    let failed = err_from_is_err_and c.from_residual-in_err-streams.result c.from_residual-in_err-streams.ensures.1 in
    let fault = c.in_err-streams.field-0.0 in
    let version = c.args.version in
    let size = c.in_ok-len.len in
    let kind = c.in_ok-kind.kind in
    rw (failed.1, failed.2) (fails_on fault size _ _ _ part_length_at (after_length version) c.in_ok-len.ensures.part
    (fails_on fault kind _ _ _ (kind_at version) (after_kind size) c.in_ok-kind.ensures.part
    (stops fault _ _ (part_of size) (λ streams bytes. Ok ((kind, streams), bytes)) c.in_err-streams.ensures.part)))

-- all three are read
pub returns-clause-part : goal.returns-clause-part
unfolding after_length after_kind
returns-clause-part g c =
    let version = c.args.version in
    let size = c.in_ok-len.len in
    let kind = c.in_ok-kind.kind in
    let streams = c.in_ok-streams.streams.items in
    let out : (Kind × List ℕ) = (kind, streams) in
    gives_on size out _ _ _ part_length_at (after_length version) c.in_ok-len.ensures.part
    (gives_on kind out _ _ _ (kind_at version) (after_kind size) c.in_ok-kind.ensures.part
    (gives_on streams out _ _ _ (part_of size) (λ got bytes. Ok ((kind, got), bytes)) c.in_ok-streams.ensures.part
    (given out _)))

-- What is packed is unpacked again.
use Rattle.std.proofs.Common.{◌≡◌, Some, refl, ap, ◌∙◌}
use Rattle.std.specs.Option.{option_map}
use Rattle.std.specs.FinMap.{entries, entries_sorted, from_sorted, entries-from_sorted, same_entries_map}
use Rattle.puffin_data.proofs.lemmas.Readers.{whole_again}
use Rattle.puffin_threads.specs.Thread.ThreadKey.{key_cmp}
use Rattle.puffin_frames.specs.Frame.Streams.{Streams}
use Rattle.puffin_frames.specs.Packet.Structs.{form_of_all, AreStreams, streams_layout, streams_at}
use Rattle.puffin_frames.specs.Frame.Holding.{HaveLayout, AreReadAgain, streams_in, plainly_packed}
use Rattle.puffin_frames.proofs.Structs.{streams_reader}
use Rattle.puffin_frames.proofs.Listed.{is_so}
use Rattle.puffin_frames.proofs.FormsOfAll.{ordered_in, stored_in}

from_entries_back : (streams : Streams) → from_sorted {R = key_cmp} (entries streams) ≡ streams
from_entries_back streams =
    same_entries_map (from_sorted (entries streams)) streams
    (entries-from_sorted key_cmp (entries streams) (entries_sorted streams))

-- streams that were packed are read from their layout
pub packed_again : (streams : Streams) →
    AreStreams (form_of_all (entries streams)) (entries streams) →
    streams_in (plainly_packed streams) ≡ Some streams
packed_again streams fit =
    let packed = form_of_all (entries streams) in
    ap (option_map from_sorted)
    (whole_again (AreStreams packed) (streams_layout packed) (streams_at packed) (streams_reader packed) (entries streams) fit)
    ∙ ap Some (from_entries_back streams)

-- streams that have a layout are stored by it
pub read_again : (streams : Streams) → HaveLayout streams → AreReadAgain streams
read_again streams laid_out =
    let packed = form_of_all (entries streams) in
    packed_again streams (
      (laid_out.0, stored_in packed (entries streams) refl laid_out.1),
      ordered_in packed (entries streams) refl (is_so _ (entries_sorted streams)),
    )

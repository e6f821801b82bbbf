-- The lemmas of the crates below that the proofs here stand on.
use Rattle.std.proofs.Common.{◌≡◌, pos, []}
use Rattle.puffin_data.specs.declared.data.form.Form.{Form}
use Rattle.puffin_data.specs.Forest.{Forest, IsForest}
use Rattle.puffin_data.specs.Forest.Spelling.{spelling}
use Rattle.puffin_data.specs.Forest.Tour.{tour}
use Rattle.puffin_threads.specs.Thread.Events.{events_in}
use Rattle.puffin_threads.proofs.lemmas.Events.{events_open}
pub use Rattle.puffin_data.proofs.lemmas.Tours.{tour-append}
pub use Rattle.puffin_data.proofs.lemmas.Extended.{honest_joined}
pub use Rattle.puffin_data.proofs.lemmas.WordMeasures.{least_open-append, greatest_close-append, word_size-tour, num_begun-tour, least_open-tour, greatest_close-tour}
pub use Rattle.puffin_threads.proofs.lemmas.ThreadKeys.{key_cmp_total, has_same_key-one, has_same_key-itself}
pub use Rattle.puffin_frames.proofs.lemmas.Measured.{after_report, bytes_measure, scopes_measure, starts_measure, stops_measure, total_bytes-one, total_scopes-one}
pub use Rattle.puffin_frames.proofs.lemmas.Ranges.{least_start-one, greatest_stop-one}

-- of bytes that spell a forest, the events are its tour
pub events_in-spelling : (form : Form) (f : Forest) → IsForest form f → events_in form (spelling form f) ≡ tour f
events_in-spelling form f fits = events_open form (pos 0) [] f tt fits

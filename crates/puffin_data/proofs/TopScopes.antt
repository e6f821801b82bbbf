-- A reader of a forest's spelling gives its top scopes: by induction over the forest, since the first one is read again.
use Rattle.std.proofs.Common.{◌≡◌, ℕ, ◌+◌, ◌<◌, ◌≤◌, ◌^◌, List, map, length, Ok, ap, ◌∙◌, arith}
use Rattle.puffin_data.specs.declared.data.form.Form.{Form}
use Rattle.puffin_data.specs.Forest.{Forest, empty, node, IsForest}
use Rattle.puffin_data.specs.Forest.Spelling.{spelling, Spells}
use Rattle.puffin_data.specs.Walk.Reading.{reading}
use Rattle.puffin_data.specs.Walk.{region}
use Rattle.puffin_data.specs.Reader.{read_from, ReaderGives, ends, goes_on, top_scopes}
use Rattle.puffin_data.proofs.Again.{found_at}
use Rattle.puffin_data.proofs.Regions.{whole_region}
use Rattle.puffin_data.proofs.lemmas.Unique.{parts_of}

reads_top : (form : Form) (forest : Forest) (bytes : List ℕ) (begin : ℕ) → IsForest form forest → begin ≤ length bytes
    → length bytes < 2 ^ 64 → region bytes begin (length bytes) ≡ spelling form forest
    → ReaderGives form bytes begin (map (λ scope. Ok scope) (top_scopes form begin forest))
unfolding reading
reads_top form empty bytes begin fits bounded small is = ends (ap (λ (part : List ℕ). read_from begin (reading form part)) is)
reads_top form (node span children others) bytes begin fits bounded small is =
    let parts = parts_of form span children others bytes begin (length bytes) fits.0 bounded (omega arith) small is in
    let places = parts.places in
    let found = found_at form span (length (spelling form children)) in
    goes_on (ap (read_from begin) parts.reads)
    (reads_top form others bytes (begin + found.next_sibling) fits.2 (omega (arith, places)) small parts.later)

pub reads_spelling : (form : Form) (bytes : List ℕ) (forest : Forest) → Spells form bytes forest → length bytes < 2 ^ 63
    → ReaderGives form bytes 0 (map (λ scope. Ok scope) (top_scopes form 0 forest))
reads_spelling form bytes forest spelled small =
    reads_top form forest bytes 0 spelled.fits (omega arith) (omega arith) (whole_region bytes ∙ spelled.whole)

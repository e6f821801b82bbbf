-- The events that bytes spell, including those of open scopes, since they are read without the sizes of children.
use Rattle.std.specs.Prelude.{ℕ, zero, suc, ◌==◌, true, false, List, [], ◌∷◌, length, take, drop, slice_index}
use Rattle.puffin_data.specs.declared.data.form.Form.{Form}
use Rattle.puffin_data.specs.Forest.Spelling.{begin_mark, end_mark, end_size}
use Rattle.puffin_data.specs.Walk.Reading.{id_in, time_in, text_size_in, text_begin_in, child_begin_in}
use Rattle.puffin_data.specs.Forest.Tour.{Event, Open, Close}

-- the beginning of a scope, at the front of a region
abbrev pub open_in : Form → List ℕ → Event
open_in form region =
    Open (id_in region)
    (take (text_size_in form region) (drop (text_begin_in form region) region))
    (time_in region 5)

-- the events at the front of a region, at most as many as the number says
unfoldable pub events_from : Form → ℕ → List ℕ → List Event
events_from form zero region = []
events_from form (suc n) region = elim (slice_index region 0 == begin_mark) [
  | true ↦ open_in form region ∷ events_from form n (drop (child_begin_in form region) region)
  | false ↦ elim (slice_index region 0 == end_mark) [
    | true ↦ Close (time_in region 1) ∷ events_from form n (drop end_size region)
    | false ↦ []
  ]
]

-- all events that bytes spell
unfoldable pub events_in : Form → List ℕ → List Event
events_in form bytes = events_from form (length bytes) bytes

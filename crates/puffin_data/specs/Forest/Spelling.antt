-- The spelling of a forest: its one list of bytes in each form. Numbers are little-endian.
use Rattle.std.specs.Prelude.{◌≡◌, ℕ, ◌+◌, ℤ, List, [], ◌∷◌, ◌++◌, length}
use Rattle.std.specs.Int.{w64, cast_unsigned}
use Rattle.byteorder.specs.Endian.{little_bytes}
use Rattle.puffin_data.specs.declared.data.form.Form.{Form}
use Rattle.puffin_data.specs.Text.Lengths.{text_layout, text_room}
use Rattle.puffin_data.specs.Forest.{Forest, empty, node, IsForest}

-- `(`, the first byte of a scope
abbrev pub begin_mark : ℕ
begin_mark = 40

-- `)`, the byte after a scope's children
abbrev pub end_mark : ℕ
end_mark = 41

-- the number of bytes before a scope's text length
abbrev pub front_size : ℕ
front_size = 13

-- the number of a scope's bytes before the size of its children
abbrev pub size_offset : Form → (text : List ℕ) → ℕ
size_offset form text = front_size + text_room form text

-- the number of a scope's bytes before its children
abbrev pub head_size : Form → (text : List ℕ) → ℕ
head_size form text = 8 + size_offset form text

-- the number of bytes of a scope's end
abbrev pub end_size : ℕ
end_size = 9

-- a time in eight bytes, as two's complement
abbrev pub time_bytes : (time : ℤ) → List ℕ
time_bytes time = little_bytes 8 (cast_unsigned w64 time)

-- the bytes before a scope's children: `(`, id, start, text, and the size of the children
unfoldable pub begin_bytes : (form : Form) → (id : ℕ) → (start : ℤ) → (text : List ℕ) → (size : ℕ) →
    List ℕ
begin_bytes form id start text size =
    begin_mark
    ∷ (little_bytes 4 id ++ (time_bytes start ++ (text_layout form text ++ little_bytes 8 size)))

-- the bytes after a scope's children: `)` and the stop
unfoldable pub end_bytes : (stop : ℤ) → List ℕ
end_bytes stop = end_mark ∷ time_bytes stop

-- the bytes of a forest: each scope's beginning, its children and its end
abbrev pub spelling : Form → Forest → List ℕ
spelling form empty = []
spelling form (node first children others) =
    begin_bytes form first.id first.start first.text (length (spelling form children))
    ++ (spelling form children ++ (end_bytes first.stop ++ spelling form others))

-- the bytes spell the forest, which can be written in this form
pub record Spells (form : Form) (bytes : List ℕ) (forest : Forest) : Type 0 where
  pub whole : bytes ≡ spelling form forest
  pub fits : IsForest form forest

-- Which part of a text is stored, and which part of stored bytes is text.
pub mod Lengths
pub mod Flags
use Rattle.std.specs.Prelude.{◌≡◌, ℕ, ◌≤◌, List, length, take, nat_le, if◌then◌else◌}
use Rattle.std.specs.Str.{IsCharBoundary}
use Rattle.std.specs.Str.Lossy.{utf8_valid_len}
use Rattle.std.specs.Fmt.Cut.{floor_char_boundary}
use Rattle.puffin_data.specs.declared.data.form.Form.{Form}
use Rattle.puffin_data.specs.Text.Lengths.{text_limit}

-- the stored part of a text: all of it if it is within the limit, else up to the last character boundary within the limit
abbrev pub cut_text : Form → List ℕ → List ℕ
cut_text form text =
    if nat_le (length text) (text_limit form) then text
    else take (floor_char_boundary text (text_limit form)) text

-- the longest prefix of a text that is within the limit and ends at a character boundary
pub record IsCut (form : Form) (text cut : List ℕ) : Type 0 where
  pub size : ℕ
  pub is : cut ≡ take size text
  pub short : size ≤ text_limit form
  pub ends_character : IsCharBoundary text size
  pub longest : (other : ℕ) → other ≤ text_limit form → IsCharBoundary text other → other ≤ size

-- the text of stored bytes: their longest prefix that is UTF-8
abbrev pub text_in : List ℕ → List ℕ
text_in stored = take (utf8_valid_len stored) stored

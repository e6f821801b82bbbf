-- The versions of packets, and the letters that they begin with: `PFD` and a digit, or `L` if a stream has long texts.
use Rattle.std.specs.Prelude.{ℕ, Bool, true, false, ◌&&◌, List, [], ◌∷◌, Option, Some, None, slice_index, ◌==◌, if◌then◌else◌}
use Rattle.puffin_data.specs.declared.data.form.Form.{Form}
use Rattle.puffin_data.specs.declared.data.form.Form.TheVariants.{Short, Long}
use Rattle.puffin_frames.specs.declared.frame_data.version.Version.{Version}
use Rattle.puffin_frames.specs.declared.frame_data.version.Version.TheVariants.{Pfd2, Pfd3, Pfd4, PfdL}

-- the letters and digits that versions begin with, as bytes: first `P`
abbrev pub letter_p : ℕ
letter_p = 80

-- `F`
abbrev pub letter_f : ℕ
letter_f = 70

-- `D`
abbrev pub letter_d : ℕ
letter_d = 68

-- `0`
abbrev pub digit_0 : ℕ
digit_0 = 48

-- `1`
abbrev pub digit_1 : ℕ
digit_1 = 49

-- `2`
abbrev pub digit_2 : ℕ
digit_2 = 50

-- `3`
abbrev pub digit_3 : ℕ
digit_3 = 51

-- `4`
abbrev pub digit_4 : ℕ
digit_4 = 52

-- `L`
abbrev pub letter_l : ℕ
letter_l = 76

-- the letter after `PFD`
abbrev pub last_letter : Version → ℕ
last_letter Pfd2 = digit_2
last_letter Pfd3 = digit_3
last_letter Pfd4 = digit_4
last_letter PfdL = letter_l

-- the four letters of a packet of this version
abbrev pub letters : Version → List ℕ
letters version = letter_p ∷ letter_f ∷ letter_d ∷ last_letter version ∷ []

-- the version of the packets with this last letter
abbrev pub from_letter : ℕ → Option Version
from_letter letter =
    if letter == digit_2 then Some Pfd2
    else if letter == digit_3 then Some Pfd3
    else if letter == digit_4 then Some Pfd4
    else if letter == letter_l then Some PfdL
    else None

-- whether packets of this version store the kind of their streams
abbrev pub has_kind : Version → Bool
has_kind Pfd2 = false
has_kind Pfd3 = true
has_kind Pfd4 = true
has_kind PfdL = true

-- whether packets of this version have details
abbrev pub has_details : Version → Bool
has_details Pfd2 = false
has_details Pfd3 = false
has_details Pfd4 = true
has_details PfdL = true

-- the form of the texts in packets of this version
abbrev pub text_form : Version → Form
text_form Pfd2 = Short
text_form Pfd3 = Short
text_form Pfd4 = Short
text_form PfdL = Long

-- the version that is written for texts in this form
abbrev pub for_form : Form → Version
for_form Short = Pfd4
for_form Long = PfdL

-- whether a header begins with `PFD`
abbrev pub is_packet : List ℕ → Bool
is_packet header =
    (slice_index header 0 == letter_p) && (slice_index header 1 == letter_f) && (
    slice_index header 2 == letter_d)

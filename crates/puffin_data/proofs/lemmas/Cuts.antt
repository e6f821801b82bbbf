-- The cut of a text is the longest beginning that fits and ends where a character ends, and it is read back as it is.
use Rattle.std.proofs.Common.{◌≡◌, ℕ, zero, suc, ◌<◌, ◌≤◌, true, false, inl, inr, List, length, take, get_or, refl, sym, ap, ◌∙◌, subst, arith}
use Rattle.std.specs.Prelude.{nat_le}
use Rattle.std.specs.Fmt.{is_char_start}
use Rattle.std.specs.Fmt.Cut.{floor_char_boundary}
use Rattle.std.specs.Str.{IsCharBoundary, IsUtf8}
use Rattle.std.proofs.lemmas.Bool.{cases_lt, cases_eq, cases_Bool}
use Rattle.std.specs.List.{All}
use Rattle.std.proofs.lemmas.List.{take_all, length-take}
use Rattle.std.proofs.lemmas.List.Elements.{All-take}
use Rattle.std.proofs.lemmas.Str.{IsCharBoundary-start, IsCharBoundary-end, IsUtf8-take, utf8_valid_len-IsUtf8}
use Rattle.puffin_data.specs.Forest.Spelling.{head_size}
use Rattle.puffin_data.specs.Text.Lengths.{text_limit, length_layout}
use Rattle.puffin_data.specs.declared.data.form.Form.{Form}
use Rattle.puffin_data.specs.declared.data.form.Form.TheVariants.{Short, Long}
use Rattle.puffin_data.specs.Text.{cut_text, IsCut, text_in}
use Rattle.puffin_data.proofs.lemmas.Lengths.{short_room, one_group}

-- a byte starts a character exactly if it is below 128 or at least 192
start_from : (byte : ℕ) → (128 ≤ byte → 192 ≤ byte) → is_char_start byte ≡ true
start_from byte if_high = elim (cases_lt byte 128) [
  | inl low ↦ grind (arith, low)
  | inr high ↦ let top = if_high high in grind (arith, top)
]

from_start : (byte : ℕ) → is_char_start byte ≡ true → 128 ≤ byte → 192 ≤ byte
from_start byte starts high = grind arith

-- where the search for a boundary ends that begins at `limit` and goes down
record IsFloor (text : List ℕ) (limit size : ℕ) : Type 0 where
  within : size ≤ limit
  ends_character : IsCharBoundary text size
  longest : (other : ℕ) → other ≤ limit → IsCharBoundary text other → other ≤ size

-- what is such an end is what the search finds: by induction over where the search begins
floor_is : (text : List ℕ) (limit size : ℕ) → limit < length text → IsFloor text limit size → floor_char_boundary text limit ≡ size
unfolding floor_char_boundary
floor_is text zero size inside at_floor = omega (arith, at_floor.within)
floor_is text (suc less) size inside at_floor =
    elim (cases_eq size (suc less)) [
      | inl same ↦
          let here : is_char_start (get_or text (suc less) 0) ≡ true =
          start_from (get_or text (suc less) 0)
          (subst (λ any. 128 ≤ get_or text any 0 → 192 ≤ get_or text any 0) same
          (at_floor.ends_character.1 (omega (arith, same, at_floor.within)))) in
          rw here (sym same)
      | inr apart ↦ elim (cases_Bool (is_char_start (get_or text (suc less) 0))) [
        | inl starts ↦ absurd (omega (
          arith,
          at_floor.within,
          at_floor.longest (suc less) (omega arith) (omega arith, λ _. from_start (get_or text (suc less) 0) starts),
        ))
        | inr goes_on ↦ rw goes_on (floor_is text less size (omega arith)
            (record {
              within = omega (arith, at_floor.within);
              ends_character = at_floor.ends_character;
              longest = λ other small.
                  at_floor.longest other (omega arith);
            }))
      ]
    ]

-- what the search finds is such an end
is_floor : (text : List ℕ) (limit : ℕ) → IsUtf8 text → limit < length text → IsFloor text limit (floor_char_boundary text limit)
unfolding floor_char_boundary
is_floor text zero utf8 inside =
    record { within = omega arith; ends_character = IsCharBoundary-start text utf8; longest = λ other small _. omega arith }
is_floor text (suc less) utf8 inside =
    elim (cases_Bool (is_char_start (get_or text (suc less) 0))) [
      | inl starts ↦ rw starts (record {
        within = omega arith;
        ends_character = (omega arith, λ _. from_start (get_or text (suc less) 0) starts);
        longest = λ other
            small _. small;
      })
      | inr goes_on ↦
          let below = is_floor text less utf8 (omega arith) in
          rw goes_on (record {
            within = omega (arith, below.within);
            ends_character = below.ends_character;
            longest = λ other small boundary. elim (cases_eq other (suc less)) [
              | inl same ↦ absurd (not_both _
                  (start_from (get_or text (suc less) 0)
                  (subst (λ any. 128 ≤ get_or text any 0 → 192 ≤ get_or text any 0) same (boundary.1 (omega arith)))) goes_on)
              | inr apart ↦ below.longest other (omega arith) boundary
            ];
          })
    ]
  where
    not_both : (test : _) → test ≡ true → test ≡ false → ⊥
    not_both test is_true is_false = cc

-- whatever is the cut is what `cut_text` gives
pub cut_text-is : (form : Form) (text cut : List ℕ) → IsCut form text cut → cut ≡ cut_text form text
cut_text-is form text cut cut_is =
    elim (cases_lt (text_limit form) (length text)) [
      | inl long ↦
          let test : nat_le (length text) (text_limit form) ≡ false = grind arith in
          let floor =
          floor_is text (text_limit form) cut_is.size long
          (record { within = cut_is.short; ends_character = cut_is.ends_character; longest = cut_is.longest }) in
          rw test (cut_is.is ∙ ap (λ (k : ℕ). take k text) (sym floor))
      | inr short ↦
          let test : nat_le (length text) (text_limit form) ≡ true = grind arith in
          let whole : length text ≤ cut_is.size = cut_is.longest (length text) short (omega arith, λ lt. absurd (omega arith)) in
          rw test (cut_is.is ∙ take_all cut_is.size text whole)
    ]

-- what `cut_text` gives of a text is the cut
pub is_cut : (form : Form) (text : List ℕ) → IsUtf8 text → IsCut form text (cut_text form text)
is_cut form text utf8 =
    elim (cases_lt (text_limit form) (length text)) [
      | inl long ↦
          let test : nat_le (length text) (text_limit form) ≡ false = grind arith in
          let floor = is_floor text (text_limit form) utf8 long in
          rw test (record {
            size = floor_char_boundary text (text_limit form);
            is = refl;
            short = floor.within;
            ends_character = floor.ends_character;
            longest = floor.longest;
          })
      | inr short ↦
          let test : nat_le (length text) (text_limit form) ≡ true = grind arith in
          rw test (record {
            size = length text;
            is = sym (take_all (length text) text (omega arith));
            short = short;
            ends_character = IsCharBoundary-end text;
            longest = λ other small boundary. boundary.0;
          })
    ]

-- what is stored of a text is read back
pub text_in-cut : (form : Form) (text : List ℕ) → IsUtf8 text → text_in (cut_text form text) ≡ cut_text form text
text_in-cut form text utf8 =
    let cut = is_cut form text utf8 in
    let valid : IsUtf8 (cut_text form text) = subst IsUtf8 (sym cut.is) (IsUtf8-take text cut.size utf8 cut.ends_character) in
    ap (λ (any : ℕ). take any (cut_text form text)) (utf8_valid_len-IsUtf8 (cut_text form text) valid)
    ∙ take_all (length (cut_text form text)) (cut_text form text) (omega arith)

-- what the search for the boundary ensures of it
pub cut_text-found : (form : Form) (text : List ℕ) (size limit : ℕ) → limit ≡ text_limit form → size ≤ limit
    → IsCharBoundary text size → ((other : ℕ) → size < other → other ≤ limit → ¬ (IsCharBoundary text other))
    → take size text ≡ cut_text form text
cut_text-found form text size limit same short boundary nearest =
    cut_text-is form text (take size text)
    (record {
      size = size;
      is = refl;
      short = omega (arith, same);
      ends_character = boundary;
      longest = λ other small other_boundary.
          elim (cases_lt size other) [
            | inl above ↦ absurd (nearest other above (omega (arith, same)) other_boundary)
            | inr within ↦ within
          ];
    })

-- the search never goes up
floor_low : (text : List ℕ) (limit : ℕ) → floor_char_boundary text limit ≤ limit
unfolding floor_char_boundary
floor_low text zero = omega arith
floor_low text (suc less) =
    elim (cases_Bool (is_char_start (get_or text (suc less) 0))) [
      | inl starts ↦ rw starts (omega arith)
      | inr goes_on ↦ rw goes_on (omega (arith, floor_low text less))
    ]

-- a cut is within the form's limit, and no longer than the text
pub cut_text-short : (form : Form) (text : List ℕ) → length (cut_text form text) ≤ (text_limit form)
cut_text-short form text =
    elim (cases_lt (text_limit form) (length text)) [
      | inl long ↦
          let test : nat_le (length text) (text_limit form) ≡ false = grind arith in
          rw test (omega (arith, floor_low text (text_limit form), length-take (floor_char_boundary text (text_limit form)) text))
      | inr short ↦
          let test : nat_le (length text) (text_limit form) ≡ true = grind arith in
          rw test short
    ]

pub cut_text-within : (form : Form) (text : List ℕ) → length (cut_text form text) ≤ length text
cut_text-within form text =
    elim (cases_lt (text_limit form) (length text)) [
      | inl long ↦
          let test : nat_le (length text) (text_limit form) ≡ false = grind arith in
          rw test (omega (arith, length-take (floor_char_boundary text (text_limit form)) text))
      | inr short ↦
          let test : nat_le (length text) (text_limit form) ≡ true = grind arith in
          rw test (omega arith)
    ]

-- a cut of bytes is bytes
pub cut_text-bytes : (form : Form) (text : List ℕ) → All (λ byte. byte < 256) text → All (λ byte. byte < 256) (cut_text form text)
cut_text-bytes form text bytes =
    elim (cases_lt (text_limit form) (length text)) [
      | inl long ↦
          let test : nat_le (length text) (text_limit form) ≡ false = grind arith in
          rw test (All-take (λ byte. byte < 256) (floor_char_boundary text (text_limit form)) text bytes)
      | inr short ↦
          let test : nat_le (length text) (text_limit form) ≡ true = grind arith in
          rw test bytes
    ]

-- the beginning of a scope with a short text takes at most 149 bytes in both forms
pub most_of_one_byte : (form : Form) (text : List ℕ) → length text ≤ 127 → head_size form (cut_text form text) ≤ 149
most_of_one_byte Short text small = omega (arith, short_room (cut_text Short text), cut_text-short Short text)
most_of_one_byte Long text small =
    let short : length (cut_text Long text) ≤ 127 = omega (arith, small, cut_text-within Long text) in
    let one : length (length_layout Long (length (cut_text Long text))) ≡ 1 =
    ap length (one_group Long (length (cut_text Long text)) short) in
    omega (arith, one, short)

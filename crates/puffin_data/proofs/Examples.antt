-- Worked examples, computed. Bytes stand as the characters of a text: `(` for 0x28, `\u{c8}` for 0xc8.
use Rattle.std.proofs.Common.{◌≡◌, ℕ, ◌<◌, List, [], ◌∷◌, ◌++◌, length, pos, negsuc, refl, sym, ap, ◌∙◌, arith, None, Some, Ok, Err, inl, inr}
use Rattle.std.specs.Prelude.{codes}
use Rattle.std.proofs.lemmas.Int.{ints}
use Rattle.std.proofs.lemmas.List.Elements.{All-from_recursion}
use Rattle.puffin_data.specs.declared.data.form.Form.TheVariants.{Short}
use Rattle.puffin_data.specs.Text.Lengths.{length_layout, length_at}
use Rattle.puffin_data.specs.declared.error.Error.{Error}
use Rattle.puffin_data.specs.declared.error.Error.TheVariants.{PrematureEnd, InvalidStream, ScopeNeverEnded}
use Rattle.puffin_data.specs.Forest.{Span, Forest, empty, node, IsSpan, IsForest}
use Rattle.puffin_data.specs.Forest.Measures.{scope_count, height, least_start, greatest_stop}
use Rattle.puffin_data.specs.Forest.Spelling.{spelling, begin_bytes, end_bytes}
use Rattle.puffin_data.specs.Walk.Reading.{FoundScope, reading, sized_reading, found_in, id_in, time_in, size_in}
use Rattle.puffin_data.specs.Walk.{region, IsSoundAt, IsFaultAt, Reaches, here, child, sibling, IsFirstFault, no_more, one_more, Refuses}
use Rattle.puffin_data.proofs.FirstFaults.{by_parts}
use Rattle.puffin_data.proofs.Regions.{whole_region, between, nothing_is_no_fault, nothing_is_not_sound, ok_is_not_err}

-- ---- no scope

spelled_none : spelling Short empty ≡ []
spelled_none = refl

count_of_none : scope_count empty ≡ 0
count_of_none = refl

height_of_none : height empty ≡ 0
height_of_none = refl

start_of_none : least_start empty ≡ pos 9_223_372_036_854_775_807
start_of_none = refl

stop_of_none : greatest_stop empty ≡ negsuc 9_223_372_036_854_775_807
stop_of_none = refl

-- ---- one scope: `data`, id 1, from 100 to 300

abbrev data_span : Span
data_span = record { id = 1; start = pos 100; stop = pos 300; text = codes "data" }

abbrev one : Forest
one = node data_span empty empty

abbrev one_bytes : List ℕ
one_bytes = codes "(\u{1}\0\0\0d\0\0\0\0\0\0\0\u{4}data\0\0\0\0\0\0\0\0),\u{1}\0\0\0\0\0\0"

abbrev one_found : FoundScope
one_found = record { span = data_span; child_begin = 26; child_end = 26; next_sibling = 35 }

spelled : spelling Short one ≡ one_bytes
unfolding begin_bytes end_bytes length_layout
spelled = refl

size : length one_bytes ≡ 35
size = refl

read : reading Short one_bytes ≡ Ok (Some one_found)
unfolding reading found_in id_in time_in size_in length_at sized_reading
read = refl

count_of_one : scope_count one ≡ 1
count_of_one = refl

height_of_one : height one ≡ 1
height_of_one = refl

start_of_one : least_start one ≡ pos 100
start_of_one = refl

stop_of_one : greatest_stop one ≡ pos 300
stop_of_one = refl

well_formed : IsForest Short one
well_formed =
    let span : IsSpan Short data_span = record {
      id_low = omega arith;
      id_high = omega arith;
      start = omega (arith, ints);
      stop = omega (arith, ints);
      ordered = omega (arith, ints);
      duration = omega (arith, ints);
      text_size = omega arith;
      text_bytes = All-from_recursion (λ b. b < 256) (codes "data") (omega arith, (omega arith, (omega arith, (omega arith, tt))));
    } in
    (span, tt, tt)

-- ---- three scopes: two in the first

abbrev three : Forest
three = node (record { id = 1; start = pos 100; stop = pos 400; text = codes "data_top" })
    (node (record { id = 2; start = pos 200; stop = pos 300; text = codes "data_middle_0" }) empty
    (node (record { id = 3; start = pos 300; stop = pos 400; text = codes "data_middle_1" }) empty empty)) empty

abbrev three_bytes : List ℕ
three_bytes = codes "(\u{1}\0\0\0d\0\0\0\0\0\0\0\u{8}data_topX\0\0\0\0\0\0\0"
    ++ (codes "(\u{2}\0\0\0È\0\0\0\0\0\0\0\rdata_middle_0\0\0\0\0\0\0\0\0),\u{1}\0\0\0\0\0\0"
    ++ (codes "(\u{3}\0\0\0,\u{1}\0\0\0\0\0\0\rdata_middle_1\0\0\0\0\0\0\0\0)\u{90}\u{1}\0\0\0\0\0\0"
    ++ codes ")\u{90}\u{1}\0\0\0\0\0\0"))

spelled_three : spelling Short three ≡ three_bytes
unfolding begin_bytes end_bytes length_layout
spelled_three = refl

size_of_three : length three_bytes ≡ 127
size_of_three = refl

count_of_three : scope_count three ≡ 3
count_of_three = refl

height_of_three : height three ≡ 2
height_of_three = refl

start_of_three : least_start three ≡ pos 100
start_of_three = refl

stop_of_three : greatest_stop three ≡ pos 400
stop_of_three = refl

read_three :
    reading Short three_bytes ≡ Ok (Some (record {
      span = record { id = 1; start = pos 100; stop = pos 400; text = codes "data_top" };
      child_begin = 30;
      child_end = 118;
      next_sibling = 127;
    }))
unfolding reading found_in id_in time_in size_in length_at sized_reading
read_three = refl

-- ---- faults at the first byte

at_once : (bytes : List ℕ) (fault : Error) → reading Short bytes ≡ Err fault → IsFirstFault Short bytes 0 fault
at_once bytes fault read = record {
  end = length bytes;
  reached = here;
  stands = inl (ap (reading Short) (whole_region bytes) ∙ read);
  least = λ place end other reach at. omega arith;
}

-- begun at 100 and not ended
never_ended : IsFirstFault Short (codes "(\u{1}\0\0\0d\0\0\0\0\0\0\0\0ÿÿÿÿÿÿÿÿ") 0 ScopeNeverEnded
unfolding reading id_in size_in length_at sized_reading
never_ended = at_once _ _ refl

-- id 0
no_id : IsFirstFault Short (codes "(\0\0\0\0d\0\0\0\0\0\0\0\u{4}data\0\0\0\0\0\0\0\0),\u{1}\0\0\0\0\0\0") 0 PrematureEnd
unfolding reading id_in length_at sized_reading
no_id = at_once _ _ refl

-- without the last byte
cut : IsFirstFault Short (codes "(\u{1}\0\0\0d\0\0\0\0\0\0\0\u{4}data\0\0\0\0\0\0\0\0),\u{1}\0\0\0\0\0") 0 PrematureEnd
unfolding reading id_in size_in length_at sized_reading
cut = at_once _ _ refl

-- `(` where `)` has to stand
no_end : IsFirstFault Short (codes "(\u{1}\0\0\0d\0\0\0\0\0\0\0\u{4}data\0\0\0\0\0\0\0\0(,\u{1}\0\0\0\0\0\0") 0 InvalidStream
unfolding reading id_in size_in length_at sized_reading
no_end = at_once _ _ refl

-- stopped at 99
reversed : IsFirstFault Short (codes "(\u{1}\0\0\0d\0\0\0\0\0\0\0\u{4}data\0\0\0\0\0\0\0\0)c\0\0\0\0\0\0\0") 0 InvalidStream
unfolding reading id_in size_in time_in length_at sized_reading
reversed = at_once _ _ refl

-- ---- faults behind a sound scope

-- one scope, and a byte left over
abbrev longer : List ℕ
longer = one_bytes ++ (0 ∷ [])

longer_sound : IsSoundAt Short longer 0 36 one_found
unfolding reading found_in id_in time_in size_in length_at sized_reading
longer_sound = refl

longer_rest : reading Short (region longer 35 36) ≡ Ok None
unfolding reading length_at sized_reading
longer_rest = refl

-- no fault stands among no children
no_children : (to to_end : ℕ) (fault : Error) → Reaches Short longer 26 26 to to_end → IsFaultAt Short longer to to_end fault → ⊥
no_children to to_end fault here at = nothing_is_no_fault Short [] fault refl at
no_children to to_end fault (child {found = found} sound reach) at = nothing_is_not_sound Short [] found refl sound
no_children to to_end fault (sibling {found = found} sound reach) at = nothing_is_not_sound Short [] found refl sound

left_over : IsFirstFault Short longer 35 InvalidStream
left_over = record {
  end = 36;
  reached = sibling longer_sound here;
  stands = inr (omega arith, longer_rest, refl);
  least =
      λ to to_end other reach at. by_parts Short longer 0 36 to to_end 35 one_found other longer_sound
      (λ way. absurd (no_children to to_end other way at))
      (λ way. (between Short longer 35 36 to to_end (omega arith) (omega arith) way).low) reach at;
}

-- A scope of 62 bytes, whose children end at 53. The child in it claims to end at 75.
abbrev past : List ℕ
past =
    codes "(\u{1}\0\0\0\0\0\0\0\0\0\0\0\0\u{1f}\0\0\0\0\0\0\0"
    ++ codes "(\u{2}\0\0\0\0\0\0\0\0\0\0\0\0\u{1f}\0\0\0\0\0\0\0)\0\0\0\0\0\0\0\0)\0\0\0\0\0\0\0\0"

abbrev past_found : FoundScope
past_found =
    record { span = record { id = 1; start = pos 0; stop = pos 0; text = [] }; child_begin = 22; child_end = 53; next_sibling = 62 }

past_size : length past ≡ 62
past_size = refl

past_sound : IsSoundAt Short past 0 62 past_found
unfolding reading found_in id_in time_in size_in length_at sized_reading
past_sound = refl

past_child : reading Short (region past 22 53) ≡ Err PrematureEnd
unfolding reading id_in size_in length_at sized_reading
past_child = refl

past_first : IsFirstFault Short past 22 PrematureEnd
past_first = record {
  end = 53;
  reached = child past_sound here;
  stands = inl past_child;
  least =
      λ to to_end other reach at. by_parts Short past 0 62 to to_end 22 past_found other past_sound
      (λ way. (between Short past 22 53 to to_end (omega arith) (omega arith) way).low)
      (λ way. omega (arith, (between Short past 62 62 to to_end (omega arith) (omega arith) way).low)) reach at;
}

-- the two tries are the sound scope at 0 and the reading at 22
past_refused : Refuses Short past PrematureEnd 2
past_refused = record {
  place = 22;
  first = past_first;
  sounds = 0 ∷ [];
  are_sounds =
      one_more {found = past_found} {inner = []} {later = []} past_sound
      (no_more (λ found sound. ok_is_not_err (Some found) PrematureEnd (sym sound ∙ past_child)))
      (no_more (λ found sound. nothing_is_not_sound Short [] found refl sound));
  number = refl;
}

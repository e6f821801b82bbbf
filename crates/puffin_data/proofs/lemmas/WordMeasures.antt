-- The measures of a forest are those of its tour, and what one more event does to them.
use Rattle.std.proofs.Common.{◌≡◌, ◌≤◌, ℕ, ◌+◌, ◌-◌, ◌^◌, max, ℤ, pos, negsuc, ◌≤ℤ◌, FitsSigned, List, [], ◌∷◌, ◌++◌, length, refl, sym, ap, ◌∙◌, arith, length-append}
use Rattle.std.specs.Int.{int_min, int_max, w64, cast_unsigned}
use Rattle.std.proofs.lemmas.Int.{ints, clamps}
use Rattle.byteorder.specs.Endian.{little_bytes}
use Rattle.byteorder.specs.Numbers.{length-bytes_low_first}
use Rattle.puffin_data.specs.Text.Lengths.{length_layout}
use Rattle.puffin_data.specs.declared.data.form.Form.{Form}
use Rattle.puffin_data.specs.Forest.{Forest, empty, node}
use Rattle.puffin_data.specs.Forest.Measures.{scope_count, height, least_start, greatest_stop}
use Rattle.puffin_data.specs.Forest.Spelling.{spelling, begin_bytes, end_bytes, time_bytes, head_size}
use Rattle.puffin_data.specs.Forest.Tour.{Event, Open, Close, tour}
use Rattle.puffin_data.specs.Forest.Words.{word_size, num_begun, open_after, most_open, least_open, greatest_close}

min_assoc : (one other third : ℤ) → int_min one (int_min other third) ≡ int_min (int_min one other) third
min_assoc one other third = omega (arith, ints, clamps)

max_assoc : (one other third : ℤ) → int_max one (int_max other third) ≡ int_max (int_max one other) third
max_assoc one other third = omega (arith, ints, clamps)

min_right : (one other bound : ℤ) → other ≤ℤ bound → int_min one other ≤ℤ bound
min_right one other bound within = omega (arith, ints, clamps)

max_right : (one other bound : ℤ) → bound ≤ℤ other → bound ≤ℤ int_max one other
max_right one other bound within = omega (arith, ints, clamps)

min_over : (time bound : ℤ) → time ≤ℤ bound → int_min bound time ≡ time
min_over time bound within = omega (arith, ints, clamps)

max_over : (time bound : ℤ) → bound ≤ℤ time → int_max bound time ≡ time
max_over time bound within = omega (arith, ints, clamps)

max_swap : (one other third : ℤ) → int_max one (int_max other third) ≡ int_max other (int_max one third)
max_swap one other third = omega (arith, ints, clamps)

-- ---- words one after the other

pub word_size-append : (form : Form) (first second : List Event)
    → word_size form (first ++ second) ≡ word_size form first + word_size form second
word_size-append form [] second = omega arith
word_size-append form (Open id text start ∷ first) second = omega (arith, word_size-append form first second)
word_size-append form (Close stop ∷ first) second = omega (arith, word_size-append form first second)

pub num_begun-append : (first second : List Event) → num_begun (first ++ second) ≡ num_begun first + num_begun second
num_begun-append [] second = omega arith
num_begun-append (Open id text start ∷ first) second = omega (arith, num_begun-append first second)
num_begun-append (Close stop ∷ first) second = num_begun-append first second

pub open_after-append : (depth : ℕ) (first second : List Event)
    → open_after depth (first ++ second) ≡ open_after (open_after depth first) second
open_after-append depth [] second = refl
open_after-append depth (Open id text start ∷ first) second = open_after-append (depth + 1) first second
open_after-append depth (Close stop ∷ first) second = open_after-append (depth - 1) first second

most_from : (depth : ℕ) (word : List Event) → depth ≤ most_open depth word
most_from depth [] = omega arith
most_from depth (Open id text start ∷ word) = omega arith
most_from depth (Close stop ∷ word) = omega arith

pub most_open-append : (depth : ℕ) (first second : List Event)
    → most_open depth (first ++ second) ≡ max (most_open depth first) (most_open (open_after depth first) second)
most_open-append depth [] second = omega (arith, most_from depth second)
most_open-append depth (Open id text start ∷ first) second = omega (arith, most_open-append (depth + 1) first second)
most_open-append depth (Close stop ∷ first) second = omega (arith, most_open-append (depth - 1) first second)

open_bound : (word : List Event) → least_open word ≤ℤ pos (2 ^ 63 - 1)
open_bound [] = omega (arith, ints, clamps)
open_bound (Open id text start ∷ word) = min_right start (least_open word) (pos (2 ^ 63 - 1)) (open_bound word)
open_bound (Close stop ∷ word) = open_bound word

close_bound : (word : List Event) → negsuc (2 ^ 63 - 1) ≤ℤ greatest_close word
close_bound [] = omega (arith, ints, clamps)
close_bound (Open id text start ∷ word) = close_bound word
close_bound (Close stop ∷ word) = max_right stop (greatest_close word) (negsuc (2 ^ 63 - 1)) (close_bound word)

pub least_open-append : (first second : List Event) → least_open (first ++ second) ≡ int_min (least_open first) (least_open second)
least_open-append [] second = sym (min_over (least_open second) (pos (2 ^ 63 - 1)) (open_bound second))
least_open-append (Open id text start ∷ first) second =
    ap (int_min start) (least_open-append first second) ∙ min_assoc start (least_open first) (least_open second)
least_open-append (Close stop ∷ first) second = least_open-append first second

pub greatest_close-append : (first second : List Event)
    → greatest_close (first ++ second) ≡ int_max (greatest_close first) (greatest_close second)
greatest_close-append [] second = sym (max_over (greatest_close second) (negsuc (2 ^ 63 - 1)) (close_bound second))
greatest_close-append (Open id text start ∷ first) second = greatest_close-append first second
greatest_close-append (Close stop ∷ first) second =
    ap (int_max stop) (greatest_close-append first second) ∙ max_assoc stop (greatest_close first) (greatest_close second)

-- ---- tours

pub num_begun-tour : (forest : Forest) → num_begun (tour forest) ≡ scope_count forest
num_begun-tour empty = refl
num_begun-tour (node span children others) =
    omega (arith, num_begun-append (tour children) (Close span.stop ∷ tour others), num_begun-tour children, num_begun-tour others)

-- a tour leaves as many scopes open as there were
pub open_after-tour : (depth : ℕ) (forest : Forest) → open_after depth (tour forest) ≡ depth
open_after-tour depth empty = refl
open_after-tour depth (node span children others) =
    open_after-append (depth + 1) (tour children) (Close span.stop ∷ tour others)
    ∙ ap (λ (any : ℕ). open_after (any - 1) (tour others)) (open_after-tour (depth + 1) children)
    ∙ ap (λ (any : ℕ). open_after any (tour others)) (omega arith)
    ∙ open_after-tour depth others

pub most_open-tour : (depth : ℕ) (forest : Forest) → most_open depth (tour forest) ≡ depth + height forest
most_open-tour depth empty = omega arith
most_open-tour depth (node span children others) =
    let inner = most_open-append (depth + 1) (tour children) (Close span.stop ∷ tour others) in
    let after : open_after (depth + 1) (tour children) ≡ depth + 1 = open_after-tour (depth + 1) children in
    let back : depth + 1 - 1 ≡ depth = omega arith in
    let later : most_open (open_after (depth + 1) (tour children) - 1) (tour others) ≡ depth + height others =
    ap (λ (any : ℕ). most_open (any - 1) (tour others)) after
    ∙ ap (λ (any : ℕ). most_open any (tour others)) back
    ∙ most_open-tour depth others in
    omega (arith, inner, after, later, most_open-tour (depth + 1) children)

pub least_open-tour : (forest : Forest) → least_open (tour forest) ≡ least_start forest
least_open-tour empty = refl
least_open-tour (node span children others) =
    ap (int_min span.start) (least_open-append (tour children) (Close span.stop ∷ tour others)
    ∙ ap (λ any. int_min any (least_open (tour others))) (least_open-tour children)
    ∙ ap (int_min (least_start children)) (least_open-tour others))

pub greatest_close-tour : (forest : Forest) → greatest_close (tour forest) ≡ greatest_stop forest
greatest_close-tour empty = refl
greatest_close-tour (node span children others) =
    greatest_close-append (tour children) (Close span.stop ∷ tour others)
    ∙ ap (λ any. int_max any (int_max span.stop (greatest_close (tour others)))) (greatest_close-tour children)
    ∙ ap (λ any. int_max (greatest_stop children) (int_max span.stop any)) (greatest_close-tour others)
    ∙ max_swap (greatest_stop children) span.stop (greatest_stop others)

pub length-begin : (form : Form) (id : ℕ) (start : ℤ) (text : List ℕ) (size : ℕ)
    → length (begin_bytes form id start text size) ≡ head_size form text
unfolding begin_bytes
length-begin form id start text size =
    omega (
      arith,
      length-append (little_bytes 4 id) (time_bytes start ++ ((length_layout form (length text) ++ text) ++ little_bytes 8 size)),
      length-append (time_bytes start) ((length_layout form (length text) ++ text) ++ little_bytes 8 size),
      length-append (length_layout form (length text) ++ text) (little_bytes 8 size),
      length-append (length_layout form (length text)) text,
      length-bytes_low_first 0 4 id,
      length-bytes_low_first 0 8 size,
      length-bytes_low_first 0 8 (cast_unsigned w64 start),
    )

pub length-end : (stop : ℤ) → length (end_bytes stop) ≡ 9
unfolding end_bytes
length-end stop = omega (arith, length-bytes_low_first 0 8 (cast_unsigned w64 stop))

pub word_size-tour : (form : Form) (forest : Forest) → word_size form (tour forest) ≡ length (spelling form forest)
word_size-tour form empty = refl
word_size-tour form (node span children others) =
    omega (
      arith,
      word_size-append form (tour children) (Close span.stop ∷ tour others),
      word_size-tour form children,
      word_size-tour form others,
      length-begin form span.id span.start span.text (length (spelling form children)),
      length-end span.stop,
      length-append (begin_bytes form span.id span.start span.text (length (spelling form children)))
          (spelling form children ++ (end_bytes span.stop ++ spelling form others)),
      length-append (spelling form children) (end_bytes span.stop ++ spelling form others),
      length-append (end_bytes span.stop) (spelling form others),
    )

-- ---- one event more

open_le_most : (depth : ℕ) (word : List Event) → open_after depth word ≤ most_open depth word
open_le_most depth [] = omega arith
open_le_most depth (Open id text start ∷ word) = omega (arith, open_le_most (depth + 1) word)
open_le_most depth (Close stop ∷ word) = omega (arith, open_le_most (depth - 1) word)

pub most_open-opened : (word : List Event) (id : ℕ) (text : List ℕ) (start : ℤ)
    → most_open 0 (word ++ (Open id text start ∷ [])) ≡ max (most_open 0 word) (open_after 0 word + 1)
most_open-opened word id text start = omega (arith, most_open-append 0 word (Open id text start ∷ []), open_le_most 0 word)

pub most_open-closed : (word : List Event) (stop : ℤ) → most_open 0 (word ++ (Close stop ∷ [])) ≡ most_open 0 word
most_open-closed word stop = omega (arith, most_open-append 0 word (Close stop ∷ []), open_le_most 0 word)

-- a time in i64 is within the bounds of no scope
min_last : (time : ℤ) → FitsSigned w64 time → int_min time (pos (2 ^ 63 - 1)) ≡ time
min_last time fits = omega (arith, ints, clamps)

max_last : (time : ℤ) → FitsSigned w64 time → int_max time (negsuc (2 ^ 63 - 1)) ≡ time
max_last time fits = omega (arith, ints, clamps)

pub least_open-opened : (word : List Event) (id : ℕ) (text : List ℕ) (start : ℤ) → FitsSigned w64 start
    → least_open (word ++ (Open id text start ∷ [])) ≡ int_min (least_open word) start
least_open-opened word id text start fits =
    least_open-append word (Open id text start ∷ []) ∙ ap (int_min (least_open word)) (min_last start fits)

pub greatest_close-closed : (word : List Event) (stop : ℤ) → FitsSigned w64 stop
    → greatest_close (word ++ (Close stop ∷ [])) ≡ int_max (greatest_close word) stop
greatest_close-closed word stop fits =
    greatest_close-append word (Close stop ∷ []) ∙ ap (int_max (greatest_close word)) (max_last stop fits)

pub least_open-kept : (word : List Event) (stop : ℤ) → least_open (word ++ (Close stop ∷ [])) ≡ least_open word
least_open-kept [] stop = refl
least_open-kept (Open id text start ∷ word) stop = ap (int_min start) (least_open-kept word stop)
least_open-kept (Close other ∷ word) stop = least_open-kept word stop

pub greatest_close-kept : (word : List Event) (id : ℕ) (text : List ℕ) (start : ℤ)
    → greatest_close (word ++ (Open id text start ∷ [])) ≡ greatest_close word
greatest_close-kept [] id text start = refl
greatest_close-kept (Open other bytes time ∷ word) id text start = greatest_close-kept word id text start
greatest_close-kept (Close stop ∷ word) id text start = ap (int_max stop) (greatest_close-kept word id text start)

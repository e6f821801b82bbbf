-- The measures of a word of events.
use Rattle.std.specs.Prelude.{ℕ, ◌+◌, ◌-◌, ◌^◌, max, ℤ, pos, negsuc, List, [], ◌∷◌}
use Rattle.std.specs.Int.{int_min, int_max}
use Rattle.puffin_data.specs.declared.data.form.Form.{Form}
use Rattle.puffin_data.specs.Forest.Spelling.{end_size, head_size}
use Rattle.puffin_data.specs.Forest.Tour.{Event, Open, Close}

-- the number of bytes of its scopes
abbrev pub word_size : Form → List Event → ℕ
word_size form [] = 0
word_size form (Open id text start ∷ word) = head_size form text + word_size form word
word_size form (Close stop ∷ word) = end_size + word_size form word

-- the number of scopes that open
abbrev pub num_begun : List Event → ℕ
num_begun [] = 0
num_begun (Open id text start ∷ word) = 1 + num_begun word
num_begun (Close stop ∷ word) = num_begun word

-- the number of open scopes after the word, if this many are open before it
abbrev pub open_after : (depth : ℕ) → List Event → ℕ
open_after depth [] = depth
open_after depth (Open id text start ∷ word) = open_after (depth + 1) word
open_after depth (Close stop ∷ word) = open_after (depth - 1) word

-- the greatest number of scopes open at once, if this many are open before the word
abbrev pub most_open : (depth : ℕ) → List Event → ℕ
most_open depth [] = depth
most_open depth (Open id text start ∷ word) = max depth (most_open (depth + 1) word)
most_open depth (Close stop ∷ word) = max depth (most_open (depth - 1) word)

-- the least start of all scopes that open, or i64's greatest number if there are none
abbrev pub least_open : List Event → ℤ
least_open [] = pos (2 ^ 63 - 1)
least_open (Open id text start ∷ word) = int_min start (least_open word)
least_open (Close stop ∷ word) = least_open word

-- the greatest stop of all scopes that close, or i64's least number if there are none
abbrev pub greatest_close : List Event → ℤ
greatest_close [] = negsuc (2 ^ 63 - 1)
greatest_close (Open id text start ∷ word) = greatest_close word
greatest_close (Close stop ∷ word) = int_max stop (greatest_close word)

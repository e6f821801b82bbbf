-- The cells of a table, as a person reads them.
use Rattle.std.specs.Prelude.{ℕ, zero, suc, ℤ, pos, negsuc, ◌-ℤ◌, unsigned_abs, ◌+◌, ◌-◌, ◌*◌, ◌/◌, ◌%◌, nat_lt, ◌==◌, List, [], ◌∷◌, ◌++◌, length, codes, replicate, if◌then◌else◌, Option, Some, None}
use Rattle.std.specs.Fmt.{decimal}
use Rattle.std.specs.List.{flat_map}
use Rattle.puffin_look.specs.Escapes.{escaped}
use Rattle.puffin_look.specs.declared.rows.Value.{Value}
use Rattle.puffin_look.specs.declared.rows.Value.TheVariants.{Number, Moment, Offset, Hundredths, Time, Share, Change, Growth}

-- ---- numbers

abbrev pub digit : ℕ → ℕ
digit number = 48 + number % 10

-- what stands before so many digits
abbrev pub comma : ℕ → List ℕ
comma zero = []
comma (suc more) = if suc more % 3 == 0 then codes "," else []

-- digits in groups of three, with a comma between groups
abbrev pub grouped : List ℕ → List ℕ
grouped [] = []
grouped (byte ∷ bytes) = byte ∷ (comma (length bytes) ++ grouped bytes)

abbrev pub grouped_moment : ℤ → List ℕ
grouped_moment (pos time) = grouped (decimal time)
grouped_moment (negsuc time) = codes "-" ++ grouped (decimal (suc time))

-- hundredths of a unit, with two digits behind the point
abbrev pub in_hundredths : ℕ → List ℕ → List ℕ
in_hundredths number unit =
    grouped (decimal (number / 100)) ++ (46 ∷ digit (number / 10) ∷ digit number ∷ unit)

-- nanoseconds in the greatest unit of which there is one, rounded down
abbrev pub readable_time : ℕ → List ℕ
readable_time time =
    if nat_lt time 1000 then decimal time ++ codes " ns" else
    if nat_lt time 1000000 then in_hundredths (time / 10) (codes " us") else
    if nat_lt time 1000000000 then in_hundredths (time / 10000) (codes " ms") else
    in_hundredths (time / 10000000) (codes " s")

-- the same of a time that may be negative
abbrev pub readable_offset : ℤ → List ℕ
readable_offset (pos time) = readable_time time
readable_offset (negsuc time) = codes "-" ++ readable_time (suc time)

-- in percent, with a digit behind the point, rounded down; of nothing there is no share
abbrev pub share_text : ℕ → ℕ → List ℕ
share_text part zero = codes "-"
share_text part (suc whole) =
    let share = part * 1000 / suc whole in decimal (share / 10) ++ (46 ∷ digit share ∷ 37 ∷ [])

-- how long a range is
abbrev pub length_of : ℤ × ℤ → ℕ
length_of range = unsigned_abs (range.1 -ℤ range.0)

-- ---- changes

abbrev pub sign : ℕ → ℕ → List ℕ
sign old new = if nat_lt new old then codes "-" else if nat_lt old new then codes "+" else []

abbrev pub distance : ℕ → ℕ → ℕ
distance old new = (old - new) + (new - old)

abbrev pub change_text : ℕ → ℕ → List ℕ
change_text old new = sign old new ++ readable_time (distance old new)

-- in percent of the old value; of nothing there is no share
abbrev pub growth_text : ℕ → ℕ → List ℕ
growth_text zero new = codes "-"
growth_text (suc old) new = sign (suc old) new ++ share_text (distance (suc old) new) (suc old)

-- ---- a line

-- a blank, and a text that ends where the column ends
abbrev pub cell : ℕ → List ℕ → List ℕ
cell width text = codes " " ++ (replicate (width - length text) 32 ++ text)

abbrev pub value_text : Value → List ℕ
value_text (Number number) = grouped (decimal number)
value_text (Moment time) = grouped_moment time
value_text (Offset from to) = readable_offset (to -ℤ from)
value_text (Hundredths (Some number)) = in_hundredths number []
value_text (Hundredths None) = codes "-"
value_text (Time (Some time)) = readable_time time
value_text (Time None) = codes "-"
value_text (Share part whole) = share_text part whole
value_text (Change old new) = change_text old new
value_text (Growth old new) = growth_text old new

abbrev pub width_of : Value → ℕ
width_of (Number number) = 13
width_of (Moment time) = 26
width_of (Offset from to) = 11
width_of (Hundredths number) = 13
width_of (Time time) = 11
width_of (Share part whole) = 7
width_of (Change old new) = 12
width_of (Growth old new) = 12

abbrev pub value_cell : Value → List ℕ
value_cell value = cell (width_of value) (value_text value)

-- ---- a row

-- a column's name, and what a row has in it
abbrev pub Cell : Type 0
Cell = List ℕ × Value

-- the name of the last column, and the bytes that a row has in it
abbrev pub Name : Type 0
Name = List ℕ × List ℕ

abbrev pub row_cell : Cell → List ℕ
row_cell entry = value_cell entry.1

abbrev pub name_cell : Cell → List ℕ
name_cell entry = cell (width_of entry.1) entry.0

-- the names of columns, each where its values end
abbrev pub heading : List Cell → List ℕ
heading cells = flat_map name_cell cells

-- a name, with escapes for control characters, at the end of its line
abbrev pub row_end : Option Name → List ℕ
row_end None = codes "\n"
row_end (Some name) = codes "  " ++ (escaped name.1 ++ codes "\n")

abbrev pub row_line : List Cell → Option Name → List ℕ
row_line cells name = flat_map row_cell cells ++ row_end name

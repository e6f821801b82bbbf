-- The short name of a function.
use Rattle.std.specs.Prelude.{codes, ℕ, zero, suc, ◌-◌, nat_eq, if◌then◌else◌, List, [], ◌∷◌, ◌++◌, length, take, drop, Option, Some, None}
use Rattle.std.specs.List.{starts_with, ends_with}

-- what comes before a word in a text, and what comes after it
pub record Cut : Type 0 where
  pub before : List ℕ
  pub after : List ℕ

-- The last cut at a word in `byte ∷ text`: the one in `text`, if there is one, else the one at the front, if the word is there.
abbrev pub later_cut_or_front : (word : List ℕ) → (byte : ℕ) → (text : List ℕ) → Option Cut → Option Cut
later_cut_or_front word byte text (Some cut) =
    Some (record { before = byte ∷ cut.before; after = cut.after })
later_cut_or_front word byte text None =
    if starts_with nat_eq (byte ∷ text) word
    then Some (record { before = []; after = drop (length word) (byte ∷ text) }) else None

-- what comes before and after the last occurrence of a word in a text, if there is one
abbrev pub last_cut : (word text : List ℕ) → Option Cut
last_cut word [] = None
last_cut word (byte ∷ text) = later_cut_or_front word byte text (last_cut word text)

-- what comes after a cut, or `other` if there is no cut
abbrev pub after_cut_or : (other : List ℕ) → Option Cut → List ℕ
after_cut_or other (Some cut) = cut.after
after_cut_or other None = other

-- what follows the last `::`, or the whole name if there is none
abbrev pub last_segment : List ℕ → List ℕ
last_segment name = after_cut_or name (last_cut (codes "::") name)

-- the last two segments of a name, from the last one and the last cut at `::` in what precedes it; the whole name if there is no
-- such cut
abbrev pub two_segments_from : (name last : List ℕ) → Option Cut → List ℕ
two_segments_from name last (Some cut) = cut.after ++ (codes "::" ++ last)
two_segments_from name last None = name

-- the last two segments of a name that has this last cut at `::`, or the whole name if it has fewer than three
abbrev pub two_segments_by : (name : List ℕ) → Option Cut → List ℕ
two_segments_by name (Some cut) = two_segments_from name cut.after (last_cut (codes "::") cut.before)
two_segments_by name None = name

-- the last two segments between `::`, or the whole name if it has fewer than three
abbrev pub two_segments : List ℕ → List ℕ
two_segments name = two_segments_by name (last_cut (codes "::") name)

-- `<`, the type, ` as `, the trait, `>` and the rest, where `front` is what comes before the ` as `. The type follows the last `<`
-- in it; if there is none, the whole name is taken as the type.
abbrev pub short_impl : (name front trait_name rest : List ℕ) → List ℕ
short_impl name front trait_name rest =
    codes "<" ++ (last_segment (after_cut_or name (last_cut (codes "<") front)) ++ (
    codes " as " ++ (last_segment trait_name ++ (codes ">" ++ rest))))

-- the short name of a name with ` as ` after `front`, and then this last cut at `>`
abbrev pub short_impl_by : (name front : List ℕ) → Option Cut → List ℕ
short_impl_by name front (Some cut) = short_impl name front cut.before cut.after
short_impl_by name front None = two_segments name

-- the short name of a name with this last cut at ` as `
abbrev pub shorten_by : (name : List ℕ) → Option Cut → List ℕ
shorten_by name (Some cut) = short_impl_by name cut.before (last_cut (codes ">") cut.after)
shorten_by name None = two_segments name

-- If a `>` follows the last ` as `, the name without the paths of its type and its trait; else its last two segments.
abbrev pub shorten : List ℕ → List ℕ
shorten name = shorten_by name (last_cut (codes " as ") name)

-- how the name of a function `f` ends that is nested in another
abbrev pub f_ending : List ℕ
f_ending = codes "::f"

-- how the name of a closure ends
abbrev pub closure_ending : List ℕ
closure_ending = codes "::{{closure}}"

-- without the last n bytes
abbrev pub without_last : ℕ → List ℕ → List ℕ
without_last n name = take (length name - n) name

-- without its closure endings, of which at most this many are removed
abbrev pub without_closures_by : (most : ℕ) → List ℕ → List ℕ
without_closures_by zero name = name
without_closures_by (suc most) name =
    if ends_with nat_eq name closure_ending
    then without_closures_by most (without_last 13 name) else name

-- without any closure endings, of which there are at most as many as bytes
abbrev pub without_closures : List ℕ → List ℕ
without_closures name = without_closures_by (length name) name

-- A name that ends in `::f` becomes what precedes that, without closures and shortened. Any other name is kept.
abbrev pub clean : List ℕ → List ℕ
clean name =
    if ends_with nat_eq name f_ending
    then shorten (without_closures (without_last 3 name)) else name

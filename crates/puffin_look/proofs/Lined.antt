-- A list so far, and the lines that are left.
use Rattle.std.proofs.Common.{◌≡◌, ℕ, ◌+◌, ◌<◌, ◌≤◌, true, false, List, [], ◌∷◌, ◌++◌, length, drop, map, get_or, Result, Ok, Err, Vec, Global, ap, subst, sym, ◌∙◌, append_assoc, append-nil}
use Rattle.std.specs.declared.alloc.AllocError.{AllocError}
use Rattle.std.specs.Prelude.{IfOk}
use Rattle.std.proofs.lemmas.List.{at_drop_more, at_drop_all}
use Rattle.puffin_look.specs.Forms.{separator_if, joined, opening, separator, closing, lines_text, list_text}
use Rattle.puffin_look.specs.declared.lines.Form.{Form}
use Rattle.puffin_look.specs.declared.lines.Lines.{Lines}
use Rattle.puffin_look.specs.inner.Lining.{Adds}

-- with the lines that are left this is the whole text
pub record Lists (lines : Lines) (left : List (List ℕ)) (total : List ℕ) : Type 0 where
  pub so_far : lines.text.items ++ joined lines.separator.now lines.has_any left ≡ total

-- no line was added yet
pub lists_begun : (form : Form) (head : List ℕ) (lines : Lines) (all : List (List ℕ)) → lines.text.items ≡ opening form head
    → lines.separator.now ≡ separator form → lines.has_any ≡ false → Lists lines all (opening form head ++ lines_text form all)
lists_begun form head lines all text between none = record { so_far = λ i. text i ++ joined (between i) (none i) all }

-- the next line was added
pub lists_more : (old new : Lines) (line : List ℕ) (left : List (List ℕ)) (total : List ℕ) → Adds old new line
    → Lists old (line ∷ left) total → Lists new left total
lists_more old new line left total added l =
    let front = separator_if old.separator.now old.has_any in
    let rest = joined old.separator.now true left in
    record {
      so_far = (λ i. added.text i ++ joined (added.separator i).now (added.any i) left)
          ∙ append_assoc old.text.items (front ++ line) rest
          ∙ ap (λ (t : List ℕ). old.text.items ++ t) (append_assoc front line rest)
          ∙ l.so_far;
    }

-- no line is left
pub lists_done : (lines : Lines) (left : List (List ℕ)) (total : List ℕ) → left ≡ [] → Lists lines left total → lines.text.items ≡ total
lists_done lines left total none l =
    sym (append-nil lines.text.items)
    ∙ sym (ap (λ (ls : List (List ℕ)). lines.text.items ++ joined lines.separator.now lines.has_any ls) none) ∙ l.so_far

-- the whole list
pub list_closed : (form : Form) (head : List ℕ) (all : List (List ℕ)) (lines : Lines) (text : List ℕ)
    → lines.text.items ≡ opening form head ++ lines_text form all → text ≡ lines.text.items ++ closing form
    → text ≡ list_text form head all
list_closed form head all lines text made is =
    is ∙ ap (λ (t : List ℕ). t ++ closing form) made ∙ append_assoc (opening form head) (lines_text form all) (closing form)

-- ---- rows of a slice

module _ {X : Type 0} (line : X → List ℕ) (xs ys : List X) (same : ys ≡ xs) where
  -- the line of the next row was added
  pub row_more : (old new : Lines) (i : ℕ) (x d : X) (total : List ℕ) → i < length ys → x ≡ get_or ys i d → Adds old new (line x)
      → Lists old (map line (drop i xs)) total → Lists new (map line (drop (i + 1) xs)) total
  row_more old new i x d total within is added so_far =
      let next = at_drop_more (map line) xs i d (subst (λ (zs : List X). i < length zs) same within)
      ∙ ap (λ y. line y ∷ map line (drop (i + 1) xs)) (sym (is ∙ ap (λ (zs : List X). get_or zs i d) same)) in
      lists_more old new (line x) (map line (drop (i + 1) xs)) total added (subst (λ (ls : List (List ℕ)). Lists old ls total) next so_far)

  -- the list with all rows
  pub rows_closed : (form : Form) (head : List ℕ) (lines : Lines) (i : ℕ) (r : Result (Vec ℕ Global) AllocError) → length ys ≤ i
      → Lists lines (map line (drop i xs)) (opening form head ++ lines_text form (map line xs))
      → IfOk r (λ text. text.items ≡ lines.text.items ++ closing form) → IfOk r (λ text. text.items ≡ list_text form head (map line xs))
  rows_closed form head lines i (Ok text) over so_far is =
      list_closed form head (map line xs) lines text.items
      (lists_done lines _ _ (at_drop_all (map line) xs i (subst (λ (zs : List X). length zs ≤ i) same over)) so_far) is
  rows_closed form head lines i (Err e) over so_far is = tt

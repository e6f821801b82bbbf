-- What each name has in each frame, as a map in the order of insertion holds it.
--
-- `looked_with` says what is found under any name once a value is set under a key: that value under the key's own name, and what was
-- found before under another. It goes by the first entry of the map, which has the key or another one.
use Rattle.std.proofs.Common.{◌≡◌, ℕ, Bool, true, false, List, [], ◌∷◌, ◌++◌, map, Option, Some, None, is_some, refl, sym, ap, ◌∙◌, append_assoc}
use Rattle.std.specs.Prelude.{if◌then◌else◌, cond, filter, not}
use Rattle.std.specs.Str.{bytes_eq}
use Rattle.std.specs.Map.{lookup}
use Rattle.std.proofs.lemmas.List.{map-append}
use Rattle.std.proofs.lemmas.List.Elements.{filter-append}
use Rattle.std.proofs.lemmas.List.Sums.{fold-append}
use Rattle.indexmap.specs.IndexMap.{insert_entry}
use Rattle.puffin_look.specs.Diff.{Entry, part_of, part_with, entry_under, is_new, new_entries}
use Rattle.puffin_look.specs.inner.Diffs.{Held, has_name, new_entry_in, HasParts}
use Rattle.puffin_look.specs.declared.top.TopRow.{TopRow}
use Rattle.puffin_look.specs.declared.top.Top.{Top}
use Rattle.puffin_look.specs.declared.diff.PerFrame.{PerFrame}
use Rattle.puffin_look.proofs.StackRows.{Key, same_key, from_bytes_eq, turned}

-- a name that one key has isn't that of another key
apart_from : (name key other : List ℕ) → bytes_eq name other ≡ true → bytes_eq key other ≡ false → bytes_eq name key ≡ false
apart_from name key other is differs = ap (λ (n : List ℕ). bytes_eq n key) (from_bytes_eq name other is) ∙ turned key other _ refl differs

-- the first entry has another key, so it stays in front
kept_by : (name : List ℕ) (e : Held) (es rest : List Held) (key : Key) (part : PerFrame) (b : Bool) → bytes_eq name e.0.items ≡ b
    → bytes_eq key.items e.0.items ≡ false
    → lookup (has_name name) rest ≡ (if bytes_eq name key.items then Some part else lookup (has_name name) es)
    → cond b (Some e.1) (lookup (has_name name) rest)
    ≡ (if bytes_eq name key.items then Some part else cond b (Some e.1) (lookup (has_name name) es))
kept_by name e es rest key part true is differs more =
    ap (λ (t : Bool). if t then Some part else Some e.1) (sym (apart_from name key.items e.0.items is differs))
kept_by name e es rest key part false is differs more = more

-- the first entry has the key, so its part is the new one
set_by : (part old : PerFrame) (others : Option PerFrame) (b : Bool)
    → cond b (Some part) others ≡ (if b then Some part else cond b (Some old) others)
set_by part old others true = refl
set_by part old others false = refl

-- there is no entry yet
first_by : (part : PerFrame) (b : Bool) → cond b (Some part) None ≡ (if b then Some part else None)
first_by part true = refl
first_by part false = refl

-- the first entry has the key (`b`), or another
looked_by : (name : List ℕ) (key : Key) (part : PerFrame) (e : Held) (es rest : List Held) (b : Bool) → bytes_eq key.items e.0.items ≡ b
    → lookup (has_name name) rest ≡ (if bytes_eq name key.items then Some part else lookup (has_name name) es)
    → lookup (has_name name) (if b then (e.0, part) ∷ es else e ∷ rest)
    ≡ (if bytes_eq name key.items then Some part else cond (bytes_eq name e.0.items) (Some e.1) (lookup (has_name name) es))
looked_by name key part e es rest true is more =
    set_by part e.1 (lookup (has_name name) es) (bytes_eq name e.0.items)
    ∙ ap (λ (n : List ℕ). if bytes_eq name n then Some part else cond (bytes_eq name e.0.items) (Some e.1)
    (lookup (has_name name) es)) (sym (from_bytes_eq key.items e.0.items is))
looked_by name key part e es rest false is more = kept_by name e es rest key part _ refl is more

-- what is found under a name once a part was set under a key
looked_with : (name : List ℕ) (key : Key) (part : PerFrame) (es : List Held)
    → lookup (has_name name) (insert_entry same_key es key part)
    ≡ (if bytes_eq name key.items then Some part else lookup (has_name name) es)
looked_with name key part [] = first_by part (bytes_eq name key.items)
looked_with name key part (e ∷ es) =
    looked_by name key part e es (insert_entry same_key es key part) _ refl (looked_with name key part es)

-- what the rows so far have was put under their names
pub parts_more : (frames : ℕ) (done : List TopRow) (row : TopRow) (es : List Held) (key : Key) (part : PerFrame)
    → HasParts frames done es → key.items ≡ row.name.items → part ≡ part_of frames row
    → HasParts frames (done ++ row ∷ []) (insert_entry same_key es key part)
parts_more frames done row es key part so_far same is name =
    looked_with name key part es ∙ (λ i. if bytes_eq name (same i) then Some (is i) else so_far name i)
    ∙ sym (fold-append (part_with frames name) None done (row ∷ []))

-- ---- names that only the new file has

one_new : (old new : Top) (row : TopRow) (b : Bool)
    → (if b then entry_under old new row ∷ [] else []) ≡ map (entry_under old new) (if b then row ∷ [] else [])
one_new old new row true = refl
one_new old new row false = refl

-- `os` and `ns` are the maps of the old and the new file
module _ (old new : Top) (os ns : List Held) (parts_old : HasParts old.frames old.rows.items os)
    (parts_new : HasParts new.frames new.rows.items ns) where
  -- the entry of one row, or none if the old file has its name
  new_one : (row : TopRow) → new_entry_in os ns row.name.items ≡ new_entries old new (row ∷ [])
  new_one row =
      let name = row.name.items in
      (λ i. if not (is_some (parts_old name i)) then (name, parts_old name i, parts_new name i) ∷ [] else [])
      ∙ one_new old new row (is_new old row)

  -- the entries of some rows and of one more
  new_joined : (done : List TopRow) (row : TopRow)
      → new_entries old new (done ++ row ∷ []) ≡ new_entries old new done ++ new_entries old new (row ∷ [])
  new_joined done row =
      ap (map (entry_under old new)) (filter-append (is_new old) done (row ∷ []))
      ∙ map-append (entry_under old new) (filter (is_new old) done) (filter (is_new old) (row ∷ []))

  -- one row more of the new file
  pub new_more : (done : List TopRow) (row : TopRow) (front before after : List Entry)
      → before ≡ front ++ new_entries old new done → after ≡ before ++ new_entry_in os ns row.name.items
      → after ≡ front ++ new_entries old new (done ++ row ∷ [])
  new_more done row front before after so_far step =
      step ∙ (λ i. so_far i ++ new_one row i) ∙ append_assoc front (new_entries old new done) (new_entries old new (row ∷ []))
      ∙ ap (λ (es : List Entry). front ++ es) (sym (new_joined done row))

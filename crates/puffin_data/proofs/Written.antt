-- The pieces of a scope's beginning, put one after another.
use Rattle.std.proofs.Common.{◌≡◌, ℕ, ℤ, List, [], ◌∷◌, ◌++◌, length, ap, sym, ◌∙◌, append_assoc}
use Rattle.byteorder.specs.Endian.{little_bytes}
use Rattle.puffin_data.specs.declared.data.form.Form.{Form}
use Rattle.puffin_data.specs.Text.Lengths.{length_layout}
use Rattle.puffin_data.specs.Forest.Spelling.{begin_bytes, time_bytes}

joined : (id : ℕ) (start : ℤ) (group : ℕ) (last text size : List ℕ)
    → ((40 ∷ (little_bytes 4 id ++ (time_bytes start ++ (group ∷ []))) ++ last) ++ text) ++ size
    ≡ 40 ∷ (little_bytes 4 id ++ (time_bytes start ++ (((group ∷ last) ++ text) ++ size)))
joined id start group last text size = simp append_assoc

pub begun : (form : Form) (front last text word : List ℕ) (id size group : ℕ) (start : ℤ)
    → front ≡ 40 ∷ (little_bytes 4 id ++ (time_bytes start ++ (group ∷ []))) → length_layout form (length text) ≡ group ∷ last
    → word ≡ little_bytes 8 size → ((front ++ last) ++ text) ++ word ≡ begin_bytes form id start text size
unfolding begin_bytes
begun form front last text word id size group start front_is layout_is word_is =
    ap (λ (any : List ℕ). ((any ++ last) ++ text) ++ word) front_is
    ∙ joined id start group last text word
    ∙ ap (λ (any : List ℕ). 40 ∷ (little_bytes 4 id ++ (time_bytes start ++ ((any ++ text) ++ word)))) (sym layout_is)
    ∙ ap (λ (any : List ℕ). 40 ∷ (little_bytes 4 id ++ (time_bytes start ++ ((length_layout form (length text) ++ text) ++ any)))) word_is

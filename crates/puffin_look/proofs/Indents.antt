-- Blanks in front of a line.
use Rattle.std.proofs.Common.{◌≡◌, ℕ, zero, suc, ◌+◌, List, ◌++◌, codes, refl, ap, ◌∙◌, arith}
use Rattle.puffin_look.specs.FrameTree.{indent}

-- two blanks more are one level more
indent_suc : (level : ℕ) → indent level ++ codes "  " ≡ indent (suc level)
indent_suc zero = refl
indent_suc (suc level) = ap (λ (bs : List ℕ). codes "  " ++ bs) (indent_suc level)

-- the same with `+`
pub indent_more : (level : ℕ) → indent level ++ codes "  " ≡ indent (level + 1)
indent_more level = let next : suc level ≡ level + 1 = omega arith in indent_suc level ∙ ap indent next

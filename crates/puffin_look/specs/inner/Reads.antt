-- Frames that are read one after the other.
use Rattle.std.specs.Prelude.{◌≡◌, List, [], ◌∷◌, ◌++◌, fold}
use Rattle.std.proofs.Common.{refl, sym, ap, ◌∙◌, append_assoc}
use Rattle.puffin_look.specs.OpenFrame.{OpenFrame}
use Rattle.puffin_look.specs.Trees.{Pick, TreeFrame, AreRead, outputs}

pub AreRead-append : (pick : Pick) (fs gs : List OpenFrame) (xs ys : List TreeFrame) →
    AreRead pick fs xs → AreRead pick gs ys → AreRead pick (fs ++ gs) (xs ++ ys)
AreRead-append pick [] gs [] ys a b = b
AreRead-append pick [] gs (x ∷ xs) ys a b = absurd a
AreRead-append pick (f ∷ fs) gs [] ys a b = absurd a
AreRead-append pick (f ∷ fs) gs (x ∷ xs) ys a b = (a.0, AreRead-append pick fs gs xs ys a.1 b)

pub outputs-append : {S X Y : Type 0} (out : S → X → List Y) (next : S → X → S) (s : S) (xs ys : List X) →
    outputs out next s (xs ++ ys) ≡ outputs out next s xs ++ outputs out next (fold next s xs) ys
outputs-append out next s [] ys = refl
outputs-append {Y = Y} out next s (x ∷ xs) ys =
    ap (λ (t : List Y). out s x ++ t) (outputs-append out next (next s x) xs ys)
    ∙ sym (append_assoc (out s x) (outputs out next (next s x) xs)
    (outputs out next (fold next (next s x) xs) ys))

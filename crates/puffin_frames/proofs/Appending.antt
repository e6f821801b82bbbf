-- Layouts appended one after the other.
use Rattle.std.proofs.Common.{◌≡◌, ◌++◌, ◌∷◌, [], ℕ, ◌+◌, ◌<◌, List, length, map, drop, get_or, refl, ap, sym, subst, ◌∙◌, append_assoc}
use Rattle.std.proofs.lemmas.List.{append-nil, drop_more}
use Rattle.std.specs.List.{flat_map, AllByRecursion}

-- pieces that are appended one after the other are appended together: two, three, five and six of them
pub two : (o p q a b : List ℕ) → p ≡ o ++ a → q ≡ p ++ b → q ≡ o ++ (a ++ b)
two o p q a b f g = g ∙ (ap (λ (l : List ℕ). l ++ b) f ∙ append_assoc o a b)

pub three : (o p q r a b c : List ℕ) → p ≡ o ++ a → q ≡ p ++ b → r ≡ q ++ c → r ≡ o ++ (a ++ (b ++ c))
three o p q r a b c f g h = two o p r a (b ++ c) f (two p q r b c g h)

pub five : (o p q r s t a b c d e : List ℕ) →
    p ≡ o ++ a → q ≡ p ++ b → r ≡ q ++ c → s ≡ r ++ d → t ≡ s ++ e →
    t ≡ o ++ (a ++ (b ++ (c ++ (d ++ e))))
five o p q r s t a b c d e f g h i j =
    two o p t a (b ++ (c ++ (d ++ e))) f (two p q t b (c ++ (d ++ e)) g (three q r s t c d e h i j))

pub six : (o n p q r s t f a b c d e : List ℕ) →
    n ≡ o ++ f → p ≡ n ++ a → q ≡ p ++ b → r ≡ q ++ c → s ≡ r ++ d → t ≡ s ++ e →
    t ≡ o ++ (f ++ (a ++ (b ++ (c ++ (d ++ e)))))
six o n p q r s t f a b c d e first g h i j k =
    two o n t f (a ++ (b ++ (c ++ (d ++ e)))) first (five n p q r s t a b c d e g h i j k)

-- what was written of a list's items so far, and what is still to be written
pub record Writes {A : Type 0} (layout : A → List ℕ) (fits : A → Type 0) (before now : List ℕ) (rest all : List A) : Type 0 where
  pub done : List A
  pub whole : done ++ rest ≡ all
  pub written : now ≡ before ++ flat_map layout done
  pub fit : AllByRecursion fits done

-- what holds of all items and of one more holds of all of them
pub all_one : {A : Type 0} (fits : A → Type 0) (xs : List A) (x : A) →
    AllByRecursion fits xs → fits x →
    AllByRecursion fits (xs ++ x ∷ [])
all_one fits [] x all_so x_fits = (x_fits, tt)
all_one fits (y ∷ xs) x all_so x_fits = (all_so.0, all_one fits xs x all_so.1 x_fits)

-- the layouts of items and of one more
flat_one : {A : Type 0} (layout : A → List ℕ) (xs : List A) (x : A) →
    flat_map layout (xs ++ x ∷ []) ≡ flat_map layout xs ++ layout x
flat_one layout [] x = append-nil (layout x)
flat_one layout (y ∷ xs) x =
    ap (λ (l : List ℕ). layout y ++ l) (flat_one layout xs x) ∙ sym_assoc (layout y) (flat_map layout xs) (layout x)
  where
    sym_assoc : (a b c : List ℕ) → a ++ (b ++ c) ≡ (a ++ b) ++ c
    sym_assoc a b c = simp append_assoc

-- nothing is written at first
pub starts : {A : Type 0} (layout : A → List ℕ) (fits : A → Type 0) (now : List ℕ) (all : List A) →
    Writes layout fits now now all all
starts layout fits now all = record { done = []; whole = refl; written = simp append-nil; fit = tt }

-- one more item is written
pub one_more :
    {A : Type 0} (layout : A → List ℕ) (fits : A → Type 0) (before now next : List ℕ) (rest all : List A) (x : A) →
    Writes layout fits before now (x ∷ rest) all → next ≡ now ++ layout x → fits x →
    Writes layout fits before next rest all
one_more layout fits before now next rest all x so_far put fit = record {
  done = so_far.done ++ x ∷ [];
  whole = simp append_assoc so_far.whole;
  written =
      put
      ∙ (ap (λ (l : List ℕ). l ++ layout x) so_far.written
      ∙ (append_assoc before (flat_map layout so_far.done) (layout x)
      ∙ ap (λ (l : List ℕ). before ++ l) (back layout so_far.done x)));
  fit = all_one fits so_far.done x so_far.fit fit;
}
  where
    back : {A : Type 0} (layout : A → List ℕ) (xs : List A) (x : A) →
        flat_map layout xs ++ layout x ≡ flat_map layout (xs ++ x ∷ [])
    back layout xs x = simp (flat_one layout xs x)

-- all of them are written
pub all_written : {A : Type 0} (layout : A → List ℕ) (fits : A → Type 0) (before now : List ℕ) (all : List A) →
    Writes layout fits before now [] all →
    (now ≡ before ++ flat_map layout all) × AllByRecursion fits all
all_written {A = A} layout fits before now all so_far =
    let e : so_far.done ≡ all = simp append-nil at so_far.whole in
    let P : List A → Type 0 = λ (xs : List A). (now ≡ before ++ flat_map layout xs) × AllByRecursion fits xs in
    subst P e (so_far.written, so_far.fit)

-- the same with the rest in another form
pub next_of : {A : Type 0} (layout : A → List ℕ) (fits : A → Type 0) (before now : List ℕ) (rest other all : List A) →
    rest ≡ other → Writes layout fits before now rest all →
    Writes layout fits before now other all
next_of layout fits before now rest other all e so_far = subst (λ (xs : _). Writes layout fits before now xs all) e so_far

-- what is left of a slice from a place on
pub at_index : {X Y : Type 0} (f : X → Y) (xs : List X) (i : ℕ) (x : X) →
    i < length xs → x ≡ get_or xs i x →
    map f (drop i xs) ≡ f x ∷ map f (drop (i + 1) xs)
at_index {X} f xs i x lt is =
    ap (map f) (drop_more xs i x lt) ∙ ap (λ (y : X). f y ∷ map f (drop (i + 1) xs)) (sym is)

-- The bytes behind a dot (byte 46), if there is one.
use Rattle.std.proofs.Common.{◌≡◌, ◌≢◌, ◌==◌, ℕ, List, [], ◌∷◌, Bool, true, false, Option, Some, None, refl, ap, sym, arith, lit<, if◌then◌else◌}
use Rattle.std.specs.Prelude.{MatchOption, option_map}
use denote.Ref.{Bor}
use Rattle.std.proofs.lemmas.Bool.Decides.{nat_tests}
use Rattle.std.proofs.lemmas.Str.Pattern.{strip_prefix_char}
use Rattle.puffin_look.specs.Arguments.{behind_dot}
use Rattle.puffin_look.proofs.task.behind_dot.Goals as goal

-- a text of one byte or more, by whether its first is a dot
dot_or_not : (byte : ℕ) (bytes : List ℕ) (is : Bool) → (byte == 46) ≡ is → ((rest : List ℕ) → byte ∷ bytes ≢ 46 ∷ rest)
    → None ≡ (if is then Some bytes else None)
dot_or_not byte bytes true is no_rest =
    let same : byte ≡ 46 = grind (arith, nat_tests, is) in absurd (no_rest bytes (ap (λ (first : ℕ). first ∷ bytes) same))
dot_or_not byte bytes false is no_rest = refl

no_dot : (text : List ℕ) → ((rest : List ℕ) → text ≢ 46 ∷ rest) → None ≡ behind_dot text
no_dot [] no_rest = refl
no_dot (byte ∷ bytes) no_rest = dot_or_not byte bytes (byte == 46) refl no_rest

-- std's `strip_prefix` gives what is behind the dot
is_behind_dot : (text : List ℕ) (found : Option (Bor (List ℕ)))
    → MatchOption found ((rest : List ℕ) → text ≢ 46 ∷ rest) (λ rest. text ≡ 46 ∷ rest.now)
    → option_map (λ rest. rest.now) found ≡ behind_dot text
is_behind_dot text None no_rest = no_dot text no_rest
is_behind_dot text (Some rest) is = sym (ap behind_dot is)

pub returns : goal.returns
returns c =
    is_behind_dot c.args.word.now c.strip_prefix.result
    (strip_prefix_char 46 c.args.word.now c.strip_prefix.result c.strip_prefix.ensures.cases (lit< tt))

-- Texts that are appended one after the other.
use Rattle.std.proofs.Common.{◌≡◌, ℕ, List, ◌++◌, ap, ◌∙◌, append_assoc, Result, Ok, Err}
use Rattle.std.specs.Prelude.{is_ok, if◌then◌else◌, OnOk}

-- two texts, three, four, or five
pub pushed2 : (before first after a b : List ℕ) → first ≡ before ++ a → after ≡ first ++ b → after ≡ before ++ (a ++ b)
pushed2 before first after a b one two = two ∙ ap (λ (bs : List ℕ). bs ++ b) one ∙ append_assoc before a b

pub pushed3 : (before first second after a b c : List ℕ) → first ≡ before ++ a → second ≡ first ++ b → after ≡ second ++ c
    → after ≡ before ++ (a ++ (b ++ c))
pushed3 before first second after a b c one two three = pushed2 before first after a (b ++ c) one (pushed2 first second after b c two three)

pub pushed4 : (before first second third after a b c d : List ℕ) → first ≡ before ++ a → second ≡ first ++ b → third ≡ second ++ c
    → after ≡ third ++ d → after ≡ before ++ (a ++ (b ++ (c ++ d)))
pushed4 before first second third after a b c d one two three four =
    pushed2 before first after a (b ++ (c ++ d)) one (pushed3 first second third after b c d two three four)

pub pushed5 : (before first second third fourth after a b c d e : List ℕ) → first ≡ before ++ a → second ≡ first ++ b
    → third ≡ second ++ c → fourth ≡ third ++ d → after ≡ fourth ++ e → after ≡ before ++ (a ++ (b ++ (c ++ (d ++ e))))
pushed5 before first second third fourth after a b c d e one two three four five =
    pushed2 before first after a (b ++ (c ++ (d ++ e))) one (pushed4 first second third fourth after b c d e two three four five)

-- bytes were appended, if the call succeeded
pub appended_if : {T E : Type 0} (r : Result T E) (new old more : List ℕ) → new ≡ (if is_ok r then old ++ more else old)
    → OnOk r (new ≡ old ++ more)
appended_if (Ok x) new old more h = h
appended_if (Err e) new old more h = tt

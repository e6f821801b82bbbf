-- A string as a writer of JSON writes it.
use Rattle.std.proofs.Common.{◌≡◌, ℕ, Bool, true, false, List, [], ◌∷◌, ◌++◌, refl, ap, sym, ◌∙◌, append-nil, arith}
use Rattle.std.specs.Prelude.{nat_le, ◌==◌, not, ◌&&◌, codes}
use Rattle.std.specs.List.{list_all}
use Rattle.std.proofs.lemmas.Bool.Decides.{nat_tests}
use Rattle.json.specs.Ascii as ascii
use Rattle.json.specs.Print.{escape, escape_byte}
use Rattle.json.proofs.Printed.Strings.{escape_byte_plain}
use Rattle.puffin_look.specs.inner.Events.{is_plain}
use Rattle.json.specs.Token.{Token, string}
use Rattle.json.specs.Print.{quoted, print, print_from}

-- one string alone is printed in quotes
pub one_string : (s : List ℕ) → print (string s ∷ []) ≡ quoted s
unfolding print_from
one_string s = append-nil (quoted s)

-- one string was written behind what was there
pub quoted_behind : (items old before : List ℕ) (tokens now : List Token) (s : List ℕ) → items ≡ before ++ print tokens
    → before ≡ old → now ≡ [] → tokens ≡ now ++ string s ∷ [] → items ≡ old ++ quoted s
quoted_behind items old before tokens now s is same none one =
    is ∙ (λ i. same i ++ print (one i)) ∙ ap (λ (ts : List Token). old ++ print (ts ++ string s ∷ [])) none
    ∙ ap (λ (t : List ℕ). old ++ t) (one_string s)

-- ---- strings without escapes

-- both tests hold if their conjunction does
both : (a b : Bool) → (a && b) ≡ true → (a ≡ true) × (b ≡ true)
both true b h = (refl, h)
both false b h = absurd (cc)

-- a plain byte is no control character (below `space`), no `"` and no `\`, so it stays as it is
plain_byte : (byte : ℕ) → is_plain byte ≡ true → escape_byte byte ≡ byte ∷ []
plain_byte byte plain =
    let (not_control, others) = both (nat_le ascii.space byte) _ plain in
    let (not_quote, not_backslash) = both (not (byte == ascii.quote)) _ others in
    escape_byte_plain byte (grind (arith, nat_tests, not_quote)) (grind (arith, nat_tests, not_backslash))
    (grind (arith, nat_tests, not_control))

-- and so do many
escape_plain : (bytes : List ℕ) → list_all is_plain bytes ≡ true → escape bytes ≡ bytes
escape_plain [] plain = refl
escape_plain (byte ∷ bytes) plain =
    let (first, others) = both (is_plain byte) _ plain in
    λ i. plain_byte byte first i ++ escape_plain bytes others i

-- plain bytes are written between quotes
pub plain_quoted : (bytes : List ℕ) → list_all is_plain bytes ≡ true → codes "\"" ++ (bytes ++ codes "\"") ≡ quoted bytes
plain_quoted bytes plain = sym (ap (λ (t : List ℕ). codes "\"" ++ (t ++ codes "\"")) (escape_plain bytes plain))

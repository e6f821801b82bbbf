-- What a writer of JSON has written.
use Rattle.std.proofs.Common.{◌≡◌, ℕ, List, [], ◌∷◌, ◌++◌, ap, ◌∙◌, append_assoc}
use Rattle.json.specs.Print.{print}
use Rattle.json.specs.Token.{Token, begin_object, begin_array, key}
use Rattle.json.specs.Written.{Written}
use Rattle.puffin_look.specs.inner.Rows.{Writes}

-- an object is open, and in it an array
pub array_opened : (items : List ℕ) (new opened filled named now : Written) (ms : List Token) (s : List ℕ) → new.before ≡ []
    → new.tokens ≡ [] → opened.before ≡ new.before → opened.tokens ≡ new.tokens ++ begin_object ∷ [] → Writes opened filled ms
    → named.before ≡ filled.before → named.tokens ≡ filled.tokens ++ key s ∷ [] → now.before ≡ named.before
    → now.tokens ≡ named.tokens ++ begin_array ∷ [] → items ≡ now.before ++ print now.tokens
    → items ≡ print (begin_object ∷ (ms ++ key s ∷ begin_array ∷ []))
array_opened items new opened filled named now ms s front none front2 begun members front3 name front4 array is =
    let before : now.before ≡ [] = front4 ∙ front3 ∙ members.before ∙ front2 ∙ front in
    let begin : opened.tokens ≡ begin_object ∷ [] = begun ∙ ap (λ (ts : List Token). ts ++ begin_object ∷ []) none in
    let all : now.tokens ≡ begin_object ∷ (ms ++ key s ∷ begin_array ∷ []) =
    array ∙ ap (λ (ts : List Token). ts ++ begin_array ∷ []) (name
    ∙ ap (λ (ts : List Token). ts ++ key s ∷ []) (members.tokens ∙ ap (λ (ts : List Token). ts ++ ms) begin))
    ∙ ap (λ (ts : List Token). begin_object ∷ ts) (append_assoc ms (key s ∷ []) (begin_array ∷ [])) in
    is ∙ (λ i. before i ++ print (all i))

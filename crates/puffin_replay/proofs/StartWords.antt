-- The start in a word that names a thread: a time with or without a minus, or none.
use Rattle.std.proofs.Common.{◌≡◌, ◌≢◌, ◌==◌, ℕ, ◌^◌, ◌+◌, ◌<◌, ◌≤◌, ℤ, pos, neg_ℤ, List, [], ◌∷◌, length, get_or, Bool, true, false, Option, Some, None, Result, Ok, Err, refl, ap, arith, if◌then◌else◌, w64, ◌∙◌, sym, cond, not, ◌||◌}
use Rattle.std.specs.Option.{option_map}
use Rattle.std.specs.Result.{result_ok, OkIff}
use Rattle.std.specs.List.{list_any, position_or_len, before_first, after_first}
use Rattle.std.specs.Str.{all_ascii_digits}
use Rattle.std.specs.Str.Parse.{ParsesSigned, digits_value}
use Rattle.std.proofs.lemmas.Str.Parse.{parse_signed_minus, parse_signed_plain}
use Rattle.std.proofs.lemmas.Bool.Decides.{nat_tests}
use Rattle.puffin_threads.specs.Thread.ThreadKey.{ThreadKey}
use Rattle.puffin_replay.specs.Script.Statements.{moment_in}
use Rattle.puffin_data.specs.Number.{number_below}
use Rattle.puffin_replay.specs.Program.Arguments.{signed_moment_in, is_colon, start_in, thread_of_word}
use Rattle.puffin_data.proofs.lemmas.Decimals.{own, number_given, number_refused}

-- ---- signed numbers

-- the word is a decimal number below a limit
abbrev IsBelow : ℕ → List ℕ → Type 0
IsBelow limit word = (all_ascii_digits word ≡ true) × (0 < length word) × (digits_value 10 word < limit)

signed_of : {E : Type 0} (limit : ℕ) (f : ℕ → ℤ) (word : List ℕ) (r : Result ℤ E)
    → OkIff r (IsBelow limit word) (f (digits_value 10 word)) → result_ok r ≡ option_map f (number_below limit word)
signed_of limit f [] (Ok x) ((digits, some, small), is) = absurd (omega (arith, some))
signed_of limit f [] (Err e) h = refl
signed_of limit f (b ∷ bs) (Ok x) ((digits, some, small), is) =
    ap (λ (t : ℤ). Some t) is
    ∙ ap (option_map f) (number_given (all_ascii_digits (b ∷ bs)) _ limit _ digits small refl)
signed_of limit f (b ∷ bs) (Err e) h =
    ap (option_map f) (number_refused (all_ascii_digits (b ∷ bs)) _ limit (λ q. h (q.0, omega arith, q.1)))

at_most : {E : Type 0} (r : Result ℤ E) (most : ℕ) (word : List ℕ) (x : ℤ)
    → OkIff r ((all_ascii_digits word ≡ true) × (0 < length word) × (digits_value 10 word ≤ most)) x
    → OkIff r (IsBelow (most + 1) word) x
at_most (Ok y) most word x ((digits, some, small), is) = ((digits, some, omega (arith, small)), is)
at_most (Err e) most word x h = λ q. h (q.0, q.1, omega (arith, q.2))

is_minus : (byte : ℕ) → (byte == 45) ≡ true → byte ≡ 45
is_minus byte h = grind (arith, nat_tests)

is_no_minus : (byte : ℕ) → (byte == 45) ≡ false → byte ≢ 45
is_no_minus byte h = grind (arith, nat_tests)

pub signed_read : {E : Type 0} (word : List ℕ) (r : Result ℤ E) → ParsesSigned w64 10 word r → get_or word 0 0 ≢ 43
    → result_ok r ≡ signed_moment_in word
signed_read {E} [] (Ok x) h plain =
    absurd
    (
    let ((digits, some, small), is) = parse_signed_plain own {E = E} w64 [] (Ok x) h plain (λ e. absurd (omega arith)) in
    omega (arith, some))
signed_read {E} [] (Err e) h plain = refl
signed_read {E} (b ∷ bs) r h plain = by (b == 45) refl
  where
    by : (t : Bool) → (b == 45) ≡ t
        → result_ok r
        ≡ (if t then option_map (λ n. neg_ℤ (pos n)) (number_below (2 ^ 63 + 1) bs) else moment_in (b ∷ bs))
    by true at =
        signed_of (2 ^ 63 + 1) (λ n. neg_ℤ (pos n)) bs r
        (at_most r (2 ^ 63) bs _ (parse_signed_minus own {E = E} w64 (b ∷ bs) r h (is_minus b at)))
    by false at = signed_of (2 ^ 63) pos (b ∷ bs) r (parse_signed_plain own {E = E} w64 (b ∷ bs) r h plain (is_no_minus b at))

-- ---- the first colon

no_colon : (word : List ℕ) → position_or_len is_colon word ≡ length word → list_any is_colon word ≡ false
no_colon [] h = refl
no_colon (b ∷ bs) h =
    elim (is_colon b) as (λ t. cond (not t) (1 + position_or_len is_colon bs) 0 ≡ length (b ∷ bs) → (t || list_any is_colon bs) ≡ false) [
      | true ↦ λ e. absurd (omega arith)
      | false ↦ λ e. no_colon bs (omega arith)
    ] h

abbrev named : List ℕ → Option ℤ → ThreadKey
named name start = record { start = start; name = name }

-- a word without a colon names no thread
pub no_thread : (word : List ℕ) → position_or_len is_colon word ≡ length word → None ≡ thread_of_word word
no_thread word h =
    ap
    (λ (t : Bool). if t then option_map (named (after_first is_colon word)) (start_in (before_first is_colon word))
    else None) (sym (no_colon word h))

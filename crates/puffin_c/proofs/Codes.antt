-- Each answer has a number of its own: it is read back from its number.
use Rattle.std.proofs.Common.{◌≡◌, ◌<◌, ℕ, ◌+◌, ◌*◌, ◌/◌, ◌%◌, refl, sym, ap, ◌∙◌, arith}
use Rattle.std.specs.Prelude.{Result, Ok, Err, ◌==◌, if◌then◌else◌}
use Rattle.puffin_data.specs.Cause.{error_number}
use Rattle.puffin_data.specs.declared.error.Error.{Error}
use Rattle.puffin_data.specs.declared.error.Error.TheVariants as error
use Rattle.puffin_data.specs.declared.file_error.FileError.{FileError}
use Rattle.puffin_data.specs.declared.file_error.FileError.TheVariants as file
use Rattle.puffin_c.specs.declared.fault.Fault.{Fault}
use Rattle.puffin_c.specs.declared.fault.Fault.TheVariants as fault
use Rattle.puffin_c.specs.Faults.{answer_code}

-- what a call returns
abbrev pub Answer : Type 0
Answer = Result (Unit {0}) Fault

-- the error, and the answer, whose number is this
abbrev error_at : ℕ → Error
error_at n =
    if n == 1 then error.PrematureEnd else
    if n == 2 then error.InvalidStream else
    if n == 3 then error.ScopeNeverEnded else
    if n == 4 then error.InvalidOffset else
    if n == 5 then error.Empty else
    if n == 6 then error.TooLarge else
    if n == 7 then error.RangeTooLong else
    if n == 8 then error.MismatchedEnd else
    if n == 9 then error.ScopesOpen else
    if n == 10 then error.MissingId else
    if n == 11 then error.IdsExhausted else
    if n == 12 then error.IndexExhausted else
    if n == 13 then error.SinkIdsExhausted else
    if n == 14 then error.TooDeep else
    if n == 15 then error.NoThread else
    if n == 16 then error.Memory else
    error.UnlikeForms

-- the answer whose number is r and 256 times q, where q is the number that a file's fault holds
abbrev answer_at : ℕ → ℕ → Answer
answer_at r q =
    if r == 0 then Ok tt else
    if r == 32 then Err fault.NotText else
    if r == 33 then Err fault.NoId else
    if r == 34 then Err fault.NotOpen else
    if r == 35 then Err fault.IsOpen else
    if r == 65 then Err (fault.File file.Io) else
    if r == 66 then Err (fault.File file.NoMagic) else
    if r == 67 then Err (fault.File file.Truncated) else
    if r == 68 then Err (fault.File file.Legacy) else
    if r == 69 then Err (fault.File file.Newer) else
    if r == 70 then Err (fault.File (file.UnknownKind q)) else
    if r == 71 then Err (fault.File (file.Compressed q)) else
    if r == 72 then Err (fault.File file.BadMeta) else
    if r == 73 then Err (fault.File file.BadStreams) else
    if r == 74 then Err (fault.File file.BadScopes) else
    if r == 75 then Err (fault.File file.BadRange) else
    if r == 76 then Err (fault.File file.PartTooLong) else
    if r == 77 then Err (fault.File (file.Refused (error_at q))) else
    if r == 78 then Err (fault.File file.Memory) else
    Err (fault.Refused (error_at r))

abbrev answer_of : ℕ → Answer
answer_of n = answer_at (n % 256) (n / 256)

-- which is found by division
high : (a q : ℕ) → a < 256 → answer_of (a + 256 * q) ≡ answer_at a q
high a q low =
    let rest : (a + 256 * q) % 256 ≡ a = omega (arith, low) in
    let times : (a + 256 * q) / 256 ≡ q = omega (arith, low) in
    ap (λ (r : ℕ). answer_at r ((a + 256 * q) / 256)) rest ∙ ap (answer_at a) times

-- each error, each file's fault and each answer is read back from its number
again : (e : Error) → error_at (error_number e) ≡ e
again e = grind arith

of_file : (f : FileError) → answer_of (answer_code (Err (fault.File f))) ≡ Err (fault.File f)
of_file (file.UnknownKind k) =
    let same : 64 + (6 + 256 * k) ≡ 70 + 256 * k = omega arith in ap answer_of same ∙ high 70 k (omega arith)
of_file (file.Compressed k) =
    let same : 64 + (7 + 256 * k) ≡ 71 + 256 * k = omega arith in ap answer_of same ∙ high 71 k (omega arith)
of_file (file.Refused e) =
    let n = error_number e in
    let same : 64 + (13 + 256 * n) ≡ 77 + 256 * n = omega arith in
    ap answer_of same ∙ high 77 n (omega arith) ∙ ap (λ (x : Error). Err (fault.File (file.Refused x))) (again e)
of_file other = grind arith

of_error : (e : Error) → answer_of (answer_code (Err (fault.Refused e))) ≡ Err (fault.Refused e)
of_error e = grind arith

read_back : (answer : Answer) → answer_of (answer_code answer) ≡ answer
read_back (Ok tt) = refl
read_back (Err (fault.Refused e)) = of_error e
read_back (Err (fault.File f)) = of_file f
read_back other = grind arith

pub distinct : (one other : Answer) → answer_code one ≡ answer_code other → one ≡ other
distinct one other same = sym (read_back one) ∙ ap answer_of same ∙ read_back other

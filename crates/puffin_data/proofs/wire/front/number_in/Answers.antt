-- What is read is a number's layout, and nothing is read only where none begins.
use Rattle.std.proofs.Common.{rules, ◌≡◌, ℕ, ◌-◌, ◌<◌, ◌≤◌, ◌^◌, true, List, [], ◌∷◌, drop, take, length, Some, None, slice_index_or, refl, sym, ap, ◌∙◌, ltb, arith}
use Rattle.std.proofs.lemmas.List.{take_all}
use Rattle.puffin_data.specs.Value.Layout.{number, two_bytes_mark, IsLong, IsBytes}
use Rattle.puffin_data.specs.Value.Decoding.{number_at, number_after, wide_at}
use Rattle.puffin_data.specs.inner.Fronts.{GivesWithRest}
use Rattle.puffin_data.proofs.lemmas.Readers.{none_begins, reads_with_rest}
use Rattle.puffin_data.proofs.lemmas.ValueReaders.{number_reader}
use Rattle.puffin_data.proofs.wire.front.number_in.Goals as goal

abbrev tail : List ℕ → List ℕ
tail bytes = take (length bytes - 1) (drop 1 bytes)

first_and_tail : (bytes : List ℕ) → 1 ≤ length bytes → number_at bytes ≡ number_after (slice_index_or bytes 0 0) (tail bytes)
first_and_tail [] some = absurd (omega (arith, some))
first_and_tail (first ∷ rest) some =
    let size : length (first ∷ rest) - 1 ≡ length rest = omega arith in
    ap (λ (any : List ℕ). number_after first any) (sym (ap (λ (any : ℕ). take any rest) size ∙ take_all (length rest) rest (omega arith)))

one_byte : (first : ℕ) (rest : List ℕ) → first < 251 → number_after first rest ≡ Some (first, rest)
unfolding number_after
one_byte first rest small =
    let test : ltb first 251 ≡ true = grind arith in
    rw test refl

two_bytes : (rest : List ℕ) → number_after 251 rest ≡ wide_at 2 two_bytes_mark rest
unfolding number_after
two_bytes rest = refl

four_bytes : (rest : List ℕ) → number_after 252 rest ≡ wide_at 4 (2 ^ 16) rest
unfolding number_after
four_bytes rest = refl

eight_bytes : (rest : List ℕ) → number_after 253 rest ≡ wide_at 8 (2 ^ 32) rest
unfolding number_after
eight_bytes rest = refl

pub returns-in-empty-clause-reads : goal.returns-in-empty-clause-reads
returns-in-empty-clause-reads c =
    let none : number_at c.args.bytes.now ≡ None = search rules in
    none_begins IsLong number number_at number_reader c.args.bytes.now none

pub returns-then-first-lt-TWO_BYTES_MARK-clause-reads : goal.returns-then-first-lt-TWO_BYTES_MARK-clause-reads
returns-then-first-lt-TWO_BYTES_MARK-clause-reads c =
    let bytes : IsBytes c.args.bytes.now = λ index. omega (arith, c.type_inv.bytes index) in
    let some : 1 ≤ length c.args.bytes.now = search rules in
    let first = slice_index_or c.args.bytes.now 0 0 in
    let small : first < 251 = search rules in
    let given : number_at c.args.bytes.now ≡ Some (first, tail c.args.bytes.now) =
    first_and_tail c.args.bytes.now some ∙ one_byte first (tail c.args.bytes.now) small in
    number_reader.taken c.args.bytes.now first (tail c.args.bytes.now) bytes given

pub returns-then-first-clause-reads : goal.returns-then-first-clause-reads
returns-then-first-clause-reads c =
    let bytes : IsBytes c.args.bytes.now = λ index. omega (arith, c.type_inv.bytes index) in
    let some : 1 ≤ length c.args.bytes.now = search rules in
    let mark : slice_index_or c.args.bytes.now 0 0 ≡ 251 = search rules in
    let reading : number_at c.args.bytes.now ≡ wide_at 2 two_bytes_mark (tail c.args.bytes.now) =
    first_and_tail c.args.bytes.now some
    ∙ (ap (λ (any : ℕ). number_after any (tail c.args.bytes.now)) mark ∙ two_bytes (tail c.args.bytes.now)) in
    let given : GivesWithRest (λ read. (read.0, read.1.now)) c.two_bytes_in.result (number_at c.args.bytes.now) =
    rw reading c.two_bytes_in.ensures in
    reads_with_rest (λ read. (read.0, read.1.now)) IsLong number number_at number_reader c.args.bytes.now c.two_bytes_in.result bytes given

pub returns-then-first-2-clause-reads : goal.returns-then-first-2-clause-reads
returns-then-first-2-clause-reads c =
    let bytes : IsBytes c.args.bytes.now = λ index. omega (arith, c.type_inv.bytes index) in
    let some : 1 ≤ length c.args.bytes.now = search rules in
    let mark : slice_index_or c.args.bytes.now 0 0 ≡ 252 = search rules in
    let reading : number_at c.args.bytes.now ≡ wide_at 4 (2 ^ 16) (tail c.args.bytes.now) =
    first_and_tail c.args.bytes.now some
    ∙ (ap (λ (any : ℕ). number_after any (tail c.args.bytes.now)) mark ∙ four_bytes (tail c.args.bytes.now)) in
    let given : GivesWithRest (λ read. (read.0, read.1.now)) c.four_bytes_in.result (number_at c.args.bytes.now) =
    rw reading c.four_bytes_in.ensures in
    reads_with_rest (λ read. (read.0, read.1.now)) IsLong number number_at number_reader c.args.bytes.now c.four_bytes_in.result bytes given

pub returns-then-first-3-clause-reads : goal.returns-then-first-3-clause-reads
returns-then-first-3-clause-reads c =
    let bytes : IsBytes c.args.bytes.now = λ index. omega (arith, c.type_inv.bytes index) in
    let some : 1 ≤ length c.args.bytes.now = search rules in
    let mark : slice_index_or c.args.bytes.now 0 0 ≡ 253 = search rules in
    let reading : number_at c.args.bytes.now ≡ wide_at 8 (2 ^ 32) (tail c.args.bytes.now) =
    first_and_tail c.args.bytes.now some
    ∙ (ap (λ (any : ℕ). number_after any (tail c.args.bytes.now)) mark ∙ eight_bytes (tail c.args.bytes.now)) in
    let given : GivesWithRest (λ read. (read.0, read.1.now)) c.eight_bytes_in.result (number_at c.args.bytes.now) =
    rw reading c.eight_bytes_in.ensures in
    reads_with_rest (λ read. (read.0, read.1.now)) IsLong number number_at number_reader c.args.bytes.now c.eight_bytes_in.result
    bytes given

pub returns-else-first-3-clause-reads : goal.returns-else-first-3-clause-reads
unfolding number_after
returns-else-first-3-clause-reads c =
    let none : number_at c.args.bytes.now ≡ None = search rules in
    none_begins IsLong number number_at number_reader c.args.bytes.now none

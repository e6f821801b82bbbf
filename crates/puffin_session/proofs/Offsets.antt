-- The offsets of a thread's open scopes: the last one begun stands first, and each offset is less than those of scopes begun
-- after it.
use Rattle.std.proofs.Common.{◌≡◌, ℕ, zero, suc, ◌+◌, ◌-◌, ◌<◌, ◌≤◌, ℤ, List, [], ◌∷◌, ◌++◌, length, drop, take, get_or, reverse, Some, refl, sym, ap, ◌∙◌, arith, length-append, length-drop, ◌⊎◌, inl, inr}
use Rattle.std.specs.Prelude.{slice_get}
use Rattle.std.specs.List.{fold}
use Rattle.std.proofs.lemmas.List.{get_or-reverse, length-reverse, reverse-append, take_at}
use Rattle.std.proofs.lemmas.Option.{get_or_from_slice_get}
use Rattle.puffin_data.specs.Forest.Spelling.{size_offset, head_size}
use Rattle.puffin_data.specs.declared.data.form.Form.{Form}
use Rattle.puffin_data.specs.Forest.Tour.{Event, Open, Close}
use Rattle.puffin_data.specs.Forest.Words.{word_size, open_after}
use Rattle.puffin_data.specs.declared.error.Error.{Error}
use Rattle.puffin_data.specs.Honesty.{StreamFacts}
use Rattle.puffin_threads.specs.declared.thread_profiler.reporter.Closed.{Closed}
use Rattle.puffin_threads.specs.declared.thread_profiler.reporter.Closed.TheVariants.{Inner, Reported, Kept}
use Rattle.puffin_threads.specs.Thread.Closing.{Closes}
use Rattle.puffin_threads.specs.Thread.ThreadKey.{ThreadKey}
use Rattle.puffin_threads.specs.Details.{Details}
use Rattle.puffin_threads.specs.Thread.Calls.{Thread, after_begin, after_end, opened_after, open_offsets, offsets_of}

fold_last : (form : Form) (word : List Event) (e : Event) (sofar : ℕ × List ℕ)
    → fold (opened_after form) sofar (word ++ (e ∷ [])) ≡ opened_after form (fold (opened_after form) sofar word) e
fold_last form [] e sofar = refl
fold_last form (d ∷ word) e sofar = fold_last form word e (opened_after form sofar d)

size_along : (form : Form) (word : List Event) (sofar : ℕ × List ℕ)
    → (fold (opened_after form) sofar word).0 ≡ sofar.0 + word_size form word
size_along form [] sofar = omega arith
size_along form (Open id text start ∷ word) sofar =
    omega (arith, size_along form word (sofar.0 + head_size form text, (sofar.0 + size_offset form text) ∷ sofar.1))
size_along form (Close stop ∷ word) sofar = omega (arith, size_along form word (sofar.0 + 9, drop 1 sofar.1))

offsets-open : (form : Form) (word : List Event) (id : ℕ) (text : List ℕ) (start : ℤ)
    → open_offsets form (word ++ (Open id text start ∷ []))
    ≡ (word_size form word + size_offset form text) ∷ open_offsets form word
offsets-open form word id text start =
    ap (λ (p : ℕ × List ℕ). p.1) (fold_last form word (Open id text start) (0, []))
    ∙ ap (λ (n : ℕ). (n + size_offset form text) ∷ open_offsets form word)
    (size_along form word (0, []) ∙ omega arith)

offsets-close : (form : Form) (word : List Event) (stop : ℤ)
    → open_offsets form (word ++ (Close stop ∷ [])) ≡ drop 1 (open_offsets form word)
offsets-close form word stop = ap (λ (p : ℕ × List ℕ). p.1) (fold_last form word (Close stop) (0, []))

open_along : (form : Form) (word : List Event) (sofar : ℕ × List ℕ)
    → open_after (length sofar.1) word ≡ length (fold (opened_after form) sofar word).1
open_along form [] sofar = refl
open_along form (Open id text start ∷ word) sofar =
    ap (λ (n : ℕ). open_after n word) (omega arith)
    ∙ open_along form word (sofar.0 + head_size form text, (sofar.0 + size_offset form text) ∷ sofar.1)
open_along form (Close stop ∷ word) sofar =
    ap (λ (n : ℕ). open_after n word) (sym (length-drop 1 sofar.1)) ∙ open_along form word (sofar.0 + 9, drop 1 sofar.1)

-- as many scopes are open as have their offsets
pub open_after-offsets : (form : Form) (word : List Event) → open_after 0 word ≡ length (open_offsets form word)
open_after-offsets form word = open_along form word (0, [])

-- ---- the code's list, which has the innermost last

reverse-first : (x : ℕ) (xs : List ℕ) → reverse (x ∷ xs) ≡ reverse xs ++ (x ∷ [])
reverse-first x xs = reverse-append (x ∷ []) xs

-- a scope that begins puts its place behind the others
pub pushed : (items more : List ℕ) (old new : Thread) (id : ℕ) (text : List ℕ) (t : ℤ) (offset : ℕ)
    → items ≡ reverse (offsets_of old) → new ≡ after_begin old id text t
    → offset ≡ word_size old.form old.word + size_offset old.form text
    → more ≡ items ++ (offset ∷ []) → more ≡ reverse (offsets_of new)
pushed items more old new id text t offset was begun place is =
    is
    ∙ ap (λ (n : ℕ). items ++ (n ∷ [])) place
    ∙ ap (λ (xs : List ℕ). xs ++ ((word_size old.form old.word + size_offset old.form text) ∷ [])) was
    ∙ sym (reverse-first (word_size old.form old.word + size_offset old.form text) (offsets_of old))
    ∙ sym
    (ap (λ (th : Thread). reverse (offsets_of th)) begun ∙ ap reverse (offsets-open old.form old.word id text _))

popped_list : (xs : List ℕ) → take (length (reverse xs) - 1) (reverse xs) ≡ reverse (drop 1 xs)
popped_list [] = refl
popped_list (x ∷ xs) =
    ap (λ (ys : List ℕ). take (length ys - 1) ys) (reverse-first x xs)
    ∙ take_at (reverse xs) (x ∷ []) (length (reverse xs ++ (x ∷ [])) - 1)
    (omega (arith, length-append (reverse xs) (x ∷ [])))

-- a scope that ends takes away the last place
pub popped : (items less : List ℕ) (old new : Thread) (t : ℤ) → items ≡ reverse (offsets_of old)
    → new ≡ after_end old t → less ≡ take (length items - 1) items → less ≡ reverse (offsets_of new)
popped items less old new t was ended is =
    is
    ∙ ap (λ (xs : List ℕ). take (length xs - 1) xs) was
    ∙ popped_list (offsets_of old)
    ∙ sym (ap (λ (th : Thread). reverse (offsets_of th)) ended ∙ ap reverse (offsets-close old.form old.word _))

-- the innermost scope's place goes where it ends, and all go where all was handed over
pub closed_places : {R : Type 0} (accepts : R → ThreadKey → List Details → StreamFacts → R → Type 0)
    (refuses : R → ThreadKey → List Details → StreamFacts → Error → R → Type 0) (items less : List ℕ)
    (old new : Thread) (t : ℤ) (before after : R) (closed : Closed) → items ≡ reverse (offsets_of old)
    → less ≡ take (length items - 1) items
    → Closes accepts refuses old new t before after closed → less ≡ reverse (offsets_of new)
closed_places accepts refuses items less old new t before after Inner was is (inner_left, is_after, kept) =
    popped items less old new t was is_after is
closed_places accepts refuses items less old new t before after Reported was is (last, is_after, accepted) =
    let one : length (offsets_of old) ≡ 1 = sym (open_after-offsets old.form old.word) ∙ last in
    is
    ∙ ap (λ (xs : List ℕ). take (length xs - 1) xs) was
    ∙ popped_list (offsets_of old)
    ∙ ap reverse (one_dropped (offsets_of old) one)
    ∙ sym (ap (λ (th : Thread). reverse (offsets_of th)) is_after)
  where
    one_dropped : (xs : List ℕ) → length xs ≡ 1 → drop 1 xs ≡ []
    one_dropped [] e = absurd (omega arith)
    one_dropped (x ∷ []) e = refl
    one_dropped (x ∷ (y ∷ ys)) e = absurd (omega arith)
closed_places accepts refuses items less old new t before after (Kept e) was is (last, is_after, refused) =
    popped items less old new t was is_after is

-- where no place stands so far from the last, it is an outer one's, or no scope is open
pub past_all : (items : List ℕ) (form : Form) (word : List Event) (back : ℕ)
    → items ≡ reverse (open_offsets form word) → length items ≤ back → (0 < back) ⊎ (open_after 0 word ≡ 0)
past_all items form word zero was past =
    inr (omega (arith, open_after-offsets form word, length-reverse (open_offsets form word), ap length was))
past_all items form word (suc back) was past = inl (omega arith)

-- ---- places fall from the innermost outwards

Falls : ℕ → List ℕ → Type 0
Falls n [] = Unit {0}
Falls n (x ∷ xs) = (x < n) × Falls x xs

-- places that fall below a limit fall below a higher one, and so do all but the innermost
falls_above : (n m : ℕ) (xs : List ℕ) → n ≤ m → Falls n xs → Falls m xs
unfolding Falls
falls_above n m [] le h = tt
falls_above n m (x ∷ xs) le (low, falls) = (omega (arith, low), falls)

falls_rest : (n m : ℕ) (xs : List ℕ) → n ≤ m → Falls n xs → Falls m (drop 1 xs)
unfolding Falls
falls_rest n m [] le h = tt
falls_rest n m (x ∷ xs) le (low, falls) = falls_above x m xs (omega (arith, low)) falls

-- the places of the open scopes fall
falls_along : (form : Form) (word : List Event) (sofar : ℕ × List ℕ) → Falls sofar.0 sofar.1
    → Falls (fold (opened_after form) sofar word).0 (fold (opened_after form) sofar word).1
unfolding Falls
falls_along form [] sofar h = h
falls_along form (Open id text start ∷ word) sofar h =
    falls_along form word (sofar.0 + head_size form text, (sofar.0 + size_offset form text) ∷ sofar.1)
    (omega arith, falls_above sofar.0 (sofar.0 + size_offset form text) sofar.1 (omega arith) h)
falls_along form (Close stop ∷ word) sofar h =
    falls_along form word (sofar.0 + 9, drop 1 sofar.1) (falls_rest sofar.0 (sofar.0 + 9) sofar.1 (omega arith) h)

-- each of them is below the limit, so only the first one is the innermost's
below : (n : ℕ) (xs : List ℕ) (k d : ℕ) → Falls n xs → k < length xs → get_or xs k d < n
unfolding Falls
below n [] k d h lt = absurd (omega arith)
below n (x ∷ xs) zero d (low, falls) lt = low
below n (x ∷ xs) (suc k) d (low, falls) lt = omega (arith, low, below x xs k d falls (omega arith))

first_only : (n : ℕ) (xs : List ℕ) (k x d : ℕ) → Falls n xs → k < length xs → get_or xs k d ≡ x → slice_get xs 0 ≡ Some x → k ≡ 0
unfolding Falls
first_only n [] k x d h lt at first = absurd (omega arith)
first_only n (y ∷ ys) zero x d h lt at first = refl
first_only n (y ∷ ys) (suc k) x d (low, falls) lt at first =
    let same : y ≡ x = get_or_from_slice_get (y ∷ ys) 0 x d first in
    absurd (omega (arith, same, at, below y ys k d falls (omega arith)))

-- a place that is the innermost one's was read at the list's end
pub innermost_last : (items : List ℕ) (form : Form) (word : List Event) (back offset : ℕ)
    → items ≡ reverse (open_offsets form word) → back < length items
    → offset ≡ get_or items (length items - 1 - back) offset → slice_get (open_offsets form word) 0 ≡ Some offset
    → back ≡ 0
unfolding Falls
innermost_last items form word back offset was lt read first =
    let offsets = open_offsets form word in
    let size : length items ≡ length offsets = ap length was ∙ length-reverse offsets in
    let there : get_or items (length items - 1 - back) offset ≡ get_or offsets back offset =
    ap (λ (xs : List ℕ). get_or xs (length xs - 1 - back) offset) was
    ∙ get_or-reverse offsets (length (reverse offsets) - 1 - back) offset (omega (arith, size, length-reverse offsets))
    ∙ ap (λ (k : ℕ). get_or offsets k offset) (omega (arith, size, length-reverse offsets)) in
    first_only (fold (opened_after form) (0, []) word).0 offsets back offset offset (falls_along form word (0, []) tt)
    (omega (arith, size)) (sym there ∙ sym read) first

-- any other place isn't, so a refusal says that no scope is open or that the place is an outer one
pub outer_or_none : (items : List ℕ) (form : Form) (word : List Event) (back offset : ℕ)
    → items ≡ reverse (open_offsets form word) → back < length items
    → offset ≡ get_or items (length items - 1 - back) offset
    → (slice_get (open_offsets form word) 0 ≡ Some offset → ⊥) → 0 < back
outer_or_none items form word zero offset was lt read other =
    let offsets = open_offsets form word in
    let size : length items ≡ length offsets = ap length was ∙ length-reverse offsets in
    let there : get_or items (length items - 1 - 0) offset ≡ get_or offsets 0 offset =
    ap (λ (xs : List ℕ). get_or xs (length xs - 1 - 0) offset) was
    ∙ get_or-reverse offsets (length (reverse offsets) - 1 - 0) offset (omega (arith, size, length-reverse offsets))
    ∙ ap (λ (k : ℕ). get_or offsets k offset) (omega (arith, size, length-reverse offsets)) in
    absurd (other (got offsets offset (omega (arith, size)) (read ∙ there)))
  where
    got : (xs : List ℕ) (x : ℕ) → 0 < length xs → x ≡ get_or xs 0 x → slice_get xs 0 ≡ Some x
    got [] x lt e = absurd (omega arith)
    got (y ∷ ys) x lt e = ap Some (sym e)
outer_or_none items form word (suc back) offset was lt read other = omega arith

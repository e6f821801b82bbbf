-- A script is read line by line: its lines, the numbers and forms of its threads, and its commands.
use Rattle.std.proofs.Common.{◌≡◌, ◌==◌, ℕ, ◌+◌, ◌-◌, ◌<◌, ◌≤◌, List, [], ◌∷◌, ◌++◌, length, map, take, drop, append_assoc, zero, suc, if◌then◌else◌, Bool, true, false, cond, not, Option, Some, None, option_map, Result, Ok, Err, refl, ap, sym, subst, ◌∙◌, arith, length-drop, append-nil, get_or, is_some, slice_get, position, MatchOption}
use Rattle.std.specs.List.{position_or_len, list_any}
use Rattle.std.proofs.lemmas.List.{take_all, map-append}
use Rattle.std.proofs.lemmas.List.Elements.{filter-append}
use Rattle.puffin_data.specs.declared.data.form.Form.{Form}
use Rattle.puffin_data.specs.declared.data.form.Form.TheVariants.{Short}
use Rattle.std.proofs.lemmas.List.Splits.{slice_split_first, length-slice_split}
use Rattle.std.proofs.lemmas.List.Sums.{prefix_len-le-length, count_by-le-length}
use Rattle.std.specs.Str.{is_utf8, IsUtf8}
use Rattle.std.proofs.lemmas.Str.{IsUtf8-from_is_utf8, is_utf8-from_IsUtf8}
use Rattle.std.proofs.Math.Bool.{or-true}
use Rattle.std.specs.String.{string_bytes}
use Rattle.std.specs.declared.string.String.{String}
use Rattle.std.proofs.lemmas.Bool.{false_from_ne_true}
use Rattle.std.proofs.lemmas.Bool.Decides.{nat_tests}
use Rattle.puffin_replay.specs.Script.Statements.{Meaning, line_meaning, words_in}
use Rattle.puffin_replay.specs.inner.ScriptReading.{meaning_of}
use Rattle.puffin_replay.specs.Script.{is_line_feed, lines_in, is_skipped, meaning_or_number, told_by, with_statement, is_late, statements_from, with_name, with_if_named, with_thread_of, with_form, with_form_of, thread_named_by, threads_after, forms_after, is_command, commands_in, command_said, with_forms}
use Rattle.std.proofs.lemmas.List.Folds.{list_any-append}
use Rattle.std.proofs.lemmas.Slice.Eq.{bytes_eq-Decides}
use Rattle.std.specs.Str.{bytes_eq}
use Rattle.puffin_session.specs.declared.command.Command.{Command}
use Rattle.puffin_session.specs.declared.command.Command.TheVariants as command
use Rattle.puffin_replay.proofs.Statements.{one_word}

-- ---- lines

found : (p : ℕ → Bool) (xs : List ℕ) (at : ℕ) → Some at ≡ position p xs → (position_or_len p xs < length xs) × (at ≡ position_or_len p xs)
found p xs at h = grind (arith, nat_tests)

not_found : (p : ℕ → Bool) (xs : List ℕ) → None ≡ position p xs → position_or_len p xs ≡ length xs
not_found p xs h = let within = prefix_len-le-length (λ x. not (p x)) xs in grind (arith, nat_tests)

pub line_and_rest : (bytes : List ℕ) (at : ℕ) → Some at ≡ position is_line_feed bytes
    → lines_in bytes ≡ take at bytes ∷ lines_in (take (length bytes - (at + 1)) (drop (at + 1) bytes))
line_and_rest bytes at h =
    let there = found is_line_feed bytes at h in
    let split = slice_split_first is_line_feed bytes 0 there.0 in
    let all : take (length bytes - (at + 1)) (drop (at + 1) bytes) ≡ drop (at + 1) bytes =
    take_all _ _ (omega (arith, length-drop (at + 1) bytes)) in
    rw all (rw there.1 split)

pub last_line : (bytes : List ℕ) → None ≡ position is_line_feed bytes → lines_in bytes ≡ bytes ∷ []
last_line bytes h = one_word is_line_feed bytes (not_found is_line_feed bytes h)

pub few_lines : (bytes : List ℕ) → length (lines_in bytes) ≤ length bytes + 1
few_lines bytes = omega (arith, length-slice_split is_line_feed bytes, count_by-le-length is_line_feed bytes)

-- ---- what a line says

pub told_no_text : (number : ℕ) (line : List ℕ) → ¬ IsUtf8 line → told_by number line ≡ Err number
unfolding told_by
told_no_text number line h =
    let no : is_utf8 line ≡ false = false_from_ne_true (is_utf8 line) (λ e. h (IsUtf8-from_is_utf8 line e)) in
    rw no refl

pub told_skipped : (number : ℕ) (line : List ℕ) → IsUtf8 line → true ≡ is_skipped line → told_by number line ≡ Ok None
unfolding told_by
told_skipped number line text skipped =
    let yes = is_utf8-from_IsUtf8 line text in
    rw (yes, sym skipped) refl

pub told_known : (number : ℕ) (line : List ℕ) (what : Option Meaning) → IsUtf8 line → false ≡ is_skipped line
    → what ≡ line_meaning (words_in line) → told_by number line ≡ meaning_or_number number what
unfolding told_by
told_known number line what text kept meaning_of =
    let yes = is_utf8-from_IsUtf8 line text in
    rw (yes, sym kept, sym meaning_of) refl

-- ---- threads

slice_get-left : {X : Type 0} (xs ys : List X) (i : ℕ) (x : X) → slice_get xs i ≡ Some x → slice_get (xs ++ ys) i ≡ Some x
slice_get-left [] ys i x h = absurd cc
slice_get-left (y ∷ xs) ys zero x h = h
slice_get-left (y ∷ xs) ys (suc i) x h = slice_get-left xs ys i x h

slice_get-last : {X : Type 0} (xs : List X) (x : X) → slice_get (xs ++ x ∷ []) (length xs) ≡ Some x
slice_get-last [] x = refl
slice_get-last (y ∷ xs) x = slice_get-last xs x

any_there : (names : List (List ℕ)) (i : ℕ) (name : List ℕ) → slice_get names i ≡ Some name → list_any (bytes_eq name) names ≡ true
any_there [] i name h = absurd cc
any_there (x ∷ names) zero name h =
    let same : name ≡ x = cc in
    let equal = (bytes_eq-Decides name x).1 same in
    rw equal refl
any_there (x ∷ names) (suc i) name h =
    let later = any_there names i name h in
    rw later (or-true (bytes_eq name x))

pub known_name : (names : List (List ℕ)) (i : ℕ) (name : List ℕ) → slice_get names i ≡ Some name → names ≡ with_name names name
known_name names i name h = let there = any_there names i name h in rw there refl

differs : (name q : List ℕ) → bytes_eq name q ≡ false → bytes_eq q name ≡ false
differs name q e =
    false_from_ne_true _
    (λ same. absurd (let back = (bytes_eq-Decides name q).1 (sym ((bytes_eq-Decides q name).0 same)) in cc))

-- what a table of numbers says of a text
abbrev Places : List (List ℕ) → List ℕ → Option ℕ → Type 0
Places names q o = MatchOption o (list_any (bytes_eq q) names ≡ false) (λ i. slice_get names i ≡ Some q)

numbered_at : (b : Bool) (names : List (List ℕ)) (name q : List ℕ) (old : Option ℕ) → bytes_eq name q ≡ b
    → Places names q old → Places (names ++ name ∷ []) q (cond b (Some (length names)) old)
numbered_at true names name q old e before =
    subst (λ (x : List ℕ). slice_get (names ++ name ∷ []) (length names) ≡ Some x) ((bytes_eq-Decides name q).0 e)
    (slice_get-last names name)
numbered_at false names name q None e before =
    let other = differs name q e in
    let split = list_any-append (bytes_eq q) names (name ∷ []) in
    split ∙ (rw (before, other) refl)
numbered_at false names name q (Some i) e before = slice_get-left names (name ∷ []) i q before

-- the same once a new name has the next number
pub numbered_more : (names named : List (List ℕ)) (name q : List ℕ) (number : ℕ) (old new : Option ℕ)
    → named ≡ names ++ name ∷ [] → number ≡ length names → Places names q old
    → new ≡ cond (bytes_eq name q) (Some number) old → Places named q new
numbered_more names named name q number old new more next before now =
    let same : new ≡ cond (bytes_eq name q) (Some (length names)) old = now ∙ ap (λ (n : ℕ). cond (bytes_eq name q) (Some n) old) next in
    subst (λ (ns : List (List ℕ)). Places ns q new) (sym more)
    (subst (Places (names ++ name ∷ []) q) (sym same) (numbered_at (bytes_eq name q) names name q old refl before))

pub named_more : {A : Type 0} (names names' : List (String A)) (name : String A) (bytes : List ℕ)
    → names' ≡ names ++ name ∷ [] → string_bytes name ≡ bytes
    → map string_bytes names' ≡ map string_bytes names ++ bytes ∷ []
named_more names names' name bytes more same = rw (more, map-append, same) refl

pub there : (names : List (List ℕ)) (q : List ℕ) (o : Option ℕ) (n : ℕ) → Some n ≡ o → Places names q o → slice_get names n ≡ Some q
there names q o n same h = subst (Places names q) (sym same) h

pub absent : (names : List (List ℕ)) (q : List ℕ) (o : Option ℕ) → None ≡ o → Places names q o → list_any (bytes_eq q) names ≡ false
absent names q o same h = subst (Places names q) (sym same) h

pub new_name : (names : List (List ℕ)) (name : List ℕ) → list_any (bytes_eq name) names ≡ false → names ++ name ∷ [] ≡ with_name names name
new_name names name unknown = rw unknown refl

pub place_of_new : (names named : List (List ℕ)) (name : List ℕ) (number : ℕ) → named ≡ names ++ name ∷ []
    → number ≡ length names → slice_get named number ≡ Some name
place_of_new names named name number more next = rw (more, next) (slice_get-last names name)

-- the forms stay where the name is known, and have one more where it is new
pub known_form : (names : List (List ℕ)) (forms : List Form) (i : ℕ) (name : List ℕ) (form : Form)
    → slice_get names i ≡ Some name → forms ≡ with_form names forms (Some name) form
known_form names forms i name form h = let there = any_there names i name h in rw there refl

pub new_form : (names : List (List ℕ)) (forms : List Form) (name : List ℕ) (form : Form)
    → list_any (bytes_eq name) names ≡ false → forms ++ form ∷ [] ≡ with_form names forms (Some name) form
new_form names forms name form unknown = rw unknown refl

-- ---- commands

kept_map : {X : Type 0} (f : List ℕ → X) (names more : List (List ℕ)) (i : ℕ) (x : X)
    → option_map f (slice_get names i) ≡ Some x → option_map f (slice_get (names ++ more) i) ≡ Some x
kept_map f [] more i x h = absurd cc
kept_map f (n ∷ names) more zero x h = h
kept_map f (n ∷ names) more (suc i) x h = kept_map f names more i x h

kept_if : {X : Type 0} (b : Bool) (f : List ℕ → X) (names more : List (List ℕ)) (i : ℕ) (x : X)
    → (if b then option_map f (slice_get names i) else None) ≡ Some x
    → (if b then option_map f (slice_get (names ++ more) i) else None) ≡ Some x
kept_if true f names more i x h = kept_map f names more i x h
kept_if false f names more i x h = h

-- further names change nothing of what a command says
said_still : (names more : List (List ℕ)) (c : Command) (x : Meaning) → command_said names c ≡ Some x
    → command_said (names ++ more) c ≡ Some x
said_still names more (command.Begin thread at id text) x h = kept_map _ names more thread x h
said_still names more (command.End thread at back) x h = kept_if (back == 0) _ names more thread x h
said_still names more (command.Register thread name function file line) x h = kept_map _ names more thread x h
said_still names more (command.RegisterUser users) x h = h
said_still names more (command.ReportUser info stream) x h = h
said_still names more command.Snapshot x h = h
said_still names more command.NewFrame x h = h

said_with_name : (b : Bool) (names : List (List ℕ)) (name : List ℕ) (c : Command) (x : Meaning)
    → command_said names c ≡ Some x → command_said (if b then names else names ++ name ∷ []) c ≡ Some x
said_with_name true names name c x h = h
said_with_name false names name c x h = said_still names (name ∷ []) c x h

said_with : (names : List (List ℕ)) (o : Option (List ℕ)) (c : Command) (x : Meaning) → command_said names c ≡ Some x
    → command_said (with_if_named names o) c ≡ Some x
said_with names None c x h = h
said_with names (Some name) c x h = said_with_name (list_any (bytes_eq name) names) names name c x h

pub all_said_with : (names : List (List ℕ)) (o : Option (List ℕ)) (cs : List Command) (ss : List (ℕ × Meaning))
    → map (command_said names) cs ≡ map (λ s. Some s.1) ss
    → map (command_said (with_if_named names o)) cs ≡ map (λ s. Some s.1) ss
all_said_with names o [] ss h = h
all_said_with names o (c ∷ cs) [] h = absurd cc
all_said_with names o (c ∷ cs) (s ∷ ss) h =
    let first : command_said names c ≡ Some s.1 = cc in
    let later : map (command_said names) cs ≡ map (λ s. Some s.1) ss = cc in
    let first_still = said_with names o c s.1 first in
    let later_still = all_said_with names o cs ss later in
    cc

pub threads_after-append : (names : List (List ℕ)) (ss : List (ℕ × Meaning)) (s : ℕ × Meaning)
    → threads_after names (ss ++ s ∷ []) ≡ with_thread_of (threads_after names ss) s.1
threads_after-append names [] s = refl
threads_after-append names (x ∷ ss) s = threads_after-append (with_thread_of names x.1) ss s

-- ---- one more command

-- a line that is a command, and one that isn't
commands_with : (before : List (ℕ × Meaning)) (s : ℕ × Meaning) → is_command s.1 ≡ true
    → commands_in (before ++ s ∷ []) ≡ commands_in before ++ s ∷ []
commands_with before s is = filter-append (λ x. is_command x.1) before (s ∷ []) ∙ rw is refl

commands_without : (before : List (ℕ × Meaning)) (s : ℕ × Meaning) → is_command s.1 ≡ false
    → commands_in (before ++ s ∷ []) ≡ commands_in before
commands_without before s none = filter-append (λ x. is_command x.1) before (s ∷ []) ∙ rw none (append-nil (commands_in before))

-- what `IsReading` states of the line numbers, names, forms and commands, after one more line
pub lines_more : (lines lines' : List ℕ) (before : List (ℕ × Meaning)) (s : ℕ × Meaning) → is_command s.1 ≡ true
    → lines' ≡ lines ++ s.0 ∷ [] → lines ≡ map (λ x. x.0) (commands_in before)
    → lines' ≡ map (λ x. x.0) (commands_in (before ++ s ∷ []))
lines_more lines lines' before s is more same = rw (commands_with before s is, more, same, map-append) refl

pub lines_same : (lines : List ℕ) (before : List (ℕ × Meaning)) (s : ℕ × Meaning) → is_command s.1 ≡ false
    → lines ≡ map (λ x. x.0) (commands_in before) → lines ≡ map (λ x. x.0) (commands_in (before ++ s ∷ []))
lines_same lines before s none same = same ∙ ap (map (λ x. x.0)) (sym (commands_without before s none))

pub names_more : (names names' : List (List ℕ)) (before : List (ℕ × Meaning)) (s : ℕ × Meaning)
    → names' ≡ with_thread_of names s.1 → names ≡ threads_after [] before
    → names' ≡ threads_after [] (before ++ s ∷ [])
names_more names names' before s more same =
    more ∙ ap (λ (ns : List (List ℕ)). with_thread_of ns s.1) same ∙ sym (threads_after-append [] before s)

forms_after-append : (names : List (List ℕ)) (forms : List Form) (ss : List (ℕ × Meaning)) (s : ℕ × Meaning)
    → forms_after names forms (ss ++ s ∷ []) ≡ with_form_of (threads_after names ss) (forms_after names forms ss) s.1
forms_after-append names forms [] s = refl
forms_after-append names forms (x ∷ ss) s = forms_after-append (with_thread_of names x.1) (with_form_of names forms x.1) ss s

pub forms_more : (names : List (List ℕ)) (forms forms' : List Form) (before : List (ℕ × Meaning)) (s : ℕ × Meaning)
    → forms' ≡ with_form_of names forms s.1 → names ≡ threads_after [] before → forms ≡ forms_after [] [] before
    → forms' ≡ forms_after [] [] (before ++ s ∷ [])
forms_more names forms forms' before s more named same =
    more ∙ (λ i. with_form_of (named i) (same i) s.1) ∙ sym (forms_after-append [] [] before s)

-- a line that is no command
pub commands_same : (names names' : List (List ℕ)) (cs : List Command) (before : List (ℕ × Meaning)) (s : ℕ × Meaning)
    → is_command s.1 ≡ false → names' ≡ with_thread_of names s.1
    → map (command_said names) cs ≡ map (λ x. Some x.1) (commands_in before)
    → map (command_said names') cs ≡ map (λ x. Some x.1) (commands_in (before ++ s ∷ []))
commands_same names names' cs before s none named same =
    ap (λ (ns : List (List ℕ)). map (command_said ns) cs) named
    ∙ all_said_with names (thread_named_by s.1) cs (commands_in before) same
    ∙ ap (map (λ x. Some x.1)) (sym (commands_without before s none))

pub commands_more : (names names' : List (List ℕ)) (cs cs' : List Command) (c : Command) (before : List (ℕ × Meaning))
    (s : ℕ × Meaning) → is_command s.1 ≡ true → names' ≡ with_thread_of names s.1 → cs' ≡ cs ++ c ∷ []
    → map (command_said names) cs ≡ map (λ x. Some x.1) (commands_in before) → command_said names' c ≡ Some s.1
    → map (command_said names') cs' ≡ map (λ x. Some x.1) (commands_in (before ++ s ∷ []))
commands_more names names' cs cs' c before s is named more same new =
    let still = all_said_with names (thread_named_by s.1) cs (commands_in before) same in
    let old : map (command_said names') cs ≡ map (λ (x : ℕ × Meaning). Some x.1) (commands_in before) =
    ap (λ (ns : List (List ℕ)). map (command_said ns) cs) named ∙ still in
    rw (commands_with before s is, more, map-append, map-append, old, new) refl

-- ---- reading on

-- statements before those of later lines
abbrev pub after : List (ℕ × Meaning) → Result (List (ℕ × Meaning)) ℕ → Result (List (ℕ × Meaning)) ℕ
after before (Ok later) = Ok (before ++ later)
after before (Err wrong) = Err wrong

after_onto : (before : List (ℕ × Meaning)) (s : ℕ × Meaning) (later : Result (List (ℕ × Meaning)) ℕ)
    → after before (with_statement s later) ≡ after (before ++ s ∷ []) later
after_onto before s (Ok later) = ap (λ (xs : List (ℕ × Meaning)). Ok xs) (sym (append_assoc before (s ∷ []) later))
after_onto before s (Err wrong) = refl

-- a valid line that isn't skipped goes before those that the later lines say
pub after_said : (before : List (ℕ × Meaning)) (number : ℕ) (line : List ℕ) (lines left : List (List ℕ)) (s : Meaning)
    → left ≡ line ∷ lines → told_by number line ≡ Ok (Some s) → is_late (threads_after [] before) s ≡ false
    → after before (statements_from number (threads_after [] before) left)
    ≡ after (before ++ (number, s) ∷ [])
    (statements_from (number + 1) (threads_after [] (before ++ (number, s) ∷ [])) lines)
after_said before number line lines left s e told early =
    let named = threads_after-append [] before (number, s) in
    rw (e, told, early, named)
    (after_onto before (number, s)
    (statements_from (number + 1) (with_thread_of (threads_after [] before) s) lines))

-- a line that comes too late is the first that is wrong
pub after_late : (before : List (ℕ × Meaning)) (number : ℕ) (line : List ℕ) (lines left : List (List ℕ)) (s : Meaning)
    → left ≡ line ∷ lines → told_by number line ≡ Ok (Some s) → is_late (threads_after [] before) s ≡ true
    → after before (statements_from number (threads_after [] before) left) ≡ Err number
after_late before number line lines left s e told late = rw (e, told, late) refl

-- a thread that has a number is named
pub named_there : (names : List (List ℕ)) (q : List ℕ) (o : Option ℕ) → Places names q o → is_some o ≡ list_any (bytes_eq q) names
named_there names q None h = sym h
named_there names q (Some i) h = sym (any_there names i q h)

-- ---- the threads of a script

with_forms-none : (names : List (List ℕ)) (name : List ℕ) → with_forms (names ++ name ∷ []) [] ≡ with_forms names [] ++ (name, Short) ∷ []
with_forms-none [] name = refl
with_forms-none (n ∷ names) name = ap (λ ts. (n, Short) ∷ ts) (with_forms-none names name)

-- with one name more
pub with_forms-more : (names : List (List ℕ)) (forms : List Form) (name : List ℕ)
    → with_forms (names ++ name ∷ []) forms ≡ with_forms names forms ++ (name, get_or forms (length names) Short) ∷ []
with_forms-more [] [] name = refl
with_forms-more [] (f ∷ forms) name = refl
with_forms-more (n ∷ names) [] name = ap (λ ts. (n, Short) ∷ ts) (with_forms-none names name)
with_forms-more (n ∷ names) (f ∷ forms) name = ap (λ ts. (n, f) ∷ ts) (with_forms-more names forms name)

-- What a stream has of the word that it spells: the size, whether there is anything, and the form.
use Rattle.std.proofs.Common.{◌≡◌, ℕ, ◌<◌, eqb, false, cond, List, [], ◌∷◌, ◌++◌, length, Option, Some, None, unwrap_or, inl, inr, refl, sym, ap, ◌∙◌, subst, arith}
use Rattle.std.proofs.lemmas.Bool.{cases_eq}
use Rattle.std.proofs.lemmas.Grind.{not_there}
use Rattle.puffin_data.specs.declared.data.form.Form.{Form}
use Rattle.puffin_data.specs.Forest.{append}
use Rattle.puffin_data.specs.Forest.Tour.{Event, Open, Close, tour}
use Rattle.puffin_data.specs.Forest.Words.{word_size}
use Rattle.puffin_data.specs.Honesty.{StreamFacts, AreUnlike, joined_facts}
use Rattle.puffin_frames.specs.Frame.Contents.{no_scopes}
use Rattle.puffin_session.specs.Session.History.{Word}
use Rattle.puffin_session.specs.Session.Due.{no_word, joined_word, AreUnlikeWords}
use Rattle.puffin_session.specs.Session.{SpellsWord, SpellsIfAny}
use Rattle.puffin_session.proofs.Laws.{tour-append, honest_joined, word_size-tour}

-- a stream has as many bytes as its word takes
pub size_of : (r : StreamFacts) (word : Word) → SpellsWord r word → length r.bytes ≡ word_size word.form word.events
size_of r word h =
    ap length h.honest.stream.whole
    ∙ sym (word_size-tour r.form h.forest)
    ∙ ap (word_size r.form) h.toured
    ∙ ap (λ (form : Form). word_size form word.events) h.form

some_size : (form : Form) (word : List Event) → 0 < length word → 0 < word_size form word
some_size form [] some = absurd (omega arith)
some_size form (Open id text start ∷ word) some = omega arith
some_size form (Close stop ∷ word) some = omega arith

some_events : (form : Form) (word : List Event) → 0 < word_size form word → 0 < length word
some_events form [] some = absurd (omega arith)
some_events form (e ∷ word) some = omega arith

bytes_some : (r : StreamFacts) (word : Word) → SpellsWord r word → 0 < length word.events → 0 < length r.bytes
bytes_some r word h some = subst (λ (n : ℕ). 0 < n) (sym (size_of r word h)) (some_size word.form word.events some)

events_some : (r : StreamFacts) (word : Word) → SpellsWord r word → 0 < length r.bytes → 0 < length word.events
events_some r word h some = some_events word.form word.events (subst (λ (n : ℕ). 0 < n) (size_of r word h) some)

-- a record is empty where its word is
same_none : (r : StreamFacts) (word : Word) → SpellsWord r word → eqb (length r.bytes) 0 ≡ eqb (length word.events) 0
same_none r word h = elim (cases_eq (length word.events) 0) [
  | inl none ↦
      let bytes : length r.bytes ≡ 0 = elim (cases_eq (length r.bytes) 0) [
        | inl e ↦ e
        | inr some ↦ absurd (let more = events_some r word h (omega (arith, some)) in omega (arith, more, none))
      ] in
      rw (bytes, none) refl
  | inr some ↦
      let bytes = bytes_some r word h (omega (arith, some)) in
      not_zero (length r.bytes) bytes ∙ sym (not_zero (length word.events) (omega (arith, some)))
]
  where
    not_zero : (n : ℕ) → 0 < n → eqb n 0 ≡ false
    not_zero n lt = grind arith

-- ---- one after another

-- joined streams spell the joined words
pub joined_spells : (a s : StreamFacts) (old word : Word) → (AreUnlike a s → ⊥) → SpellsWord a old → SpellsWord s word
    → SpellsWord (joined_facts a s) (joined_word old word)
joined_spells a s old word like h k = record {
  forest = append h.forest k.forest;
  honest = honest_joined a s h.forest k.forest like h.honest k.honest;
  form = λ i. cond (same_none a old h i) (k.form i) (h.form i);
  toured = tour-append h.forest k.forest ∙ ap (λ w. w ++ tour k.forest) h.toured ∙ ap (λ w. old.events ++ w) k.toured;
}

-- ---- unlike forms

-- a record or a word of which something is merely known
some_there : {P : Type 0} (n : ℕ) → ∥ P ∥₁ → (P → 0 < n) → 0 < n
some_there n there some = elim (cases_eq n 0) [
  | inl none ↦ absurd (not_there there (λ p. let lt = some p in omega (arith, lt, none)))
  | inr more ↦ omega (arith, more)
]

unlike_words : (a s : StreamFacts) (old word : Word) → SpellsWord a old → SpellsWord s word → AreUnlike a s → AreUnlikeWords old word
unlike_words a s old word h k (some_old, some_new, other_form) = (
  events_some a old h some_old,
  events_some s word k some_new,
  λ same. other_form (h.form ∙ same ∙ sym k.form),
)

unlike_records : (a s : StreamFacts) (old word : Word) → SpellsWord a old → SpellsWord s word → AreUnlikeWords old word → AreUnlike a s
unlike_records a s old word h k (some_old, some_new, other_form) = (
  bytes_some a old h some_old,
  bytes_some s word k some_new,
  λ same. other_form (sym h.form ∙ same ∙ k.form),
)

-- streams have unlike forms just if their words have
pub unlike_due : (a : Option StreamFacts) (old : Option Word) (s : StreamFacts) (word : Word) → SpellsIfAny a old
    → SpellsWord s word → AreUnlike (unwrap_or a no_scopes) s → AreUnlikeWords (unwrap_or old no_word) word
unlike_due None None s word there k (some_old, some_new, other_form) = absurd (omega (arith, some_old))
unlike_due None (Some old) s word there k apart = absurd there
unlike_due (Some a) None s word there k apart = absurd there
unlike_due (Some a) (Some old) s word there k apart = (
  some_there (length old.events) there (λ h. (unlike_words a s old word h k apart).0),
  events_some s word k apart.1,
  λ same. not_there there (λ h. (unlike_words a s old word h k apart).2 same),
)

pub unlike_pending : (a : Option StreamFacts) (old : Option Word) (s : StreamFacts) (word : Word) → SpellsIfAny a old
    → SpellsWord s word → AreUnlikeWords (unwrap_or old no_word) word → AreUnlike (unwrap_or a no_scopes) s
unlike_pending None None s word there k (some_old, some_new, other_form) = absurd (omega (arith, some_old))
unlike_pending None (Some old) s word there k apart = absurd there
unlike_pending (Some a) None s word there k apart = absurd there
unlike_pending (Some a) (Some old) s word there k apart = (
  some_there (length a.bytes) there (λ h. (unlike_records a s old word h k apart).0),
  bytes_some s word k apart.1,
  λ same. not_there there (λ h. (unlike_records a s old word h k apart).2 same),
)

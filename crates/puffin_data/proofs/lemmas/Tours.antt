-- A balanced word is the tour of one forest.
use Rattle.std.proofs.Common.{◌≡◌, ℕ, ℤ, List, [], ◌∷◌, ◌++◌, refl, sym, ap, ◌∙◌, append_assoc}
use Rattle.std.proofs.lemmas.List.{append-nil}
use Rattle.puffin_data.specs.Forest.{Span, Forest, empty, node, append}
use Rattle.puffin_data.specs.Forest.Tour.{Event, Open, Close, tour}

pub tour-append : (first second : Forest) → tour (append first second) ≡ tour first ++ tour second
tour-append empty second = refl
tour-append (node span children others) second =
    ap (λ (any : List Event). Open span.id span.text span.start ∷ (tour children ++ (Close span.stop ∷ any)))
    (tour-append others second)
    ∙ ap (λ (any : List Event). Open span.id span.text span.start ∷ any)
    (sym (append_assoc (tour children) (Close span.stop ∷ tour others) (tour second)))

-- nothing, or a close
abbrev IsAfter : List Event → Type 0
IsAfter [] = Unit {0}
IsAfter (Open id text start ∷ word) = ⊥
IsAfter (Close stop ∷ word) = Unit {0}

open_is_not_after : (id : ℕ) (text : List ℕ) (start : ℤ) (word rest : List Event) → IsAfter rest → rest ≡ Open id text start ∷ word → ⊥
open_is_not_after id text start word [] after same = cc
open_is_not_after id text start word (Open other_id other_text other_start ∷ others) after same = after
open_is_not_after id text start word (Close other_id ∷ others) after same = cc

record Heads (one other : Span) (word other_word : List Event) : Type 0 where
  id : one.id ≡ other.id
  text : one.text ≡ other.text
  start : one.start ≡ other.start
  rest : word ≡ other_word

heads : (one other : Span) (rest other_rest : List Event)
    → Open one.id one.text one.start ∷ rest ≡ Open other.id other.text other.start ∷ other_rest → Heads one other rest other_rest
heads one other rest other_rest same = record { id = cc; text = cc; start = cc; rest = cc }

stops_same : (stop other_stop : ℤ) (rest other_rest : List Event) → Close stop ∷ rest ≡ Close other_stop ∷ other_rest
    → (stop ≡ other_stop) × (rest ≡ other_rest)
stops_same stop other_stop rest other_rest same = (cc, cc)

abbrev made : ℕ → List ℕ → ℤ → ℤ → Span
made id text start stop = record { id = id; start = start; stop = stop; text = text }

same_made : (id id' : ℕ) (text text' : List ℕ) (start start' stop stop' : ℤ) → id ≡ id' → text ≡ text' → start ≡ start' → stop ≡ stop'
    → made id text start stop ≡ made id' text' start' stop'
same_made id id' text text' start start' stop stop' same_id same_text same_start same_stop = cc

same_node : (span other_span : Span) (children other_children others other_others : Forest) → span ≡ other_span
    → children ≡ other_children → others ≡ other_others → node span children others ≡ node other_span other_children other_others
same_node span other_span children other_children others other_others same_span same_children same_others = cc

same_span : (span other_span : Span) (children other_children others other_others : Forest) → span.id ≡ other_span.id
    → span.text ≡ other_span.text → span.start ≡ other_span.start → span.stop ≡ other_span.stop → children ≡ other_children
    → others ≡ other_others → node span children others ≡ node other_span other_children other_others
same_span span other_span children other_children others other_others same_id same_text same_start same_stop same_children same_others =
    same_node span other_span children other_children others other_others
    (same_made span.id other_span.id span.text other_span.text span.start other_span.start span.stop other_span.stop same_id same_text
    same_start same_stop) same_children same_others

regroup : (span : Span) (children others : Forest) (rest : List Event)
    → tour (node span children others) ++ rest
    ≡ Open span.id span.text span.start ∷ (tour children ++ (Close span.stop ∷ (tour others ++ rest)))
regroup span children others rest =
    ap (λ (any : List Event). Open span.id span.text span.start ∷ any)
    (append_assoc (tour children) (Close span.stop ∷ tour others) rest)

-- Two tours that are equal but for what follows are of one forest, if nothing or a close follows both.
same_tours : (forest other : Forest) (rest other_rest : List Event) → IsAfter rest → IsAfter other_rest
    → tour forest ++ rest ≡ tour other ++ other_rest → (forest ≡ other) × (rest ≡ other_rest)
same_tours empty empty rest other_rest after other_after same = (refl, same)
same_tours empty (node other_span other_children other_others) rest other_rest after other_after same =
    absurd (open_is_not_after other_span.id other_span.text other_span.start _ rest after same)
same_tours (node span children others) empty rest other_rest after other_after same =
    absurd (open_is_not_after span.id span.text span.start _ other_rest other_after (sym same))
same_tours (node span children others) (node other_span other_children other_others) rest other_rest after other_after same =
    let heads_same =
    heads span other_span _ _ (sym (regroup span children others rest) ∙ same
    ∙ regroup other_span other_children other_others other_rest) in
    let inner =
    same_tours children other_children (Close span.stop ∷ (tour others ++ rest))
    (Close other_span.stop ∷ (tour other_others ++ other_rest)) tt tt heads_same.rest in
    let closes = stops_same span.stop other_span.stop (tour others ++ rest) (tour other_others ++ other_rest) inner.1 in
    let later = same_tours others other_others rest other_rest after other_after closes.1 in (
      same_span span other_span children other_children others other_others heads_same.id heads_same.text heads_same.start closes.0
          inner.0 later.0,
      later.1,
    )

pub one_tour : (forest other : Forest) → tour forest ≡ tour other → forest ≡ other
one_tour forest other same = (same_tours forest other [] [] tt tt (append-nil (tour forest) ∙ same ∙ sym (append-nil (tour other)))).0

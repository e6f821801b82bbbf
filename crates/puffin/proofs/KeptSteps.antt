-- What is known of a thread's part of a round, and of the leader's frames, where a history was cut.
use Rattle.std.proofs.Common.{◌≡◌, ℕ, zero, suc, ◌+◌, ◌-◌, ◌*◌, ◌≤◌, ◌==◌, Bool, true, false, List, []}
use Rattle.std.proofs.Common.{◌∷◌, ◌++◌, Some, length, inl, inr, refl, ap, sym, subst, ◌∙◌, append_assoc, arith}
use Rattle.std.specs.Prelude.{sum_by, slice_get}
use Rattle.std.specs.List.{flat_map}
use Rattle.std.proofs.lemmas.List.Sums.{sum_by-cons}
use Rattle.history.specs.Entries.{events, front_if, entries_by}
use Rattle.puffin.specs.Happenings.{Happening, reported, framed, marked, arrived, released, saw_arrived, saw_released, left, if_marked}
use Rattle.puffin.specs.Happenings.{releases_of, num_arrived, num_released, frames_in, IsSeen, AreSeen, History}
use Rattle.puffin.specs.Rounds.{until, MayDo, released_then, KeepsStep, parts_then, frames_then, TakesInTurn}
use Rattle.puffin.specs.Taking.{FramesOnce}
use Rattle.puffin.proofs.Growing.{arrived-both, released-both}

-- ---- what was seen was so

abbrev pub AllSeen : ℕ → ℕ → List Happening → Type 0
AllSeen parts rounds [] = Unit {0}
AllSeen parts rounds (h ∷ happenings) = IsSeen parts rounds h × AllSeen parts rounds happenings

seen_later : (a b r s : ℕ) (h : Happening) → a ≤ b → r ≤ s → IsSeen a r h → IsSeen b s h
seen_later a b r s (reported i x) p q seen = tt
seen_later a b r s (framed streams) p q seen = tt
seen_later a b r s (marked arrived) p q seen = tt
seen_later a b r s (marked released) p q seen = tt
seen_later a b r s (marked (saw_arrived n)) p q seen = omega (arith, p, seen)
seen_later a b r s (marked (saw_released n)) p q seen = omega (arith, q, seen)
seen_later a b r s (marked left) p q seen = tt

pub all_seen : (a b r s : ℕ) (happenings : List Happening) → a + num_arrived happenings ≤ b → r + num_released happenings ≤ s
    → AreSeen a r happenings
    → AllSeen b s happenings
all_seen a b r s [] p q seen = tt
all_seen a b r s (h ∷ happenings) p q seen = (
  seen_later a b r s h (omega (arith, p)) (omega (arith, q)) seen.0,
  all_seen (a + num_arrived (h ∷ [])) b (r + num_released (h ∷ [])) s happenings
      (omega (arith, p, arrived-both (h ∷ []) happenings))
      (omega (arith, q, released-both (h ∷ []) happenings)) seen.1,
)

pub seen_by : (parts rounds k : ℕ) (log : History) → AllSeen parts rounds (events log) → AllSeen parts rounds (entries_by k log)
seen_by parts rounds k [] seen = tt
seen_by parts rounds k (x ∷ log) seen = at (x.0 == k) (seen_by parts rounds k log seen.1)
  where
    at : (b : Bool) → AllSeen parts rounds (entries_by k log) → AllSeen parts rounds (front_if b x.1 (entries_by k log))
    at true rest = (seen.0, rest)
    at false rest = rest

pub seen_front : (parts rounds : ℕ) (xs ys : List Happening) → AllSeen parts rounds (xs ++ ys) → AllSeen parts rounds xs
seen_front parts rounds [] ys seen = tt
seen_front parts rounds (x ∷ xs) ys seen = (seen.0, seen_front parts rounds xs ys seen.1)

-- ---- a thread

pub steps_front : (parts rounds : ℕ) (xs ys : List Happening) → KeepsStep parts rounds (xs ++ ys) → KeepsStep parts rounds xs
steps_front parts rounds [] ys steps = tt
steps_front parts rounds (x ∷ xs) ys steps =
    (steps.0, steps_front (parts + num_arrived (x ∷ [])) (released_then rounds x) xs ys steps.1)

pub releases_none : (parts rounds : ℕ) (happenings : List Happening) → KeepsStep parts rounds happenings
    → flat_map (if_marked releases_of) happenings ≡ []
releases_none parts rounds [] steps = refl
releases_none parts rounds (reported i r ∷ happenings) steps = releases_none (parts + 0) rounds happenings steps.1
releases_none parts rounds (framed streams ∷ happenings) steps = absurd steps.0
releases_none parts rounds (marked arrived ∷ happenings) steps = releases_none (parts + 1) rounds happenings steps.1
releases_none parts rounds (marked released ∷ happenings) steps = absurd steps.0
releases_none parts rounds (marked (saw_arrived n) ∷ happenings) steps = absurd steps.0
releases_none parts rounds (marked (saw_released n) ∷ happenings) steps = releases_none (parts + 0) n happenings steps.1
releases_none parts rounds (marked left ∷ happenings) steps = absurd steps.0

-- it does at most one part more than rounds are closed
pub few_parts : (a most parts rounds : ℕ) (happenings : List Happening) → KeepsStep parts rounds happenings
    → AllSeen a most happenings → rounds ≤ most
    → parts ≤ suc rounds → parts + num_arrived happenings ≤ suc most
few_parts a most parts rounds [] steps seen few at = omega (arith, few, at)
few_parts a most parts rounds (reported i r ∷ happenings) steps seen few at =
    omega (arith, few_parts a most (parts + 0) rounds happenings steps.1 seen.1 few (omega (arith, at)))
few_parts a most parts rounds (framed streams ∷ happenings) steps seen few at = absurd steps.0
few_parts a most parts rounds (marked arrived ∷ happenings) steps seen few at =
    omega (
      arith,
      arrived-both (marked arrived ∷ []) happenings,
      few_parts a most (parts + 1) rounds happenings steps.1 seen.1 few (omega (arith, steps.0)),
    )
few_parts a most parts rounds (marked released ∷ happenings) steps seen few at = absurd steps.0
few_parts a most parts rounds (marked (saw_arrived n) ∷ happenings) steps seen few at = absurd steps.0
few_parts a most parts rounds (marked (saw_released n) ∷ happenings) steps seen few at =
    omega (arith, few_parts a most (parts + 0) n happenings steps.1 seen.1 seen.0 (omega (arith, steps.0)))
few_parts a most parts rounds (marked left ∷ happenings) steps seen few at = absurd steps.0

-- and then it waits
waits_then : (a most parts rounds : ℕ) (h : Happening) → MayDo parts rounds h → IsSeen a most h → rounds ≤ most
    → parts ≡ suc most → ⊥
waits_then a most parts rounds (reported i r) may seen few at = omega (arith, may, few, at)
waits_then a most parts rounds (framed streams) may seen few at = may
waits_then a most parts rounds (marked arrived) may seen few at = omega (arith, may, few, at)
waits_then a most parts rounds (marked released) may seen few at = may
waits_then a most parts rounds (marked (saw_arrived n)) may seen few at = may
waits_then a most parts rounds (marked (saw_released n)) may seen few at = omega (arith, may, seen, at)
waits_then a most parts rounds (marked left) may seen few at = may

few_released : (a most rounds : ℕ) (h : Happening) → IsSeen a most h → rounds ≤ most → released_then rounds h ≤ most
few_released a most rounds (reported i r) seen few = few
few_released a most rounds (framed streams) seen few = few
few_released a most rounds (marked arrived) seen few = few
few_released a most rounds (marked released) seen few = few
few_released a most rounds (marked (saw_arrived n)) seen few = few
few_released a most rounds (marked (saw_released n)) seen few = seen
few_released a most rounds (marked left) seen few = few

-- what it told until then is all until that part
pub cut_there : (a most parts rounds : ℕ) (p q : List Happening) → KeepsStep parts rounds (p ++ q) → AllSeen a most p
    → rounds ≤ most → parts + num_arrived p ≡ suc most → p ≡ until (num_arrived p) (p ++ q)
cut_there a most parts rounds [] q steps seen few whole = refl
cut_there a most parts rounds (h ∷ p) q steps seen few whole =
    at (num_arrived (h ∷ p)) refl (cut_there a most (parts + num_arrived (h ∷ [])) (released_then rounds h) p q steps.1 seen.1
    (few_released a most rounds h seen.0 few) (omega (arith, whole, arrived-both (h ∷ []) p)))
  where
    at : (n : ℕ) → num_arrived (h ∷ p) ≡ n → p ≡ until (num_arrived p) (p ++ q) → h ∷ p ≡ until n (h ∷ (p ++ q))
    at zero is rest = absurd (waits_then a most parts rounds h steps.0 seen.0 few (omega (arith, whole, is)))
    at (suc n) is rest =
        let fewer : suc n - num_arrived (h ∷ []) ≡ num_arrived p = omega (arith, is, arrived-both (h ∷ []) p) in
        ap (λ (happenings : List Happening). h ∷ happenings) (rest ∙ sym (ap (λ (k : ℕ). until k (p ++ q)) fewer))

-- ---- the leader

-- after so many rounds, each with a frame at most
pub record IsLeading (threads rounds : ℕ) (own : List Happening) : Type 0 where
  pub closed : num_released own ≡ rounds
  pub takes : TakesInTurn threads 0 0 0 own

turns_both : (threads rounds parts frames m : ℕ) (xs ys : List Happening) → rounds + num_released xs ≡ m
    → TakesInTurn threads rounds parts frames xs → ((p : ℕ) → TakesInTurn threads m p 0 ys)
    → TakesInTurn threads rounds parts frames (xs ++ ys)
turns_both threads rounds parts frames m [] ys is takes later =
    subst (λ (n : ℕ). TakesInTurn threads rounds parts n ys) (sym takes)
    (subst (λ (n : ℕ). TakesInTurn threads n parts 0 ys) (omega (arith, is)) (later parts))
turns_both threads rounds parts frames m (x ∷ xs) ys is takes later = (
  takes.0,
  turns_both threads (rounds + num_released (x ∷ [])) (parts_then parts x) (frames_then frames x) m xs ys
      (omega (arith, is, released-both (x ∷ []) xs)) takes.1 later,
)

-- one round more
pub leads_on : (threads rounds : ℕ) (own seen taken now : List Happening) → IsLeading threads rounds own
    → seen ≡ own ++ marked (saw_arrived (threads * (rounds + 1))) ∷ [] → FramesOnce seen taken
    → now ≡ taken ++ marked released ∷ [] → IsLeading threads (rounds + 1) now
leads_on threads rounds own seen taken now led saw (inl same) closed =
    let tail : List Happening = marked (saw_arrived (threads * (rounds + 1))) ∷ marked released ∷ [] in
    let whole : now ≡ own ++ tail = closed ∙ ap (λ (happenings : List Happening). happenings ++ marked released ∷ []) (same ∙ saw)
    ∙ append_assoc own (marked (saw_arrived (threads * (rounds + 1))) ∷ []) (marked released ∷ []) in
    record {
      closed = omega (arith, ap num_released whole, released-both own tail, led.closed);
      takes = subst (TakesInTurn threads 0 0 0) (sym whole)
          (turns_both threads 0 0 0 rounds own tail (omega (arith, led.closed)) led.takes (λ p. (tt, (tt, refl))));
    }
leads_on threads rounds own seen taken now led saw (inr (streams, more)) closed =
    let tail : List Happening = marked (saw_arrived (threads * (rounds + 1))) ∷ framed streams ∷ marked released ∷ [] in
    let whole : now ≡ own ++ tail = closed
    ∙ ap (λ (happenings : List Happening). happenings ++ marked released ∷ [])
    (more ∙ ap (λ (happenings : List Happening). happenings ++ framed streams ∷ []) saw)
    ∙ append_assoc (own ++ marked (saw_arrived (threads * (rounds + 1))) ∷ []) (framed streams ∷ []) (marked released ∷ [])
    ∙ append_assoc own (marked (saw_arrived (threads * (rounds + 1))) ∷ []) (framed streams ∷ marked released ∷ []) in
    let next : rounds + 1 ≡ suc (rounds + 0) = omega arith in
    record {
      closed = omega (arith, ap num_released whole, released-both own tail, led.closed);
      takes = subst (TakesInTurn threads 0 0 0) (sym whole)
          (turns_both threads 0 0 0 rounds own tail (omega (arith, led.closed)) led.takes
          (λ p. (tt, ((ap (λ (n : ℕ). threads * n) next, refl), (tt, refl)))));
    }

pub few_frames : (threads rounds parts frames : ℕ) (happenings : List Happening)
    → TakesInTurn threads rounds parts frames happenings → frames ≤ 1
    → length (frames_in happenings) + frames ≤ num_released happenings
few_frames threads rounds parts frames [] takes few = omega (arith, takes)
few_frames threads rounds parts frames (reported i r ∷ happenings) takes few = absurd takes.0
few_frames threads rounds parts frames (framed streams ∷ happenings) takes few =
    omega (arith, takes.0.1, few_frames threads (rounds + 0) parts (suc frames) happenings takes.1 (omega (arith, takes.0.1)))
few_frames threads rounds parts frames (marked arrived ∷ happenings) takes few = absurd takes.0
few_frames threads rounds parts frames (marked released ∷ happenings) takes few =
    omega (
      arith,
      few,
      released-both (marked released ∷ []) happenings,
      few_frames threads (rounds + 1) parts 0 happenings takes.1 (omega arith),
    )
few_frames threads rounds parts frames (marked (saw_arrived n) ∷ happenings) takes few =
    few_frames threads (rounds + 0) n frames happenings takes.1 few
few_frames threads rounds parts frames (marked (saw_released n) ∷ happenings) takes few = absurd takes.0
few_frames threads rounds parts frames (marked left ∷ happenings) takes few = absurd takes.0

-- where it takes a frame, all have done their part; and there is at most one frame for each round that was closed
pub record Gathered (threads rounds frames a : ℕ) (p q : List Happening) : Type 0 where
  pub parts : threads * suc (rounds + num_released p) ≤ a
  pub before : length (frames_in p) + frames ≤ num_released p
  pub later : length (frames_in q) + 1 ≤ num_released q

pub gathered : (threads a b rounds parts frames : ℕ) (p : List Happening) (streams : _) (q : List Happening)
    → TakesInTurn threads rounds parts frames (p ++ framed streams ∷ q) → AllSeen a b p → parts ≤ a → frames ≤ 1
    → Gathered threads rounds frames a p q
gathered threads a b rounds parts frames [] streams q takes seen some few = record {
  parts = subst (λ (n : ℕ). threads * suc n ≤ a) (omega arith) (subst (λ (n : ℕ). n ≤ a) takes.0.0 some);
  before = omega (arith, takes.0.1);
  later = omega (arith, takes.0.1, few_frames threads (rounds + 0) parts (suc frames) q takes.1 (omega (arith, takes.0.1)));
}
gathered threads a b rounds parts frames (reported i r ∷ p) streams q takes seen some few = absurd takes.0
gathered threads a b rounds parts frames (framed s ∷ p) streams q takes seen some few =
    let g = gathered threads a b (rounds + 0) parts (suc frames) p streams q takes.1 seen.1 some (omega (arith, takes.0.1)) in
    record {
      parts = subst (λ (n : ℕ). threads * suc n ≤ a) (omega arith) g.parts;
      before = omega (arith, takes.0.1, g.before);
      later = g.later;
    }
gathered threads a b rounds parts frames (marked arrived ∷ p) streams q takes seen some few = absurd takes.0
gathered threads a b rounds parts frames (marked released ∷ p) streams q takes seen some few =
    let g = gathered threads a b (rounds + 1) parts 0 p streams q takes.1 seen.1 some (omega arith) in
    record {
      parts = subst (λ (n : ℕ). threads * suc n ≤ a) (omega (arith, released-both (marked released ∷ []) p)) g.parts;
      before = omega (arith, few, g.before, released-both (marked released ∷ []) p);
      later = g.later;
    }
gathered threads a b rounds parts frames (marked (saw_arrived n) ∷ p) streams q takes seen some few =
    let g = gathered threads a b (rounds + 0) n frames p streams q takes.1 seen.1 seen.0 few in
    record { parts = subst (λ (n : ℕ). threads * suc n ≤ a) (omega arith) g.parts; before = g.before; later = g.later }
gathered threads a b rounds parts frames (marked (saw_released n) ∷ p) streams q takes seen some few = absurd takes.0
gathered threads a b rounds parts frames (marked left ∷ p) streams q takes seen some few = absurd takes.0

-- ---- where all have done as much as they may

module _ {X : Type 0} (f : X → ℕ) (m : ℕ) where
  at_most : (xs : List X) → ((k : ℕ) (x : X) → slice_get xs k ≡ Some x → f x ≤ m) → sum_by f xs ≤ length xs * m
  at_most [] each = omega arith
  at_most (x ∷ xs) each = let rest = at_most xs (λ k y e. each (suc k) y e) in let one = each 0 x refl in
      let sum = sum_by-cons f x xs in omega (arith, rest, one, sum)

  pub each_full : (xs : List X) → ((k : ℕ) (x : X) → slice_get xs k ≡ Some x → f x ≤ m) → length xs * m ≤ sum_by f xs
      → (k : ℕ) (x : X) → slice_get xs k ≡ Some x → f x ≡ m
  each_full [] each enough k x e = absurd cc
  each_full (x ∷ xs) each enough zero y e =
      let same : x ≡ y = cc in
      subst (λ (z : X). f z ≡ m) same (let rest = at_most xs (λ k z e. each (suc k) z e) in let one = each 0 x refl in
      let sum = sum_by-cons f x xs in omega (arith, rest, one, sum, enough))
  each_full (x ∷ xs) each enough (suc k) y e =
      each_full xs (λ k z e. each (suc k) z e)
      (let one = each 0 x refl in let sum = sum_by-cons f x xs in omega (arith, one, sum, enough)) k y e

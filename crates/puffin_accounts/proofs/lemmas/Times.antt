-- The times of events: of none, of one, and of some after others.
use Rattle.std.proofs.Common.{◌≡◌, ℕ, ℤ, pos, ◌≤ℤ◌, List, [], ◌∷◌, ◌++◌, Option, Some, None, refl, sym, ap}
use Rattle.std.proofs.Common.{◌∙◌, subst}
use Rattle.std.specs.Prelude.{fold}
use Rattle.std.specs.Int.{int_max}
use Rattle.std.specs.Option.{option_or}
use Rattle.puffin_data.specs.Forest.Tour.{Event, Open, Close}
use Rattle.puffin_threads.specs.Thread.Calls as calls
use Rattle.puffin_threads.specs.Thread.Calls.{time_of, after_begin, after_end, after_handing}
use Rattle.puffin_accounts.specs.Moments.{Moment}
use Rattle.puffin_accounts.specs.Times.{times_in, greatest_so_far, Answered, first_start_in, Timed}
use Rattle.puffin.proofs.lemmas.Offsets.{fold-both}

answered-both : {C : Type 0} (answers : C → ℤ → C → Type 0) (c : C) (xs : List ℤ) (d : C) (ys : List ℤ) (e : C)
    → Answered answers c xs d → Answered answers d ys e → Answered answers c (xs ++ ys) e
answered-both answers c [] d ys e h k = subst (λ x. Answered answers x ys e) h k
answered-both answers c (at ∷ xs) d ys e h k = (h.0, h.1, h.2, answered-both answers h.0 xs d ys e h.3 k)

greatest-both : (l : ℤ) (xs ys : List ℤ) → greatest_so_far l
    (xs ++ ys) ≡ greatest_so_far l xs ++ greatest_so_far (fold int_max l xs) ys
greatest-both l [] ys = refl
greatest-both l (at ∷ xs) ys = ap (λ x. int_max l at ∷ x) (greatest-both (int_max l at) xs ys)

times-both : (u v : List Event) → times_in (u ++ v) ≡ times_in u ++ times_in v
times-both [] v = refl
times-both (Open id text start ∷ u) v = ap (λ x. start ∷ x) (times-both u v)
times-both (Close stop ∷ u) v = ap (λ x. stop ∷ x) (times-both u v)

starts-both : (s : Option ℤ) (u v : List Event) → first_start_in s (u ++ v) ≡ first_start_in (first_start_in s u) v
starts-both s [] v = refl
starts-both s (Open id text start ∷ u) v = starts-both (option_or s (Some start)) u v
starts-both s (Close stop ∷ u) v = starts-both s u v

started-stays : (t : ℤ) (u : List Event) → first_start_in (Some t) u ≡ Some t
started-stays t [] = refl
started-stays t (Open id text start ∷ u) = started-stays t u
started-stays t (Close stop ∷ u) = started-stays t u

-- after the first scope, the first start is known
pub has_start : (s : Option ℤ) (t : ℤ) (u : List Event) (x : Option ℤ) → x ≡ first_start_in (option_or s (Some t)) u
    → x ≡ None → ⊥
has_start None t u x is none = let h = started-stays t u in cc
has_start (Some y) t u x is none = let h = started-stays y u in cc

-- the first start stays
pub same_start : {C : Type 0} (answers : C → ℤ → C → Type 0) (m n : Moment C) (t : ℤ) (events : List Event)
    → Timed answers m n events → m.thread.first_start ≡ Some t → n.thread.first_start ≡ Some t
same_start answers m n t events timed is = timed.first_start ∙ ap (λ s. first_start_in s events) is ∙ started-stays t events

pub timed_still : {C : Type 0} (answers : C → ℤ → C → Type 0) (m n : Moment C) → n.clock ≡ m.clock
    → after_handing n.thread ≡ after_handing m.thread → n.known ≡ m.known → Timed answers m n []
timed_still answers m n clock is known = record {
  ats = [];
  answered = clock;
  times = refl;
  latest = ap (λ (t : calls.Thread). t.latest) is;
  first_start = ap (λ (t : calls.Thread). t.first_start) is;
  name = ap (λ (t : calls.Thread). t.name) is;
  form = ap (λ (t : calls.Thread). t.form) is;
  known = known;
}

pub timed_open : {C : Type 0} (answers : C → ℤ → C → Type 0) (m n : Moment C) (id : ℕ) (text : List ℕ) (at : ℤ)
    → answers m.clock at n.clock → pos 0 ≤ℤ at → n.thread ≡ after_begin m.thread id text at → n.known ≡ m.known
    → Timed answers m n (Open id text (time_of m.thread at) ∷ [])
timed_open answers m n id text at answered low is known = record {
  ats = at ∷ [];
  answered = (n.clock, answered, low, refl);
  times = refl;
  latest = ap (λ (t : calls.Thread). t.latest) is;
  first_start = ap (λ (t : calls.Thread). t.first_start) is;
  name = ap (λ (t : calls.Thread). t.name) is;
  form = ap (λ (t : calls.Thread). t.form) is;
  known = known;
}

-- whether or not its scopes are reported at once
pub timed_close : {C : Type 0} (answers : C → ℤ → C → Type 0) (m n : Moment C) (at : ℤ) → answers m.clock at n.clock
    → pos 0 ≤ℤ at → after_handing n.thread ≡ after_handing (after_end m.thread at) → n.known ≡ m.known
    → Timed answers m n (Close (time_of m.thread at) ∷ [])
timed_close answers m n at answered low is known = record {
  ats = at ∷ [];
  answered = (n.clock, answered, low, refl);
  times = refl;
  latest = ap (λ (t : calls.Thread). t.latest) is;
  first_start = ap (λ (t : calls.Thread). t.first_start) is;
  name = ap (λ (t : calls.Thread). t.name) is;
  form = ap (λ (t : calls.Thread). t.form) is;
  known = known;
}

pub timed_both : {C : Type 0} (answers : C → ℤ → C → Type 0) (o m n : Moment C) (f g : List Event) → Timed answers o m f
    → Timed answers m n g → Timed answers o n (f ++ g)
timed_both answers o m n f g p q = record {
  ats = p.ats ++ q.ats;
  answered = answered-both answers o.clock p.ats m.clock q.ats n.clock p.answered q.answered;
  times = times-both f g ∙ ap (λ x. x ++ times_in g) p.times
      ∙ ap (λ x. greatest_so_far o.thread.latest p.ats ++ x) (q.times ∙ ap (λ l. greatest_so_far l q.ats) p.latest)
      ∙ sym (greatest-both o.thread.latest p.ats q.ats);
  latest = q.latest ∙ ap (λ l. fold int_max l q.ats) p.latest ∙ sym (fold-both int_max o.thread.latest p.ats q.ats);
  first_start = q.first_start ∙ ap (λ s. first_start_in s g) p.first_start ∙ sym (starts-both o.thread.first_start f g);
  name = q.name ∙ p.name;
  form = q.form ∙ p.form;
  known = q.known ∙ p.known;
}

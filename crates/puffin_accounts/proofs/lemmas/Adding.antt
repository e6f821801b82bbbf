-- How what code adds to a thread is composed: nothing, and one piece after another.
use Rattle.std.proofs.Common.{◌≡◌, ℕ, ◌<◌, ℤ, false, List, [], ◌++◌, Option, Some, None, unwrap_or, inl, inr, refl, sym}
use Rattle.std.proofs.Common.{ap, ◌∙◌, subst, append_assoc}
use Rattle.std.specs.FinMap.{get}
use Rattle.std.proofs.lemmas.List.{append-nil}
use Rattle.puffin_data.specs.Forest.{Forest, empty, append}
use Rattle.puffin_data.specs.Forest.Tour.{Event, tour}
use Rattle.puffin_data.specs.Forest.Words.{open_after}
use Rattle.puffin_data.specs.Honesty.{StreamFacts}
use Rattle.puffin_data.proofs.lemmas.Tours.{tour-append}
use Rattle.puffin_threads.specs.Thread.ThreadKey.{ThreadKey, has_same_key}
use Rattle.puffin_threads.specs.Details.{Details}
use Rattle.puffin_frames.specs.Frame.Contents.{Streams}
use Rattle.puffin_collector.specs.Collector.State.{Collected, no_scopes}
use Rattle.puffin_accounts.specs.Moments.{Moment, num_open, key_at}
use Rattle.puffin_accounts.specs.Times.{Timed}
use Rattle.puffin_accounts.specs.Adding.{SpellsEvents, Gains, PassesOn, AddsScopes}
use Rattle.puffin.proofs.lemmas.Offsets.{depth-tour}
use Rattle.puffin_accounts.proofs.lemmas.Times.{timed_still, timed_both, same_start}

gains_both : (a b c : Option StreamFacts) (r s : List Event) → Gains a b r → Gains b c s → Gains a c (r ++ s)
gains_both a b c r s (inl p) q = subst (λ (x : Option StreamFacts). Gains x c (r ++ s)) p.0
    (subst (λ (y : List Event). Gains b c (y ++ s)) (sym p.1) q)
gains_both a b c r s (inr p) (inl q) = inr (
  p.0,
  q.0 ∙ p.1,
  λ before h. subst (λ (y : List Event). SpellsEvents p.0 (before ++ y))
      (sym (append-nil r) ∙ ap (λ (y : List Event). r ++ y) (sym q.1)) (p.2 before h),
)
gains_both a b c r s (inr p) (inr q) = inr (
  q.0,
  q.1,
  λ before h. subst (λ (y : List Event). SpellsEvents q.0 y) (append_assoc before r s)
      (q.2 (before ++ r) (subst (λ (x : Option StreamFacts). SpellsEvents (unwrap_or x no_scopes) (before ++ r)) (sym p.1)
      (p.2 before h))),
)

kept_both : {A : Type 0} (r s o m n d e : List A) → r ++ m ≡ o ++ d → s ++ n ≡ m ++ e → (r ++ s) ++ n ≡ o ++ (d ++ e)
kept_both r s o m n d e p q = append_assoc r s n ∙ ap (λ x. r ++ x) q ∙ sym (append_assoc r m e) ∙ ap (λ x. x ++ e) p
    ∙ append_assoc o d e

-- another number of reported scopes, other streams and other new details
abbrev pub changed : Collected → Collected → List Details → Collected
changed c d details = record c { reported = d.reported; streams = d.streams; new_details = details }

module _ {C : Type 0} (answers : C → ℤ → C → Type 0) (o m n : Moment C) (f g : List Event) where
  passes_both : Timed answers m n g → PassesOn o m f → PassesOn m n g → PassesOn o n (f ++ g)
  passes_both timed p q = at_start m.thread.first_start refl
    where
      more : Gains (get o.collected.streams (key_at n)) (get n.collected.streams (key_at n)) (p.reported ++ q.reported)
          → ((i : ThreadKey) → has_same_key i (key_at n) ≡ false → get m.collected.streams i ≡ get o.collected.streams i)
          → (n.thread.first_start ≡ None → m.thread.first_start ≡ None) → PassesOn o n (f ++ g)
      more stream others earlier = record {
        reported = p.reported ++ q.reported;
        sent = p.sent ++ q.sent;
        events_kept = kept_both p.reported q.reported o.thread.word m.thread.word n.thread.word f g p.events_kept q.events_kept;
        details_kept = append_assoc p.sent q.sent n.thread.details ∙ ap (λ x. p.sent ++ x) q.details_kept ∙ p.details_kept;
        balanced = λ h. q.balanced (p.balanced h);
        stream = stream;
        others = λ i other. q.others i other ∙ others i other;
        unstarted = λ none. let now = q.unstarted none in let then = p.unstarted (earlier none) in
            (now.0 ∙ then.0, ap (λ x. x ++ q.reported) then.1 ∙ now.1);
        collected = q.collected
            ∙ ap (λ (c : Collected). changed c n.collected (c.new_details ++ q.sent)) p.collected
            ∙ ap (changed o.collected n.collected) (append_assoc o.collected.new_details p.sent q.sent);
      }

      at_start : (s : Option ℤ) → m.thread.first_start ≡ s → PassesOn o n (f ++ g)
      at_start None is =
          let before = p.unstarted is in
          let same : (i : ThreadKey) → get m.collected.streams i ≡ get o.collected.streams i =
          λ i. ap (λ (s : Streams). get s i) before.0 in
          more (subst (λ (x : Option StreamFacts). Gains x (get n.collected.streams (key_at n)) (p.reported ++ q.reported))
          (same (key_at n)) (subst (λ (y : List Event). Gains (get m.collected.streams (key_at n))
          (get n.collected.streams (key_at n)) (y ++ q.reported)) (sym before.1) q.stream)) (λ i other. same i) (λ none. is)
      at_start (Some t) is =
          let later = same_start answers m n t g timed is in
          let start : n.thread.first_start ≡ m.thread.first_start = later ∙ sym is in
          let name = timed.name in
          let same : key_at m ≡ key_at n = cc in
          more (gains_both (get o.collected.streams (key_at n)) (get m.collected.streams (key_at n))
          (get n.collected.streams (key_at n)) p.reported q.reported
          (subst (λ (k : ThreadKey). Gains (get o.collected.streams k) (get m.collected.streams k) p.reported)
          same p.stream) q.stream) (λ i other. p.others i
          (subst (λ (k : ThreadKey). has_same_key i k ≡ false) (sym same) other)) (λ none. absurd (let h = later in cc))

-- nothing was reported
pub quiet : {C : Type 0} (a b : Moment C) (f : Forest) → b.thread.word ≡ a.thread.word ++ tour f
    → b.thread.details ≡ a.thread.details → b.collected ≡ a.collected → PassesOn a b (tour f)
quiet a b f word details same = record {
  reported = [];
  sent = [];
  events_kept = word;
  details_kept = details;
  balanced = λ h. (append h.0 f, word ∙ ap (λ (w : List Event). w ++ tour f) h.1 ∙ sym (tour-append h.0 f));
  stream = inl (ap (λ (c : Collected). get c.streams (key_at b)) same, refl);
  others = λ i other. ap (λ (c : Collected). get c.streams i) same;
  unstarted = λ not. (ap (λ (c : Collected). c.streams) same, refl);
  collected = subst (λ (c : Collected). c ≡ changed a.collected c (a.collected.new_details ++ [])) (sym same)
      (ap (changed a.collected a.collected) (sym (append-nil a.collected.new_details)));
}

-- nothing was added
pub adds_nothing : {C : Type 0} (answers : C → ℤ → C → Type 0) (m : Moment C) → AddsScopes answers m m empty
adds_nothing answers m = record {
  timed = timed_still answers m m refl refl refl;
  word = λ some. sym (append-nil m.thread.word);
  details = λ some. refl;
  collected = λ some. refl;
  none_open = λ none. none;
  passed = λ none. quiet m m empty (sym (append-nil m.thread.word)) refl refl;
}

-- one piece of code after another
pub adds_both : {C : Type 0} (answers : C → ℤ → C → Type 0) (o m n : Moment C) (f g : Forest) → AddsScopes answers o m f
    → AddsScopes answers m n g → AddsScopes answers o n (append f g)
adds_both answers o m n f g p q = record {
  timed = subst (λ (w : List Event). Timed answers o n w) (sym (tour-append f g))
      (timed_both answers o m n (tour f) (tour g) p.timed q.timed);
  word = λ some. q.word (still some) ∙ ap (λ (w : List Event). w ++ tour g) (p.word some)
      ∙ append_assoc o.thread.word (tour f) (tour g) ∙ ap (λ (w : List Event). o.thread.word ++ w) (sym (tour-append f g));
  details = λ some. q.details (still some) ∙ p.details some;
  collected = λ some. q.collected (still some) ∙ p.collected some;
  none_open = λ none. q.none_open (p.none_open none);
  passed = λ none. subst (λ (w : List Event). PassesOn o n w) (sym (tour-append f g))
      (passes_both answers o m n (tour f) (tour g) q.timed (p.passed none) (q.passed (p.none_open none)));
}
  where
    still : 0 < num_open o → 0 < num_open m
    still some = subst (λ (k : ℕ). 0 < k) (sym (ap (open_after 0) (p.word some) ∙ depth-tour o.thread.word f)) some

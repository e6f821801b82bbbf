-- A history up to one of its frames, as a history of the same shares.
use Rattle.std.proofs.Common.{◌≡◌, ℕ, zero, suc, ◌+◌, ◌<◌, ◌≤◌, ◌==◌, Bool, true, false, List, [], ◌∷◌}
use Rattle.std.proofs.Common.{◌++◌, length, map, take, refl, ap, sym, ◌∙◌, append_assoc, arith}
use Rattle.std.specs.Prelude.{sum_by}
use Rattle.std.specs.List.{All, count_by}
use Rattle.std.specs.FinMap as fm
use Rattle.std.proofs.lemmas.List.Elements.{All-cons, All-nil}
use Rattle.std.proofs.lemmas.List.Sums.{sum_by-cons}
use Rattle.std.proofs.lemmas.Grind.{flat_map-append}
use Rattle.puffin_frames.specs.Frame.Contents.{Streams}
use Rattle.history.specs.Entries.{events, front_if, entries_by, HasAuthors, AreAllAuthors}
use Rattle.history.proofs.lemmas.AllAuthors.{has_authors-prefix}
use Rattle.history.proofs.lemmas.Counting.{one_if, equal_number, other_number, unequal_number, times, times-cons}
use Rattle.puffin.specs.Happenings.{Happening, reported, framed, marked, History, pending_after, due_at, due_after, after, frame_of}
use Rattle.puffin.specs.Happenings.{frames_in, AreReports, AreSeen, num_arrived, num_released, Stands}
use Rattle.puffin.specs.Leaving.{accounts_of}
use Rattle.puffin.specs.Members.{Member, account_of}
use Rattle.puffin.proofs.Growing.{arrived-both, pending_last}

-- ---- where a frame stands

-- what an author's entries are before, at and after one of them
pub record Split {E : Type 0} (t : ℕ) (log : List (ℕ × E)) (p : List E) (x : E) (q : List E) : Type 0 where
  pub before : List (ℕ × E)
  pub later : List (ℕ × E)
  pub whole : log ≡ before ++ (t, x) ∷ later
  pub own : entries_by t before ≡ p

pub split_at : {E : Type 0} (t : ℕ) (log : List (ℕ × E)) (p : List E) (x : E) (q : List E) → entries_by t log ≡ p ++ x ∷ q
    → Split t log p x q
split_at t [] [] x q e = absurd cc
split_at t [] (h ∷ p) x q e = absurd cc
split_at {E} t (y ∷ ys) p x q e = by (y.0 == t) refl p e (λ r. split_at t ys p x q r) (λ s r. split_at t ys s x q r)
  where
    by : (b : Bool) → (y.0 == t) ≡ b → (r : List E) → front_if (y.0 == t) y.1 (entries_by t ys) ≡ r ++ x ∷ q
        → (entries_by t ys ≡ r ++ x ∷ q → Split t ys r x q)
        → ((s : List E) → entries_by t ys ≡ s ++ x ∷ q → Split t ys s x q) → Split t (y ∷ ys) r x q
    by false is r e later other =
        let f = later (sym (ap (λ (b : Bool). front_if b y.1 (entries_by t ys)) is) ∙ e) in
        record {
          before = y ∷ f.before;
          later = f.later;
          whole = ap (λ (l : List (ℕ × E)). y ∷ l) f.whole;
          own = ap (λ (b : Bool). front_if b y.1 (entries_by t f.before)) is ∙ f.own;
        }
    by true is [] e later other =
        let its : y.1 ∷ entries_by t ys ≡ x ∷ q = sym (ap (λ (b : Bool). front_if b y.1 (entries_by t ys)) is) ∙ e in
        let number : y.0 ≡ t = equal_number y.0 t is in
        let first : y.1 ≡ x = cc in
        record {
          before = [];
          later = ys;
          whole = ap (λ (z : ℕ × E). z ∷ ys) (ap (λ (n : ℕ). (n, y.1)) number ∙ ap (λ (h : E). (t, h)) first);
          own = refl;
        }
    by true is (h ∷ s) e later other =
        let its : y.1 ∷ entries_by t ys ≡ h ∷ (s ++ x ∷ q) = sym (ap (λ (b : Bool). front_if b y.1 (entries_by t ys)) is) ∙ e in
        let rest : entries_by t ys ≡ s ++ x ∷ q = cc in
        let first : y.1 ≡ h = cc in
        let f = other s rest in
        record {
          before = y ∷ f.before;
          later = f.later;
          whole = ap (λ (l : List (ℕ × E)). y ∷ l) f.whole;
          own = ap (λ (b : Bool). front_if b y.1 (entries_by t f.before)) is ∙ ap (λ (z : E). z ∷ entries_by t f.before) first
              ∙ ap (λ (es : List E). h ∷ es) f.own;
        }

-- the frame with this number
pub record FrameAt (number : ℕ) (own : List Happening) : Type 0 where
  pub before : List Happening
  pub streams : Streams
  pub later : List Happening
  pub whole : own ≡ before ++ framed streams ∷ later
  pub earlier : length (frames_in before) ≡ number
  pub first : take (suc number) (frames_in own) ≡ frames_in (before ++ framed streams ∷ [])

pub frame_at : (number : ℕ) (own : List Happening) → number < length (frames_in own) → FrameAt number own
frame_at number [] below = absurd (omega (arith, below))
frame_at zero (framed s ∷ own) below = record { before = []; streams = s; later = own; whole = refl; earlier = refl; first = refl }
frame_at (suc number) (framed s ∷ own) below =
    let f = frame_at number own (omega (arith, below)) in
    record {
      before = framed s ∷ f.before;
      streams = f.streams;
      later = f.later;
      whole = ap (λ (happenings : List Happening). framed s ∷ happenings) f.whole;
      earlier = ap suc f.earlier;
      first = ap (λ (fs : List Streams). s ∷ fs) f.first;
    }
frame_at number (reported i r ∷ own) below =
    let f = frame_at number own below in
    record {
      before = reported i r ∷ f.before;
      streams = f.streams;
      later = f.later;
      whole = ap (λ (happenings : List Happening). reported i r ∷ happenings) f.whole;
      earlier = f.earlier;
      first = f.first;
    }
frame_at number (marked mark ∷ own) below =
    let f = frame_at number own below in
    record {
      before = marked mark ∷ f.before;
      streams = f.streams;
      later = f.later;
      whole = ap (λ (happenings : List Happening). marked mark ∷ happenings) f.whole;
      earlier = f.earlier;
      first = f.first;
    }

-- ---- what stood then

due_both : (s : Streams) (xs ys : List Happening) → due_after s (xs ++ ys) ≡ due_after s xs ++ due_after (pending_after s xs) ys
due_both s [] ys = refl
due_both s (x ∷ xs) ys = ap (λ ds. due_at s x ++ ds) (due_both (after s x) xs ys)
    ∙ sym (append_assoc (due_at s x) (due_after (after s x) xs) (due_after (pending_after (after s x) xs) ys))

as_many_due : (s : Streams) (happenings : List Happening) → length (frames_in happenings) ≡ length (due_after s happenings)
as_many_due s [] = refl
as_many_due s (reported i r ∷ happenings) = as_many_due (after s (reported i r)) happenings
as_many_due s (framed streams ∷ happenings) = ap suc (as_many_due fm.empty happenings)
as_many_due s (marked mark ∷ happenings) = as_many_due s happenings

same_front : {A : Type 0} (xs ys us vs : List A) → length xs ≡ length us → xs ++ ys ≡ us ++ vs → xs ≡ us
same_front [] ys [] vs long is = refl
same_front [] ys (u ∷ us) vs long is = absurd (omega (arith, long))
same_front (x ∷ xs) ys [] vs long is = absurd (omega (arith, long))
same_front (x ∷ xs) ys (u ∷ us) vs long is =
    let first : x ≡ u = cc in
    let rest : xs ++ ys ≡ us ++ vs = cc in
    ap (λ z. z ∷ xs) first ∙ ap (λ zs. u ∷ zs) (same_front xs ys us vs (omega (arith, long)) rest)

reports_front : (s : Streams) (xs ys : List Happening) → AreReports s (xs ++ ys) → AreReports s xs
reports_front s [] ys are = tt
reports_front s (x ∷ xs) ys are = (are.0, reports_front (after s x) xs ys are.1)

pub seen_front : (a r : ℕ) (xs ys : List Happening) → AreSeen a r (xs ++ ys) → AreSeen a r xs
seen_front a r [] ys are = tt
seen_front a r (x ∷ xs) ys are = (are.0, seen_front (a + num_arrived (x ∷ [])) (r + num_released (x ∷ [])) xs ys are.1)

-- once a frame was handed out, nothing is pending
pub stands_at : (pending : Streams) (before : List Happening) (streams : Streams) (later : List Happening)
    → Stands pending ((before ++ framed streams ∷ []) ++ later) → Stands fm.empty (before ++ framed streams ∷ [])
stands_at pending before streams later stands =
    let now : List Happening = before ++ framed streams ∷ [] in
    record {
      start = stands.start;
      none = stands.none;
      pending_is = sym (pending_last stands.start before (framed streams));
      frames_are = same_front (frames_in now) (frames_in later) (due_after stands.start now)
          (due_after (pending_after stands.start now) later) (as_many_due stands.start now)
          (sym (flat_map-append frame_of now later) ∙ stands.frames_are ∙ due_both stands.start now later);
      reports = reports_front stands.start now later stands.reports;
    }

-- ---- the shares then

-- a share as it was
abbrev pub cut : History → Member → Member
cut log m = record m { own = entries_by m.number log }

cut_own : (log : History) (members : List Member) → All (λ a. a.1 ≡ entries_by a.0 log) (accounts_of (map (cut log) members))
cut_own log [] = All-nil _
cut_own log (m ∷ members) = All-cons (λ a. a.1 ≡ entries_by a.0 log) (account_of (cut log m))
    (accounts_of (map (cut log) members)) refl
    (cut_own log members)

abbrev number : ℕ × List Happening → ℕ
number a = a.0

cut_once : (log : History) (k : ℕ) (members : List Member)
    → count_by (λ a. a.0 == k) (accounts_of (map (cut log) members)) ≡ count_by (λ a. a.0 == k) (accounts_of members)
cut_once log k [] = refl
cut_once log k (m ∷ members) = times-cons number k (account_of (cut log m)) (accounts_of (map (cut log) members))
    ∙ ap (λ (n : ℕ). one_if (m.number == k) + n) (cut_once log k members)
    ∙ sym (times-cons number k (account_of m) (accounts_of members))

pub cut_authors : (n : ℕ) (members : List Member) (now later : History) → AreAllAuthors n (accounts_of members) (now ++ later)
    → AreAllAuthors n (accounts_of (map (cut now) members)) now
cut_authors n members now later all = record {
  own = cut_own now members;
  once = λ k below. cut_once now k members ∙ all.once k below;
  has = has_authors-prefix n now later all.has;
}

-- ---- all parts that were done

abbrev parts_by : History → ℕ × List Happening → ℕ
parts_by log a = num_arrived (entries_by a.0 log)

parts_front : (b : Bool) (x : Happening) (xs : List Happening) → num_arrived xs ≤ num_arrived (front_if b x xs)
parts_front true x xs = omega (arith, arrived-both (x ∷ []) xs)
parts_front false x xs = omega arith

no_fewer : (x : ℕ × Happening) (log : History) (accounts : List (ℕ × List Happening))
    → sum_by (parts_by log) accounts ≤ sum_by (parts_by (x ∷ log)) accounts
no_fewer x log [] = omega arith
no_fewer x log (a ∷ rest) = omega (
  arith,
  sum_by-cons (parts_by log) a rest,
  sum_by-cons (parts_by (x ∷ log)) a rest,
  parts_front (x.0 == a.0) x.1 (entries_by a.0 log),
  no_fewer x log rest,
)

by_some : (x : ℕ × Happening) (log : History) (accounts : List (ℕ × List Happening)) → 0 < times number x.0 accounts
    → num_arrived (x.1 ∷ []) + sum_by (parts_by log) accounts ≤ sum_by (parts_by (x ∷ log)) accounts
by_some x log [] some = absurd (omega (arith, some))
by_some x log (a ∷ rest) some = at (x.0 == a.0) refl (λ more. by_some x log rest more)
  where
    sums : sum_by (parts_by (x ∷ log)) (a ∷ rest) ≡ parts_by (x ∷ log) a + sum_by (parts_by (x ∷ log)) rest
    sums = sum_by-cons (parts_by (x ∷ log)) a rest

    at : (b : Bool) → (x.0 == a.0) ≡ b → (0 < times number x.0 rest
        → num_arrived (x.1 ∷ []) + sum_by (parts_by log) rest ≤ sum_by (parts_by (x ∷ log)) rest)
        → num_arrived (x.1 ∷ []) + sum_by (parts_by log) (a ∷ rest) ≤ sum_by (parts_by (x ∷ log)) (a ∷ rest)
    at true is later =
        let mine : parts_by (x ∷ log) a ≡ num_arrived (x.1 ∷ entries_by a.0 log) =
        ap (λ (b : Bool). num_arrived (front_if b x.1 (entries_by a.0 log))) is in
        omega (
          arith,
          sums,
          mine,
          arrived-both (x.1 ∷ []) (entries_by a.0 log),
          sum_by-cons (parts_by log) a rest,
          no_fewer x log rest,
        )
    at false is later =
        let mine : parts_by (x ∷ log) a ≡ parts_by log a =
        ap (λ (b : Bool). num_arrived (front_if b x.1 (entries_by a.0 log))) is in
        let other : one_if (a.0 == x.0) ≡ 0 =
        ap one_if (other_number a.0 x.0 (λ (e : a.0 ≡ x.0). unequal_number x.0 a.0 is (sym e))) in
        omega (
          arith,
          sums,
          mine,
          sum_by-cons (parts_by log) a rest,
          later (omega (arith, some, times-cons number x.0 a rest, other)),
        )

pub all_parts : (n : ℕ) (log : History) (accounts : List (ℕ × List Happening)) → HasAuthors n log
    → ((k : ℕ) → k < n → count_by (λ a. a.0 == k) accounts ≡ 1) → num_arrived (events log) ≤ sum_by (parts_by log) accounts
all_parts n [] accounts has once = omega arith
all_parts n (x ∷ log) accounts has once =
    omega (
      arith,
      arrived-both (x.1 ∷ []) (events log),
      all_parts n log accounts has.1 once,
      by_some x log accounts (omega (arith, once x.0 has.0)),
    )

-- A profiler and its history grow together.
use Rattle.std.proofs.Common.{◌≡◌, ℕ, ◌+◌, ◌-◌, ◌^◌, List, [], ◌∷◌, ◌++◌, Option, Some, None, length, refl}
use Rattle.std.proofs.Common.{ap, sym, subst, ◌∙◌, append_assoc, length-append, arith}
use Rattle.std.specs.Prelude.{min}
use Rattle.std.specs.List.{flat_map}
use mathlib.Core.Logic.{∥∥₁_map}
use Rattle.std.specs.FinMap as map
use Rattle.std.specs.Option.{unwrap_or}
use Rattle.std.proofs.lemmas.List.{append-nil}
use Rattle.std.proofs.lemmas.Grind.{flat_map-append, merely}
use Rattle.puffin_data.specs.Forest.{Forest, empty, node}
use Rattle.puffin_data.specs.Honesty.{StreamFacts, AreHonestFacts}
use Rattle.puffin_threads.specs.Thread.ThreadKey.{ThreadKey}
use Rattle.puffin_frames.specs.Frame.Sums.{total_scopes}
use Rattle.puffin_frames.proofs.lemmas.Honest.{no_scopes_there}
use Rattle.puffin_frames.specs.Frame.Contents.{Streams, AreHonest, no_scopes}
use Rattle.history.specs.Entries.{events}
use Rattle.history.proofs.lemmas.AllAuthors.{events-append}
use Rattle.puffin.specs.Happenings.{Happening, Mark, marked, arrived, released, left, History, if_marked, arrivals_of, releases_of}
use Rattle.puffin.specs.Happenings.{num_arrived, num_released, IsSeen, AreSeen, HasMet, after, pending_after, due_at, due_after, frame_of}
use Rattle.puffin.specs.Happenings.{frames_in, IsReport, AreReports, ArePending, Stands}
use Rattle.puffin.specs.Leaving.{last_entries}

pub pending_last : (s : Streams) (happenings : List Happening) (h : Happening)
    → pending_after s (happenings ++ h ∷ []) ≡ after (pending_after s happenings) h
pending_last s [] h = refl
pending_last s (x ∷ xs) h = pending_last (after s x) xs h

due_last : (s : Streams) (happenings : List Happening) (h : Happening)
    → due_after s (happenings ++ h ∷ []) ≡ due_after s happenings ++ due_at (pending_after s happenings) h
due_last s [] h = append-nil (due_at s h)
due_last s (x ∷ xs) h = ap (λ ds. due_at s x ++ ds) (due_last (after s x) xs h)
    ∙ sym (append_assoc (due_at s x) (due_after (after s x) xs) (due_at (pending_after (after s x) xs) h))

frames_last : (happenings : List Happening) (h : Happening) → frames_in (happenings ++ h ∷ []) ≡ frames_in happenings ++ frame_of h
frames_last happenings h = flat_map-append frame_of happenings (h ∷ [])
    ∙ ap (λ fs. frames_in happenings ++ fs) (append-nil (frame_of h))

reports_last : (s : Streams) (happenings : List Happening) (h : Happening) → AreReports s happenings
    → IsReport (pending_after s happenings) h
    → AreReports s (happenings ++ h ∷ [])
reports_last s [] h all one = (one, tt)
reports_last s (x ∷ xs) h all one = (all.0, reports_last (after s x) xs h all.1 one)

-- ---- what shares saw

marks-both : (f : Mark → List Mark) (xs ys : List Happening)
    → length (flat_map (if_marked f) (xs ++ ys)) ≡ length (flat_map (if_marked f) xs) + length (flat_map (if_marked f) ys)
marks-both f xs ys = ap length (flat_map-append (if_marked f) xs ys)
    ∙ length-append (flat_map (if_marked f) xs) (flat_map (if_marked f) ys)

pub arrived-both : (xs ys : List Happening) → num_arrived (xs ++ ys) ≡ num_arrived xs + num_arrived ys
arrived-both xs ys = marks-both arrivals_of xs ys

pub released-both : (xs ys : List Happening) → num_released (xs ++ ys) ≡ num_released xs + num_released ys
released-both xs ys = marks-both releases_of xs ys

pub seen_at : (h : Happening) (a b r s : ℕ) → a ≡ b → r ≡ s → IsSeen a r h → IsSeen b s h
seen_at h a b r s p q seen = subst (λ (n : ℕ). IsSeen b n h) q (subst (λ (n : ℕ). IsSeen n r h) p seen)

seen_last : (a r : ℕ) (happenings : List Happening) (h : Happening) → AreSeen a r happenings
    → IsSeen (a + num_arrived happenings) (r + num_released happenings) h
    → AreSeen a r (happenings ++ h ∷ [])
seen_last a r [] h all one = (seen_at h (a + 0) a (r + 0) r (omega arith) (omega arith) one, tt)
seen_last a r (x ∷ xs) h all one = (
  all.0,
  seen_last (a + num_arrived (x ∷ [])) (r + num_released (x ∷ [])) xs h all.1
      (seen_at h (a + num_arrived (x ∷ xs)) ((a + num_arrived (x ∷ [])) + num_arrived xs)
      (r + num_released (x ∷ xs)) ((r + num_released (x ∷ [])) + num_released xs)
      (omega (arith, arrived-both (x ∷ []) xs)) (omega (arith, released-both (x ∷ []) xs)) one),
)

longer_by : (n : ℕ) (h : Happening) (old log : History) → log ≡ old ++ (n, h) ∷ [] → events log ≡ events old ++ h ∷ []
longer_by n h old log longer = ap events longer ∙ events-append old ((n, h) ∷ [])

-- what was met stays so with one entry more
pub still_met : (a r n : ℕ) (h : Happening) (old log : History) → log ≡ old ++ (n, h) ∷ [] → HasMet a r (events old)
    → HasMet a r (events log)
still_met a r n h old log longer met =
    let whole = longer_by n h old log longer in
    record {
      arrived = omega (arith, met.arrived, ap num_arrived whole, arrived-both (events old) (h ∷ []));
      released = omega (arith, met.released, ap num_released whole, released-both (events old) (h ∷ []));
    }

pub one_arrived : (a b r n : ℕ) (old log : History) → b ≡ min (a + 1) (2 ^ 64 - 1) → log ≡ old ++ (n, marked arrived) ∷ []
    → HasMet a r (events old) → HasMet b r (events log)
one_arrived a b r n old log more longer met =
    let whole = longer_by n (marked arrived) old log longer in
    record {
      arrived = omega (arith, met.arrived, more, ap num_arrived whole, arrived-both (events old) (marked arrived ∷ []));
      released = (still_met a r n (marked arrived) old log longer met).released;
    }

pub one_released : (a b r n : ℕ) (old log : History) → b ≡ min (r + 1) (2 ^ 64 - 1) → log ≡ old ++ (n, marked released) ∷ []
    → HasMet a r (events old) → HasMet a b (events log)
one_released a b r n old log more longer met =
    let whole = longer_by n (marked released) old log longer in
    record {
      arrived = (still_met a r n (marked released) old log longer met).arrived;
      released = omega (arith, met.released, more, ap num_released whole, released-both (events old) (marked released ∷ []));
    }

-- what shares saw was so with one entry more, if what it saw was
pub still_seen : (n : ℕ) (h : Happening) (old log : History) → log ≡ old ++ (n, h) ∷ []
    → IsSeen (num_arrived (events old)) (num_released (events old)) h → AreSeen 0 0 (events old) → AreSeen 0 0 (events log)
still_seen n h old log longer sight seen =
    subst (AreSeen 0 0) (sym (longer_by n h old log longer))
    (seen_last 0 0 (events old) h seen (seen_at h (num_arrived (events old)) (0 + num_arrived (events old))
    (num_released (events old)) (0 + num_released (events old)) (omega arith) (omega arith) sight))

grows : (pending new : Streams) (happenings : List Happening) (h : Happening) → Stands pending happenings → new ≡ after pending h
    → frame_of h ≡ due_at pending h → IsReport pending h → Stands new (happenings ++ h ∷ [])
grows pending new happenings h stands is due report = record {
  start = stands.start;
  none = stands.none;
  pending_is = is ∙ ap (λ s. after s h) stands.pending_is ∙ sym (pending_last stands.start happenings h);
  frames_are = frames_last happenings h ∙ (λ k. stands.frames_are k ++ due k)
      ∙ ap (λ s. due_after stands.start happenings ++ due_at s h) stands.pending_is ∙ sym (due_last stands.start happenings h);
  reports = reports_last stands.start happenings h stands.reports (subst (λ (s : Streams). IsReport s h) stands.pending_is report);
}

-- a history that stands with what is pending, and grows by what happens next
pub grows_by : (pending new : Streams) (old log : History) (n : ℕ) (h : Happening) → ∥ Stands pending (events old) ∥₁
    → log ≡ old ++ (n, h) ∷ [] → new ≡ after pending h → frame_of h ≡ due_at pending h → IsReport pending h
    → ∥ Stands new (events log) ∥₁
grows_by pending new old log n h stands longer is due report = ∥∥₁_map stands (λ s.
    subst (λ (happenings : List Happening). Stands new happenings)
    (sym (ap events longer ∙ events-append old ((n, h) ∷ []))) (grows pending new (events old) h s is due report))

-- nothing happened
pub same_stands : (pending new : Streams) (log : History) → new ≡ pending → ∥ Stands pending (events log) ∥₁
    → ∥ Stands new (events log) ∥₁
same_stands pending new log is stands = subst (λ (s : Streams). ∥ Stands s (events log) ∥₁) (sym is) stands

none_counted : (f : Forest) (r : StreamFacts) → r.num_scopes ≡ 0 → AreHonestFacts r f → AreHonestFacts r empty
none_counted empty r none honest = honest
none_counted (node s c o) r none honest = absurd (omega (arith, none, honest.counts.num_scopes))

none_under : (streams : Streams) (i : ThreadKey) → AreHonest streams → total_scopes (map.values streams) ≡ 0
    → (o : Option StreamFacts) → map.get streams i ≡ o → ∥ AreHonestFacts (unwrap_or o no_scopes) empty ∥₁
none_under streams i honest nothing None found = merely (record {
  stream = record { whole = refl; fits = tt };
  counts = record { num_scopes = refl; depth = refl; least_start = refl; greatest_stop = refl };
})
none_under streams i honest nothing (Some r) found =
    ∥∥₁_map (honest i r found) (λ t. none_counted t.0 r (no_scopes_there streams i r nothing found) t.1)

-- honest streams whose sum is 0 are without scopes, and a history may begin with them
pub opened_stands : (streams : Streams) → AreHonest streams → total_scopes (map.values streams) ≡ 0 → Stands streams []
opened_stands streams honest nothing =
    record {
      start = streams;
      none = λ i. none_under streams i honest nothing (map.get streams i) refl;
      pending_is = refl;
      frames_are = refl;
      reports = tt;
    }

pub pending_there : (pending : Streams) (happenings : List Happening) → ∥ Stands pending happenings ∥₁
    → ∥ ArePending happenings pending ∥₁
pending_there pending happenings stands = ∥∥₁_map stands (λ s. record { start = s.start; none = s.none; is = s.pending_is })

-- shares left
pub left_stands : (pending : Streams) (log : History) (accounts : List (ℕ × List Happening)) → ∥ Stands pending (events log) ∥₁
    → ∥ Stands pending (events (log ++ last_entries accounts)) ∥₁
left_stands pending log [] stands = subst (λ (l : History). ∥ Stands pending (events l) ∥₁) (sym (append-nil log)) stands
left_stands pending log (a ∷ rest) stands =
    subst (λ (l : History). ∥ Stands pending (events l) ∥₁) (append_assoc log ((a.0, marked left) ∷ []) (last_entries rest))
    (left_stands pending (log ++ (a.0, marked left) ∷ []) rest
    (grows_by pending pending log (log ++ (a.0, marked left) ∷ []) a.0 (marked left) stands refl refl refl tt))

pub left_met : (a r : ℕ) (log : History) (accounts : List (ℕ × List Happening))
    → HasMet a r (events log) × AreSeen 0 0 (events log) → HasMet a r (events (log ++ last_entries accounts))
    × AreSeen 0 0 (events (log ++ last_entries accounts))
left_met a r log [] met = subst (λ (l : History). HasMet a r (events l) × AreSeen 0 0 (events l)) (sym (append-nil log)) met
left_met a r log (b ∷ rest) met =
    subst (λ (l : History). HasMet a r (events l) × AreSeen 0 0 (events l))
    (append_assoc log ((b.0, marked left) ∷ []) (last_entries rest))
    (left_met a r (log ++ (b.0, marked left) ∷ []) rest (
      still_met a r b.0 (marked left) log (log ++ (b.0, marked left) ∷ []) refl met.0,
      still_seen b.0 (marked left) log (log ++ (b.0, marked left) ∷ []) refl tt met.1,
    ))

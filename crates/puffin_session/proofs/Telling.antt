-- What one more action changes in what is told of scopes.
use Rattle.std.proofs.Common.{◌≡◌, ℕ, Bool, List, [], ◌∷◌, ◌++◌, map, fold, refl, sym, ap, ◌∙◌, append_assoc, append-nil}
use Rattle.std.specs.List.{flat_map}
use Rattle.std.proofs.lemmas.List.Concat.{flat_map-append}
use Rattle.puffin_threads.specs.Details.{Details}
use Rattle.puffin_threads.specs.Details.Collection.{Collection, with_details, with_all_details}
use Rattle.puffin_collector.specs.Collector.State.{Collected}
use Rattle.puffin_session.specs.Session.History.{Opening, Action, thread_at, since_last}
use Rattle.puffin_session.specs.Session.Notes.{Note, noted, sent, is_sent, details_in, details_waiting, notes_at, details_registered, due_notes_at, due_notes_after, due_details, details_learnt_at, details_learnt_after, known_after, wanted_at}
use Rattle.puffin_session.specs.Session.{TellsAfter}
use Rattle.puffin_session.proofs.Histories.{since_last-yes, since_last-no}

-- ---- lists of notes

-- what waits after one more note
abbrev pub waiting_with : List Details → Note → List Details
waiting_with ds (noted d) = ds ++ (d ∷ [])
waiting_with ds sent = []

waiting-one : (xs : List Note) (n : Note) → details_waiting (xs ++ (n ∷ [])) ≡ waiting_with (details_waiting xs) n
waiting-one xs (noted d) =
    ap (flat_map details_in) (since_last-no is_sent xs (noted d) refl)
    ∙ flat_map-append details_in (since_last is_sent xs) (noted d ∷ [])
waiting-one xs sent = ap (flat_map details_in) (since_last-yes is_sent xs sent refl)

-- what waits after more notes
pub waiting-more : (xs ys : List Note) → details_waiting (xs ++ ys) ≡ fold waiting_with (details_waiting xs) ys
waiting-more xs [] = ap details_waiting (append-nil xs)
waiting-more xs (n ∷ ys) =
    ap details_waiting (sym (append_assoc xs (n ∷ []) ys))
    ∙ waiting-more (xs ++ (n ∷ [])) ys
    ∙ ap (λ (ds : List Details). fold waiting_with ds ys) (waiting-one xs n)

pub waiting-noted : (ds new : List Details) → fold waiting_with ds (map noted new) ≡ ds ++ new
waiting-noted ds [] = sym (append-nil ds)
waiting-noted ds (d ∷ new) = waiting-noted (ds ++ (d ∷ [])) new ∙ append_assoc ds (d ∷ []) new

-- ---- one thread

module _ (o : Opening) (t : ℕ) (done : List Action) (a : Action) where
  -- what a thread has registered after one more action
  pub details_registered-more : details_registered o t (done ++ (a ∷ [])) ≡ fold waiting_with (details_registered o t done) (notes_at t a)
  details_registered-more =
      let before = map noted (thread_at o t).details in
      let some = flat_map (notes_at t) done in
      ap (λ (ns : List Note). details_waiting (before ++ ns))
      (flat_map-append (notes_at t) done (a ∷ [])
      ∙ ap (λ (ns : List Note). some ++ ns) (append-nil (notes_at t a)))
      ∙ ap details_waiting (sym (append_assoc before some (notes_at t a))) ∙ waiting-more (before ++ some) (notes_at t a)

-- ---- frames

-- the notes, and the learnt details, after one more action are those before and its own
pub due_notes_after-more : (o : Opening) (past later : List Action) (a : Action)
    → due_notes_after o past (later ++ (a ∷ [])) ≡ due_notes_after o past later ++ due_notes_at o (past ++ later) a
due_notes_after-more o past [] a = append-nil (due_notes_at o past a) ∙ ap (λ d. due_notes_at o d a) (sym (append-nil past))
due_notes_after-more o past (b ∷ later) a =
    ap (λ (ns : List Note). due_notes_at o past b ++ ns)
    (due_notes_after-more o (past ++ (b ∷ [])) later a
    ∙ ap (λ d. due_notes_after o (past ++ (b ∷ [])) later ++ due_notes_at o d a)
    (append_assoc past (b ∷ []) later))
    ∙ sym (append_assoc (due_notes_at o past b) (due_notes_after o (past ++ (b ∷ [])) later) (due_notes_at o (past ++ (b ∷ later)) a))

pub details_learnt_after-more : (o : Opening) (past later : List Action) (a : Action)
    → details_learnt_after o past (later ++ (a ∷ []))
    ≡ details_learnt_after o past later ++ details_learnt_at o (past ++ later) a
details_learnt_after-more o past [] a = append-nil (details_learnt_at o past a) ∙ ap (λ d. details_learnt_at o d a) (sym (append-nil past))
details_learnt_after-more o past (b ∷ later) a =
    ap (λ (ds : List Details). details_learnt_at o past b ++ ds)
    (details_learnt_after-more o (past ++ (b ∷ [])) later a
    ∙ ap (λ d. details_learnt_after o (past ++ (b ∷ [])) later ++ details_learnt_at o d a)
    (append_assoc past (b ∷ []) later))
    ∙ sym
    (append_assoc (details_learnt_at o past b) (details_learnt_after o (past ++ (b ∷ [])) later)
    (details_learnt_at o (past ++ (b ∷ later)) a))

with_all_details-append : (c : Collection) (xs ys : List Details) →
    with_all_details c (xs ++ ys) ≡ with_all_details (with_all_details c xs) ys
with_all_details-append c [] ys = refl
with_all_details-append c (x ∷ xs) ys = with_all_details-append (with_details c x) xs ys

wanted-more : (wanted : Bool) (done : List Action) (a : Action)
    → fold wanted_at wanted (done ++ (a ∷ [])) ≡ wanted_at (fold wanted_at wanted done) a
wanted-more wanted [] a = refl
wanted-more wanted (b ∷ done) a = wanted-more (wanted_at wanted b) done a

module _ (o : Opening) (done : List Action) (a : Action) where
  due_details-more : due_details o (done ++ (a ∷ [])) ≡ fold waiting_with (due_details o done) (due_notes_at o done a)
  due_details-more =
      let before = map noted o.new_details in
      ap (λ (ns : List Note). details_waiting (before ++ ns)) (due_notes_after-more o [] done a)
      ∙ ap details_waiting (sym (append_assoc before (due_notes_after o [] done) (due_notes_at o done a)))
      ∙ waiting-more (before ++ due_notes_after o [] done) (due_notes_at o done a)

  known_after-more : known_after o (done ++ (a ∷ [])) ≡ with_all_details (known_after o done) (details_learnt_at o done a)
  known_after-more =
      ap (with_all_details o.collection) (details_learnt_after-more o [] done a)
      ∙ with_all_details-append o.collection (details_learnt_after o [] done) (details_learnt_at o done a)

  -- what is told goes on with what a call makes of it
  pub TellsAfter-more : (old new : Collected) → TellsAfter o done old
      → new.collection ≡ with_all_details old.collection (details_learnt_at o done a)
      → new.new_details ≡ fold waiting_with old.new_details (due_notes_at o done a)
      → new.wants_all ≡ wanted_at old.wants_all a
      → TellsAfter o (done ++ (a ∷ [])) new
  TellsAfter-more old new before known details wanted = record {
    collection = known ∙ ap (λ (c : Collection). with_all_details c (details_learnt_at o done a)) before.collection ∙ sym known_after-more;
    new_details = details
        ∙ ap (λ (ds : List Details). fold waiting_with ds (due_notes_at o done a)) before.new_details
        ∙ sym due_details-more;
    wants_all = wanted ∙ ap (λ (b : Bool). wanted_at b a) before.wants_all ∙ sym (wanted-more o.wants_all done a);
  }

-- ---- before any action

no_frame : (ds : List Details) → details_waiting (map noted ds) ≡ ds
no_frame ds = waiting-more [] (map noted ds) ∙ waiting-noted [] ds

-- at the opening what waits is what the session holds
pub details_registered-opening : (o : Opening) (t : ℕ) → details_registered o t [] ≡ (thread_at o t).details
details_registered-opening o t = ap details_waiting (append-nil (map noted (thread_at o t).details)) ∙ no_frame (thread_at o t).details

pub due_details-opening : (o : Opening) → due_details o [] ≡ o.new_details
due_details-opening o = ap details_waiting (append-nil (map noted o.new_details)) ∙ no_frame o.new_details

-- Frames that are merged aren't refused, and are merged into one forest.
use Rattle.std.proofs.Common.{◌≡◌, ℕ, ◌<◌, ◌^◌, ℤ, ◌-ℤ◌, List, [], ◌∷◌, ◌++◌, length, inl, inr, refl, sym, ap, subst, ◌∙◌, arith, append_assoc}
use Rattle.std.proofs.lemmas.List.{map-append}
use Rattle.puffin_data.specs.declared.data.form.Form.{Form}
use Rattle.puffin_data.specs.declared.error.Error.{Error}
use Rattle.puffin_data.specs.Forest.{Forest, IsForest}
use Rattle.puffin_data.specs.Forest.Spelling.{spelling, Spells}
use Rattle.puffin_data.specs.Walk.{IsFault}
use Rattle.puffin_data.specs.Walk.PlacedScopes.{ScopeInContext, nested_in, PlacedScope, Sees, scopes_of}
use Rattle.puffin_merge.specs.Merge.Occurrences.{Occurrence, FrameScopes, occurrence_of, occurrences_in, occurrences_of, occurrences_from, occurrences}
use Rattle.puffin_merge.specs.Merge.Tree.{MergedForest}
use Rattle.puffin_merge.specs.Merge.{IsMerge}
use Rattle.puffin_merge.specs.Merge.FrameBytes.{FrameBytes, form_of, bytes_of, start_of, HasScopes, HaveScopes}
use Rattle.puffin_merge.specs.Merge.Refusals.{IsRefusedFor, AreAccepted, IsFrameRefusal, faulty, refused, IsMergeRefusal, IsRefusalAfter, in_frame, at_end, EndsFit, AreMerged}
use Rattle.puffin_merge.specs.inner.Merging.{append-nil}
use Rattle.puffin_merge.proofs.FramesRead.{starts_same}
use Rattle.puffin_merge.proofs.OneMerge.{one_merge}

-- what is known of walks
pub record Walks : Type 0 where
  pub one_forest : (form : Form) (f g : Forest) → IsForest form f → IsForest form g
      → length (spelling form f) < 2 ^ 63 → spelling form f ≡ spelling form g → f ≡ g
  pub no_fault : (form : Form) (bytes : List ℕ) (f : Forest) (fault : Error) → length bytes < 2 ^ 64
      → Spells form bytes f → IsFault form bytes fault → ⊥
  pub sees : (form : Form) (bytes : List ℕ) (f : Forest) (placed : List PlacedScope) → length bytes < 2 ^ 64
      → Spells form bytes f → Sees form bytes [] 0 (length bytes) placed → scopes_of placed ≡ nested_in [] f

-- ---- frames have one list of scopes

one_frame : Walks → (frame : FrameBytes) (x y : FrameScopes) → HasScopes frame x → HasScopes frame y → x ≡ y
one_frame w frame x y a b =
    let start = a.start ∙ sym b.start in
    let short : length (spelling (form_of frame) x.forest) < 2 ^ 63 =
    subst (λ (bytes : List ℕ). length bytes < 2 ^ 63) a.spells.whole a.short in
    let forest = w.one_forest (form_of frame) x.forest y.forest a.spells.fits b.spells.fits short
    (sym a.spells.whole ∙ b.spells.whole) in
    λ i. record { start = start i; forest = forest i }

one_list : Walks → (frames : List FrameBytes) (xs ys : List FrameScopes) → HaveScopes frames xs
    → HaveScopes frames ys → xs ≡ ys
one_list w [] [] [] a b = refl
one_list w [] [] (y ∷ ys) a b = absurd b
one_list w [] (x ∷ xs) ys a b = absurd a
one_list w (f ∷ frames) [] ys a b = absurd a
one_list w (f ∷ frames) (x ∷ xs) [] a b = absurd b
one_list w (f ∷ frames) (x ∷ xs) (y ∷ ys) (has, have) (other_has, others_have) =
    let first = one_frame w f x y has other_has in
    let rest = one_list w frames xs ys have others_have in
    λ i. first i ∷ rest i

-- a frame among others, and its scopes
record HasAt (frame : FrameBytes) (early scopes : List FrameScopes) : Type 0 where
  this : FrameScopes
  later : List FrameScopes
  has : HasScopes frame this
  are : scopes ≡ early ++ (this ∷ later)

-- a frame's scopes stand at its place among all scopes, and those before it are the same
has_at : Walks → (earlier later : List FrameBytes) (frame : FrameBytes) (early scopes : List FrameScopes)
    → HaveScopes earlier early → HaveScopes (earlier ++ (frame ∷ later)) scopes → HasAt frame early scopes
has_at w [] later frame [] [] a b = absurd b
has_at w [] later frame [] (s ∷ scopes) a (has, have) = record { this = s; later = scopes; has = has; are = refl }
has_at w [] later frame (e ∷ early) scopes a b = absurd a
has_at w (f ∷ earlier) later frame [] scopes a b = absurd a
has_at w (f ∷ earlier) later frame (e ∷ early) [] a b = absurd b
has_at w (f ∷ earlier) later frame (e ∷ early) (s ∷ scopes) (early_has, early_have) (has, have) =
    let rest = has_at w earlier later frame early scopes early_have have in
    let first = one_frame w f s e has early_has in
    let all = rest.are in
    record { this = rest.this; later = rest.later; has = rest.has; are = λ i. first i ∷ all i }

-- ---- what is accepted is accepted in parts

from_append : (first : ℤ) (xs ys : List FrameScopes)
    → occurrences_from first (xs ++ ys) ≡ occurrences_from first xs ++ occurrences_from first ys
from_append first [] ys = refl
from_append first (x ∷ xs) ys = ap (λ (l : List Occurrence). occurrences_of first x ++ l) (from_append first xs ys)
    ∙ sym (append_assoc (occurrences_of first x) (occurrences_from first xs) (occurrences_from first ys))

accepted_after : (xs ys done : List Occurrence) → AreAccepted done (xs ++ ys) → AreAccepted (done ++ xs) ys
accepted_after [] ys done a = subst (λ (l : List Occurrence). AreAccepted l ys) (sym (append-nil done)) a
accepted_after (x ∷ xs) ys done (shallow, fits, later) = subst (λ (l : List Occurrence). AreAccepted l ys)
    (append_assoc done (x ∷ []) xs) (accepted_after xs ys (done ++ (x ∷ [])) later)

not_refused : (done more : List Occurrence) (o : Occurrence) (refusal : Error) → AreAccepted done (o ∷ more)
    → IsRefusedFor done o refusal → ⊥
not_refused done more o refusal (shallow, fits, later) (inl (depth, is)) = absurd (omega arith)
not_refused done more o refusal (shallow, fits, later) (inr (is_shallow, no_fit, is)) = no_fit fits

-- ---- a frame whose scopes are accepted isn't refused

-- a frame whose scopes are all accepted has no refusal: its bytes have no fault, and each of its scopes is accepted
frame_fine : Walks → (frame : FrameBytes) (this : FrameScopes) (done more : List Occurrence)
    (origin : ℤ) (refusal : Error) (tries : ℕ)
    → HasScopes frame this → AreAccepted done (occurrences_in origin (nested_in [] this.forest) ++ more)
    → IsFrameRefusal done origin (form_of frame) (bytes_of frame) tries refusal → ⊥
frame_fine w frame this done more origin refusal tries has a
    (faulty {place = place} {fault = fault} first sees accepted) =
    let short = has.short in
    w.no_fault (form_of frame) (bytes_of frame) this.forest fault (omega arith) has.spells (place, first)
frame_fine w frame this done more origin refusal tries has a
    (refused earlier later s {refusal = cause} sees accepted is_refused first) =
    let short = has.short in
    let scopes : nested_in [] this.forest ≡ scopes_of earlier ++ (s.scope ∷ scopes_of later) =
    sym (w.sees (form_of frame) (bytes_of frame) this.forest (earlier ++ (s ∷ later)) (omega arith) has.spells sees)
    ∙ map-append (λ (x : PlacedScope). x.scope) earlier (s ∷ later) in
    let split : occurrences_in origin (nested_in [] this.forest) ++ more ≡ occurrences_in origin (scopes_of earlier)
    ++ (occurrence_of origin s.scope ∷ (occurrences_in origin (scopes_of later) ++ more)) =
    ap (λ (xs : List ScopeInContext). occurrences_in origin xs ++ more) scopes
    ∙ ap (λ (xs : List Occurrence). xs ++ more)
    (map-append (occurrence_of origin) (scopes_of earlier) (s.scope ∷ scopes_of later))
    ∙ append_assoc (occurrences_in origin (scopes_of earlier))
    (occurrence_of origin s.scope ∷ occurrences_in origin (scopes_of later)) more in
    not_refused (done ++ occurrences_in origin (scopes_of earlier)) _ (occurrence_of origin s.scope) cause
    (accepted_after (occurrences_in origin (scopes_of earlier)) _ done (subst (AreAccepted done) split a)) is_refused

-- ---- the frames

-- frames that have a merge have no refused frame
not_in_frame : Walks → (frames earlier later : List FrameBytes) (frame : FrameBytes) (early : List FrameScopes)
    (f : MergedForest) (refusal : Error) (tries : ℕ) → frames ≡ earlier ++ (frame ∷ later) → HaveScopes earlier early
    → AreMerged frames f
    → IsFrameRefusal (occurrences_from (start_of frames) early) (frame.start -ℤ start_of frames) (form_of frame)
    (bytes_of frame) tries refusal → ⊥
not_in_frame w frames earlier later frame early f refusal tries split have m is =
    let at = has_at w earlier later frame early m.scopes have
    (subst (λ (xs : List FrameBytes). HaveScopes xs m.scopes) split m.have) in
    let first = start_of frames in
    let this = at.this in
    let all : occurrences m.scopes
    ≡ occurrences_from first early ++ (occurrences_of first this ++ occurrences_from first at.later) =
    ap (λ (s : ℤ). occurrences_from s m.scopes) (sym (starts_same frames m.scopes m.have))
    ∙ ap (occurrences_from first) at.are ∙ from_append first early (this ∷ at.later) in
    let accepted = accepted_after (occurrences_from first early)
    (occurrences_of first this ++ occurrences_from first at.later) [] (subst (AreAccepted []) all m.accepted) in
    frame_fine w frame this (occurrences_from first early) (occurrences_from first at.later) (frame.start -ℤ first)
    refusal tries at.has
    (subst (λ (s : ℤ). AreAccepted (occurrences_from first early) (occurrences_in (s -ℤ first)
    (nested_in [] this.forest) ++ occurrences_from first at.later)) at.has.start accepted) is

-- frames have at most one merge
pub merged_once : Walks → (frames : List FrameBytes) (f g : MergedForest) → AreMerged frames f
    → AreMerged frames g → f ≡ g
merged_once w frames f g a b =
    let same = one_list w frames a.scopes b.scopes a.have b.have in
    one_merge (occurrences a.scopes) (length frames) f g a.merge
    (subst (λ (xs : List FrameScopes). IsMerge (occurrences xs) (length frames) g) (sym same) b.merge)

not_after : Walks → (frames : List FrameBytes) (f : MergedForest) (tries : ℕ) (refusal : Error) → AreMerged frames f
    → IsRefusalAfter frames tries refusal → ⊥
not_after w frames f tries refusal m (in_frame earlier later frame early split have accepted is) =
    not_in_frame w frames earlier later frame early f _ _ split have m is
not_after w frames f tries refusal m (at_end scopes g have accepted merge unfit) =
    let same = one_list w frames m.scopes scopes m.have have in
    let one = one_merge (occurrences scopes) (length frames) f g
    (subst (λ (xs : List FrameScopes). IsMerge (occurrences xs) (length frames) f) same m.merge) merge in
    unfit (subst EndsFit one m.ends)

-- frames that have a merge have no refusal
pub not_both : Walks → (frames : List FrameBytes) (f : MergedForest) (refusal : Error) → AreMerged frames f
    → IsMergeRefusal frames refusal → ⊥
not_both w frames f refusal m (tries, is) = not_after w frames f tries refusal m is

-- What is merged doesn't depend on the order of the frames after the first: the same scopes are accepted, and merged.
use Rattle.std.proofs.Common.{◌≡◌, ℕ, suc, ◌<◌, ◌^◌, Bool, true, false, cond, List, [], ◌∷◌, ◌++◌, length, IsPermutation, refl, sym, ap, subst, arith, append_assoc}
use Rattle.std.specs.Arc.{arc_value}
use Rattle.std.specs.declared.sync.Arc.{Arc}
use Rattle.std.specs.declared.alloc.Global.{Global}
use Rattle.std.proofs.lemmas.List.Sums.{sum_by-append}
use Rattle.std.proofs.lemmas.List.Sorted.{IsPermutation-map}
use Rattle.puffin_frames.specs.declared.frame_data.unpacked.UnpackedFrameData.{UnpackedFrameData}
use Rattle.puffin_threads.specs.Thread.ThreadKey.{ThreadKey}
use Rattle.puffin_merge.specs.Merge.Occurrences.{Path, Occurrence, FrameScopes, is_path, occurrences_of, occurrences}
use Rattle.puffin_merge.specs.Merge.Pieces.{Merged, pieces_at, merged_of, merged_at}
use Rattle.puffin_merge.specs.Merge.Tree.{MergedForest}
use Rattle.puffin_merge.specs.Merge.{IsMerge}
use Rattle.puffin_merge.specs.Merge.FrameBytes.{FrameBytes, HaveScopes}
use Rattle.puffin_merge.specs.Merge.Refusals.{SumsFit, AreAccepted, EndsFit, AreMerged}
use Rattle.puffin_merge.specs.Merge.Scopes.{frame_bytes, frames_bytes}
use Rattle.puffin_merge.proofs.Paths.{one_path}
use Rattle.puffin_merge.proofs.AnyOrder.{merged_at-reordered, merge-reordered}
use Rattle.puffin_merge.proofs.Reordering.{Reordered, none_left, keeps, turns, goes_on, inserted, append-reordered, reordered-append, flat_map-reordered, length-reordered, from_permutation, to_permutation}

-- ---- sums that fit

abbrev AreSmall : Merged → Type 0
AreSmall m = (m.number < 2 ^ 64) × (m.total < 2 ^ 63)

small : (done : List Occurrence) (o : Occurrence) → SumsFit done o → AreSmall (merged_at (done ++ (o ∷ [])) o.path)
small done o s = (s.number, s.total)

fit : (done : List Occurrence) (o : Occurrence) → AreSmall (merged_at (done ++ (o ∷ [])) o.path) → SumsFit done o
fit done o (number, total) = record { number = number; total = total }

small-reordered : {xs ys : List Occurrence} (path : Path) → Reordered xs ys → AreSmall (merged_at xs path)
    → AreSmall (merged_at ys path)
small-reordered path r h = subst (λ (at : Path → Merged). AreSmall (at path)) (merged_at-reordered r) h

small-back : {xs ys : List Occurrence} (path : Path) → Reordered xs ys → AreSmall (merged_at ys path)
    → AreSmall (merged_at xs path)
small-back path r h = subst (λ (at : Path → Merged). AreSmall (at path)) (sym (merged_at-reordered r)) h

-- with one piece less, and with one of another path more
small-less : (x : Occurrence) (xs : List Occurrence) (path : Path) → AreSmall (merged_at (x ∷ xs) path)
    → AreSmall (merged_at xs path)
small-less x xs path h = by_test (is_path x.path path) h where
  by_test : (b : Bool) → AreSmall (merged_of (cond b (x ∷ pieces_at xs path) (pieces_at xs path)))
      → AreSmall (merged_at xs path)
  by_test true h = let more = sum_by-append (λ (o : Occurrence). o.duration) (x ∷ []) (pieces_at xs path) in
      (omega (arith, h.0), omega (arith, h.1, more))
  by_test false h = h

small-other : (x : Occurrence) (xs : List Occurrence) (path : Path) → is_path x.path path ≡ false
    → AreSmall (merged_at xs path) → AreSmall (merged_at (x ∷ xs) path)
small-other x xs path e h =
    subst (λ (b : Bool). AreSmall (merged_of (cond b (x ∷ pieces_at xs path) (pieces_at xs path)))) (sym e) h

-- ---- two of them exchanged

put_behind : (done : List Occurrence) (x : Occurrence) (more : List Occurrence)
    → Reordered (x ∷ (done ++ more)) ((done ++ (x ∷ [])) ++ more)
put_behind done x more = subst (λ (l : List Occurrence). Reordered (x ∷ (done ++ more)) l)
    (sym (append_assoc done (x ∷ []) more)) (inserted done x more)

exchanged_last : (done : List Occurrence) (x y : Occurrence)
    → Reordered ((done ++ (x ∷ [])) ++ (y ∷ [])) ((done ++ (y ∷ [])) ++ (x ∷ []))
exchanged_last done x y =
    subst (λ (l : List Occurrence). Reordered l ((done ++ (y ∷ [])) ++ (x ∷ [])))
    (sym (append_assoc done (x ∷ []) (y ∷ [])))
    (subst (λ (l : List Occurrence). Reordered (done ++ (x ∷ (y ∷ []))) l) (sym (append_assoc done (y ∷ []) (x ∷ [])))
    (append-reordered done (turns x y [])))

fits_without : (done : List Occurrence) (x y : Occurrence) → SumsFit (done ++ (x ∷ [])) y → SumsFit done y
fits_without done x y s = fit done y (small-less x (done ++ (y ∷ [])) y.path
    (small-back y.path (put_behind done x (y ∷ [])) (small (done ++ (x ∷ [])) y s)))

fits_later : (done : List Occurrence) (x y : Occurrence) → SumsFit done x → SumsFit (done ++ (x ∷ [])) y
    → SumsFit (done ++ (y ∷ [])) x
fits_later done x y s t = by_test (is_path y.path x.path) refl where
  by_test : (b : Bool) → is_path y.path x.path ≡ b → SumsFit (done ++ (y ∷ [])) x
  by_test true e =
      fit (done ++ (y ∷ [])) x
      (small-reordered x.path (exchanged_last done x y) (subst (λ (path : Path). AreSmall (merged_at
      ((done ++ (x ∷ [])) ++ (y ∷ [])) path)) (one_path y.path x.path e) (small (done ++ (x ∷ [])) y t)))
  by_test false e = fit (done ++ (y ∷ [])) x (small-reordered x.path (put_behind done y (x ∷ []))
      (small-other y (done ++ (x ∷ [])) x.path e (small done x s)))

-- ---- scopes that are accepted, in another order

fits-reordered : {done again : List Occurrence} → Reordered done again → (o : Occurrence) → SumsFit done o
    → SumsFit again o
fits-reordered {again = again} r o s = fit again o (small-reordered o.path (reordered-append (o ∷ []) r) (small _ o s))

accepted-behind : (xs : List Occurrence) {done again : List Occurrence} → Reordered done again → AreAccepted done xs
    → AreAccepted again xs
accepted-behind [] r a = tt
accepted-behind (o ∷ xs) r a = (
  a.0,
  record { own_start = a.1.own_start; sums = fits-reordered r o a.1.sums },
  accepted-behind xs (reordered-append (o ∷ []) r) a.2,
)

-- occurrences that are accepted are accepted in any order: two neighbours may change places, since the sums with both are the
-- same
accepted-reordered : {xs ys : List Occurrence} → Reordered xs ys → (done : List Occurrence) → AreAccepted done xs
    → AreAccepted done ys
accepted-reordered none_left done a = a
accepted-reordered (keeps x r) done (shallow, fits, later) =
    (shallow, fits, accepted-reordered r (done ++ (x ∷ [])) later)
accepted-reordered (turns x y xs) done a =
    let later = a.2 in (
      later.0,
      record { own_start = later.1.own_start; sums = fits_without done x y later.1.sums },
      (
        a.0,
        record { own_start = a.1.own_start; sums = fits_later done x y a.1.sums later.1.sums },
        accepted-behind xs (exchanged_last done x y) later.2,
      ),
    )
accepted-reordered (goes_on r s) done a = accepted-reordered s done (accepted-reordered r done a)

-- ---- frames in another order

abbrev HaveAgain : List FrameScopes → List FrameBytes → Type 0
HaveAgain scopes again = (others : List FrameScopes) × Reordered scopes others × HaveScopes again others

-- reordered frames have the reordered scopes
have-reordered : {frames again : List FrameBytes} → Reordered frames again → (scopes : List FrameScopes)
    → HaveScopes frames scopes → HaveAgain scopes again
have-reordered none_left [] h = ([], none_left, tt)
have-reordered none_left (s ∷ scopes) h = absurd h
have-reordered (keeps f r) [] h = absurd h
have-reordered (keeps f r) (s ∷ scopes) (has, have) = let (others, reordered, have_others) =
    have-reordered r scopes have in (s ∷ others, keeps s reordered, (has, have_others))
have-reordered (turns f g fs) [] h = absurd h
have-reordered (turns f g fs) (s ∷ []) h = absurd h.1
have-reordered (turns f g fs) (s ∷ t ∷ scopes) (first, (second, have)) =
    (t ∷ s ∷ scopes, turns s t scopes, (second, (first, have)))
have-reordered (goes_on a b) scopes h =
    let first = have-reordered a scopes h in
    let second = have-reordered b first.0 first.2 in
    (second.0, goes_on first.1 second.1, second.2)

-- the other frames in another order have the same merge
again_merged : (first : FrameBytes) (others again : List FrameBytes) (f : MergedForest) (scopes : List FrameScopes)
    → Reordered others again → HaveScopes (first ∷ others) scopes → AreAccepted [] (occurrences scopes)
    → IsMerge (occurrences scopes) (length (first ∷ others)) f → EndsFit f → AreMerged (first ∷ again) f
again_merged first others again f [] r have accepted merge ends = absurd have
again_merged first others again f (s ∷ scopes) r have accepted merge ends =
    let rest = have-reordered r scopes have.1 in
    let same : Reordered (occurrences (s ∷ scopes)) (occurrences (s ∷ rest.0)) =
    append-reordered (occurrences_of s.start s) (flat_map-reordered (occurrences_of s.start) rest.1) in
    record {
      scopes = s ∷ rest.0;
      have = (have.0, rest.2);
      accepted = accepted-reordered same [] accepted;
      merge = subst (λ (n : ℕ). IsMerge (occurrences (s ∷ rest.0)) n f) (ap suc (length-reordered r))
          (merge-reordered (occurrences (s ∷ scopes)) (occurrences (s ∷ rest.0)) (to_permutation same)
          (length (first ∷ others)) f merge);
      ends = ends;
    }

-- the code's frames, the first still the first
pub merged-any_order : (info : ThreadKey) (first : Arc UnpackedFrameData Global)
    (others again : List (Arc UnpackedFrameData Global)) → IsPermutation others again → (f : MergedForest)
    → AreMerged (frames_bytes info (first ∷ others)) f → AreMerged (frames_bytes info (first ∷ again)) f
merged-any_order info first others again p f m =
    let r = from_permutation (frames_bytes info others) (frames_bytes info again)
    (IsPermutation-map (λ held. frame_bytes info (arc_value held)) others again p) in
    again_merged (frame_bytes info (arc_value first)) (frames_bytes info others) (frames_bytes info again) f m.scopes
    r m.have m.accepted m.merge m.ends

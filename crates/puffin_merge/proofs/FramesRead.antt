-- What is read of the frames so far, and of one more.
use Rattle.std.proofs.Common.{◌≡◌, ℕ, zero, suc, ◌+◌, ◌<◌, ◌≤◌, ◌^◌, ℤ, ◌-ℤ◌, List, [], ◌∷◌, ◌++◌, length, take, drop, get_or, map, ◌⊎◌, inl, inr, refl, sym, ap, subst, ◌∙◌, arith, append_assoc}
use Rattle.std.proofs.lemmas.List.{length-append, take-append-drop, take-take}
use Rattle.std.proofs.lemmas.List.Sums.{sum_by-append}
use Rattle.puffin_data.specs.declared.error.Error.{Error}
use Rattle.puffin_data.specs.declared.error.Error.TheVariants.{Memory, TooLarge}
use Rattle.puffin_data.specs.Forest.{Forest}
use Rattle.puffin_data.specs.Forest.Spelling.{Spells}
use Rattle.puffin_data.specs.Walk.PlacedScopes.{ScopeInContext, nested_in, scopes_of, before}
use Rattle.puffin_data.specs.Walk.Visitor.{TakesAll, StopsEarly}
use Rattle.puffin_merge.specs.declared.merge.table.Table.{Table}
use Rattle.puffin_merge.specs.declared.merge.stream.Merging.{Merging}
use Rattle.puffin_merge.specs.Merge.Occurrences.{Occurrence, FrameScopes, occurrence_of, occurrences_in, occurrences_of, occurrences_from, first_start, occurrences}
use Rattle.puffin_merge.specs.Merge.Tree.{MergedForest, no_node}
use Rattle.puffin_merge.specs.Merge.{IsMerge}
use Rattle.puffin_merge.specs.Merge.FrameBytes.{FrameBytes, form_of, bytes_of, start_of, HasScopes, HaveScopes, most_tries_of, most_tries}
use Rattle.puffin_merge.specs.Merge.Refusals.{IsRefusedFor, AreAccepted, faulty, refused, IsRefusalAfter, in_frame, at_end, EndsFit, AreMerged}
use Rattle.puffin_merge.specs.inner.Tables.{IsTableOf}
use Rattle.puffin_merge.specs.inner.Merging.{TakesScopes, RefusesScope, accepted-append, append-nil}
use Rattle.puffin_merge.proofs.Starting.{earliest-is_least}

-- the first frames have scopes that are accepted and stand in the table, each with one try
pub record HasRead (frames : List FrameBytes) (i : ℕ) (t : Table) (tried : ℕ) : Type 0 where
  pub scopes : List FrameScopes
  pub have : HaveScopes (take i frames) scopes
  pub accepted : AreAccepted [] (occurrences_from (start_of frames) scopes)
  pub table : IsTableOf (occurrences_from (start_of frames) scopes) t
  pub tries : tried ≡ length (occurrences_from (start_of frames) scopes)

have_push : (frames : List FrameBytes) (scopes : List FrameScopes) (f : FrameBytes) (s : FrameScopes)
    → HaveScopes frames scopes → HasScopes f s → HaveScopes (frames ++ (f ∷ [])) (scopes ++ (s ∷ []))
have_push [] [] f s h x = (x, tt)
have_push [] (t ∷ scopes) f s h x = absurd h
have_push (g ∷ frames) [] f s h x = absurd h
have_push (g ∷ frames) (t ∷ scopes) f s (has, have) x = (has, have_push frames scopes f s have x)

from_push : (first : ℤ) (scopes : List FrameScopes) (s : FrameScopes)
    → occurrences_from first (scopes ++ (s ∷ [])) ≡ occurrences_from first scopes ++ occurrences_of first s
from_push first [] s = append-nil (occurrences_of first s)
from_push first (t ∷ scopes) s =
    ap (λ (xs : List Occurrence). occurrences_of first t ++ xs) (from_push first scopes s)
    ∙ sym (append_assoc (occurrences_of first t) (occurrences_from first scopes) (occurrences_of first s))

length_mapped : {A B : Type 0} (f : A → B) (xs : List A) → length (map f xs) ≡ length xs
length_mapped f [] = refl
length_mapped f (x ∷ xs) = let e = length_mapped f xs in omega arith

-- one frame more, whose scopes the table has taken
more_scopes : (frames : List FrameBytes) (i : ℕ) (f : FrameBytes) (forest : Forest) (t u : Table) (tried made : ℕ)
    → take (i + 1) frames ≡ take i frames ++ (f ∷ []) → (r : HasRead frames i t tried)
    → Spells (form_of f) (bytes_of f) forest → length (bytes_of f) < 2 ^ 63
    → AreAccepted (occurrences_from (start_of frames) r.scopes)
    (occurrences_of (start_of frames) (record { start = f.start; forest = forest }))
    → IsTableOf (occurrences_from (start_of frames) r.scopes
    ++ occurrences_of (start_of frames) (record { start = f.start; forest = forest })) u
    → made ≡ length (nested_in [] forest) → HasRead frames (i + 1) u (tried + made)
more_scopes frames i f forest t u tried made split r spells short accepted table tries =
    let s : FrameScopes = record { start = f.start; forest = forest } in
    let first = start_of frames in
    let more = from_push first r.scopes s in
    let before_tries = r.tries in
    record {
      scopes = r.scopes ++ (s ∷ []);
      have = subst (λ (xs : List FrameBytes). HaveScopes xs (r.scopes ++ (s ∷ []))) (sym split)
          (have_push (take i frames) r.scopes f s r.have (record { start = refl; spells = spells; short = short }));
      accepted = subst (λ (xs : List Occurrence). AreAccepted [] xs) (sym more)
          (accepted-append [] (occurrences_from first r.scopes) (occurrences_of first s) r.accepted accepted);
      table = subst (λ (xs : List Occurrence). IsTableOf xs u) (sym more) table;
      tries = omega (
        arith,
        before_tries,
        tries,
        ap length more,
        length-append (occurrences_from first r.scopes)
            (occurrences_of first s),
        length_mapped (occurrence_of (f.start -ℤ first)) (nested_in [] forest),
      );
    }

-- one frame more was read, and all of its scopes were taken
pub read_more : (frames : List FrameBytes) (i : ℕ) (f : FrameBytes) (v w : Merging) (tried made : ℕ)
    → take (i + 1) frames ≡ take i frames ++ (f ∷ []) → v.origin ≡ f.start -ℤ start_of frames
    → HasRead frames i v.table tried → TakesAll (form_of f) TakesScopes v w (bytes_of f) made
    → length (bytes_of f) < 2 ^ 63
    → HasRead frames (i + 1) w.table (tried + made)
read_more frames i f v w tried made split origin r all short =
    let done = occurrences_from (start_of frames) r.scopes in
    let scopes = nested_in [] all.forest in
    more_scopes frames i f all.forest v.table w.table tried made split r all.spells short
    (subst (λ (o : ℤ). AreAccepted done (occurrences_in o scopes)) origin (all.taken.accepted done r.table))
    (subst (λ (o : ℤ). IsTableOf (done ++ occurrences_in o scopes) w.table) origin (all.taken.table done r.table))
    all.tries

both_counted : {a b c d : ℕ} → a ≡ c → b ≡ d → a + b ≡ c + d
both_counted p q i = p i + q i

-- a frame that is refused
pub read_refused : (frames : List FrameBytes) (i : ℕ) (f : FrameBytes) (v w : Merging) (tried made : ℕ) (e : Error)
    → frames ≡ take i frames ++ (f ∷ drop (i + 1) frames) → v.origin ≡ f.start -ℤ start_of frames
    → HasRead frames i v.table tried
    → StopsEarly (form_of f) TakesScopes RefusesScope v w (bytes_of f) made e → IsRefusalAfter frames (tried + made) e
read_refused frames i f v w tried made e split origin r (inl s) =
    let done = occurrences_from (start_of frames) r.scopes in
    subst (λ (n : ℕ). IsRefusalAfter frames n e) (sym (both_counted r.tries s.tries))
    (in_frame (take i frames) (drop (i + 1) frames) f r.scopes split r.have r.accepted
    (faulty s.first s.sees (subst (λ (o : ℤ). AreAccepted done
    (occurrences_in o (scopes_of (before s.place s.placed)))) origin (s.taken.accepted done r.table))))
read_refused frames i f v w tried made e split origin r (inr s) =
    let done = occurrences_from (start_of frames) r.scopes in
    let later = s.taken in
    let same : s.to.origin ≡ f.start -ℤ start_of frames = later.origin ∙ origin in
    subst (λ (n : ℕ). IsRefusalAfter frames n e) (sym (both_counted r.tries s.tries))
    (in_frame (take i frames) (drop (i + 1) frames) f r.scopes split r.have r.accepted
    (refused s.earlier s.later s.met s.sees
    (subst (λ (o : ℤ). AreAccepted done (occurrences_in o (scopes_of s.earlier))) origin (later.accepted done r.table))
    (refused_from s.to.origin v.origin (f.start -ℤ start_of frames) done (scopes_of s.earlier) s.met.scope e same
    origin (s.refused (done ++ occurrences_in v.origin (scopes_of s.earlier)) (later.table done r.table)))
    s.first))
  where
    refused_from : (a b o : ℤ) (done : List Occurrence) (scopes : List ScopeInContext) (n : ScopeInContext)
        (e : Error) → a ≡ o → b ≡ o → IsRefusedFor (done ++ occurrences_in b scopes) (occurrence_of a n) e
        → IsRefusedFor (done ++ occurrences_in o scopes) (occurrence_of o n) e
    refused_from a b o done scopes n e ea eb h =
        subst (λ (x : ℤ). IsRefusedFor (done ++ occurrences_in o scopes) (occurrence_of x n) e) ea
        (subst (λ (x : ℤ). IsRefusedFor (done ++ occurrences_in x scopes) (occurrence_of a n) e) eb h)

-- ---- all frames

-- all elements of a list
pub take_all : {A : Type 0} (xs : List A) → take (length xs) xs ≡ xs
take_all [] = refl
take_all (x ∷ xs) = ap (λ (ys : List _). x ∷ ys) (take_all xs)

-- the first frame's start is that of its scopes
pub starts_same : (frames : List FrameBytes) (scopes : List FrameScopes) → HaveScopes frames scopes
    → start_of frames ≡ first_start scopes
starts_same [] [] h = refl
starts_same [] (s ∷ scopes) h = absurd h
starts_same (f ∷ frames) [] h = absurd h
starts_same (f ∷ frames) (s ∷ scopes) (has, have) = sym has.start

have_all : (frames : List FrameBytes) (scopes : List FrameScopes) (i : ℕ) → i ≡ length frames
    → HaveScopes (take i frames) scopes → HaveScopes frames scopes
have_all frames scopes i e h =
    subst (λ (xs : List FrameBytes). HaveScopes xs scopes) (ap (λ (n : ℕ). take n frames) e ∙ take_all frames) h

abbrev Whole : List FrameBytes → MergedForest → ℕ → Type 0
Whole frames f tried = (m : AreMerged frames f) × (tried ≡ length (occurrences m.scopes))

-- once all frames are read, their merge is that of the table
pub read_whole : (frames : List FrameBytes) (i : ℕ) (t : Table) (tried : ℕ) (f : MergedForest) → i ≡ length frames
    → HasRead frames i t tried
    → ((all : List Occurrence) → IsTableOf all t → IsMerge all (length frames) f × EndsFit f) → Whole frames f tried
read_whole frames i t tried f e r merge =
    let have = have_all frames r.scopes i e r.have in
    let same : occurrences_from (start_of frames) r.scopes ≡ occurrences r.scopes =
    ap (λ (s : ℤ). occurrences_from s r.scopes) (starts_same frames r.scopes have) in
    let m = merge (occurrences r.scopes) (subst (λ (xs : List Occurrence). IsTableOf xs t) same r.table) in (
      record {
        scopes = r.scopes;
        have = have;
        accepted = subst (λ (xs : List Occurrence). AreAccepted [] xs) same r.accepted;
        merge = m.0;
        ends = m.1;
      },
      r.tries ∙ ap length same,
    )

-- once all frames are read, an end that doesn't fit refuses the merge
pub ends_refused : (frames : List FrameBytes) (i : ℕ) (t : Table) (tried : ℕ) (e : Error) → i ≡ length frames
    → HasRead frames i t tried
    → (e ≡ Memory) ⊎ ((e ≡ TooLarge) × ((all : List Occurrence) → IsTableOf all t → (f : MergedForest)
    × IsMerge all (length frames) f × (EndsFit f → ⊥))) → (e ≡ Memory) ⊎ IsRefusalAfter frames tried e
ends_refused frames i t tried e at r (inl memory) = inl memory
ends_refused frames i t tried e at r (inr ends) =
    let have = have_all frames r.scopes i at r.have in
    let same : occurrences_from (start_of frames) r.scopes ≡ occurrences r.scopes =
    ap (λ (s : ℤ). occurrences_from s r.scopes) (starts_same frames r.scopes have) in
    let m = ends.1 (occurrences r.scopes) (subst (λ (xs : List Occurrence). IsTableOf xs t) same r.table) in
    inr (subst (IsRefusalAfter frames tried)
    (sym ends.0) (subst (λ (n : ℕ). IsRefusalAfter frames n TooLarge) (sym (r.tries ∙ ap length same))
    (at_end r.scopes m.0 have (subst (λ (xs : List Occurrence). AreAccepted [] xs) same r.accepted) m.1 m.2)))

-- without frames there is nothing to merge
no_scopes : (frames : List FrameBytes) (scopes : List FrameScopes) → length frames ≡ 0 → HaveScopes frames scopes
    → scopes ≡ []
no_scopes [] [] e h = refl
no_scopes [] (s ∷ scopes) e h = absurd h
no_scopes (f ∷ frames) scopes e h = absurd (omega arith)

none_merged : IsMerge [] 0 no_node
none_merged = record {
  top = record {
    sums = λ k d lt. absurd (omega arith);
    whole = λ k d lt. absurd (omega arith);
    order = tt;
    starts = earliest-is_least [];
  };
  deeper = tt;
}

-- no frames are merged into no scopes
pub read_no_frames : (frames : List FrameBytes) (i : ℕ) (t : Table) (tried : ℕ) → length frames ≡ 0
    → i ≡ length frames → HasRead frames i t tried → Whole frames no_node tried
read_no_frames frames i t tried none e r =
    let have = have_all frames r.scopes i e r.have in
    let nothing = no_scopes frames r.scopes none have in
    let empty_all : occurrences r.scopes ≡ [] = ap occurrences nothing in
    let same : occurrences_from (start_of frames) r.scopes ≡ occurrences r.scopes =
    ap (λ (s : ℤ). occurrences_from s r.scopes) (starts_same frames r.scopes have) in (
      record {
        scopes = r.scopes;
        have = have;
        accepted = subst (λ (xs : List Occurrence). AreAccepted [] xs) (sym empty_all) tt;
        merge = subst (λ (n : ℕ). IsMerge (occurrences r.scopes) n no_node) (sym none)
            (subst (λ (xs : List Occurrence). IsMerge xs 0 no_node) (sym empty_all) none_merged);
        ends = tt;
      },
      r.tries ∙ ap length same,
    )

-- ---- how often scopes were tried to be read

-- the tries stay within the bounds with one frame more
pub tries_more : (frames : List FrameBytes) (i : ℕ) (f : FrameBytes) (tried made : ℕ)
    → take (i + 1) frames ≡ take i frames ++ (f ∷ []) → tried ≤ most_tries (take i frames) → made ≤ most_tries_of f
    → tried + made ≤ most_tries (take (i + 1) frames)
tries_more frames i f tried made split h k =
    subst (λ (xs : List FrameBytes). tried + made ≤ most_tries xs) (sym split)
    (omega (arith, sum_by-append most_tries_of (take i frames) (f ∷ [])))

-- ---- the frames as the code has them

take_next : {A B : Type 0} (f : A → B) (xs : List A) (i : ℕ) (x : A) → i < length xs → x ≡ get_or xs i x
    → take (suc i) (map f xs) ≡ take i (map f xs) ++ (f x ∷ [])
take_next f [] i x lt e = absurd (omega arith)
take_next f (y ∷ xs) zero x lt e = ap (λ z. f z ∷ []) (sym e)
take_next f (y ∷ xs) (suc i) x lt e = ap (λ zs. f y ∷ zs) (take_next f xs i x (omega arith) e)

-- one mapped element more
pub take_push : {A B : Type 0} (f : A → B) (xs : List A) (i : ℕ) (x : A) → i < length xs → x ≡ get_or xs i x
    → take (i + 1) (map f xs) ≡ take i (map f xs) ++ (f x ∷ [])
take_push f xs i x lt e =
    let one : i + 1 ≡ suc i = omega arith in ap (λ (n : ℕ). take n (map f xs)) one ∙ take_next f xs i x lt e

split_next : {A B : Type 0} (f : A → B) (xs : List A) (i : ℕ) (x : A) → i < length xs → x ≡ get_or xs i x
    → map f xs ≡ take i (map f xs) ++ (f x ∷ drop (suc i) (map f xs))
split_next f [] i x lt e = absurd (omega arith)
split_next f (y ∷ xs) zero x lt e = ap (λ z. f z ∷ map f xs) (sym e)
split_next f (y ∷ xs) (suc i) x lt e = ap (λ zs. f y ∷ zs) (split_next f xs i x (omega arith) e)

-- a mapped list around one of its elements
pub split_at : {A B : Type 0} (f : A → B) (xs : List A) (i : ℕ) (x : A) → i < length xs → x ≡ get_or xs i x
    → map f xs ≡ take i (map f xs) ++ (f x ∷ drop (i + 1) (map f xs))
split_at f xs i x lt e = let one : suc i ≡ i + 1 = omega arith in
    split_next f xs i x lt e ∙ ap (λ (n : ℕ). take i (map f xs) ++ (f x ∷ drop n (map f xs))) one

-- mapping keeps the length
pub size_mapped : {A B : Type 0} (f : A → B) (xs : List A) → length (map f xs) ≡ length xs
size_mapped f xs = length_mapped f xs

-- tries over some of the frames are no more than those over all
pub tries_of_all : (frames : List FrameBytes) (i : ℕ) (n : ℕ) → n ≤ most_tries (take i frames) → n ≤ most_tries frames
tries_of_all frames i n h =
    subst (λ (xs : List FrameBytes). n ≤ most_tries xs) (take-append-drop i frames)
    (omega (arith, h, sum_by-append most_tries_of (take i frames) (drop i frames)))

-- a bound for some frames is one for one frame more
pub one_more_tries : (frames : List FrameBytes) (i n : ℕ) → n ≤ most_tries (take i frames)
    → n ≤ most_tries (take (i + 1) frames)
one_more_tries frames i n h = tries_of_all (take (i + 1) frames) i n
    (subst (λ (xs : List FrameBytes). n ≤ most_tries xs) (sym (take-take i (i + 1) frames (omega arith))) h)

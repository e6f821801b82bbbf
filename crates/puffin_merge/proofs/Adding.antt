-- What a merger has of the frames that were added.
use Rattle.std.proofs.Common.{◌≡◌, ℕ, suc, ◌+◌, ◌<◌, ◌^◌, ℤ, ◌-ℤ◌, List, [], ◌∷◌, ◌++◌, length, take, drop, ◌⊎◌, inl, inr, refl, sym, ap, subst, ◌∙◌, arith, Result, Ok, Err, Vec}
use Rattle.std.specs.Prelude.{IfOk}
use Rattle.std.proofs.lemmas.List.{length-append}
use Rattle.std.specs.declared.alloc.Global.{Global}
use Rattle.puffin_data.specs.declared.error.Error.{Error}
use Rattle.puffin_data.specs.declared.error.Error.TheVariants.{Memory, TooLarge}
use Rattle.puffin_data.specs.Walk.Visitor.{TakesAll, StopsEarly}
use Rattle.puffin_merge.specs.declared.merge.table.Table.{Table}
use Rattle.puffin_merge.specs.declared.merge.stream.Merging.{Merging}
use Rattle.puffin_merge.specs.declared.merge.merger.Merger.{Merger}
use Rattle.puffin_merge.specs.declared.merge.scope.MergeScope.{MergeScope}
use Rattle.puffin_merge.specs.Merge.Occurrences.{Occurrence, FrameScopes, occurrences_from, occurrences}
use Rattle.puffin_merge.specs.Merge.Tree.{MergedForest, no_node}
use Rattle.puffin_merge.specs.Merge.{IsMerge}
use Rattle.puffin_merge.specs.Merge.FrameBytes.{FrameBytes, form_of, bytes_of, start_of, HaveScopes}
use Rattle.puffin_merge.specs.Merge.Refusals.{IsRefusalAfter, AreAccepted, EndsFit, AreMerged}
use Rattle.puffin_merge.specs.Merge.Scopes.{forest_in}
use Rattle.puffin_merge.specs.Merge.Merger.{HasAdded, tries_for}
use Rattle.puffin_merge.specs.inner.Tables.{IsTableOf}
use Rattle.puffin_merge.specs.inner.Merging.{TakesScopes, RefusesScope, append-nil}
use Rattle.puffin_merge.proofs.FramesRead.{HasRead, read_more, read_refused, read_whole, read_no_frames, ends_refused, starts_same, take_all}

take_front : (xs ys : List FrameBytes) → take (length xs) (xs ++ ys) ≡ xs
take_front [] ys = refl
take_front (x ∷ xs) ys = ap (λ (zs : List FrameBytes). x ∷ zs) (take_front xs ys)

take_one : (xs : List FrameBytes) (y : FrameBytes) (ys : List FrameBytes)
    → take (suc (length xs)) (xs ++ (y ∷ ys)) ≡ xs ++ (y ∷ [])
take_one [] y ys = refl
take_one (x ∷ xs) y ys = ap (λ (zs : List FrameBytes). x ∷ zs) (take_one xs y ys)

drop_one : (xs : List FrameBytes) (y : FrameBytes) (ys : List FrameBytes) → drop (suc (length xs)) (xs ++ (y ∷ ys)) ≡ ys
drop_one [] y ys = refl
drop_one (x ∷ xs) y ys = drop_one xs y ys

-- starts are counted from the first frame, whatever follows
pub from_first : (added more : List FrameBytes) (scopes : List FrameScopes) → HaveScopes added scopes
    → occurrences_from (start_of (added ++ more)) scopes ≡ occurrences scopes
from_first [] more [] h = refl
from_first [] more (s ∷ scopes) h = absurd h
from_first (a ∷ added) more [] h = absurd h
from_first (a ∷ added) more (s ∷ scopes) h = ap (λ (o : ℤ). occurrences_from o (s ∷ scopes)) (sym h.0.start)

-- what was added was read, of these and those that follow
pub read_of : (added more : List FrameBytes) (m : Merger) (h : HasAdded added m)
    → HasRead (added ++ more) (length added) m.merging.table (tries_for h)
read_of added more m h =
    let same = from_first added more h.scopes h.have in
    record {
      scopes = h.scopes;
      have = subst (λ (xs : List FrameBytes). HaveScopes xs h.scopes) (sym (take_front added more)) h.have;
      accepted = subst (λ (xs : List Occurrence). AreAccepted [] xs) (sym same) h.accepted;
      table = subst (λ (xs : List Occurrence). IsTableOf xs m.merging.table) (sym same) h.table;
      tries = ap length (sym same);
    }

-- the frames that were added are read
pub read_these : (added : List FrameBytes) (m : Merger) (h : HasAdded added m)
    → HasRead added (length added) m.merging.table (tries_for h)
read_these added m h = subst (λ (xs : List FrameBytes). HasRead xs (length added) m.merging.table (tries_for h))
    (append-nil added) (read_of added [] m h)

-- and the other way round, all of them
abbrev Added : List FrameBytes → Merger → ℕ → Type 0
Added frames m tried = (h : HasAdded frames m) × (tries_for h ≡ tried)

-- frames that were read are those that were added
added_of : (frames : List FrameBytes) (i : ℕ) (m : Merger) (tried : ℕ) → i ≡ length frames
    → HasRead frames i m.merging.table tried → m.frames ≡ length frames → m.first ≡ start_of frames
    → Added frames m tried
added_of frames i m tried e r number first =
    let have : HaveScopes frames r.scopes = subst (λ (xs : List FrameBytes). HaveScopes xs r.scopes)
    (ap (λ (n : ℕ). take n frames) e ∙ take_all frames) r.have in
    let same : occurrences_from (start_of frames) r.scopes ≡ occurrences r.scopes =
    ap (λ (s : ℤ). occurrences_from s r.scopes) (starts_same frames r.scopes have) in (
      record {
        scopes = r.scopes;
        have = have;
        accepted = subst (λ (xs : List Occurrence). AreAccepted [] xs) same r.accepted;
        table = subst (λ (xs : List Occurrence). IsTableOf xs m.merging.table) same r.table;
        number = number;
        first = λ some. first;
      },
      sym (r.tries ∙ ap length same),
    )

-- where the first frame's range starts, with one more
pub first_of_more : (added : List FrameBytes) (f : FrameBytes) (later : List FrameBytes) (m : Merger) (first : ℤ)
    → HasAdded added m → (m.frames ≡ 0 → first ≡ f.start) → (0 < m.frames → first ≡ m.first)
    → first ≡ start_of (added ++ (f ∷ later))
first_of_more [] f later m first h none some = none h.number
first_of_more (a ∷ added) f later m first h none some =
    let number = h.number in some (omega (arith, number)) ∙ h.first (omega arith)

-- one frame more
pub one_added : (added : List FrameBytes) (f : FrameBytes) (m n : Merger) (v : Merging) (made : ℕ)
    (h : HasAdded added m) → v.table ≡ m.merging.table → v.origin ≡ f.start -ℤ start_of (added ++ (f ∷ []))
    → TakesAll (form_of f) TakesScopes v n.merging (bytes_of f) made
    → length (bytes_of f) < 2 ^ 63 → n.frames ≡ m.frames + 1 → n.first ≡ start_of (added ++ (f ∷ []))
    → Added (added ++ (f ∷ [])) n (tries_for h + made)
one_added added f m n v made h table origin all short frames first =
    let size : length (added ++ (f ∷ [])) ≡ length added + 1 = length-append added (f ∷ []) in
    let next : length added + 1 ≡ suc (length added) = omega arith in
    let number = h.number in
    let split : take (length added + 1) (added ++ (f ∷ [])) ≡ take (length added) (added ++ (f ∷ [])) ++ (f ∷ []) =
    ap (λ (k : ℕ). take k (added ++ (f ∷ []))) next ∙ take_one added f []
    ∙ ap (λ (xs : List FrameBytes). xs ++ (f ∷ [])) (sym (take_front added (f ∷ []))) in
    added_of (added ++ (f ∷ [])) (length added + 1) n (tries_for h + made) (sym size)
    (read_more (added ++ (f ∷ [])) (length added) f v n.merging (tries_for h) made
    split origin (subst (λ (t : Table). HasRead (added ++ (f ∷ [])) (length added) t (tries_for h)) (sym table)
    (read_of added (f ∷ []) m h)) all short)
    (frames ∙ ap (λ (k : ℕ). k + 1) number ∙ sym size) first

-- a frame that is refused
pub one_refused : (added : List FrameBytes) (f : FrameBytes) (later : List FrameBytes) (m : Merger)
    (v w : Merging) (made : ℕ) (e : Error) (h : HasAdded added m) → v.table ≡ m.merging.table
    → v.origin ≡ f.start -ℤ start_of (added ++ (f ∷ later))
    → (e ≡ Memory) ⊎ StopsEarly (form_of f) TakesScopes RefusesScope v w (bytes_of f) made e
    → (e ≡ Memory) ⊎ IsRefusalAfter (added ++ (f ∷ later)) (tries_for h + made) e
one_refused added f later m v w made e h table origin (inl memory) = inl memory
one_refused added f later m v w made e h table origin (inr stops) =
    let next : length added + 1 ≡ suc (length added) = omega arith in
    let split : added ++ (f ∷ later)
    ≡ take (length added) (added ++ (f ∷ later)) ++ (f ∷ drop (length added + 1) (added ++ (f ∷ later))) =
    sym (ap (λ (xs : List FrameBytes). take (length added) (added ++ (f ∷ later)) ++ (f ∷ xs))
    (ap (λ (k : ℕ). drop k (added ++ (f ∷ later))) next ∙ drop_one added f later)
    ∙ ap (λ (xs : List FrameBytes). xs ++ (f ∷ later)) (take_front added (f ∷ later))) in
    inr (read_refused (added ++ (f ∷ later)) (length added) f v w (tries_for h) made e
    split origin (subst (λ (t : Table). HasRead (added ++ (f ∷ later)) (length added) t (tries_for h)) (sym table)
    (read_of added (f ∷ later) m h)) stops)

-- ---- the end

abbrev Merged : List FrameBytes → MergedForest → ℕ → Type 0
Merged added f tried = (m : AreMerged added f) × (tried ≡ length (occurrences m.scopes))

-- without frames the merge has no scopes
pub none_added : (added : List FrameBytes) (m : Merger) (h : HasAdded added m) → m.frames ≡ 0
    → Merged added no_node (tries_for h)
none_added added m h none = read_no_frames added (length added) m.merging.table (tries_for h) (sym h.number ∙ none)
    refl (read_these added m h)

-- the table's tree is the merge of the added frames
pub all_merged : (added : List FrameBytes) (m : Merger) (h : HasAdded added m)
    (r : Result (Vec MergeScope Global) Error)
    → IfOk r (λ merged. (all : List Occurrence) → IsTableOf all m.merging.table
    → IsMerge all m.frames (forest_in merged.items) × EndsFit (forest_in merged.items))
    → IfOk r (λ merged. Merged added (forest_in merged.items) (tries_for h))
all_merged added m h (Err e) k = tt
all_merged added m h (Ok merged) k =
    read_whole added (length added) m.merging.table (tries_for h) (forest_in merged.items) refl (read_these added m h)
    (λ all table. let x = k all table in (subst (λ (n : ℕ). IsMerge all n (forest_in merged.items)) h.number x.0, x.1))

-- an end of the table's tree that doesn't fit refuses the merge of the added frames
pub all_refused : (added : List FrameBytes) (m : Merger) (h : HasAdded added m) (e : Error)
    → (e ≡ Memory) ⊎ ((e ≡ TooLarge) × ((all : List Occurrence) → IsTableOf all m.merging.table → (f : MergedForest)
    × IsMerge all m.frames f × (EndsFit f → ⊥))) → (e ≡ Memory) ⊎ IsRefusalAfter added (tries_for h) e
all_refused added m h e (inl memory) = inl memory
all_refused added m h e (inr ends) =
    ends_refused added (length added) m.merging.table (tries_for h) e refl (read_these added m h)
    (inr (
      ends.0,
      λ all table. let x = ends.1 all table in
          (x.0, subst (λ (n : ℕ). IsMerge all n x.0) h.number x.1, x.2),
    ))

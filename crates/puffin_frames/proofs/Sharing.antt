-- Moving the streams of a map into shared ones, in the order of their keys.
use Rattle.std.proofs.Common.{◌≡◌, List, [], ◌∷◌, ◌++◌, refl, sym, ap, ◌∙◌, subst}
use Rattle.std.specs.declared.cmp.Ordering.{Ordering}
use Rattle.std.specs.declared.cmp.Ordering.TheVariants.{Less, Greater}
use Rattle.std.specs.Ordering.{match_ordering, ordering_reverse}
use Rattle.std.specs.Cmp.{IsTotalOrder}
use Rattle.std.specs.Map.{keys_of}
use Rattle.std.specs.List.{AllByRecursion}
use Rattle.std.specs.List.Sorted.{IsStrictlySortedBy}
use Rattle.std.specs.BTreeMap.{insert_entry}
use Rattle.std.specs.Arc.{arc_value}
use Rattle.std.specs.declared.sync.Arc.{Arc}
use Rattle.std.proofs.lemmas.Map.Keys.{sorted_head, sorted_tail}
use Rattle.puffin_data.specs.declared.data.info.StreamInfo.{StreamInfo}
use Rattle.puffin_threads.specs.declared.thread_profiler.thread_info.ThreadInfo.{ThreadInfo}
use Rattle.puffin_frames.specs.Frame.Contents.{without_sharing}
use Rattle.puffin_threads.specs.Thread.ThreadKey.{ThreadKey, key_of, thread_cmp}
use Rattle.puffin_data.specs.Honesty.{StreamFacts, facts_of}
use Rattle.puffin_frames.specs.Packet.Structs.{IsThreadKey, AreCounts}
use Rattle.puffin_frames.specs.inner.Pairs.{pairs_of}
use Rattle.puffin_frames.proofs.Appending.{all_one}
use Rattle.puffin_frames.proofs.FormsOfAll.{Fits}
use Rattle.puffin_frames.proofs.Listed.{listed-push}
use Rattle.puffin_threads.proofs.lemmas.ThreadKeys.{thread_cmp_total}

-- what holds of all holds of one among them
at_middle : {K : Type 0} (P : K → Type 0) (xs : List K) (k : K) (rest : List K) → AllByRecursion P (xs ++ k ∷ rest) → P k
at_middle P [] k rest all = all.0
at_middle P (x ∷ xs) k rest all = at_middle P xs k rest all.1

-- an entry whose key is above all others goes to the end
insert_last : {K X : Type 0} {cmp : K → K → Ordering} (total : IsTotalOrder cmp) (es : List (K × X)) (key : K) (value : X)
    (rest : List K) →
    IsStrictlySortedBy cmp (keys_of es ++ key ∷ rest) →
    insert_entry cmp es key value ≡ es ++ (key, value) ∷ []
insert_last total [] key value rest sorted = refl
insert_last {cmp = cmp} total (entry ∷ es) key value rest sorted =
    let below : cmp entry.0 key ≡ Less =
    at_middle (λ y. cmp entry.0 y ≡ Less) (keys_of es) key rest (sorted_head cmp entry.0 _ sorted) in
    let above : cmp key entry.0 ≡ Greater = total.antisymm key entry.0 ∙ ap ordering_reverse below in
    ap (λ order. match_ordering order ((key, value) ∷ entry ∷ es) ((entry.0, value) ∷ es)
    (entry ∷ insert_entry cmp es key value)) above
    ∙ ap (λ l. entry ∷ l) (insert_last total es key value rest (sorted_tail cmp entry.0 _ sorted))

-- the keys, and the entries, without the sharing
keys_of-unshared : {A : Type 0} (entries : List (ThreadInfo × Arc StreamInfo A)) (thread : ThreadInfo) (info : StreamInfo)
    (rest : List (ThreadInfo × StreamInfo)) →
    keys_of (without_sharing entries ++ (thread, info) ∷ rest) ≡ keys_of entries ++ thread ∷ keys_of rest
keys_of-unshared [] thread info rest = refl
keys_of-unshared (entry ∷ es) thread info rest = ap (λ l. entry.0 ∷ l) (keys_of-unshared es thread info rest)

unshared-last : {A : Type 0} (entries : List (ThreadInfo × Arc StreamInfo A)) (thread : ThreadInfo) (arc : Arc StreamInfo A)
    (rest : List (ThreadInfo × StreamInfo)) →
    without_sharing (entries ++ (thread, arc) ∷ []) ++ rest ≡ without_sharing entries ++ (thread, arc_value arc) ∷ rest
unshared-last [] thread arc rest = refl
unshared-last (entry ∷ es) thread arc rest = ap (λ l. (entry.0, arc_value entry.1) ∷ l) (unshared-last es thread arc rest)

-- what is shared so far, with what is left, is what there was, in order
pub record SharesInOrder {A : Type 0} (entries : List (ThreadInfo × Arc StreamInfo A))
    (rest all : List (ThreadInfo × StreamInfo)) : Type 0 where
  pub whole : without_sharing entries ++ rest ≡ all
  pub sorted : IsStrictlySortedBy thread_cmp (keys_of all)
  pub fit : AllByRecursion Fits (pairs_of entries)

-- one more stream is shared
pub one_more : {A : Type 0} (entries after : List (ThreadInfo × Arc StreamInfo A)) (thread : ThreadInfo) (info : StreamInfo)
    (arc : Arc StreamInfo A) (left rest all : List (ThreadInfo × StreamInfo)) →
    SharesInOrder entries left all → left ≡ (thread, info) ∷ rest → arc_value arc ≡ info →
    after ≡ insert_entry thread_cmp entries thread arc → IsThreadKey (key_of thread) → AreCounts (facts_of info) →
    SharesInOrder after rest all
one_more entries after thread info arc left rest all so_far next same put key_fits counts =
    let whole : without_sharing entries ++ (thread, info) ∷ rest ≡ all =
    ap (λ l. without_sharing entries ++ l) (sym next) ∙ so_far.whole in
    let sorted =
    subst (λ (ks : List ThreadInfo). IsStrictlySortedBy thread_cmp ks)
    (ap keys_of (sym whole) ∙ keys_of-unshared entries thread info rest) so_far.sorted in
    let last = insert_last thread_cmp_total entries thread arc (keys_of rest) sorted in
    record {
      whole =
          ap (λ l. without_sharing l ++ rest) (put ∙ last)
          ∙ unshared-last entries thread arc rest
          ∙ ap (λ x. without_sharing entries ++ (thread, x) ∷ rest) same
          ∙ whole;
      sorted = so_far.sorted;
      fit =
          subst (λ (xs : List (ThreadKey × StreamFacts)). AllByRecursion Fits xs)
          (sym (ap pairs_of (put ∙ last) ∙ listed-push entries thread arc))
          (all_one Fits (pairs_of entries) (key_of thread, facts_of (arc_value arc)) so_far.fit
          (key_fits, subst (λ (x : StreamInfo). AreCounts (facts_of x)) (sym same) counts));
    }

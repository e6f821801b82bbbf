-- What the steps of adding a frame make of a view.
use Rattle.std.proofs.Common.{◌≡◌, ℕ, zero, suc, ◌-◌, ◌<◌, ◌≤◌, Bool, true, false, cond, List, [], ◌∷◌, ◌++◌, length, take, drop, map, Option, Some, None, refl, sym, ap, subst, ◌∙◌, arith}
use Rattle.std.specs.Prelude.{◌≢◌}
use Rattle.std.specs.List.{AllByRecursion}
use Rattle.std.specs.List.Sorted.{IsStrictlySortedBy}
use Rattle.std.specs.Ordering.{nat_cmp}
use Rattle.std.specs.Option.{option_map_or}
use Rattle.std.specs.FinMap as fin
use Rattle.std.proofs.lemmas.List.{take-append-drop, take_rest}
use Rattle.puffin_view.specs.declared.profile_view.slow_rank.SlowRank.{SlowRank}
use Rattle.puffin_view.specs.View.Ranking.{place, last_of, last_in, rank_index}
use Rattle.puffin_view.specs.View.ViewedFrames.{Frame, index_of, is_slower_frame, packed_alone, packed_under}
use Rattle.puffin_view.specs.inner.Held.{HeldFrames}
use Rattle.puffin_view.specs.inner.Ranks.{is_before, rank_enters, ranks_after, ranks_gone, AreRanked, LetsGo}
use Rattle.puffin_view.specs.View.FrameRanks.{rank_of, rank_cmp}
use Rattle.puffin_view.specs.View.{View, is_past, joined_by, slow_after, with_packed, with_newest_packed}
use Rattle.puffin_view.specs.View.Known.{KnownView, with_frames}
use Rattle.puffin_view.specs.inner.Store.{frames_under, AreHeld, AreStored}
use Rattle.puffin_view.proofs.Orders.{map-take, map-drop, map-length}
use Rattle.puffin_view.proofs.Taking.{steady_before}
use Rattle.puffin_view.proofs.Searching.{stored_rising, stored_ranked}
use Rattle.puffin_view.proofs.Members.{held_back, has_index-append, none_has}
use Rattle.puffin_view.proofs.Cutting.{stored-cut_slow, stored-cut_recent}
use Rattle.puffin_view.proofs.Storing.{stored-added, stored-placed, enters_same, index-rank_of, got_itself, first_false}
use Rattle.puffin_view.proofs.StoringPacked.{stored-packed}

-- a view whose lists of frames were changed
pub known_as : (v w : KnownView) (frames made : View) → v ≡ w → frames ≡ made
    → record v { frames = frames } ≡ with_frames w made
known_as v w frames made same is = λ j. record { frames = is j; scope_collection = (same j).scope_collection }

-- what is let go depends on the indices alone
pub lets_as : (old new : HeldFrames) (a b c d : List ℕ) → a ≡ b → c ≡ d → LetsGo old a c new → LetsGo old b d new
lets_as old new a b c d e p h =
    let P : List ℕ → Type 0 = λ is. LetsGo old is d new in
    let Q : List ℕ → Type 0 = λ is. LetsGo old a is new in
    subst P e (subst Q p h)

ranks_dropped : (max : ℕ) (slow : List SlowRank) (S : List Frame) → slow ≡ map rank_of S
    → map rank_index (drop max slow) ≡ map index_of (drop max S)
ranks_dropped max slow S e = ap (λ rs. map rank_index (drop max rs)) e
    ∙ ap (map rank_index) (sym (map-drop rank_of max S)) ∙ index-rank_of (drop max S)

-- the lists are stored after the slow ones were cut
pub slow_cut : (held new : HeldFrames) (recent : List ℕ) (slow slow' : List SlowRank) (last : Option ℕ) (max : ℕ)
    (R S : List Frame) → AreStored held recent slow last R S → LetsGo held recent (map rank_index (drop max slow)) new
    → slow' ≡ take max slow
    → AreStored new recent slow' last R (take max S)
slow_cut held new recent slow slow' last max R S h go e =
    let P : List Frame → Type 0 = λ fs. AreStored held recent slow last R fs in
    let Q : List SlowRank → Type 0 = λ rs. AreStored new recent rs last R (take max S) in
    subst Q (map-take rank_of max S ∙ ap (take max) (sym h.slow_at) ∙ sym e)
    (stored-cut_slow held new recent slow last R (take max S) (drop max S) (subst P (sym (take-append-drop max S)) h)
    (lets_as held new recent (map index_of R) (map rank_index (drop max slow)) (map index_of (drop max S)) h.recent_at
    (ranks_dropped max slow S h.slow_at) go))

ranks_of_all : (slow : List SlowRank) (S : List Frame) → slow ≡ map rank_of S → map rank_index slow ≡ map index_of S
ranks_of_all slow S e = ap (map rank_index) e ∙ index-rank_of S

-- the lists are stored after the recent ones were cut
pub recent_cut : (held new : HeldFrames) (recent recent' : List ℕ) (slow : List SlowRank) (last : Option ℕ) (max : ℕ)
    (R S : List Frame) → AreStored held recent slow last R S
    → LetsGo held (map rank_index slow) (take (length recent - max) recent) new → recent' ≡ last_of max recent
    → AreStored new recent' slow last (last_of max R) S
recent_cut held new recent recent' slow last max R S h go e =
    let n : ℕ = length R - max in
    let as_many : length recent - max ≡ n =
    ap (λ is. length is - max) h.recent_at ∙ ap (λ m. m - max) (map-length index_of R) in
    let gone : take (length recent - max) recent ≡ map index_of (take n R) =
    ap (λ m. take m recent) as_many ∙ ap (take n) h.recent_at ∙ sym (map-take index_of n R) in
    let left : map index_of (last_of max R) ≡ recent' =
    map-drop index_of n R ∙ ap (drop n) (sym h.recent_at) ∙ ap (λ m. drop m recent) (sym as_many) ∙ sym e in
    let P : List Frame → Type 0 = λ fs. AreStored held recent slow last fs S in
    let Q : List ℕ → Type 0 = λ is. AreStored new is slow last (last_of max R) S in
    subst Q left
    (stored-cut_recent held new recent slow last (take n R) (last_of max R) S (subst P (sym (take-append-drop n R)) h)
    (lets_as held new (map rank_index slow) (map index_of S) (take (length recent - max) recent)
    (map index_of (take n R)) (ranks_of_all slow S h.slow_at) gone go))

-- a frame enters the slow ones, or not
entered : (held new : HeldFrames) (recent : List ℕ) (slow : List SlowRank) (max : ℕ) (f : Frame) (R S : List Frame)
    (b : Bool) → AreStored held recent slow (Some (index_of f)) R S → fin.get held (index_of f) ≡ Some f
    → AllByRecursion (λ g. index_of g < index_of f) S
    → LetsGo held recent (map rank_index (cond b (drop max (place is_before (rank_of f) slow)) [])) new
    → AreStored new recent (cond b (take max (place is_before (rank_of f) slow)) slow) (Some (index_of f)) R
    (cond b (take max (place is_slower_frame f S)) S)
entered held new recent slow max f R S true h there before go =
    slow_cut held new recent (place is_before (rank_of f) slow) (take max (place is_before (rank_of f) slow)) (Some
    (index_of f)) max R (place is_slower_frame f S) (stored-placed held recent slow f R S h there before) go refl
entered held new recent slow max f R S false h there before go =
    let P : List Frame → Type 0 = λ fs. AreStored new recent slow (Some (index_of f)) R fs in
    let all : take (length slow) S ≡ S =
    ap (λ n. take n S) (ap length h.slow_at ∙ map-length rank_of S) ∙ all_taken S in
    subst P all
    (slow_cut held new recent slow slow (Some (index_of f)) (length slow) R S h (lets_as held new recent
    recent [] (map rank_index (drop (length slow) slow)) refl (ap (map rank_index) (sym (none_dropped slow))) go)
    (sym (all_taken slow))) where
      none_dropped : {A : Type 0} (xs : List A) → drop (length xs) xs ≡ []
      none_dropped [] = refl
      none_dropped (x ∷ xs) = none_dropped xs

      all_taken : {A : Type 0} (xs : List A) → take (length xs) xs ≡ xs
      all_taken [] = refl
      all_taken (x ∷ xs) = ap (λ l. x ∷ l) (all_taken xs)

-- the whole way of one frame
module _ (v : View) (f : Frame) (held held1 : HeldFrames) (recent recent1 : List ℕ) (slow : List SlowRank)
    (h : AreStored held recent slow v.last v.recent v.slow) (later : is_past v (index_of f) ≡ false)
    (inserted : held1 ≡ fin.insert held (index_of f) f)
    (pushed : recent1 ≡ recent ++ index_of f ∷ []) where
  slow_before : AllByRecursion (λ g. index_of g < index_of f) v.slow
  slow_before = steady_before v.last (index_of f) v.slow later h.kept.slow_taken

  -- from its index on nothing is held
  pub none_past : (q : ℕ) → index_of f ≤ q → fin.get held q ≡ None
  none_past q low =
      let before : AllByRecursion (λ g. index_of g < index_of f) v.recent =
      steady_before v.last (index_of f) v.recent later h.kept.recent_taken in
      h.only q (has_index-append q v.recent v.slow ∙ first_false (none_has q v.recent (others v.recent before))
      (none_has q v.slow (others v.slow slow_before))) where
        unlike_it : (a b c : ℕ) → a < b → b ≤ c → a ≢ c
        unlike_it a b c d e t = omega arith

        others : (fs : List Frame) → AllByRecursion (λ g. index_of g < index_of f) fs
            → AllByRecursion (λ g. index_of g ≢ q) fs
        others [] b = tt
        others (g ∷ fs) b = (unlike_it (index_of g) (index_of f) q b.0 low, others fs b.1)

  stored_pushed : AreStored held1 recent1 slow (Some (index_of f)) (v.recent ++ f ∷ []) v.slow
  stored_pushed =
      let before : AllByRecursion (λ g. index_of g < index_of f) v.recent =
      steady_before v.last (index_of f) v.recent later h.kept.recent_taken in
      let P : HeldFrames → Type 0 = λ m. AreStored m recent1 slow (Some (index_of f)) (v.recent ++ f ∷ []) v.slow in
      let Q : List ℕ → Type 0 =
      λ is. AreStored (fin.insert held (index_of f) f) is slow (Some (index_of f)) (v.recent ++ f ∷ []) v.slow in
      subst P (sym inserted)
      (subst Q (sym pushed) (stored-added held recent slow v.last f v.recent v.slow h before slow_before))

  pub pushed_rising : IsStrictlySortedBy nat_cmp recent1
  pushed_rising = stored_rising held1 recent1 slow (Some (index_of f)) (v.recent ++ f ∷ []) v.slow stored_pushed

  module _ (held2 : HeldFrames) (slow1 : List SlowRank) (entered_is : slow1 ≡ ranks_after v.max_slow slow (rank_of f))
      (go : LetsGo held1 recent1 (map rank_index (ranks_gone v.max_slow slow (rank_of f))) held2) where
    stored_entered : AreStored held2 recent1 slow1 (Some (index_of f)) (v.recent ++ f ∷ [])
        (slow_after v.max_slow v.slow f)
    stored_entered =
        let there : fin.get held1 (index_of f) ≡ Some f =
        ap (λ m. fin.get m (index_of f)) inserted ∙ got_itself held f in
        let after = entered held1 held2 recent1 slow v.max_slow f (v.recent ++ f ∷ []) v.slow
        (rank_enters v.max_slow slow (rank_of f)) stored_pushed there slow_before go in
        let P : List SlowRank → Type 0 = λ rs. AreStored held2 recent1 rs (Some (index_of f)) (v.recent ++ f ∷ [])
        (slow_after v.max_slow v.slow f) in
        let Q : Bool → Type 0 = λ b. AreStored held2 recent1 (ranks_after v.max_slow slow (rank_of f)) (Some
        (index_of f)) (v.recent ++ f ∷ []) (cond b (take v.max_slow (place is_slower_frame f v.slow)) v.slow) in
        subst P (sym entered_is) (subst Q (enters_same v.max_slow f slow v.slow h.slow_at slow_before) after)

    pub entered_in_order : IsStrictlySortedBy rank_cmp slow1
    entered_in_order = stored_entered.in_order

    pub entered_ranked : AreRanked held2 slow1
    entered_ranked = stored_ranked held2 recent1 slow1 (Some (index_of f)) (v.recent ++ f ∷ [])
        (slow_after v.max_slow v.slow f) stored_entered

    pub stored_joined : (held3 : HeldFrames) (recent2 : List ℕ) → recent2 ≡ last_of v.max_recent recent1
        → LetsGo held2 (map rank_index slow1) (take (length recent1 - v.max_recent) recent1) held3
        → AreStored held3 recent2 slow1 (Some (index_of f)) (joined_by v f).recent (joined_by v f).slow
    stored_joined held3 recent2 cut_is went = recent_cut held2 held3 recent1 recent2 slow1 (Some (index_of f))
        v.max_recent (v.recent ++ f ∷ []) (slow_after v.max_slow v.slow f) stored_entered went cut_is

-- the newest frame packed
pub packed_newest : (held new : HeldFrames) (recent : List ℕ) (slow : List SlowRank) (last : Option ℕ)
    (R S : List Frame) (f g : Frame) → AreStored held recent slow last R S → last_in R ≡ Some f → g ≡ packed_alone f
    → new ≡ fin.insert held (index_of g) g
    → AreStored new recent slow last (map (packed_under (index_of f)) R) (map (packed_under (index_of f)) S)
packed_newest held new recent slow last R S f g h newest e is =
    let P : HeldFrames → Type 0 =
    λ m. AreStored m recent slow last (map (packed_under (index_of f)) R) (map (packed_under (index_of f)) S) in
    subst P (sym (is ∙ ap (λ k. fin.insert held (index_of k) k) e)) (stored-packed held recent slow last R S f h newest)

-- packing the frame with the newest index packs the newest frame
pub newest_is_packed : (v w : View) (f : Frame) → last_in v.recent ≡ Some f → w ≡ v
    → with_packed (index_of f) w ≡ with_newest_packed v
newest_is_packed v w f newest e =
    ap (with_packed (index_of f)) e ∙ ap (λ o. option_map_or (λ g. with_packed (index_of g) v) o v) (sym newest)

-- the last of the indices are those of the last of the frames
pub last_frames : (held : HeldFrames) (recent : List ℕ) (slow : List SlowRank) (last : Option ℕ) (n : ℕ)
    (R S : List Frame) → AreStored held recent slow last R S → frames_under held (last_of n recent) ≡ last_of n R
last_frames held recent slow last n R S h =
    let m : ℕ = length R - n in
    let as_many : length recent - n ≡ m =
    ap (λ is. length is - n) h.recent_at ∙ ap (λ k. k - n) (map-length index_of R) in
    ap (λ k. frames_under held (drop k recent)) as_many
    ∙ ap (λ is. frames_under held (drop m is)) h.recent_at ∙ ap (frames_under held) (sym (map-drop index_of m R))
    ∙ held_back (fin.get held) (drop m R) (held_dropped m R h.recent_held) where
      held_dropped : (k : ℕ) (fs : List Frame) → AreHeld (fin.get held) fs → AreHeld (fin.get held) (drop k fs)
      held_dropped zero fs h = h
      held_dropped (suc k) [] h = tt
      held_dropped (suc k) (f ∷ fs) h = held_dropped k fs h.1

-- a range up to the end has the last elements
pub range_last : {A : Type 0} (xs : List A) (len first n : ℕ) → len ≡ length xs → first ≡ len - n
    → take (len - first) (drop first xs) ≡ last_of n xs
range_last xs len first n e f =
    let far : first ≡ length xs - n = f ∙ ap (λ m. m - n) e in
    ap (λ m. take (m - first) (drop first xs)) e ∙ take_rest xs first ∙ ap (λ m. drop m xs) far

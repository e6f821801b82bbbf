-- A view holds what it held before or took; and one that keeps all recent frames has no others.
use Rattle.std.proofs.Common.{◌≡◌, ℕ, ◌-◌, ◌^◌, ◌<◌, Bool, true, false, cond, ◌&&◌, ◌||◌, List, [], ◌∷◌, ◌++◌, length, take, map, Option, None, Some, refl, sym, ap, subst, ◌∙◌, arith}
use Rattle.std.specs.Prelude.{nat_lt, nat_eq, T}
use Rattle.std.specs.List.{AllByRecursion, list_any}
use Rattle.std.specs.Option.{option_map_or}
use Rattle.std.specs.Ordering.{nat_cmp, is_lt}
use Rattle.std.specs.Cmp.{nat_cmp_total}
use Rattle.std.specs.declared.cmp.Ordering.{Ordering}
use Rattle.std.specs.declared.cmp.Ordering.TheVariants.{Less, Equal, Greater}
use Rattle.std.specs.FinMap as fin
use Rattle.std.specs.FinMap.Entries.{by_order, below_all, is_sorted, same_entries}
use Rattle.puffin_frames.specs.Packet.Stored.{PacketFields, packed}
use Rattle.puffin_view.specs.View.Ranking.{place, last_of, last_in, has_number}
use Rattle.puffin_view.specs.View.ViewedFrames.{Frame, fields_of, index_of, frame_index, is_slower_frame, packed_under, rising_end, is_rising, rises_above, frames_by_index, chronological}
use Rattle.puffin_view.specs.View.{View, without_frames, with_packed, with_newest_packed, is_past, joined_by, after_taking, after_all, Took}
use Rattle.puffin_view.specs.View.File.{fields_held, fields_in, frame_stored, read_view}
use Rattle.puffin_view.specs.inner.Store.{has_index}
use Rattle.puffin_view.proofs.Taking.{enters}
use Rattle.puffin_view.proofs.Keeping.{all_packed, index_packed_at}
use Rattle.puffin_view.proofs.Orders.{map-length}
use Rattle.puffin_view.proofs.Members.{neither, all_map, all_take, all_drop, all_more, all_place, all_first, all_rest, has_all, has-index_of, is_at}
use Rattle.puffin_view.proofs.FileFrames.{took_all}
use Rattle.puffin_view.proofs.lemmas.FilesAgain.{fields_rise, said_again, all_taken, all_keep, last_of_all}

-- ---- what is true of all frames that a view holds

record AllHeld (P : Frame → Type 0) (v : View) : Type 0 where
  recent : AllByRecursion P v.recent
  slow : AllByRecursion P v.slow

all_choice : (P : Frame → Type 0) (k : ℕ) (f : Frame) (slow : List Frame) (b : Bool) → P f → AllByRecursion P slow
    → AllByRecursion P (cond b (take k (place is_slower_frame f slow)) slow)
all_choice P k f slow true p h = all_take P k (place is_slower_frame f slow) (all_place P f slow p h)
all_choice P k f slow false p h = h

-- a fact that packing keeps
module _ (P : Frame → Type 0) (keeps : (i : ℕ) (f : Frame) → P f → P (packed_under i f)) where
  newest_held : (o : Option Frame) (v : View) → AllHeld P v
      → AllHeld P (option_map_or (λ f. with_packed (index_of f) v) o v)
  newest_held None v h = h
  newest_held (Some f) v h = record {
    recent = all_packed P P (index_of f) (keeps (index_of f)) v.recent h.recent;
    slow = all_packed P P (index_of f) (keeps (index_of f)) v.slow h.slow;
  }

  ready_held : (past packs : Bool) (v : View) → AllHeld P v
      → AllHeld P (cond past (without_frames v) (cond packs (with_newest_packed v) v))
  ready_held true packs v h = record { recent = tt; slow = tt }
  ready_held false true v h = newest_held (last_in v.recent) v h
  ready_held false false v h = h

  joined_held : (v : View) (f : Frame) → P f → AllHeld P v → AllHeld P (joined_by v f)
  joined_held v f p h = record {
    recent = all_drop P (length (v.recent ++ f ∷ []) - v.max_recent) (v.recent ++ f ∷ [])
        (all_more P v.recent f h.recent p);
    slow = all_choice P v.max_slow f v.slow (enters v f) p h.slow;
  }

  all_held : (v : View) (fs : List Frame) → AllByRecursion P fs → AllHeld P v → AllHeld P (after_all v fs)
  all_held v [] all h = h
  all_held v (f ∷ fs) (first, others) h =
      all_held (after_taking v f) fs others (joined_held _ f first (ready_held (is_past v (index_of f)) v.packs v h))

-- ---- tests of what frames say

abbrev Fails : (PacketFields → Bool) → Frame → Type 0
Fails p f = p (fields_of f) ≡ false

fail_all : (p : PacketFields → Bool) (fs : List Frame) → list_any p (map fields_of fs) ≡ false
    → AllByRecursion (Fails p) fs
fail_all p [] h = tt
fail_all p (f ∷ fs) h = let (first, others) = neither (p (fields_of f)) (list_any p (map fields_of fs)) h in
    (first, fail_all p fs others)

none_passes : (p : PacketFields → Bool) (fs : List Frame) → AllByRecursion (Fails p) fs
    → list_any p (map fields_of fs) ≡ false
none_passes p [] h = refl
none_passes p (f ∷ fs) (first, others) = rw first (none_passes p fs others)

all_append : (P : Frame → Type 0) (fs gs : List Frame) → AllByRecursion P fs → AllByRecursion P gs
    → AllByRecursion P (fs ++ gs)
all_append P [] gs h k = k
all_append P (f ∷ fs) gs (first, others) k = (first, all_append P fs gs others k)

says_same : (i : ℕ) (f : Frame) → fields_of (packed_under i f) ≡ fields_of f
says_same i f = at (nat_eq (index_of f) i) where
  at : (b : Bool)
      → fields_of (cond b (record { fields = f.fields; is_unpacked = false; is_packed = true }) f) ≡ fields_of f
  at true = refl
  at false = refl

-- a view holds only frames that it held or took
pub held_or_taken : (p : PacketFields → Bool) (v : View) (fs : List Frame) → list_any p (fields_held v) ≡ false
    → list_any p (map fields_of fs) ≡ false → list_any p (fields_held (after_all v fs)) ≡ false
held_or_taken p v fs held none =
    let before = fail_all p (v.recent ++ v.slow) held in
    let after = all_held (Fails p) (λ i f h. ap p (says_same i f) ∙ h) v fs (fail_all p fs none) (record {
      recent =
          all_first (Fails p) v.recent v.slow before;
      slow = all_rest (Fails p) v.recent v.slow before;
    }) in
    let new = after_all v fs in
    none_passes p (new.recent ++ new.slow) (all_append (Fails p) new.recent new.slow after.recent after.slow)

-- ---- frames by rising index

entries_put : (P : Frame → Type 0) (i : ℕ) (f : Frame) (es : List (ℕ × Frame)) → P f → AllByRecursion (λ e. P e.1) es
    → AllByRecursion (λ e. P e.1) (fin.put nat_cmp i f es)
entries_put P i f [] p h = (p, tt)
entries_put P i f (e ∷ es) p (first, others) = at (nat_cmp i e.0) (entries_put P i f es p others) where
  at : (o : Ordering) → AllByRecursion (λ d. P d.1) (fin.put nat_cmp i f es)
      → AllByRecursion (λ d. P d.1) (by_order o ((i, f) ∷ e ∷ es) ((e.0, f) ∷ es) (e ∷ fin.put nat_cmp i f es))
  at Less later = (p, (first, others))
  at Equal later = (p, others)
  at Greater later = (first, later)

no_length : {B : Type 0} (xs : List B) → length xs ≡ 0 → xs ≡ []
no_length [] e = refl
no_length (x ∷ xs) e = absurd (omega arith)

no_entries : fin.entries (frames_by_index []) ≡ []
no_entries = no_length (fin.entries (frames_by_index []))
    (sym (fin.len-entries (fin.empty {X = Frame} {R = nat_cmp})) ∙ fin.len-empty nat_cmp Frame)

entries_all : (P : Frame → Type 0) (fs : List Frame) → AllByRecursion P fs
    → AllByRecursion (λ e. P e.1) (fin.entries (frames_by_index fs))
entries_all P [] h = subst (AllByRecursion (λ e. P e.1)) (sym no_entries) tt
entries_all P (f ∷ fs) (first, others) =
    subst (AllByRecursion (λ e. P e.1)) (sym (fin.entries-insert nat_cmp_total (frames_by_index fs) (index_of f) f))
    (entries_put P (index_of f) f (fin.entries (frames_by_index fs)) first (entries_all P fs others))

values_all : (P : Frame → Type 0) (es : List (ℕ × Frame)) → AllByRecursion (λ e. P e.1) es
    → AllByRecursion P (map (λ e. e.1) es)
values_all P [] h = tt
values_all P (e ∷ es) (first, others) = (first, values_all P es others)

-- a view lists only frames that it holds
pub listed_is_held : (p : PacketFields → Bool) (v : View) → list_any p (fields_held v) ≡ false
    → list_any p (fields_in v) ≡ false
listed_is_held p v held =
    let fs = v.recent ++ v.slow in
    none_passes p (chronological fs)
    (values_all (Fails p) (fin.entries (frames_by_index fs)) (entries_all (Fails p) fs (fail_all p fs held)))

-- ---- a view that keeps all recent frames

abbrev by_own_index : Frame → ℕ × Frame
by_own_index f = (index_of f, f)

first : (a b : Bool) → (a && b) ≡ true → a ≡ true
first true b h = refl
first false b h = h

second : (a b : Bool) → (a && b) ≡ true → b ≡ true
second true b h = h
second false b h = cc

below_is : (i k : ℕ) → nat_lt i k ≡ true → is_lt (nat_cmp i k) ≡ true
below_is i k h = grind arith

rise_below : (i j : ℕ) (fs : List Frame) → nat_lt i j ≡ true → rises_above j (map fields_of fs) ≡ true
    → rises_above i (map fields_of fs) ≡ true
rise_below i j [] lt h = refl
rise_below i j (f ∷ fs) lt h = rw (lower (first (nat_lt j (index_of f)) _ h))
    (second (nat_lt j (index_of f)) (rises_above (index_of f) (map fields_of fs)) h)
  where
    lower : nat_lt j (index_of f) ≡ true → nat_lt i (index_of f) ≡ true
    lower k = grind arith

all_below : (i : ℕ) (fs : List Frame) → rises_above i (map fields_of fs) ≡ true
    → below_all nat_cmp i (map by_own_index fs) ≡ true
all_below i [] h = refl
all_below i (f ∷ fs) h =
    let lt = first (nat_lt i (index_of f)) (rises_above (index_of f) (map fields_of fs)) h in
    rw (below_is i (index_of f) lt) (all_below i fs (rise_below i (index_of f) fs lt
    (second (nat_lt i (index_of f)) (rises_above (index_of f) (map fields_of fs)) h)))

sorted_from : (i : ℕ) (fs : List Frame) → rises_above i (map fields_of fs) ≡ true
    → T (is_sorted nat_cmp (map by_own_index fs))
sorted_from i [] h = tt
sorted_from i (f ∷ fs) h =
    let later = second (nat_lt i (index_of f)) (rises_above (index_of f) (map fields_of fs)) h in
    rw (all_below (index_of f) fs later) (sorted_from (index_of f) fs later)

sorted_if_rising : (fs : List Frame) → is_rising (map fields_of fs) ≡ true → T (is_sorted nat_cmp (map by_own_index fs))
sorted_if_rising [] h = tt
sorted_if_rising (f ∷ fs) h = rw (all_below (index_of f) fs h) (sorted_from (index_of f) fs h)

-- a frame under an index of the first frames is found among these
found_first : (q : ℕ) (fs gs : List Frame) → has_index q fs ≡ true
    → fin.find nat_cmp q (map by_own_index (fs ++ gs)) ≡ fin.find nat_cmp q (map by_own_index fs)
found_first q [] gs h = cc
found_first q (f ∷ fs) gs h =
    rw (is_at q (index_of f)) (at (nat_eq q (index_of f)) h (λ k. found_first q fs gs k)) where
      at : (b : Bool) → (b || has_index q fs) ≡ true → (has_index q fs ≡ true
          → fin.find nat_cmp q (map by_own_index (fs ++ gs)) ≡ fin.find nat_cmp q (map by_own_index fs)) → cond b (Some f)
          (fin.find nat_cmp q (map by_own_index (fs ++ gs))) ≡ cond b (Some f) (fin.find nat_cmp q (map by_own_index fs))
      at true k later = refl
      at false k later = later k

-- and none under another
not_found : (q : ℕ) (fs : List Frame) → has_index q fs ≡ false → fin.find nat_cmp q (map by_own_index fs) ≡ None
not_found q [] h = refl
not_found q (f ∷ fs) h = let (apart, others) = neither (nat_eq q (index_of f)) (has_index q fs) h in
    rw (is_at q (index_of f), apart) (not_found q fs others)

has_either : (q : ℕ) (fs gs : List Frame) → has_index q fs ≡ false → has_index q gs ≡ false
    → has_index q (fs ++ gs) ≡ false
has_either q [] gs h k = k
has_either q (f ∷ fs) gs h k = let (apart, others) = neither (nat_eq q (index_of f)) (has_index q fs) h in
    rw apart (has_either q fs gs others k)

-- an index that no first frame has none of frames has whose indices they have
none_of_these : (q : ℕ) (fs gs : List Frame) → has_index q fs ≡ false
    → AllByRecursion (λ g. has_index (index_of g) fs ≡ true) gs → has_index q gs ≡ false
none_of_these q fs [] h all = refl
none_of_these q fs (g ∷ gs) h (first, rest) =
    rw (apart (nat_eq q (index_of g)) refl) (none_of_these q fs gs h rest) where
      equal : nat_eq q (index_of g) ≡ true → q ≡ index_of g
      equal e = grind arith

      apart : (b : Bool) → nat_eq q (index_of g) ≡ b → b ≡ false
      apart true e = let same : has_index q fs ≡ true = ap (λ (i : ℕ). has_index i fs) (equal e) ∙ first in cc
      apart false e = refl

found_alike : (q : ℕ) (fs gs : List Frame) → AllByRecursion (λ g. has_index (index_of g) fs ≡ true) gs
    → fin.find nat_cmp q (map by_own_index (fs ++ gs)) ≡ fin.find nat_cmp q (map by_own_index fs)
found_alike q fs gs all = at (has_index q fs) refl where
  at : (b : Bool) → has_index q fs ≡ b
      → fin.find nat_cmp q (map by_own_index (fs ++ gs)) ≡ fin.find nat_cmp q (map by_own_index fs)
  at true h = found_first q fs gs h
  at false h = not_found q (fs ++ gs) (has_either q fs gs h (none_of_these q fs gs h all)) ∙ sym (not_found q fs h)

own_frames : (fs : List Frame) → map (λ (e : ℕ × Frame). e.1) (map by_own_index fs) ≡ fs
own_frames [] = refl
own_frames (f ∷ fs) = ap (λ gs. f ∷ gs) (own_frames fs)

-- frames that rise stand as they are, whatever frames of their indices come behind them
in_place : (fs gs : List Frame) → is_rising (map fields_of fs) ≡ true
    → AllByRecursion (λ g. has_index (index_of g) fs ≡ true) gs → chronological (fs ++ gs) ≡ fs
in_place fs gs rising all =
    ap (map (λ (e : ℕ × Frame). e.1))
    (same_entries nat_cmp nat_cmp_total fin.nat_cmp-IsAntisymmetric (fin.entries (frames_by_index (fs ++ gs)))
    (map by_own_index fs) (fin.entries_sorted (frames_by_index (fs ++ gs))) (sorted_if_rising fs rising)
    (λ q. sym (fin.get-entries (frames_by_index (fs ++ gs)) q)
    ∙ fin.get-from_entries nat_cmp_total (map by_own_index (fs ++ gs)) q ∙ found_alike q fs gs all))
    ∙ own_frames fs

indices_said : (fs : List Frame) → map index_of fs ≡ map frame_index (map fields_of fs)
indices_said [] = refl
indices_said (f ∷ fs) = ap (λ is. index_of f ∷ is) (indices_said fs)

-- frames whose indices rise are the recent ones of the view that takes them
pub rising_are_recent : (fs : List Frame) → is_rising (map fields_of fs) ≡ true → length fs < 2 ^ 64 - 1
    → map fields_of (after_all read_view fs).recent ≡ map fields_of fs
rising_are_recent fs rising few =
    let took : Took (map fields_of fs) (after_all read_view fs) = took_all fs in
    took.holds.recent ∙ (ap (λ (n : ℕ). last_of n (rising_end (map fields_of fs))) (all_keep read_view fs)
    ∙ (ap (last_of (2 ^ 64 - 1)) (all_taken (map fields_of fs) rising)
    ∙ last_of_all (2 ^ 64 - 1) (map fields_of fs) (omega (arith, few, map-length fields_of fs))))

-- and that view has no others
pub rising_in_place : (fs : List Frame) → is_rising (map fields_of fs) ≡ true → length fs < 2 ^ 64 - 1
    → fields_in (after_all read_view fs) ≡ map fields_of (after_all read_view fs).recent
rising_in_place fs rising few =
    let v = after_all read_view fs in
    let recent = rising_are_recent fs rising few in
    let slow : AllByRecursion (λ g. has_index (index_of g) fs ≡ true) v.slow =
    (all_held (λ g. has_index (index_of g) fs ≡ true)
    (λ i f h. ap (λ (k : ℕ). has_index k fs) (index_packed_at i f) ∙ h) read_view fs
    (has_all (λ g. has_index (index_of g) fs ≡ true) fs (λ g h. h)) (record { recent = tt; slow = tt })).slow in
    let alike : (q : ℕ) → has_index q fs ≡ has_index q v.recent = λ q.
    sym (has-index_of q fs)
    ∙ (ap (has_number q) (indices_said fs ∙ (ap (map frame_index) (sym recent) ∙ sym (indices_said v.recent)))
    ∙ has-index_of q v.recent) in
    let slow_again : AllByRecursion (λ g. has_index (index_of g) v.recent ≡ true) v.slow =
    all_map (λ g. has_index (index_of g) fs ≡ true) (λ g. has_index (index_of g) v.recent ≡ true)
    (λ g h. sym (alike (index_of g)) ∙ h) v.slow slow in
    ap (map fields_of) (in_place v.recent v.slow (ap is_rising recent ∙ rising) slow_again)

-- the frames of a file whose indices rise are just those of the view that reads it
pub read_in_place : (cs : List PacketFields) → is_rising cs ≡ true → length cs < 2 ^ 64 - 1
    → fields_in (after_all read_view (map frame_stored (map packed cs))) ≡ cs
read_in_place cs rising few =
    let fs = map frame_stored (map packed cs) in
    let said : map fields_of fs ≡ cs = said_again cs in
    let rises : is_rising (map fields_of fs) ≡ true = ap is_rising said ∙ rising in
    let short : length fs < 2 ^ 64 - 1 = omega (arith, few, map-length fields_of fs, ap length said) in
    rising_in_place fs rises short ∙ (rising_are_recent fs rises short ∙ said)

-- a view that takes the frames of a view's file holds exactly these
pub read_again : (v : View) → length (fields_in v) < 2 ^ 64 - 1
    → fields_in (after_all read_view (map frame_stored (map packed (fields_in v)))) ≡ fields_in v
read_again v few = read_in_place (fields_in v) (fields_rise v) few

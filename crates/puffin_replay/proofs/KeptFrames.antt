-- The frames of a view that took frames of rising indices are the last and the slowest of these, in their order.
use Rattle.std.proofs.Common.{◌≡◌, ℕ, zero, suc, ◌-◌, Bool, true, false, cond, ◌&&◌, ◌||◌, List, [], ◌∷◌, ◌++◌, length, map, take, drop, Option, None, Some, refl, sym, ap, subst, ◌∙◌, arith}
use Rattle.std.specs.Prelude.{nat_lt, nat_eq, T}
use Rattle.std.specs.List.{AllByRecursion, filter}
use Rattle.std.specs.Option.{option_map, option_map_or}
use Rattle.std.specs.Ordering.{nat_cmp, is_lt, eq_by_cmp}
use Rattle.std.specs.Cmp.{nat_cmp_total}
use Rattle.std.specs.FinMap as fin
use Rattle.std.specs.FinMap.Entries.{below_all, is_sorted, same_entries}
use Rattle.std.proofs.lemmas.List.{map-append}
use Rattle.puffin_frames.specs.Packet.Stored.{PacketFields}
use Rattle.puffin_view.specs.View.Ranking.{place_first, in_order, last_of, last_in, has_number}
use Rattle.puffin_view.specs.View.ViewedFrames.{Frame, fields_of, index_of, frame_index, is_slower, slowest, rising_end, is_rising, rises_above, frames_by_index}
use Rattle.puffin_view.specs.View.{View, Took, without_frames, with_packed, with_newest_packed, is_past, after_taking, after_all}
use Rattle.puffin_view.specs.View.File.{fields_in}
use Rattle.puffin_replay.specs.Promise.{kept_frames}

-- ---- tests

first : (a b : Bool) → (a && b) ≡ true → a ≡ true
first true b h = refl
first false b h = h

second : (a b : Bool) → (a && b) ≡ true → b ≡ true
second true b h = h
second false b h = cc

neither : (a b : Bool) → (a || b) ≡ false → (a ≡ false) × (b ≡ false)
neither true b h = cc
neither false b h = (refl, h)

is_at : (q i : ℕ) → eq_by_cmp nat_cmp q i ≡ nat_eq q i
is_at q i = grind arith

-- ---- what is true of all of a list

module _ {F : Type 0} (P : F → Type 0) where
  all_take : (k : ℕ) (xs : List F) → AllByRecursion P xs → AllByRecursion P (take k xs)
  all_take zero xs h = tt
  all_take (suc k) [] h = tt
  all_take (suc k) (x ∷ xs) h = (h.0, all_take k xs h.1)

  all_drop : (k : ℕ) (xs : List F) → AllByRecursion P xs → AllByRecursion P (drop k xs)
  all_drop zero xs h = h
  all_drop (suc k) [] h = tt
  all_drop (suc k) (x ∷ xs) h = all_drop k xs h.1

  all_append : (xs ys : List F) → AllByRecursion P xs → AllByRecursion P ys → AllByRecursion P (xs ++ ys)
  all_append [] ys h k = k
  all_append (x ∷ xs) ys h k = (h.0, all_append xs ys h.1 k)

  all_placed : (before : F → F → Bool) (x : F) (xs : List F) → P x → AllByRecursion P xs → AllByRecursion P (place_first before x xs)
  all_placed before x [] p h = (p, tt)
  all_placed before x (y ∷ ys) p h = at (before y x) (all_placed before x ys p h.1) where
    at : (b : Bool) → AllByRecursion P (place_first before x ys) → AllByRecursion P (cond b (y ∷ place_first before x ys) (x ∷ (y ∷ ys)))
    at true later = (h.0, later)
    at false later = (p, h)

  all_in_order : (before : F → F → Bool) (xs : List F) → AllByRecursion P xs → AllByRecursion P (in_order before xs)
  all_in_order before [] h = tt
  all_in_order before (x ∷ xs) h = all_placed before x (in_order before xs) h.0 (all_in_order before xs h.1)

all_map : {F : Type 0} (P Q : F → Type 0) (xs : List F) → ((x : F) → P x → Q x) → AllByRecursion P xs → AllByRecursion Q xs
all_map P Q [] f h = tt
all_map P Q (x ∷ xs) f h = (f x h.0, all_map P Q xs f h.1)

-- ---- frames that rise

rise_below : (i j : ℕ) (cs : List PacketFields) → nat_lt i j ≡ true → rises_above j cs ≡ true → rises_above i cs ≡ true
rise_below i j [] lt h = refl
rise_below i j (c ∷ cs) lt h =
    rw (lower (first (nat_lt j (frame_index c)) _ h))
    (second (nat_lt j (frame_index c)) (rises_above (frame_index c) cs) h)
  where
    lower : nat_lt j (frame_index c) ≡ true → nat_lt i (frame_index c) ≡ true
    lower k = grind arith

rising_rest : (i : ℕ) (cs : List PacketFields) → rises_above i cs ≡ true → is_rising cs ≡ true
rising_rest i [] h = refl
rising_rest i (c ∷ cs) h = second (nat_lt i (frame_index c)) (rises_above (frame_index c) cs) h

all_above : (i : ℕ) (cs : List PacketFields) → rises_above i cs ≡ true → AllByRecursion (λ c. nat_lt i (frame_index c) ≡ true) cs
all_above i [] h = tt
all_above i (c ∷ cs) h =
    let lt = first (nat_lt i (frame_index c)) (rises_above (frame_index c) cs) h in
    (lt, all_above i cs (rise_below i (frame_index c) cs lt (second (nat_lt i (frame_index c)) (rises_above (frame_index c) cs) h)))

rises-filter : (p : PacketFields → Bool) (i : ℕ) (cs : List PacketFields) → rises_above i cs ≡ true → rises_above i (filter p cs) ≡ true
rises-filter p i [] h = refl
rises-filter p i (c ∷ cs) h =
    at (p c) (rises-filter p (frame_index c) cs later)
    (rises-filter p i cs (rise_below i (frame_index c) cs lt later)) where
      lt : nat_lt i (frame_index c) ≡ true
      lt = first (nat_lt i (frame_index c)) (rises_above (frame_index c) cs) h

      later : rises_above (frame_index c) cs ≡ true
      later = second (nat_lt i (frame_index c)) (rises_above (frame_index c) cs) h

      at : (b : Bool) → rises_above (frame_index c) (filter p cs) ≡ true → rises_above i (filter p cs) ≡ true
          → rises_above i (cond b (c ∷ filter p cs) (filter p cs)) ≡ true
      at true above below = rw lt above
      at false above below = below

rising-filter : (p : PacketFields → Bool) (cs : List PacketFields) → is_rising cs ≡ true → is_rising (filter p cs) ≡ true
rising-filter p [] h = refl
rising-filter p (c ∷ cs) h = at (p c) (rises-filter p (frame_index c) cs h) (rising-filter p cs (rising_rest (frame_index c) cs h)) where
  at : (b : Bool) → rises_above (frame_index c) (filter p cs) ≡ true → is_rising (filter p cs) ≡ true
      → is_rising (cond b (c ∷ filter p cs) (filter p cs)) ≡ true
  at true above later = above
  at false above later = later

all_taken : (cs : List PacketFields) → is_rising cs ≡ true → rising_end cs ≡ cs
all_taken [] h = refl
all_taken (c ∷ cs) h = ap (λ (b : Bool). cond b (c ∷ cs) (rising_end cs)) h

-- ---- frames under their indices

abbrev own : PacketFields → ℕ × PacketFields
own c = (frame_index c, c)

abbrev found : ℕ → List PacketFields → Option PacketFields
found q cs = fin.find nat_cmp q (map own cs)

below_is : (i k : ℕ) → nat_lt i k ≡ true → is_lt (nat_cmp i k) ≡ true
below_is i k h = grind arith

all_below : (i : ℕ) (cs : List PacketFields) → rises_above i cs ≡ true → below_all nat_cmp i (map own cs) ≡ true
all_below i [] h = refl
all_below i (c ∷ cs) h =
    let lt = first (nat_lt i (frame_index c)) (rises_above (frame_index c) cs) h in
    rw (below_is i (frame_index c) lt)
    (all_below i cs
    (rise_below i (frame_index c) cs lt (second (nat_lt i (frame_index c)) (rises_above (frame_index c) cs) h)))

sorted_if_rising : (cs : List PacketFields) → is_rising cs ≡ true → T (is_sorted nat_cmp (map own cs))
sorted_if_rising [] h = tt
sorted_if_rising (c ∷ cs) h = rw (all_below (frame_index c) cs h) (sorted_if_rising cs (rising_rest (frame_index c) cs h))

own_back : (cs : List PacketFields) → map (λ (e : ℕ × PacketFields). e.1) (map own cs) ≡ cs
own_back [] = refl
own_back (c ∷ cs) = ap (λ (ds : List PacketFields). c ∷ ds) (own_back cs)

none_found : (q : ℕ) (cs : List PacketFields) → has_number q (map frame_index cs) ≡ false → found q cs ≡ None
none_found q [] h = refl
none_found q (c ∷ cs) h =
    let both = neither (nat_eq q (frame_index c)) (has_number q (map frame_index cs)) h in
    rw (is_at q (frame_index c), both.0) (none_found q cs both.1)

-- a frame of a list is the one that is found under its index
abbrev IsFound : List PacketFields → PacketFields → Type 0
IsFound cs c = found (frame_index c) cs ≡ Some c

itself : (i : ℕ) → nat_eq i i ≡ true
itself i = grind arith

apart : (i j : ℕ) → nat_lt i j ≡ true → nat_eq j i ≡ false
apart i j h = grind arith

all_found : (cs : List PacketFields) → is_rising cs ≡ true → AllByRecursion (IsFound cs) cs
all_found [] h = tt
all_found (c ∷ cs) h = (here, both cs (all_above (frame_index c) cs h) (all_found cs (rising_rest (frame_index c) cs h))) where
  here : IsFound (c ∷ cs) c
  here = rw (is_at (frame_index c) (frame_index c), itself (frame_index c)) refl

  later : (d : PacketFields) → nat_lt (frame_index c) (frame_index d) ≡ true → IsFound cs d → IsFound (c ∷ cs) d
  later d lt is = rw (is_at (frame_index d) (frame_index c), apart (frame_index c) (frame_index d) lt) is

  both : (ds : List PacketFields) → AllByRecursion (λ d. nat_lt (frame_index c) (frame_index d) ≡ true) ds
      → AllByRecursion (IsFound cs) ds → AllByRecursion (IsFound (c ∷ cs)) ds
  both [] lt is = tt
  both (d ∷ ds) lt is = (later d lt.0 is.0, both ds lt.1 is.1)

-- some of a list's frames give what the list gives, under their own indices
found_among : (q : ℕ) (cs xs : List PacketFields) → AllByRecursion (IsFound cs) xs
    → has_number q (map frame_index xs) ≡ true → found q xs ≡ found q cs
found_among q cs [] all h = cc
found_among q cs (x ∷ xs) all h =
    rw (is_at q (frame_index x)) (at (nat_eq q (frame_index x)) refl h (λ k. found_among q cs xs all.1 k)) where
      equal : nat_eq q (frame_index x) ≡ true → frame_index x ≡ q
      equal e = grind arith

      at : (b : Bool) → nat_eq q (frame_index x) ≡ b → (b || has_number q (map frame_index xs)) ≡ true
          → (has_number q (map frame_index xs) ≡ true → found q xs ≡ found q cs)
          → cond b (Some x) (found q xs) ≡ found q cs
      at true e k later = sym all.0 ∙ ap (λ (i : ℕ). found i cs) (equal e)
      at false e k later = later k

-- ---- the frames whose indices are in a list

module _ (is : List ℕ) where
  abbrev chosen : List PacketFields → List PacketFields
  chosen cs = filter (λ c. has_number (frame_index c) is) cs

  -- an index that is in the list, and one that isn't
  differ : (q i : ℕ) → (has_number q is ≡ has_number i is → ⊥) → nat_eq q i ≡ false
  differ q i unlike = at (nat_eq q i) refl where
    equal : nat_eq q i ≡ true → q ≡ i
    equal e = grind arith

    at : (b : Bool) → nat_eq q i ≡ b → b ≡ false
    at true e = absurd (unlike (ap (λ (j : ℕ). has_number j is) (equal e)))
    at false e = refl

  found_chosen : (q : ℕ) (cs : List PacketFields) → has_number q is ≡ true → found q (chosen cs) ≡ found q cs
  found_chosen q [] h = refl
  found_chosen q (c ∷ cs) h = at (has_number (frame_index c) is) refl (found_chosen q cs h) where
    at : (b : Bool) → has_number (frame_index c) is ≡ b → found q (chosen cs) ≡ found q cs
        → found q (cond b (c ∷ chosen cs) (chosen cs)) ≡ found q (c ∷ cs)
    at true e later = ap (λ (o : Option PacketFields). cond (eq_by_cmp nat_cmp q (frame_index c)) (Some c) o) later
    at false e later = rw (is_at q (frame_index c), differ q (frame_index c) (λ same. cc)) later

  none_chosen : (q : ℕ) (cs : List PacketFields) → has_number q is ≡ false → found q (chosen cs) ≡ None
  none_chosen q [] h = refl
  none_chosen q (c ∷ cs) h = at (has_number (frame_index c) is) refl (none_chosen q cs h) where
    at : (b : Bool) → has_number (frame_index c) is ≡ b → found q (chosen cs) ≡ None → found q (cond b (c ∷ chosen cs) (chosen cs)) ≡ None
    at true e later = rw (is_at q (frame_index c), differ q (frame_index c) (λ same. cc)) later
    at false e later = later

-- ---- frames of a view, as they say

abbrev said : List (ℕ × Frame) → List (ℕ × PacketFields)
said es = map (λ e. (e.0, fields_of e.1)) es

below_said : (k : ℕ) (es : List (ℕ × Frame)) → below_all nat_cmp k (said es) ≡ below_all nat_cmp k es
below_said k [] = refl
below_said k (e ∷ es) = ap (λ (b : Bool). is_lt (nat_cmp k e.0) && b) (below_said k es)

sorted_said : (es : List (ℕ × Frame)) → is_sorted nat_cmp (said es) ≡ is_sorted nat_cmp es
sorted_said [] = refl
sorted_said (e ∷ es) = rw (below_said e.0 es, sorted_said es) refl

map_cond : (b : Bool) (f : Frame) (o : Option Frame)
    → cond b (Some (fields_of f)) (option_map fields_of o) ≡ option_map fields_of (cond b (Some f) o)
map_cond true f o = refl
map_cond false f o = refl

find_said : (q : ℕ) (es : List (ℕ × Frame)) → fin.find nat_cmp q (said es) ≡ option_map fields_of (fin.find nat_cmp q es)
find_said q [] = refl
find_said q (e ∷ es) =
    ap (λ (o : Option PacketFields). cond (eq_by_cmp nat_cmp q e.0) (Some (fields_of e.1)) o) (find_said q es)
    ∙ map_cond (eq_by_cmp nat_cmp q e.0) e.1 (fin.find nat_cmp q es)

said_own : (fs : List Frame) → said (map (λ f. (index_of f, f)) fs) ≡ map own (map fields_of fs)
said_own [] = refl
said_own (f ∷ fs) = ap (λ es. own (fields_of f) ∷ es) (said_own fs)

said_values : (es : List (ℕ × Frame)) → map (λ (e : ℕ × PacketFields). e.1) (said es) ≡ map fields_of (map (λ (e : ℕ × Frame). e.1) es)
said_values [] = refl
said_values (e ∷ es) = ap (λ (cs : List PacketFields). fields_of e.1 ∷ cs) (said_values es)

-- under an index stands what is first there
find_held : (q : ℕ) (fs : List Frame) → fin.find nat_cmp q (said (fin.entries (frames_by_index fs))) ≡ found q (map fields_of fs)
find_held q fs =
    find_said q (fin.entries (frames_by_index fs))
    ∙
    (ap (option_map fields_of)
    (sym (fin.get-entries (frames_by_index fs) q)
    ∙ fin.get-from_entries nat_cmp_total (map (λ f. (index_of f, f)) fs) q)
    ∙ (sym (find_said q (map (λ f. (index_of f, f)) fs)) ∙ ap (fin.find nat_cmp q) (said_own fs)))

-- frames that say some of a list's, each of them itself, are those of the list whose indices they have
chosen_frames : (cs : List PacketFields) (fs : List Frame) → is_rising cs ≡ true → AllByRecursion (IsFound cs) (map fields_of fs)
    → map fields_of (map (λ (e : ℕ × Frame). e.1) (fin.entries (frames_by_index fs))) ≡ chosen (map frame_index (map fields_of fs)) cs
chosen_frames cs fs rising all = sym (said_values es) ∙ (ap (map (λ (e : ℕ × PacketFields). e.1)) alike ∙ own_back (chosen is cs))
  where
    es : List (ℕ × Frame)
    es = fin.entries (frames_by_index fs)

    is : List ℕ
    is = map frame_index (map fields_of fs)

    at : (q : ℕ) (b : Bool) → has_number q is ≡ b → fin.find nat_cmp q (said es) ≡ found q (chosen is cs)
    at q true h = find_held q fs ∙ (found_among q cs (map fields_of fs) all h ∙ sym (found_chosen is q cs h))
    at q false h = find_held q fs ∙ (none_found q (map fields_of fs) h ∙ sym (none_chosen is q cs h))

    alike : said es ≡ map own (chosen is cs)
    alike =
        same_entries nat_cmp nat_cmp_total fin.nat_cmp-IsAntisymmetric (said es) (map own (chosen is cs))
        (subst T (sym (sorted_said es)) (fin.entries_sorted (frames_by_index fs)))
        (sorted_if_rising (chosen is cs) (rising-filter (λ c. has_number (frame_index c) is) cs rising))
        (λ q. at q (has_number q is) refl)

-- ---- a view that took frames

taken_kept : (v : View) (cs : List PacketFields) → is_rising cs ≡ true → Took cs v → fields_in v ≡ kept_frames v.max_recent v.max_slow cs
taken_kept v cs rising took =
    let all = all_taken cs rising in
    let recent : map fields_of v.recent ≡ last_of v.max_recent cs = took.holds.recent ∙ ap (last_of v.max_recent) all in
    let slow : map fields_of v.slow ≡ slowest v.max_slow cs = took.holds.slow ∙ ap (slowest v.max_slow) all in
    let said : map fields_of (v.recent ++ v.slow) ≡ last_of v.max_recent cs ++ slowest v.max_slow cs =
    map-append fields_of v.recent v.slow
    ∙ (ap (λ (ds : List PacketFields). ds ++ map fields_of v.slow) recent
    ∙ ap (λ (ds : List PacketFields). last_of v.max_recent cs ++ ds) slow) in
    let each = all_found cs rising in
    let these : AllByRecursion (IsFound cs) (last_of v.max_recent cs ++ slowest v.max_slow cs) =
    all_append (IsFound cs) (last_of v.max_recent cs) (slowest v.max_slow cs)
    (all_drop (IsFound cs) (length cs - v.max_recent) cs each)
    (all_take (IsFound cs) v.max_slow (in_order is_slower cs) (all_in_order (IsFound cs) is_slower cs each)) in
    chosen_frames cs (v.recent ++ v.slow) rising (subst (AllByRecursion (IsFound cs)) (sym said) these)
    ∙ ap (λ (ds : List PacketFields). chosen (map frame_index ds) cs) said

-- ---- the limits of a view

record SameLimits (v w : View) : Type 0 where
  recent : w.max_recent ≡ v.max_recent
  slow : w.max_slow ≡ v.max_slow
  packs : w.packs ≡ v.packs

newest_limits : (o : Option Frame) (v : View) → SameLimits v (option_map_or (λ f. with_packed (index_of f) v) o v)
newest_limits (Some f) v = record { recent = refl; slow = refl; packs = refl }
newest_limits None v = record { recent = refl; slow = refl; packs = refl }

ready_limits : (past packs : Bool) (v : View) → SameLimits v (cond past (without_frames v) (cond packs (with_newest_packed v) v))
ready_limits true packs v = record { recent = refl; slow = refl; packs = refl }
ready_limits false true v = newest_limits (last_in v.recent) v
ready_limits false false v = record { recent = refl; slow = refl; packs = refl }

pub same_limits : (v : View) (fs : List Frame)
    → ((after_all v fs).max_recent ≡ v.max_recent) × ((after_all v fs).max_slow ≡ v.max_slow)
    × ((after_all v fs).packs ≡ v.packs)
same_limits v [] = (refl, refl, refl)
same_limits v (f ∷ fs) =
    let later = same_limits (after_taking v f) fs in
    let now = ready_limits (is_past v (index_of f)) v.packs v in
    (later.0 ∙ now.recent, later.1 ∙ now.slow, later.2 ∙ now.packs)

-- what a view with these limits has that took these frames
pub kept_by : (old : View) (fs : List Frame) (new : View) (max_recent max_slow : ℕ) (cs : List PacketFields)
    → old.max_recent ≡ max_recent → old.max_slow ≡ max_slow → new ≡ after_all old fs → is_rising cs ≡ true
    → Took cs new → fields_in new ≡ kept_frames max_recent max_slow cs
kept_by old fs new max_recent max_slow cs recent slow taken rising took =
    let same = same_limits old fs in
    let most : new.max_recent ≡ max_recent = ap (λ (v : View). v.max_recent) taken ∙ same.0 ∙ recent in
    let slowest : new.max_slow ≡ max_slow = ap (λ (v : View). v.max_slow) taken ∙ same.1 ∙ slow in
    taken_kept new cs rising took ∙ ap (λ (n : ℕ). kept_frames n new.max_slow cs) most ∙ ap (λ (k : ℕ). kept_frames max_recent k cs) slowest

-- A view, and one frame more.
use Rattle.std.proofs.Common.{◌≡◌, ℕ, zero, suc, ◌-◌, ◌<◌, ◌≤◌, Bool, true, false, cond, List, [], ◌∷◌, ◌++◌, length, take, drop, map, refl, sym, ap, ◌∙◌, subst, arith, Option, Some, None, ◌&&◌, append_assoc, append-nil}
use Rattle.std.specs.Prelude.{nat_lt, nat_le, nat_eq, int_lt}
use Rattle.std.specs.List.{AllByRecursion}
use Rattle.std.specs.Option.{IfSome, option_map_or}
use Rattle.std.proofs.Math.Seq.{drop-nil}
use Rattle.puffin_view.specs.View.Ranking.{place, last_of, last_from, last_in}
use Rattle.puffin_frames.specs.Packet.Stored.{PacketFields}
use Rattle.puffin_view.specs.View.ViewedFrames.{Frame, frame_index, fields_of, index_of, duration_of, is_slower, is_slower_frame, slowest, packed_under, packed_alone, rising_end, rises_above}
use Rattle.puffin_view.specs.View.{View, without_frames, with_packed, with_newest_packed, is_past, enters_among, joined_by, after_taking, after_all, Holds, Took}
use Rattle.puffin_view.specs.View.Adding.{HoldsAlso}
use Rattle.puffin_view.specs.inner.Kept.{IsUpTo, IsSteady}
use Rattle.puffin_view.proofs.Members.{neither, all_take, all_place}
use Rattle.puffin_view.proofs.Rankings.{last_of-more, first_in_order-more, first_in_order-same}
use Rattle.puffin_view.proofs.Orders.{slower_order, later_behind, map-place, map-take, map-drop, map-more, map-length, map-last_from, packed_at_says}

-- whether a frame comes among the slowest of a view
abbrev pub enters : View → Frame → Bool
enters v f = enters_among v.max_slow v.slow f

map-last_of : (n : ℕ) (fs : List Frame) → map fields_of (last_of n fs) ≡ last_of n (map fields_of fs)
map-last_of n fs =
    map-drop fields_of (length fs - n) fs ∙ ap (λ l. drop (l - n) (map fields_of fs)) (sym (map-length fields_of fs))

-- frames before an index
abbrev pub AreBefore : ℕ → List Frame → Type 0
AreBefore i fs = AllByRecursion (λ f. index_of f < i) fs

before_last : (i : ℕ) (x : Frame) (xs : List Frame) → AreBefore i (x ∷ xs) → index_of (last_from x xs) < i
before_last i x [] (only, none) = only
before_last i x (y ∷ ys) (first, others) = before_last i y ys others

not_below : (a b : ℕ) → nat_lt a b ≡ false → b ≤ a
not_below a b h = grind arith

late_last : (f : Frame) (slow : List Frame) → AreBefore (index_of f) slow
    → option_map_or (λ g. int_lt (duration_of g) (duration_of f)) (last_in slow) false ≡ false
    → IfSome (last_in (map fields_of slow)) (λ d. is_slower (fields_of f) d ≡ false)
late_last f [] h p = tt
late_last f (x ∷ xs) h p =
    let P : PacketFields → Type 0 = λ d. is_slower (fields_of f) d ≡ false in
    subst P (map-last_from fields_of x xs)
    (later_behind (fields_of f) (fields_of (last_from x xs)) p (before_last (index_of f) x xs h))

-- The slow frames after one more, whether it enters or not, are the slowest of all: a frame that does not enter is behind the
-- last, which has a lower index.
slow_at : (v : View) (f : Frame) (ds : List PacketFields) (b : Bool) → enters v f ≡ b → AreBefore (index_of f) v.slow
    → map fields_of v.slow ≡ slowest v.max_slow ds
    → map fields_of (cond b (take v.max_slow (place is_slower_frame f v.slow)) v.slow)
    ≡ slowest v.max_slow (ds ++ fields_of f ∷ [])
slow_at v f ds true p h e =
    map-take fields_of v.max_slow (place is_slower_frame f v.slow)
    ∙ ap (take v.max_slow) (map-place fields_of is_slower f v.slow ∙ ap (place is_slower (fields_of f)) e)
    ∙ first_in_order-more is_slower slower_order v.max_slow ds (fields_of f)
slow_at v f ds false p h e =
    let both : (nat_lt (length v.slow) v.max_slow ≡ false)
    × (option_map_or (λ g. int_lt (duration_of g) (duration_of f)) (last_in v.slow) false ≡ false) =
    neither (nat_lt (length v.slow) v.max_slow)
    (option_map_or (λ g. int_lt (duration_of g) (duration_of f)) (last_in v.slow) false) p in
    let P : List PacketFields → Type 0 = λ cs. IfSome (last_in cs) (λ d. is_slower (fields_of f) d ≡ false) in
    let Q : ℕ → Type 0 = λ n. v.max_slow ≤ n in
    e ∙ first_in_order-same is_slower slower_order v.max_slow ds (fields_of f)
    (subst Q (sym (map-length fields_of v.slow) ∙ ap length e) (not_below (length v.slow) v.max_slow both.0))
    (subst P e (late_last f v.slow h both.1))

-- a view that holds the last and the slowest of two lists holds those of the lists with one frame more
pub Holds-joined : (v : View) (f : Frame) (cs ds : List PacketFields) → Holds cs ds v → AreBefore (index_of f) v.slow
    → Holds (cs ++ fields_of f ∷ []) (ds ++ fields_of f ∷ []) (joined_by v f)
Holds-joined v f cs ds h late = record {
  recent = map-last_of v.max_recent (v.recent ++ f ∷ [])
      ∙ ap (last_of v.max_recent) (map-more fields_of v.recent f ∙ ap (λ xs. xs ++ fields_of f ∷ []) h.recent)
      ∙ last_of-more v.max_recent cs (fields_of f);
  slow = slow_at v f ds (enters v f) refl late h.slow;
}

-- packing doesn't show
pub Holds-packed : (i : ℕ) (v : View) (cs ds : List PacketFields) → Holds cs ds v → Holds cs ds (with_packed i v)
Holds-packed i v cs ds h =
    record { recent = packed_at_says i v.recent ∙ h.recent; slow = packed_at_says i v.slow ∙ h.slow }

Holds-newest_at : (v : View) (cs ds : List PacketFields) (o : Option Frame) → Holds cs ds v
    → Holds cs ds (option_map_or (λ f. with_packed (index_of f) v) o v)
Holds-newest_at v cs ds None h = h
Holds-newest_at v cs ds (Some f) h = Holds-packed (index_of f) v cs ds h

Holds-choice : (v : View) (cs ds : List PacketFields) (b : Bool) → Holds cs ds v
    → Holds cs ds (cond b (with_newest_packed v) v)
Holds-choice v cs ds true h = Holds-newest_at v cs ds (last_in v.recent) h
Holds-choice v cs ds false h = h

-- an emptied view holds the frames of no list
pub Holds-emptied : (v : View) → Holds [] [] (without_frames v)
Holds-emptied v = record { recent = sym (drop-nil (0 - v.max_recent)); slow = sym (take_nil v.max_slow) } where
  take_nil : (n : ℕ) → take n (let none : List PacketFields = [] in none) ≡ []
  take_nil zero = refl
  take_nil (suc n) = refl

-- every frame up to the last one taken is before an index above that
pub steady_before : (last : Option ℕ) (i : ℕ) (fs : List Frame) → option_map_or (λ l. nat_le i l) last false ≡ false
    → AllByRecursion (λ f. IsUpTo last (index_of f)) fs → AreBefore i fs
steady_before last i [] p h = tt
steady_before None i (f ∷ fs) p (first, others) = absurd first
steady_before (Some l) i (f ∷ fs) p (first, others) =
    (at_most (index_of f) i l first p, steady_before (Some l) i fs p others) where
      at_most : (a i l : ℕ) → a ≤ l → nat_le i l ≡ false → a < i
      at_most a i l q e = grind arith

index_packed : (i : ℕ) (f : Frame) (b : Bool) → index_of (cond b (packed_alone f) f) ≡ index_of f
index_packed i f true = refl
index_packed i f false = refl

all_packed : (P : ℕ → Type 0) (i : ℕ) (fs : List Frame) → AllByRecursion (λ f. P (index_of f)) fs
    → AllByRecursion (λ f. P (index_of f)) (map (packed_under i) fs)
all_packed P i [] h = tt
all_packed P i (f ∷ fs) (first, others) =
    (subst P (sym (index_packed i f (nat_eq (index_of f) i))) first, all_packed P i fs others)

all_newest_at : (P : ℕ → Type 0) (v : View) (o : Option Frame) → AllByRecursion (λ f. P (index_of f)) v.slow
    → AllByRecursion (λ f. P (index_of f)) (option_map_or (λ f. with_packed (index_of f) v) o v).slow
all_newest_at P v None h = h
all_newest_at P v (Some f) h = all_packed P (index_of f) v.slow h

all_choice : (P : ℕ → Type 0) (v : View) (b : Bool) → AllByRecursion (λ f. P (index_of f)) v.slow
    → AllByRecursion (λ f. P (index_of f)) (cond b (with_newest_packed v) v).slow
all_choice P v true h = all_newest_at P v (last_in v.recent) h
all_choice P v false h = h

more_at : (v : View) (f : Frame) (cs ds : List PacketFields) (b : Bool) → b ≡ false → is_past v (index_of f) ≡ false
    → IsSteady v → Holds cs ds v
    → Holds (cs ++ fields_of f ∷ []) (ds ++ fields_of f ∷ [])
    (joined_by (cond b (without_frames v) (cond v.packs (with_newest_packed v) v)) f)
more_at v f cs ds true e p steady h = cc
more_at v f cs ds false e p steady h =
    Holds-joined (cond v.packs (with_newest_packed v) v) f cs ds (Holds-choice v cs ds v.packs h)
    (all_choice (λ i. i < index_of f) v v.packs (steady_before v.last (index_of f) v.slow p steady))

-- where the index is above the last one taken, what the view holds is that of the lists with one frame more
pub Holds-more : (v : View) (f : Frame) (cs ds : List PacketFields) → IsSteady v → is_past v (index_of f) ≡ false
    → Holds cs ds v → Holds (cs ++ fields_of f ∷ []) (ds ++ fields_of f ∷ []) (after_taking v f)
Holds-more v f cs ds steady p h = more_at v f cs ds (is_past v (index_of f)) p p steady h

anew_at : (v : View) (f : Frame) (b : Bool) → b ≡ true → Holds (fields_of f ∷ []) (fields_of f ∷ [])
    (joined_by (cond b (without_frames v) (cond v.packs (with_newest_packed v) v)) f)
anew_at v f true e = Holds-joined (without_frames v) f [] [] (Holds-emptied v) tt
anew_at v f false e = cc

-- where it isn't, both lists begin with the frame
pub Holds-anew : (v : View) (f : Frame) → is_past v (index_of f) ≡ true
    → Holds (fields_of f ∷ []) (fields_of f ∷ []) (after_taking v f)
Holds-anew v f p = anew_at v f (is_past v (index_of f)) p

-- steadiness
steady_slow : (v : View) (f : Frame) (b : Bool) → AreBefore (index_of f) v.slow
    → AllByRecursion (λ g. index_of g ≤ index_of f) (cond b (take v.max_slow (place is_slower_frame f v.slow)) v.slow)
steady_slow v f true h = all_take (λ g. index_of g ≤ index_of f) v.max_slow (place is_slower_frame f v.slow)
    (all_place (λ g. index_of g ≤ index_of f) f v.slow (omega arith) (weaker v.slow h)) where
      weaker : (fs : List Frame) → AreBefore (index_of f) fs → AllByRecursion (λ g. index_of g ≤ index_of f) fs
      weaker [] h = tt
      weaker (g ∷ fs) h = let k = h.0 in (omega arith, weaker fs h.1)
steady_slow v f false h = weaker v.slow h where
  weaker : (fs : List Frame) → AreBefore (index_of f) fs → AllByRecursion (λ g. index_of g ≤ index_of f) fs
  weaker [] h = tt
  weaker (g ∷ fs) h = let k = h.0 in (omega arith, weaker fs h.1)

steady_at : (v : View) (f : Frame) (b : Bool) → is_past v (index_of f) ≡ b → IsSteady v
    → IsSteady (joined_by (cond b (without_frames v) (cond v.packs (with_newest_packed v) v)) f)
steady_at v f true p h = steady_slow (without_frames v) f (enters (without_frames v) f) tt
steady_at v f false p h = let w : View = cond v.packs (with_newest_packed v) v in steady_slow w f (enters w f)
    (all_choice (λ i. i < index_of f) v v.packs (steady_before v.last (index_of f) v.slow p h))

-- taking a frame keeps all slow indices at most the last one
pub IsSteady-taking : (v : View) (f : Frame) → IsSteady v → IsSteady (after_taking v f)
IsSteady-taking v f h = steady_at v f (is_past v (index_of f)) refl h

-- the longest rising end, and one more
and_true : (b : Bool) → (b && true) ≡ (true && b)
and_true true = refl
and_true false = refl

and_assoc : (a b c : Bool) → (a && (b && c)) ≡ ((a && b) && c)
and_assoc true b c = refl
and_assoc false b c = refl

rises-more : (x : PacketFields) (xs : List PacketFields) (c : PacketFields) → rises_above (frame_index x)
    (xs ++ c ∷ []) ≡ (rises_above (frame_index x) xs && nat_lt (frame_index (last_from x xs)) (frame_index c))
rises-more x [] c = and_true (nat_lt (frame_index x) (frame_index c))
rises-more x (y ∷ ys) c = ap (λ b. nat_lt (frame_index x) (frame_index y) && b) (rises-more y ys c)
    ∙ and_assoc (nat_lt (frame_index x) (frame_index y)) (rises_above (frame_index y) ys)
    (nat_lt (frame_index (last_from y ys)) (frame_index c))

more_taken_at : (whole later rest : List PacketFields) (c : PacketFields) (b d l : Bool) → d ≡ (b && l) → l ≡ true
    → later ≡ rest ++ c ∷ [] → cond d (whole ++ c ∷ []) later ≡ cond b whole rest ++ c ∷ []
more_taken_at whole later rest c true d l e p ih = rw (e, p) refl
more_taken_at whole later rest c false d l e p ih = rw e ih

-- a frame with a higher index joins the frames taken
pub taken-more : (x : PacketFields) (xs : List PacketFields) (c : PacketFields)
    → nat_lt (frame_index (last_from x xs)) (frame_index c) ≡ true
    → rising_end ((x ∷ xs) ++ c ∷ []) ≡ rising_end (x ∷ xs) ++ c ∷ []
taken-more x [] c p = rw p refl
taken-more x (y ∷ ys) c p = more_taken_at (x ∷ (y ∷ ys)) (rising_end ((y ∷ ys) ++ c ∷ [])) (rising_end (y ∷ ys)) c
    (rises_above (frame_index x) (y ∷ ys)) (rises_above (frame_index x) ((y ∷ ys) ++ c ∷ []))
    (nat_lt (frame_index (last_from x (y ∷ ys))) (frame_index c)) (rises-more x (y ∷ ys) c) p (taken-more y ys c p)

none_taken_at : (whole later : List PacketFields) (c : PacketFields) (b d l : Bool) → d ≡ (b && l) → l ≡ false
    → later ≡ c ∷ [] → cond d whole later ≡ c ∷ []
none_taken_at whole later c true d l e p ih = rw (e, p) ih
none_taken_at whole later c false d l e p ih = rw e ih

-- a frame whose index is not higher is taken alone
pub taken-anew : (x : PacketFields) (xs : List PacketFields) (c : PacketFields)
    → nat_lt (frame_index (last_from x xs)) (frame_index c) ≡ false → rising_end ((x ∷ xs) ++ c ∷ []) ≡ c ∷ []
taken-anew x [] c p = rw p refl
taken-anew x (y ∷ ys) c p = none_taken_at ((x ∷ (y ∷ ys)) ++ c ∷ []) (rising_end ((y ∷ ys) ++ c ∷ []))
    c (rises_above (frame_index x) (y ∷ ys)) (rises_above (frame_index x) ((y ∷ ys) ++ c ∷ []))
    (nat_lt (frame_index (last_from x (y ∷ ys))) (frame_index c)) (rises-more x (y ∷ ys) c) p (taken-anew y ys c p)

last-more : (x : PacketFields) (xs : List PacketFields) (c : PacketFields) → last_from x (xs ++ c ∷ []) ≡ c
last-more x [] c = refl
last-more x (y ∷ ys) c = last-more y ys c

-- at most, or above
pub opposite : (i l : ℕ) (b : Bool) → nat_le i l ≡ b → nat_lt l i ≡ (cond b false true)
opposite i l true h = grind arith
opposite i l false h = grind arith

took_at : (v : View) (f : Frame) (x : PacketFields) (xs : List PacketFields) (b : Bool) → is_past v (index_of f) ≡ b
    → v.last ≡ Some (frame_index (last_from x xs)) → IsSteady v → Holds (rising_end (x ∷ xs)) (rising_end (x ∷ xs)) v
    → Holds (rising_end ((x ∷ xs) ++ fields_of f ∷ [])) (rising_end ((x ∷ xs) ++ fields_of f ∷ [])) (after_taking v f)
took_at v f x xs b p last steady h =
    let was : nat_le (index_of f) (frame_index (last_from x xs)) ≡ b =
    ap (λ o. option_map_or (λ l. nat_le (index_of f) l) o false) (sym last) ∙ p in
    choose b p was where
      H : List PacketFields → Type 0
      H cs = Holds cs cs (after_taking v f)

      choose : (b : Bool) → is_past v (index_of f) ≡ b → nat_le (index_of f) (frame_index (last_from x xs)) ≡ b
          → Holds (rising_end ((x ∷ xs) ++ fields_of f ∷ [])) (rising_end ((x ∷ xs) ++ fields_of f ∷ []))
          (after_taking v f)
      choose true p q =
          subst H (sym (taken-anew x xs (fields_of f) (opposite (index_of f) (frame_index (last_from x xs)) true q)))
          (Holds-anew v f p)
      choose false p q =
          subst H (sym (taken-more x xs (fields_of f) (opposite (index_of f) (frame_index (last_from x xs)) false q)))
          (Holds-more v f (rising_end (x ∷ xs)) (rising_end (x ∷ xs)) steady p h)

-- a view that took some frames, and takes one more
pub Took-more : (v : View) (f : Frame) (cs : List PacketFields) → IsSteady v → Took cs v
    → Took (cs ++ fields_of f ∷ []) (after_taking v f)
Took-more v f [] steady h = record {
  holds = Holds-more v f [] [] steady
      (ap (λ o. option_map_or (λ l. nat_le (index_of f) l) o false) h.last) h.holds;
  last = refl;
}
Took-more v f (x ∷ xs) steady h = record {
  holds = took_at v f x xs (is_past v (index_of f)) refl h.last steady h.holds;
  last = ap (λ c. Some (frame_index c)) (sym (last-more x xs (fields_of f)));
}

-- what a view holds when it has taken one more
pub HoldsAlso-taking : (v w : View) (f : Frame) → IsSteady v → w ≡ after_taking v f → HoldsAlso f v w
HoldsAlso-taking v w f steady is = record {
  took = λ cs h. let P : View → Type 0 = λ u. Took (cs ++ fields_of f ∷ []) u in
      subst P (sym is) (Took-more v f cs steady h);
  more = λ cs ds p h. let P : View → Type 0 = λ u. Holds (cs ++ fields_of f ∷ []) (ds ++ fields_of f ∷ []) u in
      subst P (sym is) (Holds-more v f cs ds steady p h);
  anew = λ p. let P : View → Type 0 = λ u. Holds (fields_of f ∷ []) (fields_of f ∷ []) u in
      subst P (sym is) (Holds-anew v f p);
}

-- a view that took some frames, and takes more
pub Took-all : (v : View) (cs : List PacketFields) (fs : List Frame) → IsSteady v → Took cs v
    → Took (cs ++ map fields_of fs) (after_all v fs)
Took-all v cs [] steady h = let P : List PacketFields → Type 0 = λ ds. Took ds v in subst P (sym (append-nil cs)) h
Took-all v cs (f ∷ fs) steady h =
    let P : List PacketFields → Type 0 = λ ds. Took ds (after_all (after_taking v f) fs) in
    subst P (append_assoc cs (fields_of f ∷ []) (map fields_of fs)) (Took-all (after_taking v f)
    (cs ++ fields_of f ∷ []) fs (IsSteady-taking v f steady) (Took-more v f cs steady h))

-- an empty view has taken nothing
pub Took-none : (v : View) → v.recent ≡ [] → v.slow ≡ [] → v.last ≡ None → Took [] v
Took-none v r s l = record {
  holds = record {
    recent = ap (map fields_of) r ∙ (Holds-emptied v).recent;
    slow = ap (map fields_of) s
        ∙ (Holds-emptied v).slow;
  };
  last = l;
}

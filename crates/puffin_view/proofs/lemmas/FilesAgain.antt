-- What is read of a file that was written.
use Rattle.std.proofs.Common.{◌≡◌, ℕ, ◌-◌, ◌^◌, ◌<◌, ◌≤◌, Bool, true, false, cond, ◌&&◌, List, [], ◌∷◌, ◌++◌, length, drop, map, Option, None, Some, Ok, Err, ◌⊎◌, inl, inr, refl, sym, ap, subst, ◌∙◌, arith}
use Rattle.std.specs.Prelude.{nat_lt, nat_eq, T, is_ok}
use Rattle.std.specs.List.{AllByRecursion, list_any}
use Rattle.std.specs.Option.{option_map_or}
use Rattle.std.specs.Io.KnownBytes.{IsAtEnd}
use Rattle.std.specs.declared.cmp.Ordering.TheVariants.{Less, Equal, Greater}
use Rattle.std.specs.Ordering.{nat_cmp, is_lt}
use Rattle.std.specs.FinMap as fin
use Rattle.std.specs.FinMap.Entries.{below_all, is_sorted}
use Rattle.std.proofs.lemmas.List.{append-nil}
use Rattle.puffin_data.specs.declared.error.Error.TheVariants.{MissingId}
use Rattle.puffin_data.specs.declared.file_error.FileError.{FileError}
use Rattle.puffin_data.specs.declared.file_error.FileError.TheVariants as file
use Rattle.puffin_data.specs.Device.{IsOutside}
use Rattle.puffin_frames.specs.Packet.Stored.{PacketFields, Stored, packed}
use Rattle.puffin_frames.specs.Packet.Grammar.{IsPacked}
use Rattle.puffin_view.specs.declared.profile_view.frame_view.FrameView.{FrameView}
use Rattle.puffin_view.specs.View.Ranking.{last_of, last_in}
use Rattle.puffin_view.specs.View.ViewedFrames.{Frame, fields_of, index_of, rising_end, is_rising, rises_above, frames_by_index}
use Rattle.puffin_view.specs.View.{View, without_frames, with_packed, with_newest_packed, is_past, after_taking, after_all}
use Rattle.puffin_view.specs.View.Known.{view_of, lacks_ids}
use Rattle.puffin_view.specs.View.File.{file_of, fields_in, frame_stored, file_at, read_view, FramesReading, TookFrames, TookFault, FailsToRead, ReadsView, IsViewOf}
use Rattle.puffin_view.proofs.Chronology.{AreKeyed, keyed}
use Rattle.puffin_view.proofs.FilesWritten.{Again, Answer, unless_missing, file_again}

-- ---- devices whose bytes are known

known_answer : (read : FramesReading) (rising_end rest : List ℕ) (now : Answer) (old : List ℕ) (then : Answer)
    → old ≡ rising_end ++ rest → read rising_end ≡ now → rest ≡ [] → now ≡ then → read old ≡ then
known_answer read rising_end rest now old then c given end same =
    ap read (c ∙ (ap (λ (t : List ℕ). rising_end ++ t) end ∙ append-nil rising_end)) ∙ (given ∙ same)

known_frames : (read : FramesReading) (old : List ℕ) (new : Option (List ℕ)) (frames : List Stored)
    → TookFrames read (Some old) new frames → (rest : List ℕ) × (read old ≡ Ok (frames, rest))
known_frames read old None frames h = absurd h.consumed
known_frames read old (Some rest) frames h = by_last h.last
  where
    by_last : ((more : List ℕ) → read (h.taken ++ more) ≡ Ok (frames, more)) ⊎ IsAtEnd (Some rest)
        → (r : List ℕ) × (read old ≡ Ok (frames, r))
    by_last (inl all) = (rest, ap read h.consumed ∙ all rest)
    by_last (inr end) =
        ([], known_answer read h.taken rest (Ok (frames, [])) old (Ok (frames, [])) h.consumed h.given end refl)

known_fault : (read : FramesReading) (old : List ℕ) (new : Option (List ℕ)) (e : FileError)
    → TookFault read (Some old) new e → read old ≡ Err e
known_fault read old None e h = absurd h.consumed
known_fault read old (Some rest) e h = by_last h.last
  where
    by_last : ((more : List ℕ) → read (h.taken ++ more) ≡ Err e) ⊎ IsAtEnd (Some rest) → read old ≡ Err e
    by_last (inl all) = ap read h.consumed ∙ all rest
    by_last (inr end) = known_answer read h.taken rest (Err e) old (Err e) h.consumed h.fails end refl

fails_known : (read : FramesReading) (old : List ℕ) (new : Option (List ℕ)) (e : FileError)
    → FailsToRead read (Some old) new e → (IsOutside e → ⊥) → read old ≡ Err e
fails_known read old new file.Io h not_it = absurd (not_it (inl refl))
fails_known read old new file.Memory h not_it = absurd (not_it (inr refl))
fails_known read old new e h not_it = known_fault read old new e h

-- ---- a written file

abbrev frames_of : Answer → List Stored
frames_of (Ok o) = o.0
frames_of (Err e) = []

abbrev fault_of : Answer → FileError
fault_of (Ok o) = file.Io
fault_of (Err e) = e

differ : true ≡ false → ⊥
differ e = cc

frames_given : (b : Bool) (frames found : List Stored) (rest more : List ℕ)
    → unless_missing b frames rest ≡ Ok (found, more) → found ≡ frames
frames_given true frames found rest more e = absurd (differ (ap is_ok (sym e)))
frames_given false frames found rest more e = sym (ap frames_of e)

fault_given : (b : Bool) (frames : List Stored) (rest : List ℕ) (e : FileError) → unless_missing b frames rest ≡ Err e
    → (e ≡ file.Refused MissingId) × (b ≡ true)
fault_given true frames rest e h = (sym (ap fault_of h), refl)
fault_given false frames rest e h = absurd (differ (ap is_ok h))

whole_again : (cs : List PacketFields) → Again → AllByRecursion IsPacked cs → length cs < 2 ^ 64 - 1
    → file_at (file_of cs) ≡ unless_missing (list_any lacks_ids cs) (map packed cs) (drop 4 [])
whole_again cs again all few = ap file_at (sym (append-nil (file_of cs))) ∙ file_again cs [] again all few refl

-- a written file is read as its frames
pub frames_again : (cs : List PacketFields) (new : Option (List ℕ)) (frames : List Stored) → Again
    → AllByRecursion IsPacked cs → length cs < 2 ^ 64 - 1 → TookFrames file_at (Some (file_of cs)) new frames
    → frames ≡ map packed cs
frames_again cs new frames again all few h =
    let k = known_frames file_at (file_of cs) new frames h in
    frames_given (list_any lacks_ids cs) (map packed cs) frames (drop 4 []) k.0
    (sym (whole_again cs again all few) ∙ k.1)

-- a written file has no fault but missing ids
pub fault_again : (cs : List PacketFields) (new : Option (List ℕ)) (e : FileError)
    → Again → AllByRecursion IsPacked cs → length cs < 2 ^ 64 - 1 → FailsToRead file_at (Some (file_of cs)) new e
    → (IsOutside e → ⊥)
    → (e ≡ file.Refused MissingId) × (list_any lacks_ids cs ≡ true)
fault_again cs new e again all few h not_it =
    fault_given (list_any lacks_ids cs) (map packed cs) (drop 4 []) e
    (sym (whole_again cs again all few) ∙ fails_known file_at (file_of cs) new e h not_it)

-- ---- the frames of a view, by rising index

less_lt : (a b : Bool) → T (is_lt (cond a Less (cond b Equal Greater))) → a ≡ true
less_lt true b h = refl
less_lt false true h = absurd h
less_lt false false h = absurd h

first : (a b : Bool) → T (a && b) → T a
first true b h = tt
first false b h = h

second : (a b : Bool) → T (a && b) → T b
second true b h = h
second false b h = absurd h

both : (a b : Bool) → a ≡ true → b ≡ true → (a && b) ≡ true
both a b p q = rw (p, q) refl

abbrev says : List (ℕ × Frame) → List PacketFields
says es = map fields_of (map (λ e. e.1) es)

rises_by : (k : ℕ) (es : List (ℕ × Frame)) → AreKeyed es → T (below_all nat_cmp k es) → T (is_sorted nat_cmp es)
    → rises_above k (says es) ≡ true
rises_by k [] keys below sorted = refl
rises_by k (e ∷ es) keys below sorted =
    both (nat_lt k (index_of e.1)) (rises_above (index_of e.1) (says es))
    (ap (λ (i : ℕ). nat_lt k i) keys.0
    ∙ less_lt (nat_lt k e.0) (nat_eq k e.0) (first (is_lt (nat_cmp k e.0)) (below_all nat_cmp k es) below))
    (rises_by (index_of e.1) es keys.1 (subst (λ (i : ℕ). T (below_all nat_cmp i es))
    (sym keys.0) (first (below_all nat_cmp e.0 es) (is_sorted nat_cmp es) sorted))
    (second (below_all nat_cmp e.0 es) (is_sorted nat_cmp es) sorted))

rising_by : (es : List (ℕ × Frame)) → AreKeyed es → T (is_sorted nat_cmp es) → is_rising (says es) ≡ true
rising_by [] keys sorted = refl
rising_by (e ∷ es) keys sorted =
    rises_by (index_of e.1) es keys.1 (subst (λ (i : ℕ). T (below_all nat_cmp i es))
    (sym keys.0) (first (below_all nat_cmp e.0 es) (is_sorted nat_cmp es) sorted))
    (second (below_all nat_cmp e.0 es) (is_sorted nat_cmp es) sorted)

-- a view's frames rise by index
pub fields_rise : (v : View) → is_rising (fields_in v) ≡ true
fields_rise v = let fs = v.recent ++ v.slow in
    rising_by (fin.entries (frames_by_index fs)) (keyed fs) (fin.entries_sorted (frames_by_index fs))

-- frames that rise are all kept
pub all_taken : (cs : List PacketFields) → is_rising cs ≡ true → rising_end cs ≡ cs
all_taken [] h = refl
all_taken (c ∷ cs) h = ap (λ (b : Bool). cond b (c ∷ cs) (rising_end cs)) h

-- ---- a view that keeps all frames

packed_keeps : (o : Option Frame) (v : View)
    → (option_map_or (λ f. with_packed (index_of f) v) o v).max_recent ≡ v.max_recent
packed_keeps (Some f) v = refl
packed_keeps None v = refl

ready_keeps : (past packs : Bool) (v : View)
    → (cond past (without_frames v) (cond packs (with_newest_packed v) v)).max_recent ≡ v.max_recent
ready_keeps true packs v = refl
ready_keeps false true v = packed_keeps (last_in v.recent) v
ready_keeps false false v = refl

taking_keeps : (v : View) (f : Frame) → (after_taking v f).max_recent ≡ v.max_recent
taking_keeps v f = ready_keeps (is_past v (index_of f)) v.packs v

-- taking frames keeps the limit
pub all_keep : (v : View) (fs : List Frame) → (after_all v fs).max_recent ≡ v.max_recent
all_keep v [] = refl
all_keep v (f ∷ fs) = all_keep (after_taking v f) fs ∙ taking_keeps v f

-- the last ones of no more than that many are all
pub last_of_all : (n : ℕ) (cs : List PacketFields) → length cs ≤ n → last_of n cs ≡ cs
last_of_all n cs h = let none : length cs - n ≡ 0 = omega arith in ap (λ (k : ℕ). drop k cs) none

-- a packed frame is read with its own contents
pub said_again : (cs : List PacketFields) → map fields_of (map frame_stored (map packed cs)) ≡ cs
said_again [] = refl
said_again (c ∷ cs) = ap (λ (ds : List PacketFields). c ∷ ds) (said_again cs)

-- a view of a written view's frames has these frames, which rise, as its recent ones
view_by : (cs : List PacketFields) (frames : List Stored) (view : FrameView)
    → is_rising cs ≡ true → length cs < 2 ^ 64 - 1 → frames ≡ map packed cs → IsViewOf frames view
    → map fields_of (view_of view).recent ≡ cs
view_by cs frames view rising few is h =
    let said : map fields_of (map frame_stored frames) ≡ cs =
    ap (λ (fs : List Stored). map fields_of (map frame_stored fs)) is ∙ said_again cs in
    let most : (view_of view).max_recent ≡ 2 ^ 64 - 1 =
    ap (λ (v : View). v.max_recent) h.frames ∙ all_keep read_view (map frame_stored frames) in
    h.took.holds.recent ∙ (ap (λ (n : ℕ). last_of n (rising_end (map fields_of (map frame_stored frames)))) most
    ∙ (ap (λ (ds : List PacketFields). last_of (2 ^ 64 - 1) (rising_end ds)) said
    ∙ (ap (last_of (2 ^ 64 - 1)) (all_taken cs rising) ∙ last_of_all (2 ^ 64 - 1) cs (omega (arith, few)))))

-- a view's file is read as a view with the same frames
pub view_again : (v : View) (new : Option (List ℕ)) (view : FrameView) → Again → AllByRecursion IsPacked (fields_in v)
    → length (fields_in v) < 2 ^ 64 - 1 → ReadsView file_at (Some (file_of (fields_in v))) new (Ok view)
    → map fields_of (view_of view).recent ≡ fields_in v
view_again v new view again all few h =
    view_by (fields_in v) h.0 view (fields_rise v) few (frames_again (fields_in v) new h.0 again all few h.1) h.2

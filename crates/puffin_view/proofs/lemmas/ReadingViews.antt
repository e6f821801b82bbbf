-- A view that keeps all recent frames has those since the last one whose index doesn't rise.
use Rattle.std.proofs.Common.{◌≡◌, ℕ, ◌+◌, ◌-◌, ◌^◌, ◌<◌, ◌≤◌, Bool, true, false, cond, List, [], ◌∷◌, ◌++◌, length, map, length-append, Option, None, Some, refl, sym, ap, ◌∙◌, arith}
use Rattle.std.specs.Prelude.{nat_le}
use Rattle.std.specs.Option.{option_map_or}
use Rattle.puffin_frames.specs.Packet.Stored.{PacketFields}
use Rattle.puffin_view.specs.View.Ranking.{last_of, last_in}
use Rattle.puffin_view.specs.View.ViewedFrames.{Frame, fields_of, index_of, rising_end, is_rising}
use Rattle.puffin_view.specs.View.{View, without_frames, with_packed, with_newest_packed, is_past, joined_by, after_taking, after_all, last_index, rises_behind, Took}
use Rattle.puffin_view.specs.View.File.{fields_in, read_view}
use Rattle.puffin_view.proofs.Taking.{taken-more, taken-anew, opposite}
use Rattle.puffin_view.proofs.Orders.{map-length, map-more}
use Rattle.puffin_view.proofs.FileFrames.{after_last, took_all}
use Rattle.puffin_view.proofs.lemmas.FilesAgain.{all_taken, all_keep, last_of_all}
use Rattle.puffin_view.proofs.lemmas.FramesHeld.{rising_in_place}

-- ---- one frame more

-- a frame whose index rises joins the frames kept
pub end_goes_on : (cs : List PacketFields) (c : PacketFields) → rises_behind (last_index cs) c ≡ true
    → rising_end (cs ++ c ∷ []) ≡ rising_end cs ++ c ∷ []
end_goes_on [] c rises = refl
end_goes_on (x ∷ xs) c rises = taken-more x xs c rises

-- another frame replaces them all
pub end_begins_anew : (cs : List PacketFields) (c : PacketFields) → rises_behind (last_index cs) c ≡ false
    → rising_end (cs ++ c ∷ []) ≡ c ∷ []
end_begins_anew [] c falls = refl
end_begins_anew (x ∷ xs) c falls = taken-anew x xs c falls

end_rises : (cs : List PacketFields) → is_rising (rising_end cs) ≡ true
end_rises [] = refl
end_rises (c ∷ cs) = by (is_rising (c ∷ cs)) refl (end_rises cs) where
  by : (b : Bool) → is_rising (c ∷ cs) ≡ b → is_rising (rising_end cs) ≡ true
      → is_rising (cond b (c ∷ cs) (rising_end cs)) ≡ true
  by true h later = h
  by false h later = later

rising_with : (cs : List PacketFields) (c : PacketFields) → is_rising cs ≡ true
    → rises_behind (last_index cs) c ≡ true → is_rising (cs ++ c ∷ []) ≡ true
rising_with cs c rising rises =
    ap is_rising (sym (end_goes_on cs c rises ∙ ap (λ (ds : List PacketFields). ds ++ c ∷ []) (all_taken cs rising)))
    ∙ end_rises (cs ++ c ∷ [])

fewer : (cs : List PacketFields) → length (rising_end cs) ≤ length cs
fewer [] = omega arith
fewer (c ∷ cs) = by (is_rising (c ∷ cs)) (fewer cs) where
  by : (b : Bool) → length (rising_end cs) ≤ length cs → length (cond b (c ∷ cs) (rising_end cs)) ≤ length (c ∷ cs)
  by true h = omega arith
  by false h = omega (arith, h)

-- ---- a view that is emptied is as it was at first

newest_limits : (o : Option Frame) (v : View)
    → without_frames (option_map_or (λ f. with_packed (index_of f) v) o v) ≡ without_frames v
newest_limits None v = refl
newest_limits (Some f) v = refl

ready_limits : (past packs : Bool) (v : View)
    → without_frames (cond past (without_frames v) (cond packs (with_newest_packed v) v)) ≡ without_frames v
ready_limits true packs v = refl
ready_limits false true v = newest_limits (last_in v.recent) v
ready_limits false false v = refl

limits_stay : (v : View) (fs : List Frame) → without_frames (after_all v fs) ≡ without_frames v
limits_stay v [] = refl
limits_stay v (f ∷ fs) = limits_stay (after_taking v f) fs ∙ ready_limits (is_past v (index_of f)) v.packs v

anew_at : (v : View) (f : Frame) → is_past v (index_of f) ≡ true → without_frames v ≡ read_view
    → after_taking v f ≡ after_taking read_view f
anew_at v f past emptied = rw past (ap (λ (w : View). joined_by w f) emptied)

-- ---- the frames of a view that reads are those of one that reads frames whose indices rise

Took-last : (k : List Frame) → (after_all read_view k).last ≡ last_index (map fields_of k)
Took-last k = let took : Took (map fields_of k) (after_all read_view k) = took_all k in took.last

not_past : (k : List Frame) (f : Frame) → is_past (after_all read_view k) (index_of f) ≡ false
    → rises_behind (last_index (map fields_of k)) (fields_of f) ≡ true
not_past k f p = by (last_index (map fields_of k))
    (ap (λ (o : Option ℕ). option_map_or (λ last. nat_le (index_of f) last) o false) (sym (Took-last k)) ∙ p) where
      by : (o : Option ℕ) → option_map_or (λ last. nat_le (index_of f) last) o false ≡ false
          → rises_behind o (fields_of f) ≡ true
      by None h = refl
      by (Some l) h = opposite (index_of f) l false h

abbrev Rising : View → ℕ → Type 0
Rising v n = (r : List Frame) × (v ≡ after_all read_view r) × (is_rising (map fields_of r) ≡ true) × (length r ≤ n)

rising_with_frame : (k : List Frame) (f : Frame) → is_rising (map fields_of k) ≡ true
    → is_past (after_all read_view k) (index_of f) ≡ false → is_rising (map fields_of (k ++ f ∷ [])) ≡ true
rising_with_frame k f rising p =
    ap is_rising (map-more fields_of k f) ∙ rising_with (map fields_of k) (fields_of f) rising (not_past k f p)

-- a view that took a rising list and then these frames is one that took some rising list, no longer than both: a frame whose
-- index doesn't rise begins anew
since : (k fs : List Frame) → is_rising (map fields_of k) ≡ true
    → Rising (after_all (after_all read_view k) fs) (length k + length fs)
since k [] rising = (k, refl, rising, omega arith)
since k (f ∷ fs) rising = by (is_past (after_all read_view k) (index_of f)) refl (λ r h. since r fs h) where
  by : (b : Bool) → is_past (after_all read_view k) (index_of f) ≡ b → ((r : List Frame)
      → is_rising (map fields_of r) ≡ true → Rising (after_all (after_all read_view r) fs) (length r + length fs))
      → Rising (after_all (after_taking (after_all read_view k) f) fs) (length k + length (f ∷ fs))
  by true p later =
      let s = later (f ∷ []) refl in (
        s.0,
        ap (λ (v : View). after_all v fs) (anew_at (after_all read_view k) f p (limits_stay read_view k))
            ∙ s.1,
        s.2,
        omega (arith, s.3),
      )
  by false p later =
      let s = later (k ++ f ∷ []) (rising_with_frame k f rising p) in (
        s.0,
        ap (λ (v : View). after_all v fs) (sym (after_last read_view k f))
            ∙ s.1,
        s.2,
        omega (arith, s.3, length-append k (f ∷ [])),
      )

recent_are : (fs : List Frame) → length fs < 2 ^ 64 - 1
    → map fields_of (after_all read_view fs).recent ≡ rising_end (map fields_of fs)
recent_are fs few =
    let took : Took (map fields_of fs) (after_all read_view fs) = took_all fs in
    took.holds.recent
    ∙ (ap (λ (n : ℕ). last_of n (rising_end (map fields_of fs))) (all_keep read_view fs)
    ∙ last_of_all (2 ^ 64 - 1) (rising_end (map fields_of fs))
    (omega (arith, few, fewer (map fields_of fs), map-length fields_of fs)))

-- a view that reads frames keeps the last run of rising indices
pub kept_by_reading : (fs : List Frame) → length fs < 2 ^ 64 - 1
    → fields_in (after_all read_view fs) ≡ rising_end (map fields_of fs)
kept_by_reading fs few =
    let s = since [] fs refl in
    ap fields_in s.1 ∙ rising_in_place s.0 s.2 (omega (arith, few, s.3))
    ∙ sym (ap (λ (v : View). map fields_of v.recent) s.1) ∙ recent_are fs few

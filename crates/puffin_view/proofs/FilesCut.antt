-- Files of frames that were cut: the frames that are whole are read, and no others.
use Rattle.std.proofs.Common.{◌≡◌, ℕ, suc, ◌-◌, ◌^◌, ◌<◌, ◌≤◌, Bool, true, false, cond, ltb, List, [], ◌∷◌, ◌++◌, length, map, Option, Some, None, Result, Ok, Err, ◌⊎◌, inl, inr, refl, sym, ap, subst, ◌∙◌, append_assoc, arith, length-append}
use Rattle.std.specs.List.{flat_map, AllByRecursion, list_any}
use Rattle.std.specs.Io.KnownBytes.{Consumes, IsAtEnd}
use Rattle.std.proofs.lemmas.Bool.{ltb-true, ltb-false}
use Rattle.std.proofs.lemmas.List.{append-nil, append_cancel_left}
use Rattle.puffin_data.specs.declared.file_error.FileError.{FileError}
use Rattle.puffin_data.specs.declared.file_error.FileError.TheVariants as file
use Rattle.puffin_data.specs.Device.{FailsAt, IsOutside}
use Rattle.puffin_data.proofs.lemmas.Devices.{known_fault}
use Rattle.puffin_frames.specs.Packet.Stored.{PacketFields, Stored, packed}
use Rattle.puffin_frames.specs.Packet.Front.{next_at, AtEnd}
use Rattle.puffin_frames.specs.Packet.Grammar.{packet, IsPacked}
use Rattle.puffin_view.specs.View.Known.{lacks_ids}
use Rattle.puffin_view.specs.View.File.{magic, file_of, frames_at, most_packets, file_at}
use Rattle.puffin_view.specs.View.FrameFile.{frame_at, AreGiven, HasGiven, IsLeftOf, IsCut}
use Rattle.puffin_view.proofs.Members.{neither}
use Rattle.puffin_view.proofs.lemmas.FilesRead.{goes_on, behind, end_stays, is_at_end}
use Rattle.puffin_view.proofs.FilesWritten.{Again, Answer, room}
use Rattle.puffin_view.proofs.FileGrammar.{end_read}
use Rattle.puffin_view.proofs.ReadingsCut.{packet_truncated}

-- ---- what is left of a file

no_bytes : (x y : List ℕ) → [] ≡ x ++ y → x ≡ []
no_bytes [] y e = refl
no_bytes (a ∷ x) y e = absurd (omega (arith, ap length e))

-- of two ways to cut bytes in two, one has the longer front
meet : (a b x y : List ℕ) → a ++ b ≡ x ++ y
    → ((m : List ℕ) × (a ≡ x ++ m) × (0 < length m)) ⊎ ((m : List ℕ) × (x ≡ a ++ m) × (b ≡ m ++ y))
meet [] b x y e = inr (x, refl, e)
meet (h ∷ a) b [] y e = inl (h ∷ a, refl, omega arith)
meet (h ∷ a) b (k ∷ x) y e =
    by_rest (meet a b x y (rest_same h k (a ++ b) (x ++ y) e)) (first_same h k (a ++ b) (x ++ y) e)
  where
    first_same : (h k : ℕ) (s t : List ℕ) → h ∷ s ≡ k ∷ t → h ≡ k
    first_same h k s t e = cc

    rest_same : (h k : ℕ) (s t : List ℕ) → h ∷ s ≡ k ∷ t → s ≡ t
    rest_same h k s t e = cc

    by_rest : ((m : List ℕ) × (a ≡ x ++ m) × (0 < length m)) ⊎ ((m : List ℕ) × (x ≡ a ++ m) × (b ≡ m ++ y)) → h ≡ k
        → ((m : List ℕ) × (h ∷ a ≡ k ∷ (x ++ m)) × (0 < length m))
        ⊎ ((m : List ℕ) × (k ∷ x ≡ h ∷ (a ++ m)) × (b ≡ m ++ y))
    by_rest (inl p) same = inl (p.0, rw (same, p.1) refl, p.2)
    by_rest (inr p) same = inr (p.0, rw (same, p.1) refl, p.2)

record LeftOf (cs : List PacketFields) (bytes : List ℕ) : Type 0 where
  whole : List PacketFields
  lost : List PacketFields
  in_order : cs ≡ whole ++ lost
  left : List ℕ
  split : bytes ≡ flat_map packet whole ++ left
  begun : IsLeftOf left lost

one_left : (c : PacketFields) (cs : List PacketFields) (bytes m : List ℕ) → bytes ≡ packet c ++ m → LeftOf cs m
    → LeftOf (c ∷ cs) bytes
one_left c cs bytes m is h = record {
  whole = c ∷ h.whole;
  lost = h.lost;
  in_order = ap (λ (ds : List PacketFields). c ∷ ds) h.in_order;
  left = h.left;
  split = is
      ∙ (ap (λ (t : List ℕ). packet c ++ t) h.split ∙ sym (append_assoc (packet c) (flat_map packet h.whole) h.left));
  begun = h.begun;
}

left_of_one : (c : PacketFields) (cs : List PacketFields) (bytes lost : List ℕ)
    → ((m : List ℕ) → flat_map packet cs ≡ m ++ lost → LeftOf cs m)
    → ((m : List ℕ) × (packet c ≡ bytes ++ m) × (0 < length m))
    ⊎ ((m : List ℕ) × (bytes ≡ packet c ++ m) × (flat_map packet cs ≡ m ++ lost)) → LeftOf (c ∷ cs) bytes
left_of_one c cs bytes lost others (inl p) =
    record { whole = []; lost = c ∷ cs; in_order = refl; left = bytes; split = refl; begun = p }
left_of_one c cs bytes lost others (inr p) = one_left c cs bytes p.0 p.1 (others p.0 p.2)

packets_left : (cs : List PacketFields) (bytes lost : List ℕ) → flat_map packet cs ≡ bytes ++ lost → LeftOf cs bytes
packets_left [] bytes lost e =
    record { whole = []; lost = []; in_order = refl; left = []; split = no_bytes bytes lost e; begun = refl }
packets_left (c ∷ cs) bytes lost e = left_of_one c cs bytes lost (λ m is. packets_left cs m lost is)
    (meet (packet c) (flat_map packet cs) bytes lost e)

cut_of : (cs : List PacketFields) (bytes front : List ℕ) → bytes ≡ magic ++ front → LeftOf cs front
    → (whole : List PacketFields) × IsCut cs bytes whole
cut_of cs bytes front is h = (
  h.whole,
  record {
    lost = h.lost;
    in_order = h.in_order;
    left = h.left;
    split = is
        ∙ ap (λ (t : List ℕ). magic ++ t) h.split;
    begun = h.begun;
  },
)

four_same : (a b d f x y z w : ℕ) (l t : List ℕ) → a ∷ b ∷ d ∷ f ∷ l ≡ x ∷ y ∷ z ∷ w ∷ t
    → (a ≡ x) × (b ≡ y) × (d ≡ z) × (f ≡ w) × (l ≡ t)
four_same a b d f x y z w l t e = (cc, cc, cc, cc, cc)

-- what is left of a file is the file of its first frames and a part of the next packet
pub file_cut : (cs : List PacketFields) (bytes lost : List ℕ) → file_of cs ≡ bytes ++ lost → 4 ≤ length bytes
    → (whole : List PacketFields) × IsCut cs bytes whole
file_cut cs [] lost e long = absurd (omega (arith, long))
file_cut cs (a ∷ []) lost e long = absurd (omega (arith, long))
file_cut cs (a ∷ b ∷ []) lost e long = absurd (omega (arith, long))
file_cut cs (a ∷ b ∷ d ∷ []) lost e long = absurd (omega (arith, long))
file_cut cs (a ∷ b ∷ d ∷ f ∷ l) lost e long =
    let s = four_same 80 85 70 48 a b d f (flat_map packet cs) (l ++ lost) e in
    cut_of cs (a ∷ b ∷ d ∷ f ∷ l) l (rw (sym s.0, sym s.1, sym s.2, sym s.3) refl) (packets_left cs l lost s.4)

-- ---- frames that are written, and read

all_front : (cs ds : List PacketFields) → AllByRecursion IsPacked (cs ++ ds) → AllByRecursion IsPacked cs
all_front [] ds h = tt
all_front (c ∷ cs) ds (first, others) = (first, all_front cs ds others)

all_back : (cs ds : List PacketFields) → AllByRecursion IsPacked (cs ++ ds) → AllByRecursion IsPacked ds
all_back [] ds h = h
all_back (c ∷ cs) ds (first, others) = all_back cs ds others

ids_front : (cs ds : List PacketFields) → list_any lacks_ids (cs ++ ds) ≡ false → list_any lacks_ids cs ≡ false
ids_front [] ds h = refl
ids_front (c ∷ cs) ds h = let n = neither (lacks_ids c) (list_any lacks_ids (cs ++ ds)) h in
    rw n.0 (ids_front cs ds n.1)

ids_back : (cs ds : List PacketFields) → list_any lacks_ids (cs ++ ds) ≡ false → list_any lacks_ids ds ≡ false
ids_back [] ds h = h
ids_back (c ∷ cs) ds h = ids_back cs ds (neither (lacks_ids c) (list_any lacks_ids (cs ++ ds)) h).1

frame_again : (c : PacketFields) (rest : List ℕ) → Again → IsPacked c → lacks_ids c ≡ false
    → frame_at (packet c ++ rest) ≡ Ok (Some (packed c), rest)
frame_again c rest again is ids = rw (again c rest is, ids) refl

packets_given : (cs : List PacketFields) → Again → AllByRecursion IsPacked cs → list_any lacks_ids cs ≡ false
    → AreGiven (flat_map packet cs) (map packed cs)
packets_given [] again all ids = refl
packets_given (c ∷ cs) again all ids =
    let n = neither (lacks_ids c) (list_any lacks_ids cs) ids in
    (packet c, flat_map packet cs, refl, λ rest. frame_again c rest again all.0 n.0, packets_given cs again all.1 n.1)

-- ---- behind the frames that are whole

-- what is read of what is left
abbrev last_of_cut : Bool → Result (Option Stored × List ℕ) FileError
last_of_cut short = cond short (Ok (None, [])) (Err file.Truncated)

left_read : (left : List ℕ) (lost : List PacketFields) → Again → AllByRecursion IsPacked lost → IsLeftOf left lost
    → next_at left ≡ last_of_cut (ltb (length left) 4)
left_read left lost again all h = by_length (ltb (length left) 4) refl
  where
    short : length left < 4 → next_at left ≡ Ok (None, [])
    short lt = ap next_at (sym (append-nil left)) ∙ end_read left [] (inr (lt, refl))

    long : (lost : List PacketFields) → AllByRecursion IsPacked lost → IsLeftOf left lost → 4 ≤ length left
        → next_at left ≡ Err file.Truncated
    long [] all none low = absurd (omega (arith, ap length none, low))
    long (c ∷ cs) all h low = packet_truncated c left h.0 (Some (packed c)) h.1 h.2 low (again c [] all.0)

    by_length : (b : Bool) → ltb (length left) 4 ≡ b → next_at left ≡ last_of_cut b
    by_length true e = short (ltb-true _ _ e)
    by_length false e = long lost all h (ltb-false _ _ e)

abbrev read_cut : Bool → List Stored → Answer
read_cut short frames = cond short (Ok (frames, [])) (Err file.Truncated)

behind_cut : (b : Bool) (n : ℕ) (left : List ℕ) (frames : List Stored) → next_at left ≡ last_of_cut b
    → behind frames (frames_at (suc n) left) ≡ read_cut b frames
behind_cut true n left frames is = rw is (ap (λ (l : List Stored). Ok (l, [])) (append-nil frames))
behind_cut false n left frames is = rw is refl

same_length : (cs : List PacketFields) → length (map packed cs) ≡ length cs
same_length [] = refl
same_length (c ∷ cs) = ap suc (same_length cs)

fewer : (cs whole lost : List PacketFields) (n : ℕ) → cs ≡ whole ++ lost → length cs < n → length (map packed whole) < n
fewer cs whole lost n e lt = omega (arith, ap length e, length-append whole lost, same_length whole, lt)

-- the whole packets are read as their frames, and what is left decides how reading ends
packets_cut : (n : ℕ) (whole : List PacketFields) (left : List ℕ) → Again → AllByRecursion IsPacked whole
    → list_any lacks_ids whole ≡ false → next_at left ≡ last_of_cut (ltb (length left) 4)
    → length (map packed whole) < 2 ^ 64 - 1
    → frames_at most_packets (flat_map packet whole ++ left) ≡ read_cut (ltb (length left) 4) (map packed whole)
packets_cut n whole left again all ids is few =
    let frames = map packed whole in
    let k = most_packets - suc (length frames) in
    ap (λ (m : ℕ). frames_at m (flat_map packet whole ++ left)) (sym (room (length frames) few))
    ∙ (goes_on (flat_map packet whole) frames (packets_given whole again all ids) (suc k) left
    ∙ behind_cut (ltb (length left) 4) k left frames is)

-- what a file gives that was cut
pub cut_read : (cs : List PacketFields) (bytes : List ℕ) (whole : List PacketFields) (h : IsCut cs bytes whole)
    → Again → AllByRecursion IsPacked cs → length cs < 2 ^ 64 - 1 → list_any lacks_ids cs ≡ false
    → file_at bytes ≡ read_cut (ltb (length h.left) 4) (map packed whole)
cut_read cs bytes whole h again all few ids =
    let each = subst (AllByRecursion IsPacked) h.in_order all in
    let told = subst (λ (ds : List PacketFields). list_any lacks_ids ds ≡ false) h.in_order ids in
    ap file_at h.split
    ∙ packets_cut 0 whole h.left again (all_front whole h.lost each) (ids_front whole h.lost told) (left_read h.left
    h.lost again (all_back whole h.lost each) h.begun) (fewer cs whole h.lost (2 ^ 64 - 1) h.in_order few)

-- ---- frame by frame

abbrev frame_in : Result (Option Stored × List ℕ) FileError → Option Stored
frame_in (Ok o) = o.0
frame_in (Err e) = None

abbrev rest_in : Result (Option Stored × List ℕ) FileError → List ℕ
rest_in (Ok o) = o.1
rest_in (Err e) = []

abbrev fault_in : Result (Option Stored × List ℕ) FileError → FileError
fault_in (Ok o) = file.Io
fault_in (Err e) = e

none_is_some : (s : Stored) → ◌≡◌ {A = Option Stored} None (Some s) → ⊥
none_is_some s e = cc

same_frame : (s t : Stored) → ◌≡◌ {A = Option Stored} (Some s) (Some t) → s ≡ t
same_frame s t e = cc

frame_left : (b : Bool) (left : List ℕ) → next_at left ≡ last_of_cut b → frame_at left ≡ last_of_cut b
frame_left true left is = rw is refl
frame_left false left is = rw is refl

not_some : (b : Bool) (s : Stored) (rest : List ℕ) → last_of_cut b ≡ Ok (Some s, rest) → ⊥
not_some true s rest e = none_is_some s (ap frame_in e)
not_some false s rest e = none_is_some s (ap frame_in e)

-- frames that were given are the first of those that are whole, and the others are left
record Walked (whole : List PacketFields) (left : List ℕ) (frames : List Stored) (mid : List ℕ) : Type 0 where
  given : List PacketFields
  more : List PacketFields
  in_order : whole ≡ given ++ more
  are : frames ≡ map packed given
  rest : mid ≡ flat_map packet more ++ left

one_walked : (c : PacketFields) (whole : List PacketFields) (left : List ℕ) (s : Stored) (frames : List Stored)
    (mid : List ℕ) → s ≡ packed c → Walked whole left frames mid → Walked (c ∷ whole) left (s ∷ frames) mid
one_walked c whole left s frames mid same w =
    record {
      given = c ∷ w.given;
      more = w.more;
      in_order = ap (λ (ds : List PacketFields). c ∷ ds) w.in_order;
      are = rw (same, w.are) refl;
      rest = w.rest;
    }

-- frames that were given one after the other from what is left of a file are the first whole ones, since each is read from its
-- own packet
walk : (whole : List PacketFields) (left : List ℕ) (short : Bool) (frames : List Stored) (b mid : List ℕ)
    → Again → AllByRecursion IsPacked whole → list_any lacks_ids whole ≡ false → frame_at left ≡ last_of_cut short
    → AreGiven b frames
    → b ++ mid ≡ flat_map packet whole ++ left → Walked whole left frames mid
walk whole left short [] b mid again all ids stops none e =
    record {
      given = [];
      more = whole;
      in_order = refl;
      are = refl;
      rest = sym (ap (λ (t : List ℕ). t ++ mid) none) ∙ e;
    }
walk [] left short (s ∷ frames) b mid again all ids stops h e =
    let same : h.0 ++ (h.1 ++ mid) ≡ left =
    sym (append_assoc h.0 h.1 mid) ∙ (ap (λ (t : List ℕ). t ++ mid) (sym h.2) ∙ e) in
    absurd (not_some short s (h.1 ++ mid) (sym stops ∙ (ap frame_at (sym same) ∙ h.3 (h.1 ++ mid))))
walk (c ∷ whole) left short (s ∷ frames) b mid again all ids stops h e =
    let n = neither (lacks_ids c) (list_any lacks_ids whole) ids in
    let behind = flat_map packet whole ++ left in
    let same : h.0 ++ (h.1 ++ mid) ≡ packet c ++ behind = sym (append_assoc h.0 h.1 mid)
    ∙ (ap (λ (t : List ℕ). t ++ mid) (sym h.2) ∙ (e ∙ append_assoc (packet c) (flat_map packet whole) left)) in
    let read : ◌≡◌
    {A = Result (Option Stored × List ℕ) FileError} (Ok (Some s, h.1 ++ mid)) (Ok (Some (packed c), behind)) =
    sym (h.3 (h.1 ++ mid)) ∙ (ap frame_at same ∙ frame_again c behind again all.0 n.0) in
    one_walked c whole left s frames mid (same_frame s (packed c) (ap frame_in read))
    (walk whole left short frames h.1 mid again all.1 n.1 stops h.4 (ap rest_in read))

known : (old : List ℕ) (new : Option (List ℕ)) (taken : List ℕ) → Consumes (Some old) new taken
    → (rest : List ℕ) × (new ≡ Some rest) × (old ≡ taken ++ rest)
known old None taken c = absurd c
known old (Some rest) taken c = (rest, refl, c)

-- frames that a reader gave from what is left of a file are the first whole ones
walked : (cs : List PacketFields) (bytes : List ℕ) (whole : List PacketFields)
    (h : IsCut cs bytes whole) (mid : Option (List ℕ)) (frames : List Stored) → Again → AllByRecursion IsPacked cs
    → list_any lacks_ids cs ≡ false
    → HasGiven (Some bytes) mid frames → (m : List ℕ) × (mid ≡ Some m) × Walked whole h.left frames m
walked cs bytes whole h mid frames again all ids g =
    let k = known bytes mid (magic ++ g.bytes) g.consumed in
    let each = subst (AllByRecursion IsPacked) h.in_order all in
    let told = subst (λ (ds : List PacketFields). list_any lacks_ids ds ≡ false) h.in_order ids in
    let short = ltb (length h.left) 4 in
    let stops = frame_left short h.left (left_read h.left h.lost again (all_back whole h.lost each) h.begun) in (
      k.0,
      k.1,
      walk whole h.left short frames g.bytes k.0 again (all_front whole h.lost each) (ids_front whole h.lost told)
          stops g.given
          (append_cancel_left magic (g.bytes ++ k.0) (flat_map packet whole ++ h.left) (sym k.2 ∙ h.split)),
    )

-- a reader of what is left gives the first of the whole frames
pub cut_given : (cs : List PacketFields) (bytes : List ℕ) (whole : List PacketFields) → IsCut cs bytes whole
    → (mid : Option (List ℕ)) (frames : List Stored) → Again → AllByRecursion IsPacked cs
    → list_any lacks_ids cs ≡ false
    → HasGiven (Some bytes) mid frames
    → (given more : List PacketFields) × (whole ≡ given ++ more) × (frames ≡ map packed given)
cut_given cs bytes whole h mid frames again all ids g =
    let w = (walked cs bytes whole h mid frames again all ids g).2 in (w.given, w.more, w.in_order, w.are)

-- where no whole frame is left, all were given
all_walked : (whole : List PacketFields) (left : List ℕ) (frames : List Stored) (m : List ℕ)
    → Walked whole left frames m → AllByRecursion IsPacked whole → list_any lacks_ids whole ≡ false → Again
    → ((s : Stored) (rest : List ℕ) → frame_at m ≡ Ok (Some s, rest) → ⊥) → (frames ≡ map packed whole) × (m ≡ left)
all_walked whole left frames m w all ids again none = by_more w.more w.in_order w.rest
  where
    by_more : (more : List PacketFields) → whole ≡ w.given ++ more → m ≡ flat_map packet more ++ left
        → (frames ≡ map packed whole) × (m ≡ left)
    by_more [] is rest = (w.are ∙ ap (map packed) (sym (is ∙ append-nil w.given)), rest)
    by_more (c ∷ more) is rest =
        let each = all_back w.given (c ∷ more) (subst (AllByRecursion IsPacked) is all) in
        let told =
        ids_back w.given (c ∷ more) (subst (λ (ds : List PacketFields). list_any lacks_ids ds ≡ false) is ids) in
        let n = neither (lacks_ids c) (list_any lacks_ids more) told in
        let behind = flat_map packet more ++ left in
        absurd (none (packed c) behind (ap frame_at (rest ∙ append_assoc (packet c) (flat_map packet more) left)
        ∙ frame_again c behind again each.0 n.0))

at_end_known : (m : List ℕ) (new : Option (List ℕ)) → AtEnd (Some m) new
    → (rest : List ℕ) × (next_at m ≡ Ok (None, rest))
at_end_known m new e = by_last e.last
  where
    k : (rest : List ℕ) × (new ≡ Some rest) × (m ≡ e.taken ++ rest)
    k = known m new e.taken e.consumed

    by_last : (length e.taken ≡ 4) ⊎ IsAtEnd new → (rest : List ℕ) × (next_at m ≡ Ok (None, rest))
    by_last (inl four) = (k.0, ap next_at k.2 ∙ end_stays e.taken k.0 four (is_at_end e.taken [] e.none))
    by_last (inr end) =
        let nothing : k.0 ≡ [] = subst IsAtEnd k.1 end in
        ([], ap next_at (k.2 ∙ (ap (λ (t : List ℕ). e.taken ++ t) nothing ∙ append-nil e.taken)) ∙ e.none)

end_is_no_frame : (m rest : List ℕ) → next_at m ≡ Ok (None, rest) → (s : Stored) (after : List ℕ)
    → frame_at m ≡ Ok (Some s, after) → ⊥
end_is_no_frame m rest is s after e = none_is_some s (ap frame_in (rw is at e))

fault_is_no_frame : (m : List ℕ) (f : FileError) → frame_at m ≡ Err f → (s : Stored) (after : List ℕ)
    → frame_at m ≡ Ok (Some s, after) → ⊥
fault_is_no_frame m f is s after e = none_is_some s (ap frame_in (sym is ∙ e))

cut_walked : (cs : List PacketFields) (bytes : List ℕ) (whole : List PacketFields) (h : IsCut cs bytes whole)
    (frames : List Stored) (m : List ℕ) → Again → AllByRecursion IsPacked cs → list_any lacks_ids cs ≡ false
    → Walked whole h.left frames m → ((s : Stored) (rest : List ℕ) → frame_at m ≡ Ok (Some s, rest) → ⊥)
    → (frames ≡ map packed whole) × (m ≡ h.left)
cut_walked cs bytes whole h frames m again all ids w none =
    let each = subst (AllByRecursion IsPacked) h.in_order all in
    let told = subst (λ (ds : List PacketFields). list_any lacks_ids ds ≡ false) h.in_order ids in
    all_walked whole h.left frames m w (all_front whole h.lost each) (ids_front whole h.lost told) again none

-- at the end it has given all whole frames
pub cut_ends : (cs : List PacketFields) (bytes : List ℕ) (whole : List PacketFields)
    → IsCut cs bytes whole → (mid new : Option (List ℕ)) (frames : List Stored) → Again → AllByRecursion IsPacked cs
    → list_any lacks_ids cs ≡ false
    → HasGiven (Some bytes) mid frames → AtEnd mid new → frames ≡ map packed whole
cut_ends cs bytes whole h mid new frames again all ids g e =
    let w = walked cs bytes whole h mid frames again all ids g in
    let end = at_end_known w.0 new (subst (λ (o : Option (List ℕ)). AtEnd o new) w.1 e) in
    (cut_walked cs bytes whole h frames w.0 again all ids w.2 (end_is_no_frame w.0 end.0 end.1)).0

only_truncated : (b : Bool) (f : FileError) → last_of_cut b ≡ Err f → f ≡ file.Truncated
only_truncated true f e = absurd cc
only_truncated false f e = sym (ap fault_in e)

-- a fault is `Truncated`, after all whole frames
pub cut_fails : (cs : List PacketFields) (bytes : List ℕ) (whole : List PacketFields) → IsCut cs bytes whole
    → (mid new : Option (List ℕ)) (frames : List Stored) (f : FileError) → Again → AllByRecursion IsPacked cs
    → list_any lacks_ids cs ≡ false
    → HasGiven (Some bytes) mid frames → FailsAt f mid new frame_at → (IsOutside f → ⊥)
    → (f ≡ file.Truncated) × (frames ≡ map packed whole)
cut_fails cs bytes whole h mid new frames f again all ids g e inside =
    let w = walked cs bytes whole h mid frames again all ids g in
    let fault =
    known_fault f w.0 new frame_at inside (subst (λ (o : Option (List ℕ)). FailsAt f o new frame_at) w.1 e) in
    let r = cut_walked cs bytes whole h frames w.0 again all ids w.2 (fault_is_no_frame w.0 f fault) in
    let each = subst (AllByRecursion IsPacked) h.in_order all in
    let short = ltb (length h.left) 4 in
    let stops = frame_left short h.left (left_read h.left h.lost again (all_back whole h.lost each) h.begun) in
    (only_truncated short f (sym stops ∙ (ap frame_at (sym r.1) ∙ fault)), r.0)

-- A map of frames, seen by their indices, and the sums over it.
use Rattle.std.proofs.Common.{◌≡◌, min, subst, ℕ, suc, ◌+◌, ◌-◌, ◌*◌, ◌^◌, ◌<◌, ◌≤◌, Bool, true, false, cond, List, [], ◌∷◌, length, map, Option, Some, None, refl, sym, ap, ◌∙◌, arith, suc-mul, Bor}
use Rattle.std.specs.Prelude.{unwrap_or, is_some, IsSome}
use Rattle.std.specs.declared.cmp.Ordering.TheVariants.{Less}
use Rattle.std.specs.declared.sync.Arc.{Arc}
use Rattle.std.specs.Ordering.{nat_cmp, is_eq, eq_by_cmp}
use Rattle.std.specs.Cmp.{nat_cmp_total}
use Rattle.std.specs.Option.{option_map}
use Rattle.std.specs.Map.{keys_of, values_of, lookup, remove_entry}
use Rattle.std.specs.List.{AllByRecursion, AllZip, sum_by}
use Rattle.std.specs.List.Sorted.{IsStrictlySortedBy}
use Rattle.std.specs.BTreeMap.{insert_entry, is_at}
use Rattle.std.specs.FinMap as fin
use Rattle.std.specs.FinMap.Entries.{by_order}
use Rattle.std.proofs.Math.Nat.{mod-add-mod, mod-eq_of_lt}
use Rattle.std.proofs.lemmas.Map.Keys.{sorted_head, sorted_tail}
use Rattle.std.proofs.lemmas.Map.Entries.{length-values_of, sum_by-insert_entry, sum_by-remove_entry}
use Rattle.std.proofs.lemmas.List.Sums.{sum_by-cons}
use Rattle.puffin_frames.specs.declared.frame_data.frame.FrameData.{FrameData}
use Rattle.puffin_frames.specs.declared.frame_data.held.Held.{Held}
use Rattle.puffin_frames.specs.declared.frame_data.held.Held.TheVariants.{Own, Shared, Packed, Both}
use Rattle.puffin_frames.specs.Frame.Contents.{Streams, holding_of, held_as, frame_meta, packet_fields}
use Rattle.puffin_frames.specs.Frame.Holding.{Packing, packing, as_packed}
use Rattle.puffin_view.specs.View.ViewedFrames.{Frame, packed_alone, ram_of}
use Rattle.std.specs.Arc.{arc_value}
use Rattle.puffin_view.specs.View.FrameOf.{frame_of, shared_frame}
use Rattle.std.specs.Option.{option_copied}
use Rattle.puffin_view.specs.declared.profile_view.running_stats.RunningStats.{RunningStats}
use Rattle.puffin_view.specs.View.Stats.{stats_of, cut}
use Rattle.puffin_view.specs.declared.profile_view.stats.FrameStats.{FrameStats}
use Rattle.puffin_view.specs.inner.Held.{IsSummed, frames_seen, held_of, number_if, unpacked_number, ram_taken, wrapped_sum}

-- whether a number is at a key, asked from either side
turned : (key other : ℕ) → is_at (nat_cmp key) other ≡ eq_by_cmp nat_cmp other key
turned key other = grind arith

-- a list with no items
no_length : {B : Type 0} (xs : List B) → length xs ≡ 0 → xs ≡ []
no_length [] none = refl
no_length (x ∷ xs) none = absurd (omega arith)

-- a sum with 0
pub plus_none : (n : ℕ) → n + 0 ≡ n
plus_none n = omega arith

module _ {A : Type 0} where
  -- seeing what is found at the first entry or behind it
  at_head : (here : Bool) (first : Arc FrameData A) (later : Option (Arc FrameData A))
      → cond here (Some (shared_frame first)) (option_map shared_frame later) ≡ option_map shared_frame (cond here (Some first) later)
  at_head true first later = refl
  at_head false first later = refl

  -- finding a frame among what is seen of the entries is finding it among the entries
  find-seen : (index : ℕ) (entries : List (ℕ × Arc FrameData A))
      → fin.find nat_cmp index (frames_seen entries) ≡ option_map shared_frame (lookup (is_at (nat_cmp index)) entries)
  find-seen index [] = refl
  find-seen index (entry ∷ entries) =
      ap (λ later. cond (is_eq (nat_cmp index entry.0)) (Some (shared_frame entry.1)) later) (find-seen index entries)
      ∙ at_head (is_eq (nat_cmp index entry.0)) entry.1 (lookup (is_at (nat_cmp index)) entries)

  -- a look-up in the map of frames is one in the entries
  pub get-held_of : (entries : List (ℕ × Arc FrameData A)) (index : ℕ)
      → fin.get (held_of entries) index ≡ option_map shared_frame (lookup (is_at (nat_cmp index)) entries)
  get-held_of entries index = fin.get-from_entries nat_cmp_total (frames_seen entries) index ∙ find-seen index entries

  -- seeing one of two
  mapped : (test : Bool) (one other : Option (Arc FrameData A))
      → option_map shared_frame (cond test one other) ≡ cond test (option_map shared_frame one) (option_map shared_frame other)
  mapped true one other = refl
  mapped false one other = refl

  -- after an update at one index, what is seen is updated at that index
  updated : (entries after : List (ℕ × Arc FrameData A)) (changed : ℕ) (put : Option (Arc FrameData A))
      → ((index : ℕ) → lookup (is_at (nat_cmp index)) after
      ≡ cond (is_at (nat_cmp changed) index) put (lookup (is_at (nat_cmp index)) entries))
      → (index : ℕ) → fin.get (held_of after) index
      ≡ cond (eq_by_cmp nat_cmp index changed) (option_map shared_frame put) (fin.get (held_of entries) index)
  updated entries after changed put found index =
      get-held_of after index ∙ ap (option_map shared_frame) (found index)
      ∙ mapped (is_at (nat_cmp changed) index) put (lookup (is_at (nat_cmp index)) entries)
      ∙ ap (λ test. cond test (option_map shared_frame put) (option_map shared_frame (lookup (is_at (nat_cmp index)) entries)))
      (turned changed index)
      ∙ ap (λ before. cond (eq_by_cmp nat_cmp index changed) (option_map shared_frame put) before) (sym (get-held_of entries index))

  -- putting a frame under an index, in the place of what is there, puts it there in what the map holds
  pub held_of-inserted : (entries after : List (ℕ × Arc FrameData A)) (changed : ℕ) (frame : Arc FrameData A)
      → ((index : ℕ) → lookup (is_at (nat_cmp index)) after
      ≡ cond (is_at (nat_cmp changed) index) (Some frame) (lookup (is_at (nat_cmp index)) entries))
      → held_of after ≡ fin.insert (held_of entries) changed (shared_frame frame)
  held_of-inserted entries after changed frame found =
      fin.same_map nat_cmp_total fin.nat_cmp-IsAntisymmetric (held_of after) (fin.insert (held_of entries) changed (shared_frame frame))
      (λ index. updated entries after changed (Some frame) found index
      ∙ sym (fin.get-insert nat_cmp_total (held_of entries) changed (shared_frame frame) index))

  -- removing an entry removes its frame
  pub held_of-removed : (entries after : List (ℕ × Arc FrameData A)) (removed : ℕ)
      → ((index : ℕ) → lookup (is_at (nat_cmp index)) after
      ≡ cond (is_at (nat_cmp removed) index) None (lookup (is_at (nat_cmp index)) entries))
      → held_of after ≡ fin.remove (held_of entries) removed
  held_of-removed entries after removed found =
      fin.same_map nat_cmp_total fin.nat_cmp-IsAntisymmetric (held_of after) (fin.remove (held_of entries) removed)
      (λ index. updated entries after removed None found index ∙ sym (fin.get-remove nat_cmp_total (held_of entries) removed index))

  -- where nothing is seen, nothing is found
  unseen : (found : Option (Arc FrameData A)) → option_map shared_frame found ≡ None → found ≡ None
  unseen None none = refl
  unseen (Some frame) none = cc

  -- what the map doesn't hold isn't among its entries
  pub not_seen : (entries : List (ℕ × Arc FrameData A)) (index : ℕ) → fin.get (held_of entries) index ≡ None
      → lookup (is_at (nat_cmp index)) entries ≡ None
  not_seen entries index none = unseen (lookup (is_at (nat_cmp index)) entries) (sym (get-held_of entries index) ∙ none)

  -- and what it holds is among them
  pub seen_there : (entries : List (ℕ × Arc FrameData A)) (index : ℕ) → IsSome (fin.get (held_of entries) index)
      → IsSome (lookup (is_at (nat_cmp index)) entries)
  seen_there entries index some = at (lookup (is_at (nat_cmp index)) entries) (subst IsSome (get-held_of entries index) some) where
    at : (found : Option (Arc FrameData A)) → IsSome (option_map shared_frame found) → IsSome found
    at None some = some
    at (Some frame) some = refl

  -- no entries have sums of 0
  pub none_summed : (entries : List (ℕ × Arc FrameData A)) (sums : RunningStats) → entries ≡ []
      → sums ≡ record { unpacked_frames = 0; bytes_of_ram_used = 0 } → IsSummed entries sums
  none_summed [] sums none zero =
      record { unpacked_frames = ap (λ any. any.unpacked_frames) zero; bytes = ap (λ any. any.bytes_of_ram_used) zero }
  none_summed (entry ∷ entries) sums none zero = cc

  -- a frame that is put before all others stands first
  put_first : (index : ℕ) (frame : Frame) (entries : List (ℕ × Arc FrameData A))
      → AllByRecursion (λ other. nat_cmp index other ≡ Less) (keys_of entries)
      → fin.put nat_cmp index frame (frames_seen entries) ≡ (index, frame) ∷ frames_seen entries
  put_first index frame [] before_all = refl
  put_first index frame ((first, first_frame) ∷ entries) (before_first, before_others) =
      let others = frames_seen entries in
      ap (λ order. by_order order ((index, frame) ∷ (first, shared_frame first_frame) ∷ others) ((first, frame) ∷ others)
      ((first, shared_frame first_frame) ∷ fin.put nat_cmp index frame others)) before_first

  -- the frames, in the order of their indices
  entries-held_of : (entries : List (ℕ × Arc FrameData A)) → IsStrictlySortedBy nat_cmp (keys_of entries)
      → fin.entries (held_of entries) ≡ frames_seen entries
  entries-held_of [] sorted =
      no_length (fin.entries (held_of (let none : List (ℕ × Arc FrameData A) = [] in none))) (sym
      (fin.len-entries (held_of (let none : List (ℕ × Arc FrameData A) = [] in none))) ∙ fin.len-empty nat_cmp Frame)
  entries-held_of (entry ∷ entries) sorted =
      fin.entries-insert nat_cmp_total (held_of entries) entry.0 (shared_frame entry.1)
      ∙ ap (fin.put nat_cmp entry.0 (shared_frame entry.1)) (entries-held_of entries (sorted_tail nat_cmp entry.0 _ sorted))
      ∙ put_first entry.0 (shared_frame entry.1) entries (sorted_head nat_cmp entry.0 _ sorted)

  -- the frames in what is seen of entries are those of the entries
  values-seen : (entries : List (ℕ × Arc FrameData A)) → map (λ entry. entry.1) (frames_seen entries) ≡ map shared_frame (values_of entries)
  values-seen [] = refl
  values-seen (entry ∷ entries) = ap (λ frames. shared_frame entry.1 ∷ frames) (values-seen entries)

  -- the frames of sorted entries, in order
  pub values-held_of : (entries : List (ℕ × Arc FrameData A)) → IsStrictlySortedBy nat_cmp (keys_of entries)
      → fin.values (held_of entries) ≡ map shared_frame (values_of entries)
  values-held_of entries sorted = ap (map (λ entry. entry.1)) (entries-held_of entries sorted) ∙ values-seen entries

-- ---- sums

-- a sum over what a list is mapped to
sum_by-map : {X Y : Type 0} (g : X → Y) (f : Y → ℕ) (xs : List X) → sum_by f (map g xs) ≡ sum_by (λ x. f (g x)) xs
sum_by-map g f [] = refl
sum_by-map g f (x ∷ xs) =
    sum_by-cons f (g x) (map g xs) ∙ ap (λ n. f (g x) + n) (sum_by-map g f xs) ∙ sym (sum_by-cons (λ y. f (g y)) x xs)

-- a list that is mapped has its length
length-map : {X Y : Type 0} (g : X → Y) (xs : List X) → length (map g xs) ≡ length xs
length-map g [] = refl
length-map g (x ∷ xs) = ap suc (length-map g xs)

-- a sum of numbers, each of which is this at most
sum_by-below : {X : Type 0} (size : X → ℕ) (most : ℕ) → ((x : X) → size x ≤ most) → (xs : List X) → sum_by size xs ≤ length xs * most
sum_by-below size most each [] = omega arith
sum_by-below size most each (x ∷ xs) =
    let here = each x in
    let later = sum_by-below size most each xs in
    let cons = sum_by-cons size x xs in
    let more : suc (length xs) * most ≡ length xs * most + most = suc-mul (length xs) most in
    omega arith

-- a sum that fits doesn't wrap around
fits : (sum : ℕ) → sum < 2 ^ 128 → wrapped_sum sum ≡ sum
fits sum low = mod-eq_of_lt low

module _ {A : Type 0} where
  -- a frame counts once at most
  pub number_small : (frame : Arc FrameData A) → unpacked_number frame ≤ 1
  number_small frame = one_or_none (shared_frame frame).is_unpacked where
    one_or_none : (unpacked : Bool) → number_if unpacked ≤ 1
    one_or_none true = omega arith
    one_or_none false = omega arith

  -- the bytes of a frame fit `usize`
  pub ram_small : (frame : Arc FrameData A) → ram_taken frame ≤ 2 ^ 64 - 1
  ram_small frame = omega arith

  -- the sum of unpacked frames stays below the point where it wraps around
  pub numbers_below : (entries : List (ℕ × Arc FrameData A)) → length entries < 2 ^ 64
      → sum_by unpacked_number (values_of entries) < 2 ^ 64
  numbers_below entries few =
      let number = length-values_of entries in
      let sum = sum_by-below unpacked_number 1 number_small (values_of entries) in
      omega arith

  -- the sum of the bytes stays below the point where it wraps around
  pub ram_below : (entries : List (ℕ × Arc FrameData A)) → length entries < 2 ^ 64
      → sum_by ram_taken (values_of entries) < 2 ^ 128 - 2 ^ 64
  ram_below entries few =
      let number = length-values_of entries in
      let sum = sum_by-below ram_taken (2 ^ 64 - 1) ram_small (values_of entries) in
      omega arith

  -- the sum without a frame, and that frame, if there is one
  without : (size : Arc FrameData A → ℕ) (entries : List (ℕ × Arc FrameData A)) (index : ℕ) (before : Option (Arc FrameData A))
      → before ≡ lookup (is_at (nat_cmp index)) entries
      → sum_by size (values_of (remove_entry (is_at (nat_cmp index)) entries)) + unwrap_or (option_map size before) 0
      ≡ sum_by size (values_of entries)
  without size entries index before found =
      ap (λ any. sum_by size (values_of (remove_entry (is_at (nat_cmp index)) entries)) + unwrap_or (option_map size any) 0) found
      ∙ sum_by-remove_entry size (is_at (nat_cmp index)) entries

  -- A running sum after a frame was put in the place of what was there: it was lowered by the one (from `was` to `low`) and then raised by
  -- the other (to `now`).
  pub sum_inserted : (size : Arc FrameData A → ℕ) (entries after : List (ℕ × Arc FrameData A)) (index : ℕ)
      (frame : Arc FrameData A) (before : Option (Arc FrameData A)) (was low now : ℕ) → after ≡ insert_entry nat_cmp entries index frame
      → before ≡ lookup (is_at (nat_cmp index)) entries
      → IsStrictlySortedBy nat_cmp (keys_of entries) → was ≡ wrapped_sum (sum_by size (values_of entries))
      → ((rest : ℕ) → was ≡ wrapped_sum (rest + unwrap_or (option_map size before) 0) → low ≡ wrapped_sum rest)
      → now ≡ wrapped_sum (low + size frame) → now ≡ wrapped_sum (sum_by size (values_of after))
  sum_inserted size entries after index frame before was low now put found sorted is_sum lowered raised =
      let rest : ℕ = sum_by size (values_of (remove_entry (is_at (nat_cmp index)) entries)) in
      let removed = sum_by-remove_entry size (is_at (nat_cmp index)) entries in
      let inserted = sum_by-insert_entry size nat_cmp_total entries index frame sorted in
      let more : rest + size frame ≡ sum_by size (values_of (insert_entry nat_cmp entries index frame)) = omega arith in
      raised ∙ ap (λ any. wrapped_sum (any + size frame))
      (lowered rest (is_sum ∙ ap wrapped_sum (sym (without size entries index before found)))) ∙ mod-add-mod rest (2 ^ 128) (size frame)
      ∙ ap wrapped_sum more ∙ ap (λ any. wrapped_sum (sum_by size (values_of any))) (sym put)

  -- a running sum after an entry was removed
  pub sum_removed : (size : Arc FrameData A → ℕ) (entries after : List (ℕ × Arc FrameData A))
      (index : ℕ) (before : Option (Arc FrameData A)) (was now : ℕ) → after ≡ remove_entry (is_at (nat_cmp index)) entries
      → before ≡ lookup (is_at (nat_cmp index)) entries
      → was ≡ wrapped_sum (sum_by size (values_of entries))
      → ((rest : ℕ) → was ≡ wrapped_sum (rest + unwrap_or (option_map size before) 0) → now ≡ wrapped_sum rest)
      → now ≡ wrapped_sum (sum_by size (values_of after))
  sum_removed size entries after index before was now cut found is_sum lowered =
      lowered (sum_by size (values_of (remove_entry (is_at (nat_cmp index)) entries)))
      (is_sum ∙ ap wrapped_sum (sym (without size entries index before found)))
      ∙ ap (λ any. wrapped_sum (sum_by size (values_of any))) (sym cut)

  -- what a look-up lends is seen as what it finds
  pub seen_copied : (lent : Option (Bor (Arc FrameData A))) (found : Option (Arc FrameData A)) → option_copied lent ≡ found
      → option_map (λ frame. shared_frame frame.now) lent ≡ option_map shared_frame found
  seen_copied lent found is = seen_lent lent ∙ ap (option_map shared_frame) is where
    seen_lent : (lent : Option (Bor (Arc FrameData A)))
        → option_map (λ frame. shared_frame frame.now) lent ≡ option_map shared_frame (option_copied lent)
    seen_lent None = refl
    seen_lent (Some frame) = refl

  -- what the sums say is what the frames say
  pub stats_summed : (entries : List (ℕ × Arc FrameData A)) (number : ℕ) (sums : RunningStats) → number ≡ length entries → number < 2 ^ 64
      → IsStrictlySortedBy nat_cmp (keys_of entries) → IsSummed entries sums → record {
        frames = number;
        unpacked_frames =
            cut sums.unpacked_frames;
        bytes_of_ram_used = cut sums.bytes_of_ram_used;
      } ≡ stats_of (fin.values (held_of entries))
  stats_summed entries number sums many few ordered summed =
      let frames : List Frame = map shared_frame (values_of entries) in
      let made : List Frame → FrameStats = stats_of in
      let low : length entries < 2 ^ 64 = subst (λ any. any < 2 ^ 64) many few in
      let numbers = numbers_below entries low in
      let ram = ram_below entries low in
      let long : length entries ≡ length frames = sym (length-values_of entries) ∙ sym (length-map shared_frame (values_of entries)) in
      let count : number ≡ cut (length frames) = omega arith in
      let unpacked = summed.unpacked_frames ∙ fits (sum_by unpacked_number (values_of entries)) (omega arith)
      ∙ sym (sum_by-map shared_frame (λ (frame : Frame). number_if frame.is_unpacked) (values_of entries)) in
      let bytes = summed.bytes ∙ fits (sum_by ram_taken (values_of entries)) (omega arith)
      ∙ sym (sum_by-map shared_frame ram_of (values_of entries)) in
      let same : record {
        frames = number;
        unpacked_frames = cut sums.unpacked_frames;
        bytes_of_ram_used = cut sums.bytes_of_ram_used;
      } ≡ made frames =
      λ i. record { frames = count i; unpacked_frames = cut (unpacked i); bytes_of_ram_used = cut (bytes i) } in
      same ∙ ap made (sym (values-held_of entries ordered))

-- ---- a clone has the same frames

module _ {A : Type 0} where
  -- entry by entry the same index, and a frame with the same contents
  abbrev pub AreCloned : List (ℕ × Arc FrameData A) → List (ℕ × Arc FrameData A) → Type 0
  AreCloned = AllZip (λ entry clone. (clone.0 ≡ entry.0) × (arc_value clone.1 ≡ arc_value entry.1))

  -- cloned entries are seen as the same
  pub seen_cloned : (entries clones : List (ℕ × Arc FrameData A))
      → AreCloned entries clones → frames_seen clones ≡ frames_seen entries
  seen_cloned [] [] cloned = refl
  seen_cloned [] (clone ∷ clones) cloned = absurd cloned
  seen_cloned (entry ∷ entries) [] cloned = absurd cloned
  seen_cloned (entry ∷ entries) (clone ∷ clones) ((same_index, same_frame), others) =
      λ i. (same_index i, frame_of (same_frame i)) ∷ seen_cloned entries clones others i

  -- so they have the same frames
  frames_cloned : (entries clones : List (ℕ × Arc FrameData A))
      → AreCloned entries clones
      → map shared_frame (values_of clones) ≡ map shared_frame (values_of entries)
  frames_cloned entries clones cloned =
      sym (values-seen clones) ∙ ap (map (λ entry. entry.1)) (seen_cloned entries clones cloned) ∙ values-seen entries

  -- and the same sum of what is seen of each
  sum_cloned : (size : Frame → ℕ) (entries clones : List (ℕ × Arc FrameData A))
      → AreCloned entries clones
      → sum_by (λ frame. size (shared_frame frame)) (values_of entries) ≡ sum_by (λ frame. size (shared_frame frame)) (values_of clones)
  sum_cloned size entries clones cloned =
      sym (sum_by-map shared_frame size (values_of entries))
      ∙ ap (sum_by size) (sym (frames_cloned entries clones cloned))
      ∙ sum_by-map shared_frame size (values_of clones)

  -- so the running sums are right for them
  pub summed_cloned : (entries clones : List (ℕ × Arc FrameData A)) (sums : RunningStats)
      → AreCloned entries clones → IsSummed entries sums → IsSummed clones sums
  summed_cloned entries clones sums cloned summed = record {
    unpacked_frames = summed.unpacked_frames ∙ ap wrapped_sum (sum_cloned (λ frame. number_if frame.is_unpacked) entries clones cloned);
    bytes = summed.bytes ∙ ap wrapped_sum (sum_cloned ram_of entries clones cloned);
  }

-- the bytes that a frame takes, as its sizes say it
ram_at : (packed : Option Packing) (unpacked : Option Streams) (size : ℕ)
    → min (unwrap_or (option_map (λ _. size) unpacked) 0 + unwrap_or (option_map (λ any. length any.bytes) packed) 0) (2 ^ 64 - 1)
    ≡ min (cond (is_some unpacked) size 0 + cond (is_some packed) (length (packing packed unpacked).bytes) 0) (2 ^ 64 - 1)
ram_at None None size = refl
ram_at None (Some unpacked) size = refl
ram_at (Some packed) None size = refl
ram_at (Some packed) (Some unpacked) size = refl

-- the bytes that a frame tells are those that a view counts
pub ram_says : (frame : FrameData) → min (unwrap_or (option_map (λ _. (frame_meta frame).num_bytes) (holding_of frame).unpacked) 0
    + unwrap_or (option_map (λ any. length any.bytes) (holding_of frame).packed) 0) (2 ^ 64 - 1) ≡ ram_of (frame_of frame)
ram_says frame = ram_at (holding_of frame).packed (holding_of frame).unpacked (frame_meta frame).num_bytes

-- a copy that is held packed only is seen as such
pub packed_copied : (frame copy : FrameData) → holding_of copy ≡ as_packed (holding_of frame) → packet_fields copy ≡ packet_fields frame
    → frame_of copy ≡ packed_alone (frame_of frame)
packed_copied frame copy held says =
    λ i. record { fields = says i; is_unpacked = is_some (held i).unpacked; is_packed = is_some (held i).packed }

-- what isn't held unpacked is held packed
held_packed : (held : Held) → is_some (held_as held).unpacked ≡ false → is_some (held_as held).packed ≡ true
held_packed (Own frame) not_unpacked = absurd cc
held_packed (Shared frame) not_unpacked = absurd cc
held_packed (Packed packed) not_unpacked = refl
held_packed (Both both) not_unpacked = refl

-- so a frame that isn't held unpacked is seen as one that is held packed only
pub packed_already : (frame : FrameData) → is_some (holding_of frame).unpacked ≡ false → frame_of frame ≡ packed_alone (frame_of frame)
packed_already frame not_unpacked = λ i. record {
  fields = packet_fields frame;
  is_unpacked = not_unpacked i;
  is_packed = held_packed frame.held not_unpacked i;
}

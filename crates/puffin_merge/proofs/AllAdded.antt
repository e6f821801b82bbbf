-- A slice of frames is added, one after the other.
use Rattle.std.proofs.Common.{◌≡◌, ℕ, ◌+◌, ◌<◌, ◌≤◌, List, [], ◌∷◌, ◌++◌, length, take, drop, get_or, ◌⊎◌, refl, sym, ap, subst, ◌∙◌, Result, Ok, Err, Vec}
use Rattle.std.specs.Prelude.{IfOk, IfErr}
use Rattle.std.specs.Arc.{arc_value}
use Rattle.std.specs.declared.sync.Arc.{Arc}
use Rattle.std.specs.declared.alloc.Global.{Global}
use Rattle.std.proofs.lemmas.List.{take-append-drop}
use Rattle.puffin_data.specs.declared.error.Error.{Error}
use Rattle.puffin_data.specs.declared.error.Error.TheVariants.{Memory}
use Rattle.puffin_frames.specs.declared.frame_data.unpacked.UnpackedFrameData.{UnpackedFrameData}
use Rattle.puffin_threads.specs.Thread.ThreadKey.{ThreadKey}
use Rattle.puffin_merge.specs.declared.merge.merger.Merger.{Merger}
use Rattle.puffin_merge.specs.declared.merge.scope.MergeScope.{MergeScope}
use Rattle.puffin_merge.specs.Merge.Occurrences.{Occurrence, FrameScopes, occurrences_from, occurrences}
use Rattle.puffin_merge.specs.Merge.FrameBytes.{FrameBytes, start_of, HaveScopes, most_tries_of, most_tries}
use Rattle.puffin_merge.specs.Merge.Refusals.{IsRefusalAfter, AreAccepted, AreMerged, ReadsFew}
use Rattle.puffin_merge.specs.Merge.Scopes.{frame_bytes, frames_bytes, forest_in}
use Rattle.puffin_merge.specs.Merge.Merger.{HasAdded, tries_for}
use Rattle.puffin_merge.proofs.FramesRead.{tries_more, take_push, split_at, take_all, size_mapped}
use Rattle.puffin_merge.proofs.Adding.{from_first}

abbrev Held : Type 0
Held = Arc UnpackedFrameData Global

abbrev bytes_in : ThreadKey → Held → FrameBytes
bytes_in info held = frame_bytes info (arc_value held)

-- the first frames were added, with so many tries
abbrev pub AddedFirst : List FrameBytes → ℕ → Merger → ℕ → Type 0
AddedFirst frames i m tried = (h : HasAdded (take i frames) m) × (tries_for h ≡ tried)

-- before the loop no frame was added
pub none_first : (frames : List FrameBytes) (m : Merger) → HasAdded [] m → AddedFirst frames 0 m 0
none_first frames m h = (h, tried h.scopes h.have) where
  tried : (scopes : List FrameScopes) → HaveScopes [] scopes → length (occurrences scopes) ≡ 0
  tried [] x = refl
  tried (s ∷ scopes) x = absurd x

-- one more of the frames was added
pub one_more_first : (info : ThreadKey) (frames : List Held) (i : ℕ) (x : Held)
    (f : FrameBytes) (m n : Merger) (tried made : ℕ) → i < length frames → x ≡ get_or frames i x → f ≡ bytes_in info x
    → AddedFirst (frames_bytes info frames) i m tried
    → ((added : List FrameBytes) → (before : HasAdded added m) → (h : HasAdded (added ++ (f ∷ [])) n)
    × (tries_for h ≡ tries_for before + made)) → AddedFirst (frames_bytes info frames) (i + 1) n (tried + made)
one_more_first info frames i x f m n tried made lt ex ef a adds =
    let more = adds (take i (frames_bytes info frames)) a.0 in
    let split : take i (frames_bytes info frames) ++ (f ∷ []) ≡ take (i + 1) (frames_bytes info frames) =
    ap (λ (y : FrameBytes). take i (frames_bytes info frames) ++ (y ∷ [])) ef
    ∙ sym (take_push (bytes_in info) frames i x lt ex) in
    subst (λ (xs : List FrameBytes). (h : HasAdded xs n) × (tries_for h ≡ tried + made)) split
    (more.0, more.1 ∙ ap (λ (k : ℕ). k + made) a.1)

-- a frame's refusal is the refusal of all frames
pub refused_first : (info : ThreadKey) (frames : List Held) (i : ℕ) (x : Held) (f : FrameBytes)
    (m : Merger) (tried made : ℕ) (e : Error) → i < length frames → x ≡ get_or frames i x → f ≡ bytes_in info x
    → AddedFirst (frames_bytes info frames) i m tried
    → ((added later : List FrameBytes) → (h : HasAdded added m) → (e ≡ Memory) ⊎ IsRefusalAfter (added ++ (f ∷ later))
    (tries_for h + made) e) → (e ≡ Memory) ⊎ IsRefusalAfter (frames_bytes info frames) (tried + made) e
refused_first info frames i x f m tried made e lt ex ef a refuses =
    let all = frames_bytes info frames in
    let split : take i all ++ (f ∷ drop (i + 1) all) ≡ all =
    ap (λ (y : FrameBytes). take i all ++ (y ∷ drop (i + 1) all)) ef
    ∙ sym (split_at (bytes_in info) frames i x lt ex) in
    subst (λ (xs : List FrameBytes). (e ≡ Memory) ⊎ IsRefusalAfter xs (tried + made) e) split
    (subst (λ (k : ℕ). (e ≡ Memory) ⊎ IsRefusalAfter (take i all ++ (f ∷ drop (i + 1) all)) (k + made) e) a.1
    (refuses (take i all) (drop (i + 1) all) a.0))

-- what the merger reads of a frame is what it holds for the thread
pub same_bytes : (info again : ThreadKey) (frame : UnpackedFrameData) (x : Held) → again ≡ info → frame ≡ arc_value x
    → frame_bytes again frame ≡ bytes_in info x
same_bytes info again frame x e f = λ i. frame_bytes (e i) (f i)

-- the tries so far stay within the walks' bounds
pub tries_first : (info : ThreadKey) (frames : List Held) (i : ℕ) (x : Held) (f : FrameBytes) (tried made : ℕ)
    → i < length frames → x ≡ get_or frames i x → f ≡ bytes_in info x
    → tried ≤ most_tries (take i (frames_bytes info frames)) → made ≤ most_tries_of f
    → tried + made ≤ most_tries (take (i + 1) (frames_bytes info frames))
tries_first info frames i x f tried made lt ex ef h k =
    tries_more (frames_bytes info frames) i (bytes_in info x) tried made (take_push (bytes_in info) frames i x lt ex)
    h (subst (λ (y : FrameBytes). made ≤ most_tries_of y) ef k)

-- at most one frame was read after those that were added
pub few_first : (frames : List FrameBytes) (i : ℕ) (m : Merger) (tried n : ℕ) → AddedFirst frames i m tried
    → n ≤ most_tries (take (i + 1) frames) → ReadsFew frames n
few_first frames i m tried n a few =
    let h = a.0 in
    let same : occurrences_from (start_of frames) h.scopes ≡ occurrences h.scopes =
    ap (λ (xs : List FrameBytes). occurrences_from (start_of xs) h.scopes) (sym (take-append-drop i frames))
    ∙ from_first (take i frames) (drop i frames) h.scopes h.have in
    record {
      accepted = i;
      scopes = h.scopes;
      have = h.have;
      fine = subst (λ (xs : List Occurrence). AreAccepted [] xs) (sym same) h.accepted;
      few = few;
    }

-- ---- the end

abbrev AddedAll : List FrameBytes → Merger → ℕ → Type 0
AddedAll frames m tried = (h : HasAdded frames m) × (tries_for h ≡ tried)

all_first : (info : ThreadKey) (frames : List Held) (i : ℕ) (m : Merger) (tried : ℕ) → i ≡ length frames
    → AddedFirst (frames_bytes info frames) i m tried → AddedAll (frames_bytes info frames) m tried
all_first info frames i m tried e a =
    let size = size_mapped (bytes_in info) frames in
    subst (λ (xs : List FrameBytes). AddedAll xs m tried)
    (ap (λ (k : ℕ). take k (frames_bytes info frames)) (e ∙ sym size) ∙ take_all (frames_bytes info frames)) a

-- once all frames are added, what `finish` returns is their merge
pub merged_first : (info : ThreadKey) (frames : List Held) (i : ℕ) (m : Merger) (tried : ℕ)
    (r : Result (Vec MergeScope Global) Error) → i ≡ length frames → AddedFirst (frames_bytes info frames) i m tried
    → IfOk r (λ merged. (added : List FrameBytes) → (h : HasAdded added m)
    → (x : AreMerged added (forest_in merged.items)) × (tries_for h ≡ length (occurrences x.scopes)))
    → IfOk r (λ merged. (x : AreMerged (frames_bytes info frames) (forest_in merged.items))
    × (tried ≡ length (occurrences x.scopes)))
merged_first info frames i m tried (Err e) at a k = tt
merged_first info frames i m tried (Ok merged) at a k = let all = all_first info frames i m tried at a in
    let x = k (frames_bytes info frames) all.0 in (x.0, sym all.1 ∙ x.1)

-- once all frames are added, the refusal of `finish` is theirs
pub ended_first : (info : ThreadKey) (frames : List Held) (i : ℕ) (m : Merger) (tried : ℕ)
    (r : Result (Vec MergeScope Global) Error) → i ≡ length frames → AddedFirst (frames_bytes info frames) i m tried
    → IfErr r (λ e. (added : List FrameBytes) → (h : HasAdded added m) → (e ≡ Memory) ⊎ IsRefusalAfter added
    (tries_for h) e) → IfErr r (λ e. (e ≡ Memory) ⊎ IsRefusalAfter (frames_bytes info frames) tried e)
ended_first info frames i m tried (Ok merged) at a k = tt
ended_first info frames i m tried (Err e) at a k =
    let all = all_first info frames i m tried at a in
    subst (λ (n : ℕ). (e ≡ Memory) ⊎ IsRefusalAfter (frames_bytes info frames) n e) all.1
    (k (frames_bytes info frames) all.0)

-- What a share counts through which only frames are taken.
use Rattle.std.proofs.Common.{◌≡◌, ℕ, ◌+◌, ◌<◌, ◌^◌, List, [], ◌∷◌, ◌++◌, Option, Some, None, length, inl}
use Rattle.std.proofs.Common.{inr, refl, ap, sym, subst, ◌∙◌, arith}
use Rattle.std.specs.Arc.{arc_value}
use Rattle.std.specs.FinMap as map
use Rattle.std.specs.declared.sync.Arc.{Arc}
use Rattle.std.specs.Prelude.{IfOk, OnErr, Result, Ok, Err}
use Rattle.std.proofs.lemmas.List.{length-append, append-nil}
use Rattle.std.proofs.lemmas.List.Elements.{All-nil, All-push}
use Rattle.std.proofs.lemmas.List.Concat.{flat_map-append}
use Rattle.std.proofs.lemmas.List.Sums.{sum_by-append}
use Rattle.puffin_frames.specs.declared.frame_data.frame.FrameData.{FrameData}
use Rattle.puffin_frames.specs.Frame.Contents.{Streams, AreHonest, holding_of, frame_meta}
use Rattle.puffin_frames.specs.Frame.Holding.{Holding}
use Rattle.puffin_frames.specs.Frame.Sums.{total_scopes}
use Rattle.puffin_threads.specs.Thread.ThreadKey.{ThreadKey}
use Rattle.puffin_data.specs.Honesty.{StreamFacts}
use Rattle.puffin.specs.Happenings.{Happening, Mark, framed, marked, reports_under, report_under, frames_in, frame_of}
use Rattle.puffin.specs.Members.{Member, IsNewMember, TakesFrame, Marks}
use Rattle.puffin.specs.Shares.{CountsFrame, SpellsItsScopes}
use Rattle.puffin.specs.Taking.{CountsTaken, IsTaken, TakesMore, TakesLast, num_scopes_in, TookAll, FramesOnce}
use Rattle.puffin.proofs.TellingShares.{nothing_told}

no_report : (i : ThreadKey) (own : List Happening) (streams : Streams)
    → reports_under i (own ++ framed streams ∷ []) ≡ reports_under i own
no_report i [] streams = refl
no_report i (h ∷ hs) streams = ap (λ (rs : List StreamFacts). report_under i h ++ rs) (no_report i hs streams)

assoc : (xs ys zs : List Streams) → xs ++ (ys ++ zs) ≡ (xs ++ ys) ++ zs
assoc [] ys zs = refl
assoc (x ∷ xs) ys zs = ap (λ (rest : List Streams). x ∷ rest) (assoc xs ys zs)

one_frame : (own : List Happening) (streams : Streams) → frames_in (own ++ framed streams ∷ []) ≡ frames_in own ++ streams ∷ []
one_frame [] streams = refl
one_frame (h ∷ hs) streams = ap (λ (fs : List Streams). frame_of h ++ fs) (one_frame hs streams)
    ∙ assoc (frame_of h) (frames_in hs) (streams ∷ [])

same_streams : (h : Holding) (a b : Streams) → h ≡ record { packed = None; unpacked = Some a }
    → h ≡ record { packed = None; unpacked = Some b } → a ≡ b
same_streams h a b p q = let both = ap (λ (x : Holding). x.unpacked) (sym p ∙ q) in cc

-- a share through which nothing happened
pub took_none : (m : Member) → IsNewMember m → TookAll m 0
took_none m new = record {
  quiet = λ i. ap (λ (own : List Happening). length (reports_under i own)) (nothing_told m new);
  as_many = λ few. sym (ap (λ (own : List Happening). length (frames_in own)) (nothing_told m new));
  handed = ap (λ c. c.handed) new.counts ∙ sym (ap (λ (own : List Happening). num_scopes_in (frames_in own)) (nothing_told m new));
}

pub taken_more : {A : Type 0} (old new : Member) (f : Option (Arc FrameData A)) → TakesFrame old f new
    → IsTaken (frames_in old.own) f (frames_in new.own)
taken_more old new None is = ap (λ (m : Member). frames_in m.own) is
taken_more old new (Some frame) is = (is.1, is.3, ap frames_in is.4.own ∙ one_frame old.own is.1)

-- and after one call more
pub took_more : {A : Type 0} (old new : Member) (f : Option (Arc FrameData A)) (refused frames missed after missed_after : ℕ)
    → TakesFrame old f new → CountsFrame old.counts f new.counts → SpellsItsScopes f
    → CountsTaken f refused (frames, missed) (after, missed_after) → TookAll old frames
    → TookAll new after
took_more old new None refused frames missed after missed_after is counts spells counted took =
    subst (λ (n : ℕ). TookAll new n) (sym (ap (λ (p : ℕ × ℕ). p.0) counted))
    (subst (λ (m : Member). TookAll m frames) (sym is) took)
took_more old new (Some frame) refused frames missed after missed_after is counts spells counted took =
    let due = is.1 in
    let more : frames_in new.own ≡ frames_in old.own ++ due ∷ [] = ap frames_in is.4.own ∙ one_frame old.own due in
    let longer : length (frames_in new.own) ≡ length (frames_in old.own) + 1 = ap length more
    ∙ length-append (frames_in old.own) (due ∷ []) in
    let same : spells.0 ≡ due = same_streams (holding_of (arc_value frame)) spells.0 due spells.1 is.3 in
    let whole : num_scopes_in (frames_in new.own) ≡ num_scopes_in (frames_in old.own) + total_scopes (map.values due) =
    ap num_scopes_in more ∙ sum_by-append (λ (s : Streams). total_scopes (map.values s)) (frames_in old.own) (due ∷ [])
    ∙ omega arith in
    let one : (frame_meta (arc_value frame)).num_scopes ≡ total_scopes (map.values due) = spells.3
    ∙ ap (λ (s : Streams). total_scopes (map.values s)) same in
    record {
      quiet = λ i. ap (λ (own : List Happening). length (reports_under i own)) is.4.own ∙ ap length (no_report i old.own due)
          ∙ took.quiet i;
      as_many = λ few. let before : length (frames_in old.own) < 2 ^ 64 = omega (arith, few, longer) in
          let so_far = took.as_many before in counted.0 ∙ omega (arith, few, longer, so_far);
      handed = let sum : new.counts.handed ≡ old.counts.handed + (frame_meta (arc_value frame)).num_scopes =
          ap (λ c. c.handed) counts in omega (arith, sum, one, whole, took.handed);
    }

-- ---- any number of frames

-- no frame yet
pub takes_none : (old : List Streams) → TakesMore old old
takes_none old = record {
  more = [];
  behind = sym (append-nil old);
  honest = All-nil (λ s. AreHonest s × (0 < total_scopes (map.values s)));
}

takes_one : {A : Type 0} (old before new : List Streams) (f : Option (Arc FrameData A)) → TakesMore old before → SpellsItsScopes f
    → IsTaken before f new → TakesMore old new
takes_one old before new None takes spells is = subst (TakesMore old) (sym is) takes
takes_one old before new (Some frame) takes spells is =
    let streams = is.0 in
    let same : spells.0 ≡ streams = same_streams (holding_of (arc_value frame)) spells.0 streams spells.1 is.1 in
    let some : 0 < total_scopes (map.values spells.0) = subst (λ (n : ℕ). 0 < n) spells.3 spells.4 in
    let its = subst (λ (s : Streams). AreHonest s × (0 < total_scopes (map.values s))) same (spells.2, some) in
    record {
      more = takes.more ++ streams ∷ [];
      behind = is.2 ∙ ap (λ (fs : List Streams). fs ++ streams ∷ []) takes.behind ∙ sym (assoc old takes.more (streams ∷ []));
      honest = All-push (λ s. AreHonest s × (0 < total_scopes (map.values s))) takes.more streams takes.honest its;
    }

-- and after one call more, whatever it answers
pub takes_next : {A E X : Type 0} (r : Result X E) (frame : X → Option (Arc FrameData A)) (old before new : List Streams)
    → TakesMore old before → IfOk r (λ x. SpellsItsScopes (frame x)) → IfOk r (λ x. IsTaken before (frame x) new)
    → OnErr r (new ≡ before) → TakesMore old new
takes_next (Ok x) frame old before new takes spells is same = takes_one old before new (frame x) takes spells is
takes_next (Err e) frame old before new takes spells is same = subst (TakesMore old) (sym same) takes

pub takes_last : {A E X : Type 0} (r : Result X E) (frame : X → Option (Arc FrameData A)) (old before new : List Streams)
    → TakesMore old before → IfOk r (λ x. IsTaken before (frame x) new) → IfOk r (λ x. TakesLast old (frame x) new)
takes_last (Ok x) frame old before new takes is = (before, takes, is)
takes_last (Err e) frame old before new takes is = tt

pub takes_refused : {E X : Type 0} (r : Result X E) (old before new : List Streams) → TakesMore old before → OnErr r (new ≡ before)
    → OnErr r (TakesMore old new)
takes_refused (Ok x) old before new takes same = tt
takes_refused (Err e) old before new takes same = subst (TakesMore old) (sym same) takes

-- ---- marks

-- a share that marks something took as many frames
pub still_took : (old new : Member) (mark : Mark) (frames : ℕ) → Marks old mark new → TookAll old frames → TookAll new frames
still_took old new mark frames marks took = record {
  quiet = λ i. ap (λ (own : List Happening). length (reports_under i own)) marks.own
      ∙ ap length (flat_map-append (report_under i) old.own (marked mark ∷ []) ∙ append-nil (reports_under i old.own))
      ∙ took.quiet i;
  as_many = λ few. took.as_many (subst (λ (fs : List Streams). length fs < 2 ^ 64) same few) ∙ ap length (sym same);
  handed = ap (λ c. c.handed) marks.counts ∙ took.handed ∙ ap num_scopes_in (sym same);
}
  where
    same : frames_in new.own ≡ frames_in old.own
    same = ap frames_in marks.own ∙ flat_map-append frame_of old.own (marked mark ∷ []) ∙ append-nil (frames_in old.own)

-- whatever a call answers, its share tells of one frame more at most
pub took_once : {A E X S : Type 0} (r : Result X E) (frame : X → Option (Arc FrameData A)) (old new : Member)
    → IfOk r (λ x. TakesFrame old (frame x) new) → (S → new ≡ old) → OnErr r S → FramesOnce old.own new.own
took_once (Err e) frame old new takes is same = inl (ap (λ (m : Member). m.own) (is same))
took_once (Ok x) frame old new takes is same = at (frame x) takes
  where
    at : {A : Type 0} (f : Option (Arc FrameData A)) → TakesFrame old f new → FramesOnce old.own new.own
    at None is = inl (ap (λ (m : Member). m.own) is)
    at (Some frame) (before, due, pending, held, told) = inr (due, told.own)

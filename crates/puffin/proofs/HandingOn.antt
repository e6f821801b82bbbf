-- A frame handed to one sink more.
use Rattle.std.proofs.Common.{◌≡◌, ℕ, ◌+◌, ◌<◌, ◌≤◌, List, [], ◌∷◌, ◌++◌, length, take, drop, set, get_or}
use Rattle.std.proofs.Common.{sum_by, map, refl, sym, ap, ◌∙◌, subst, arith, add-zero}
use Rattle.std.specs.Prelude.{Result, Ok, Err}
use Rattle.std.specs.declared.alloc.Global.{Global}
use Rattle.std.specs.declared.dyn_box.DynBox.{DynBox}
use Rattle.std.proofs.lemmas.List.{take_all, take_more, take_more_set, get_or-drop, take_at, drop-set-lt, drop-drop}
use Rattle.std.proofs.lemmas.List.Sums.{sum_by-append}
use Rattle.puffin_frames.specs.declared.frame_data.frame.FrameData.{FrameData}
use Rattle.puffin_data.specs.declared.error.Error.{Error}
use Rattle.puffin.specs.declared.global_profiler.sinks.SinkEntry.{SinkEntry}
use Rattle.puffin.specs.declared.global_profiler.handing.Outcome.{Outcome}
use Rattle.puffin.specs.declared.global_profiler.sink.Sink.{Sink}
use Rattle.puffin.specs.declared.global_profiler.sink.Sink.TheVariants.{Boxed}
use Rattle.puffin.specs.declared.global_profiler.handing.Outcome.TheVariants.{Accepted, Refused}
use Rattle.puffin.specs.Sinks.Handing.{Answers, HandedTo, Handed, HandsOn, refusal}
use Rattle.puffin.specs.inner.Numbers.{AreNumbered}
use Rattle.std.specs.List.Sorted.{IsStrictlyIncreasing}

module _ {I : Type 0} {F : I → Type 0} (accepts : (b : DynBox I Global F) → F b.vtable → FrameData → Result (Unit {0}) Error
    → F b.vtable → Type 0) where
  -- a boxed sink that accepted
  pub handed-accepted : (frame copy : FrameData) (s : Sink I F) (b c : DynBox I Global F) (r : Result (Unit {0}) Error)
      → copy ≡ frame → s ≡ Boxed b → r ≡ Ok tt → Answers accepts b copy r c → HandedTo accepts frame s Accepted (Boxed c)
  handed-accepted frame copy s b c r same is ok a =
      let P : Sink I F → Type 0 = λ t. HandedTo accepts frame t Accepted (Boxed c) in
      let Q : FrameData → Result (Unit {0}) Error → Type 0 = λ x y. Answers accepts b x y c in
      subst P (sym is) (c, subst (λ x. Q x (Ok tt)) same (subst (λ y. Q copy y) ok a), refl)

  -- a boxed sink that refused
  pub handed-refused : (frame copy : FrameData) (s : Sink I F) (b c : DynBox I Global F) (r : Result (Unit {0}) Error) (e : Error)
      → copy ≡ frame → s ≡ Boxed b → r ≡ Err e → Answers accepts b copy r c → HandedTo accepts frame s Refused (Boxed c)
  handed-refused frame copy s b c r e same is err a =
      let P : Sink I F → Type 0 = λ t. HandedTo accepts frame t Refused (Boxed c) in
      let Q : FrameData → Result (Unit {0}) Error → Type 0 = λ x y. Answers accepts b x y c in
      subst P (sym is) (c, e, subst (λ x. Q x (Err e)) same (subst (λ y. Q copy y) err a), refl)

  -- the sinks that are still to come
  pub rest-more : (init now : List (SinkEntry I F)) (i : ℕ) (f : SinkEntry I F) → drop i now ≡ drop i init
      → drop (i + 1) (set now i f) ≡ drop (i + 1) init
  rest-more init now i f rest =
      drop-set-lt (i + 1) now i f (omega arith) ∙ sym (drop-drop 1 i now) ∙ ap (drop 1) rest ∙ drop-drop 1 i init

  -- one sink more at the end of the lists
  pub handed-snoc : (frame : FrameData) (olds : List (SinkEntry I F)) (outcomes : List Outcome) (news : List (SinkEntry I F))
      (e : SinkEntry I F) (o : Outcome) (f : SinkEntry I F) → Handed accepts frame olds outcomes news → f.id ≡ e.id
      → HandedTo accepts frame e.sink o f.sink → Handed accepts frame (olds ++ e ∷ []) (outcomes ++ o ∷ []) (news ++ f ∷ [])
  handed-snoc frame [] [] [] e o f handed id to = (id, to, tt)
  handed-snoc frame [] [] (g ∷ news) e o f handed id to = absurd handed
  handed-snoc frame [] (p ∷ outcomes) news e o f handed id to = absurd handed
  handed-snoc frame (d ∷ olds) [] news e o f handed id to = absurd handed
  handed-snoc frame (d ∷ olds) (p ∷ outcomes) [] e o f handed id to = absurd handed
  handed-snoc frame (d ∷ olds) (p ∷ outcomes) (g ∷ news) e o f (first, its, rest) id to =
      (first, its, handed-snoc frame olds outcomes news e o f rest id to)

  -- the sinks so far, and one more
  pub handed-more : (frame : FrameData) (init now : List (SinkEntry I F)) (i : ℕ) (d f : SinkEntry I F)
      (o : Outcome) (refused n : ℕ) → i < length now → length now ≡ length init → drop i now ≡ drop i init
      → (outcomes : List Outcome) × Handed accepts frame (take i init) outcomes (take i now) × (refused ≡ sum_by refusal outcomes)
      → f.id ≡ (get_or now i d).id → HandedTo accepts frame (get_or now i d).sink o f.sink → n ≡ refusal o
      → (outcomes : List Outcome) × Handed accepts frame (take (i + 1) init) outcomes (take (i + 1) (set now i f))
      × (refused + n ≡ sum_by refusal outcomes)
  handed-more frame init now i d f o refused n below same rest (outcomes, handed, count) id to counted =
      let e = get_or now i d in
      let at : (xs : List (SinkEntry I F)) → get_or (drop i xs) 0 d ≡ get_or xs i d = λ xs. get_or-drop i xs 0 d
      ∙ ap (λ k. get_or xs k d) (add-zero i) in
      let there : get_or init i d ≡ e = sym (at init) ∙ ap (λ xs. get_or xs 0 d) (sym rest) ∙ at now in
      let before = take_more init i d (omega (arith, below, same)) ∙ ap (λ x. take i init ++ x ∷ []) there in
      let after = take_more_set now i f below in
      let P : List (SinkEntry I F) → List (SinkEntry I F) → Type 0 = λ x y. Handed accepts frame x (outcomes ++ o ∷ []) y in
      let whole = subst (λ x. P x (take (i + 1) (set now i f))) (sym before)
      (subst (λ y. P (take i init ++ e ∷ []) y) (sym after)
      (handed-snoc frame (take i init) outcomes (take i now) e o f handed id to)) in (
        outcomes ++ o ∷ [],
        whole,
        omega (arith, count, counted, sum_by-append refusal outcomes (o ∷ [])),
      )

  -- what is written through the slice of a vector
  pub handed-back : (frame : FrameData) (items old new : List (SinkEntry I F)) (len n : ℕ) → old ≡ items
      → length new ≡ length old → len ≡ length items
      → (outcomes : List Outcome) × Handed accepts frame old outcomes new × (n ≡ sum_by refusal outcomes)
      → (outcomes : List Outcome) × Handed accepts frame items outcomes (take len (new ++ drop (length new) items))
      × (n ≡ sum_by refusal outcomes)
  handed-back frame items old new len n same size is (outcomes, handed, count) =
      let back = take_at new (drop (length new) items) len (omega (arith, size, is, ap length same)) in
      let P : List (SinkEntry I F) → List (SinkEntry I F) → Type 0 = λ x y. Handed accepts frame x outcomes y in
      (outcomes, subst (λ y. P items y) (sym back) (subst (λ x. P x new) same handed), count)

  -- after the last sink
  pub handed-whole : (frame : FrameData) (init now : List (SinkEntry I F)) (i refused : ℕ) → length now ≤ i
      → length now ≡ length init
      → (outcomes : List Outcome) × Handed accepts frame (take i init) outcomes (take i now) × (refused ≡ sum_by refusal outcomes)
      → HandsOn accepts frame init refused now
  handed-whole frame init now i refused past same (outcomes, handed, count) =
      let P : List (SinkEntry I F) → List (SinkEntry I F) → Type 0 = λ x y. Handed accepts frame x outcomes y in
      let all_before = take_all i init (omega (arith, past, same)) in
      let all_after = take_all i now past in
      (outcomes, subst (λ x. P x now) all_before (subst (λ y. P (take i init) y) all_after handed), count)

  -- the numbers stay
  pub handed-numbers : (frame : FrameData) (olds : List (SinkEntry I F)) (outcomes : List Outcome) (news : List (SinkEntry I F))
      → Handed accepts frame olds outcomes news → map (λ e. e.id) news ≡ map (λ e. e.id) olds
  handed-numbers frame [] [] [] handed = refl
  handed-numbers frame [] [] (g ∷ news) handed = absurd handed
  handed-numbers frame [] (p ∷ outcomes) news handed = absurd handed
  handed-numbers frame (d ∷ olds) [] news handed = absurd handed
  handed-numbers frame (d ∷ olds) (p ∷ outcomes) [] handed = absurd handed
  handed-numbers frame (d ∷ olds) (p ∷ outcomes) (g ∷ news) (first, its, rest) =
      ap (λ (n : ℕ). n ∷ map (λ e. e.id) news) first
      ∙ ap (λ (ns : List ℕ). d.id ∷ ns) (handed-numbers frame olds outcomes news rest)

  pub numbered-handed : (frame : FrameData) (olds news : List (SinkEntry I F)) (refused next : ℕ)
      → HandsOn accepts frame olds refused news
      → AreNumbered olds next → AreNumbered news next
  numbered-handed frame olds news refused next (outcomes, handed, count) numbered =
      subst (λ (ns : List ℕ). IsStrictlyIncreasing (0 ∷ ns ++ next ∷ [])) (sym (handed-numbers frame olds outcomes news handed))
      numbered

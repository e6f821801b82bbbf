-- Threads that are joined one after the other, each with its share and its counts.
use Rattle.std.proofs.Common.{◌≡◌, ℕ, zero, suc, ◌+◌, ◌<◌, map, get_or, List, [], ◌∷◌, ◌++◌, Option, Some, None}
use Rattle.std.proofs.Common.{Ok, Err, length, refl, sym, ap, subst, ◌∙◌, arith}
use Rattle.std.specs.Prelude.{slice_get, IsOk, IfOk, IfErr, Result}
use Rattle.std.specs.Option.{option_or}
use Rattle.std.proofs.lemmas.Option.{none-some}
use Rattle.std.proofs.lemmas.List.{length-append}
use Rattle.std.specs.declared.thread.PromisedHandle.{PromisedHandle}
use Rattle.puffin.specs.declared.light.outcome.Failed.{Failed}
use Rattle.puffin.specs.declared.light.outcome.ThreadCounts.{ThreadCounts}
use Rattle.puffin.specs.declared.light.ready.ThreadEnd.{ThreadEnd}
use Rattle.puffin.specs.declared.light.shares.ThreadPromise.{ThreadPromise}
use Rattle.puffin.specs.Happenings.{Happening}
use Rattle.puffin.specs.Members.{Member, all_handed}
use Rattle.puffin.specs.Taking.{TookAll}
use Rattle.puffin.specs.Joined.{counts_after, TellsAt, EachJoined, AreJoined, EachTells, StartedAt, AreStarted, AreTold}

-- if none failed with one more, neither it failed nor those before it
pub none_failed : (before own after : Option Failed) → after ≡ option_or before own → after ≡ None
    → (before ≡ None) × (own ≡ None)
none_failed None own after is none = (refl, sym is ∙ none)
none_failed (Some f) own after is none = absurd (none-some f (sym none ∙ is))

pub is_well : {X E F : Type 0} (failed : E → F) (r : Result X E) (own : Option F) → IfErr r (λ error. own ≡ Some (failed error))
    → own ≡ None → IsOk r
is_well failed (Ok x) own is none = refl
is_well failed (Err e) own is none = absurd (none-some (failed e) (sym none ∙ is))

-- ---- lists with one element more

pub each_more : {A : Type 0} (P : ℕ → A → Type 0) (xs : List A) (x : A)
    → ((k : ℕ) (y : A) → slice_get xs k ≡ Some y → P k y) → P (length xs) x → (k : ℕ) (y : A)
    → slice_get (xs ++ x ∷ []) k ≡ Some y → P k y
each_more P [] x h last zero y e = let same : x ≡ y = cc in subst (P 0) same last
each_more P [] x h last (suc k) y e = absurd cc
each_more P (z ∷ xs) x h last zero y e = h 0 y e
each_more P (z ∷ xs) x h last (suc k) y e = each_more (λ i. P (suc i)) xs x (λ i. h (suc i)) last k y e

pub mapped_there : {A B : Type 0} (f : A → B) (xs : List A) (k : ℕ) (d : A) → k < length xs
    → slice_get (map f xs) k ≡ Some (f (get_or xs k d))
mapped_there f [] k d below = absurd (omega arith)
mapped_there f (x ∷ xs) zero d below = refl
mapped_there f (x ∷ xs) (suc k) d below = mapped_there f xs k d (omega arith)

pub still_there : {A : Type 0} (xs : List A) (x : A) (k : ℕ) (y : A) → slice_get xs k ≡ Some y
    → slice_get (xs ++ x ∷ []) k ≡ Some y
still_there [] x k y e = absurd cc
still_there (z ∷ xs) x zero y e = e
still_there (z ∷ xs) x (suc k) y e = still_there xs x k y e

pub last_there : {A : Type 0} (xs : List A) (x : A) → slice_get (xs ++ x ∷ []) (length xs) ≡ Some x
last_there [] x = refl
last_there (z ∷ xs) x = last_there xs x

module _ {T W : Type 0} (tells : T → W → ℕ → ThreadEnd → List Happening → List Happening → Type 0) where
  -- what was told stays so with one thread more
  pub tells_still : (thread : T) (program : W) (number : ℕ) (before after : Option Failed) (counts : List ThreadCounts)
      (shares : List Member) (k : ℕ) (count : ThreadCounts) (share : Member) → (after ≡ None → before ≡ None)
      → TellsAt tells thread program number before counts shares k
      → TellsAt tells thread program number after (counts ++ count ∷ []) (shares ++ share ∷ []) k
  tells_still thread program number before after counts shares k count share failed t = record {
    ended = t.ended;
    reported = t.reported;
    share = t.share;
    count_is = still_there counts count k (counts_after t.reported t.ended) t.count_is;
    share_is = still_there shares share k t.share t.share_is;
    went_well = λ none. t.went_well (failed none);
    told = t.told;
  }

module _ {A T W : Type 0} (tells : T → W → ℕ → ThreadEnd → List Happening → List Happening → Type 0) where
  -- one thread more is joined
  pub joined_more : (handles : List (PromisedHandle A (ThreadPromise T W))) (handle : PromisedHandle A (ThreadPromise T W))
      (taker leader : Member) (before after : Option Failed) (counts : List ThreadCounts) (shares : List Member)
      (reported : ℕ) (ended : ThreadEnd) (share : Member)
      → AreJoined tells handles taker leader before counts shares
      → length counts ≡ length handles
      → (after ≡ None → before ≡ None) → (after ≡ None → IsOk ended.result)
      → tells handle.promise.thread.value handle.promise.program.value handle.promise.number ended [] share.own
      → AreJoined tells (handles ++ handle ∷ []) taker leader after (counts ++ counts_after reported ended ∷ []) (shares ++ share ∷ [])
  joined_more handles handle taker leader before after counts shares reported ended share was counted failed well told =
      let count = counts_after reported ended in record {
        rest = was.rest ++ share ∷ [];
        shares_are = ap (λ (xs : List Member). xs ++ share ∷ []) was.shares_are;
        as_many = length-append was.rest (share ∷ []) ∙ ap (λ (n : ℕ). n + 1) was.as_many
            ∙ sym (length-append handles (handle ∷ []));
        each = each_more (λ k (h : PromisedHandle A (ThreadPromise T W)). TellsAt tells h.promise.thread.value
            h.promise.program.value h.promise.number after (counts ++ count ∷ []) (was.rest ++ share ∷ []) k) handles handle
            (λ k h e. tells_still tells h.promise.thread.value h.promise.program.value h.promise.number before after counts was.rest
            k count share failed (was.each k h e))
            (record {
              ended = ended;
              reported = reported;
              share = share;
              count_is = subst (λ (n : ℕ). slice_get (counts ++ count ∷ []) n ≡ Some count) counted (last_there counts count);
              share_is = subst (λ (n : ℕ). slice_get (was.rest ++ share ∷ []) n ≡ Some share) was.as_many
                  (last_there was.rest share);
              went_well = well;
              told = told;
            });
      }

  -- what the handles' threads told is what the threads told
  pub told_each : (handles : List (PromisedHandle A (ThreadPromise T W))) (threads : List T) (program : W) (failed : Option Failed)
      (counts : List ThreadCounts) (shares : List Member) → AreStarted handles threads program
      → EachJoined tells handles failed counts shares → EachTells tells threads program failed counts shares
  told_each handles threads program failed counts shares started joined k thread there =
      let s = started k thread there in
      let j = joined k s.handle s.handle_is in
      record {
        ended = j.ended;
        reported = j.reported;
        share = j.share;
        count_is = j.count_is;
        share_is = j.share_is;
        went_well = j.went_well;
        told =
            let promise = s.handle.promise in
            subst (λ (t : T). tells t program k j.ended [] j.share.own) s.thread_is
            (subst (λ (n : ℕ). tells promise.thread.value program n j.ended [] j.share.own) s.number_is
            (subst (λ (w : W). tells promise.thread.value w promise.number j.ended [] j.share.own) s.program_is j.told));
      }

module _ {A T W : Type 0} where
  -- one thread more is started
  pub started_more : (handles : List (PromisedHandle A (ThreadPromise T W))) (threads : List T)
      (program : W) (handle : PromisedHandle A (ThreadPromise T W)) (thread : T) → AreStarted handles threads program
      → length handles ≡ length threads
      → handle.promise.thread.value ≡ thread → handle.promise.number ≡ length handles → handle.promise.program.value ≡ program
      → AreStarted (handles ++ handle ∷ []) (threads ++ thread ∷ []) program
  started_more handles threads program handle thread was same its_thread its_number its_program =
      each_more
      (λ k (t : T). StartedAt (handles ++ handle ∷ []) t program k)
      threads thread
      (λ k t e. let before = was k t e in record {
        handle = before.handle;
        handle_is = still_there handles handle k before.handle before.handle_is;
        thread_is = before.thread_is;
        number_is = before.number_is;
        program_is = before.program_is;
      })
      (record {
        handle = handle;
        handle_is = subst (λ (n : ℕ). slice_get (handles ++ handle ∷ []) n ≡ Some handle) same (last_there handles handle);
        thread_is = its_thread;
        number_is = its_number ∙ same;
        program_is = its_program;
      })

-- what is left to prove of a vector that starts with the leader's two shares
module _ {A T W : Type 0} (tells : T → W → ℕ → ThreadEnd → List Happening → List Happening → Type 0) where
  pub joined_none : (taker leader : Member) (failed : Option Failed) (shares : List Member) → shares ≡ taker ∷ leader ∷ []
      → AreJoined {A = A} tells [] taker leader failed [] shares
  joined_none taker leader failed shares is = record { rest = []; shares_are = is; as_many = refl; each = λ k h e. absurd cc }

-- the leader led, and all threads are joined
module _ {A T W J E : Type 0} (tells : T → W → ℕ → ThreadEnd → List Happening → List Happening → Type 0)
    (leads : T → W → ℕ → List Happening → List Happening → Type 0) (takes : T → W → List Happening → Type 0) where
  pub all_told : (handles : List (PromisedHandle A (ThreadPromise T W))) (threads : List T)
      (leader : T) (program : W) (taker own : Member) (counted : ThreadCounts) (frames : ℕ) (r : Result J E)
      (failed : J → Option Failed) (counts : J → List ThreadCounts)
      (led : J → ThreadCounts) (taken missed : J → ℕ) (n : ℕ) (shares : J → List Member)
      → AreStarted handles threads program
      → IfOk r (λ j. AreJoined tells handles taker own (failed j) (counts j) (shares j))
      → IfOk r (λ j. all_handed (shares j) ≡ taker.counts.handed)
      → IfOk r (λ j. led j ≡ counted)
      → IfOk r (λ j. (taken j ≡ frames) × (missed j ≡ n))
      → leads leader program counted.unreported [] own.own → takes leader program taker.own → TookAll taker frames
      → length handles ≡ length threads
      → IfOk r (λ j. AreTold tells leads takes threads leader program (failed j) (counts j) (led j) (taken j) (shares j))
  all_told handles threads leader program taker own counted frames
      (Ok j) failed counts led taken missed n shares started joined handed leader_is frames_are told took takes_all many = record {
        taker = taker;
        own = own;
        rest = joined.rest;
        shares_are = joined.shares_are;
        as_many = joined.as_many ∙ many;
        each = told_each tells handles threads program (failed j) (counts j) joined.rest started joined.each;
        led = subst (λ (c : ThreadCounts). leads leader program c.unreported [] own.own) (sym leader_is) told;
        taken = took;
        took = subst (λ (n : ℕ). TookAll taker n) (sym frames_are.0) takes_all;
        handed = handed;
      }
  all_told handles threads leader program taker own counted frames
      (Err e) failed counts led taken missed n shares started joined handed leader_is frames_are told took takes_all many = tt

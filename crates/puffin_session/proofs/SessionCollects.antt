-- What is collected keeps in step with what is due.
use Rattle.std.proofs.Common.{◌≡◌, ℕ, ◌<◌, Bool, true, false, List, [], ◌∷◌, ◌++◌, Option, Some, None, unwrap_or, refl, sym, ap, ◌∙◌, subst, arith}
use mathlib.Core.Logic.{∥∥₁_map}
use Rattle.std.proofs.lemmas.Grind.{merely, not_there}
use Rattle.std.specs.FinMap.{get, empty, values, get-insert, get-empty}
use Rattle.puffin_data.specs.Forest.{Forest}
use Rattle.puffin_data.specs.Forest.Measures.{scope_count}
use Rattle.puffin_data.specs.Honesty.{StreamFacts, AreHonestFacts, AreUnlike, joined_facts}
use Rattle.puffin_data.specs.Forest.Tour.{Event, tour}
use Rattle.puffin_threads.specs.Thread.ThreadKey.{ThreadKey, key_cmp, has_same_key}
use Rattle.puffin_frames.specs.Frame.Contents.{Streams, stream_under, holding_of, frame_meta}
use Rattle.puffin_frames.specs.Frame.Sums.{meta_of, total_scopes}
use Rattle.puffin_frames.specs.declared.frame_data.frame.FrameData.{FrameData}
use Rattle.puffin_collector.specs.Collector.State.{no_scopes, reported_to}
use Rattle.puffin_session.specs.Session.History.{Word}
use Rattle.puffin_session.specs.Session.Deliveries.{Delivery, under}
use Rattle.puffin_session.specs.Session.Due.{no_word, joined_word, total_under, NoneDue}
use Rattle.puffin_session.specs.Session.{SpellsWord, SpellsIfAny, SpellsDue}
use Rattle.puffin_session.specs.Session.Replies.{SpellsFrame}
use Rattle.puffin_session.proofs.Laws.{key_cmp_total, has_same_key-one}
use Rattle.puffin_session.proofs.SpelledWords.{joined_spells}
use Rattle.puffin_session.proofs.Histories.{total_under-itself, total_under-other}

honest_none : AreHonestFacts no_scopes Forest.empty
honest_none = record {
  stream = record { whole = refl; fits = tt };
  counts = record { num_scopes = refl; depth = refl; least_start = refl; greatest_stop = refl };
}

spells_none : SpellsWord no_scopes no_word
spells_none = record { forest = Forest.empty; honest = honest_none; form = refl; toured = refl }

spells_anew : (a : Option StreamFacts) (old : Option Word) (s : StreamFacts) (word : Word)
    → (AreUnlike (unwrap_or a no_scopes) s → ⊥) → SpellsIfAny a old → SpellsWord s word
    → ∥ SpellsWord (joined_facts (unwrap_or a no_scopes) s) (joined_word (unwrap_or old no_word) word) ∥₁
spells_anew None None s word like h k = merely (joined_spells no_scopes s no_word word like spells_none k)
spells_anew (Some a) (Some old) s word like h k = ∥∥₁_map h (λ x. joined_spells a s old word like x k)
spells_anew None (Some old) s word like h k = absurd h
spells_anew (Some a) None s word like h k = absurd h

-- a report keeps what is collected in step with what is handed over
module _ (streams : Streams) (ds : List Delivery) (i : ThreadKey) where
  pub SpellsDue-report : (s : StreamFacts) (word : Word) → (AreUnlike (stream_under streams i) s → ⊥)
      → SpellsDue streams ds → SpellsWord s word → SpellsDue (reported_to streams i s) (ds ++ (under i word ∷ []))
  SpellsDue-report s word like before more j = at_test (has_same_key j i) refl
    where
      at_test : (b : Bool) → has_same_key j i ≡ b
          → SpellsIfAny (get (reported_to streams i s) j) (total_under (ds ++ (under i word ∷ [])) j)
      at_test true e =
          let there : get (reported_to streams i s) j ≡ Some (joined_facts (unwrap_or (get streams i) no_scopes) s) =
          get-insert key_cmp_total streams i (joined_facts (unwrap_or (get streams i) no_scopes) s) j ∙ rw e in
          rw (there, total_under-itself ds i j word e, has_same_key-one j i e)
          (spells_anew (get streams i) (total_under ds i) s word like (before i) more)
      at_test false e =
          let there : get (reported_to streams i s) j ≡ get streams j =
          get-insert key_cmp_total streams i (joined_facts (unwrap_or (get streams i) no_scopes) s) j ∙ rw e in
          rw (there, total_under-other ds i j word e) (before j)

-- nothing spells nothing
pub SpellsDue-none : SpellsDue empty []
SpellsDue-none j = rw (get-empty {X = StreamFacts} key_cmp j) tt

-- ---- a frame

-- a frame of just what was collected spells what was due
pub SpellsFrame-taken : (frame : FrameData) (number index : ℕ) (streams : Streams) (ds : List Delivery)
    → holding_of frame ≡ record { packed = None; unpacked = Some streams }
    → frame_meta frame ≡ meta_of number (values streams) → number ≡ index
    → 0 < total_scopes (values streams) → SpellsDue streams ds → SpellsFrame frame index ds
SpellsFrame-taken frame number index streams ds same meta numbered some spells = record {
  streams = streams;
  held = same;
  spelled = spells;
  meta = meta ∙ ap (λ (n : ℕ). meta_of n (values streams)) numbered;
  some = subst (λ (n : ℕ). 0 < n) (sym (ap (λ m. m.num_scopes) meta)) some;
}

no_tour : (f : Forest) → scope_count f ≡ 0 → tour f ≡ []
no_tour Forest.empty e = refl
no_tour (Forest.node s c o) e = absurd (omega arith)

silent : (a : Option StreamFacts) (word : Word) → SpellsIfAny a (Some word)
    → ((r : StreamFacts) → a ≡ Some r → r.num_scopes ≡ 0) → word.events ≡ []
silent None word spells none = absurd spells
silent (Some r) word spells none = at_events word.events refl
  where
    not_empty : (e : Event) (word : List Event) → e ∷ word ≡ [] → ⊥
    not_empty e word same = cc

    at_events : (events : List Event) → word.events ≡ events → word.events ≡ []
    at_events [] is = is
    at_events (e ∷ later) is =
        absurd
        (not_there spells
        (λ h. not_empty e later
        (sym is ∙ sym h.toured ∙ no_tour h.forest (sym h.honest.counts.num_scopes ∙ none r refl))))

-- where no stream has a scope, no scope was due
pub NoneDue-untaken : (streams : Streams) (ds : List Delivery)
    → ((i : ThreadKey) (r : StreamFacts) → get streams i ≡ Some r → r.num_scopes ≡ 0) → SpellsDue streams ds
    → NoneDue ds
NoneDue-untaken streams ds none spells i word e =
    silent (get streams i) word (subst (λ w. SpellsIfAny (get streams i) w) e (spells i)) (none i)

-- a stream has as many scopes as were begun in the events that it spells

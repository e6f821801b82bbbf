-- A frame that is traced, thread after thread.
--
-- `IsTracing` holds between two streams of a frame: all but those that are left were traced. `tracing_at` begins it, `tracing_more` keeps
-- it, `frame_traced` ends it. Threads get their numbers on the way, so what an event prints depends on the streams before.
use Rattle.std.proofs.Common.{◌≡◌, ℕ, List, [], ◌∷◌, ◌++◌, refl, ap, subst, sym, ◌∙◌, append_assoc, append-nil}
use Rattle.std.specs.Prelude.{fold}
use Rattle.std.proofs.lemmas.List.Sums.{fold-append}
use Rattle.puffin_data.specs.declared.error.Error.{Error}
use Rattle.puffin_data.specs.Walk.{IsFault}
use Rattle.puffin_data.specs.Forest.{Forest}
use Rattle.puffin_data.specs.Forest.Spelling.{Spells}
use Rattle.puffin_data.specs.Honesty.{StreamFacts}
use Rattle.puffin_threads.specs.Thread.ThreadKey.{ThreadKey}
use Rattle.puffin_look.specs.OpenFrame.{OpenFrame}
use Rattle.puffin_look.specs.Trees.{Entry, Tree, TreeFrame, AreSpelled, AreUnread, all_streams, outputs}
use Rattle.puffin_look.specs.Trace.{Numbers, tree_events, forest_events, naming, number_of, numbered_with, numbered, frame_event, events}
use Rattle.puffin_look.specs.inner.Reads.{outputs-append}
use Rattle.puffin_look.specs.inner.Events.{IsWithText}
use Rattle.puffin_look.specs.inner.Tracings.{numbers_of, AddsThread, AddsStream, TakesTrace}
use Rattle.puffin_look.specs.declared.events.Events.{Events}
use Rattle.puffin_look.specs.declared.trace.Trace.{Trace}

-- one stream more, with its tree
pub spelled_more : (es : List Entry) (ts : List Tree) (e : Entry) (t : Tree) → AreSpelled es ts → AreSpelled (e ∷ []) (t ∷ [])
    → AreSpelled (es ++ e ∷ []) (ts ++ t ∷ [])
spelled_more [] [] e t spelled one = one
spelled_more [] (u ∷ ts) e t spelled one = absurd spelled
spelled_more (d ∷ es) [] e t spelled one = absurd spelled
spelled_more (d ∷ es) (u ∷ ts) e t (first, others) one = (first, spelled_more es ts e t others one)

-- one item more
pub outputs_more : {S X : Type 0} (out : S → X → List ℕ) (next : S → X → S) (s : S) (xs : List X) (x : X)
    → outputs out next s (xs ++ x ∷ []) ≡ outputs out next s xs ++ out (fold next s xs) x
outputs_more out next s xs x =
    outputs-append out next s xs (x ∷ []) ∙ ap (λ (t : List ℕ). outputs out next s xs ++ t) (append-nil (out (fold next s xs) x))

module _ (v : Trace) where
  -- the events of these trees
  abbrev pub events_so_far : List Tree → List ℕ
  events_so_far ts = outputs (tree_events v.events.overview.now) numbered_with (numbers_of v) ts

  -- the numbers of threads behind them
  abbrev pub numbers_so_far : List Tree → Numbers
  numbers_so_far ts = fold numbered_with (numbers_of v) ts

  -- of these streams, all but those that are left were traced
  pub record IsTracing (now : Trace) (entries left : List Entry) : Type 0 where
    pub earlier : List Entry
    pub all : entries ≡ earlier ++ left
    pub trees : List Tree
    pub spelled : AreSpelled earlier trees
    pub text : now.events.text.items ≡ v.events.text.items ++ events_so_far trees
    pub overview : now.events.overview ≡ v.events.overview
    pub numbers : numbers_of now ≡ numbers_so_far trees

  -- no stream was traced yet
  tracing_begun : (entries : List Entry) → IsTracing v entries entries
  tracing_begun entries = record {
    earlier = [];
    all = refl;
    trees = [];
    spelled = tt;
    text = sym (append-nil v.events.text.items);
    overview = refl;
    numbers = refl;
  }

  pub tracing_at : (entries left : List Entry) → left ≡ entries → IsTracing v entries left
  tracing_at entries left same = subst (λ (es : List Entry). IsTracing v entries es) (sym same) (tracing_begun entries)

  -- the next stream was traced
  pub tracing_more : (now new : Trace) (entries left rest : List Entry) (e : Entry) → left ≡ e ∷ rest → IsTracing now entries left
      → AddsStream now new e.0 e.1 → IsTracing new entries rest
  tracing_more now new entries left rest e next h a =
      let t : Tree = (e.0, a.forest) in
      let o = v.events.overview.now in
      record {
        earlier = h.earlier ++ e ∷ [];
        all = h.all ∙ ap (λ (es : List Entry). h.earlier ++ es) next ∙ sym (append_assoc h.earlier (e ∷ []) rest);
        trees = h.trees ++ t ∷ [];
        spelled = spelled_more h.earlier h.trees e t h.spelled ((refl, a.spells), tt);
        text = a.text ∙ (λ i. h.text i ++ tree_events (h.overview i).now (h.numbers i) t)
            ∙ append_assoc v.events.text.items (events_so_far h.trees) (tree_events o (numbers_so_far h.trees) t)
            ∙ ap (λ (x : List ℕ). v.events.text.items ++ x) (sym (outputs_more (tree_events o) numbered_with (numbers_of v) h.trees t));
        overview = a.overview ∙ h.overview;
        numbers = a.numbers ∙ ap (λ (ns : Numbers). numbered ns e.0) h.numbers
            ∙ sym (fold-append numbered_with (numbers_of v) h.trees (t ∷ []));
      }

  -- the next stream has a fault, which is the first of the frame
  pub tracing_unread : (now : Trace) (entries left rest : List Entry) (e : Entry) (frame : OpenFrame) (fault : Error)
      → left ≡ e ∷ rest → IsTracing now entries left → all_streams frame ≡ entries → IsFault e.1.form e.1.bytes fault
      → AreUnread (all_streams frame) fault
  tracing_unread now entries left rest e frame fault next h same faulty = record {
    earlier = h.earlier;
    entry = e;
    later = rest;
    all = same ∙ h.all ∙ ap (λ (es : List Entry). h.earlier ++ es) next;
    trees = h.trees;
    spelled = h.spelled;
    faulty = faulty;
  }

-- a thread's number, and then its scopes
pub stream_traced : (v m : Trace) (e : Events) (key : ThreadKey) (r : StreamFacts) (tid : ℕ) (f : Forest)
    → tid ≡ number_of (numbers_of v) key → AddsThread v m key → Spells r.form r.bytes f
    → IsWithText (record m.events { tid = tid }) e (forest_events m.events.overview.now tid f)
    → AddsStream v (record m { events = e }) key r
stream_traced v m e key r tid f is t spells w = record {
  forest = f;
  spells = spells;
  text = w.text ∙ (λ i. t.text i ++ forest_events (t.overview i).now (is i) f)
      ∙ append_assoc v.events.text.items (naming (numbers_of v) key)
      (forest_events v.events.overview.now (number_of (numbers_of v) key) f);
  overview = w.overview ∙ t.overview;
  numbers = t.numbers;
}

-- a frame whose streams are all traced, behind its own event
pub frame_traced : (old begun new : Trace) (frame : OpenFrame) (entries left : List Entry)
    → begun.events.text.items ≡ old.events.text.items ++ frame_event old.events.overview.now.start frame.meta
    → begun.events.overview ≡ old.events.overview → numbers_of begun ≡ numbers_of old
    → left ≡ [] → IsTracing begun new entries left → all_streams frame ≡ entries
    → (more : List ℕ) × (new.events.text.items ≡ old.events.text.items ++ more) × TakesTrace old (frame ∷ []) more new
frame_traced old begun new frame entries left text overview numbers none h same =
    let f : TreeFrame = record { meta = frame.meta; trees = h.trees } in
    let o = old.events.overview.now in
    let first = frame_event o.start frame.meta in
    let others = outputs (tree_events o) numbered_with (numbers_of old) h.trees in (
      events o (numbers_of old) (f ∷ []),
      h.text ∙ (λ i. text i ++ outputs (tree_events (overview i).now) numbered_with (numbers i) h.trees)
          ∙ append_assoc old.events.text.items first others
          ∙ ap (λ (x : List ℕ). old.events.text.items ++ x) (sym (append-nil (first ++ others))),
      record {
        trees = f ∷ [];
        read = (
          record {
            meta = refl;
            trees = subst (λ (es : List Entry). AreSpelled es h.trees)
                (sym (same ∙ h.all ∙ ap (λ (es : List Entry). h.earlier ++ es) none ∙ append-nil h.earlier)) h.spelled;
          },
          tt,
        );
        is = refl;
        numbers = h.numbers ∙ ap (λ (ns : Numbers). fold numbered_with ns h.trees) numbers;
        overview = h.overview ∙ overview;
      },
    )

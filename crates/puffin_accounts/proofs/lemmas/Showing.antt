-- What a frame shows: all that was due, and nothing else.
use Rattle.std.proofs.Common.{◌≡◌, ℕ, ◌<◌, ◌≤◌, Bool, true, false, cond, List, [], ◌∷◌, ◌++◌, length, map}
use Rattle.std.proofs.Common.{Some, None, refl, sym, ap, ◌∙◌, subst, arith}
use Rattle.std.specs.FinMap.{get, insert, empty, values, put, get-insert, get-empty, entries-insert, same_map}
use Rattle.std.specs.Arc.{arc_value}
use Rattle.std.specs.declared.sync.Arc.{Arc}
use Rattle.std.proofs.lemmas.Bool.Decides.{nat_tests}
use Rattle.puffin_data.specs.declared.data.form.Form.{Form}
use Rattle.puffin_data.specs.declared.data.form.Form.TheVariants.{Short, Long}
use Rattle.puffin_data.specs.Forest as forest
use Rattle.puffin_data.specs.Forest.{node}
use Rattle.puffin_data.specs.Forest.{Forest}
use Rattle.puffin_data.specs.Forest.Measures.{scope_count}
use Rattle.puffin_data.specs.Forest.Tour.{Event, tour}
use Rattle.puffin_data.specs.Honesty.{StreamFacts}
use Rattle.puffin_data.specs.Text.{cut_text}
use Rattle.puffin_threads.specs.Thread.ThreadKey.{ThreadKey, key_cmp, has_same_key}
use Rattle.puffin_threads.proofs.lemmas.EntriesSeen.{entries-empty}
use Rattle.puffin_threads.proofs.lemmas.ThreadKeys.{key_cmp_total, key_cmp-one, has_same_key-one}
use Rattle.puffin_frames.specs.declared.frame_data.frame.FrameData.{FrameData}
use Rattle.puffin_frames.specs.Frame.Contents.{Streams, frame_meta}
use Rattle.puffin_frames.specs.Frame.Sums.{meta_of, total_scopes}
use Rattle.puffin_frames.proofs.lemmas.Measured.{total_scopes-one}
use Rattle.puffin_collector.specs.Collector.State.{Collected, no_scopes}
use Rattle.puffin_collector.specs.Collector.Collecting.{Collects}
use Rattle.puffin_accounts.specs.Adding.{SpellsEvents}
use Rattle.puffin_accounts.specs.Showing.{ShowsForest}

pub no_tour : (f : Forest) → scope_count f ≡ 0 → tour f ≡ []
no_tour forest.empty e = refl
no_tour (node s c o) e = absurd (omega arith)

pub spells_none : SpellsEvents no_scopes []
spells_none = record {
  forest = forest.empty;
  honest =
      record {
        stream = record { whole = refl; fits = tt };
        counts =
            record { num_scopes = refl; depth = refl; least_start = refl; greatest_stop = refl };
      };
  toured = refl;
}

-- a stream without scopes spells no events
pub none_spelled : (r : StreamFacts) (events : List Event) → SpellsEvents r events → r.num_scopes ≡ 0 → events ≡ []
none_spelled r events spelled none = sym spelled.toured ∙ no_tour spelled.forest (sym spelled.honest.counts.num_scopes ∙ none)

-- a map with at most one entry
pub one_entry : (streams : Streams) (key : ThreadKey) (r : StreamFacts) → get streams key ≡ Some r
    → ((i : ThreadKey) → has_same_key i key ≡ false → get streams i ≡ None)
    → streams ≡ insert (empty {X = StreamFacts} {R = key_cmp}) key r
one_entry streams key r there none = same_map key_cmp_total key_cmp-one streams (insert (empty {X = StreamFacts} {R = key_cmp}) key r)
    (λ i. at_test i (has_same_key i key) refl ∙ sym (get-insert key_cmp_total (empty {X = StreamFacts} {R = key_cmp}) key r i))
  where
    at_test : (i : ThreadKey) (b : Bool) → has_same_key i key ≡ b
        → get streams i ≡ cond (has_same_key i key) (Some r) (get (empty {X = StreamFacts} {R = key_cmp}) i)
    at_test i true e = ap (get streams) (has_same_key-one i key e) ∙ there
        ∙ ap (λ (t : Bool). cond t (Some r) (get (empty {X = StreamFacts} {R = key_cmp}) i)) (sym e)
    at_test i false e = none i e ∙ sym (get-empty key_cmp i)
        ∙ ap (λ (t : Bool). cond t (Some r) (get (empty {X = StreamFacts} {R = key_cmp}) i)) (sym e)

pub no_entry : (streams : Streams) (key : ThreadKey) → get streams key ≡ None
    → ((i : ThreadKey) → has_same_key i key ≡ false → get streams i ≡ None) → streams ≡ empty
no_entry streams key here none = same_map key_cmp_total key_cmp-one streams empty
    (λ i. at_test i (has_same_key i key) refl ∙ sym (get-empty key_cmp i))
  where
    at_test : (i : ThreadKey) (b : Bool) → has_same_key i key ≡ b → get streams i ≡ None
    at_test i true e = ap (get streams) (has_same_key-one i key e) ∙ here
    at_test i false e = none i e

values_one : (key : ThreadKey) (r : StreamFacts) → values (insert (empty {X = StreamFacts} {R = key_cmp}) key r) ≡ r ∷ []
values_one key r = ap (λ (es : List (ThreadKey × StreamFacts)). map (λ (f : ThreadKey × StreamFacts). f.1) es)
    (entries-insert key_cmp_total (empty {X = StreamFacts} {R = key_cmp}) key r ∙ ap (put key_cmp key r) (entries-empty key_cmp))

pub none_in_empty : 0 < total_scopes (values (empty {X = StreamFacts} {R = key_cmp})) → ⊥
none_in_empty some =
    let e : values (empty {X = StreamFacts} {R = key_cmp}) ≡ [] =
    ap (λ (es : List (ThreadKey × StreamFacts)). map (λ (f : ThreadKey × StreamFacts). f.1) es) (entries-empty key_cmp) in
    let zero_scopes : total_scopes (values (empty {X = StreamFacts} {R = key_cmp})) ≡ 0 = ap total_scopes e in
    omega arith

pub none_of : {A : Type 0} (xs ys : List A) → xs ++ ys ≡ [] → xs ≡ []
none_of [] ys e = refl
none_of (x ∷ xs) ys e = absurd cc

-- a frame of one stream shows what the stream spells
pub shows_spelled : {A : Type 0} (c later : Collected) (frame : Arc FrameData A) (key : ThreadKey) (r : StreamFacts) (events : List Event)
    (spelled : SpellsEvents r events) → c.streams ≡ insert empty key r → Collects c (Some frame) later
    → ShowsForest (arc_value frame) c.index key spelled.forest
shows_spelled c later frame key r events spelled one took =
    let meta : frame_meta (arc_value frame) ≡ meta_of c.index (r ∷ []) = took.0.meta
    ∙ ap (λ (s : Streams). meta_of c.index (values s)) one ∙ ap (meta_of c.index) (values_one key r) in
    let total : total_scopes (values c.streams) ≡ scope_count spelled.forest = ap (λ (s : Streams). total_scopes (values s)) one
    ∙ ap total_scopes (values_one key r) ∙ total_scopes-one r [] ∙ omega (arith, spelled.honest.counts.num_scopes) in
    record {
      stream = r;
      held = took.0.held ∙ ap (λ (s : Streams). record { packed = None; unpacked = Some s }) one;
      honest = spelled.honest;
      meta = meta;
      counted = ap (λ m. m.num_scopes) meta ∙ total_scopes-one r [] ∙ omega (arith, spelled.honest.counts.num_scopes);
      some = subst (λ (k : ℕ). 0 < k) total took.1;
    }

-- a text that is stored whole
pub text_kept : (form : Form) (text : List ℕ) → length text ≤ 127 → cut_text form text ≡ text
text_kept Short text h = grind (arith, nat_tests)
text_kept Long text h = grind (arith, nat_tests)

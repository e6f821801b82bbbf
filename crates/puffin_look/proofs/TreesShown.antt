-- A frame that is shown as a tree, thread after thread.
--
-- `IsShowing` holds between two streams of a frame: all but those that are left were shown, if their thread is wanted.
-- `showing_at` begins it, `showing_more` keeps it, `frame_shown` ends it.
use Rattle.std.proofs.Common.{◌≡◌, ℕ, Bool, true, false, List, [], ◌∷◌, ◌++◌, inl, inr, refl, ap, subst, sym, ◌∙◌, append_assoc, append-nil}
use Rattle.std.specs.Prelude.{filter, if◌then◌else◌}
use Rattle.std.specs.List.{flat_map}
use Rattle.std.proofs.lemmas.List.Elements.{filter-append}
use Rattle.std.proofs.lemmas.List.Concat.{flat_map-append}
use denote.Ref.{Bor}
use Rattle.puffin_data.specs.declared.error.Error.{Error}
use Rattle.puffin_data.specs.Forest.{Forest, Span}
use Rattle.puffin_data.specs.Walk.{IsFault}
use Rattle.puffin_threads.specs.Thread.ThreadKey.{ThreadKey}
use Rattle.puffin_look.specs.OpenFrame.{OpenFrame}
use Rattle.puffin_look.specs.Trees.{Entry, Tree, TreeFrame, AreSpelled, AreUnread, all_streams}
use Rattle.puffin_look.specs.Wanted.{is_wanted, wanted_streams}
use Rattle.puffin_look.specs.declared.wanted.Wanted.{Wanted}
use Rattle.puffin_look.specs.FrameTree.{outer_time, time_of, thread_line, forest_lines, tree_text, head_text, trees_text, has_trees}
use Rattle.puffin_look.specs.inner.TreeLines.{HasMoreLines}
use Rattle.puffin_look.specs.inner.FrameTrees.{StepsTree, TakesTrees}
use Rattle.puffin_look.specs.declared.tree.Lines.{Lines}
use Rattle.puffin_look.specs.declared.frame_tree.Trees.{Trees}
use Rattle.puffin_look.proofs.Traced.{spelled_more}

-- ---- a scope within others

-- shares within a scope are of the scope's time
pub outer_time_within : (whole : ℕ) (around : List Span) (s : Span) → outer_time whole (around ++ s ∷ []) ≡ time_of s
outer_time_within whole [] s = refl
outer_time_within whole (o ∷ around) s = outer_time_within (time_of o) around s

-- ---- a thread

-- a thread's line was added, and then those of its scopes
pub tree_added : (v m u : Lines) (key : ThreadKey) (f : Forest) → HasMoreLines v m (thread_line key)
    → HasMoreLines m u (forest_lines m.known.now m.range_ns f) → HasMoreLines v u (tree_text v.known.now v.range_ns (key, f))
tree_added v m u key f h t = record {
  text = t.text ∙ (λ i. h.text i ++ forest_lines (h.known i).now (h.range i) f)
      ∙ append_assoc v.text.items (thread_line key) (forest_lines v.known.now v.range_ns f);
  known = t.known ∙ h.known;
  range = t.range ∙ h.range;
}

-- ---- a frame

abbrev wanted_in : Trees → List Entry → List Entry
wanted_in v entries = filter (λ e. is_wanted v.wanted.now e.0) entries

-- a stream more is found
found_more : (before : Bool) (ts : List Tree) (t : Tree) → true ≡ has_trees before (ts ++ t ∷ [])
found_more before [] t = refl
found_more before (s ∷ ts) t = refl

module _ (v : Trees) where
  -- a stream counts if its thread is wanted
  wanted_one : (e : Entry) (b : Bool) → is_wanted v.wanted.now e.0 ≡ b → wanted_in v (e ∷ []) ≡ (if b then e ∷ [] else [])
  wanted_one e b is = ap (λ (x : Bool). if x then e ∷ [] else []) is

  -- of these streams, all but those that are left were shown
  pub record IsShowing (now : Trees) (entries left : List Entry) : Type 0 where
    pub earlier : List Entry
    pub all : entries ≡ earlier ++ left
    pub trees : List Tree
    pub spelled : AreSpelled (wanted_in v earlier) trees
    pub lines : HasMoreLines v.lines now.lines (flat_map (tree_text v.lines.known.now v.lines.range_ns) trees)
    pub found : now.is_found ≡ has_trees v.is_found trees
    pub wanted : now.wanted ≡ v.wanted

  -- no stream was shown yet
  pub showing_begun : (entries : List Entry) → IsShowing v entries entries
  showing_begun entries = record {
    earlier = [];
    all = refl;
    trees = [];
    spelled = tt;
    lines = record { text = sym (append-nil v.lines.text.items); known = refl; range = refl };
    found = refl;
    wanted = refl;
  }

  pub showing_at : (entries left : List Entry) → left ≡ entries → IsShowing v entries left
  showing_at entries left same = subst (λ (es : List Entry). IsShowing v entries es) (sym same) (showing_begun entries)

  -- the next stream is one of the earlier ones from now on
  all_more : (entries earlier left rest : List Entry) (e : Entry) → left ≡ e ∷ rest → entries ≡ earlier ++ left
      → entries ≡ (earlier ++ e ∷ []) ++ rest
  all_more entries earlier left rest e next all =
      all ∙ ap (λ (es : List Entry). earlier ++ es) next ∙ sym (append_assoc earlier (e ∷ []) rest)

  same_wanted : (now : Trees) → now.wanted ≡ v.wanted → now.wanted.now ≡ v.wanted.now
  same_wanted now same = ap (λ (w : Bor Wanted). w.now) same

  -- the next stream was shown, or its thread isn't wanted
  pub showing_more : (now new : Trees) (entries left rest : List Entry) (e : Entry) → left ≡ e ∷ rest → IsShowing now entries left
      → StepsTree now new e.0 e.1 → IsShowing new entries rest
  showing_more now new entries left rest e next h (inl (is, added)) =
      let t : Tree = (e.0, added.forest) in
      let wanted : is_wanted v.wanted.now e.0 ≡ true = ap (λ (w : Wanted). is_wanted w e.0) (sym (same_wanted now h.wanted)) ∙ is in
      let one = tree_text v.lines.known.now v.lines.range_ns in
      record {
        earlier = h.earlier ++ e ∷ [];
        all = all_more entries h.earlier left rest e next h.all;
        trees = h.trees ++ t ∷ [];
        spelled = subst (λ (es : List Entry). AreSpelled es (h.trees ++ t ∷ []))
            (sym (filter-append (λ d. is_wanted v.wanted.now d.0) h.earlier (e ∷ [])
            ∙ ap (λ (es : List Entry). wanted_in v h.earlier ++ es) (wanted_one e true wanted)))
            (spelled_more (wanted_in v h.earlier) h.trees e t h.spelled ((refl, added.spells), tt));
        lines = record {
          text = added.lines.text ∙ (λ i. h.lines.text i ++ tree_text (h.lines.known i).now (h.lines.range i) t)
              ∙ append_assoc v.lines.text.items (flat_map one h.trees) (one t)
              ∙ ap (λ (x : List ℕ). v.lines.text.items
              ++ x) (ap (λ (x : List ℕ). flat_map one h.trees ++ x) (sym (append-nil (one t)))
              ∙ sym (flat_map-append one h.trees (t ∷ [])));
          known = added.lines.known ∙ h.lines.known;
          range = added.lines.range ∙ h.lines.range;
        };
        found = added.found ∙ found_more v.is_found h.trees t;
        wanted = added.wanted ∙ h.wanted;
      }
  showing_more now new entries left rest e next h (inr (isnt, same)) =
      let unwanted : is_wanted v.wanted.now e.0 ≡ false = ap (λ (w : Wanted). is_wanted w e.0) (sym (same_wanted now h.wanted)) ∙ isnt in
      subst (λ (u : Trees). IsShowing u entries rest) (sym same) (record {
        earlier = h.earlier ++ e ∷ [];
        all = all_more entries h.earlier left rest e next h.all;
        trees = h.trees;
        spelled = subst (λ (es : List Entry). AreSpelled es h.trees)
            (sym (filter-append (λ d. is_wanted v.wanted.now d.0) h.earlier (e ∷ [])
            ∙ ap (λ (es : List Entry). wanted_in v h.earlier ++ es) (wanted_one e false unwanted)
            ∙ append-nil (wanted_in v h.earlier)))
            h.spelled;
        lines = h.lines;
        found = h.found;
        wanted = h.wanted;
      })

  -- the next stream has a fault, which is the first of the frame
  pub showing_unread : (now : Trees) (entries left rest : List Entry) (e : Entry) (fault : Error) → left ≡ e ∷ rest
      → IsShowing now entries left → is_wanted now.wanted.now e.0 ≡ true → IsFault e.1.form e.1.bytes fault
      → AreUnread (wanted_in v entries) fault
  showing_unread now entries left rest e fault next h is faulty =
      let wanted : is_wanted v.wanted.now e.0 ≡ true = ap (λ (w : Wanted). is_wanted w e.0) (sym (same_wanted now h.wanted)) ∙ is in
      let test = λ (d : Entry). is_wanted v.wanted.now d.0 in
      record {
        earlier = wanted_in v h.earlier;
        entry = e;
        later = wanted_in v rest;
        all = ap (wanted_in v) (all_more entries h.earlier left rest e next h.all) ∙ filter-append test (h.earlier ++ e ∷ []) rest
            ∙ ap (λ (es : List Entry). es ++ wanted_in v rest)
            (filter-append test h.earlier (e ∷ [])
            ∙ ap (λ (es : List Entry). wanted_in v h.earlier ++ es) (wanted_one e true wanted))
            ∙ append_assoc (wanted_in v h.earlier) (e ∷ []) (wanted_in v rest);
        trees = h.trees;
        spelled = h.spelled;
        faulty = faulty;
      }

-- all streams of a frame were shown, behind its head
pub frame_shown : (old v new : Trees) (frame : OpenFrame) (all left : List Entry)
    → v.lines.text.items ≡ old.lines.text.items ++ head_text frame.meta → v.lines.known ≡ old.lines.known
    → v.lines.range_ns ≡ frame.meta.range_ns → v.is_found ≡ old.is_found → v.wanted ≡ old.wanted
    → left ≡ [] → IsShowing v new all left → all_streams frame ≡ all
    → (more : List ℕ) × (new.lines.text.items ≡ old.lines.text.items ++ more) × TakesTrees old (frame ∷ []) more new
frame_shown old v new frame all left text known range found wanted none h same =
    let whole : h.earlier ≡ all_streams frame = sym (same ∙ h.all ∙ ap (λ (es : List Entry). h.earlier ++ es) none
    ∙ append-nil h.earlier) in
    let f : TreeFrame = record { meta = frame.meta; trees = h.trees } in
    let shown = trees_text old.lines.known.now f in (
      flat_map (trees_text old.lines.known.now) (f ∷ []),
      h.lines.text ∙ (λ i. text i ++ flat_map (tree_text (known i).now (range i)) h.trees)
          ∙ append_assoc old.lines.text.items (head_text frame.meta)
          (flat_map (tree_text old.lines.known.now frame.meta.range_ns) h.trees)
          ∙ ap (λ (x : List ℕ). old.lines.text.items ++ x) (sym (append-nil shown)),
      record {
        trees = f ∷ [];
        read = (
          record {
            meta = refl;
            trees = subst (λ (es : List Entry). AreSpelled es h.trees)
                (λ i. filter (λ d. is_wanted (wanted i).now d.0) (whole i)) h.spelled;
          },
          tt,
        );
        is = refl;
        known = h.lines.known ∙ known;
        found = h.found ∙ ap (λ (b : Bool). has_trees b h.trees) found;
        wanted = h.wanted ∙ wanted;
      },
    )

-- a frame is refused with this fault
pub frame_unread : (old : Trees) (frame : OpenFrame) (entries : List Entry) (fault : Error) → all_streams frame ≡ entries
    → AreUnread (wanted_in old entries) fault → AreUnread (wanted_streams old.wanted.now frame) fault
frame_unread old frame entries fault same u = subst (λ (es : List Entry). AreUnread (wanted_in old es) fault) (sym same) u

-- The stacks of frames, thread after thread, and what is printed of them.
--
-- `IsFolding` holds between two streams of a frame: all but those that are left were added, if their thread is wanted.
-- `folding_at` begins it, `folding_more` keeps it, `frame_folded` ends it. What a whole file prints follows from its frames' parts.
use Rattle.std.proofs.Common.{◌≡◌, ℕ, Bool, true, false, List, [], ◌∷◌, ◌++◌, Option, inl, inr, refl, ap, subst, sym, ◌∙◌, append_assoc, append-nil}
use Rattle.std.specs.Prelude.{filter, fold, if◌then◌else◌}
use Rattle.std.specs.List.{flat_map}
use Rattle.std.specs.Io.KnownBytes.{Appends}
use Rattle.std.proofs.KnownBytes.{Appends-trans}
use Rattle.std.proofs.lemmas.List.Elements.{filter-append}
use Rattle.std.proofs.lemmas.List.Concat.{flat_map-append}
use denote.Ref.{Bor}
use Rattle.puffin_data.specs.declared.error.Error.{Error}
use Rattle.puffin_data.specs.declared.file_error.FileError.{FileError}
use Rattle.puffin_data.specs.Device.{IsOutside, WritesBeginning}
use Rattle.puffin_data.specs.Walk.{IsFault}
use Rattle.puffin_threads.specs.Details.Collection.{Collection}
use Rattle.puffin_look.specs.OpenFrame.{OpenFrame}
use Rattle.puffin_look.specs.Printed.{IsPrinted, IsStopped, IsCutOff}
use Rattle.puffin_look.specs.Trees.{Entry, Tree, TreeFrame, AreSpelled, AreUnread, all_streams}
use Rattle.puffin_look.specs.Wanted.{is_wanted, wanted_streams, RefusesTaken}
use Rattle.puffin_look.specs.declared.wanted.Wanted.{Wanted}
use Rattle.puffin_look.specs.FrameTree.{has_trees, found_in}
use Rattle.puffin_look.specs.Slowest.{IsNoText}
use Rattle.puffin_look.specs.Folded.{Part, forest_parts, parts, IsFolded, IsAnyFolded}
use Rattle.puffin_look.specs.inner.Stacks.{rows_of, row_text, with_part, HasMoreParts, parts_more}
use Rattle.puffin_look.specs.inner.Foldings.{StepsStack, TakesStacks, RefusesFrame}
use Rattle.puffin_look.specs.inner.Listings.{ListsAll, StopsListing}
use Rattle.puffin_look.specs.declared.folded.Folding.{Folding}
use Rattle.puffin_look.proofs.Listed.{stopped}
use Rattle.puffin_look.proofs.Stacked.{folded_text}
use Rattle.puffin_look.proofs.Traced.{spelled_more}

-- ---- a frame

abbrev wanted_in : Folding → List Entry → List Entry
wanted_in v entries = filter (λ e. is_wanted v.wanted.now e.0) entries

module _ (v : Folding) where
  abbrev tree_parts : Tree → List Part
  tree_parts t = forest_parts v.stacks.known.now t.1

  -- a stream counts if its thread is wanted
  wanted_one : (e : Entry) (b : Bool) → is_wanted v.wanted.now e.0 ≡ b → wanted_in v (e ∷ []) ≡ (if b then e ∷ [] else [])
  wanted_one e b is = ap (λ (x : Bool). if x then e ∷ [] else []) is

  -- of these streams, all but those that are left were added
  pub record IsFolding (now : Folding) (entries left : List Entry) : Type 0 where
    pub earlier : List Entry
    pub all : entries ≡ earlier ++ left
    pub trees : List Tree
    pub spelled : AreSpelled (wanted_in v earlier) trees
    pub parts : HasMoreParts v.stacks now.stacks (flat_map tree_parts trees)
    pub found : now.is_found ≡ has_trees v.is_found trees
    pub wanted : now.wanted ≡ v.wanted

  -- no stream was added yet
  folding_begun : (entries : List Entry) → IsFolding v entries entries
  folding_begun entries = record {
    earlier = [];
    all = refl;
    trees = [];
    spelled = tt;
    parts = record { rows = refl; known = refl };
    found = refl;
    wanted = refl;
  }

  pub folding_at : (entries left : List Entry) → left ≡ entries → IsFolding v entries left
  folding_at entries left same = subst (λ (es : List Entry). IsFolding v entries es) (sym same) (folding_begun entries)

  -- the next stream is one of the earlier ones from now on
  all_more : (entries earlier left rest : List Entry) (e : Entry) → left ≡ e ∷ rest → entries ≡ earlier ++ left
      → entries ≡ (earlier ++ e ∷ []) ++ rest
  all_more entries earlier left rest e next all =
      all ∙ ap (λ (es : List Entry). earlier ++ es) next ∙ sym (append_assoc earlier (e ∷ []) rest)

  same_wanted : (now : Folding) → now.wanted ≡ v.wanted → now.wanted.now ≡ v.wanted.now
  same_wanted now same = ap (λ (w : Bor Wanted). w.now) same

  -- the wanted ones of some streams and of one more
  wanted_more : (earlier : List Entry) (e : Entry) (b : Bool) → is_wanted v.wanted.now e.0 ≡ b
      → wanted_in v (earlier ++ e ∷ []) ≡ wanted_in v earlier ++ (if b then e ∷ [] else [])
  wanted_more earlier e b is =
      filter-append (λ d. is_wanted v.wanted.now d.0) earlier (e ∷ [])
      ∙ ap (λ (es : List Entry). wanted_in v earlier ++ es) (wanted_one e b is)

  -- a stream more is found
  found_more : (ts : List Tree) (t : Tree) → true ≡ has_trees v.is_found (ts ++ t ∷ [])
  found_more [] t = refl
  found_more (s ∷ ts) t = refl

  -- the next stream was added, or its thread isn't wanted
  pub folding_more : (now new : Folding) (entries left rest : List Entry) (e : Entry) → left ≡ e ∷ rest
      → IsFolding now entries left → StepsStack now new e.0 e.1 → IsFolding new entries rest
  folding_more now new entries left rest e next h (inl (is, added)) =
      let t : Tree = (e.0, added.forest) in
      let wanted : is_wanted v.wanted.now e.0 ≡ true = ap (λ (w : Wanted). is_wanted w e.0) (sym (same_wanted now h.wanted)) ∙ is in
      let more : HasMoreParts now.stacks new.stacks
      (tree_parts t) = subst (λ (k : Bor Collection). HasMoreParts now.stacks new.stacks (forest_parts k.now added.forest))
      h.parts.known added.parts in
      record {
        earlier = h.earlier ++ e ∷ [];
        all = all_more entries h.earlier left rest e next h.all;
        trees = h.trees ++ t ∷ [];
        spelled = subst (λ (es : List Entry). AreSpelled es (h.trees ++ t ∷ [])) (sym (wanted_more h.earlier e true wanted))
            (spelled_more (wanted_in v h.earlier) h.trees e t h.spelled ((refl, added.spells), tt));
        parts =
            subst (HasMoreParts v.stacks new.stacks)
            (ap (λ (ps : List Part). flat_map tree_parts h.trees ++ ps) (sym (append-nil (tree_parts t)))
            ∙ sym (flat_map-append tree_parts h.trees (t ∷ [])))
            (parts_more v.stacks now.stacks new.stacks (flat_map tree_parts h.trees) (tree_parts t) h.parts more);
        found = added.found ∙ found_more h.trees t;
        wanted = added.wanted ∙ h.wanted;
      }
  folding_more now new entries left rest e next h (inr (isnt, same)) =
      let unwanted : is_wanted v.wanted.now e.0 ≡ false = ap (λ (w : Wanted). is_wanted w e.0) (sym (same_wanted now h.wanted)) ∙ isnt in
      subst (λ (u : Folding). IsFolding u entries rest) (sym same) (record {
        earlier = h.earlier ++ e ∷ [];
        all = all_more entries h.earlier left rest e next h.all;
        trees = h.trees;
        spelled = subst (λ (es : List Entry). AreSpelled es h.trees)
            (sym (wanted_more h.earlier e false unwanted ∙ append-nil (wanted_in v h.earlier))) h.spelled;
        parts = h.parts;
        found = h.found;
        wanted = h.wanted;
      })

  -- the next stream has a fault, which is the first of the frame
  pub folding_unread : (now : Folding) (entries left rest : List Entry) (e : Entry) (fault : Error) → left ≡ e ∷ rest
      → IsFolding now entries left → is_wanted now.wanted.now e.0 ≡ true → IsFault e.1.form e.1.bytes fault
      → AreUnread (wanted_in v entries) fault
  folding_unread now entries left rest e fault next h is faulty =
      let wanted : is_wanted v.wanted.now e.0 ≡ true = ap (λ (w : Wanted). is_wanted w e.0) (sym (same_wanted now h.wanted)) ∙ is in
      let test = λ (d : Entry). is_wanted v.wanted.now d.0 in
      record {
        earlier = wanted_in v h.earlier;
        entry = e;
        later = wanted_in v rest;
        all = ap (wanted_in v) (all_more entries h.earlier left rest e next h.all) ∙ filter-append test (h.earlier ++ e ∷ []) rest
            ∙ ap (λ (es : List Entry). es ++ wanted_in v rest) (wanted_more h.earlier e true wanted)
            ∙ append_assoc (wanted_in v h.earlier) (e ∷ []) (wanted_in v rest);
        trees = h.trees;
        spelled = h.spelled;
        faulty = faulty;
      }

module _ (old : Folding) (frame : OpenFrame) where
  -- all streams of a frame were added
  pub frame_folded : (new : Folding) (all left : List Entry) → left ≡ [] → IsFolding old new all left → all_streams frame ≡ all
      → (more : List ℕ) × ([] ≡ [] ++ more) × TakesStacks old (frame ∷ []) more new
  frame_folded new all left none h same =
      let whole : h.earlier ≡ all_streams frame = sym (same ∙ h.all ∙ ap (λ (es : List Entry). h.earlier ++ es) none
      ∙ append-nil h.earlier) in
      let f : TreeFrame = record { meta = frame.meta; trees = h.trees } in
      let some : List Part = flat_map (λ (t : Tree). forest_parts old.stacks.known.now t.1) h.trees in (
        [],
        refl,
        record {
          none = refl;
          trees = f ∷ [];
          read = (record { meta = refl; trees = subst (λ (es : List Entry). AreSpelled (wanted_in old es) h.trees) whole h.spelled }, tt);
          rows = h.parts.rows ∙ ap (fold with_part (rows_of old.stacks)) (sym (append-nil some));
          known = h.parts.known;
          found = h.found;
          wanted = h.wanted;
        },
      )

  -- a frame is refused with this fault
  pub frame_unread : (entries : List Entry) (fault : Error) → all_streams frame ≡ entries
      → AreUnread (wanted_in old entries) fault → AreUnread (wanted_streams old.wanted.now frame) fault
  frame_unread entries fault same u = subst (λ (es : List Entry). AreUnread (wanted_in old es) fault) (sym same) u

-- ---- a file

abbrev pub none : Folding → List ℕ
none v = []

module _ (old new : Folding) (unread left before mid : Option (List ℕ)) where
  abbrev wanted : Wanted
  wanted = old.wanted.now

  abbrev pub Refused : FileError → Type 0
  Refused e = IsStopped IsNoText (RefusesTaken wanted) unread left before mid e

  -- reading the file failed, so nothing is printed
  pub folding_stopped : (e : FileError)
      → StopsListing none TakesStacks RefusesFrame wanted.frames old new unread left before mid e → Refused e
  folding_stopped e h =
      stopped none TakesStacks wanted.frames RefusesFrame IsNoText (RefusesTaken wanted) old new unread left before mid e
      (λ frames more v taken. taken.none)
      (λ frames more v frame cause taken there refused. (
        there,
        subst (λ (w : Wanted). AreUnread (wanted_streams w frame) cause)
            (ap (λ (w : Bor Wanted). w.now) taken.wanted) refused,
      )) h

  module _ (h : ListsAll none TakesStacks wanted.frames old new unread left before mid) where
    quiet : Appends before mid []
    quiet = subst (Appends before mid) h.listed.taken.none h.written

    -- there is no memory for the lines
    pub none_printed : (e : FileError) → IsOutside e → Refused e
    none_printed e outside = record {
      stored = h.stored;
      begins = h.begins;
      frames = h.listed.frames;
      opens = h.listed.opens;
      text = [];
      is = refl;
      outcome = inl (outside, ([], [], refl, quiet));
    }

    module _ (empty : rows_of old.stacks ≡ []) (k : Collection) (same : old.stacks.known.now ≡ k) (unfound : old.is_found ≡ false)
        (lines : List ℕ) (is : lines ≡ flat_map row_text (rows_of new.stacks)) (after : Option (List ℕ)) where
      -- the lines that are printed are those of the file's paths
      are_lines : IsFolded k wanted new.is_found h.listed.frames lines
      are_lines =
          let t = h.listed.taken in (
            t.trees,
            t.read,
            is ∙ ap (flat_map row_text) (t.rows ∙ (λ i. fold with_part (empty i) (parts (same i) t.trees))) ∙ folded_text (parts k t.trees),
            t.found ∙ ap (λ (b : Bool). found_in b t.trees) unfound,
          )

      -- all lines were printed
      pub folding_printed : Appends mid after lines → IsPrinted (IsFolded k wanted new.is_found) unread left before after
      folding_printed app = record {
        stored = h.stored;
        took = h.took;
        frames = h.listed.frames;
        opens = h.listed.opens;
        text = lines;
        is = are_lines;
        written = Appends-trans before mid after [] lines quiet app;
      }

      -- a prefix of the lines was printed
      pub folding_cut : WritesBeginning mid after lines → IsCutOff (IsAnyFolded k wanted) unread left before after
      folding_cut part = record {
        stored = h.stored;
        took = h.took;
        frames = h.listed.frames;
        opens = h.listed.opens;
        text = lines;
        is = (new.is_found, are_lines);
        written =
            let (front, rest, is, appended) = part in
            (front, rest, is, Appends-trans before mid after [] front quiet appended);
      }

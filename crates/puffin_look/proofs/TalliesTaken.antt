-- The tallies of frames, thread after thread, and what a file has of them.
--
-- `IsTallying` holds between two streams of a frame: all but those that are left were added, if their thread is wanted.
-- `tallying_at` begins it, `tallying_more` keeps it, `frame_tallied` ends it. What a whole file says follows from its frames' pieces.
use Rattle.std.proofs.Common.{◌≡◌, ℕ, ◌+◌, Bool, true, false, List, [], ◌∷◌, ◌++◌, Option, Some, None, inl, inr, refl, ap, subst, sym, ◌∙◌, append_assoc, append-nil, slice_get}
use Rattle.std.specs.Prelude.{filter, fold, if◌then◌else◌, IfSome}
use Rattle.std.specs.List.{flat_map}
use Rattle.std.specs.Map.{keys_of}
use Rattle.std.proofs.lemmas.List.Elements.{filter-append}
use Rattle.std.proofs.lemmas.List.Concat.{flat_map-append}
use Rattle.std.proofs.lemmas.List.Sums.{fold-append}
use denote.Ref.{Bor}
use Rattle.puffin_data.specs.declared.error.Error.{Error}
use Rattle.puffin_data.specs.declared.file_error.FileError.{FileError}
use Rattle.puffin_data.specs.Device.{IsOutside}
use Rattle.puffin_data.specs.Forest.{Span}
use Rattle.puffin_data.specs.Walk.{IsFault}
use Rattle.puffin_threads.specs.Details.Collection.{Collection}
use Rattle.puffin_view.specs.View.Stats.{cut}
use Rattle.puffin_look.specs.OpenFrame.{OpenFrame}
use Rattle.puffin_look.specs.Printed.{IsStopped}
use Rattle.puffin_look.specs.Trees.{Entry, Tree, TreeFrame, AreSpelled, AreUnread, all_streams}
use Rattle.puffin_look.specs.Wanted.{is_wanted, wanted_streams, RefusesTaken}
use Rattle.puffin_look.specs.declared.wanted.Wanted.{Wanted}
use Rattle.puffin_look.specs.FrameTree.{time_of}
use Rattle.puffin_look.specs.Slowest.{IsNoText}
use Rattle.puffin_look.specs.Top.{Piece, scope_name, inner_name, name_around, pieces_at, scope_pieces, forest_pieces, pieces, with_length, with_one, IsTop, StopsReading}
use Rattle.puffin_look.specs.Cells.{length_of}
use Rattle.puffin_look.specs.inner.Tallies.{Row, rows_in, rows_of, name_at, with_piece_in, HasMorePieces, pieces_more, TakesScopes, StandsFor}
use Rattle.puffin_look.specs.inner.Tops.{StepsTally, TakesTallies, RefusesFrame, HaveTallies}
use Rattle.puffin_look.specs.inner.Listings.{ListsAll, StopsListing}
use Rattle.puffin_look.specs.declared.tallies.Tallies.{Tallies}
use Rattle.puffin_look.specs.declared.top.Tallying.{Tallying}
use Rattle.puffin_look.specs.declared.top.Top.{Top}
use Rattle.puffin_look.proofs.Listed.{stopped}
use Rattle.puffin_look.proofs.Traced.{spelled_more}
use Rattle.puffin_look.proofs.RowsTold.{rows_told}

-- ---- a scope

-- what is kept gives the name around
stands_name : (v : Tallies) (w : Option ℕ) (around : List Span) → StandsFor v w around
    → name_at (rows_of v) w ≡ name_around v.known.now v.texts around
stands_name v None around s = sym s
stands_name v (Some i) around (name, named, at) = at ∙ sym named

-- it has a name at its place
pub stands_within : (v : Tallies) (w : Option ℕ) (around : List Span) → StandsFor v w around
    → IfSome w (λ i. (name : List ℕ) × (slice_get (keys_of (rows_of v)) i ≡ Some name))
stands_within v None around s = tt
stands_within v (Some i) around (name, named, at) = (name, at)

-- the name was made first, which changed nothing else
pub renamed : (v m u : Tallies) (w : Option ℕ) (name : List ℕ) (time : ℕ) → m.rows ≡ v.rows → m.known ≡ v.known
    → m.texts ≡ v.texts → m.name.items ≡ name → HasMorePieces m u (pieces_at (name_at (rows_of m) w) m.name.items time)
    → HasMorePieces v u (pieces_at (name_at (rows_of v) w) name time)
renamed v m u w name time rows known texts same h = record {
  rows = h.rows ∙ (λ i. fold with_piece_in (rows_in ((rows i).entries)) (pieces_at (name_at (rows_in ((rows i).entries)) w) (same i) time));
  known = h.known ∙ known;
  texts = h.texts ∙ texts;
}

-- a scope was added, and its name's place stands for it
pub entered : (v u : Tallies) (w : Option ℕ) (place : ℕ) (around : List Span) (s : Span) (time : ℕ) → time ≡ time_of s
    → HasMorePieces v u (pieces_at (name_at (rows_of v) w) (scope_name v.known.now v.texts s) time)
    → slice_get (keys_of (rows_of u)) place ≡ Some (scope_name v.known.now v.texts s) → StandsFor v w around
    → TakesScopes v (record { around = around; span = s } ∷ []) u × StandsFor u (Some place) (around ++ s ∷ [])
entered v u w place around s time same more at stands =
    let p = stands_name v w around stands in
    let name = scope_name v.known.now v.texts s in (
      subst (HasMorePieces v u)
          ((λ i. pieces_at (p i) name (same i))
          ∙ sym (append-nil (scope_pieces v.known.now v.texts (record { around = around; span = s })))) more,
      (
        name,
        (λ i. name_around (more.known i).now (more.texts i) (around ++ s ∷ []))
            ∙ fold-append (inner_name v.known.now v.texts) None around (s ∷ []),
        at,
      ),
    )

-- ---- a frame

abbrev wanted_in : Tallying → List Entry → List Entry
wanted_in v entries = filter (λ e. is_wanted v.wanted.now e.0) entries

module _ (v : Tallying) where
  abbrev tree_pieces : Tree → List Piece
  tree_pieces t = forest_pieces v.tallies.known.now v.tallies.texts t.1

  -- a stream counts if its thread is wanted
  wanted_one : (e : Entry) (b : Bool) → is_wanted v.wanted.now e.0 ≡ b → wanted_in v (e ∷ []) ≡ (if b then e ∷ [] else [])
  wanted_one e b is = ap (λ (x : Bool). if x then e ∷ [] else []) is

  -- of these streams, all but those that are left were added
  pub record IsTallying (now : Tallying) (entries left : List Entry) : Type 0 where
    pub earlier : List Entry
    pub all : entries ≡ earlier ++ left
    pub trees : List Tree
    pub spelled : AreSpelled (wanted_in v earlier) trees
    pub pieces : HasMorePieces v.tallies now.tallies (flat_map tree_pieces trees)
    pub whole : now.whole ≡ v.whole
    pub count : now.frames ≡ v.frames
    pub wanted : now.wanted ≡ v.wanted

  -- no stream was added yet
  tallying_begun : (entries : List Entry) → IsTallying v entries entries
  tallying_begun entries = record {
    earlier = [];
    all = refl;
    trees = [];
    spelled = tt;
    pieces = record { rows = refl; known = refl; texts = refl };
    whole = refl;
    count = refl;
    wanted = refl;
  }

  pub tallying_at : (entries left : List Entry) → left ≡ entries → IsTallying v entries left
  tallying_at entries left same = subst (λ (es : List Entry). IsTallying v entries es) (sym same) (tallying_begun entries)

  -- the next stream is one of the earlier ones from now on
  all_more : (entries earlier left rest : List Entry) (e : Entry) → left ≡ e ∷ rest → entries ≡ earlier ++ left
      → entries ≡ (earlier ++ e ∷ []) ++ rest
  all_more entries earlier left rest e next all =
      all ∙ ap (λ (es : List Entry). earlier ++ es) next ∙ sym (append_assoc earlier (e ∷ []) rest)

  same_wanted : (now : Tallying) → now.wanted ≡ v.wanted → now.wanted.now ≡ v.wanted.now
  same_wanted now same = ap (λ (w : Bor Wanted). w.now) same

  -- the wanted ones of some streams and of one more
  wanted_more : (earlier : List Entry) (e : Entry) (b : Bool) → is_wanted v.wanted.now e.0 ≡ b
      → wanted_in v (earlier ++ e ∷ []) ≡ wanted_in v earlier ++ (if b then e ∷ [] else [])
  wanted_more earlier e b is =
      filter-append (λ d. is_wanted v.wanted.now d.0) earlier (e ∷ [])
      ∙ ap (λ (es : List Entry). wanted_in v earlier ++ es) (wanted_one e b is)

  -- the next stream was added, or its thread isn't wanted
  pub tallying_more : (now new : Tallying) (entries left rest : List Entry) (e : Entry) → left ≡ e ∷ rest
      → IsTallying now entries left → StepsTally now new e.0 e.1 → IsTallying new entries rest
  tallying_more now new entries left rest e next h (inl (is, added)) =
      let t : Tree = (e.0, added.forest) in
      let wanted : is_wanted v.wanted.now e.0 ≡ true = ap (λ (w : Wanted). is_wanted w e.0) (sym (same_wanted now h.wanted)) ∙ is in
      let more : HasMorePieces now.tallies new.tallies (tree_pieces t) = subst (HasMorePieces now.tallies new.tallies)
      (λ i. forest_pieces (h.pieces.known i).now (h.pieces.texts i) added.forest) added.pieces in
      record {
        earlier = h.earlier ++ e ∷ [];
        all = all_more entries h.earlier left rest e next h.all;
        trees = h.trees ++ t ∷ [];
        spelled = subst (λ (es : List Entry). AreSpelled es (h.trees ++ t ∷ [])) (sym (wanted_more h.earlier e true wanted))
            (spelled_more (wanted_in v h.earlier) h.trees e t h.spelled ((refl, added.spells), tt));
        pieces =
            subst (HasMorePieces v.tallies new.tallies)
            (ap (λ (ps : List Piece). flat_map tree_pieces h.trees ++ ps) (sym (append-nil (tree_pieces t)))
            ∙ sym (flat_map-append tree_pieces h.trees (t ∷ [])))
            (pieces_more v.tallies now.tallies new.tallies (flat_map tree_pieces h.trees) (tree_pieces t) h.pieces more);
        whole = added.whole ∙ h.whole;
        count = added.count ∙ h.count;
        wanted = added.wanted ∙ h.wanted;
      }
  tallying_more now new entries left rest e next h (inr (isnt, same)) =
      let unwanted : is_wanted v.wanted.now e.0 ≡ false = ap (λ (w : Wanted). is_wanted w e.0) (sym (same_wanted now h.wanted)) ∙ isnt in
      subst (λ (u : Tallying). IsTallying u entries rest) (sym same) (record {
        earlier = h.earlier ++ e ∷ [];
        all = all_more entries h.earlier left rest e next h.all;
        trees = h.trees;
        spelled = subst (λ (es : List Entry). AreSpelled es h.trees)
            (sym (wanted_more h.earlier e false unwanted ∙ append-nil (wanted_in v h.earlier))) h.spelled;
        pieces = h.pieces;
        whole = h.whole;
        count = h.count;
        wanted = h.wanted;
      })

  -- the next stream has a fault, which is the first of the frame
  pub tallying_unread : (now : Tallying) (entries left rest : List Entry) (e : Entry) (fault : Error) → left ≡ e ∷ rest
      → IsTallying now entries left → is_wanted now.wanted.now e.0 ≡ true → IsFault e.1.form e.1.bytes fault
      → AreUnread (wanted_in v entries) fault
  tallying_unread now entries left rest e fault next h is faulty =
      let wanted : is_wanted v.wanted.now e.0 ≡ true = ap (λ (w : Wanted). is_wanted w e.0) (sym (same_wanted now h.wanted)) ∙ is in
      let test = λ (d : Entry). is_wanted v.wanted.now d.0 in
      record {
        earlier = wanted_in v h.earlier;
        entry = e;
        later = wanted_in v rest;
        all = ap (wanted_in v) (all_more entries h.earlier left rest e next h.all) ∙ filter-append test (h.earlier ++ e ∷ []) rest
            ∙ ap (λ (es : List Entry). es ++ wanted_in v rest) (wanted_more h.earlier e true wanted)
            ∙ append_assoc (wanted_in v h.earlier) (e ∷ []) (wanted_in v rest);
        trees = h.trees;
        spelled = h.spelled;
        faulty = faulty;
      }

module _ (old : Tallying) (frame : OpenFrame) where
  -- all streams of a frame were added, and then its duration
  pub frame_tallied : (now new : Tallying) (all left : List Entry) → left ≡ [] → IsTallying old now all left
      → all_streams frame ≡ all → new.tallies ≡ now.tallies → new.wanted ≡ now.wanted
      → new.whole ≡ cut (now.whole + length_of frame.meta.range_ns) → new.frames ≡ cut (now.frames + 1)
      → (more : List ℕ) × ([] ≡ [] ++ more) × TakesTallies old (frame ∷ []) more new
  frame_tallied now new all left none h same tallies wanted more one =
      let whole : h.earlier ≡ all_streams frame = sym (same ∙ h.all ∙ ap (λ (es : List Entry). h.earlier ++ es) none
      ∙ append-nil h.earlier) in
      let f : TreeFrame = record { meta = frame.meta; trees = h.trees } in
      let some : List Piece = flat_map (λ (t : Tree). forest_pieces old.tallies.known.now old.tallies.texts t.1) h.trees in (
        [],
        refl,
        record {
          none = refl;
          trees = f ∷ [];
          read = (record { meta = refl; trees = subst (λ (es : List Entry). AreSpelled (wanted_in old es) h.trees) whole h.spelled }, tt);
          rows = ap rows_of tallies ∙ h.pieces.rows ∙ ap (fold with_piece_in (rows_of old.tallies)) (sym (append-nil some));
          known = ap (λ (t : Tallies). t.known) tallies ∙ h.pieces.known;
          texts = ap (λ (t : Tallies). t.texts) tallies ∙ h.pieces.texts;
          whole = more ∙ ap (λ (n : ℕ). cut (n + length_of frame.meta.range_ns)) h.whole;
          count = one ∙ ap (λ (n : ℕ). cut (n + 1)) h.count;
          wanted = wanted ∙ h.wanted;
        },
      )

  -- a frame is refused with this fault
  pub frame_unread : (entries : List Entry) (fault : Error) → all_streams frame ≡ entries
      → AreUnread (wanted_in old entries) fault → AreUnread (wanted_streams old.wanted.now frame) fault
  frame_unread entries fault same u = subst (λ (es : List Entry). AreUnread (wanted_in old es) fault) (sym same) u

-- ---- a file

abbrev pub none : Tallying → List ℕ
none v = []

module _ (old new : Tallying) (unread left before mid : Option (List ℕ)) where
  abbrev wanted : Wanted
  wanted = old.wanted.now

  -- reading stopped as printing nothing did
  told : (e : FileError) → IsStopped IsNoText (RefusesTaken wanted) unread left before mid e → StopsReading wanted unread left e
  told e s = record {
    stored = s.stored;
    begins = s.begins;
    frames = s.frames;
    opens = s.opens;
    outcome = elim (s.outcome) [
      | inl (outside, part) ↦ inl outside
      | inr (inl (written, fault)) ↦ inr (inl fault)
      | inr (inr (letters, written)) ↦ inr (inr letters)
    ];
  }

  -- reading the file failed
  pub tallying_stopped : (e : FileError)
      → StopsListing none TakesTallies RefusesFrame wanted.frames old new unread left before mid e
      → StopsReading wanted unread left e
  tallying_stopped e h =
      told e (stopped none TakesTallies wanted.frames RefusesFrame IsNoText (RefusesTaken wanted) old new unread left before mid e
      (λ frames more v taken. taken.none)
      (λ frames more v frame cause taken there refused. (
        there,
        subst (λ (w : Wanted). AreUnread (wanted_streams w frame) cause)
            (ap (λ (w : Bor Wanted). w.now) taken.wanted) refused,
      )) h)

  module _ (h : ListsAll none TakesTallies wanted.frames old new unread left before mid) where
    -- there is no memory for the rows
    pub none_told : (e : FileError) → IsOutside e → StopsReading wanted unread left e
    none_told e outside =
        record { stored = h.stored; begins = h.begins; frames = h.listed.frames; opens = h.listed.opens; outcome = inl outside }

    -- what is returned is what the file has
    pub top_told : (empty : rows_of old.tallies ≡ []) (k : Collection) (same : old.tallies.known.now ≡ k) (texts : Bool)
        (kept : old.tallies.texts ≡ texts) (zero : old.whole ≡ 0) (no_frames : old.frames ≡ 0) (top : Top)
        → HaveTallies (rows_of new.tallies) top.rows.items → top.whole ≡ new.whole → top.frames ≡ new.frames
        → IsTop k wanted texts unread left top
    top_told empty k same texts kept zero no_frames top are whole count =
        let t = h.listed.taken in
        record {
          stored = h.stored;
          took = h.took;
          frames = h.listed.frames;
          opens = h.listed.opens;
          trees = t.trees;
          taken = t.read;
          rows = rows_told (pieces k texts t.trees) top.rows.items
              (subst (λ (rows : List Row). HaveTallies rows top.rows.items)
              (t.rows ∙ (λ i. fold with_piece_in (empty i) (pieces (same i) (kept i) t.trees))) are);
          whole = whole ∙ t.whole ∙ ap (λ (n : ℕ). fold with_length n t.trees) zero;
          count = count ∙ t.count ∙ ap (λ (n : ℕ). fold with_one n t.trees) no_frames;
        }

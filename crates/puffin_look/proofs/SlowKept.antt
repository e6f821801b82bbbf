-- The slowest frames that are kept, and what is printed of them.
--
-- A frame is read into a list of its own, whose text is kept with its duration (`slow_read`, `frame_kept`). To keep the first `limit` rows
-- after each frame gives the first rows of all frames in order (`kept_slow`), and their texts are printed.
use Rattle.std.proofs.Common.{◌≡◌, ℕ, zero, suc, ◌-ℤ◌, true, false, List, [], ◌∷◌, ◌++◌, Option, length, map, take, inl, refl, ap, subst, sym, ◌∙◌, append-nil}
use Rattle.std.specs.Prelude.{fold, if◌then◌else◌}
use Rattle.std.specs.Io.KnownBytes.{Appends}
use Rattle.std.proofs.KnownBytes.{Appends-trans}
use denote.Ref.{Bor}
use Rattle.puffin_data.specs.declared.file_error.FileError.{FileError}
use Rattle.puffin_data.specs.Device.{IsOutside, WritesBeginning}
use Rattle.puffin_threads.specs.Details.Collection.{Collection}
use Rattle.puffin_look.specs.OpenFrame.{OpenFrame}
use Rattle.puffin_look.specs.Printed.{IsPrinted, IsStopped, IsCutOff}
use Rattle.puffin_look.specs.Trees.{TreeFrame, IsRead, AreRead, AreUnread}
use Rattle.puffin_look.specs.Wanted.{wanted_streams, RefusesTaken}
use Rattle.puffin_look.specs.declared.wanted.Wanted.{Wanted}
use Rattle.puffin_look.specs.Cells.{length_of}
use Rattle.puffin_look.specs.Folded.{frame_parts, parts}
use Rattle.puffin_look.specs.Forms.{joined, list_text}
use Rattle.puffin_look.specs.Heavy.{path_rows, step_lines}
use Rattle.puffin_look.specs.declared.lines.Form.{Form}
use Rattle.puffin_look.specs.Slowest.{IsNoText, is_faster_by, with_row_by}
use Rattle.puffin_look.specs.SlowFrames.{Slow, duration, slow_of, head_text, between_steps, tail_text, slowest_first, AreSlowFrames}
use Rattle.puffin_look.specs.inner.Foldings.{TakesStacks}
use Rattle.puffin_look.specs.inner.Listings.{ListsAll, StopsListing}
use Rattle.puffin_look.specs.inner.Stacks.{rows_of, with_part}
use Rattle.puffin_look.specs.inner.SlowlyTaken.{held_duration, held_of, ReadsSlow, keeping, TakesSlow, RefusesFrame}
use Rattle.puffin_look.specs.declared.folded.Folding.{Folding}
use Rattle.puffin_look.specs.declared.slow_frames.SlowFrame.{SlowFrame}
use Rattle.puffin_look.specs.declared.slow_frames.SlowFrames.{SlowFrames}
use Rattle.puffin_look.proofs.Listed.{stopped}
use Rattle.puffin_look.proofs.SlowestKept.{kept_by}
use Rattle.puffin_look.proofs.Stacked.{all_rows}

-- ---- a frame

module _ (form : Form) (v u : Folding) (known : Collection) (wanted : Wanted) (frame : OpenFrame) (text : List ℕ)
    (empty : rows_of v.stacks ≡ []) (details : v.stacks.known.now ≡ known) (same : v.wanted.now ≡ wanted)
    (is : text ≡ head_text form frame.meta
    ++ (joined (between_steps form) false
    (step_lines form (length (rows_of u.stacks)) (rows_of u.stacks) 0 [] (length_of frame.meta.range_ns))
    ++ tail_text form)) where
  -- one frame has one tree
  read_by : (trees : List TreeFrame) → AreRead (wanted_streams v.wanted.now) (frame ∷ []) trees
      → rows_of u.stacks ≡ fold with_part (rows_of v.stacks) (parts v.stacks.known.now trees)
      → ReadsSlow form known wanted frame text
  read_by [] read rows = absurd read
  read_by (t ∷ []) (is_read, no_more) rows =
      let all : rows_of u.stacks ≡ path_rows (frame_parts known t) = rows
      ∙ (λ i. fold with_part (empty i) (parts (details i) (t ∷ []))) ∙ all_rows (parts known (t ∷ []))
      ∙ ap path_rows (append-nil (frame_parts known t)) in
      record {
        tree = t;
        read = subst (λ (w : Wanted). IsRead (wanted_streams w) frame t) same is_read;
        is = is ∙ (λ i. head_text form (sym is_read.meta i)
            ++ (joined (between_steps form) false
            (step_lines form (length (all i)) (all i) 0 [] (length_of (sym is_read.meta i).range_ns)) ++ tail_text form));
      }
  read_by (t ∷ (s ∷ trees)) (is_read, more_read) rows = absurd more_read

  -- what is printed of a frame whose scopes were folded
  pub slow_read : (more : List ℕ) → TakesStacks v (frame ∷ []) more u → ReadsSlow form known wanted frame text
  slow_read more taken = read_by taken.trees taken.read taken.rows

-- the first of what is made of a list
map_take : {X Y : Type 0} (f : X → Y) (n : ℕ) (xs : List X) → map f (take n xs) ≡ take n (map f xs)
map_take f zero xs = refl
map_take f (suc n) [] = refl
map_take f (suc n) (x ∷ xs) = ap (λ ys. f x ∷ ys) (map_take f n xs)

-- a row is put among the rows where it belongs among what they hold
map_with : (rows : List SlowFrame) (row : SlowFrame)
    → map held_of (with_row_by held_duration rows row) ≡ with_row_by duration (map held_of rows) (held_of row)
map_with [] row = refl
map_with (first ∷ rows) row =
    elim (is_faster_by held_duration row first) as (λ b. map held_of
    (if b then row ∷ (first ∷ rows) else first ∷ with_row_by held_duration rows row)
    ≡ (if b then held_of row ∷ (held_of first ∷ map held_of rows) else held_of first ∷ with_row_by duration (map held_of rows)
    (held_of row))) [
      | true ↦ refl
      | false ↦ ap (λ ys. held_of first ∷ ys) (map_with rows row)
    ]

-- a frame was read, and the slowest of the frames so far are kept
pub frame_kept : (old new : SlowFrames) (frame : OpenFrame) (row : SlowFrame)
    → ReadsSlow old.form old.known.now old.wanted.now frame row.text.items
    → row.duration_ns ≡ frame.meta.range_ns.1 -ℤ frame.meta.range_ns.0
    → new.rows.items ≡ take old.limit (with_row_by held_duration old.rows.items row)
    → new.limit ≡ old.limit → new.form ≡ old.form → new.known ≡ old.known → new.wanted ≡ old.wanted → TakesSlow old (frame ∷ []) [] new
frame_kept old new frame row read time rows limit form known wanted =
    let slow : held_of row ≡ slow_of old.form old.known.now
    read.tree = λ i. ((time ∙ (λ j. (sym read.read.meta j).range_ns.1 -ℤ (sym read.read.meta j).range_ns.0)) i, read.is i) in
    record {
      none = refl;
      trees = read.tree ∷ [];
      read = (read.read, tt);
      rows = ap (map held_of) rows ∙ map_take held_of old.limit (with_row_by held_duration old.rows.items row)
          ∙ ap (take old.limit) (map_with old.rows.items row ∙ ap (with_row_by duration (map held_of old.rows.items)) slow);
      limit = limit;
      form = form;
      known = known;
      wanted = wanted;
    }

-- ---- a file

-- the texts of the rows are those of what they hold
texts_held : (rows : List SlowFrame) → map (λ (row : SlowFrame). row.text.items) rows ≡ map (λ (slow : Slow). slow.1) (map held_of rows)
texts_held [] = refl
texts_held (row ∷ rows) = ap (λ ts. row.text.items ∷ ts) (texts_held rows)

-- no rows are the first of none
take_none : (n : ℕ) (rows : List Slow) → rows ≡ [] → rows ≡ take n rows
take_none zero [] e = refl
take_none (suc n) [] e = refl
take_none n (x ∷ rows) e = absurd (cc)

-- keeping the slowest frames after each one keeps the slowest of all
pub kept_slow : (form : Form) (known : Collection) (n : ℕ) (trees : List TreeFrame)
    → fold (keeping n form known) [] trees ≡ take n (slowest_first form known trees)
kept_slow form known n trees =
    ap (λ (xs : List Slow). fold (keeping n form known) xs trees) (take_none n [] refl)
    ∙ kept_by duration (slow_of form known) n trees []

abbrev pub none : SlowFrames → List ℕ
none v = []

module _ (old new : SlowFrames) (unread left before mid : Option (List ℕ)) where
  abbrev wanted : Wanted
  wanted = old.wanted.now

  abbrev pub Refused : FileError → Type 0
  Refused e = IsStopped IsNoText (RefusesTaken wanted) unread left before mid e

  -- reading the file failed, so nothing is printed
  pub slow_stopped : (e : FileError) → StopsListing none TakesSlow RefusesFrame wanted.frames old new unread left before mid e → Refused e
  slow_stopped e h =
      stopped none TakesSlow wanted.frames RefusesFrame IsNoText (RefusesTaken wanted) old new unread left before mid e
      (λ frames more v taken. taken.none)
      (λ frames more v frame cause taken there refused. (
        there,
        subst (λ (w : Wanted). AreUnread (wanted_streams w frame) cause)
            (ap (λ (w : Bor Wanted). w.now) taken.wanted) refused,
      )) h

  module _ (h : ListsAll none TakesSlow wanted.frames old new unread left before mid) where
    quiet : Appends before mid []
    quiet = subst (Appends before mid) h.listed.taken.none h.written

    -- there is no memory for the lines
    pub none_printed : (e : FileError) → IsOutside e → Refused e
    none_printed e outside = record {
      stored = h.stored;
      begins = h.begins;
      frames = h.listed.frames;
      opens = h.listed.opens;
      text = [];
      is = refl;
      outcome = inl (outside, ([], [], refl, quiet));
    }

    module _ (empty : old.rows.items ≡ []) (k : Collection) (same : old.known.now ≡ k) (lines : List ℕ)
        (is : lines ≡ list_text old.form [] (map (λ (row : SlowFrame). row.text.items) new.rows.items))
        (after : Option (List ℕ)) where
      -- the lines that are printed are those of the slowest frames
      are_lines : AreSlowFrames old.form k wanted old.limit h.listed.frames lines
      are_lines =
          let t = h.listed.taken in (
            t.trees,
            t.read,
            is ∙ ap (list_text old.form []) (texts_held new.rows.items
                ∙ ap (map (λ (slow : Slow). slow.1)) (t.rows
                ∙ (λ i. fold (keeping old.limit old.form (same i)) (map held_of (empty i)) t.trees)
                ∙ kept_slow old.form k old.limit t.trees)),
          )

      -- all lines were printed
      pub slow_printed : Appends mid after lines → IsPrinted (AreSlowFrames old.form k wanted old.limit) unread left before after
      slow_printed app = record {
        stored = h.stored;
        took = h.took;
        frames = h.listed.frames;
        opens = h.listed.opens;
        text = lines;
        is = are_lines;
        written = Appends-trans before mid after [] lines quiet app;
      }

      -- a prefix of the lines was printed
      pub slow_cut : WritesBeginning mid after lines → IsCutOff (AreSlowFrames old.form k wanted old.limit) unread left before after
      slow_cut part = record {
        stored = h.stored;
        took = h.took;
        frames = h.listed.frames;
        opens = h.listed.opens;
        text = lines;
        is = are_lines;
        written =
            let (front, rest, is, appended) = part in
            (front, rest, is, Appends-trans before mid after [] front quiet appended);
      }

-- What the slowest frames take from frames, one after the other.
use Rattle.std.specs.Prelude.{◌≡◌, ℕ, ℤ, List, [], ◌++◌, fold, map, take}
use Rattle.std.proofs.Common.{refl, sym, ap, subst, ◌∙◌}
use Rattle.std.proofs.lemmas.List.Sums.{fold-append}
use denote.Ref.{Bor}
use Rattle.puffin_data.specs.declared.error.Error.{Error}
use Rattle.puffin_threads.specs.Details.Collection.{Collection}
use Rattle.puffin_look.specs.OpenFrame.{OpenFrame}
use Rattle.puffin_look.specs.Trees.{TreeFrame, IsRead, AreRead, AreUnread}
use Rattle.puffin_look.specs.Wanted.{wanted_streams}
use Rattle.puffin_look.specs.declared.lines.Form.{Form}
use Rattle.puffin_look.specs.declared.wanted.Wanted.{Wanted}
use Rattle.puffin_look.specs.Slowest.{with_row_by}
use Rattle.puffin_look.specs.SlowFrames.{Slow, duration, slow_of, slow_text}
use Rattle.puffin_look.specs.inner.Reads.{AreRead-append}
use Rattle.puffin_look.specs.declared.slow_frames.SlowFrame.{SlowFrame}
use Rattle.puffin_look.specs.declared.slow_frames.SlowFrames.{SlowFrames}

abbrev pub held_duration : SlowFrame → ℤ
held_duration row = row.duration_ns

abbrev pub held_of : SlowFrame → Slow
held_of row = (row.duration_ns, row.text.items)

-- this is what is printed of a frame
pub record ReadsSlow (form : Form) (known : Collection) (wanted : Wanted) (frame : OpenFrame)
    (text : List ℕ) : Type 0 where
  pub tree : TreeFrame
  pub read : IsRead (wanted_streams wanted) frame tree
  pub is : text ≡ slow_text form known tree

-- only so many are kept
abbrev pub keeping : ℕ → Form → Collection → List Slow → TreeFrame → List Slow
keeping limit form known rows tree =
    take limit (with_row_by duration rows (slow_of form known tree))

-- these frames were read, the slowest were kept, and nothing was printed
pub record TakesSlow (old : SlowFrames) (frames : List OpenFrame) (text : List ℕ)
    (new : SlowFrames) : Type 0 where
  pub none : text ≡ []
  pub trees : List TreeFrame
  pub read : AreRead (wanted_streams old.wanted.now) frames trees
  pub rows : map held_of new.rows.items
      ≡ fold (keeping old.limit old.form old.known.now) (map held_of old.rows.items) trees
  pub limit : new.limit ≡ old.limit
  pub form : new.form ≡ old.form
  pub known : new.known ≡ old.known
  pub wanted : new.wanted ≡ old.wanted

abbrev pub RefusesFrame : SlowFrames → OpenFrame → Error → Type 0
RefusesFrame old frame cause = AreUnread (wanted_streams old.wanted.now frame) cause

-- ---- laws

pub slow_none : (v : SlowFrames) → TakesSlow v [] [] v
slow_none v = record {
  none = refl;
  trees = [];
  read = tt;
  rows = refl;
  limit = refl;
  form = refl;
  known = refl;
  wanted = refl;
}

pub slow_more : (u v w : SlowFrames) (xs ys : List OpenFrame) (s t : List ℕ) → TakesSlow u xs s v →
    TakesSlow v ys t w → TakesSlow u (xs ++ ys) (s ++ t) w
slow_more u v w xs ys s t a b =
    let wanted = ap (λ (w : Bor Wanted). w.now) a.wanted in
    record {
      none = ap (λ (r : List ℕ). r ++ t) a.none ∙ b.none;
      trees = a.trees ++ b.trees;
      read = AreRead-append (wanted_streams u.wanted.now) xs ys a.trees b.trees a.read (
          subst (λ (w : Wanted). AreRead (wanted_streams w) ys b.trees) wanted b.read);
      rows = b.rows
          ∙ (λ i. fold (keeping (a.limit i) (a.form i) (a.known i).now) (a.rows i) b.trees)
          ∙ sym (fold-append (keeping u.limit u.form u.known.now) (map held_of u.rows.items) a.trees b.trees);
      limit = b.limit ∙ a.limit;
      form = b.form ∙ a.form;
      known = b.known ∙ a.known;
      wanted = b.wanted ∙ a.wanted;
    }

-- What the tallies of names take from frames, one after the other, and the rows that they end in.
use Rattle.std.specs.Prelude.{◌≡◌, ◌⊎◌, ℕ, ◌-◌, min, true, false, List, [], ◌∷◌, ◌++◌, fold}
use Rattle.std.proofs.Common.{refl, sym, ap, subst, ◌∙◌}
use Rattle.std.proofs.lemmas.List.Sums.{fold-append}
use Rattle.std.proofs.lemmas.List.Concat.{flat_map-append}
use denote.Ref.{Bor}
use Rattle.puffin_data.specs.declared.error.Error.{Error}
use Rattle.puffin_data.specs.Forest.{Forest}
use Rattle.puffin_data.specs.Forest.Spelling.{Spells}
use Rattle.puffin_data.specs.Honesty.{StreamFacts}
use Rattle.puffin_data.specs.Walk.{IsFault}
use Rattle.puffin_threads.specs.Thread.ThreadKey.{ThreadKey}
use Rattle.puffin_look.specs.OpenFrame.{OpenFrame}
use Rattle.puffin_look.specs.Trees.{TreeFrame, AreRead, AreUnread}
use Rattle.puffin_look.specs.Wanted.{is_wanted, wanted_streams}
use Rattle.puffin_look.specs.declared.wanted.Wanted.{Wanted}
use Rattle.puffin_look.specs.Buckets.{last_of}
use Rattle.puffin_look.specs.Top.{rank_of, forest_pieces, frame_pieces, pieces, with_length, with_one}
use Rattle.puffin_look.specs.inner.Counts.{bucket_at}
use Rattle.puffin_look.specs.inner.Reads.{AreRead-append}
use Rattle.puffin_look.specs.inner.Tallies.{Counted, Row, rows_of, with_piece_in, HasMorePieces}
use Rattle.puffin_look.specs.declared.top.Tallying.{Tallying}
use Rattle.puffin_look.specs.declared.top.TopRow.{TopRow}

-- ---- a thread

pub record AddsTally (old new : Tallying) (facts : StreamFacts) : Type 0 where
  pub forest : Forest
  pub spells : Spells facts.form facts.bytes forest
  pub pieces : HasMorePieces old.tallies new.tallies (
      forest_pieces old.tallies.known.now old.tallies.texts forest)
  pub whole : new.whole ≡ old.whole
  pub count : new.frames ≡ old.frames
  pub wanted : new.wanted ≡ old.wanted

-- a thread's scopes were added, unless the thread isn't wanted
abbrev pub StepsTally : Tallying → Tallying → ThreadKey → StreamFacts → Type 0
StepsTally old new key facts =
    ((is_wanted old.wanted.now key ≡ true) × AddsTally old new facts)
    ⊎ ((is_wanted old.wanted.now key ≡ false) × (new ≡ old))

abbrev pub IsTallyFault : Tallying → ThreadKey → StreamFacts → Error → Type 0
IsTallyFault old key facts fault =
    (is_wanted old.wanted.now key ≡ true) × IsFault facts.form facts.bytes fault

-- ---- frames

-- these frames were read, their scopes were added, and nothing was printed
pub record TakesTallies (old : Tallying) (frames : List OpenFrame) (text : List ℕ)
    (new : Tallying) : Type 0 where
  pub none : text ≡ []
  pub trees : List TreeFrame
  pub read : AreRead (wanted_streams old.wanted.now) frames trees
  pub rows : rows_of new.tallies
      ≡ fold with_piece_in (rows_of old.tallies) (pieces old.tallies.known.now old.tallies.texts trees)
  pub known : new.tallies.known ≡ old.tallies.known
  pub texts : new.tallies.texts ≡ old.tallies.texts
  pub whole : new.whole ≡ fold with_length old.whole trees
  pub count : new.frames ≡ fold with_one old.frames trees
  pub wanted : new.wanted ≡ old.wanted

abbrev pub RefusesFrame : Tallying → OpenFrame → Error → Type 0
RefusesFrame old frame cause = AreUnread (wanted_streams old.wanted.now frame) cause

-- ---- rows

-- what so many percent of the calls don't exceed
abbrev pub percentile : ℕ → Counted → ℕ
percentile percent tally =
    min (last_of (bucket_at tally.1 (rank_of percent tally.0.calls))) tally.0.greatest

-- the row of a name
pub record HasTally (named : Row) (row : TopRow) : Type 0 where
  pub name : row.name.items ≡ named.0
  pub calls : row.calls ≡ named.1.0.calls
  pub total : row.total ≡ named.1.0.total
  pub own : row.own ≡ named.1.0.total - named.1.0.nested
  pub least : row.least ≡ named.1.0.least
  pub median : row.median ≡ percentile 50 named.1
  pub p95 : row.p95 ≡ percentile 95 named.1
  pub p99 : row.p99 ≡ percentile 99 named.1
  pub greatest : row.greatest ≡ named.1.0.greatest

abbrev pub HaveTallies : List Row → List TopRow → Type 0
HaveTallies [] [] = Unit {0}
HaveTallies [] (row ∷ rows) = ⊥
HaveTallies (named ∷ rest) [] = ⊥
HaveTallies (named ∷ rest) (row ∷ rows) = HasTally named row × HaveTallies rest rows

-- ---- laws

pub tallies_none : (v : Tallying) → TakesTallies v [] [] v
tallies_none v = record {
  none = refl;
  trees = [];
  read = tt;
  rows = refl;
  known = refl;
  texts = refl;
  whole = refl;
  count = refl;
  wanted = refl;
}

pub tallies_more : (u v w : Tallying) (xs ys : List OpenFrame) (s t : List ℕ) → TakesTallies u xs s v →
    TakesTallies v ys t w → TakesTallies u (xs ++ ys) (s ++ t) w
tallies_more u v w xs ys s t a b =
    let wanted = ap (λ (w : Bor Wanted). w.now) a.wanted in
    let known = u.tallies.known.now in
    let texts = u.tallies.texts in
    record {
      none = ap (λ (r : List ℕ). r ++ t) a.none ∙ b.none;
      trees = a.trees ++ b.trees;
      read = AreRead-append (wanted_streams u.wanted.now) xs ys a.trees b.trees a.read (
          subst (λ (w : Wanted). AreRead (wanted_streams w) ys b.trees) wanted b.read);
      rows = b.rows
          ∙ (λ i. fold with_piece_in (a.rows i) (pieces (a.known i).now (a.texts i) b.trees))
          ∙ sym (fold-append with_piece_in (rows_of u.tallies) (pieces known texts a.trees)
          (pieces known texts b.trees))
          ∙ ap (fold with_piece_in (rows_of u.tallies)) (
          sym (flat_map-append (frame_pieces known texts) a.trees b.trees));
      known = b.known ∙ a.known;
      texts = b.texts ∙ a.texts;
      whole = b.whole ∙ ap (λ (n : ℕ). fold with_length n b.trees) a.whole
          ∙ sym (fold-append with_length u.whole a.trees b.trees);
      count = b.count ∙ ap (λ (n : ℕ). fold with_one n b.trees) a.count
          ∙ sym (fold-append with_one u.frames a.trees b.trees);
      wanted = b.wanted ∙ a.wanted;
    }

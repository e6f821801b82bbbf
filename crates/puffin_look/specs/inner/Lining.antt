-- The lines of a list, one after the other: steps of the proof.
use Rattle.std.specs.Prelude.{◌≡◌, ℕ, Bool, true, false, List, [], ◌∷◌, ◌++◌, map}
use Rattle.std.proofs.Common.{refl, sym, ap, ◌∙◌, append_assoc}
use Rattle.std.proofs.lemmas.List.{map-append}
use Rattle.puffin_look.specs.OpenFrame.{OpenFrame}
use Rattle.puffin_look.specs.Forms.{separator_if, joined, opening, separator}
use Rattle.puffin_look.specs.FrameLines.{frame_row, frame_line, column_names}
use Rattle.puffin_look.specs.declared.frames.FrameList.{FrameList}
use Rattle.puffin_look.specs.declared.lines.Form.{Form}
use Rattle.puffin_look.specs.declared.lines.Lines.{Lines}

-- a line was added
pub record Adds (old new : Lines) (line : List ℕ) : Type 0 where
  pub text : new.text.items ≡ old.text.items ++ (separator_if old.separator.now old.has_any ++ line)
  pub separator : new.separator ≡ old.separator
  pub any : new.has_any ≡ true

-- ---- lines behind others

abbrev pub any_with : Bool → List (List ℕ) → Bool
any_with follows [] = follows
any_with follows (line ∷ lines) = true

any_more : (any : Bool) (xs ys : List (List ℕ)) → any_with any (xs ++ ys) ≡ any_with (any_with any xs) ys
any_more any [] ys = refl
any_more any (x ∷ xs) [] = refl
any_more any (x ∷ xs) (y ∷ ys) = refl

joined_on : (s : List ℕ) (xs ys : List (List ℕ)) → joined s true (xs ++ ys) ≡ joined s true xs ++ joined s true ys
joined_on s [] ys = refl
joined_on s (x ∷ xs) ys =
    ap (λ (t : List ℕ). s ++ (x ++ t)) (joined_on s xs ys)
    ∙ ap (λ (t : List ℕ). s ++ t) (sym (append_assoc x (joined s true xs) (joined s true ys)))
    ∙ sym (append_assoc s (x ++ joined s true xs) (joined s true ys))

pub joined_more : (s : List ℕ) (any : Bool) (xs ys : List (List ℕ)) →
    joined s any (xs ++ ys) ≡ joined s any xs ++ joined s (any_with any xs) ys
joined_more s any [] ys = refl
joined_more s any (x ∷ xs) ys =
    ap (λ (t : List ℕ). separator_if s any ++ (x ++ t)) (joined_on s xs ys)
    ∙ ap (λ (t : List ℕ). separator_if s any ++ t) (sym (append_assoc x (joined s true xs) (joined s true ys)))
    ∙ sym (append_assoc (separator_if s any) (x ++ joined s true xs) (joined s true ys))

-- ---- a list of frames

-- the list of no frames
pub record IsEmptyList (form : Form) (list : FrameList) : Type 0 where
  pub text : list.lines.text.items ≡ opening form column_names
  pub separator : list.lines.separator.now ≡ separator form
  pub none : list.lines.has_any ≡ false
  pub same : list.form ≡ form

abbrev pub lines_of : Form → List OpenFrame → List (List ℕ)
lines_of form frames = map (frame_line form) (map frame_row frames)

-- these frames were added, and this is their text
pub record TakesFrames (old : FrameList) (frames : List OpenFrame) (text : List ℕ)
    (new : FrameList) : Type 0 where
  pub is : text ≡ joined old.lines.separator.now old.lines.has_any (lines_of old.form frames)
  pub separator : new.lines.separator ≡ old.lines.separator
  pub any : new.lines.has_any ≡ any_with old.lines.has_any (lines_of old.form frames)
  pub form : new.form ≡ old.form

pub frames_none : (v : FrameList) → TakesFrames v [] [] v
frames_none v = record { is = refl; separator = refl; any = refl; form = refl }

pub frames_more : (u v w : FrameList) (xs ys : List OpenFrame) (s t : List ℕ) → TakesFrames u xs s v →
    TakesFrames v ys t w → TakesFrames u (xs ++ ys) (s ++ t) w
frames_more u v w xs ys s t a b =
    let all = ap (map (frame_line u.form)) (map-append frame_row xs ys)
    ∙ map-append (frame_line u.form) (map frame_row xs) (map frame_row ys) in
    record {
      is = (λ i. a.is i ++ b.is i)
          ∙ (λ i. joined u.lines.separator.now u.lines.has_any (lines_of u.form xs)
          ++ joined (a.separator i).now (a.any i) (lines_of (a.form i) ys))
          ∙ sym (joined_more u.lines.separator.now u.lines.has_any (lines_of u.form xs) (lines_of u.form ys))
          ∙ ap (joined u.lines.separator.now u.lines.has_any) (sym all);
      separator = b.separator ∙ a.separator;
      any = b.any ∙ (λ i. any_with (a.any i) (lines_of (a.form i) ys))
          ∙ sym (any_more u.lines.has_any (lines_of u.form xs) (lines_of u.form ys))
          ∙ ap (any_with u.lines.has_any) (sym all);
      form = b.form ∙ a.form;
    }

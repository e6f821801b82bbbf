-- A frame of a page, thread after thread.
--
-- `IsMaking` holds between two streams of a frame: all but those that are left were made. `making_at` begins it, `making_more` keeps it,
-- `frame_made` ends it.
use Rattle.std.proofs.Common.{◌≡◌, ℕ, Bool, true, false, List, [], ◌∷◌, ◌++◌, refl, ap, subst, sym, ◌∙◌, append_assoc, append-nil}
use Rattle.std.specs.Prelude.{codes, not, ◌==◌, ◌&&◌, if◌then◌else◌}
use Rattle.std.specs.List.{flat_map, list_all}
use Rattle.std.proofs.lemmas.List.Concat.{flat_map-append}
use Rattle.puffin_data.specs.declared.error.Error.{Error}
use Rattle.puffin_data.specs.Forest.{Forest}
use Rattle.puffin_data.specs.Forest.Spelling.{Spells}
use Rattle.puffin_data.specs.Walk.{IsFault}
use Rattle.puffin_threads.specs.Thread.ThreadKey.{ThreadKey}
use Rattle.puffin_frames.specs.declared.frame_data.meta.FrameMeta.{FrameMeta}
use Rattle.puffin_look.specs.Trees.{Entry, Tree, AreSpelled, AreUnread}
use Rattle.puffin_look.specs.Page.{embedded_byte, embedded, begins_none, key_json, rows_json, thread_json, head_json, frame_json}
use Rattle.puffin_look.specs.inner.Pages.{HasMoreRows}
use Rattle.puffin_look.specs.declared.page_rows.PageRows.{PageRows}
use Rattle.puffin_look.proofs.Pushed.{pushed2, pushed5}
use Rattle.puffin_look.proofs.Traced.{spelled_more}

-- six pieces were appended, one after the other
pub pushed6 : (before first second third fourth fifth after a b c d e f : List ℕ) → first ≡ before ++ a → second ≡ first ++ b
    → third ≡ second ++ c → fourth ≡ third ++ d → fifth ≡ fourth ++ e → after ≡ fifth ++ f
    → after ≡ before ++ (a ++ (b ++ (c ++ (d ++ (e ++ f)))))
pushed6 before first second third fourth fifth after a b c d e f one two three four five six =
    pushed2 before first after a (b ++ (c ++ (d ++ (e ++ f)))) one
    (pushed5 first second third fourth fifth after b c d e f two three four five six)

-- a thread's start and name, its scopes, and the end
pub thread_made : (v named filled new : PageRows) (key : ThreadKey) (f : Forest) → HasMoreRows v named (key_json key)
    → HasMoreRows named filled (rows_json named.begin f)
    → new.text.items ≡ filled.text.items ++ codes "]" → new.begin ≡ filled.begin → HasMoreRows v new (thread_json v.begin (key, f))
thread_made v named filled new key f one two end same =
    let rows : rows_json named.begin f ≡ rows_json v.begin f = λ i. rows_json (one.begin i) f in
    record {
      text = end
          ∙ (λ i. (two.text ∙ (λ j. one.text j ++ rows j)) i ++ codes "]")
          ∙ append_assoc (v.text.items ++ key_json key) (rows_json v.begin f) (codes "]")
          ∙ append_assoc v.text.items (key_json key) (rows_json v.begin f ++ codes "]");
      begin = same ∙ two.begin ∙ one.begin;
    }

module _ (meta : FrameMeta) where
  abbrev pub threads_json : List Tree → List ℕ
  threads_json ts = flat_map (thread_json meta.range_ns.0) ts

  -- of these streams, all but those that are left were made
  pub record IsMaking (now : PageRows) (entries left : List Entry) : Type 0 where
    pub earlier : List Entry
    pub all : entries ≡ earlier ++ left
    pub trees : List Tree
    pub spelled : AreSpelled earlier trees
    pub text : now.text.items ≡ head_json meta ++ threads_json trees
    pub begin : now.begin ≡ meta.range_ns.0

  -- no stream was made yet
  making_begun : (now : PageRows) (entries : List Entry) → now.text.items ≡ head_json meta → now.begin ≡ meta.range_ns.0
      → IsMaking now entries entries
  making_begun now entries text begin = record {
    earlier = [];
    all = refl;
    trees = [];
    spelled = tt;
    text = text ∙ sym (append-nil (head_json meta));
    begin = begin;
  }

  pub making_at : (now : PageRows) (entries left : List Entry) → now.text.items ≡ head_json meta → now.begin ≡ meta.range_ns.0
      → left ≡ entries → IsMaking now entries left
  making_at now entries left text begin same =
      subst (λ (es : List Entry). IsMaking now entries es) (sym same) (making_begun now entries text begin)

  -- the next stream was made
  pub making_more : (now new : PageRows) (entries left rest : List Entry) (e : Entry) (f : Forest) → left ≡ e ∷ rest
      → IsMaking now entries left → Spells e.1.form e.1.bytes f → HasMoreRows now new (thread_json now.begin (e.0, f))
      → IsMaking new entries rest
  making_more now new entries left rest e f next h spells added =
      let t : Tree = (e.0, f) in
      let one = thread_json meta.range_ns.0 in
      record {
        earlier = h.earlier ++ e ∷ [];
        all = h.all ∙ ap (λ (es : List Entry). h.earlier ++ es) next ∙ sym (append_assoc h.earlier (e ∷ []) rest);
        trees = h.trees ++ t ∷ [];
        spelled = spelled_more h.earlier h.trees e t h.spelled ((refl, spells), tt);
        text = added.text ∙ (λ i. h.text i ++ thread_json (h.begin i) t)
            ∙ append_assoc (head_json meta) (threads_json h.trees) (one t)
            ∙ ap (λ (x : List ℕ). head_json meta ++ x) (ap (λ (x : List ℕ). threads_json h.trees ++ x) (sym (append-nil (one t)))
            ∙ sym (flat_map-append one h.trees (t ∷ [])));
        begin = added.begin ∙ h.begin;
      }

  -- the next stream has a fault, which is the first of the frame
  pub making_unread : (now : PageRows) (entries left rest : List Entry) (e : Entry) (fault : Error) → left ≡ e ∷ rest
      → IsMaking now entries left → IsFault e.1.form e.1.bytes fault → AreUnread entries fault
  making_unread now entries left rest e fault next h faulty = record {
    earlier = h.earlier;
    entry = e;
    later = rest;
    all = h.all ∙ ap (λ (es : List Entry). h.earlier ++ es) next;
    trees = h.trees;
    spelled = h.spelled;
    faulty = faulty;
  }

  -- a frame whose streams are all made, and the end
  pub frame_made : (now : PageRows) (held entries left : List Entry) (json : List ℕ) → left ≡ [] → IsMaking now entries left
      → held ≡ entries → json ≡ now.text.items ++ codes "]"
      → (trees : List Tree) × AreSpelled held trees × (json ≡ frame_json (record { meta = meta; trees = trees }))
  frame_made now held entries left json none h same end = (
    h.trees,
    subst (λ (es : List Entry). AreSpelled es h.trees)
        (sym (same ∙ h.all ∙ ap (λ (es : List Entry). h.earlier ++ es) none ∙ append-nil h.earlier)) h.spelled,
    end ∙ ap (λ (x : List ℕ). x ++ codes "]") h.text ∙ append_assoc (head_json meta) (threads_json h.trees) (codes "]"),
  )

-- ---- what stands in an element

-- bytes without a `<`, and others behind them
all_more : (xs ys : List ℕ) → list_all begins_none xs ≡ true → list_all begins_none ys ≡ true → list_all begins_none (xs ++ ys) ≡ true
all_more [] ys h k = k
all_more (x ∷ xs) ys h k =
    both (begins_none x) (list_all begins_none xs) (list_all begins_none (xs ++ ys)) h (λ more. all_more xs ys more k)
  where
    both : (b c d : Bool) → (b && c) ≡ true → (c ≡ true → d ≡ true) → (b && d) ≡ true
    both true c d h next = next h
    both false c d h next = h

-- a byte is escaped if it is a `<` (60)
no_tag_at : (byte : ℕ) (b : Bool) → (byte == 60) ≡ b → list_all begins_none (if b then codes "\\u003c" else byte ∷ []) ≡ true
no_tag_at byte true is = refl
no_tag_at byte false is = ap (λ (b : Bool). not b && true) is

-- embedded bytes have no `<`
pub no_tag : (json : List ℕ) → list_all begins_none (embedded json) ≡ true
no_tag [] = refl
no_tag (byte ∷ json) = all_more (embedded_byte byte) (embedded json) (no_tag_at byte (byte == 60) refl) (no_tag json)

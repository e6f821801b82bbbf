-- Nodes are found by their keys, also after one more text and after one more node. Each proof of that goes by cases: a look-up
-- asks for the new text or key, or for another one, which is found as before.
use Rattle.std.proofs.Common.{◌≡◌, ℕ, zero, suc, ◌+◌, ◌-◌, ◌<◌, ◌≤◌, Bool, true, false, cond, List, [], ◌∷◌, ◌++◌, length, get_or, set, Option, Some, None, refl, sym, ap, subst, ◌∙◌, arith, inl, inr, vec_len}
use Rattle.std.specs.Prelude.{string_bytes, string_cmp}
use Rattle.std.proofs.lemmas.Bool.{cases_lt}
use Rattle.std.proofs.lemmas.List.{length_push, get_or_append_left, get_or_push}
use Rattle.std.specs.declared.cmp.Ordering.TheVariants.{Equal}
use Rattle.std.specs.declared.string.String.{String}
use Rattle.std.specs.declared.alloc.Global.{Global}
use Rattle.std.specs.Ordering.{nat_cmp, ordering_then}
use Rattle.std.specs.Cmp.{IsTotalOrder, then_total, on_total, nat_cmp_total, Equal-is, eq_by_cmp_equiv}
use Rattle.std.specs.Cmp.Lexicographic.{slice_cmp}
use Rattle.std.specs.FinMap.{nat_cmp-IsAntisymmetric, slice_cmp-IsAntisymmetric}
use Rattle.std.specs.Map.{lookup}
use Rattle.std.specs.BTreeMap.{is_at, btree_map_len}
use Rattle.puffin_merge.specs.declared.merge.table.Table.{Table}
use Rattle.puffin_merge.specs.declared.merge.table.Node.{Node}
use Rattle.puffin_merge.specs.declared.merge.table.Key.{Key}
use Rattle.puffin_merge.specs.declared.merge.table.KeyRef.{KeyRef}
use Rattle.puffin_merge.specs.declared.merge.table.NumberedKey.{NumberedKey}
use Rattle.puffin_merge.specs.declared.merge.table.TextNumber.{TextNumber}
use Rattle.puffin_merge.specs.declared.merge.table.NodeNumber.{NodeNumber}
use Rattle.puffin_merge.specs.Merge.Occurrences.{Label}
use Rattle.puffin_merge.specs.inner.Found.{TableParts, key_label, ref_label, numbered_key_cmp, numbered_key_of, text_number_in, node_number_in, number_in, found_in, IsSameKey, HasKey, HasLabel, IsNodeOfKey, HasNoNode, IsNewKey, IsIndexed}
use Rattle.puffin_merge.proofs.Paths.{ties}

abbrev pub parts_of : Table → TableParts
parts_of t = record { nodes = t.nodes; texts = t.texts; numbers = t.numbers }

-- the key, with this number in place of its text
abbrev pub numbered_ref : KeyRef → TextNumber → NumberedKey
numbered_ref asked text = record { parent = asked.parent; id = asked.id; text = text }

-- ---- keys with the number of their text

numbered_key_cmp_total : IsTotalOrder numbered_key_cmp
numbered_key_cmp_total = then_total (on_total (λ (k : NumberedKey). k.parent.number) nat_cmp_total)
    (then_total (on_total (λ (k : NumberedKey). k.id) nat_cmp_total)
    (on_total (λ (k : NumberedKey). k.text.number) nat_cmp_total))

record IsSameNumberedKey (a b : NumberedKey) : Type 0 where
  parent : a.parent.number ≡ b.parent.number
  id : a.id ≡ b.id
  text : a.text.number ≡ b.text.number

at_same : (a b : NumberedKey) → is_at (numbered_key_cmp a) b ≡ true → IsSameNumberedKey a b
at_same a b e =
    let (parents, others) = ties (nat_cmp a.parent.number b.parent.number) (ordering_then (nat_cmp a.id b.id)
    (nat_cmp a.text.number b.text.number)) ((Equal-is (numbered_key_cmp a b)).0 e) in
    let (ids, texts) = ties (nat_cmp a.id b.id) (nat_cmp a.text.number b.text.number) others in
    record {
      parent = nat_cmp-IsAntisymmetric a.parent.number b.parent.number parents;
      id = nat_cmp-IsAntisymmetric a.id b.id ids;
      text = nat_cmp-IsAntisymmetric a.text.number b.text.number texts;
    }

at_itself : (a : NumberedKey) → is_at (numbered_key_cmp a) a ≡ true
at_itself a = (eq_by_cmp_equiv numbered_key_cmp_total).refl a

text_is : (a b : TextNumber) → a.number ≡ b.number → a ≡ b
text_is a b e = λ i. record { number = e i }

-- ---- texts

one_text : (a b : String Global) → is_at (string_cmp a) b ≡ true → string_bytes a ≡ string_bytes b
one_text a b e = slice_cmp-IsAntisymmetric nat_cmp-IsAntisymmetric (string_bytes a) (string_bytes b)
    ((Equal-is (string_cmp a b)).0 e)

-- a look-up by the bytes of a text
abbrev pub number_by : TableParts → List ℕ → Option TextNumber
number_by t bytes = lookup (is_at (λ (k : String Global). slice_cmp nat_cmp bytes (string_bytes k))) t.texts.entries

-- ---- keys with their text

-- `IsSameKey` is symmetric
pub turned_keys : (a b : Key) → IsSameKey a b → IsSameKey b a
turned_keys a b x = record { parent = sym x.parent; label = sym x.label }

-- some element of a list that has one
pub some_of : {A : Type 0} (xs : List A) (k : ℕ) → k < length xs → A
some_of [] k h = absurd (omega arith)
some_of (x ∷ xs) k h = x

-- ---- a look-up

some_is : (x y : NodeNumber) → ◌≡◌ {A = Option NodeNumber} (Some x) (Some y) → x ≡ y
some_is x y e = cc

none_some : {A : Type 0} (x : A) → ◌≡◌ {A = Option A} None (Some x) → ⊥
none_some x e = cc

some_text : (x y : TextNumber) → ◌≡◌ {A = Option TextNumber} (Some x) (Some y) → x ≡ y
some_text x y e = cc

-- no node has a text that isn't there, by the text's bytes
pub no_text : (t : TableParts) (parent : ℕ) (label : Label) → IsIndexed t → number_by t label.text ≡ None → (k : ℕ)
    → k < vec_len t.nodes → HasLabel t.nodes.items k parent label → ⊥
no_text t parent label f none k lt has =
    let size : vec_len t.nodes ≡ length t.nodes.items = t.nodes.ok.0 in
    let d = some_of t.nodes.items k (omega arith) in
    let q = (get_or t.nodes.items k d).key in
    let same : text_number_in t q.text ≡ None = ap (λ (l : Label). number_by t l.text) (has d).label ∙ none in
    none_some _ (sym (ap (number_in t q) same) ∙ f.all_found k d lt)

-- no node has a key that isn't found by its text's number
pub no_numbered : (t : TableParts) (asked : KeyRef) (text : TextNumber) → IsIndexed t
    → number_by t asked.text.now ≡ Some text → node_number_in t (numbered_ref asked text) ≡ None
    → HasNoNode t.nodes asked
no_numbered t asked text f some none k lt has =
    let size : vec_len t.nodes ≡ length t.nodes.items = t.nodes.ok.0 in
    let d = some_of t.nodes.items k (omega arith) in
    let q = (get_or t.nodes.items k d).key in
    let under = has d in
    let same : text_number_in t q.text ≡ Some text = ap (λ (l : Label). number_by t l.text) under.label ∙ some in
    let spot : numbered_key_of q text ≡ numbered_ref asked text =
    λ i. record { parent = record { number = under.parent i }; id = (under.label i).id; text = text } in
    none_some _ (sym none ∙ ap (λ (s : NumberedKey). node_number_in t s) (sym spot) ∙ ap (number_in t q) (sym same)
    ∙ f.all_found k d lt)

-- what is found by the text's number is a node with the key; `own` is the table's copy of the text
pub some_numbered : (t : TableParts) (asked : KeyRef) (own : String Global) (text : TextNumber) (x : NodeNumber)
    → IsIndexed t → number_by t asked.text.now ≡ Some text
    → slice_cmp nat_cmp asked.text.now (string_bytes own) ≡ Equal
    → node_number_in t (numbered_ref asked text) ≡ Some x → IsNodeOfKey t.nodes asked x
some_numbered t asked own text x f has_number same e =
    let bytes : asked.text.now ≡ string_bytes own =
    slice_cmp-IsAntisymmetric nat_cmp-IsAntisymmetric asked.text.now (string_bytes own) same in
    let q : Key = record { parent = asked.parent; id = asked.id; text = own } in
    let at : text_number_in t q.text ≡ Some text = ap (number_by t) (sym bytes) ∙ has_number in
    let label : key_label q ≡ ref_label asked = λ i. record { id = asked.id; text = sym bytes i } in
    let (some, within, is_key) = f.found q x (ap (number_in t q) at ∙ e) in
    (some, within, λ d. record { parent = (is_key d).parent; label = (is_key d).label ∙ label })

-- ---- one text more

-- the maps after a text was added, under the next number
pub text_more : (t u : TableParts) (own : String Global) (x : TextNumber) → IsIndexed t → u.nodes ≡ t.nodes
    → u.numbers ≡ t.numbers → x.number ≡ btree_map_len t.texts → btree_map_len u.texts ≡ btree_map_len t.texts + 1
    → text_number_in t own ≡ None
    → ((q : String Global) → text_number_in u q ≡ cond (is_at (string_cmp own) q) (Some x) (text_number_in t q))
    → IsIndexed u
text_more t u own x f nodes numbers is wide absent updates = record {
  found = λ q y e. found_by q y (is_at (string_cmp own) q.text) refl (text_number_in t q.text) refl e;
  all_found = λ k d lt. all_by k d (subst (λ v. k < vec_len v) nodes lt);
  counted = λ a y e. counted_by a y (is_at (string_cmp own) a) refl (sym (updates a) ∙ e);
  own = λ a b y ea eb. own_by a b y (is_at (string_cmp own) a) refl (is_at (string_cmp own) b) refl
      (sym (updates a) ∙ ea) (sym (updates b) ∙ eb);
  used = λ q y e. let low = f.used q y
      (subst (λ m. lookup (is_at (numbered_key_cmp q)) m.entries ≡ Some y) numbers e) in omega (arith, low, wide);
}
  where
    new_at : (q : String Global) → is_at (string_cmp own) q ≡ true → text_number_in u q ≡ Some x
    new_at q at = updates q ∙ ap (λ (b : Bool). cond b (Some x) (text_number_in t q)) at

    old_at : (q : String Global) → is_at (string_cmp own) q ≡ false → text_number_in u q ≡ text_number_in t q
    old_at q at = updates q ∙ ap (λ (b : Bool). cond b (Some x) (text_number_in t q)) at

    same_number : (q : Key) (r : Option TextNumber) → number_in u q r ≡ number_in t q r
    same_number q None = refl
    same_number q (Some n) = ap (λ m. lookup (is_at (numbered_key_cmp (numbered_key_of q n))) m.entries) numbers

    found_by : (q : Key) (y : NodeNumber) (b : Bool) → is_at (string_cmp own) q.text ≡ b → (r : Option TextNumber)
        → text_number_in t q.text ≡ r → found_in u q ≡ Some y
        → (0 < y.number) × (y.number ≤ vec_len u.nodes) × HasKey u.nodes.items (y.number - 1) q
    found_by q y true at r er e =
        let there : number_in t q (Some x) ≡ Some y =
        sym (same_number q (Some x)) ∙ ap (number_in u q) (sym (new_at q.text at)) ∙ e in
        let low = f.used (numbered_key_of q x) y there in
        absurd (omega (arith, low, is))
    found_by q y false at r er e =
        let there : found_in t q ≡ Some y =
        sym (same_number q (text_number_in t q.text)) ∙ ap (number_in u q) (sym (old_at q.text at)) ∙ e in
        subst (λ v. (0 < y.number) × (y.number ≤ vec_len v) × HasKey v.items (y.number - 1) q) (sym nodes)
        (f.found q y there)

    all_at : (k : ℕ) (d : Node) → k < vec_len t.nodes → (q : Key) → q ≡ (get_or t.nodes.items k d).key → (b : Bool)
        → is_at (string_cmp own) q.text ≡ b → found_in u q ≡ Some (record { number = k + 1 })
    all_at k d lt q is-q true at =
        let old : found_in t q ≡ Some (record { number = k + 1 }) = ap (found_in t) is-q ∙ f.all_found k d lt in
        let none : text_number_in t q.text ≡ None = ap (number_by t) (sym (one_text own q.text at)) ∙ absent in
        absurd (none_some _ (sym (ap (number_in t q) none) ∙ old))
    all_at k d lt q is-q false at = ap (number_in u q) (old_at q.text at) ∙ same_number q (text_number_in t q.text)
        ∙ ap (found_in t) is-q ∙ f.all_found k d lt

    all_by : (k : ℕ) (d : Node) → k < vec_len t.nodes
        → found_in u (get_or u.nodes.items k d).key ≡ Some (record { number = k + 1 })
    all_by k d lt = let q = (get_or u.nodes.items k d).key in
        all_at k d lt q (ap (λ v. (get_or v.items k d).key) nodes) (is_at (string_cmp own) q.text) refl

    counted_by : (a : String Global) (y : TextNumber) (b : Bool) → is_at (string_cmp own) a ≡ b
        → cond (is_at (string_cmp own) a) (Some x) (text_number_in t a) ≡ Some y → y.number < btree_map_len u.texts
    counted_by a y true at e =
        let same : x ≡ y = some_text x y (ap (λ (b : Bool). cond b (Some x) (text_number_in t a)) (sym at) ∙ e) in
        let number = ap (λ (z : TextNumber). z.number) same in
        omega (arith, number, is, wide)
    counted_by a y false at e =
        let low = f.counted a y (ap (λ (b : Bool). cond b (Some x) (text_number_in t a)) (sym at) ∙ e) in
        omega (arith, low, wide)

    apart : (a b : String Global) (y : TextNumber) → is_at (string_cmp own) a ≡ true
        → is_at (string_cmp own) b ≡ false → cond (is_at (string_cmp own) a) (Some x) (text_number_in t a) ≡ Some y
        → cond (is_at (string_cmp own) b) (Some x) (text_number_in t b) ≡ Some y → ⊥
    apart a b y ta tb ea eb =
        let same : x ≡ y = some_text x y (ap (λ (c : Bool). cond c (Some x) (text_number_in t a)) (sym ta) ∙ ea) in
        let number = ap (λ (z : TextNumber). z.number) same in
        let low = f.counted b y (ap (λ (c : Bool). cond c (Some x) (text_number_in t b)) (sym tb) ∙ eb) in
        omega (arith, number, low, is)

    own_by : (a b : String Global) (y : TextNumber) (ba : Bool) → is_at (string_cmp own) a ≡ ba → (bb : Bool)
        → is_at (string_cmp own) b ≡ bb → cond (is_at (string_cmp own) a) (Some x) (text_number_in t a) ≡ Some y
        → cond (is_at (string_cmp own) b) (Some x) (text_number_in t b) ≡ Some y → string_bytes a ≡ string_bytes b
    own_by a b y true ta true tb ea eb = sym (one_text own a ta) ∙ one_text own b tb
    own_by a b y true ta false tb ea eb = absurd (apart a b y ta tb ea eb)
    own_by a b y false ta true tb ea eb = absurd (apart b a y tb ta eb ea)
    own_by a b y false ta false tb ea eb =
        f.own a b y (ap (λ (c : Bool). cond c (Some x) (text_number_in t a)) (sym ta) ∙ ea)
        (ap (λ (c : Bool). cond c (Some x) (text_number_in t b)) (sym tb) ∙ eb)

-- ---- one node more

-- within a list it makes no difference what would stand for an element beyond it
pub same_at : (nodes : List Node) (i : ℕ) (d e : Node) → i < length nodes → get_or nodes i d ≡ get_or nodes i e
same_at [] i d e h = absurd (omega arith)
same_at (n ∷ nodes) zero d e h = refl
same_at (n ∷ nodes) (suc i) d e h = same_at nodes i d e (omega arith)

-- the maps and nodes after a node was added, under the next number; its text has a number already
pub found_more : (t u : TableParts) (key : Key) (text : TextNumber) (n : Node) (x : NodeNumber) → IsIndexed t
    → text_number_in t key.text ≡ Some text → u.texts ≡ t.texts → u.nodes.items ≡ t.nodes.items ++ (n ∷ [])
    → n.key ≡ key → x.number ≡ vec_len t.nodes + 1
    → ((q : NumberedKey) → node_number_in u q
    ≡ cond (is_at (numbered_key_cmp (numbered_key_of key text)) q) (Some x) (node_number_in t q))
    → IsNewKey t.nodes key → IsIndexed u
found_more t u key text n x f has_text texts items is number updates fresh = record {
  found = λ q y e. found_by q y (text_number_in t q.text) refl (sym (in_u q) ∙ e);
  all_found = λ k d lt. all_by k d lt;
  counted = λ a y e. subst (λ m. y.number < btree_map_len m) (sym texts)
      (f.counted a y (subst (λ m. lookup (is_at (string_cmp a)) m.entries ≡ Some y) texts e));
  own = λ a b y ea eb. f.own a b y (subst (λ m. lookup (is_at (string_cmp a)) m.entries ≡ Some y) texts ea)
      (subst (λ m. lookup (is_at (string_cmp b)) m.entries ≡ Some y) texts eb);
  used = λ q y e. subst (λ m. q.text.number < btree_map_len m) (sym texts)
      (used_by q y (is_at (numbered_key_cmp (numbered_key_of key text)) q) refl (sym (updates q) ∙ e));
}
  where
    size : vec_len t.nodes ≡ length t.nodes.items
    size = t.nodes.ok.0

    wide : vec_len u.nodes ≡ vec_len t.nodes + 1
    wide = u.nodes.ok.0 ∙ ap length items ∙ length_push t.nodes.items n ∙ ap (λ (m : ℕ). m + 1) (sym size)

    before : (k : ℕ) (d : Node) → k < vec_len t.nodes → get_or u.nodes.items k d ≡ get_or t.nodes.items k d
    before k d lt = ap (λ (xs : List Node). get_or xs k d) items
        ∙ get_or_append_left t.nodes.items (n ∷ []) d k (omega (arith, lt, size))

    last : (k : ℕ) (d : Node) → k ≡ vec_len t.nodes → get_or u.nodes.items k d ≡ n
    last k d e = ap (λ (xs : List Node). get_or xs k d) items ∙ get_or_push t.nodes.items n d k (omega (arith, e, size))

    in_u : (q : Key) → found_in u q ≡ number_in u q (text_number_in t q.text)
    in_u q = ap (λ m. number_in u q (lookup (is_at (string_cmp q.text)) m.entries)) texts

    -- two keys whose texts have one number
    one_key : (q : Key) (m : TextNumber) → text_number_in t q.text ≡ Some m
        → is_at (numbered_key_cmp (numbered_key_of key text)) (numbered_key_of q m) ≡ true → IsSameKey key q
    one_key q m em at =
        let spots = at_same (numbered_key_of key text) (numbered_key_of q m) at in
        let bytes = f.own key.text q.text text has_text (em ∙ ap Some (sym (text_is text m spots.text))) in
        record { parent = spots.parent; label = λ i. record { id = spots.id i; text = bytes i } }

    found_at : (q : Key) (y : NodeNumber) (m : TextNumber) → text_number_in t q.text ≡ Some m
        → (b : Bool) → is_at (numbered_key_cmp (numbered_key_of key text)) (numbered_key_of q m) ≡ b
        → node_number_in u (numbered_key_of q m) ≡ Some y
        → (0 < y.number) × (y.number ≤ vec_len u.nodes) × HasKey u.nodes.items (y.number - 1) q
    found_at q y m em true at e =
        let same : x ≡ y = some_is x y (ap (λ (b : Bool). cond b (Some x) (node_number_in t (numbered_key_of q m)))
        (sym at) ∙ sym (updates (numbered_key_of q m)) ∙ e) in
        let y-is : y.number ≡ vec_len t.nodes + 1 = ap (λ (z : NodeNumber). z.number) (sym same) ∙ number in (
          omega (arith, y-is),
          omega (arith, y-is, wide),
          λ d. subst (λ (w : Node). IsSameKey w.key q) (sym (last (y.number - 1) d (omega (arith, y-is))))
              (subst (λ (k : Key). IsSameKey k q) (sym is) (one_key q m em at)),
        )
    found_at q y m em false at e =
        let (low, high, is_key) = f.found q y (ap (number_in t q) em ∙ ap (λ (b : Bool). cond b (Some x)
        (node_number_in t (numbered_key_of q m))) (sym at) ∙ sym (updates (numbered_key_of q m)) ∙ e) in (
          low,
          omega (arith, high, wide),
          λ d. subst (λ (w : Node). IsSameKey w.key q)
              (sym (before (y.number - 1) d (omega (arith, low, high)))) (is_key d),
        )

    found_by : (q : Key) (y : NodeNumber) (r : Option TextNumber) → text_number_in t q.text ≡ r
        → number_in u q (text_number_in t q.text) ≡ Some y
        → (0 < y.number) × (y.number ≤ vec_len u.nodes) × HasKey u.nodes.items (y.number - 1) q
    found_by q y None er e = absurd (none_some y (sym (ap (number_in u q) er) ∙ e))
    found_by q y (Some m) er e =
        found_at q y m er (is_at (numbered_key_cmp (numbered_key_of key text)) (numbered_key_of q m)) refl
        (sym (ap (number_in u q) er) ∙ e)

    all_at : (k : ℕ) (d : Node) → k < vec_len t.nodes → (q : Key) → q ≡ (get_or t.nodes.items k d).key
        → (m : TextNumber) → text_number_in t q.text ≡ Some m → (b : Bool)
        → is_at (numbered_key_cmp (numbered_key_of key text)) (numbered_key_of q m) ≡ b
        → number_in u q (Some m) ≡ Some (record { number = k + 1 })
    all_at k d lt q is-q m em true at =
        let same = one_key q m em at in
        absurd (fresh k lt (λ e. subst (λ (w : Node). IsSameKey w.key key) (same_at t.nodes.items k d e
        (omega (arith, lt, size))) (subst (λ (w : Key). IsSameKey w key) is-q (turned_keys key q same))))
    all_at k d lt q is-q m em false at =
        updates (numbered_key_of q m) ∙ ap (λ (b : Bool). cond b (Some x) (node_number_in t (numbered_key_of q m))) at
        ∙ sym (ap (number_in t q) em) ∙ ap (found_in t) is-q ∙ f.all_found k d lt

    all_some : (k : ℕ) (d : Node) → k < vec_len t.nodes
        → (q : Key) → q ≡ (get_or t.nodes.items k d).key → (r : Option TextNumber) → text_number_in t q.text ≡ r
        → number_in u q (text_number_in t q.text) ≡ Some (record { number = k + 1 })
    all_some k d lt q is-q None er =
        absurd (none_some _ (sym (ap (number_in t q) er) ∙ ap (found_in t) is-q ∙ f.all_found k d lt))
    all_some k d lt q is-q (Some m) er = ap (number_in u q) er
        ∙ all_at k d lt q is-q m er (is_at (numbered_key_cmp (numbered_key_of key text)) (numbered_key_of q m)) refl

    number_is : (k : ℕ) → k ≡ vec_len t.nodes → x ≡ record { number = k + 1 }
    number_is k e = let at : x.number ≡ k + 1 = omega (arith, number, e) in λ i. record { number = at i }

    of_last : (k : ℕ) (q : Key) → q ≡ key → k ≡ vec_len t.nodes
        → number_in u q (text_number_in t q.text) ≡ Some (record { number = k + 1 })
    of_last k q is-q e =
        subst (λ (w : Key). number_in u w (text_number_in t w.text) ≡ Some (record { number = k + 1 })) (sym is-q)
        (ap (number_in u key) has_text ∙ updates (numbered_key_of key text)
        ∙ ap (λ (b : Bool). cond b (Some x) (node_number_in t (numbered_key_of key text)))
        (at_itself (numbered_key_of key text)) ∙ ap Some (number_is k e))

    all_by : (k : ℕ) (d : Node) → k < vec_len u.nodes
        → found_in u (get_or u.nodes.items k d).key ≡ Some (record { number = k + 1 })
    all_by k d lt = elim (cases_lt k (vec_len t.nodes)) [
      | inl inside ↦ let q = (get_or u.nodes.items k d).key in
          in_u q ∙ all_some k d inside q (ap (λ (w : Node). w.key) (before k d inside)) (text_number_in t q.text) refl
      | inr le ↦
          let at : k ≡ vec_len t.nodes = omega (arith, lt, wide, le) in
          let q = (get_or u.nodes.items k d).key in
          in_u q ∙ of_last k q (ap (λ (m : Node). m.key) (last k d at) ∙ is) at
    ]

    used_by : (q : NumberedKey) (y : NodeNumber) (b : Bool)
        → is_at (numbered_key_cmp (numbered_key_of key text)) q ≡ b
        → cond (is_at (numbered_key_cmp (numbered_key_of key text)) q) (Some x) (node_number_in t q) ≡ Some y
        → q.text.number < btree_map_len t.texts
    used_by q y true at e =
        let spots = at_same (numbered_key_of key text) q at in
        let same = spots.text in
        let low = f.counted key.text text has_text in
        omega (arith, same, low)
    used_by q y false at e = f.used q y (ap (λ (b : Bool). cond b (Some x) (node_number_in t q)) (sym at) ∙ e)

-- ---- a node with other sums

-- the keys of all nodes stay if a node with the same key is put in its place
pub key_at-set : (nodes : List Node) (i : ℕ) (n d : Node) (k : ℕ) → n.key ≡ (get_or nodes i d).key → i < length nodes
    → (get_or (set nodes i n) k d).key ≡ (get_or nodes k d).key
key_at-set [] i n d k e h = absurd (omega arith)
key_at-set (m ∷ nodes) zero n d zero e h = e
key_at-set (m ∷ nodes) zero n d (suc k) e h = refl
key_at-set (m ∷ nodes) (suc i) n d zero e h = refl
key_at-set (m ∷ nodes) (suc i) n d (suc k) e h = key_at-set nodes i n d k e (omega arith)

-- the same keys and the same maps
pub found_kept : (t u : TableParts) → IsIndexed t
    → u.texts.entries ≡ t.texts.entries → u.numbers.entries ≡ t.numbers.entries → vec_len u.nodes ≡ vec_len t.nodes
    → ((k : ℕ) (d : Node) → (get_or u.nodes.items k d).key ≡ (get_or t.nodes.items k d).key) → IsIndexed u
found_kept t u f texts numbers size keys = record {
  found = λ q y e.
      let (some, high, is_key) = f.found q y (sym (same q) ∙ e) in
      (some, omega arith, λ d. subst (λ (k : Key). IsSameKey k q) (sym (keys (y.number - 1) d)) (is_key d));
  all_found = λ k d lt. same (get_or u.nodes.items k d).key ∙ ap (found_in t) (keys k d)
      ∙ f.all_found k d (omega (arith, lt, size));
  counted = λ a y e. subst (λ es. y.number < length es) (sym texts)
      (f.counted a y (subst (λ es. lookup (is_at (string_cmp a)) es ≡ Some y) texts e));
  own = λ a b y ea eb. f.own a b y (subst (λ es. lookup (is_at (string_cmp a)) es ≡ Some y) texts ea)
      (subst (λ es. lookup (is_at (string_cmp b)) es ≡ Some y) texts eb);
  used = λ q y e. subst (λ es. q.text.number < length es) (sym texts)
      (f.used q y (subst (λ es. lookup (is_at (numbered_key_cmp q)) es ≡ Some y) numbers e));
}
  where
    same_number : (q : Key) (r : Option TextNumber) → number_in u q r ≡ number_in t q r
    same_number q None = refl
    same_number q (Some n) = ap (λ es. lookup (is_at (numbered_key_cmp (numbered_key_of q n))) es) numbers

    same : (q : Key) → found_in u q ≡ found_in t q
    same q = same_number q (text_number_in u q.text)
        ∙ ap (λ es. number_in t q (lookup (is_at (string_cmp q.text)) es)) texts

-- The text is there, or gets the next number.
use Rattle.std.proofs.Common.{◌≡◌, ℕ, ◌+◌, Option, None, Some, Result, Ok, Err, refl, sym, ap, ◌∙◌, cond, get_or, vec_len}
use Rattle.std.specs.Prelude.{string_bytes, string_cmp, is_some, IfOk, OnOk, OnErr}
use Rattle.std.specs.declared.string.String.{String}
use Rattle.std.specs.declared.alloc.Global.{Global}
use Rattle.std.specs.BTreeMap.{btree_map_len, Updates}
use Rattle.puffin_merge.specs.declared.merge.table.TextNumber.{TextNumber}
use Rattle.puffin_merge.specs.inner.Found.{TableParts, text_number_in, IsIndexed}
use Rattle.puffin_merge.proofs.Finding.{parts_of, number_by, text_more, found_kept}
use Rattle.puffin_merge.proofs.merge.table.Table.intern_text.Goals as goal

absent_own : (t : TableParts) (own text : String Global) → string_bytes own ≡ string_bytes text
    → ◌≡◌ {A = Option TextNumber} None (number_by t (string_bytes text)) → number_by t (string_bytes own) ≡ None
absent_own t own text e none = ap (number_by t) e ∙ sym none

one_longer : (n m : ℕ) (old : Option TextNumber) → old ≡ None → m ≡ n + (cond (is_some old) 0 1) → m ≡ n + 1
one_longer n m old e h = h ∙ ap (λ (o : Option TextNumber). n + (cond (is_some o) 0 1)) e

-- whether or not there is memory for the text
more_or_kept : {E : Type 0} (t u : TableParts) (own : String Global) (x : TextNumber)
    (r : Result (Option TextNumber) E) → IsIndexed t → u.nodes ≡ t.nodes → u.numbers ≡ t.numbers
    → x.number ≡ btree_map_len t.texts → text_number_in t own ≡ None
    → IfOk r (λ old. old ≡ text_number_in t own)
    → IfOk r (λ old. btree_map_len u.texts ≡ btree_map_len t.texts + cond (is_some old) 0 1)
    → OnOk r (Updates string_cmp t.texts u.texts own (Some x)) → OnErr r (u.texts.entries ≡ t.texts.entries)
    → IsIndexed u
more_or_kept t u own x (Ok before) f nodes numbers is none was wide updates kept =
    text_more t u own x f nodes numbers is (one_longer _ _ before (was ∙ none) wide) none updates.0
more_or_kept t u own x (Err e) f nodes numbers is none was wide updates kept = found_kept t u f kept
    (ap (λ m. m.entries) numbers) (ap (λ v. vec_len v) nodes) (λ k d. ap (λ v. (get_or v.items k d).key) nodes)

pub invariant_of-self : goal.invariant_of-self
invariant_of-self c =
    let s = c.args.self.now in
    let none = absent_own (parts_of s) c.in_ok-own.own c.args.text.now c.in_ok-own.ensures.cases
    c.in_default.ensures.value in
    record {
      found = more_or_kept (parts_of s) (record { nodes = s.nodes; texts = c.insert.new.self; numbers = s.numbers })
          c.in_ok-own.own (record { number = c.len.result }) c.insert.result s.found refl refl c.len.ensures.len none
          c.insert.ensures.old c.insert.ensures.len c.insert.ensures.updates c.insert.ensures.err;
    }

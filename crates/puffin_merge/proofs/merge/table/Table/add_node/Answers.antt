-- The maps find exactly the nodes: before the node is added as before, and then with the new node under its key.
use Rattle.std.proofs.Common.{refl, [], ◌∷◌, ◌++◌, ◌+◌, ◌∙◌, arith, subst, sym, ap, get_or, vec_len}
use Rattle.puffin_merge.specs.inner.Found.{IsNewKey}
use Rattle.puffin_merge.proofs.Finding.{parts_of, found_more, found_kept}
use Rattle.puffin_merge.proofs.merge.table.Table.add_node.Goals as goal

-- no memory for the node, or for its number
pub invariant_of-self-in-Break-branch-3 : goal.invariant_of-self-in-Break-branch-3
invariant_of-self-in-Break-branch-3 c =
    let t = c.intern_text.new.self in
    record {
      found =
          found_kept (parts_of t) (record { nodes = c.reserve.new.self; texts = t.texts; numbers = t.numbers }) t.found
          refl refl c.reserve.ensures.len (λ k d. ap (λ xs. (get_or xs k d).key) c.reserve.ensures.items);
    }

pub invariant_of-self-in-Break-branch-4 : goal.invariant_of-self-in-Break-branch-4
invariant_of-self-in-Break-branch-4 c =
    let t = c.intern_text.new.self in
    record {
      found = found_kept (parts_of t) (record {
        nodes = c.reserve.new.self;
        texts = t.texts;
        numbers = c.insert.new.self;
      }) t.found refl c.in_err-_none.ensures.err c.reserve.ensures.len
          (λ k d. ap (λ xs. (get_or xs k d).key) c.reserve.ensures.items);
    }

pub invariant_of-self-2 : goal.invariant_of-self-2
invariant_of-self-2 c =
    let t = c.intern_text.new.self in
    let nodes = c.in_ok-text.ensures.nodes ∙ c.record_lookup.ensures.nodes in
    record {
      found = found_more
          (parts_of t) (record { nodes = c.push_reserved.new.self; texts = t.texts; numbers = c.insert.new.self })
          c.args.key c.in_ok-text.text (record { key = c.args.key; sums = c.one.result })
          (record { number = c.len-place.result + 1 })
          t.found c.in_ok-text.ensures.ok refl (c.push_reserved.ensures.items
          ∙ ap (λ xs. xs ++ (record { key = c.args.key; sums = c.one.result } ∷ [])) c.reserve.ensures.items) refl
          (omega (arith, c.len-place.ensures, ap (λ v. vec_len v) nodes)) c.in_ok-_none.ensures.updates.0
          (subst (λ v. IsNewKey v c.args.key) (sym nodes) c.requires);
    }

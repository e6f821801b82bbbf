-- Only a node's sums change, so the maps still find the nodes by their keys.
use Rattle.std.proofs.Common.{◌≡◌, ◌-◌, ◌<◌, ◌∙◌, arith, refl, ap, length, vec_len}
use Rattle.puffin_merge.proofs.Finding.{parts_of, found_kept, same_at, key_at-set}
use Rattle.puffin_merge.proofs.merge.table.Table.add_piece.Goals as goal

pub invariant_of-self : goal.invariant_of-self
invariant_of-self c =
    let t = c.record_lookup.new.self in
    let i = c.args.number.number - 1 in
    let low = c.requires.0 in
    let high = c.requires.1 in
    let size : vec_len t.nodes ≡ length t.nodes.items = t.nodes.ok.0 in
    let as_many : vec_len t.nodes ≡ vec_len c.args.self.now.nodes = ap (λ v. vec_len v) c.record_lookup.ensures.nodes in
    let within : i < length t.nodes.items = omega (arith, low, high, size, as_many) in
    let n = c.index_mut-node.result.now in
    record {
      found = found_kept (parts_of t) _ t.found refl refl refl (λ k d. key_at-set t.nodes.items i n d k
          (ap (λ m. m.key) (c.index_mut-node.ensures.value ∙ same_at t.nodes.items i n d within)) within);
    }

pub invariant_of-self-in-Some : goal.invariant_of-self-in-Some
invariant_of-self-in-Some c =
    let t = c.record_lookup.new.self in
    let i = c.args.number.number - 1 in
    let low = c.requires.0 in
    let high = c.requires.1 in
    let size : vec_len t.nodes ≡ length t.nodes.items = t.nodes.ok.0 in
    let as_many : vec_len t.nodes ≡ vec_len c.args.self.now.nodes = ap (λ v. vec_len v) c.record_lookup.ensures.nodes in
    let within : i < length t.nodes.items = omega (arith, low, high, size, as_many) in
    let n = c.index_mut-node.result.now in
    record {
      found = found_kept (parts_of t) _ t.found refl refl refl
          (λ k d. key_at-set t.nodes.items i (record { key = n.key; sums = c.in-Some.sums }) d k
          (ap (λ m. m.key) (c.index_mut-node.ensures.value ∙ same_at t.nodes.items i n d within)) within);
    }

-- The size written over the unfinished one, and the end put behind all bytes.
use Rattle.std.proofs.Common.{rules, ◌∙◌, ap, sym, ℕ, ℤ, List, ◌∷◌, length, drop, w64}
use Rattle.std.proofs.lemmas.Int.{to_z-of_z}
use Rattle.byteorder.specs.Endian.{little_number}
use Rattle.puffin_data.specs.Stream.{StreamState}
use Rattle.puffin_data.specs.Forest.Spelling.{end_bytes, time_bytes}
use Rattle.puffin_data.proofs.Blocks.{ended, number_before}
use Rattle.puffin_data.proofs.data.stream.Stream.end_within.Goals as goal

pub returns-clause-size : goal.returns-clause-size
returns-clause-size c =
    let stream = c.self.inside in
    c.size_at-size.ensures ∙ ap (λ (any : List ℕ). little_number 8 (drop c.args.offset any)) c.deref_mut.ensures.value
    ∙ sym (number_before stream.block.items c.args.offset stream.len (search rules) (search rules))
    ∙ ap (λ (state : StreamState). little_number 8 (drop c.args.offset state.bytes)) c.self.view_is

pub returns-clause-ended : goal.returns-clause-ended
unfolding end_bytes
returns-clause-ended c =
    let stream = c.self.inside in
    let word = c.copy_from_slice.ensures.after ∙ c.size_word.ensures in
    let back = c.copy_from_slice-2.ensures.after ∙ c.back.ensures in
    let stop = ap (λ (any : ℤ). 41 ∷ time_bytes any) (to_z-of_z w64 c.args.stop_ns c.ranges.stop_ns) in
    ended stream.block.items c.deref_mut.result.now c.copy_from_slice.new.self c.copy_from_slice-2.new.self _ c.args.self.now.bytes
    c.args.offset stream.len stream.block.len c.args.stop_ns
    c.deref_mut.ensures.value word (back ∙ stop) (ap length back) (search rules) (search rules) (search rules)
    (sym (ap (λ (state : StreamState). state.bytes) c.self.view_is))

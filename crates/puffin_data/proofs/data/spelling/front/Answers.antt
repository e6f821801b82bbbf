-- The two words that are written are the front.
use Rattle.std.proofs.Common.{rules, ◌≡◌, ℕ, ◌+◌, ◌*◌, ◌/◌, ◌%◌, List, [], ◌++◌, take, ap, refl, ◌∙◌, of_z, w64}
use Rattle.std.proofs.lemmas.Int.{to_z-of_z}
use Rattle.byteorder.specs.Endian.{little_bytes}
use Rattle.puffin_data.proofs.Fronts.{front_words}
use Rattle.puffin_data.proofs.data.spelling.front.Goals as goal

-- written into an array of zeros, one behind the other
pub returns : goal.returns
returns c =
    let id : ℕ = c.args.id in
    let size : ℕ = c.args.group in
    let time : ℕ = c.cast_unsigned-time.result in
    let bits = of_z w64 c.args.start in
    let same : time ≡ bits = c.cast_unsigned-time.ensures ∙ ap (of_z w64) (to_z-of_z w64 c.args.start c.ranges.start) in
    let low = little_bytes 8 (40 + id * 256 + bits % 16777216 * 1099511627776) in
    let high = little_bytes 8 (bits / 16777216 + size * 1099511627776) in
    let low_is : c.write_u64-2.new.buf ≡ low = c.write_u64-2.ensures
    ∙ ap (λ (any : ℕ). little_bytes 8 (40 + any * 256 + time % 16777216 * 1099511627776)) c.from.ensures
    ∙ ap (λ (any : ℕ). little_bytes 8 (40 + id * 256 + any % 16777216 * 1099511627776)) same in
    let high_is : c.write_u64.new.buf ≡ high = c.write_u64.ensures
    ∙ ap (λ (any : ℕ). little_bytes 8 (time / 16777216 + any * 1099511627776)) c.from-2.ensures
    ∙ ap (λ (any : ℕ). little_bytes 8 (any / 16777216 + size * 1099511627776)) same in
    ap (λ (any : List ℕ). take 14 (any ++ (c.write_u64.new.buf ++ []))) low_is
    ∙ ap (λ (any : List ℕ). take 14 (low ++ (any ++ []))) high_is
    ∙ front_words low high id bits size c.ranges.id.fits (search rules) c.ranges.group.fits refl refl

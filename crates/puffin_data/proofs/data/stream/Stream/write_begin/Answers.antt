-- The pieces of a scope's beginning are written one behind the other: the front, the second byte of the length if there is one, the
-- text and the size. So the front of the block is first each piece behind those before it, and in the end the whole beginning.
use Rattle.std.proofs.Common.{rules, ◌≡◌, ◌∙◌, ap, sym, List, ℕ, ℤ, ◌+◌, ◌-◌, ◌≤◌, ◌++◌, ◌∷◌, [], length, take, append-nil, Option, to_z, of_z, w64}
use borrow.Rule.Slice.PartMut.{put_mid}
use Rattle.std.proofs.lemmas.Int.{to_z-of_z}
use Rattle.std.proofs.lemmas.List.{take-append-le, take_more_set, nil_from_length}
use Rattle.std.proofs.lemmas.Slice.{take-put_mid}
use Rattle.byteorder.specs.Endian.{little_bytes}
use Rattle.puffin_data.specs.Stream.{StreamState}
use Rattle.puffin_data.specs.Text.Lengths.{length_layout}
use Rattle.puffin_data.specs.inner.Groups.{second_byte}
use Rattle.puffin_data.specs.Forest.Spelling.{begin_bytes, time_bytes}
use Rattle.puffin_data.proofs.Blocks.{behind, lengthened, placed, room_left}
use Rattle.puffin_data.proofs.Written.{begun}
use Rattle.puffin_data.proofs.data.stream.Stream.write_begin.Goals.{in-Some, in_default, then-not-is_empty, else-not-is_empty}
use Rattle.puffin_data.proofs.data.stream.Stream.write_begin.Goals as goal

pub returns : goal.returns
returns c =
    let stream = c.self.inside in
    let form = c.args.self.now.form in
    let text = c.args.text.now in
    let start : ℤ = c.args.start in
    let group = c.args.group in
    let second = second_byte c.args.second in
    let with_second = c.match-second in
    let with_text = c.if-not-is_empty in
    let same_text : c.as_bytes-text.result.now ≡ text = c.as_bytes-text.ensures.value in
    let front_is : take 14 (c.copy_from_slice.new.self ++ _) ≡ take 14 c.front.result =
    take-append-le 14 c.copy_from_slice.new.self _ (search rules) ∙ ap (take 14) c.copy_from_slice.ensures.after in
    let second_is : take with_second.place with_second.room ≡ take 14 c.front.result ++ second = elim with_second.branch [
      | in-Some taken ↦ ap (λ (any : ℕ). take any with_second.room) taken.place-is
          ∙ ap (take 15) taken.room-is
          ∙ take_more_set _ 14 taken.in-Some.byte (search rules)
          ∙ ap (λ (any : List ℕ). any ++ (taken.in-Some.byte ∷ [])) front_is
          ∙ ap (λ (any : Option ℕ). take 14 c.front.result ++ second_byte any) (sym taken.in-Some.is)
      | in_default taken ↦ ap (λ (any : ℕ). take any with_second.room) taken.place-is
          ∙ ap (take 14) taken.room-is
          ∙ front_is
          ∙ sym (append-nil _)
          ∙ ap (λ (any : Option ℕ). take 14 c.front.result ++ second_byte any) (sym taken.in_default.is)
    ] in
    let text_is : take with_text.place with_text.room ≡ take with_second.place with_second.room ++ text = elim with_text.branch [
      | then-not-is_empty taken ↦ ap (λ (any : ℕ). take any with_text.room) taken.place-is
          ∙ ap (take _) taken.room-is
          ∙ take-put_mid with_second.place _ with_second.room taken.copy_text.new.to _
          (ap (λ (any : List ℕ). with_second.place + length any) (sym taken.copy_text.ensures))
          (search rules)
          ∙ ap (λ (any : List ℕ). take with_second.place with_second.room ++ any) (taken.copy_text.ensures ∙ same_text)
      | else-not-is_empty taken ↦ ap (λ (any : ℕ). take any with_text.room) taken.place-is
          ∙ ap (take with_second.place) taken.room-is
          ∙ sym (append-nil _)
          ∙ ap (λ (any : List ℕ). take with_second.place with_second.room ++ any) (sym (nil_from_length text (search rules)))
    ] in
    let size_is : take (with_text.place + 8) _ ≡ take with_text.place with_text.room ++ c.copy_from_slice-2.new.self =
    take-put_mid with_text.place (with_text.place + 8 - with_text.place) with_text.room c.copy_from_slice-2.new.self
    (with_text.place + 8) (search rules) (search rules) in
    let front =
    c.front.ensures
    ∙ ap (λ (any : ℕ). 40 ∷ (little_bytes 4 any ++ (time_bytes (to_z w64 (of_z w64 start)) ++ (group ∷ [])))) c.get.ensures.number
    ∙ ap (λ (any : ℤ). 40 ∷ (little_bytes 4 c.args.id ++ (time_bytes any ++ (group ∷ [])))) (to_z-of_z w64 start c.ranges.start) in
    let word = c.copy_from_slice-2.ensures.after ∙ c.size_word.ensures in
    let spread = put_mid with_text.place (with_text.place + 8 - with_text.place) with_text.room c.copy_from_slice-2.new.self in
    let pieces =
    size_is ∙ ap (λ (any : List ℕ). any ++ c.copy_from_slice-2.new.self) (text_is ∙ ap (λ (any : List ℕ). any ++ text) second_is) in
    let fits : stream.len + (with_text.place + 8) ≤ stream.block.len = search rules in
    let long : with_text.place + 8 ≤ length spread = search rules in
    let within : stream.len ≤ length stream.block.items = search rules in
    record {
      begun =
          behind stream.block.items c.deref_mut.result.now spread _ _ stream.len with_text.place stream.block.len
          c.deref_mut.ensures.value within long fits
          ∙ ap (λ (any : List ℕ). take stream.len stream.block.items ++ any)
          (pieces ∙ begun form (take 14 c.front.result) second text c.copy_from_slice-2.new.self c.args.id c.args.size group start
          front c.requires.layout word)
          ∙ ap (λ (any : List ℕ). any ++ begin_bytes form c.args.id start text c.args.size)
          (ap (λ (state : StreamState). state.bytes) c.self.view_is);
      place =
          lengthened stream.block.items spread _ stream.len with_text.place
          (behind stream.block.items c.deref_mut.result.now spread _ _ stream.len with_text.place stream.block.len
          c.deref_mut.ensures.value within long
          fits) within long;
      form = search rules;
      room =
          room_left _ stream.block.items stream.block.len stream.len with_text.place c.args.self.now.room
          (8 + (13 + (length (length_layout form (length text)) + length text))) stream.block.ok.0
          (sym (ap (λ (state : StreamState). state.room) c.self.view_is))
          (placed (take 14 c.front.result) second text c.copy_from_slice-2.new.self spread (length_layout form (length text)) group
          with_text.place pieces long (ap length front) (ap length word) c.requires.layout);
    }

-- When the numbers or the replies end, no line is left to come.
use Rattle.std.proofs.Common.{◌≡◌, ◌⊎◌, inl, inr, ℕ, List, [], ◌∷◌, ◌++◌, Option, None, refl, sym, ap, ◌∙◌, subst, append-nil, Bor}
use Rattle.std.proofs.lemmas.List.{nil_from_length}
use Rattle.std.specs.declared.iter.Zip.{Zip}
use Rattle.std.specs.declared.slice.Iter.{Iter}
use Rattle.std.specs.Iterator.Adapters.{zip_first, zip_second, zip_steps}
use Rattle.std.specs.Slice.Iter.{iter_rest, iter_steps}
use Rattle.std.specs.String.{string_bytes}
use Rattle.puffin_session.specs.declared.command.Reply.{Reply}
use Rattle.puffin_replay.specs.Program.ReplyLines.{reply_lines}
use Rattle.puffin_replay.proofs.replay.reply_line.reply_lines.Goals as goal

no_replies : (numbers : List ℕ) → reply_lines numbers [] ≡ []
no_replies [] = refl
no_replies (n ∷ ns) = refl

no_more_lines : (s t : Zip (Iter ℕ) (Iter Reply)) (r : Option (Bor ℕ × Bor Reply)) → r ≡ None
    → zip_steps iter_steps iter_steps s r t → reply_lines (iter_rest (zip_first s)) (iter_rest (zip_second s)) ≡ []
no_more_lines s t r none steps = by (subst (λ o. zip_steps iter_steps iter_steps s o t) none steps)
  where
    by : ((u : Iter ℕ) × iter_steps (zip_first s) None u) ⊎ ((u : Iter Reply) × iter_steps (zip_second s) None u)
        → reply_lines (iter_rest (zip_first s)) (iter_rest (zip_second s)) ≡ []
    by (inl a) = ap (λ (ns : List ℕ). reply_lines ns (iter_rest (zip_second s))) (nil_from_length _ a.1.0)
    by (inr b) =
        ap (λ (rs : List Reply). reply_lines (iter_rest (zip_first s)) rs) (nil_from_length _ b.1.0)
        ∙ no_replies (iter_rest (zip_first s))

pub returns : goal.returns
returns c =
    let lines = string_bytes c.loop-number.lines in
    sym (append-nil lines)
    ∙ ap (λ (bs : List ℕ). lines ++ bs)
    (sym
    (no_more_lines c.loop-number.number-iterator c.next.new.self c.next.result c.in-None.is c.next.ensures.steps))
    ∙ c.loop-number.invariant

-- What was added is the frame, or nothing.
use Rattle.std.proofs.Common.{List, [], inl, inr, subst, sym, ◌∙◌, append-nil}
use Rattle.std.proofs.lemmas.Result.{on_ok_weaker}
use Rattle.puffin_look.specs.OpenFrame.{OpenFrame, open_of}
use Rattle.puffin_look.proofs.Listed.{if_err_so, one_left_in, none_left_in}
use Rattle.puffin_look.proofs.listing.add_wanted.Goals as goal

pub returns-then-is_within-clause-ok : goal.returns-then-is_within-clause-ok
returns-then-is_within-clause-ok g c =
    on_ok_weaker c.add.result
    (λ (more, pending, taken). (
      more,
      pending,
      subst (λ (fs : List OpenFrame). g.L.Listing.takes c.args.listing.now fs more c.add.new.self)
          (one_left_in c.args.indices (open_of c.args.frame.now) (sym c.is_within.ensures ∙ c.if-is_within.true)) taken,
    ))
    c.add.ensures.ok

pub returns-then-is_within-clause-err : goal.returns-then-is_within-clause-err
returns-then-is_within-clause-err g c =
    if_err_so c.add.result
    (λ e h. elim h [
      | inl memory ↦ inl memory
      | inr refused ↦ inr (sym c.is_within.ensures ∙ c.if-is_within.true, refused)
    ]) c.add.ensures.err

pub returns-else-is_within-clause-ok : goal.returns-else-is_within-clause-ok
returns-else-is_within-clause-ok g c = (
  [],
  sym (append-nil (g.L.Listing.text c.args.listing.now)),
  subst (λ (fs : List OpenFrame). g.L.Listing.takes c.args.listing.now fs [] c.args.listing.now)
      (none_left_in c.args.indices (open_of c.args.frame.now)
      (sym c.is_within.ensures ∙ c.if-is_within.false)) (g.met.L.Listing.takes_none c.args.listing.now),
)

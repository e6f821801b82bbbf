-- The frame's scopes are taken behind those of the frames before.
use Rattle.std.proofs.Common.{◌∙◌, [], ℤ, ◌-ℤ◌, ap, refl, arith, w64, FitsSigned}
use Rattle.std.proofs.lemmas.Int.{ints}
use Rattle.std.proofs.lemmas.Result.{err_from_is_err_and}
use Rattle.puffin_threads.specs.Thread.ThreadKey.{key_of}
use Rattle.puffin_merge.specs.Merge.Scopes.{frame_bytes}
use Rattle.puffin_merge.proofs.Entering.{passed_64}
use Rattle.puffin_merge.proofs.Adding.{first_of_more, one_added, one_refused}
use Rattle.puffin_merge.proofs.merge.merger.Merger.add_counted.Goals as goal

pub returns-in_err-read_frame-clause-refused : goal.returns-in_err-read_frame-clause-refused
returns-in_err-read_frame-clause-refused c =
    let p = err_from_is_err_and c.from_residual.result c.from_residual.ensures.1 in
    let fits : FitsSigned w64 c.start_of_first-first.result = omega (arith, ints, c.start_of_first-first.type_inv) in
    let f = frame_bytes (key_of c.args.self.now.info.now) c.args.frame.now in
    rw (p.1, p.2) (λ added later h.
    one_refused added f later c.args.self.now _ c.read_frame.new.merging c.read_frame.new.tries _ h refl
    (ap (λ (t : ℤ). f.start -ℤ t)
    (passed_64 c.start_of_first-first.result fits ∙ first_of_more added f later c.args.self.now
    c.start_of_first-first.result h c.start_of_first-first.ensures.none c.start_of_first-first.ensures.some))
    c.in_err-read_frame.ensures.err)

pub returns-clause-added : goal.returns-clause-added
returns-clause-added c =
    let fits : FitsSigned w64 c.start_of_first-first.result = omega (arith, ints, c.start_of_first-first.type_inv) in
    let f = frame_bytes (key_of c.args.self.now.info.now) c.args.frame.now in
    λ added h.
    let first = passed_64 c.start_of_first-first.result fits ∙ first_of_more added f [] c.args.self.now
    c.start_of_first-first.result h c.start_of_first-first.ensures.none c.start_of_first-first.ensures.some in
    one_added added f c.args.self.now _ _ c.read_frame.new.tries h refl (ap (λ (t : ℤ). f.start -ℤ t) first)
    c.in_ok-read_frame.ensures.ok c.in_ok-read_frame.ensures.short refl first

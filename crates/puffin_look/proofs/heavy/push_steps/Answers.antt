-- A step was added, or none follows.
--
-- At each level the heaviest step below is there (`some`) or not (`none`), and is followed (`half`) or not (`less`): so one of the three
-- lemmas on steps applies.
use Rattle.std.proofs.Common.{rules, ◌≡◌, List, ℕ, suc, ◌+◌, ◌-◌, true, false, length, Some, None, ap, subst, sym, ◌∙◌, arith}
use Rattle.std.specs.Prelude.{option_map}
use Rattle.puffin_look.specs.Heavy.{heaviest, is_followed, step_line, step_lines}
use Rattle.puffin_look.specs.inner.Stacks.{rows_in}
use Rattle.puffin_look.specs.inner.Heavies.{step_of}
use Rattle.puffin_look.specs.inner.Lining.{Adds}
use Rattle.puffin_look.proofs.HeavySteps.{steps_none, steps_end, step_taken, steps_done}
use Rattle.puffin_look.proofs.heavy.push_steps.Goals as goal

pub returns-in_default : goal.returns-in_default
returns-in_default c =
    let rows = rows_in c.args.rows.now.entries in
    let front = c.loop-level.front.items in
    let none : heaviest front rows ≡ None = ap (λ (f : List ℕ). heaviest f rows) (sym c.deref.ensures.value)
    ∙ sym c.in_ok-step.ensures ∙ ap (option_map step_of) c.in_default.is in
    steps_done c.args.form rows c.loop-level.level front c.loop-level.outer
    _ _ _ c.loop-level.invariant (steps_none c.args.form rows c.loop-level.level front c.loop-level.outer _ none)

pub returns-then-not-is_followed : goal.returns-then-not-is_followed
returns-then-not-is_followed c =
    let rows = rows_in c.args.rows.now.entries in
    let front = c.loop-level.front.items in
    let some : heaviest front rows ≡ Some (step_of c.in-Some.step) = ap (λ (f : List ℕ). heaviest f rows)
    (sym c.deref.ensures.value) ∙ sym c.in_ok-step.ensures ∙ ap (option_map step_of) c.in-Some.is in
    let less : is_followed c.loop-level.level c.in-Some.step.time c.loop-level.outer ≡ false = search rules in
    steps_done c.args.form rows c.loop-level.level front c.loop-level.outer
    _ _ _ c.loop-level.invariant (steps_end c.args.form rows c.loop-level.level front c.loop-level.outer
    _ (step_of c.in-Some.step) some less)

pub loop-level-preserved : goal.loop-level-preserved
loop-level-preserved c =
    let rows = rows_in c.args.rows.now.entries in
    let front = c.loop-level.front.items in
    let level = c.loop-level.level in
    let count = length c.args.rows.now.entries in
    let some : heaviest front rows ≡ Some (step_of c.in-Some.step) = ap (λ (f : List ℕ). heaviest f rows)
    (sym c.deref.ensures.value) ∙ sym c.in_ok-step.ensures ∙ ap (option_map step_of) c.in-Some.is in
    let half : is_followed level c.in-Some.step.time c.loop-level.outer ≡ true = search rules in
    let left : count - level ≡ suc (count - (level + 1)) = omega (arith, c.loop-level-test.true, c.len-level-end.ensures.len) in
    let one : level + 1 ≡ suc level = omega arith in
    let len : c.len.result ≡ length front = search rules in
    let line = subst (λ (k : ℕ). Adds c.loop-level.lines c.push_step.new.lines
    (step_line c.args.form level k (step_of c.in-Some.step) c.loop-level.outer)) len c.in_ok-push_step.ensures in
    step_taken c.args.form rows level front c.loop-level.outer _ _ _ c.loop-level.invariant _ _ (step_of c.in-Some.step)
    _ _ left one some half line c.in_ok-extend_from_slice.ensures.items

pub returns : goal.returns
returns c =
    let rows = rows_in c.args.rows.now.entries in
    let none : length c.args.rows.now.entries - c.loop-level.level
    ≡ 0 = omega (arith, c.loop-level-test.false, c.len-level-end.ensures.len) in
    steps_done c.args.form rows c.loop-level.level c.loop-level.front.items c.loop-level.outer
    _ _ _ c.loop-level.invariant
    (ap (λ (k : ℕ). step_lines c.args.form k rows c.loop-level.level c.loop-level.front.items c.loop-level.outer) none)

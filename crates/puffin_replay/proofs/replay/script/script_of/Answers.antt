-- Lines are fewer than numbers, and what a line says comes behind what the earlier ones say.
use Rattle.std.proofs.Common.{◌≡◌, ℕ, List, false, sym, subst, ◌+◌, [], ◌∷◌, ◌++◌, length, arith, ap, ◌∙◌, Ok, Option, option_map}
use Rattle.puffin_replay.specs.declared.replay.statement.Statement.{Statement}
use Rattle.puffin_replay.specs.inner.ScriptReading.{meaning_of}
use Rattle.puffin_replay.specs.Script.{is_late}
use Rattle.puffin_replay.proofs.Scripts.{after_said, few_lines}
use Rattle.puffin_replay.proofs.replay.script.script_of.Goals as goal

pub overflow_add-number : goal.overflow_add-number
overflow_add-number c = omega (arith, ap length c.in-Some.ensures, few_lines c.args.bytes.now)

pub lines-preserved-in-Continue-1 : goal.lines-preserved-in-Continue-1
lines-preserved-in-Continue-1 c =
    let (before, reading, left) = c.lines.invariant.so_far in
    let s = meaning_of c.in-Some-statement.statement in
    let told = c.in-Ok.ensures ∙ ap (λ (o : Option Statement). Ok (option_map meaning_of o)) c.in-Some-statement.is in
    let early =
    subst (λ (names : List (List ℕ)). is_late names s ≡ false) reading.names
    (sym (c.is_late.ensures reading.numbered) ∙ c.if-is_late.false) in
    record {
      so_far = (
        before ++ (c.lines.number + 1, s) ∷ [],
        c.in_ok-push.ensures before reading,
        left ∙ after_said before (c.lines.number + 1) _ _ _ s c.in-Some.ensures told early,
      );
      counted = omega (arith, ap length c.in-Some.ensures);
    }

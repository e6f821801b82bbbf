use Rattle.std.proofs.Common.{◌-◌, ◌≡◌, ◌+◌, ◌*◌, ◌≤◌, [], length, reverse, Result}
use Rattle.puffin_data.specs.declared.data.walk.Walk.{Walk}
use Rattle.puffin_data.specs.inner.Walking.{no_scope_counted, Stop}
use Rattle.puffin_data.proofs.Resuming.{Resumes, IsNested}
use Rattle.puffin_data.proofs.data.walk.walk_bytes.Given as goal

abbrev pub invariant-scopes : goal.invariant-scopes
invariant-scopes l = record {
  within : l.at ≤ l.end;
  nested : IsNested l.end (reverse l.ends.items) (length l.bytes);
  inside : l.end + 9 * length l.ends.items ≤ length l.bytes;
  tried : l.tries ≡ l.walk.num_scopes;
  few : 31 * l.walk.num_scopes ≤ l.at + 9 * length l.ends.items;
  -- whatever the walk comes to from here, it comes to from the beginning
  resumes : (out : Result Walk Stop) → Resumes l.form l.bytes (reverse l.ends.items) l.walk l.at l.end out
      → Resumes l.form l.bytes [] no_scope_counted 0 (length l.bytes) out;
}

abbrev pub decreases-scopes : goal.decreases-scopes
decreases-scopes l = length l.bytes - l.at

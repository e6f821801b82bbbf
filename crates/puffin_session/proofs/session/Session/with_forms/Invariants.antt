-- The threads so far are those of the names so far, each in its form.
use Rattle.std.proofs.Common.{◌≡◌, map, ℕ, List}
use Rattle.puffin_data.specs.declared.data.form.Form.{Form}
use Rattle.std.specs.String.{string_bytes}
use Rattle.puffin_threads.specs.Thread.Calls.{new_thread}
use Rattle.puffin_session.proofs.session.Session.with_forms.Given as goal

abbrev pub invariant-loop-name : goal.invariant-loop-name
invariant-loop-name l =
    l.profiled.items
    ≡ map (λ (thread : List ℕ × Form). new_thread thread.0 thread.1) (map (λ t. (string_bytes t.0, t.1)) l.yielded)

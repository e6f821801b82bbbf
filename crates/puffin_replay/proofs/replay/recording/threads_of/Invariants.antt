-- The threads so far are those of the names so far.
use Rattle.std.proofs.Common.{◌≡◌, map, take}
use Rattle.std.specs.String.{string_bytes}
use Rattle.puffin_replay.specs.Script.{with_forms}
use Rattle.puffin_replay.proofs.replay.recording.threads_of.Given as goal

abbrev pub invariant-names : goal.invariant-names
invariant-names l =
    map (λ t. (string_bytes t.0, t.1)) l.threads.items
    ≡ with_forms (map string_bytes (take l.index l.name-items)) l.script.forms.items

-- The counts of a stream, as `puffin_count` returns them.
use Rattle.std.specs.Prelude.{◌≡◌, ◌⊎◌, ℕ, Bool, true, false, List, Result, Ok, Err}
use Rattle.puffin_data.specs.declared.error.Error.{Error}
use Rattle.puffin_data.specs.declared.error.Error.TheVariants as error
use Rattle.puffin_data.specs.declared.data.form.Form.{Form}
use Rattle.puffin_data.specs.declared.data.form.Form.TheVariants.{Short, Long}
use Rattle.puffin_data.specs.declared.data.walk.Walk.{Walk}
use Rattle.puffin_data.specs.Forest.{Forest}
use Rattle.puffin_data.specs.Forest.Spelling.{Spells}
use Rattle.puffin_data.specs.Honesty.{Counts}
use Rattle.puffin_data.specs.Walk.{IsFault}
use Rattle.puffin_c.specs.declared.fault.Fault.{Fault}
use Rattle.puffin_c.specs.declared.fault.Fault.TheVariants as fault
use Rattle.puffin_c.specs.declared.count.PuffinCount.{PuffinCount}

-- the form of texts that a program asks for
abbrev pub form_given : Bool → Form
form_given true = Long
form_given false = Short

abbrev pub walk_in : PuffinCount → Walk
walk_in count = record {
  num_scopes = count.scopes;
  depth = count.depth;
  range_ns = (count.start_ns, count.stop_ns);
}

-- Either the bytes spell a forest of scopes, and the numbers are its counts; or memory ran out or the bytes are refused with
-- their first fault, and nothing is changed.
abbrev pub IsCounted : Form → List ℕ → PuffinCount → PuffinCount → Result (Unit {0}) Fault → Type 0
IsCounted form bytes old new (Ok _) =
    (forest : Forest) × Spells form bytes forest × Counts (walk_in new) forest
IsCounted form bytes old new (Err cause) =
    (new ≡ old)
    × (refusal : Error)
    × (cause ≡ fault.Refused refusal)
    × ((refusal ≡ error.Memory) ⊎ IsFault form bytes refusal)

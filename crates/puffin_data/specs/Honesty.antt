-- A stream's form, bytes and numbers (`StreamFacts`), when the numbers agree with the bytes, and how two streams are joined.
use Rattle.std.specs.Prelude.{◌≡◌, ◌≢◌, ℕ, ◌+◌, ◌<◌, ◌==◌, if◌then◌else◌, max, ℤ, List, ◌++◌, length}
use Rattle.std.specs.Int.{int_min, int_max}
use Rattle.puffin_data.specs.declared.data.walk.Walk.{Walk}
use Rattle.puffin_data.specs.declared.data.info.StreamInfo.{StreamInfo}
use Rattle.puffin_data.specs.declared.data.info.StreamInfoRef.{StreamInfoRef}
use Rattle.puffin_data.specs.declared.data.form.Form.{Form}
use Rattle.puffin_data.specs.Forest.{Forest}
use Rattle.puffin_data.specs.Forest.Measures.{scope_count, height, least_start, greatest_stop}
use Rattle.puffin_data.specs.Forest.Spelling.{Spells}

-- the counts of a walk are the measures of this forest
pub record Counts (walk : Walk) (forest : Forest) : Type 0 where
  pub num_scopes : walk.num_scopes ≡ scope_count forest
  pub depth : walk.depth ≡ height forest
  pub least_start : walk.range_ns.0 ≡ least_start forest
  pub greatest_stop : walk.range_ns.1 ≡ greatest_stop forest

-- What an info holds, apart from its stream's room. `range_ns` is the least start and the greatest stop.
pub record StreamFacts : Type 0 where
  pub form : Form
  pub bytes : List ℕ
  pub num_scopes : ℕ
  pub depth : ℕ
  pub range_ns : ℤ × ℤ

-- the facts of an info that owns its bytes
abbrev pub facts_of : StreamInfo → StreamFacts
facts_of info = record {
  form = info.stream.form;
  bytes = info.stream.bytes;
  num_scopes = info.num_scopes;
  depth = info.depth;
  range_ns = info.range_ns;
}

-- the facts of an info that borrows its bytes
abbrev pub facts_of_ref : StreamInfoRef → StreamFacts
facts_of_ref info = record {
  form = info.form;
  bytes = info.stream.now;
  num_scopes = info.num_scopes;
  depth = info.depth;
  range_ns = info.range_ns;
}

-- the bytes spell the forest in their form, and the other fields are its measures
pub record AreHonestFacts (facts : StreamFacts) (forest : Forest) : Type 0 where
  pub stream : Spells facts.form facts.bytes forest
  pub counts : Counts
      (record { num_scopes = facts.num_scopes; depth = facts.depth; range_ns = facts.range_ns })
      forest

-- an info that owns its bytes is honest for this forest
abbrev pub IsHonest : StreamInfo → Forest → Type 0
IsHonest info forest = AreHonestFacts (facts_of info) forest

-- an info that borrows its bytes is honest for this forest
abbrev pub IsHonestRef : StreamInfoRef → Forest → Type 0
IsHonestRef info forest = AreHonestFacts (facts_of_ref info) forest

-- the bytes of a report spell some forest, and its numbers agree with them
abbrev pub IsHonestReport : StreamInfoRef → Type 0
IsHonestReport info = (forest : Forest) × IsHonestRef info forest

-- two infos can't be joined: both have bytes, and their forms differ
abbrev pub AreUnlike : StreamFacts → StreamFacts → Type 0
AreUnlike first second =
    (0 < length first.bytes) × (0 < length second.bytes) × (first.form ≢ second.form)

-- the form of two infos, joined: the second's if the first has no bytes, else the first's
abbrev pub joined_form : StreamFacts → StreamFacts → Form
joined_form first second = if length first.bytes == 0 then second.form else first.form

-- two infos, joined: the bytes of the first and then those of the second
abbrev pub joined_facts : StreamFacts → StreamFacts → StreamFacts
joined_facts first second = record {
  form = joined_form first second;
  bytes = first.bytes ++ second.bytes;
  num_scopes = first.num_scopes + second.num_scopes;
  depth = max first.depth second.depth;
  range_ns = (
    int_min first.range_ns.0 second.range_ns.0,
    int_max first.range_ns.1 second.range_ns.1,
  );
}

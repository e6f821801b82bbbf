-- A scope as it is read, without the address of its text.
use Rattle.puffin_data.specs.declared.data.scope.RawScope.{RawScope}
use Rattle.puffin_data.specs.Walk.Reading.{FoundScope}

-- a scope that was read, as contracts see it
abbrev pub found_of : RawScope → FoundScope
found_of scope = record {
  span = record { id = scope.id; start = scope.start; stop = scope.stop; text = scope.text.now };
  child_begin = scope.child_begin;
  child_end = scope.child_end;
  next_sibling = scope.next_sibling;
}

use Rattle.std.proofs.Common.{◌-◌, ◌+◌, ◌*◌, ◌≤◌, List, [], length, reverse, All}
use Rattle.puffin_data.specs.Forest.{Span}
use Rattle.puffin_data.specs.Walk.Visitor.{Entering, Refusing}
use Rattle.puffin_data.proofs.Going.{End, Resumes, ends_of}
use Rattle.puffin_data.proofs.Resuming.{IsNested}
use Rattle.puffin_data.proofs.data.visit.walk_with.Given as goal

abbrev pub invariant-scopes : goal.invariant-scopes
invariant-scopes g l = record {
  within : l.at ≤ l.region.end;
  nested : IsNested l.region.end (reverse (ends_of l.outers.items)) (length l.bytes);
  inside : l.region.end + 9 * length l.outers.items ≤ length l.bytes;
  few : 31 * l.tries ≤ l.at + 9 * length l.outers.items;
  stands : (around : List Span) × g.V.Visitor.stands_for l.visitor l.region.within around;
  outers_stand : All (λ r. (around : List Span) × g.V.Visitor.stands_for l.visitor r.within around) l.outers.items;
  -- whatever the walk comes to from here, it comes to from the beginning
  resumes : (out : End _)
      → Resumes l.form (Entering g.V.Visitor.takes g.V.Visitor.stands_for) (Refusing g.V.Visitor.refuses g.V.Visitor.stands_for) l.bytes
      (reverse l.outers.items) l.region.within l.visitor l.tries l.at l.region.end out
      → Resumes l.form (Entering g.V.Visitor.takes g.V.Visitor.stands_for) (Refusing g.V.Visitor.refuses g.V.Visitor.stands_for) l.bytes
      [] l.fn.outside l.fn.visitor 0 0 (length l.bytes) out;
}

abbrev pub decreases-scopes : goal.decreases-scopes
decreases-scopes g l = length l.bytes - l.at

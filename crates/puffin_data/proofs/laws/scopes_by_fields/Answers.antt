-- Scopes that are equal field by field are seen as the same.
use Rattle.std.proofs.Common.{ap}
use Rattle.std.proofs.lemmas.Bool.Decides.{Decides-and, Decides-like, Decides-eqb, Decides-int_eq}
use Rattle.std.specs.Cmp.Lexicographic.{bytes_decides}
use Rattle.puffin_data.specs.Reader.{ReadScope}
use Rattle.puffin_data.proofs.laws.scopes_by_fields.Goals as goal

pub returns-clause-scopes : goal.returns-clause-scopes
returns-clause-scopes c one other =
    let times =
    Decides-and _ _ (Decides-int_eq one.rec.start_ns other.rec.start_ns)
    (Decides-and _ _ (Decides-int_eq one.rec.duration_ns other.rec.duration_ns)
    (bytes_decides one.rec.text.now other.rec.text.now)) in
    let places =
    Decides-and _ _ (Decides-eqb one.child_begin_position other.child_begin_position)
    (Decides-and _ _ (Decides-eqb one.child_end_position other.child_end_position)
    (Decides-eqb one.next_sibling_position other.next_sibling_position)) in
    Decides-like _
    (λ same path. record {
      id = same.0 path;
      start = same.1.0.0 path;
      duration = same.1.0.1.0 path;
      text = same.1.0.1.1 path;
      child_begin = same.1.1.0 path;
      child_end = same.1.1.1.0 path;
      next_sibling = same.1.1.1.1 path;
    })
    (λ same. (
      ap (λ (scope : ReadScope). scope.id) same,
      (
        (
          ap (λ (scope : ReadScope). scope.start) same,
          (ap (λ (scope : ReadScope). scope.duration) same, ap (λ (scope : ReadScope). scope.text) same),
        ),
        (
          ap (λ (scope : ReadScope). scope.child_begin) same,
          (ap (λ (scope : ReadScope). scope.child_end) same, ap (λ (scope : ReadScope). scope.next_sibling) same),
        ),
      ),
    ))
    (Decides-and _ _ (Decides-eqb one.id other.id) (Decides-and _ _ times places))

-- A boxed sink answers as the sink in the box does: what its contract says of the value, moved to the box.
use Rattle.std.proofs.Common.{◌≡◌, refl, subst}
use Rattle.std.specs.Arc.{arc_value}
use Rattle.std.specs.DynBox.{dyn_box_with}
use Rattle.puffin.proofs.global_profiler.handing.hand_to_box.Goals as goal

-- what is related at one index is related at an index that is the same
moved : {I B : Type 0} {F : I → Type 0} (A : (i : I) → F i → F i → Type 0) (make : (i : I) → F i → B) (p q : (i : I) × F i)
    → p ≡ q → (x : F p.0) → A p.0 p.1 x → (y : F q.0) × A q.0 q.1 y × (make p.0 x ≡ make q.0 y)
moved {I} {B} {F} A make p q same x a =
    let P : (i : I) × F i → Type 0 = λ r. (y : F r.0) × A r.0 r.1 y × (make p.0 x ≡ make r.0 y) in
    subst P same (x, a, refl)

pub returns : goal.returns
returns g c =
    moved (λ i v x. (g.dyn-1.0.entry i).1.accepts v (arc_value c.args.frame) c.accept.result x)
    (dyn_box_with c.args.sink.now) _ _ c.deref_box_mut-1.ensures.value.1 c.accept.new.self c.accept.ensures

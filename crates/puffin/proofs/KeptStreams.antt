-- Calls that change neither what is pending nor the totals.
use Rattle.std.proofs.Common.{◌≡◌, ℕ, List, Result, Ok, Err, ap, ◌∙◌}
use Rattle.std.specs.Prelude.{OnOk, OnErr, IfOk, IfErr}
use Rattle.puffin_data.specs.declared.error.Error.{Error}
use Rattle.puffin_threads.specs.Details.{Details}
use Rattle.puffin_collector.specs.Collector.State.{Collected, after_learning}
use Rattle.puffin_collector.specs.Collector.Registering.{Adds, AddsSome}
use Rattle.puffin_collector.specs.Collector.Collecting.{KnowsSome}

abbrev pub Keeps : Collected → Collected → Type 0
Keeps old new = (new.reported ≡ old.reported) × (new.emitted ≡ old.emitted) × (new.streams ≡ old.streams)

pub same_keeps : (old new : Collected) → new ≡ old → Keeps old new
same_keeps old new is = (
  ap (λ (c : Collected). c.reported) is,
  ap (λ (c : Collected). c.emitted) is,
  ap (λ (c : Collected). c.streams) is,
)

pub wanting_keeps : (old new : Collected) (more : Collected) → more.reported ≡ old.reported → more.emitted ≡ old.emitted
    → more.streams ≡ old.streams → new ≡ more → Keeps old new
wanting_keeps old new more r e s is = (
  ap (λ (c : Collected). c.reported) is ∙ r,
  ap (λ (c : Collected). c.emitted) is ∙ e,
  ap (λ (c : Collected). c.streams) is ∙ s,
)

pub adding_keeps : {T : Type 0} (items : T → List ℕ) (r : Result T Error) (old new : Collected) (ds : List Details)
    → IfOk r (λ t. Adds old ds (items t) new) → IfErr r (λ e. AddsSome old ds e new) → Keeps old new
adding_keeps items (Ok t) old new ds (added, registers, is) err =
    (ap (λ (c : Collected). c.reported) is, ap (λ (c : Collected). c.emitted) is, ap (λ (c : Collected). c.streams) is)
adding_keeps items (Err e) old new ds ok (added, registers, is) =
    (ap (λ (c : Collected). c.reported) is, ap (λ (c : Collected). c.emitted) is, ap (λ (c : Collected). c.streams) is)

pub learning_keeps : {T : Type 0} (r : Result T Error) (old new : Collected) (ds : List Details)
    → OnOk r (new ≡ after_learning old ds) → OnErr r (KnowsSome old ds new) → Keeps old new
learning_keeps (Ok t) old new ds is err =
    (ap (λ (c : Collected). c.reported) is, ap (λ (c : Collected). c.emitted) is, ap (λ (c : Collected). c.streams) is)
learning_keeps (Err e) old new ds ok (learnt, first, is) =
    (ap (λ (c : Collected). c.reported) is, ap (λ (c : Collected). c.emitted) is, ap (λ (c : Collected). c.streams) is)

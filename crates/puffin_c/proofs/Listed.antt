-- The next frame lists a scope that was registered.
use Rattle.std.proofs.Common.{◌≡◌, ℕ, suc, List, [], ◌∷◌, sym, ap, ◌∙◌, subst, arith, rules}
use mathlib.Core.Bool.{Bool, true, false, true≢false}
use Rattle.std.specs.Prelude.{Option, Some, None, is_some, map, Contains, if◌then◌else◌}
use Rattle.std.specs.Option.{unwrap_or}
use Rattle.std.specs.Ordering.{nat_cmp, eq_by_cmp}
use Rattle.std.specs.FinMap as tree
use Rattle.std.specs.FinMap.{find, get-entries, gets}
use Rattle.std.proofs.lemmas.List.Elements.{Contains-append_right}
use Rattle.puffin_threads.specs.Details.{Details, with_id}
use Rattle.puffin_threads.specs.Details.Collection.{kept_or}
use Rattle.puffin_frames.specs.declared.frame_data.frame.FrameData.{FrameData}
use Rattle.puffin_frames.specs.Frame.Contents.{frame_details}
use Rattle.puffin_collector.specs.Collector.State.{Collected}
use Rattle.puffin_collector.specs.Collector.Collecting.{HoldsAll}
use Rattle.puffin_c.specs.Naming.{after_naming}

-- an entry that is found is the first one, or among the others
step : (b : Bool) (x v : Details) (rest : Option Details) (xs : List Details) → (if b then Some x else rest) ≡ Some v →
    (rest ≡ Some v → Contains xs v) → Contains (x ∷ xs) v
step true x v rest xs is more = (0, omega arith, ap (λ (o : Option Details). unwrap_or o v) is)
step false x v rest xs is more = let (index, low, at) = more is in (suc index, omega (arith, low), at)

-- what is under a key is among the values
found : (key : ℕ) (entries : List (ℕ × Details)) (value : Details) → find nat_cmp key entries ≡ Some value →
    Contains (map (λ e. e.1) entries) value
found key [] value is = absurd (true≢false (sym (ap is_some is)))
found key ((first, details) ∷ entries) value is =
    step (eq_by_cmp nat_cmp key first) details value (find nat_cmp key entries) (map (λ e. e.1) entries) is
    (found key entries value)

-- details that are registered under a new id are known, so the next frame lists them
pub listed : (c : Collected) (d : Details) (id : ℕ) (frame : FrameData) → tree.get c.collection.by_id id ≡ None →
    HoldsAll (after_naming c (with_id d id)) frame → Contains (frame_details frame) (with_id d id)
listed c d id frame none holds =
    let named : Details = with_id d id in
    let inserted : tree.get (tree.insert c.collection.by_id id named) id ≡ Some named = search (gets, rules) in
    let known : tree.get (after_naming c named).collection.by_id id ≡ Some named =
    ap (λ (o : Option Details). tree.get (kept_or o c.collection.by_id id named) id) none ∙ inserted in
    subst (λ (ds : List Details). Contains ds named) (sym holds.delta)
    (Contains-append_right c.new_details _ named (found id _ named (sym (get-entries _ id) ∙ known)))

-- A frame lists the scopes if each of its details has the id and the name of the scope at its place.
use Rattle.std.proofs.Common.{rules, ◌≡◌, ap, ◌∙◌, subst, Option, Some, ℕ, map, List, Bor, Iter, length, arith}
use Rattle.std.proofs.iter.Yields.{fronts}
use Rattle.std.proofs.lemmas.Iterator.{YieldsList, YieldsList-from_zip, same_from_all}
use Rattle.std.proofs.lemmas.Iterator.Consumers.{YieldsList-from_shown}
use Rattle.std.proofs.lemmas.List.{length-map}
use Rattle.std.proofs.lemmas.Simd.{map-map}
use Rattle.std.specs.Arc.{arc_value}
use Rattle.std.specs.Bool.{Decides}
use Rattle.std.specs.Slice.Iter.{iter_rest}
use Rattle.std.specs.declared.sync.Arc.{Arc}
use Rattle.puffin_threads.specs.declared.scope_details.details.ScopeDetails.{ScopeDetails}
use Rattle.puffin_threads.specs.Details.{details_of, name_of}
use Rattle.tests_support.specs.Packet.{scopes_listed}
use Rattle.tests_support.proofs.frames.lists.Goals as goal
use borrow.Author.Tests.{tests}

-- what a frame lists of a scope: its id and its name
abbrev listed : {Z : Type 0} → Arc ScopeDetails Z → Option ℕ × List ℕ
listed d = ((details_of (arc_value d)).id, name_of (details_of (arc_value d)))

-- what it is to list of one
abbrev wanted : ℕ × Bor (List ℕ) → Option ℕ × List ℕ
wanted s = (Some s.0, s.1.now)

-- a slice's iterator yields what `seen` makes of the slice's items
YieldsList-from_seen : {A B : Type 0} (s : Iter A) (seen : A → B) (xs : List A) → iter_rest s ≡ xs →
    YieldsList fronts (λ x. seen x.now) s (map seen xs)
YieldsList-from_seen s seen xs rest =
    let all =
    YieldsList-from_shown fronts (λ x. seen x.now) (λ t. map seen (iter_rest t))
    (λ t u end. length-map (iter_rest t) seen ∙ end.0)
    (λ t x u next. ap (map seen) next)
    s in
    subst (λ l. YieldsList fronts (λ x. seen x.now) s (map seen l)) rest all

pub returns-then-len-scopes : goal.returns-then-len-scopes
returns-then-len-scopes c =
    let details = c.args.frame.now.scope_delta.items in
    let scopes = c.args.scopes.now in
    let fused : scopes_listed c.args.frame.now ≡ map listed details = map-map _ _ details in
    let long : length (map listed details) ≡ length (map wanted scopes) =
    omega (arith, length-map details listed, length-map scopes wanted, ap length c.deref.ensures.value) in
    let pairs =
    YieldsList-from_zip (YieldsList-from_seen c.zip.result.a listed details cc)
    (YieldsList-from_seen c.zip.result.b wanted scopes cc) in
    let same : Decides c.all.result (map listed details ≡ map wanted scopes) =
    same_from_all c.all.new.self _ _ _ _ c.all.ensures.ran pairs long
    (λ x q called. search (rules, tests))
    (λ x q called. search (rules, tests)) in
    rw fused same

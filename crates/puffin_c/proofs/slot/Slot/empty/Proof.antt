-- `empty` owns nothing.
use Rattle.std.proofs.Common.{◌≡◌, List, [], ◌∷◌, ◌++◌, refl, sym, subst}
use mir.Val.{Val}
use base.Logic.{SProp, ent, emp, id⊢}
use base.Fml.{ftrue}
use prog.Wp.{WpFn}
use types.Kit.{‵, raw, ◌⊛◌, ◌$◌, ◌∵◌, !, qed, by, keep, drop, split, fsplit, fjoin, suffices, use0}
use types.Run.{lit, no_more, and_then, returns, enter}
use types.ByLocal.{alloc_all, pass_all, free_all, look_at, get, sets}
use types.Part.{agg}
use contract.Monad.{fact, fact_i}
use contract.Running.{tables}
use denote.Exit.{yes}
use denote.RattleType.{owns}
use denote.RawPtr.{null_ptr, ptr_val}
use denote.Signature.{types_at, plain}
use denote.Steps.{nothing}
use denote.Triple.Walked.{Stays, stay_dropped, walk_of, Goes-dropped}
use Rattle.core.proofs.alloc.Calls.{handle_tells}
use Rattle.core.specs.declared.option.Option.TheVariants.{None}
use Rattle.std.proofs.raw_atomic.Walks.{proved_at, leaves}
use Rattle.puffin_c.proofs.RawBoxes.{two}
use Rattle.puffin_c.proofs.Slots.{Z, al, empty_in, empty_good}
use Rattle.puffin_c.specs.contracts.slot.Slot.empty as own
use Rattle.puffin_c.proofs.slot.Slot.empty.Statement.{statement}
use Rattle.puffin_c.proofs.slot.Slot.empty.Code as code

abbrev moved : Stays own.ended.signature.params own.ended.kept
moved = (stay_dropped (plain (λ _. Z)) yes, tt)

pub empty_spec : {M : Type 1} → statement M
empty_spec 𝓤 𝓛 𝓜 𝓡 wired =
    let H = 𝓛.H in
    let 𝓣 = tables 𝓤 H 𝓜 𝓡 𝓡.env in
    let clauses = own.clauses 𝓛 𝓜.mem 𝓡.returns in
    let fn = code.function in
    proved_at 𝓛 own.ended moved clauses 𝓜 𝓡 (Goes-dropped 𝓛 0 (plain (λ _. Z)) yes (λ κs x w. refl), tt) own.Key.name fn
    (code.unfolded 𝓤 H 𝓜 𝓡 wired) (λ z are.
    let a = z.0.3.0 in
    let Post : Val → SProp 𝓤 = (walk_of 𝓛 own.ended moved clauses).post z in
    let Run : List Val → SProp 𝓤 = λ ws. WpFn 𝓤 H 𝓣.C 𝓣.Λ fn ws Post in
    qed 𝓛 ((‵ ftrue ⊛ ‵ (owns (types_at own.ended.signature.params z.0.0) z.0.3 z.0.4))
    ∷ raw ((clauses z.0.0 z.0.3).requires z.1) ∷ []) ∵ split ! $ drop ! $ fsplit ! $
    handle_tells al ! a z.0.4.0 (λ h ws fits.
    let word : Val = two (ptr_val null_ptr) h in
    let typed = empty_good h fits in
    suffices ! (Run (h ∷ [])) (subst (λ (us : List Val). ent 𝓤 (Run (h ∷ [])) (Run us)) (sym (λ i. ws i ++ [])) (id⊢ 𝓤 (Run (h ∷ [])))) $
    enter ! 𝓣.C 𝓣.Λ fn (h ∷ []) Post $ alloc_all ! (λ l. pass_all ! refl (fits, tt) $
    -- the body builds the result of a null pointer and the handle
    sets ! (agg ! (and_then ! (lit ! tt) (and_then ! (get ! refl) (no_more !)))) refl typed $
    -- a null pointer owns nothing
    empty_in ! h a $ use0 𝓛 (raw (fact 𝓤 (None ≡ None))) (fact_i 𝓤 (None ≡ None) (emp 𝓤) refl) $ nothing ! $ nothing ! $
    fjoin ! $ nothing ! $
    returns ! (look_at ! 0 refl) $ free_all ! refl $ keep ! (0 ∷ 1 ∷ 3 ∷ 2 ∷ []) $
    by ! (leaves 𝓛 own.ended moved clauses z word (record { at = null_ptr; heap = a; held = None }) (tt, tt) (tt, tt)))))

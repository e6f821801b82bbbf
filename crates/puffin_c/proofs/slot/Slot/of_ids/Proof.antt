-- `of` takes over what a `RawBox` owns.
use Rattle.std.proofs.Common.{◌≡◌, List, [], ◌∷◌, ◌++◌, refl, sym, subst}
use mir.Val.{Val, vptr}
use base.Logic.{SProp, ent, emp, id⊢}
use base.Fml.{ftrue}
use prog.Wp.{WpFn}
use types.Kit.{‵, raw, ◌⊛◌, ◌$◌, ◌∵◌, !, qed, by, keep, drop, split, fsplit, fjoin, suffices, use0}
use types.Run.{stop, fld, of_opd, no_more, and_then, returns, enter}
use types.ByLocal.{alloc_all, pass_all, free_all, look_at, get, get_in, sets}
use types.Part.{agg, sub, whole}
use contract.Monad.{fact, fact_i}
use contract.Running.{tables}
use denote.Exit.{yes}
use denote.RattleType.{RattleType, owns}
use denote.RawPtr.{block_ptr}
use denote.Signature.{types_at, plain}
use denote.Steps.{nothing}
use denote.Triple.Walked.{Stays, stay_dropped, walk_of, Goes-dropped}
use Rattle.core.specs.declared.option.Option.TheVariants.{Some}
use Rattle.std.proofs.raw_atomic.Walks.{proved_at, leaves}
use Rattle.std.proofs.alloc.Global.TheLaws as heap_laws
use Rattle.std.specs.contracts.impls.GlobalAllocator.TheImpl.{ghosts}
use Rattle.puffin_c.proofs.RawBoxes.{two, Raw, fits_two, opened}
use Rattle.puffin_c.proofs.Slots.{Z, slot_in}
use Rattle.puffin_c.specs.declared.held.Held.TheVariants.{Ids}
use Rattle.puffin_c.specs.contracts.shared_ids.SharedIds.{the_row as R}
use Rattle.puffin_c.specs.contracts.slot.Slot.of_ids as own
use Rattle.puffin_c.proofs.slot.Slot.of_ids.Statement.{statement}
use Rattle.puffin_c.proofs.slot.Slot.of_ids.Code as code

abbrev L : RattleType
L = Raw R Z heap_laws.the_row_laws ghosts

abbrev moved : Stays own.ended.signature.params own.ended.kept
moved = (stay_dropped (plain (λ _. L)) yes, tt)

pub of_ids_spec : {M : Type 1} → statement M
of_ids_spec 𝓤 𝓛 𝓜 𝓡 wired =
    let H = 𝓛.H in
    let 𝓣 = tables 𝓤 H 𝓜 𝓡 𝓡.env in
    let clauses = own.clauses 𝓛 𝓜.mem 𝓡.returns in
    let fn = code.function in
    proved_at 𝓛 own.ended moved clauses 𝓜 𝓡 (Goes-dropped 𝓛 0 (plain (λ _. L)) yes (λ κs x w. refl), tt) own.Key.name fn
    (code.unfolded 𝓤 H 𝓜 𝓡 wired) (λ z are.
    let given = z.0.3.0 in
    let a = given.heap in
    let x = given.value in
    let Post : Val → SProp 𝓤 = (walk_of 𝓛 own.ended moved clauses).post z in
    let Run : List Val → SProp 𝓤 = λ ws. WpFn 𝓤 H 𝓣.C 𝓣.Λ fn ws Post in
    qed 𝓛 ((‵ ftrue ⊛ ‵ (owns (types_at own.ended.signature.params z.0.0) z.0.3 z.0.4))
    ∷ raw ((clauses z.0.0 z.0.3).requires z.1) ∷ []) ∵ split ! $ drop ! $ fsplit ! $
    -- the box, as a pointer and a handle, and what it owns
    opened R Z heap_laws.the_row_laws ghosts ! given z.0.4.0 (λ b o h ws fits.
    let word : Val = two (vptr b o) h in
    let typed = fits_two R Z heap_laws.the_row_laws ghosts b o h fits in
    suffices ! (Run (word ∷ []))
    (subst (λ (us : List Val). ent 𝓤 (Run (word ∷ [])) (Run us)) (sym (λ i. ws i ++ [])) (id⊢ 𝓤 (Run (word ∷ [])))) $
    enter ! 𝓣.C 𝓣.Λ fn (word ∷ []) Post $ alloc_all ! (λ l. pass_all ! refl (typed, tt) $
    -- the body builds the result of the same two
    sets ! (of_opd ! (get_in ! (fld ! refl (stop !)) (sub ! 0 refl (whole !)))) refl (tt, tt) $
    sets ! (of_opd ! (get_in ! (fld ! refl (stop !)) (sub ! 1 refl (whole !)))) refl fits $
    sets ! (of_opd ! (get ! refl)) refl (tt, tt) $
    sets ! (agg ! (and_then ! (get ! refl) (and_then ! (get ! refl) (no_more !)))) refl typed $
    -- they own what they owned
    slot_in ! b o h a (Ids x) $ use0 𝓛 (raw (fact 𝓤 (Some x ≡ Some x))) (fact_i 𝓤 (Some x ≡ Some x) (emp 𝓤) refl) $
    nothing ! $ nothing ! $ fjoin ! $ nothing ! $
    returns ! (look_at ! 0 refl) $ free_all ! refl $ keep ! (0 ∷ 1 ∷ 3 ∷ 2 ∷ []) $
    by ! (leaves 𝓛 own.ended moved clauses z word (record { at = block_ptr b o; heap = a; held = Some (Ids x) }) (tt, tt) (tt, tt)))))

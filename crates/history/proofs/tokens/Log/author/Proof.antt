use Rattle.std.proofs.Common.{ℕ, ◌+◌, List, [], ◌∷◌, refl}
use mir.Syntax.{a_type, dcons, dnil, named}
use mir.Val.{Val, vptr}
use mir.MapTy.{inst_fn}
use base.Logic.{SProp, emp}
use base.Fml.{Fml, ftrue, fsep, flft}
use types.Kit.{‵, raw, ◌⊛◌, later, ◌$◌, ◌∵◌, !, qed, by, move, keep, split, fsplit, fsplit3, fjoin, fjoin3, use0, use1, await, feq_i}
use types.Run.{no_more, and_then, returns, enter}
use types.ByLocal.{alloc_all, pass_all, free_all, look_at, get, sets}
use types.Part.{agg}
use contract.Monad.{fact_i}
use contract.Running.{tables}
use denote.RattleType.{RattleType, owns}
use denote.Signature.{types_at, plain}
use denote.Ref.{mut_vals, mut_Tells}
use denote.Steps.{nothing, opens, closes}
use denote.Param.{param, bounded}
use denote.Struct.Tuple.{Tuple}
use denote.Triple.Walked.{Stays, stay_ref, walk_of, Goes-ref}
use Rattle.atomic_table.proofs.Walks.{proved}
use Rattle.logbook.proofs.Fields.{token, Token, token_made, ends}
use Rattle.history.specs.Owned.{log_owns, author_owns}
use Rattle.history.specs.contracts.tokens.Log as Log
use Rattle.history.proofs.Steps as steps
use Rattle.history.specs.contracts.tokens.Log.author.{ended, clauses}
use Rattle.history.specs.contracts.tokens.Log.author.Key.{name as #self}
use Rattle.history.proofs.tokens.Log.author.Statement.{statement}
use Rattle.history.proofs.tokens.Log.author.Code as code

-- When it runs, nothing is read or written but the tokens, which have no bytes. Of the ghost, the borrow of the log is opened, one author
-- more is made of what the log owns, and the borrow is closed with the new log.
pub author_spec : {M : Type 1} → statement M
author_spec 𝓤 𝓛 𝓜 𝓡 wired E L _ _ g d _ =
    let H = 𝓛.H in
    let 𝓣 = tables 𝓤 H 𝓜 𝓡 𝓡.env in
    let E' : RattleType = param 0 E in
    let L' : RattleType = param 1 L in
    let All : RattleType = Tuple (E' ∷ L' ∷ []) in
    let En = ended E L g d in
    let inst = bounded (a_type ∷ a_type ∷ []) (E, (L, tt)) (dcons d dnil) in
    let fn = inst_fn inst code.function in
    let c = clauses E L g d 𝓛 𝓜.mem 𝓡.returns in
    let cv = E'.coded in
    let A : RattleType = Log.the_row E' L' g in
    let hs : Stays En.signature.params En.kept = (stay_ref (0 ∷ []) tt (plain (λ _. A)), tt) in
    proved 𝓛 En hs c 𝓜 𝓡 (Goes-ref 𝓛 3 0 tt (plain (λ _. A)), tt) (#self inst) fn (code.unfolded 𝓤 H 𝓜 𝓡 wired (E, (L, tt)) d)
    (λ κs. (mut_vals, tt)) (λ κs. (mut_Tells (named 0) κs.0 A, tt)) (λ κs qs bounds a gh are.
    let b : ℕ = a.0.ref_ptr.0 in
    let o : ℕ = a.0.ref_ptr.1 in
    let log : A.Denot = a.0.now in
    let log' : A.Denot = record { marker = log.marker; authors = log.authors + 1; entries = log.entries } in
    let y : (walk_of 𝓛 En hs c).Ghost = ((κs, qs, bounds, a, (vptr b o ∷ [], tt)), gh) in
    let Post : Val → SProp 𝓤 = (walk_of 𝓛 En hs c).post y in
    let toks : Fml = fsep (flft κs.0 qs.0) (fsep (flft κs.1.0 qs.1.0) (fsep (flft κs.1.1.0 qs.1.1.0) ftrue)) in
    qed 𝓛 ((‵ toks ⊛ ‵ (owns (types_at En.signature.params κs) a y.0.4)) ∷ raw ((c κs a).requires gh) ∷ []) ∵
    keep ! (0 ∷ []) $ split ! $ fsplit ! $ move ! (2 ∷ []) $ fsplit ! $ fsplit3 ! $ keep ! (1 ∷ 2 ∷ 4 ∷ 5 ∷ []) $
    enter ! 𝓣.C 𝓣.Λ fn (vptr b o ∷ []) Post $ alloc_all ! (λ l. pass_all ! refl ((tt, tt), tt) $
    opens ! tt A b o (λ cs. move ! (1 ∷ []) $ fsplit ! $ move ! (1 ∷ []) $
    use1 𝓛 (later (‵ (log_owns cv.code g.history (log.authors + 1) log.entries)
    ⊛ ‵ (author_owns cv.code g.history log.authors [] log.entries)))
    (steps.authors 𝓛 cv g.history log.authors log.entries) $ await ! tt $ split ! $
    move ! (2 ∷ 0 ∷ []) $ fjoin ! $ move ! (2 ∷ 0 ∷ 3 ∷ 4 ∷ 5 ∷ []) $ closes ! tt A log' cs b o $
    sets ! (agg ! (no_more !)) refl (tt, tt) $ sets ! (agg ! (and_then ! (get ! refl) (no_more !))) refl (tt, (tt, tt)) $
    returns ! (look_at ! 0 refl) $ free_all ! refl $
    feq_i ! (List Val) (vptr b o ∷ []) (vptr b o ∷ []) refl $ fjoin3 ! $ nothing ! $ move ! (1 ∷ 0 ∷ []) $ fjoin ! $
    move ! (2 ∷ []) $ use0 𝓛 (‵ ((Token All).own_val (record {}, tt) (token ∷ []))) (token_made All 𝓛) $ fjoin ! $
    move ! (2 ∷ 3 ∷ []) $ fjoin ! $ keep ! (0 ∷ 2 ∷ 1 ∷ []) $
    by ! (ends 𝓛 En hs c y (token) (record { marker = record {}; number = log.authors; own = []; seen = log.entries })
    (log', tt) (tt, tt)
    (steps.both 𝓛 _ _ (fact_i 𝓤 _ (emp 𝓤) (refl, refl)) (fact_i 𝓤 _ (emp 𝓤) (refl, refl, refl)))))))

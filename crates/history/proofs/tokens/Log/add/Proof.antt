use Rattle.std.proofs.Common.{ℕ, List, [], ◌∷◌, ◌++◌, refl}
use mir.Syntax.{a_type, dcons, dnil, named}
use mir.Val.{Val, vunit, vptr}
use mir.MapTy.{inst_fn}
use base.Logic.{SProp, emp}
use base.Fml.{Fml, ftrue, fsep, flft}
use types.Kit.{‵, raw, ◌⊛◌, given, later, ◌$◌, ◌∵◌, !, qed, by, move, keep, split, fsplit, fsplit3, fjoin, fjoin3, learn, use2, await, feq_i}
use types.Run.{unit_lit, of_opd, returns, enter}
use types.ByLocal.{alloc_all, pass_all, free_all, look_at, sets}
use contract.Monad.{fact_i}
use contract.Running.{tables}
use denote.Exit.{yes}
use denote.RattleType.{RattleType, owns}
use denote.Signature.{types_at, plain}
use denote.Builtin.{RefOf}
use denote.Ref.{mut_vals, mut_Tells, shr_vals, shr_Tells}
use denote.Steps.{nothing, opens, closes}
use denote.Param.{param, bounded}
use denote.Triple.Walked.{Stays, stay_dropped, stay_ref, walk_of, Goes-dropped, Goes-ref}
use Rattle.atomic_table.proofs.Walks.{proved}
use Rattle.logbook.proofs.Fields.{ends}
use Rattle.history.specs.Owned.{log_owns, author_owns}
use Rattle.history.specs.contracts.tokens.Log as Log
use Rattle.history.specs.contracts.tokens.Author as Author
use Rattle.history.proofs.Splits.{under}
use Rattle.history.proofs.Steps as steps
use Rattle.history.specs.contracts.tokens.Log.add.{ended, clauses}
use Rattle.history.specs.contracts.tokens.Log.add.Key.{name as #self}
use Rattle.history.proofs.tokens.Log.add.Statement.{statement}
use Rattle.history.proofs.tokens.Log.add.Code as code

-- When it runs, nothing is read or written. Of the ghost, the borrows of the log and of the author are opened, both grow by the entry,
-- which also tells what the author knows of the log before, and both borrows are closed with what grew.
pub add_spec : {M : Type 1} → statement M
add_spec 𝓤 𝓛 𝓜 𝓡 wired E L X N _ _ _ _ n d' g d _ _ =
    let H = 𝓛.H in
    let 𝓣 = tables 𝓤 H 𝓜 𝓡 𝓡.env in
    let E' : RattleType = param 0 E in
    let L' : RattleType = param 1 L in
    let X' : RattleType = param 2 X in
    let N' : RattleType = param 3 N in
    let En = ended E L X N n d' g d in
    let inst = bounded (a_type ∷ a_type ∷ a_type ∷ a_type ∷ []) (E, (L, (X, (N, tt)))) (dcons d' (dcons d dnil)) in
    let fn = inst_fn inst code.function in
    let c = clauses E L X N n d' g d 𝓛 𝓜.mem 𝓡.returns in
    let cv = E'.coded in
    let A : RattleType = Log.the_row E' L' n in
    let B : RattleType = Author.the_row E' L' n in
    let AboutRef = RefOf (2 ∷ []) tt (plain (λ _. X')) (λ _. tt) in
    let hs : Stays En.signature.params En.kept =
    (stay_ref (0 ∷ []) tt (plain (λ _. A)), (stay_ref (1 ∷ []) tt (plain (λ _. B)), (stay_dropped AboutRef yes, tt))) in
    proved 𝓛 En hs c 𝓜 𝓡
    (Goes-ref 𝓛 7 0 tt (plain (λ _. A)), (Goes-ref 𝓛 7 1 tt (plain (λ _. B)), (Goes-dropped 𝓛 7 AboutRef yes (λ κs x f. refl), tt)))
    (#self inst) fn (code.unfolded 𝓤 H 𝓜 𝓡 wired (E, (L, (X, (N, tt)))) d' d)
    (λ κs. (mut_vals, (mut_vals, (shr_vals, tt))))
    (λ κs. (mut_Tells (named 0) κs.0 A, (mut_Tells (named 1) κs.1.0 B, (shr_Tells (named 2) κs.1.1.0 X', tt))))
    (λ κs qs bounds a gh are.
    let r = a.0 in
    let s = a.1.0 in
    let x = a.1.1.0.now in
    let log : A.Denot = r.now in
    let author : B.Denot = s.now in
    let u : Val = vptr r.ref_ptr.0 r.ref_ptr.1 in
    let v : Val = vptr s.ref_ptr.0 s.ref_ptr.1 in
    let w : Val = vptr a.1.1.0.ref_ptr.0 a.1.1.0.ref_ptr.1 in
    let more : List E.Denot = g.entry x ∷ [] in
    let entries' : List (ℕ × E.Denot) = log.entries ++ under author.number more in
    let log' : A.Denot = record { marker = log.marker; authors = log.authors; entries = entries' } in
    let author' : B.Denot =
    record { marker = author.marker; number = author.number; own = author.own ++ more; seen = entries' } in
    let Learnt : Type 0 = steps.Learnt 𝓛 cv n.history log.authors author.number log.entries author.own author.seen in
    let y : (walk_of 𝓛 En hs c).Ghost = ((κs, qs, bounds, a, (u ∷ [], (v ∷ [], (w ∷ [], tt)))), gh) in
    let Post : Val → SProp 𝓤 = (walk_of 𝓛 En hs c).post y in
    let toks : Fml = fsep (flft κs.0 qs.0) (fsep (flft κs.1.0 qs.1.0) (fsep (flft κs.1.1.0 qs.1.1.0)
    (fsep (flft κs.1.1.1.0 qs.1.1.1.0) (fsep (flft κs.1.1.1.1.0 qs.1.1.1.1.0)
    (fsep (flft κs.1.1.1.1.1.0 qs.1.1.1.1.1.0) (fsep (flft κs.1.1.1.1.1.1.0 qs.1.1.1.1.1.1.0) ftrue)))))) in
    qed 𝓛 ((‵ toks ⊛ ‵ (owns (types_at En.signature.params κs) a y.0.4)) ∷ raw ((c κs a).requires gh) ∷ []) ∵
    keep ! (0 ∷ []) $ split ! $
    fsplit ! $ move ! (1 ∷ []) $ fsplit ! $ move ! (3 ∷ []) $ fsplit ! $ fsplit3 ! $ move ! (3 ∷ []) $ fsplit ! $ fsplit3 ! $
    keep ! (5 ∷ 6 ∷ 9 ∷ 1 ∷ 2 ∷ 7 ∷ 8 ∷ []) $
    enter ! 𝓣.C 𝓣.Λ fn (u ∷ v ∷ w ∷ []) Post $ alloc_all ! (λ l. pass_all ! refl ((tt, tt), ((tt, tt), ((tt, tt), tt))) $
    opens ! tt A r.ref_ptr.0 r.ref_ptr.1 (λ cs. move ! (5 ∷ 6 ∷ 7 ∷ []) $
    opens ! tt B s.ref_ptr.0 s.ref_ptr.1 (λ ds. move ! (1 ∷ []) $ fsplit ! $ move ! (7 ∷ []) $ fsplit ! $ move ! (3 ∷ []) $
    move ! (2 ∷ 0 ∷ []) $
    use2 𝓛 (later (given Learnt (‵ (log_owns cv.code n.history log.authors entries')
    ⊛ ‵ (author_owns cv.code n.history author.number author'.own entries'))))
    (steps.adds 𝓛 cv n.history log.authors author.number log.entries author.seen author.own more) $
    await ! tt $ learn ! (λ seen. split ! $ move ! (2 ∷ 0 ∷ []) $ fjoin ! $ move ! (2 ∷ 1 ∷ []) $ fjoin ! $
    move ! (2 ∷ 0 ∷ 3 ∷ 4 ∷ 5 ∷ []) $ closes ! tt B author' ds s.ref_ptr.0 s.ref_ptr.1 $
    move ! (4 ∷ 3 ∷ 5 ∷ 6 ∷ 7 ∷ []) $ closes ! tt A log' cs r.ref_ptr.0 r.ref_ptr.1 $
    sets ! (of_opd ! (unit_lit !)) refl (tt, tt) $ returns ! (look_at ! 0 refl) $ free_all ! refl $
    feq_i ! (List Val) (u ∷ []) (u ∷ []) refl $ fjoin3 ! $ move ! (2 ∷ 3 ∷ []) $
    feq_i ! (List Val) (v ∷ []) (v ∷ []) refl $ fjoin3 ! $ nothing ! $ nothing ! $ fjoin ! $
    move ! (1 ∷ 0 ∷ []) $ fjoin ! $ move ! (1 ∷ 0 ∷ []) $ fjoin ! $
    feq_i ! (List Val) (vunit ∷ []) (vunit ∷ []) refl $ move ! (3 ∷ 4 ∷ []) $ fjoin ! $ move ! (3 ∷ 0 ∷ []) $ fjoin ! $
    keep ! (0 ∷ 2 ∷ 1 ∷ []) $
    by ! (ends 𝓛 En hs c y (vunit) (tt) (log', (author', (tt, tt))) (tt, (tt, (tt, tt)))
    (steps.both 𝓛 _ _ (fact_i 𝓤 _ (emp 𝓤) (refl, refl)) (steps.both 𝓛 _ _ (fact_i 𝓤 _ (emp 𝓤) (refl, refl, refl))
    (steps.both 𝓛 _ _ (fact_i 𝓤 _ (emp 𝓤) seen.2) (steps.both 𝓛 _ _ (fact_i 𝓤 _ (emp 𝓤) seen.3)
    (fact_i 𝓤 _ (emp 𝓤) (seen.0, seen.1))))))))))))

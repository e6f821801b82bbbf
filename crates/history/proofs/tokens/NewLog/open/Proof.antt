use Rattle.std.proofs.Common.{◌≡◌, ℕ, [], ◌∷◌, refl, subst}
use mir.Syntax.{a_type, dcons, dnil}
use mir.Val.{Val}
use mir.MapTy.{inst_fn}
use base.Logic.{SProp, emp, id⊢}
use base.Fml.{Fml, ftrue, fsep, flft}
use types.Logic.{sem}
use types.Kit.{‵, raw, ◌⊛◌, given, ◌$◌, ◌∵◌, !, qed, by, move, keep, drop, split, fsplit, fjoin, learn, use0, use1}
use types.Run.{no_more, and_then, returns, enter}
use types.ByLocal.{alloc_all, pass_all, free_all, look_at, get, sets}
use types.Part.{agg}
use contract.Monad.{fact, fact_i}
use contract.Running.{tables}
use denote.Exit.{no}
use denote.RattleType.{RattleType, owns}
use denote.Signature.{types_at, plain}
use denote.Steps.{nothing}
use denote.Param.{param, bounded}
use denote.Struct.Tuple.{Tuple}
use denote.Triple.Walked.{Stays, stay_dropped, walk_of, Goes-dropped}
use Rattle.atomic_table.proofs.Walks.{proved}
use Rattle.logbook.proofs.Fields.{token, Token, token_told, token_made, ends}
use Rattle.history.specs.Owned.{log_owns}
use Rattle.history.specs.contracts.tokens.NewLog as NewLog
use Rattle.history.specs.contracts.tokens.NewLog.open.{ended, clauses}
use Rattle.history.specs.contracts.tokens.NewLog.open.Key.{name as #self}
use Rattle.history.proofs.tokens.NewLog.open.Statement.{statement}
use Rattle.history.proofs.tokens.NewLog.open.Code as code

-- When it runs, nothing is read or written but the tokens, which have no bytes. Of the ghost, the new log's name is that of the
-- history, so what the new log owns is what the log is to own.
pub open_spec : {M : Type 1} → statement M
open_spec 𝓤 𝓛 𝓜 𝓡 wired E L _ _ g d _ =
    let H = 𝓛.H in
    let 𝓣 = tables 𝓤 H 𝓜 𝓡 𝓡.env in
    let E' : RattleType = param 0 E in
    let L' : RattleType = param 1 L in
    let En = ended E L g d in
    let inst = bounded (a_type ∷ a_type ∷ []) (E, (L, tt)) (dcons d dnil) in
    let fn = inst_fn inst code.function in
    let c = clauses E L g d 𝓛 𝓜.mem 𝓡.returns in
    let cv = E'.coded in
    let A : RattleType = NewLog.the_row E' in
    let hs : Stays En.signature.params En.kept = (stay_dropped (plain (λ _. A)) no, tt) in
    proved 𝓛 En hs c 𝓜 𝓡 (Goes-dropped 𝓛 2 (plain (λ _. A)) no (λ κs x f. refl), tt) (#self inst) fn
    (code.unfolded 𝓤 H 𝓜 𝓡 wired (E, (L, tt)) d)
    (λ κs. ((λ x. token ∷ []), tt)) (λ κs. ((λ x vs is. token_told E' vs is.0), tt)) (λ κs qs bounds a gh are.
    let up = a.0 in
    let All : RattleType = Tuple (E' ∷ L' ∷ []) in
    let y : (walk_of 𝓛 En hs c).Ghost = ((κs, qs, bounds, a, (token ∷ [], tt)), gh) in
    let Post : Val → SProp 𝓤 = (walk_of 𝓛 En hs c).post y in
    let toks : Fml = fsep (flft κs.0 qs.0) (fsep (flft κs.1.0 qs.1.0) ftrue) in
    let Owned : ℕ × ℕ → SProp 𝓤 = λ name. sem 𝓛 (log_owns cv.code name 0 []) in
    qed 𝓛 ((‵ toks ⊛ ‵ (owns (types_at En.signature.params κs) a y.0.4)) ∷ raw (fact 𝓤 _) ∷ raw (fact 𝓤 _)
    ∷ given (up.name ≡ g.history) (‵ ftrue) ∷ []) ∵
    keep ! (3 ∷ 0 ∷ []) $ learn ! (λ asked. drop ! $ split ! $
    move ! (1 ∷ []) $ fsplit ! $ fsplit ! $ keep ! (1 ∷ 3 ∷ []) $
    enter ! 𝓣.C 𝓣.Λ fn (token ∷ []) Post $ alloc_all ! (λ l. pass_all ! refl ((tt, (tt, tt)), tt) $
    use1 𝓛 (‵ (log_owns cv.code g.history 0 []))
    (subst (λ (name : ℕ × ℕ). base.Logic.ent 𝓤 (Owned up.name) (Owned name)) asked (id⊢ 𝓤 _)) $
    use0 𝓛 (‵ ((Token All).own_val (record {}, tt) (token ∷ []))) (token_made All 𝓛) $ fjoin ! $
    sets ! (agg ! (no_more !)) refl (tt, tt) $ sets ! (agg ! (and_then ! (get ! refl) (no_more !))) refl (tt, (tt, tt)) $
    nothing ! $ nothing ! $ fjoin ! $
    returns ! (look_at ! 0 refl) $ free_all ! refl $ keep ! (2 ∷ 0 ∷ 1 ∷ []) $
    by ! (ends 𝓛 En hs c y (token) (record { marker = record {}; authors = 0; entries = [] }) (tt, tt) (tt, tt)
    (fact_i 𝓤 _ (emp 𝓤) (refl, refl))))))

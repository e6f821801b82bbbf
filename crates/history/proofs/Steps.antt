-- The ghost side of each call, and which tokens cross threads. Assumes `Logic`.
--
-- The log holds a quarter of each author's list, and the author the rest: together they may change it, and alone each knows it. Of the
-- entries the log holds the latest value, which only grows, and an author that it is at least what it saw.
use Rattle.std.proofs.Common.{◌≡◌, ℕ, suc, ◌+◌, ◌<◌, List, [], ◌∷◌, ◌++◌, length, map, set, refl, arith}
use mathlib.Core.List.{IsPrefix}
use mathlib.Core.Option.{some as some'}
use lib.ListN.{get_elem?}
use seplogic.Ra.Ura.{Ura}
use base.Fraction.{full_share}
use base.Share.{quarter, three_quarters}
use base.Stored.{Gv, Coded, coded×, coded_ℕ, coded_list, code_l}
use base.Logic.{SProp, ent, sep, ex, all, guard, upd, emp, via, upd_i, all_e}
use base.Fml.{Fml, ftrue}
use base.Growing.{latest, at_least}
use base.Shift.{Keyless}
use types.Logic.{Logic, sem}
use types.Owned.{basic}
use types.Keyed.{entries_new, entries_take, entry_keyless, entries_keyless}
use types.Growing.{latest_new, latest_grows, latest_shows, latest_bounds}
use types.Kit.{‵, raw, ◌⊛◌, some, given, later, ◌$◌, ◌∵◌, !, qed, move, drop, split, join, fsplit, fsplit3, fjoin, fjoin3, fpick, fpack, pick, learn, show, check, rewrite, suffices, settle, done, updating, now, await, use0, use1, use2}
use denote.Steps.{nothing}
use Rattle.atomic_table.specs.Seated.{halved, seen, unused, roster}
use Rattle.atomic_table.proofs.Roster.{resets, moves, Moved}
use Rattle.logbook.proofs.Roster.{prefix_out, prefix_in}
use Rattle.history.specs.Entries.{entries_by, HasAuthors}
use Rattle.history.specs.Owned.{logs, IsSplit, numbered_code, log_with_lists, log_owns, author_owns}
use Rattle.history.proofs.Splits.{under, split_grows, one_more, none_yet, in_reach}

module _ {M : Type 1} {𝓤 : Ura M} (𝓛 : Logic 𝓤) where
  open 𝓛 use {H}

  -- what is claimed of a state
  abbrev Pr : Type 2
  Pr = SProp 𝓤

  abbrev ⟦◌⟧ : Fml → Pr
  ⟦ P ⟧ = sem 𝓛 P

  -- two facts, one beside the other
  pub both : (P Q : Pr) → ent 𝓤 (emp 𝓤) P → ent 𝓤 (emp 𝓤) Q → ent 𝓤 (emp 𝓤) (sep 𝓤 P Q)
  both P Q p q = qed 𝓛 [] ∵ use0 𝓛 (raw Q) q $ use0 𝓛 (raw P) p $ join ! $ done !

  module _ {V : Type 0} (coded : Coded V) (γ : ℕ) where
    -- the log's part of a list, and the author's
    abbrev log_part : ℕ → V → Fml
    log_part k list = seen coded.code γ k quarter list

    abbrev own_part : ℕ → V → Fml
    own_part k list = seen coded.code γ k three_quarters list

    -- A new list, under the next number: past the lists that are there, the roster has unused numbers, of which the first is taken.
    joins_at : (lists : List V) (k j : ℕ) (new : V) → k + length lists ≡ j
        → ent 𝓤 ⟦ roster coded.code γ k lists ⟧ (upd 𝓤 (sep 𝓤 ⟦ roster coded.code γ k (lists ++ new ∷ []) ⟧ ⟦ own_part j new ⟧))
    joins_at [] k j new e =
        let is : k ≡ j = omega arith in
        let Joined : Pr = sep 𝓤 ⟦ roster coded.code γ k (new ∷ []) ⟧ ⟦ own_part j new ⟧ in
        qed 𝓛 (‵ (roster coded.code γ k []) ∷ []) ∵ fpick ! (λ old.
        use1 𝓛 (‵ (seen coded.code γ k full_share old) ⊛ ‵ (unused coded.code γ (suc k) old))
        (entries_take halved 𝓛 γ k (λ _. (full_share, coded.code old))) $ split ! $
        use1 𝓛 (raw (upd 𝓤 (sep 𝓤 ⟦ log_part k new ⟧ ⟦ own_part k new ⟧))) (resets 𝓛 coded γ k old new) $
        settle 𝓛 Joined (‵ (log_part k new) ⊛ ‵ (own_part k new)) $ split ! $ suffices ! _ (upd_i 𝓤 Joined) $
        rewrite ! 1 (λ (m : ℕ). ‵ (own_part m new)) is refl $ move ! (2 ∷ []) $
        fpack ! V (unused coded.code γ (suc k)) old $ move ! (1 ∷ 0 ∷ []) $ join ! $ done !)
    joins_at (first ∷ rest) k j new e =
        let Joined : Pr = sep 𝓤 ⟦ roster coded.code γ k (first ∷ rest ++ new ∷ []) ⟧ ⟦ own_part j new ⟧ in
        qed 𝓛 (‵ (log_part k first) ∷ ‵ (roster coded.code γ (suc k) rest) ∷ []) ∵ move ! (1 ∷ []) $
        use1 𝓛 (raw (upd 𝓤 (sep 𝓤 ⟦ roster coded.code γ (suc k) (rest ++ new ∷ []) ⟧ ⟦ own_part j new ⟧)))
        (joins_at rest (suc k) j new (omega arith)) $
        settle 𝓛 Joined (‵ (roster coded.code γ (suc k) (rest ++ new ∷ [])) ⊛ ‵ (own_part j new)) $ split ! $
        suffices ! _ (upd_i 𝓤 Joined) $ move ! (2 ∷ 0 ∷ []) $ join ! $ done !

  module _ {E : Type 0} (coded : Coded E) (name : ℕ × ℕ) where
    -- the codes of a log's elements, and of authors' lists
    abbrev numbered : Coded (ℕ × E)
    numbered = coded× coded_ℕ coded

    abbrev listed : Coded (List E)
    listed = coded_list coded

    -- the log's entries, and that they are at least these
    abbrev top : List (ℕ × E) → Fml
    top log = latest logs full_share name.0 (map (numbered_code coded.code) log)

    abbrev had : List (ℕ × E) → Fml
    had log = at_least logs name.0 (map (numbered_code coded.code) log)

    -- an author's part of its list, and the log's parts of all lists
    abbrev own_list : ℕ → List E → Fml
    own_list k own = seen (code_l coded.code) name.1 k three_quarters own

    abbrev all_lists : List (List E) → Fml
    all_lists lists = roster (code_l coded.code) name.1 0 lists

    -- an author sees all entries
    shown : (log : List (ℕ × E)) → ent 𝓤 ⟦ top log ⟧ (sep 𝓤 ⟦ top log ⟧ ⟦ had log ⟧)
    shown log = latest_shows logs 𝓛 full_share name.0 (map numbered.code log) (map numbered.code log)
        (logs.same (map numbered.code log))

    -- what an author saw is a prefix of the log
    under_top : (log so_far : List (ℕ × E))
        → ent 𝓤 (sep 𝓤 ⟦ top log ⟧ ⟦ had so_far ⟧) (guard 𝓤 (IsPrefix so_far log) (sep 𝓤 ⟦ top log ⟧ ⟦ had so_far ⟧))
    under_top log so_far =
        qed 𝓛 (‵ (top log) ∷ ‵ (had so_far) ∷ []) ∵
        use2 𝓛 (given (IsPrefix (map numbered.code so_far) (map numbered.code log)) (‵ (top log) ⊛ ‵ (had so_far)))
        (latest_bounds logs 𝓛 full_share name.0 (map numbered.code log) (map numbered.code so_far)) $
        learn ! (λ prefix. check ! (prefix_out numbered so_far log prefix) $ done !)

    -- what an author learns of the log before its call: `k` is its number, `own` its entries, and `so_far` what it had seen
    abbrev pub Learnt : (n k : ℕ) → (log : List (ℕ × E)) → (own : List E) → (so_far : List (ℕ × E)) → Type 0
    Learnt n k log own so_far = (k < n) × HasAuthors n log × (own ≡ entries_by k log) × IsPrefix so_far log

    -- An author adds entries. Log and author are taken apart, what they know of each other is learnt, then the author's list and the log
    -- grow, and both are put together again.
    pub adds : (n k : ℕ) (log so_far : List (ℕ × E)) (own es : List E)
        → ent 𝓤 (sep 𝓤 ⟦ log_owns coded.code name n log ⟧ ⟦ author_owns coded.code name k own so_far ⟧)
        (H.⇛ (guard 𝓤 (Learnt n k log own so_far) (sep 𝓤 ⟦ log_owns coded.code name n (log ++ under k es) ⟧
        ⟦ author_owns coded.code name k (own ++ es) (log ++ under k es) ⟧)))
    adds n k log so_far own es =
        let log' : List (ℕ × E) = log ++ under k es in
        let own' : List E = own ++ es in
        qed 𝓛 (‵ (log_owns coded.code name n log) ∷ ‵ (author_owns coded.code name k own so_far) ∷ []) ∵ updating ! $
        fpick ! (λ lists. fsplit3 ! $ move ! (2 ∷ []) $ fpick ! (λ is. drop ! $ move ! (2 ∷ []) $ fsplit ! $ move ! (3 ∷ 0 ∷ []) $
        use2 𝓛 (given (IsPrefix so_far log) (‵ (top log) ⊛ ‵ (had so_far))) (under_top log so_far) $
        learn ! (λ prefix. split ! $ move ! (1 ∷ []) $ drop ! $ move ! (2 ∷ 1 ∷ []) $
        use2 𝓛 (given (get_elem? lists k ≡ some' own) (raw (all 𝓤 (Moved 𝓛 listed name.1 0 lists k k))))
        (moves 𝓛 listed name.1 lists 0 k k own (omega arith)) $
        learn ! (λ at.
        let lists' : List (List E) = set lists k own' in
        use1 𝓛 (later (‵ (all_lists lists') ⊛ ‵ (own_list k own')))
        (via 𝓤 _ (all_e 𝓤 (Moved 𝓛 listed name.1 0 lists k k) own') (basic 𝓛 (sep 𝓤 ⟦ all_lists lists' ⟧ ⟦ own_list k own' ⟧))) $
        await ! tt $ split ! $ move ! (2 ∷ []) $
        use1 𝓛 (later (‵ (top log')))
        (via 𝓤 _ (latest_grows logs 𝓛 name.0 (map numbered.code log) (map numbered.code log') (prefix_in numbered log (under k es)))
        (basic 𝓛 ⟦ top log' ⟧)) $
        await ! tt $ use1 𝓛 (‵ (top log') ⊛ ‵ (had log')) (shown log') $ split ! $ nothing ! $
        fpack ! (IsSplit n lists' log') (λ _. ftrue) (split_grows n k lists log own es is at) $
        move ! (3 ∷ 1 ∷ 0 ∷ []) $ fjoin3 ! $ fpack ! (List (List E)) (log_with_lists coded.code name n log') lists' $
        move ! (1 ∷ 2 ∷ []) $ fjoin ! $
        now ! $ check ! ((let less = in_reach lists k own at in let long = is.count in omega arith), is.below, is.split k own at, prefix) $
        move ! (1 ∷ 0 ∷ []) $ done !))))

    -- a log makes one author more, that has no entries and sees all
    pub authors : (n : ℕ) (log : List (ℕ × E))
        → ent 𝓤 ⟦ log_owns coded.code name n log ⟧
        (H.⇛ (sep 𝓤 ⟦ log_owns coded.code name (n + 1) log ⟧ ⟦ author_owns coded.code name n [] log ⟧))
    authors n log =
        qed 𝓛 (‵ (log_owns coded.code name n log) ∷ []) ∵ updating ! $
        fpick ! (λ lists. fsplit3 ! $ move ! (2 ∷ []) $ fpick ! (λ is. drop ! $
        let lists' : List (List E) = lists ++ [] ∷ [] in
        use1 𝓛 (later (‵ (all_lists lists') ⊛ ‵ (own_list n [])))
        (via 𝓤 _ (joins_at listed name.1 lists 0 n [] (let long = is.count in omega arith))
        (basic 𝓛 (sep 𝓤 ⟦ all_lists lists' ⟧ ⟦ own_list n [] ⟧))) $
        await ! tt $ split ! $ move ! (2 ∷ []) $ use1 𝓛 (‵ (top log) ⊛ ‵ (had log)) (shown log) $ split ! $ nothing ! $
        fpack ! (IsSplit (n + 1) lists' log) (λ _. ftrue) (one_more n lists log is) $
        move ! (3 ∷ 1 ∷ 0 ∷ []) $ fjoin3 ! $ fpack ! (List (List E)) (log_with_lists coded.code name (n + 1) log) lists' $
        move ! (1 ∷ 2 ∷ []) $ fjoin ! $
        now ! $ move ! (1 ∷ 0 ∷ []) $ done !))

  module _ {E : Type 0} (coded : Coded E) where
    -- a history begins, under names that nothing has yet
    pub begins : ent 𝓤 (emp 𝓤) (H.⇛ (ex 𝓤 (λ (name : ℕ × ℕ). ⟦ log_owns coded.code name 0 [] ⟧)))
    begins =
        qed 𝓛 [] ∵ updating ! $
        use0 𝓛 (later (some (λ (η : ℕ). ‵ (latest logs full_share η [])))) (via 𝓤 _ (latest_new logs 𝓛 []) (basic 𝓛 _)) $
        await ! tt $ pick ! (λ η.
        use0 𝓛 (later (some (λ (δ : ℕ). ‵ (unused (code_l coded.code) δ 0 []))))
        (via 𝓤 _ (entries_new halved 𝓛 0 (λ _. (full_share, code_l coded.code [])))
        (basic 𝓛 (ex 𝓤 (λ (δ : ℕ). ⟦ unused (code_l coded.code) δ 0 [] ⟧)))) $
        await ! tt $ pick ! (λ δ.
        fpack ! (List E) (unused (code_l coded.code) δ 0) [] $ nothing ! $
        fpack ! (IsSplit 0 [] []) (λ _. ftrue) (none_yet {E = E}) $ move ! (1 ∷ 2 ∷ 0 ∷ []) $ fjoin3 ! $
        fpack ! (List (List E)) (log_with_lists coded.code (η, δ) 0 []) [] $
        now ! $ show ! (λ (name : ℕ × ℕ). ⟦ log_owns coded.code name 0 [] ⟧) (η, δ) $ done !))

-- ---- threads

-- what the tokens own may be sent to another thread
module _ {E : Type 0} (code : E → Gv) where
  -- the log's parts of all lists
  roster_keyless : {V : Type 0} (value_code : V → Gv) (γ k : ℕ) (lists : List V) → Keyless (roster value_code γ k lists)
  roster_keyless value_code γ k [] = λ list. entries_keyless halved γ k (λ _. (full_share, value_code list))
  roster_keyless value_code γ k (first ∷ rest) = (entry_keyless halved γ k _, roster_keyless value_code γ (suc k) rest)

  pub log_keyless : (name : ℕ × ℕ) (n : ℕ) (log : List (ℕ × E)) → Keyless (log_owns code name n log)
  unfolding latest
  log_keyless name n log = λ lists. (roster_keyless (code_l code) name.1 0 lists, (tt, λ _. tt))

  pub author_keyless : (name : ℕ × ℕ) (k : ℕ) (own : List E) (so_far : List (ℕ × E)) → Keyless (author_owns code name k own so_far)
  unfolding at_least
  author_keyless name k own so_far = (tt, entry_keyless halved name.1 k _)

-- The frames show what the threads did.
use Rattle.std.proofs.Common.{◌≡◌, ◌≢◌, ℕ, zero, suc, ◌<◌, ◌≤◌, ◌^◌, Bool, true, false, List, [], ◌∷◌}
use Rattle.std.proofs.Common.{◌++◌, Option, Some, length, map, get_or, if◌then◌else◌, refl, ap, sym, subst, ◌∙◌, arith}
use mathlib.Core.Logic.{∥∥₁_map}
use Rattle.std.specs.Prelude.{slice_get, count_by, cond}
use Rattle.std.specs.Str.{bytes_eq}
use Rattle.std.proofs.lemmas.List.Concat.{flat_map-append}
use Rattle.std.proofs.lemmas.List.Sums.{sum_by-cons}
use Rattle.std.proofs.lemmas.Slice.Eq.{bytes_eq-Decides}
use Rattle.std.specs.List.{All, Contains}
use Rattle.std.proofs.lemmas.List.Elements.{All-cons, All-nil}
use Rattle.std.proofs.lemmas.Option.{slice_get_within, slice_get-get_or}
use Rattle.puffin_data.specs.declared.data.form.Form.TheVariants.{Short}
use Rattle.puffin_data.specs.Forest.{Forest, append}
use Rattle.puffin_data.specs.Forest.Spelling.{spelling}
use Rattle.puffin_data.specs.Honesty.{StreamFacts}
use Rattle.puffin_data.proofs.lemmas.Unique.{same_forest}
use Rattle.puffin_threads.specs.Thread.ThreadKey.{ThreadKey, has_same_key}
use Rattle.puffin_threads.proofs.lemmas.ThreadKeys.{has_same_key-one, has_same_key-itself}
use Rattle.puffin.specs.Code.{Code, AreScopesOf}
use Rattle.puffin.specs.Happenings.{Happening, reported, framed, marked, unmarked, frame_of, frames_in, report_under, reports_under}
use Rattle.puffin.specs.Leaving.{accounts_of}
use Rattle.puffin.specs.Members.{Member, account_of}
use Rattle.puffin.specs.Recounted.{SpellInTurn}
use Rattle.puffin.specs.Telling.{AllFit, HasRun}
use Rattle.puffin.specs.Shown.{ShowsCode, IsAlone, FramesShow}
use Rattle.puffin.proofs.TellingShares.{none_in}

-- ---- reports under one key

pub under_itself : (i : ThreadKey) (rs : List StreamFacts) → reports_under i (map (reported i) rs) ≡ rs
under_itself i [] = refl
under_itself i (r ∷ rs) = ap (λ (b : Bool). (if b then r ∷ [] else []) ++ reports_under i (map (reported i) rs))
    (has_same_key-itself i) ∙ ap (λ (xs : List StreamFacts). r ∷ xs) (under_itself i rs)

pub under_others : (i j : ThreadKey) → j.name ≢ i.name → (rs : List StreamFacts) → reports_under j (map (reported i) rs) ≡ []
under_others i j apart [] = refl
under_others i j apart (r ∷ rs) = unlike (has_same_key j i) refl (under_others i j apart rs)
  where
    unlike : (b : Bool) → has_same_key j i ≡ b → reports_under j (map (reported i) rs) ≡ []
        → (if has_same_key j i then r ∷ [] else []) ++ reports_under j (map (reported i) rs) ≡ []
    unlike true is none = absurd (apart (ap (λ (k : ThreadKey). k.name) (has_same_key-one j i is)))
    unlike false is none = ap (λ (b : Bool). (if b then r ∷ [] else []) ++ reports_under j (map (reported i) rs)) is ∙ none

pub no_frames : (i : ThreadKey) (rs : List StreamFacts) → frames_in (map (reported i) rs) ≡ []
no_frames i [] = refl
no_frames i (r ∷ rs) = no_frames i rs

-- ---- reports and frames without marks

under_unmarked : (i : ThreadKey) (happenings : List Happening) → reports_under i (unmarked happenings) ≡ reports_under i happenings
under_unmarked i [] = refl
under_unmarked i (reported j r ∷ happenings) =
    ap (λ (rs : List StreamFacts). report_under i (reported j r) ++ rs) (under_unmarked i happenings)
under_unmarked i (framed streams ∷ happenings) = under_unmarked i happenings
under_unmarked i (marked mark ∷ happenings) = under_unmarked i happenings

frames_unmarked : (happenings : List Happening) → frames_in (unmarked happenings) ≡ frames_in happenings
frames_unmarked [] = refl
frames_unmarked (reported j r ∷ happenings) = frames_unmarked happenings
frames_unmarked (framed streams ∷ happenings) = ap (λ fs. streams ∷ fs) (frames_unmarked happenings)
frames_unmarked (marked mark ∷ happenings) = frames_unmarked happenings

-- what more there is without marks is more of reports and of frames
pub more_under : (i : ThreadKey) (before after more : List Happening) → unmarked after ≡ unmarked before ++ more
    → reports_under i after ≡ reports_under i before ++ reports_under i more
more_under i before after more is =
    sym (under_unmarked i after) ∙ ap (reports_under i) is ∙ flat_map-append (report_under i) (unmarked before) more
    ∙ ap (λ (rs : List StreamFacts). rs ++ reports_under i more) (under_unmarked i before)

pub more_frames : (before after more : List Happening) → unmarked after ≡ unmarked before ++ more
    → frames_in after ≡ frames_in before ++ frames_in more
more_frames before after more is =
    sym (frames_unmarked after) ∙ ap frames_in is ∙ flat_map-append frame_of (unmarked before) more
    ∙ ap (λ fs. fs ++ frames_in more) (frames_unmarked before)

-- streams that fit memory spell one forest
pub spelled_once : (rs : List StreamFacts) (f g : Forest) → AllFit rs → SpellInTurn rs f → SpellInTurn rs g → f ≡ g
spelled_once [] f g fit h k = h ∙ sym k
spelled_once (r ∷ rs) f g fit (a, b, honest, rest, is) (c, d, honest2, rest2, is2) =
    let small : length (spelling r.form a) < 2 ^ 64 = subst (λ (w : List ℕ). length w < 2 ^ 64) honest.stream.whole fit.0 in
    let first : a ≡ c = same_forest r.form a c honest.stream.fits honest2.stream.fits small
    (sym honest.stream.whole ∙ honest2.stream.whole) in
    is ∙ ap (λ (x : Forest). append x b) first ∙ ap (append c) (spelled_once rs b d fit.1 rest rest2) ∙ sym is2

-- ---- lists

pub at_most_one : {A : Type 0} (o : Option A) (x y : A) → o ≡ Some x → o ≡ Some y → x ≡ y
at_most_one o x y p q = let same = sym p ∙ q in cc

pub contained : (members : List Member) (k : ℕ) (m : Member) → slice_get members k ≡ Some m
    → Contains (accounts_of members) (account_of m)
contained [] k m e = absurd cc
contained (x ∷ members) zero m e = (0, omega arith, let same : x ≡ m = cc in ap account_of same)
contained (x ∷ members) (suc k) m e = let c = contained members k m e in let less = c.1 in (suc c.0, omega arith, c.2)

pub every : (P : ℕ × List Happening → Type 0) (members : List Member)
    → ((j : ℕ) (m : Member) → slice_get members j ≡ Some m → P (account_of m)) → All P (accounts_of members)
every P [] h = All-nil P
every P (x ∷ members) h = All-cons P (account_of x) (accounts_of members) (h 0 x refl) (every P members (λ j m e. h (suc j) m e))

-- the name at each place where there is a share
named_at : (names : List (List ℕ)) (shares : List Member) (j : ℕ) (m : Member) → length shares ≡ length names
    → slice_get shares j ≡ Some m → (name : List ℕ) × (slice_get names j ≡ Some name)
named_at names shares j m same e = (
  get_or names j [],
  slice_get-get_or names j [] (subst (λ (n : ℕ). j < n) same (slice_get_within shares j m e)),
)

abbrev pub here : List ℕ → List ℕ → ℕ
here name x = cond (bytes_eq name x) 1 0

pub is_here : (name x : List ℕ) → name ≡ x → here name x ≡ 1
is_here name x same = ap (λ (b : Bool). cond b 1 0) ((bytes_eq-Decides name x).1 same)

-- a name that stands in a list is counted there
counted : (name : List ℕ) (names : List (List ℕ)) (k : ℕ) → slice_get names k ≡ Some name → 1 ≤ count_by (bytes_eq name) names
counted name [] k at = absurd cc
counted name (x ∷ xs) zero at = let same : name ≡ x = cc in omega (arith, sum_by-cons (here name) x xs, is_here name x same)
counted name (x ∷ xs) (suc k) at = omega (arith, sum_by-cons (here name) x xs, counted name xs k at)

-- and if it stands there once, then at one place
one_place : (name : List ℕ) (names : List (List ℕ)) (j k : ℕ) → IsAlone name names → slice_get names j ≡ Some name
    → slice_get names k ≡ Some name → j ≡ k
one_place name [] j k once at also = absurd cc
one_place name (x ∷ xs) zero zero once at also = refl
one_place name (x ∷ xs) zero (suc k) once at also = let same : name ≡ x = cc in
    absurd (omega (arith, once, sum_by-cons (here name) x xs, is_here name x same, counted name xs k also))
one_place name (x ∷ xs) (suc j) zero once at also = let same : name ≡ x = cc in
    absurd (omega (arith, once, sum_by-cons (here name) x xs, is_here name x same, counted name xs j at))
one_place name (x ∷ xs) (suc j) (suc k) once at also = let rest : count_by (bytes_eq name) xs ≡ 1 =
    omega (arith, once, sum_by-cons (here name) x xs, counted name xs j at) in ap suc (one_place name xs j k rest at also)

-- ---- what the frames show

abbrev key_for : {name : List ℕ} {known : ℕ} {code : Code} {w : ℕ} (m : Member) → HasRun name Short known code [] m.own w
    → ThreadKey
key_for {name = name} m ran = record { start = ran.start; name = name }

pub frames_show : FramesShow
frames_show known n is names shares counts taker log pending did same quiet recounts k name named alone =
    let its = did k name named in
    (its.code, its.count, its.right, its.count_is, shown its.share its.code its.count.unreported its.share_is its.ran)
  where
    all : List Member
    all = taker ∷ shares

    shown : (share : Member) (code : Code) (waiting : ℕ) → slice_get shares k ≡ Some share
        → HasRun name Short known code [] share.own waiting → ∥ ShowsCode known code name (frames_in taker.own) pending waiting ∥₁
    shown share code waiting there ran =
        ∥∥₁_map (recounts.threads i (account_of share) (account_of taker) (contained all (suc k) share there)
        (contained all 0 taker refl) (every Others all reports) (every Untaken all takes)) (λ t.
        let one : t.0 ≡ ran.shown = spelled_once ran.streams t.0 ran.shown ran.fit
        (subst (λ (rs : List StreamFacts). SpellInTurn rs t.0)
        (more_under i [] share.own _ ran.told ∙ under_itself i ran.streams) t.2) ran.spelled in
        record {
          start = ran.start;
          shown = t.0;
          waits = ran.waits;
          spelled = t.1;
          began = subst (λ (x : Forest). AreScopesOf known Short code (append x ran.waits)) (sym one) ran.began;
          counted = ran.counted;
        })
      where
        i : ThreadKey
        i = key_for share ran

        Others : ℕ × List Happening → Type 0
        Others b = b.0 ≢ share.number → reports_under i b.1 ≡ []

        Untaken : ℕ × List Happening → Type 0
        Untaken b = b.0 ≢ taker.number → frames_in b.1 ≡ []

        reports : (j : ℕ) (m : Member) → slice_get all j ≡ Some m → Others (account_of m)
        reports zero m e other = let is_taker : taker ≡ m = cc in
            subst (λ (x : Member). reports_under i x.own ≡ []) is_taker (none_in (reports_under i taker.own) (quiet i))
        reports (suc j) m e other =
            let its = named_at names shares j m same e in
            let d = did j its.0 its.1 in
            let is_d : d.share ≡ m = at_most_one (slice_get shares j) d.share m d.share_is e in
            subst (λ (x : Member). reports_under i x.own ≡ []) is_d
            (more_under i [] d.share.own _ d.ran.told
            ∙ under_others (key_for d.share d.ran) i
            (λ same_name. let at : j ≡ k = one_place name names j k alone (its.1 ∙ ap Some (sym same_name)) named in
            other (ap (λ (x : Member). x.number)
            (at_most_one (slice_get shares j) m share e (ap (slice_get shares) at ∙ there)))) d.ran.streams)

        takes : (j : ℕ) (m : Member) → slice_get all j ≡ Some m → Untaken (account_of m)
        takes zero m e other = let is_taker : taker ≡ m = cc in absurd (other (ap (λ (x : Member). x.number) (sym is_taker)))
        takes (suc j) m e other =
            let its = named_at names shares j m same e in
            let d = did j its.0 its.1 in
            let is_d : d.share ≡ m = at_most_one (slice_get shares j) d.share m d.share_is e in
            subst (λ (x : Member). frames_in x.own ≡ []) is_d
            (more_frames [] d.share.own _ d.ran.told ∙ no_frames (key_for d.share d.ran) d.ran.streams)

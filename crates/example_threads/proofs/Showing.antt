-- What the frames show of a thread whose reports are all that happened through its share.
use Rattle.std.proofs.Common.{◌≡◌, ◌≢◌, ℕ, ◌<◌, ◌≤◌, ◌^◌, ℤ, Bool, true, false, List, [], ◌∷◌, ◌++◌, Option, Some, None, length, get_or, map, if◌then◌else◌, string_bytes, refl, ap, sym, subst, ◌∙◌, arith}
use mathlib.Core.Logic.{∥∥₁_map}
use Rattle.std.specs.FinMap as fm
use Rattle.std.specs.List.{All, Contains}
use Rattle.std.specs.Arc.{arc_value}
use Rattle.std.specs.Option.{unwrap_or}
use Rattle.std.proofs.lemmas.List.{map-append}
use Rattle.std.proofs.lemmas.Grind.{flat_map-append}
use Rattle.std.proofs.lemmas.List.Elements.{All-from_recursion, All-contains, Contains-push, Contains-append_left, Contains-get_or}
use Rattle.std.specs.declared.sync.Arc.{Arc}
use Rattle.std.specs.declared.alloc.Global.{Global}
use Rattle.puffin_data.specs.declared.data.form.Form.{Form}
use Rattle.puffin_data.specs.declared.data.form.Form.TheVariants.{Short, Long}
use Rattle.puffin_data.specs.Forest.{Span, Forest, empty, node, append}
use Rattle.puffin_data.specs.Forest.Spelling.{spelling}
use Rattle.puffin_data.specs.Honesty.{StreamFacts, AreHonestFacts}
use Rattle.puffin_data.specs.Text.Lengths.{stored_limit}
use Rattle.puffin_data.proofs.lemmas.Lengths.{layout_size}
use Rattle.puffin_data.proofs.lemmas.WordMeasures.{word_size-tour}
use Rattle.puffin_data.proofs.lemmas.Unique.{same_forest}
use Rattle.puffin_threads.specs.Thread.ThreadKey.{ThreadKey, has_same_key}
use Rattle.puffin_threads.proofs.lemmas.ThreadKeys.{has_same_key-one, has_same_key-itself}
use Rattle.puffin_frames.specs.declared.frame_data.frame.FrameData.{FrameData}
use Rattle.puffin_frames.specs.Frame.Contents.{Streams}
use Rattle.puffin_frames.specs.Frame.Holding.{Holding}
use Rattle.puffin.specs.Happenings.{Happening, reported, History, framed, frame_of, frames_in, report_under, reports_under}
use Rattle.puffin.specs.Members.{Member, IsNewMember, account_of, unpacked_in, TakesFrame}
use Rattle.puffin.specs.Recounted.{SpellInTurn, streams_under, ReportsAlone, TakesAlone, Recounts}
use Rattle.puffin.specs.Leaving.{accounts_of}
use Rattle.puffin_frames.specs.Frame.Sums.{total_scopes}
use Rattle.example_threads.specs.declared.record.Job.{Job}
use Rattle.example_threads.specs.declared.record.Recorded.{Recorded}
use Rattle.example_threads.specs.Recorded.{key_of_job, texts_of, AreApart, HasDone, span_of, AreScopes, AreReports, HasTaken, streams_in, Show}

-- one report more
pub more_reports : (text : List ℕ) (facts : StreamFacts) (start stop : ℤ) →
    AreHonestFacts facts (node (span_of text start stop) empty empty) →
    (texts : List (List ℕ)) (reports : List StreamFacts) →
    AreReports texts reports →
    AreReports (texts ++ text ∷ []) (reports ++ facts ∷ [])
more_reports text facts start stop honest [] reports is =
    (facts, [], start, stop, ap (λ (xs : List StreamFacts). xs ++ facts ∷ []) is, honest, refl)
more_reports text facts start stop honest (first_text ∷ texts) reports
    (first, others, first_start, first_stop, is, first_honest, are) = (
      first,
      others ++ facts ∷ [],
      first_start,
      first_stop,
      ap (λ (xs : List StreamFacts). xs ++ facts ∷ []) is,
      first_honest,
      more_reports text facts start stop honest texts others are,
    )

-- ---- what reports under one key are under it, under others, and in frames

-- under their own key they are themselves
pub under_itself : (key : ThreadKey) (reports : List StreamFacts) → reports_under key (map (reported key) reports) ≡ reports
under_itself key [] = refl
under_itself key (facts ∷ reports) =
    ap (λ (same : Bool). (if same then facts ∷ [] else []) ++ reports_under key (map (reported key) reports))
    (has_same_key-itself key)
    ∙ ap (λ (xs : List StreamFacts). facts ∷ xs) (under_itself key reports)

-- under a key with another name there are none
under_others : (key other : ThreadKey) →
    other.name ≢ key.name →
    (reports : List StreamFacts) →
    reports_under other (map (reported key) reports) ≡ []
under_others key other apart [] = refl
under_others key other apart (facts ∷ reports) = unlike (has_same_key other key) refl (under_others key other apart reports)
  where
    -- the first is under another key, and so are the rest
    unlike : (same : Bool) →
        has_same_key other key ≡ same →
        reports_under other (map (reported key) reports) ≡ [] →
        (if has_same_key other key then facts ∷ [] else []) ++ reports_under other (map (reported key) reports) ≡ []
    unlike true is none = absurd (apart (ap (λ (k : ThreadKey). k.name) (has_same_key-one other key is)))
    unlike false is none =
        ap (λ (same : Bool). (if same then facts ∷ [] else []) ++ reports_under other (map (reported key) reports)) is
        ∙ none

-- they are no frames
no_frames : (key : ThreadKey) (reports : List StreamFacts) → frames_in (map (reported key) reports) ≡ []
no_frames key [] = refl
no_frames key (facts ∷ reports) = no_frames key reports

-- ---- what a record spells that is honest about one scope

-- a stored text is short, in either form
limit : (form : Form) → stored_limit form ≤ 16383
limit Short = omega arith
limit Long = omega arith

-- such a record spells that scope and no other
one_scope : (facts : StreamFacts) (span : Span) (forest : Forest) →
    AreHonestFacts facts (node span empty empty) →
    AreHonestFacts facts forest →
    forest ≡ node span empty empty
one_scope facts span forest one other =
    let size = word_size-tour facts.form (node span empty empty) in
    let small : length (spelling facts.form (node span empty empty)) < 2 ^ 64 =
    omega (
      arith,
      size,
      (layout_size facts.form (length span.text)).most,
      limit facts.form,
      one.stream.fits.0.text_size,
    ) in
    sym (same_forest facts.form (node span empty empty) forest one.stream.fits other.stream.fits small
    (sym one.stream.whole
    ∙ other.stream.whole))

-- what reports spell in turn: the scopes of their texts
scopes_of : (texts : List (List ℕ)) (reports : List StreamFacts) (forest : Forest) →
    AreReports texts reports →
    SpellInTurn reports forest →
    AreScopes texts forest
scopes_of [] reports forest none spelled = subst (λ (xs : List StreamFacts). SpellInTurn xs forest) none spelled
scopes_of (text ∷ texts) reports forest (first, others, start, stop, is, honest, are) spelled =
    let (scopes, later, spells_first, spell_others, forest_is) =
    subst (λ (xs : List StreamFacts). SpellInTurn xs forest) is spelled in (
      start,
      stop,
      later,
      forest_is
          ∙ ap (λ (front : Forest). append front later) (one_scope first (span_of text start stop) scopes honest spells_first),
      scopes_of texts others later are spell_others,
    )

-- ---- what a share has taken

-- one frame more is handed to a share
frame_more : (frames : List (Arc FrameData Global)) (frame : Arc FrameData Global) (old new : Member) →
    HasTaken frames old →
    TakesFrame old (Some frame) new →
    HasTaken (frames ++ frame ∷ []) new
frame_more frames frame old new taken more =
    let (_before, streams, _due, holding_is, tells) = more in
    let has : unpacked_in (arc_value frame) ≡ streams =
    ap (λ (h : Holding). unwrap_or h.unpacked fm.empty) holding_is in
    record {
      frames_are =
          map-append (λ (x : Arc FrameData Global). unpacked_in (arc_value x)) frames (frame ∷ [])
          ∙ ap (λ (x : Streams). streams_in frames ++ x ∷ []) has
          ∙ ap (λ (xs : List Streams). xs ++ streams ∷ []) taken.frames_are
          ∙ sym (ap frames_in tells.own ∙ flat_map-append frame_of old.own (framed streams ∷ []));
      no_reports =
          λ key.
          ap (reports_under key) tells.own
          ∙ (flat_map-append (report_under key) old.own (framed streams ∷ [])
          ∙ ap (λ (xs : List StreamFacts). xs ++ []) (taken.no_reports key));
    }

-- the same of a call that may give a frame, and gave this one
pub taken_more : (frames : List (Arc FrameData Global)) (frame : Arc FrameData Global) (old new : Member) →
    HasTaken frames old →
    (given : Option (Arc FrameData Global)) →
    given ≡ Some frame →
    TakesFrame old given new →
    HasTaken (frames ++ frame ∷ []) new
taken_more frames frame old new taken given is takes =
    frame_more frames frame old new taken (subst (λ (x : Option (Arc FrameData Global)). TakesFrame old x new) is takes)

-- where it gave none, the share has taken what it had
pub taken_none : (frames : List (Arc FrameData Global)) (old new : Member) →
    HasTaken frames old →
    (given : Option (Arc FrameData Global)) →
    ((frame : Arc FrameData Global) → given ≡ Some frame → ⊥) →
    TakesFrame old given new →
    HasTaken frames new
taken_none frames old new taken None none takes = subst (HasTaken frames) (sym takes) taken
taken_none frames old new taken (Some frame) none takes = absurd (none frame refl)

-- a list of length 0 is empty
none_in : {A : Type 0} (xs : List A) → length xs ≡ 0 → xs ≡ []
none_in [] none = refl
none_in (x ∷ xs) none = absurd (omega arith)

-- a share through which nothing happened was handed no frame
pub none_taken : (share : Member) → IsNewMember share → HasTaken [] share
none_taken share new = record {
  frames_are = sym (ap frames_in (none_in share.own new.own));
  no_reports = λ key. ap (reports_under key) (none_in share.own new.own);
}

-- the last of shares through which nothing happened
pub last_new : (all front : List Member) (last : Member) →
    All IsNewMember all →
    all ≡ front ++ last ∷ [] →
    All IsNewMember front × IsNewMember last
last_new all front last new is =
    let parts = subst (All IsNewMember) is new in (
      λ k d lt.
          All-contains IsNewMember (front ++ last ∷ []) (get_or front k d) parts
          (Contains-append_left front (last ∷ []) (get_or front k d) (Contains-get_or front k d lt)),
      All-contains IsNewMember (front ++ last ∷ []) last parts (Contains-push front last),
    )

-- ---- what the frames show of three threads

-- a share through which a job was done has no reports under another name
none_under : (key : ThreadKey) (job : Job) (share : Member) →
    HasDone job share →
    key.name ≢ string_bytes job.name →
    reports_under key share.own ≡ []
none_under key job share (start, (reports, own_is, _are)) apart =
    ap (reports_under key) own_is
    ∙ under_others (key_of_job start job) key apart reports

-- and it was handed no frame
no_frames_of : (job : Job) (share : Member) → HasDone job share → frames_in share.own ≡ []
no_frames_of job share (start, (reports, own_is, _are)) =
    ap frames_in own_is
    ∙ no_frames (key_of_job start job) reports

-- the second account has frames only if it is the first
abbrev NoFramesBut : ℕ × List Happening → ℕ × List Happening → Type 0
NoFramesBut account other = other.0 ≢ account.0 → frames_in other.1 ≡ []

-- the second account has reports under this key only if it is the first
abbrev NoReportsBut : ThreadKey → ℕ × List Happening → ℕ × List Happening → Type 0
NoReportsBut key account other = other.0 ≢ account.0 → reports_under key other.1 ≡ []

-- three shares, a job for each, and a share that takes frames
module _ (recorded : Recorded) (n : ℕ) (log : History) (pending : Streams) (a b c taker : Member) (u v w : Job) where
  -- the accounts of all four
  abbrev accounts : List (ℕ × List Happening)
  accounts = accounts_of (a ∷ b ∷ c ∷ taker ∷ [])

  -- each share did its job, and the last took all frames
  module _ (known : Recounts n accounts log pending) (count : recorded.settled.pending ≡ total_scopes (fm.values pending))
      (one : HasDone u a) (two : HasDone v b) (three : HasDone w c) (taken : HasTaken recorded.frames.items taker) where
    -- no other took a frame
    takes : TakesAlone (account_of taker) accounts
    takes =
        All-from_recursion (NoFramesBut (account_of taker)) accounts (
          (λ _. no_frames_of u a one),
          (
            (λ _. no_frames_of v b two),
            (
              (λ _. no_frames_of w c three),
              ((λ apart. absurd (apart refl)), tt),
            ),
          ),
        )

    -- a job whose share alone reported under its thread's key is shown
    shown : (job : Job) (share : Member) (did : HasDone job share) →
        Contains accounts (account_of share) →
        ReportsAlone (key_of_job did.0 job) (account_of share) accounts →
        Show recorded job
    shown job share (start, (reports, own_is, are)) there alone =
        let key = key_of_job start job in
        ∥∥₁_map (known.threads key (account_of share) (account_of taker) there (3, omega arith, refl) alone takes)
        (λ (forest, in_frames, in_reports). (
          start,
          pending,
          forest,
          count,
          subst (λ (frames : List Streams). SpellInTurn (streams_under key (frames ++ pending ∷ [])) forest)
              (sym taken.frames_are) in_frames,
          scopes_of (texts_of job) reports forest are
              (subst (λ (xs : List StreamFacts). SpellInTurn xs forest)
              (ap (reports_under key) own_is
              ∙ under_itself key reports)
              in_reports),
        ))

    -- the first job
    first : AreApart u v → AreApart u w → Show recorded u
    first u_v u_w =
        let key = key_of_job one.0 u in
        shown u a one (0, omega arith, refl)
        (All-from_recursion (NoReportsBut key (account_of a)) accounts (
          (λ apart. absurd (apart refl)),
          (
            (λ _. none_under key v b two u_v),
            (
              (λ _. none_under key w c three u_w),
              ((λ _. taken.no_reports key), tt),
            ),
          ),
        ))

    -- the second
    second : AreApart u v → AreApart v w → Show recorded v
    second u_v v_w =
        let key = key_of_job two.0 v in
        shown v b two (1, omega arith, refl)
        (All-from_recursion (NoReportsBut key (account_of b)) accounts (
          (λ _. none_under key u a one (λ same. u_v (sym same))),
          (
            (λ apart. absurd (apart refl)),
            (
              (λ _. none_under key w c three v_w),
              ((λ _. taken.no_reports key), tt),
            ),
          ),
        ))

    -- the third
    third : AreApart u w → AreApart v w → Show recorded w
    third u_w v_w =
        let key = key_of_job three.0 w in
        shown w c three (2, omega arith, refl)
        (All-from_recursion (NoReportsBut key (account_of c)) accounts (
          (λ _. none_under key u a one (λ same. u_w (sym same))),
          (
            (λ _. none_under key v b two (λ same. v_w (sym same))),
            (
              (λ apart. absurd (apart refl)),
              ((λ _. taken.no_reports key), tt),
            ),
          ),
        ))

    -- each of the three is shown, if their threads have different names
    pub all_shown : AreApart u v × AreApart u w × AreApart v w → Show recorded u × Show recorded v × Show recorded w
    all_shown (u_v, u_w, v_w) = (first u_v u_w, second u_v v_w, third u_w v_w)

-- The scope of this turn's text is reported; after the last turn, all texts have their reports.
use Rattle.std.proofs.Common.{◌≡◌, ℕ, ◌+◌, ◌<◌, ◌≤◌, ◌^◌, List, length, [], ◌∷◌, ◌++◌, take, map, get_or, string_bytes, ap, sym, subst, ◌∙◌}
use Rattle.std.proofs.lemmas.List.{take_more, take_all, length-map, get_or-map}
use Rattle.puffin_data.specs.declared.error.Error.{Error}
use Rattle.puffin_data.specs.Honesty.{StreamFacts}
use Rattle.puffin_data.specs.Text.{cut_text}
use Rattle.puffin_threads.specs.Details.{Details, AllHaveIds}
use Rattle.puffin_threads.specs.Thread.Calls.{after_begin}
use Rattle.puffin_threads.specs.Thread.ThreadKey.{ThreadKey}
use Rattle.puffin.specs.Happenings.{reported}
use Rattle.puffin.specs.Members.{Member, Told}
use Rattle.puffin.specs.Shares.{with_reported}
use Rattle.puffin.specs.SharedCauses.{IsReportCause}
use Rattle.example_threads.specs.Recorded.{texts_of, AreReports}
use Rattle.example_threads.proofs.Opening.{HasOpened, closing}
use Rattle.example_threads.proofs.record.report.Goals as goal

-- A report, which isn't too long and whose details have ids, is accepted through a share: that counts its scopes and knows of it.
abbrev accepts : Member → ThreadKey → List Details → StreamFacts → Member → Type 0
accepts old key details facts new =
    (new.counts ≡ with_reported old.counts facts.num_scopes)
    × Told old (reported key facts) new
    × (length facts.bytes < 2 ^ 64)
    × AllHaveIds details

-- a report is refused, and the share doesn't change
abbrev refuses : Member → ThreadKey → List Details → StreamFacts → Error → Member → Type 0
refuses old key details facts cause new = (new ≡ old) × IsReportCause details cause

pub loop-text-preserved : goal.loop-text-preserved
loop-text-preserved g c =
    let thread = c.loop-text.thread.state in
    let all = texts_of c.args.job.now in
    let turn = c.loop-text.text-index in
    let text = string_bytes c.text-item.result in
    let (id_is, opened) = c.loop-text.invariant in
    let (start_at, _start_answer, _start_from_0, begun_is) = c.in_ok-scope.ensures.begun in
    let (end_at, _end_answer, _end_from_0, closes) = c.in_ok-e.ensures.closed in
    let is =
    begun_is
    ∙ ap (λ (id : ℕ). after_begin thread id (cut_text thread.form c.as_str.result.now) start_at) id_is
    ∙ ap (λ (read : List ℕ). after_begin thread 7 (cut_text thread.form read) start_at) c.as_str.ensures.value in
    let items = c.deref-text-items.ensures.value in
    let item = c.text-item.is ∙ ap (λ xs. get_or xs turn c.text-item.result) items in
    let within : turn < length c.args.job.now.texts.items = subst (λ xs. turn < length xs) items c.loop-text-test.true in
    let long : turn < length all =
    subst (λ (n : ℕ). turn < n) (sym (length-map c.args.job.now.texts.items string_bytes)) within in
    let more : take (turn + 1) all ≡ take turn all ++ text ∷ [] =
    take_more all turn text long
    ∙ ap (λ (x : List ℕ). take turn all ++ x ∷ [])
    (get_or-map string_bytes c.args.job.now.texts.items turn c.text-item.result text within
    ∙ ap string_bytes (sym item)) in
    let name = string_bytes c.args.job.now.name in
    let new_thread = c.end_scope.new.thread.state in
    let new_share = c.end_scope.new.self.share in
    let reported_one : HasOpened new_thread new_share name (take turn all ++ text ∷ []) =
    closing c.loop-text.reporter c.end_scope.new.self
    (λ old key details facts new. accepts old.share key details facts new.share)
    (λ old key details facts cause new. refuses old.share key details facts cause new.share)
    thread _ _ c.loop-text.reporter.share new_share _ _ text start_at end_at opened is _ closes c.in_default-2.not-Kept
    (λ key details facts accepted. let (_counts, told, _short, _have_ids) = accepted in told) in
    (id_is, subst (HasOpened new_thread new_share name) (sym more) reported_one)

pub returns : goal.returns
returns g c =
    let thread = c.loop-text.thread.state in
    let all = texts_of c.args.job.now in
    let turn = c.loop-text.text-index in
    let (_id_is, done) = c.loop-text.invariant in
    let items = c.deref-text-items.ensures.value in
    let past : length c.args.job.now.texts.items ≤ turn = subst (λ xs. length xs ≤ turn) items c.loop-text-test.false in
    let few : length all ≤ turn =
    subst (λ (n : ℕ). n ≤ turn) (sym (length-map c.args.job.now.texts.items string_bytes)) past in
    let whole : take turn all ≡ all = take_all turn all few in (
      thread.first_start,
      (
        done.reports,
        ap (λ (share : Member). share.own) c.into_share.ensures
            ∙ (done.own
            ∙ ap (λ (name : List ℕ). map (reported (record { start = thread.first_start; name = name })) done.reports)
            done.name_is),
        subst (λ (texts : List (List ℕ)). AreReports texts done.reports) whole done.are,
      ),
    )

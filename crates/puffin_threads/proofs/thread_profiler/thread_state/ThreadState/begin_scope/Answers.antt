-- The beginning is appended to the bytes, in the room that was made ready, and is one more event of the word.
use Rattle.std.proofs.Common.{rules, ◌≡◌, ◌≤◌, ◌<◌, ◌+◌, ◌*◌, ℕ, ℤ, pos, ◌≤ℤ◌, List, [], ◌∷◌, ◌++◌, length, Option, Some, w64, FitsSigned, to_z, of_z, refl, sym, ap, subst, ◌∙◌, arith}
use Rattle.std.specs.Option.{option_or}
use Rattle.std.specs.Int.{int_max}
use Rattle.std.proofs.lemmas.Int.{ints, to_z-of_z, clamps}
use Rattle.std.proofs.lemmas.List.{length-append}
use Rattle.std.proofs.lemmas.List.Elements.{All-from_get_or}
use Rattle.puffin_data.specs.declared.data.form.Form.{Form}
use Rattle.puffin_data.proofs.lemmas.Lengths.{limit_stored}
use Rattle.puffin_data.specs.Forest.Spelling.{begin_bytes, head_size, size_offset}
use Rattle.puffin_data.specs.Text.{cut_text}
use Rattle.puffin_data.specs.Forest.Tour.{Open}
use Rattle.puffin_data.specs.Forest.Words.{word_size}
use Rattle.puffin_data.proofs.lemmas.Cuts.{cut_text-short, cut_text-bytes}
use Rattle.puffin_data.proofs.lemmas.WordMeasures.{length-begin}
use Rattle.puffin_threads.specs.Thread.Events.{events_in}
use Rattle.puffin_threads.specs.Thread.Calls.{Thread, time_of}
use Rattle.puffin_threads.specs.inner.FirstStart.{first_open}
use Rattle.puffin_threads.proofs.FirstStarts.{opened_first}
use Rattle.puffin_threads.proofs.BegunStates.{begun_in, offset_in}
use Rattle.puffin_threads.proofs.ThreadStates.{copy_in, holds_in, stays_supplied, open_fits, same_thread, scopes_fit}
use Rattle.puffin_threads.proofs.RecordedScopes.{begins_held}
use Rattle.puffin_threads.proofs.thread_profiler.thread_state.ThreadState.begin_scope.Goals as goal

pub prepare-requires-clause-few : goal.prepare-requires-clause-few
prepare-requires-clause-few g c = open_fits c.self.inside c.self.invariant

pub overflow_add-self : goal.overflow_add-self
overflow_add-self g c =
    let at = to_z w64 (of_z w64 c.max-at.result) in
    let bytes : c.prepare.new.stream.bytes ≡ c.self.inside.info.stream.bytes = c.prepare.ensures.bytes in
    let form = c.prepare.new.stream.form in
    let text = cut_text form c.args.text.now in
    let begin = begin_bytes form c.args.id at text c.self.inside.innermost in
    let more : c.begin_within-offset.new.self.bytes ≡ c.prepare.new.stream.bytes ++ begin =
    c.begin_within-offset.ensures.begun in
    let offset : c.begin_within-offset.result + 8 ≡ length c.begin_within-offset.new.self.bytes =
    c.begin_within-offset.ensures.offset in
    let all_fit = scopes_fit c.self.inside c.self.invariant in
    omega (
      arith,
      open_fits c.self.inside c.self.invariant,
      all_fit,
      ap length bytes,
      ap length more,
      length-append c.prepare.new.stream.bytes begin,
      length-begin form c.args.id at text c.self.inside.innermost,
      offset,
    )

-- a beginning that was written behind bytes in their form
wrote : (form own : Form) (held bytes next : List ℕ) (id : ℕ) (at : ℤ) (text : List ℕ) (around : ℕ) →
    form ≡ own → held ≡ bytes → next ≡ held ++ begin_bytes form id at (cut_text form text) around →
    next ≡ bytes ++ begin_bytes own id at (cut_text own text) around
wrote form own held bytes next id at text around same is e =
    e
    ∙ ap (λ (bs : List ℕ). bs ++ begin_bytes form id at (cut_text form text) around) is
    ∙ ap (λ (x : Form). bytes ++ begin_bytes x id at (cut_text x text) around) same

pub begin_within-offset-requires : goal.begin_within-offset-requires
begin_within-offset-requires g c =
    let enough =
    subst (λ (x : Form). head_size x (cut_text x c.args.text.now) + 9 *
    (c.self.inside.num_open + 1) ≤ c.prepare.new.stream.room)
    (sym c.prepare.ensures.form) c.in_ok-prepare.ensures.enough in
    omega (arith, enough)

pub overflow_add-self-2 : goal.overflow_add-self-2
overflow_add-self-2 g c =
    let at = to_z w64 (of_z w64 c.max-at.result) in
    let bytes : c.prepare.new.stream.bytes ≡ c.self.inside.info.stream.bytes = c.prepare.ensures.bytes in
    let form = c.prepare.new.stream.form in
    let text = cut_text form c.args.text.now in
    let begin = begin_bytes form c.args.id at text c.self.inside.innermost in
    let more : c.begin_within-offset.new.self.bytes ≡ c.prepare.new.stream.bytes ++ begin =
    c.begin_within-offset.ensures.begun in
    let offset : c.begin_within-offset.result + 8 ≡ length c.begin_within-offset.new.self.bytes =
    c.begin_within-offset.ensures.offset in
    let all_fit = scopes_fit c.self.inside c.self.invariant in
    omega (
      arith,
      open_fits c.self.inside c.self.invariant,
      all_fit,
      ap length bytes,
      ap length more,
      length-append c.prepare.new.stream.bytes begin,
      length-begin form c.args.id at text c.self.inside.innermost,
      offset,
    )

pub invariant_of-self-2 : goal.invariant_of-self-2
invariant_of-self-2 g c =
    let at = to_z w64 (of_z w64 c.max-at.result) in
    let own = c.self.inside.info.stream.form in
    let form = c.prepare.new.stream.form in
    let fits : FitsSigned w64 c.max-at.result = search rules in
    let same : at ≡ c.max-at.result = to_z-of_z w64 c.max-at.result fits in
    let later : c.self.inside.latest ≤ℤ c.max-at.result = omega (arith, ints, c.max-at.ensures.self_bound) in
    let room : c.prepare.new.stream.room ≤ c.begin_within-offset.new.self.room + head_size form
    (cut_text form c.args.text.now) =
    c.begin_within-offset.ensures.room in
    let enough =
    subst (λ (x : Form). head_size x (cut_text x c.args.text.now) + 9 *
    (c.self.inside.num_open + 1) ≤ c.prepare.new.stream.room)
    (sym c.prepare.ensures.form) c.in_ok-prepare.ensures.enough in
    let longer : length c.begin_within-offset.new.self.bytes
    ≡ length c.prepare.new.stream.bytes + head_size form (cut_text form c.args.text.now) =
    omega (
      arith,
      ap length c.begin_within-offset.ensures.begun,
      length-append c.prepare.new.stream.bytes
          (begin_bytes form c.args.id at (cut_text form c.args.text.now) c.self.inside.innermost),
      length-begin form c.args.id at (cut_text form c.args.text.now) c.self.inside.innermost,
    ) in
    begun_in c.self.inside _ c.args.id (cut_text own c.args.text.now) at c.begin_within-offset.result c.self.invariant
    (record {
      form = c.begin_within-offset.ensures.form ∙ c.prepare.ensures.form;
      later = subst (λ (t : ℤ). c.self.inside.latest ≤ℤ t) (sym same) later;
      fits = subst (λ (t : ℤ). FitsSigned w64 t) (sym same) fits;
      id_low = omega (arith, c.get-number.ensures.positive, c.get-number.ensures.number);
      id_high = omega (arith, c.get-number.type_inv, c.get-number.ensures.number);
      stored = limit_stored own (cut_text own c.args.text.now) (cut_text-short own c.args.text.now);
      text_bytes =
          cut_text-bytes own c.args.text.now
          (All-from_get_or (λ b. b < 256) c.args.text.now 0 (λ i _. (c.type_inv.text i).fits));
      bytes =
          wrote form own c.prepare.new.stream.bytes c.self.inside.info.stream.bytes _ c.args.id at c.args.text.now
          c.self.inside.innermost c.prepare.ensures.form c.prepare.ensures.bytes c.begin_within-offset.ensures.begun;
      offset_is = c.begin_within-offset.ensures.offset;
      num_open = refl;
      innermost = refl;
      num_scopes = refl;
      depth = search rules;
      latest = refl;
      room = omega (arith, room, enough);
      supplied =
          stays_supplied c.prepare.new.self c.prepare.new.stream c.begin_within-offset.new.self
          (omega (arith, room, longer)) c.prepare.ensures.supplied;
      spare = c.in_ok-prepare.ensures.copied ∙ ap Some (copy_in c.self.inside c.self.invariant);
    })

pub returns-clause-begun : goal.returns-clause-begun
returns-clause-begun g c =
    let now = c.args.self.now in
    let inside = c.self.inside in
    let own = inside.info.stream.form in
    let x = c.now_ns.result in
    let at = to_z w64 (of_z w64 c.max-at.result) in
    let text = cut_text own c.args.text.now in
    let fits : FitsSigned w64 c.max-at.result = search rules in
    let same : at ≡ c.max-at.result = to_z-of_z w64 c.max-at.result fits in
    let kept : own ≡ now.form = ap (λ (t : Thread). t.form) c.self.view_is in
    let later : inside.latest ≤ℤ at =
    subst (λ (t : ℤ). inside.latest ≤ℤ t) (sym same) (omega (arith, ints, c.max-at.ensures.self_bound)) in
    let least : pos 0 ≤ℤ inside.latest = c.self.invariant.latest in
    let bytes =
    wrote c.prepare.new.stream.form own c.prepare.new.stream.bytes inside.info.stream.bytes _ c.args.id at
    c.args.text.now c.self.inside.innermost c.prepare.ensures.form c.prepare.ensures.bytes
    c.begin_within-offset.ensures.begun in
    let goes =
    begins_held own inside.info.stream.bytes c.begin_within-offset.new.self.bytes inside.latest at c.args.id text
    inside.innermost (holds_in inside c.self.invariant)
    later (omega (arith, ints)) (subst (λ (t : ℤ). FitsSigned w64 t) (sym same) fits)
    (omega (arith, c.get-number.ensures.positive, c.get-number.ensures.number))
    (omega (arith, c.get-number.type_inv, c.get-number.ensures.number))
    (limit_stored own text (cut_text-short own c.args.text.now))
    (cut_text-bytes own c.args.text.now (All-from_get_or (λ b. b < 256) c.args.text.now 0 (λ i _. (c.type_inv.text i).fits)))
    c.self.invariant.innermost bytes in
    let greatest : at ≡ int_max inside.latest x = grind (arith, ints, clamps, to_z-of_z) in
    let time : at ≡ time_of now x = greatest ∙ ap (λ (t : Thread). int_max t.latest x) c.self.view_is in
    let form : c.begin_within-offset.new.self.form ≡ own = c.begin_within-offset.ensures.form ∙ c.prepare.ensures.form in
    let word : events_in c.begin_within-offset.new.self.form c.begin_within-offset.new.self.bytes
    ≡ now.word ++ (Open c.args.id (cut_text now.form c.args.text.now) (time_of now x) ∷ []) =
    ap (λ (y : Form). events_in y c.begin_within-offset.new.self.bytes) form
    ∙ goes.word
    ∙ ap (λ (t : Thread). t.word ++ (Open c.args.id text at ∷ [])) c.self.view_is
    ∙ ap (λ (t : ℤ). now.word ++ (Open c.args.id text t ∷ [])) time
    ∙ ap (λ (y : Form). now.word ++ (Open c.args.id (cut_text y c.args.text.now) (time_of now x) ∷ [])) kept in
    let first = opened_first inside.first_start _ now.word c.args.id (cut_text now.form c.args.text.now) (time_of now x) word
    ∙ ap (λ (o : Option ℤ). option_or o (Some (time_of now x)))
    (ap (λ (t : Thread). option_or inside.first_start (first_open t.word)) (sym c.self.view_is)
    ∙ ap (λ (t : Thread). t.first_start) c.self.view_is) in (
      x,
      c.now_ns.ensures.answered,
      c.now_ns.ensures.never_negative,
      same_thread _ _ (ap (λ (t : Thread). t.name) c.self.view_is) (form ∙ kept) first time word
          (ap (λ (t : Thread). t.details) c.self.view_is),
    )

pub returns-clause-offset : goal.returns-clause-offset
returns-clause-offset g c =
    let inside = c.self.inside in
    let own = inside.info.stream.form in
    let at = to_z w64 (of_z w64 c.max-at.result) in
    let text = cut_text own c.args.text.now in
    let bytes =
    wrote c.prepare.new.stream.form own c.prepare.new.stream.bytes inside.info.stream.bytes _ c.args.id at
    c.args.text.now c.self.inside.innermost c.prepare.ensures.form c.prepare.ensures.bytes
    c.begin_within-offset.ensures.begun in
    let place =
    offset_in inside c.args.id text at c.begin_within-offset.result c.self.invariant
    c.begin_within-offset.new.self.bytes bytes c.begin_within-offset.ensures.offset in
    place ∙ ap (λ (t : Thread). word_size t.form t.word + size_offset t.form (cut_text t.form c.args.text.now)) c.self.view_is

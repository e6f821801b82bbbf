-- The bytes of the packet's scope spell it in both forms, and a walk counts it.
use Rattle.std.proofs.Common.{◌≡◌, ℕ, ℤ, ◌<◌, ◌≤◌, ◌∙◌, List, length, pos, refl, ap, arith, Result, Ok, Err, IfOk, IfErr}
use Rattle.std.specs.Prelude.{codes, MatchResult}
use Rattle.std.proofs.lemmas.Int.{ints}
use Rattle.std.proofs.lemmas.List.Elements.{All-from_recursion}
use Rattle.puffin_data.specs.declared.data.form.Form.{Form}
use Rattle.puffin_data.specs.declared.data.form.Form.TheVariants.{Short, Long}
use Rattle.puffin_data.specs.Text.Lengths.{length_layout, stored_limit}
use Rattle.puffin_data.specs.Forest.{Span, Forest, empty, node, IsSpan, IsForest}
use Rattle.puffin_data.specs.Forest.Spelling.{Spells, spelling, begin_bytes, end_bytes}
use Rattle.puffin_data.specs.declared.error.Error.{Error}
use Rattle.puffin_data.specs.declared.error.Error.TheVariants.{Memory}
use Rattle.puffin_data.specs.declared.data.info.StreamInfo.{StreamInfo}
use Rattle.puffin_data.specs.Honesty.{StreamFacts, AreHonestFacts, IsHonest, facts_of}
use Rattle.puffin_data.specs.Stream.{StreamState}
use Rattle.tests_support.specs.Packet.{packet_facts}
use Rattle.tests_support.specs.declared.samples.TheConstants.{ONE_SCOPE}

abbrev data_span : Span
data_span = record { id = 1; start = pos 100; stop = pos 300; text = codes "data" }

abbrev pub one : Forest
one = node data_span empty empty

spelled : (form : Form) → ONE_SCOPE ≡ spelling form one
unfolding begin_bytes end_bytes length_layout
spelled Short = refl
spelled Long = refl

text_fits : (form : Form) → length data_span.text ≤ stored_limit form
text_fits Short = omega arith
text_fits Long = omega arith

well_formed : (form : Form) → IsForest form one
well_formed form =
    let span : IsSpan form data_span = record {
      id_low = omega arith;
      id_high = omega arith;
      start = omega (arith, ints);
      stop = omega (arith, ints);
      ordered = omega (arith, ints);
      duration = omega (arith, ints);
      text_size = text_fits form;
      text_bytes = All-from_recursion (λ b. b < 256) (codes "data") (omega arith, (omega arith, (omega arith, (omega arith, tt))));
    } in
    (span, tt, tt)

pub one_spells : (form : Form) → Spells form ONE_SCOPE one
one_spells form = record { whole = spelled form; fits = well_formed form }

-- ---- the walk of these bytes

abbrev facts_made : Form → List ℕ → ℕ → ℕ → ℤ → ℤ → StreamFacts
facts_made form bytes number depth start stop =
    record { form = form; bytes = bytes; num_scopes = number; depth = depth; range_ns = (start, stop) }

-- honest facts of these bytes are these
facts_alike : (form : Form) (r : StreamFacts) → r.form ≡ form → r.bytes ≡ ONE_SCOPE →
    AreHonestFacts r one → r ≡ packet_facts form
facts_alike form r is_form are_bytes h =
    ap (λ x. facts_made x r.bytes r.num_scopes r.depth r.range_ns.0 r.range_ns.1) is_form
    ∙ (ap (λ x. facts_made form x r.num_scopes r.depth r.range_ns.0 r.range_ns.1) are_bytes
    ∙ (ap (λ x. facts_made form ONE_SCOPE x r.depth r.range_ns.0 r.range_ns.1) h.counts.num_scopes
    ∙ (ap (λ x. facts_made form ONE_SCOPE 1 x r.range_ns.0 r.range_ns.1) h.counts.depth
    ∙ (ap (λ x. facts_made form ONE_SCOPE 1 1 x r.range_ns.1) h.counts.least_start
    ∙ ap (λ x. facts_made form ONE_SCOPE 1 1 (pos 100) x) h.counts.greatest_stop))))

-- a walk that counts the one scope, or is refused for memory
abbrev pub Counted : Result StreamInfo Error → Type 0
Counted result = MatchResult result (λ info. IsHonest info one) (λ e. e ≡ Memory)

pub counted_ok : (form : Form) (stream : StreamState) (result : Result StreamInfo Error) →
    stream.form ≡ form → stream.bytes ≡ ONE_SCOPE → IfOk result (λ info. info.stream ≡ stream) →
    Counted result → IfOk result (λ info. facts_of info ≡ packet_facts form)
counted_ok form stream (Ok info) is_form are_bytes same h =
    facts_alike form (facts_of info) (ap (λ s. s.form) same ∙ is_form) (ap (λ s. s.bytes) same ∙ are_bytes) h
counted_ok form stream (Err e) is_form are_bytes same h = tt

pub counted_err : (result : Result StreamInfo Error) → Counted result → IfErr result (λ e. e ≡ Memory)
counted_err (Ok info) h = tt
counted_err (Err e) h = h

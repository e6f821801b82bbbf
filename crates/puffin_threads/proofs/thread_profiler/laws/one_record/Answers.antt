-- Equal bytes spell one forest, and honest counts are that forest's measures.
use Rattle.std.proofs.Common.{◌≡◌, length, sym, ap, subst, ◌∙◌, arith}
use Rattle.puffin_data.specs.declared.data.form.Form.{Form}
use Rattle.puffin_data.specs.Forest.{Forest}
use Rattle.puffin_data.specs.Forest.Spelling.{Spells}
use Rattle.puffin_data.specs.Honesty.{StreamFacts, AreHonestFacts}
use Rattle.puffin_data.proofs.lemmas.Unique.{same_forest}
use Rattle.puffin_threads.proofs.thread_profiler.laws.one_record.Goals as goal

same_facts : (a b : StreamFacts) (forest : Forest) →
    AreHonestFacts a forest → AreHonestFacts b forest → a.form ≡ b.form → a.bytes ≡ b.bytes →
    a ≡ b
same_facts a b forest honest is_honest form bytes =
    let scopes = honest.counts.num_scopes ∙ sym is_honest.counts.num_scopes in
    let depth = honest.counts.depth ∙ sym is_honest.counts.depth in
    let least = honest.counts.least_start ∙ sym is_honest.counts.least_start in
    let greatest = honest.counts.greatest_stop ∙ sym is_honest.counts.greatest_stop in
    λ i. record { form = form i; bytes = bytes i; num_scopes = scopes i; depth = depth i; range_ns = (least i, greatest i) }

pub returns : goal.returns
returns c a b f g x y small form bytes =
    let stream : Spells a.form b.bytes g = subst (λ (form : Form). Spells form b.bytes g) (sym form) y.stream in
    let same : f ≡ g =
    same_forest a.form f g x.stream.fits stream.fits (omega (arith, small, ap length x.stream.whole))
    (sym x.stream.whole ∙ bytes ∙ stream.whole) in
    same_facts a b f x (subst (λ (h : Forest). AreHonestFacts b h) (sym same) y) form bytes

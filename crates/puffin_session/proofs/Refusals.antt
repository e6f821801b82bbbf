-- Commands that are refused and change nothing continue the history of a session.
use Rattle.std.proofs.Common.{◌≡◌, ℕ, ◌<◌, ◌≤◌, ◌⊎◌, inl, inr, ℤ, List, [], ◌∷◌, ◌++◌, length, Option, String, Global, refl, sym, ap, ◌∙◌, subst, arith}
use Rattle.puffin_data.specs.declared.error.Error.{Error}
use Rattle.puffin_data.specs.declared.error.Error.TheVariants.{NoThread, MismatchedEnd, IdsExhausted, Memory}
use Rattle.puffin_data.specs.Forest.{Forest}
use Rattle.puffin_data.specs.Honesty.{StreamFacts, AreHonestFacts}
use Rattle.puffin_data.specs.Stream.{StreamState}
use Rattle.puffin_data.specs.Forest.Tour.{tour}
use Rattle.puffin_data.specs.Walk.{IsFault}
use Rattle.puffin_data.specs.Forest.Words.{open_after}
use Rattle.puffin_threads.specs.Thread.ThreadKey.{key_of}
use Rattle.puffin_threads.specs.Thread.Calls.{Thread}
use Rattle.puffin_threads.specs.declared.thread_profiler.thread_info.ThreadInfo.{ThreadInfo}
use Rattle.puffin_collector.specs.Collector.State.{IsReportRefusal}
use Rattle.puffin_session.specs.declared.command.Command.{Command}
use Rattle.puffin_session.specs.declared.command.Command.TheVariants.{Begin, End, Register, ReportUser}
use Rattle.puffin_session.specs.declared.command.Reply.TheVariants as reply
use Rattle.puffin_session.specs.Session.History.{Opening, Action, nothing}
use Rattle.puffin_session.specs.Session.{SessionState}
use Rattle.puffin_session.specs.Session.Actions.{action_of}
use Rattle.puffin_session.specs.Session.Replies.{MayReply}
use Rattle.puffin_session.specs.inner.Serving.{session_thread, Continued, Continues}
use Rattle.puffin_session.proofs.Telling.{TellsAfter-more}
use Rattle.puffin_session.proofs.DueSums.{IsRefusal-from}
use Rattle.puffin_session.proofs.Serving.{quiet, spelled_in}

-- a refusal that changed nothing goes on
pub Continues-refused : (now : SessionState) (c : Command) (e : Error) → action_of c (reply.Refused e) [] ≡ nothing
    → ((o : Opening) (done : List Action) → Continued o done now → MayReply o done c (reply.Refused e) [])
    → Continues now now c (reply.Refused e)
Continues-refused now c e idle may = (
  [],
  λ o done before. (
    subst (λ (a : Action). Continued o (done ++ (a ∷ [])) now) (sym idle)
        (quiet now now.collected o done nothing before (λ t. (refl, refl)) refl refl refl refl refl
        (TellsAfter-more o done nothing now.collected now.collected before.stands.tells refl refl refl)),
    may o done before,
  ),
)

-- a begin, a registration, an end and a report that are refused
pub Continues-not_begun : (now : SessionState) (t : ℕ) (at : ℤ) (id : ℕ) (text : String Global) (e : Error)
    → ((e ≡ NoThread) × (length now.threads ≤ t)) ⊎ ((e ≡ Memory) × (t < length now.threads))
    → Continues now now (Begin t at id text) (reply.Refused e)
Continues-not_begun now t at id text e why = Continues-refused now (Begin t at id text) e refl (λ o done before. elim why [
  | inl none ↦ inl (none.0, omega (arith, none.1, before.stands.num_threads))
  | inr memory ↦ inr (memory.0, omega (arith, memory.1, before.stands.num_threads))
])

pub Continues-not_registered : (now : SessionState) (t : ℕ) (name : Option (String Global))
    (function file : String Global) (line : ℕ) (e : Error)
    → ((e ≡ NoThread) × (length now.threads ≤ t)) ⊎ (((e ≡ IdsExhausted) ⊎ (e ≡ Memory)) × (t < length now.threads))
    → Continues now now (Register t name function file line) (reply.Refused e)
Continues-not_registered now t name function file line e why =
    Continues-refused now (Register t name function file line) e refl (λ o done before. elim why [
      | inl none ↦ inl (none.0, omega (arith, none.1, before.stands.num_threads))
      | inr other ↦ inr (other.0, omega (arith, other.1, before.stands.num_threads))
    ])

pub Continues-not_ended : (now : SessionState) (t : ℕ) (at : ℤ) (back : ℕ) (e : Error)
    → ((e ≡ NoThread) × (length now.threads ≤ t))
    ⊎ ((e ≡ MismatchedEnd) × (t < length now.threads)
    × ((0 < back) ⊎ (open_after 0 (session_thread now t).word ≡ 0)))
    → Continues now now (End t at back) (reply.Refused e)
Continues-not_ended now t at back e why = Continues-refused now (End t at back) e refl (λ o done before. elim why [
  | inl none ↦ inl (none.0, omega (arith, none.1, before.stands.num_threads))
  | inr other ↦
      let within : t < length o.threads = omega (arith, before.stands.num_threads, other.1) in
      inr (
        other.0,
        within,
        elim other.2 [
          | inl outer ↦ inl outer
          | inr none ↦ inr (ap (λ (th : Thread). open_after 0 th.word) (sym (before.stands.threads t within)) ∙ none)
        ],
      )
])

pub Continues-not_reported : (now : SessionState) (info : ThreadInfo) (stream : StreamState) (e : Error)
    → (e ≡ Memory) ⊎ IsFault stream.form stream.bytes e
    ⊎ ((r : StreamFacts) × (f : Forest) × AreHonestFacts r f × (r.form ≡ stream.form) × (r.bytes ≡ stream.bytes)
    × IsReportRefusal now.collected (key_of info) [] r e)
    → Continues now now (ReportUser info stream) (reply.Refused e)
Continues-not_reported now info stream e (inl memory) = Continues-refused now (ReportUser info stream) e refl (λ o done before. inl memory)
Continues-not_reported now info stream e (inr (inl fault)) =
    Continues-refused now (ReportUser info stream) e refl (λ o done before. inr (inl fault))
Continues-not_reported now info stream e (inr (inr (r, f, honest, form, same, refusal))) =
    Continues-refused now (ReportUser info stream) e refl (λ o done before.
    inr
    (inr (
      f,
      spelled_in r f stream form same honest,
      IsRefusal-from o done now (key_of info) r (record { form = stream.form; events = tour f }) before.stands
          before.sums (record { forest = f; honest = honest; form = form; toured = refl }) [] e
          (λ k d lt. absurd (omega arith)) refusal,
    )))

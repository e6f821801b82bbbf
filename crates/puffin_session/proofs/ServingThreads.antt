-- What a command of one thread does to a session continues its history.
use Rattle.std.proofs.Common.{◌≡◌, ℕ, ◌+◌, ◌<◌, ℤ, true, false, List, [], ◌++◌, length, set, Option, String, Global, refl, sym, ap, ◌∙◌, subst, arith}
use Rattle.std.specs.String.{string_bytes}
use Rattle.std.specs.List.{slice_index_or}
use Rattle.std.specs.Option.{option_map}
use Rattle.std.proofs.lemmas.List.{length-set, get_or-set_same, get_or-set_other}
use Rattle.puffin_data.specs.declared.error.Error.{Error}
use Rattle.puffin_data.specs.Honesty.{StreamFacts}
use Rattle.puffin_data.specs.Text.{cut_text}
use Rattle.puffin_data.specs.Forest.Words.{num_begun, open_after}
use Rattle.puffin_threads.specs.Thread.Calls.{Thread, after_begin, after_end, after_handing, after_registering, key_of_thread, begun_place, clock_time}
use Rattle.puffin_threads.specs.Details.{with_id, AllHaveIds}
use Rattle.puffin_threads.specs.declared.thread_profiler.reporter.Closed.{Closed}
use Rattle.puffin_threads.specs.declared.thread_profiler.reporter.Closed.TheVariants.{Inner, Reported, Kept}
use Rattle.puffin_collector.specs.Collector.State.{Collected, AcceptsReport, reported_to, IsUnlike, IsReportRefusal}
use Rattle.puffin_threads.specs.Thread.Closing.{IsReportOf}
use Rattle.puffin_session.specs.declared.command.Command.TheVariants.{Begin, End, Register}
use Rattle.puffin_session.specs.declared.command.Reply.TheVariants as reply
use Rattle.puffin_session.specs.Session.History.{begun, ended, Action, calls, registers, nobody}
use Rattle.puffin_session.specs.Session.{SessionState, thread_after, word_of_thread, SpellsWord}
use Rattle.puffin_session.specs.Session.Actions.{details_given}
use Rattle.puffin_session.specs.Session.Replies.{ending_key, ending_word}
use Rattle.puffin_session.specs.inner.Serving.{session_thread, session_with_thread, EndsInnermost, ContinuesBy, Continues}
use Rattle.puffin_session.proofs.Telling.{waiting-noted, TellsAfter-more}
use Rattle.puffin_session.proofs.Standing.{handed_at_end, deliveries_at-reported, ChangesThread, StandsAfter-begun, StandsAfter-ended, StandsAfter-reported, StandsAfter-registered}
use Rattle.puffin_session.proofs.DueSums.{scopes_of, MayReport-from, IsRefusal-from}
use Rattle.puffin_session.proofs.Serving.{sums_same, sums_more, tells_same, same_told}

-- ---- one thread

changes : (now new : SessionState) (t : ℕ) (changed : Thread) (scopes : ℕ) → t < length now.threads
    → new.threads ≡ set now.threads t changed → new.collected.index ≡ now.collected.index
    → new.collected.reported ≡ now.collected.reported + scopes → ChangesThread now new t changed scopes
changes now new t changed scopes within same index reported = record {
  num_threads = ap length same ∙ length-set now.threads t changed;
  there = ap (λ (ts : List Thread). slice_index_or ts t nobody) same ∙ get_or-set_same now.threads t changed nobody within;
  others = λ u apart. ap (λ (ts : List Thread). slice_index_or ts u nobody) same ∙ get_or-set_other now.threads t u changed nobody apart;
  index = index;
  reported = reported;
}

-- a scope that begins
pub Continues-began : (now : SessionState) (t : ℕ) (at : ℤ) (id : ℕ) (text : String Global) (offset : ℕ) → t < length now.threads
    → offset ≡ begun_place (session_thread now t) (string_bytes text)
    → Continues now
    (session_with_thread now t
    (after_begin (session_thread now t) id (cut_text (session_thread now t).form (string_bytes text))
    (clock_time at)) now.collected) (Begin t at id text) (reply.Began offset)
Continues-began now t at id text offset there place = (
  [],
  λ o done before.
      let within : t < length o.threads = omega (arith, before.stands.num_threads) in
      let changed = after_begin (session_thread now t) id (cut_text (session_thread now t).form (string_bytes text)) (clock_time at) in
      let new = session_with_thread now t changed now.collected in
      let a : Action = calls t (record { at = at; mark = begun id (string_bytes text) }) in (
        record {
          stands =
              StandsAfter-begun o done now new before.stands t at id (string_bytes text) within
              (changes now new t changed 0 there refl refl (omega arith)) refl
              (tells_same o done a now.collected now.collected before.stands.tells refl refl (λ w. refl)
              (same_told now.collected now.collected refl));
          sums = sums_same o done a now.collected.streams now.collected.streams before.sums refl refl;
        },
        (within, place ∙ ap (λ (th : Thread). begun_place th (string_bytes text)) (before.stands.threads t within)),
      ),
)

-- a registration by a thread
pub Continues-registered : (now : SessionState) (t : ℕ) (name : Option (String Global))
    (function file : String Global) (line id : ℕ) → t < length now.threads
    → Continues now
    (session_with_thread now t
    (after_registering (session_thread now t)
    (with_id (details_given (option_map string_bytes name) (string_bytes function) (string_bytes file) line) id))
    now.collected) (Register t name function file line) (reply.Registered id)
Continues-registered now t name function file line id there = (
  [],
  λ o done before.
      let within : t < length o.threads = omega (arith, before.stands.num_threads) in
      let d = with_id (details_given (option_map string_bytes name) (string_bytes function) (string_bytes file) line) id in
      let changed = after_registering (session_thread now t) d in
      let new = session_with_thread now t changed now.collected in (
        record {
          stands =
              StandsAfter-registered o done now new before.stands t d within
              (changes now new t changed 0 there refl refl (omega arith)) refl
              (tells_same o done (registers t d) now.collected now.collected before.stands.tells refl refl (λ w. refl)
              (same_told now.collected now.collected refl));
          sums = sums_same o done (registers t d) now.collected.streams now.collected.streams before.sums refl refl;
        },
        within,
      ),
)

-- ---- ends

reported_word : {thread : Thread} (r : StreamFacts) → IsReportOf thread r → SpellsWord r (word_of_thread thread)
reported_word r h = record { forest = h.forest; honest = h.honest; form = h.form; toured = sym h.word }

module _ (now : SessionState) (t : ℕ) (at : ℤ) (there : t < length now.threads) where
  -- the innermost scope was an inner one
  ended_inner : (new : SessionState) → 1 < open_after 0 (session_thread now t).word
      → new.threads ≡ set now.threads t (after_end (session_thread now t) (clock_time at))
      → new.collected ≡ now.collected → ContinuesBy now new (End t at 0) (reply.Ended Inner) []
  ended_inner new inner same kept o done before =
      let within : t < length o.threads = omega (arith, before.stands.num_threads) in
      let word = ap (λ (th : Thread). open_after 0 th.word) (before.stands.threads t within) in
      let a : Action = calls t (record { at = at; mark = ended false }) in
      let streams = ap (λ (c : Collected). c.streams) kept in (
        record {
          stands =
              StandsAfter-ended o done now new before.stands t at within
              (changes now new t (after_end (session_thread now t) (clock_time at)) 0 there same
              (ap (λ (c : Collected). c.index) kept) (ap (λ (c : Collected). c.reported) kept ∙ omega arith)) streams
              (tells_same o done a now.collected new.collected before.stands.tells refl refl (λ w. refl)
              (same_told now.collected new.collected kept));
          sums = sums_same o done a now.collected.streams new.collected.streams before.sums refl streams;
        },
        (within, refl, omega (arith, word, inner)),
      )

  -- the last open scope, and its report was accepted
  ended_reported : (new : SessionState) (r : StreamFacts) → open_after 0 (session_thread now t).word ≡ 1
      → new.threads ≡ set now.threads t (after_handing (after_end (session_thread now t) (clock_time at)))
      → SpellsWord r (handed_at_end (session_thread now t) at)
      → AcceptsReport now.collected (key_of_thread (session_thread now t)) (session_thread now t).details r
      new.collected → ContinuesBy now new (End t at 0) (reply.Ended Reported) []
  ended_reported new r last same spells (is_after, ids, alike, fits, short) o done before =
      let within : t < length o.threads = omega (arith, before.stands.num_threads) in
      let th = before.stands.threads t within in
      let word = ap (λ (th : Thread). open_after 0 th.word) th in
      let handing = after_handing (after_end (session_thread now t) (clock_time at)) in
      let scopes = scopes_of r (handed_at_end (session_thread now t) at) spells in
      let a : Action = calls t (record { at = at; mark = ended true }) in
      let streams = ap (λ (c : Collected). c.streams) is_after in
      let index = ap (λ (c : Collected). c.index) is_after in
      let reported = ap (λ (c : Collected). c.reported) is_after ∙ ap (λ (n : ℕ). now.collected.reported + n) scopes in
      let here : SpellsWord r (handed_at_end (thread_after o done t) at) =
      subst (λ (v : Thread). SpellsWord r (handed_at_end v at)) th spells in
      let like = subst (λ (v : Thread). ¬ IsUnlike now.collected (key_of_thread v) r) th alike in
      let due_there : new.collected.streams
      ≡ reported_to now.collected.streams (key_of_thread (thread_after o done t)) r =
      streams ∙ ap (λ (v : Thread). reported_to now.collected.streams (key_of_thread v) r) th in
      let details =
      ap (λ (c : Collected). c.new_details) is_after
      ∙ ap (λ (v : Thread). now.collected.new_details ++ v.details) th
      ∙ sym (waiting-noted now.collected.new_details (thread_after o done t).details) in (
        record {
          stands =
              StandsAfter-reported o done now new before.stands t at r within
              (changes now new t handing (num_begun (handed_at_end (session_thread now t) at).events) there same index
              reported) spells alike streams
              (TellsAfter-more o done a now.collected new.collected before.stands.tells
              (ap (λ (c : Collected). c.collection) is_after) details
              (ap (λ (c : Collected). c.wants_all) is_after));
          sums = sums_more o done a now.collected.streams new.collected.streams before.sums
              (key_of_thread (thread_after o done t)) r (handed_at_end (thread_after o done t) at)
              (deliveries_at-reported o t done at) due_there here;
        },
        (
          within,
          refl,
          (
            sym word ∙ last,
            MayReport-from o done now (ending_key o done t) r (ending_word o done t at) before.stands before.sums here
                like fits short,
          ),
        ),
      )

  -- the last open scope, and its report was refused
  ended_kept : (new : SessionState) (r : StreamFacts) (e : Error) → open_after 0 (session_thread now t).word ≡ 1
      → new.threads ≡ set now.threads t (after_end (session_thread now t) (clock_time at))
      → SpellsWord r (handed_at_end (session_thread now t) at) → new.collected ≡ now.collected
      → AllHaveIds (session_thread now t).details
      → IsReportRefusal now.collected (key_of_thread (session_thread now t)) (session_thread now t).details r e
      → ContinuesBy now new (End t at 0) (reply.Ended (Kept e)) []
  ended_kept new r e last same spells kept ids refusal o done before =
      let within : t < length o.threads = omega (arith, before.stands.num_threads) in
      let th = before.stands.threads t within in
      let word = ap (λ (th : Thread). open_after 0 th.word) th in
      let a : Action = calls t (record { at = at; mark = ended false }) in
      let streams = ap (λ (c : Collected). c.streams) kept in
      let here : SpellsWord r (handed_at_end (thread_after o done t) at) =
      subst (λ (v : Thread). SpellsWord r (handed_at_end v at)) th spells in (
        record {
          stands =
              StandsAfter-ended o done now new before.stands t at within
              (changes now new t (after_end (session_thread now t) (clock_time at)) 0 there same
              (ap (λ (c : Collected). c.index) kept) (ap (λ (c : Collected). c.reported) kept ∙ omega arith)) streams
              (tells_same o done a now.collected new.collected before.stands.tells refl refl (λ w. refl)
              (same_told now.collected new.collected kept));
          sums = sums_same o done a now.collected.streams new.collected.streams before.sums refl streams;
        },
        (
          within,
          refl,
          (
            sym word ∙ last,
            IsRefusal-from o done now (ending_key o done t) r (ending_word o done t at) before.stands before.sums here
                (session_thread now t).details e ids
                (subst
                (λ (v : Thread). IsReportRefusal now.collected (key_of_thread v) (session_thread now t).details r e) th
                refusal),
          ),
        ),
      )

  -- a scope that ends: an inner one, or the last open one whose report is accepted or refused
  pub Continues-ended : (thread : Thread) (collected : Collected) (closed : Closed)
      → AllHaveIds (session_thread now t).details
      → EndsInnermost (session_thread now t) thread (clock_time at) now.collected collected closed
      → Continues now (session_with_thread now t thread collected) (End t at 0) (reply.Ended closed)
  Continues-ended thread collected Inner ids (inner, is, kept) =
      ([], ended_inner (session_with_thread now t thread collected) inner (ap (set now.threads t) is) kept)
  Continues-ended thread collected Reported ids (last, is, (facts, report, accepts)) = (
    [],
    ended_reported (session_with_thread now t thread collected) facts last (ap (set now.threads t) is)
        (reported_word facts report) accepts,
  )
  Continues-ended thread collected (Kept e) ids (last, is, (facts, report, (refusal, kept))) = (
    [],
    ended_kept (session_with_thread now t thread collected) facts e last (ap (set now.threads t) is)
        (reported_word facts report) kept ids refusal,
  )

-- The thread's number is the next one.
use Rattle.std.proofs.Common.{rules, ℕ, ◌+◌, ap, sym, ◌∙◌, refl}
use Rattle.std.specs.Map.{keys_of}
use Rattle.std.specs.List.Sorted.{IsStrictlySortedBy}
use Rattle.puffin_threads.specs.Thread.ThreadKey.{thread_cmp}
use Rattle.puffin_look.proofs.Numbered.{numbers_len, thread_inserted}
use Rattle.puffin_look.proofs.trace.Trace.add_thread.Goals as goal

pub returns-clause-ok : goal.returns-clause-ok
returns-clause-ok c =
    let sorted : IsStrictlySortedBy thread_cmp (keys_of c.args.self.now.numbers.entries) = search rules in (
      ap (λ (n : ℕ). n + 1) (c.len.ensures.len ∙ sym (numbers_len c.args.self.now.numbers.entries sorted)),
      record {
        text = c.in_ok-push_thread_event.ensures;
        overview = refl;
        numbers = thread_inserted c.args.self.now.numbers.entries c.insert.new.self.entries c.in_ok-clone.field-0
            c.args.thread.now _ c.in_ok-insert.ensures.entries c.in_ok-clone.ensures.ok;
      },
    )

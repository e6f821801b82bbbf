-- The number under the key of the thread is that in the map.
use Rattle.std.proofs.Common.{sym, ◌∙◌}
use Rattle.std.proofs.lemmas.Iterator.Adapters.{option_map_id}
use Rattle.puffin_threads.specs.Thread.ThreadKey.{key_of, key_cmp}
use Rattle.puffin_threads.proofs.lemmas.ThreadKeys.{key_cmp_total}
use Rattle.puffin_threads.proofs.lemmas.EntriesSeen.{get-seen}
use Rattle.puffin_look.proofs.trace.Trace.number_under.Goals as goal

pub returns : goal.returns
returns c =
    c.copied.ensures ∙ c.get.ensures.value ∙ sym (option_map_id _)
    ∙ sym (get-seen key_of (λ x. x) key_cmp key_cmp_total c.args.self.now.numbers.entries (key_of c.args.thread.now))

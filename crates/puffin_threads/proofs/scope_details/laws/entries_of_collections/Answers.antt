-- Sorted entries are those of the map that is made from them.
use Rattle.std.proofs.Common.{string_bytes}
use Rattle.std.specs.Ordering.{nat_cmp}
use Rattle.std.specs.Cmp.{nat_cmp_total}
use Rattle.std.specs.Cmp.Lexicographic.{nat_list_cmp_total}
use Rattle.std.specs.Arc.{arc_value}
use Rattle.puffin_threads.specs.Details.{details_of}
use Rattle.puffin_threads.specs.Details.Collection.{bytes_cmp}
use Rattle.puffin_threads.proofs.lemmas.EntriesSeen.{entries-seen}
use Rattle.puffin_threads.proofs.scope_details.laws.entries_of_collections.Goals as goal

pub returns-clause-ids : goal.returns-clause-ids
returns-clause-ids c entries sorted =
    entries-seen (λ k. k) (λ d. details_of (arc_value d)) nat_cmp nat_cmp_total entries sorted

pub returns-clause-names : goal.returns-clause-names
returns-clause-names c entries sorted =
    entries-seen (λ k. string_bytes k) (λ n. n) bytes_cmp nat_list_cmp_total entries sorted

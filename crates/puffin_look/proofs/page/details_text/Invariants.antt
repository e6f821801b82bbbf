-- The elements so far and those of the details that are left are all elements.
use Rattle.std.proofs.Common.{◌≡◌, ◌++◌}
use Rattle.std.specs.List.{flat_map}
use Rattle.std.specs.Map.{values_of}
use Rattle.puffin_threads.specs.Details.{shared_details}
use Rattle.puffin_look.specs.Page.{details_element, details_elements}
use Rattle.puffin_look.proofs.page.details_text.Given as goal

abbrev pub invariant-details : goal.invariant-details
invariant-details l = l.text.items ++ flat_map details_element (shared_details (values_of l.details-iterator)) ≡ details_elements l.known

-- How a collection of details is stored.
use Rattle.puffin_threads.specs.declared.scope_details.collection.ScopeCollection.TheInside.{Inside}
use Rattle.puffin_threads.specs.Details.Collection.{Collection, KeepsOwnIds, by_ids, by_names}

-- a stored collection as contracts see it
abbrev pub collection_in : Inside → Collection
collection_in stored =
    record { by_id = by_ids stored.by_id.entries; by_name = by_names stored.by_name.entries }

-- the invariant of a stored collection
abbrev pub IsCollection : Inside → Type 0
IsCollection stored = KeepsOwnIds (collection_in stored)

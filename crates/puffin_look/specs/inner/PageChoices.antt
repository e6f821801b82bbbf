-- The choice of a page's frames, one frame after the other.
use Rattle.std.specs.Prelude.{◌≡◌, ◌⊎◌, ℕ, List, ◌∷◌, take, Option, Result, Ok, Err}
use Rattle.puffin_data.specs.declared.file_error.FileError.{FileError}
use Rattle.puffin_data.specs.Device.{IsOutside}
use Rattle.puffin_frames.specs.Packet.Stored.{Stored}
use Rattle.puffin_look.specs.Printed.{Begins, EndsBehind}
use Rattle.puffin_look.specs.PageChoice.{rows_of, with_row, slowest, recent, Chosen}
use Rattle.puffin_look.specs.declared.page_choice.Row.{Row}
use Rattle.puffin_look.specs.declared.page_choice.Rows.{Rows}
use Rattle.puffin_look.specs.declared.page_choice.Choice.{Choice}

-- one row more
pub record AddsRow (old new : Rows) (row : Row) : Type 0 where
  pub recent : new.recent.items ≡ take old.limits.recent (row ∷ old.recent.items)
  pub slow : new.slow.items ≡ take old.limits.slow (with_row old.slow.items row)

-- these are the rows of these frames
pub record HasRows (held : Rows) (stored : List Stored) : Type 0 where
  pub recent : held.recent.items ≡ recent held.limits.recent (rows_of stored)
  pub slow : held.slow.items ≡ slowest held.limits.slow (rows_of stored)

-- the frames before the end or the first fault
pub record HasRowsOf (held : Rows) (unread left : Option (List ℕ)) : Type 0 where
  pub stored : List Stored
  pub begins : Begins unread stored
  pub end : EndsBehind unread left stored
  pub rows : HasRows held stored

-- they were read, or the reader or memory failed
abbrev pub ReadsRows : Option (List ℕ) → Option (List ℕ) → Rows → Result (Unit {0}) FileError → Type 0
ReadsRows unread left held (Ok done) = HasRowsOf held unread left
ReadsRows unread left held (Err fault) = IsOutside fault ⊎ HasRowsOf held unread left

abbrev pub chosen_in : Choice → Chosen
chosen_in choice = record { indices = choice.indices.items; room = choice.room }

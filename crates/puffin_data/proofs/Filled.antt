-- A buffer that is read into, piece behind piece.
use Rattle.std.proofs.Common.{◌≡◌, ℕ, ◌+◌, ◌≤◌, List, ◌++◌, length, take, drop, Option, sym, ap, subst, ◌∙◌, length-take-le, take_all, drop_at}
use lib.Seq.{take-add, take-append-le}
use Rattle.std.specs.Io.KnownBytes.{Consumes}
use Rattle.std.proofs.KnownBytes.{Consumes-trans}
use Rattle.std.proofs.lemmas.List.{take_at}

-- A buffer was filled up to `end`. After another read it has that front and `count` bytes more.
pub filled_more : (old mid new : Option (List ℕ)) (before_read after_read : List ℕ) (end count : ℕ)
    → take end after_read ≡ take end before_read → Consumes old mid (take end before_read)
    → Consumes mid new (take count (drop end after_read)) → Consumes old new (take (end + count) after_read)
filled_more old mid new before_read after_read end count same taken read =
    let parts : take (end + count) after_read ≡ take end before_read ++ take count (drop end after_read) =
    take-add end count after_read ∙ ap (λ (any : List ℕ). any ++ take count (drop end after_read)) same in
    subst (Consumes old new) (sym parts) (Consumes-trans old mid new _ _ taken read)

-- The front of a vector that was lengthened is what stood in it.
pub before_room : (old room longer : List ℕ) (at wanted : ℕ) → length old ≡ at → length old ≤ wanted
    → longer ≡ take wanted old ++ room → take at longer ≡ old
before_room old room longer at wanted long below lengthened =
    ap (take at) (lengthened ∙ ap (λ (any : List ℕ). any ++ room) (take_all wanted old below)) ∙ take_at old room at long

-- A buffer that was lent out to be read into from `end` has `count` of the bytes that were read behind what stood before.
pub read_there : (lent part post : List ℕ) (end count : ℕ) → end ≤ length lent → count ≤ length part
    → take (end + count) (take end lent ++ (part ++ post)) ≡ take end lent ++ take count part
read_there lent part post end count within fits =
    let long = length-take-le end lent within in
    let whole = take end lent ++ (part ++ post) in
    take-add end count whole ∙ ap (λ (any : List ℕ). any ++ take count (drop end whole)) (take_at (take end lent) (part ++ post) end long)
    ∙ ap (λ (any : List ℕ). take end lent ++ take count any) (drop_at (take end lent) (part ++ post) end long)
    ∙ ap (λ (any : List ℕ). take end lent ++ any) (take-append-le count part post fits)

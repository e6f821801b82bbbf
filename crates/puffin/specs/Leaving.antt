-- Shares that leave a history, one after the other.
use Rattle.std.specs.Prelude.{◌≡◌, ℕ, ◌<◌, ◌≤◌, ◌==◌, List, All, map, count_by}
use Rattle.history.specs.Entries.{entries_by}
use Rattle.puffin.specs.Happenings.{Happening, marked, left, History}
use Rattle.puffin.specs.Members.{Member, account_of}

-- each share's number, and what happened through it
abbrev pub accounts_of : List Member → List (ℕ × List Happening)
accounts_of members = map account_of members

-- the last entry of each share with these accounts: it leaves
abbrev pub last_entries : List (ℕ × List Happening) → History
last_entries accounts = map (λ account. (account.0, marked left)) accounts

-- Each account is that of one of the first so many authors of the history, with its entries there. No author has two.
pub record AreAuthors (authors : ℕ) (accounts : List (ℕ × List Happening)) (log : History) : Type 0 where
  pub own : All (λ account. account.1 ≡ entries_by account.0 log) accounts
  pub below : All (λ account. account.0 < authors) accounts
  pub most : (number : ℕ) → count_by (λ account. account.0 == number) accounts ≤ 1

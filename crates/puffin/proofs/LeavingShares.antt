-- One share more leaves a history.
use Rattle.std.proofs.Common.{◌≡◌, ℕ, ◌+◌, ◌<◌, List, [], ◌∷◌, ◌++◌, length, refl, ap, sym, subst, ◌∙◌}
use Rattle.std.proofs.Common.{append_assoc, arith}
use Rattle.std.specs.List.{count_by}
use Rattle.std.proofs.lemmas.List.{map-append}
use Rattle.std.proofs.lemmas.List.Sums.{sum_by-append}
use Rattle.std.proofs.lemmas.List.Elements.{All-append, All-cons, All-nil, recursion_from_All}
use Rattle.history.specs.Entries.{entries_by, HasAuthors, AreAllAuthors}
use Rattle.history.proofs.lemmas.Counting.{once_more, all_once}
use Rattle.history.proofs.lemmas.AllAuthors.{not_left, has_authors-prefix}
use Rattle.puffin.specs.Happenings.{Happening, marked, left, is_left, History}
use Rattle.puffin.specs.Members.{Member, account_of, all_reported, all_handed}
use Rattle.puffin.specs.Leaving.{accounts_of, last_entries, AreAuthors}

accounts_more : (members : List Member) (member : Member)
    → accounts_of (members ++ member ∷ []) ≡ accounts_of members ++ account_of member ∷ []
accounts_more members member = map-append account_of members (member ∷ [])

pub none_yet : (n : ℕ) (log : History) → AreAuthors n [] log
none_yet n log = record { own = All-nil _; below = All-nil _; most = λ k. omega arith }

pub entries_more : (log now new : History) (members : List Member) (member : Member)
    → now ≡ log ++ last_entries (accounts_of members)
    → new ≡ now ++ (member.number, marked left) ∷ [] → new ≡ log ++ last_entries (accounts_of (members ++ member ∷ []))
entries_more log now new members member is more = more ∙ ap (λ (l : History). l ++ (member.number, marked left) ∷ []) is
    ∙ append_assoc log (last_entries (accounts_of members)) ((member.number, marked left) ∷ [])
    ∙ ap (λ (l : History). log ++ l) (sym (map-append (λ a. (a.0, marked left)) (accounts_of members) (account_of member ∷ []))
    ∙ ap last_entries (sym (accounts_more members member)))

pub authors_more : (n : ℕ) (log now : History) (members : List Member) (member : Member) → AreAuthors n (accounts_of members) log
    → now ≡ log ++ last_entries (accounts_of members) → member.own ≡ entries_by member.number now
    → count_by is_left member.own ≡ 0
    → member.number < n → AreAuthors n (accounts_of (members ++ member ∷ [])) log
authors_more n log now members member so_far is own stays less =
    let its = not_left (marked left) is_left refl member.number log member.own (accounts_of members)
    (own ∙ ap (entries_by member.number) is) stays in
    let P : ℕ × List Happening → Type 0 = λ a. a.1 ≡ entries_by a.0 log in
    let Q : ℕ × List Happening → Type 0 = λ a. a.0 < n in
    let a : ℕ × List Happening = account_of member in
    subst (λ (as' : List (ℕ × List Happening)). AreAuthors n as' log) (sym (accounts_more members member)) (record {
      own = All-append P (accounts_of members) (a ∷ []) so_far.own (All-cons P a [] its.1 (All-nil P));
      below = All-append Q (accounts_of members) (a ∷ []) so_far.below (All-cons Q a [] less (All-nil Q));
      most = once_more (λ (b : ℕ × List Happening). b.0) (accounts_of members) a so_far.most its.0;
    })

pub reported_more : (members : List Member) (member : Member)
    → all_reported (members ++ member ∷ []) ≡ all_reported members + member.counts.reported
reported_more members member = sum_by-append (λ (x : Member). x.counts.reported) members (member ∷ []) ∙ omega arith

pub handed_more : (members : List Member) (member : Member)
    → all_handed (members ++ member ∷ []) ≡ all_handed members + member.counts.handed
handed_more members member = sum_by-append (λ (x : Member). x.counts.handed) members (member ∷ []) ∙ omega arith

pub has_before : (n : ℕ) (log more now : History) → now ≡ log ++ more → HasAuthors n now → HasAuthors n log
has_before n log more now is has = has_authors-prefix n log more (subst (HasAuthors n) is has)

-- as many as there are authors are all of them
pub all_authors : (n : ℕ) (accounts : List (ℕ × List Happening)) (log : History) → length accounts ≡ n
    → AreAuthors n accounts log → HasAuthors n log → AreAllAuthors n accounts log
all_authors n accounts log long are has = record {
  own = are.own;
  once = all_once (λ (b : ℕ × List Happening). b.0) n accounts long (recursion_from_All (λ a. a.0 < n) accounts are.below) are.most;
  has = has;
}

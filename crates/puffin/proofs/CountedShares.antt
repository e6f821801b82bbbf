-- Shares with the numbers that their threads counted.
use Rattle.std.proofs.Common.{◌≡◌, ℕ, ◌+◌, ◌<◌, ◌^◌, List, [], ◌∷◌, ◌++◌, sum_by, ◌∙◌, arith}
use Rattle.std.proofs.lemmas.List.Sums.{sum_by-append}
use Rattle.puffin.specs.declared.light.outcome.ThreadCounts.{ThreadCounts}
use Rattle.puffin.specs.Members.{Member, all_reported, all_handed}

-- one share more, whose thread counted as much, beside what the leader counted
pub counted_more : (leader : ℕ) (shares : List Member) (counts : List ThreadCounts) (s : Member) (t : ThreadCounts)
    → (all_reported shares < 2 ^ 64 → leader + sum_by (λ (c : ThreadCounts). c.reported) counts ≡ all_reported shares)
    → (s.counts.reported < 2 ^ 64 → t.reported ≡ s.counts.reported)
    → all_reported (shares ++ s ∷ []) < 2 ^ 64
    → leader + sum_by (λ (c : ThreadCounts). c.reported) (counts ++ t ∷ []) ≡ all_reported (shares ++ s ∷ [])
counted_more leader shares counts s t so_far one below =
    let whole : all_reported (shares ++ s ∷ []) ≡ all_reported shares + s.counts.reported =
    sum_by-append (λ (m : Member). m.counts.reported) shares (s ∷ []) ∙ omega arith in
    let each : sum_by (λ (c : ThreadCounts). c.reported)
    (counts ++ t ∷ []) ≡ sum_by (λ (c : ThreadCounts). c.reported) counts + t.reported =
    sum_by-append (λ (c : ThreadCounts). c.reported) counts (t ∷ []) ∙ omega arith in
    let before : all_reported shares < 2 ^ 64 = omega (arith, whole, below) in
    let last : s.counts.reported < 2 ^ 64 = omega (arith, whole, below) in
    omega (arith, whole, each, so_far before, one last)

-- one share more, to which nothing was handed out
pub handed_more : (shares : List Member) (s : Member) (n : ℕ) → all_handed shares ≡ n → s.counts.handed ≡ 0
    → all_handed (shares ++ s ∷ []) ≡ n
handed_more shares s n so_far none =
    let whole : all_handed (shares ++ s ∷ []) ≡ all_handed shares + s.counts.handed =
    sum_by-append (λ (m : Member). m.counts.handed) shares (s ∷ []) ∙ omega arith in
    omega (arith, whole, so_far, none)

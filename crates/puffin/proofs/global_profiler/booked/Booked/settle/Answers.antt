-- All shares leave the history, which stands as before; and together they know all of it.
use Rattle.std.proofs.Common.{rules, ◌≡◌, ◌++◌, ◌∷◌, [], ℕ, List, vec_len, sym, subst, ◌∙◌}
use Rattle.std.proofs.lemmas.List.{length-map}
use Rattle.history.specs.Entries.{events, HasAuthors}
use Rattle.puffin_frames.specs.Frame.Contents.{Streams}
use Rattle.puffin.specs.Profiler.{collected_of}
use Rattle.puffin.specs.Happenings.{Happening, History, Stands, HasMet, AreSeen}
use Rattle.puffin.specs.Members.{Member, account_of}
use Rattle.puffin.specs.Leaving.{accounts_of, AreAuthors}
use Rattle.puffin.proofs.Growing.{left_stands, left_met}
use Rattle.puffin.proofs.LeavingShares.{all_authors}
use Rattle.puffin.proofs.SpelledThreads.{recounted}
use Rattle.puffin.proofs.global_profiler.booked.Booked.settle.Goals as goal

pub invariant_of-self : goal.invariant_of-self
invariant_of-self g c =
    let old = c.args.self.now in let longer = c.leave_all-all_reported.ensures.log in
    let accounts : List (ℕ × List Happening) = accounts_of (c.pop.new.self.items ++ c.in-Some.last ∷ []) in
    let pending : Streams = (collected_of old.profiler).streams in
    let met = left_met old.arrived old.released old.log.entries accounts (old.met, old.seen) in
    record {
      reported_is = c.audit.ensures.total ∙ old.reported_is;
      handed_is = c.audit-2.ensures.total ∙ old.handed_is;
      authors_are = longer.0 ∙ old.authors_are;
      stands = subst (λ (log : History). ∥ Stands pending (events log) ∥₁) (sym longer.1)
          (left_stands pending old.log.entries accounts old.stands);
      met = subst (λ (log : History). HasMet old.arrived old.released (events log)) (sym longer.1) met.0;
      seen = subst (λ (log : History). AreSeen 0 0 (events log)) (sym longer.1) met.1;
    }

pub returns-clause-history : goal.returns-clause-history
returns-clause-history g c =
    let old = c.args.self.now in let left = c.leave_all-all_reported.ensures in let items : List Member = c.args.shares.items in
    let num_shares : ℕ = vec_len c.args.shares in
    let many : old.log.authors ≡ num_shares = search rules in
    let split : c.args.shares.items ≡ c.pop.new.self.items ++ c.in-Some.last ∷ [] = search rules in
    let are : AreAuthors num_shares (accounts_of items) old.log.entries =
    subst (λ (ms : List Member). AreAuthors num_shares (accounts_of ms) old.log.entries) (sym split)
    (subst (λ (authors : ℕ). AreAuthors authors (accounts_of (c.pop.new.self.items ++ c.in-Some.last ∷ [])) old.log.entries)
    many left.authors) in
    recounted num_shares (accounts_of items) old.log.entries (collected_of old.profiler).streams old.stands old.seen
    (all_authors num_shares (accounts_of items) old.log.entries (length-map items account_of ∙ sym c.args.shares.ok.0) are
    (subst (λ (authors : ℕ). HasAuthors authors old.log.entries) many left.has))

-- Unfolding has one right answer, and leaves the lent words in one way.
use Rattle.std.proofs.Common.{◌≡◌, ℕ, List, length, sym, ◌∙◌}
use Rattle.std.specs.Prelude.{Result}
use Rattle.model.specs.Entries.{unfold_entry, words_after}
use Rattle.refusals.specs.Refusals.{told_as}
use Rattle.refusals.specs.declared.Refusal.{Refusal}
use Rattle.refusals.proofs.Unique.{one_answer}
use Rattle.room.specs.declared.Need.{Need}
use Rattle.listing.specs.Listings.{counts}

-- an answer says one thing only
pub told_once : (a b : Result Need Refusal) → told_as counts a ≡ told_as counts b → a ≡ b
told_once = one_answer counts (λ m n e. λ i. record { rules = (e i).rules; words = (e i).words })

module _ (book lent : List ℕ) where
  pub unfold_book_unique : (a b : Result Need Refusal) → told_as counts a ≡ unfold_entry book (length lent) → told_as counts b ≡ unfold_entry book (length lent) → a ≡ b
  unfold_book_unique a b p q = told_once a b (p ∙ sym q)

  pub words_unique : (after after' : List ℕ) → after ≡ words_after (unfold_entry book (length lent)) book lent
      → after' ≡ words_after (unfold_entry book (length lent)) book lent → after ≡ after'
  words_unique after after' p q = p ∙ sym q

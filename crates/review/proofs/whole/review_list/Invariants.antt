-- `review::whole::review_list` meets its contract. The invariant: the review of the rest, with the suspects in the slots, is the review of all. Assumes nothing.
use Rattle.std.proofs.Common.{◌-◌, length}
use Rattle.review.specs.Reviews.{Reviewable}
use Rattle.review.proofs.Listing.{Rest}
use Rattle.review.proofs.whole.review_list.Given as goal

abbrev pub invariant-loop-at : goal.invariant-loop-at
invariant-loop-at l = (x : Reviewable l.book l.list l.port l.initial.suspects) → Rest x l.at l.suspects

abbrev pub decreases-loop-at : goal.decreases-loop-at
decreases-loop-at l = length l.list - l.at

-- What the start of a review answers, in the order of its refusals. Definitions only.
use Rattle.std.specs.Prelude.{ℕ, List, ◌≡◌, Result}
use Rattle.model.specs.Answer.{Answer, fine, refused, ◌>>=◌}
use Rattle.model.specs.Tree.{Book}
use Rattle.model.specs.Spans.{Spans}
use Rattle.model.specs.Plan.{plan_of, ranges_of}
use Rattle.model.specs.Entries as entries
use Rattle.model.specs.Entries.{room, started, filled}
use Rattle.refusals.specs.Refusals.{told_as}
use Rattle.refusals.specs.declared.Refusal.{Refusal}
use Rattle.listing.specs.Listings.{counts}
use Rattle.review.specs.States.{state_of}
use Rattle.review.specs.declared.Started.{Started}

-- the answer in the model's words
abbrev pub started_of : Started → entries.Started
started_of s = record { counts = counts s.counts; state = state_of s.state }

abbrev pub start_told : Result Started Refusal → Answer entries.Started
start_told = told_as started_of

-- once the port's ranges are known, and once the book is read
abbrev pub start_on : Book → Spans → ℕ → ℕ → Answer entries.Started
start_on b ranges port lent = do
  list ← room lent b
  fine (started port ranges list)

abbrev pub start_behind : Book → List ℕ → ℕ → ℕ → Answer entries.Started
start_behind b plan port lent = do
  ports ← plan_of plan
  ranges ← ranges_of port ports
  start_on b ranges port lent

-- the lent words after it
abbrev pub leaves : Answer entries.Started → Book → List ℕ → List ℕ
leaves (fine a) b lent = filled lent (fine b)
leaves (refused n p) b lent = lent

-- the answer is a, and the lent words are left as w
pub record Starts (a : Answer entries.Started) (w : List ℕ) (r : Result Started Refusal) (after : List ℕ) : Type 0 where
  pub answer : start_told r ≡ a
  pub lent : after ≡ w

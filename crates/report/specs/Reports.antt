-- The report's answer, and what its functions write. Definitions only.
use Rattle.std.specs.Prelude.{ℕ, ⊤, List, ◌++◌, ◌≡◌, leb, length, get_or, drop, Result, Ok, Err}
use Rattle.arrayvec.specs.ArrayVec.{ArrayVec}
use Rattle.model.specs.Limits.{greatest}
use Rattle.model.specs.Answer.{Answer, fine, refused, ◌>>=◌, when}
use Rattle.model.specs.Tree.{Book}
use Rattle.model.specs.Calls.{readable}
use Rattle.model.specs.Plan.{Port, plan_of}
use Rattle.model.specs.Spans.{complement}
use Rattle.model.specs.Unfolding.{list_of, words_of}
use Rattle.model.specs.Review as model
use Rattle.model.specs.Report.{body, port_lines, digits}
use Rattle.model.specs.Entries.{room}
use Rattle.refusals.specs.Refusals.{number_of}
use Rattle.refusals.specs.declared.Refusal.{Refusal}
use Rattle.plan.specs.Contents as plans
use Rattle.plan.specs.declared.PlanContents.{PlanContents}
use Rattle.review.specs.Reviews.{phase_told}
use Rattle.review.specs.declared.Reviewed.{Reviewed}

-- THE ENTRY: 1 to 10, then 11, then 13; and else the lines below the header
abbrev pub list_part : Book → List Port → ℕ → Answer (List ℕ)
list_part b ports lent = do
  list ← room lent b
  fine (body b ports list)

abbrev pub plan_part : Book → List ℕ → ℕ → Answer (List ℕ)
plan_part b plan lent = do
  ports ← plan_of plan
  list_part b ports lent

unfoldable pub report_entry : List ℕ → List ℕ → ℕ → Answer (List ℕ)
unfolding readable plan_of list_of words_of port_lines digits
report_entry book plan lent = do
  b ← readable book
  plan_part b plan lent

-- the answer: the report's bytes, or that the lent text is too short for them, our own 19
unfoldable pub answer_of : List ℕ → ℕ → Answer ℕ
answer_of t lent = when (leb (length t) lent) (fine (length t)) (refused 19 (length t))

-- the text after it: where it has room the first bytes are the report, and the others as they were
unfoldable pub text_after : List ℕ → List ℕ → List ℕ
text_after t text = when (leb (length t) (length text)) (t ++ drop (length t) text) text

-- WHAT THE FUNCTIONS GO BY

-- the book was read, and this is its list
pub record ListIn (s list : List ℕ) : Type 0 where
  pub book : Book
  pub read : readable s ≡ fine book
  pub are : list ≡ words_of (list_of book)

-- a plan was read, and these are its contents
pub record PlanIn (c : PlanContents) : Type 0 where
  pub bytes : List ℕ
  pub ports : List Port
  pub read : plan_of bytes ≡ fine ports
  pub contents : c ≡ plans.contents_of ports

-- AND WHAT THEY DO

-- what the review of port i comes to
abbrev pub PortReviewed : List ℕ → PlanContents → ℕ → Reviewed → Type 0
PortReviewed s c i r = (b : Book) → readable s ≡ fine b → phase_told r ≡ model.review (get_or c.number i 0) (complement greatest (plans.ranges_at c i)) (list_of b)

abbrev pub PortsPut : List ℕ → PlanContents → ArrayVec ℕ → ArrayVec ℕ → Type 0
PortsPut s c w w' = (b : Book) → readable s ≡ fine b → w'.items ≡ w.items ++ port_lines (list_of b) (plans.ports_at c 0 c.ports)

-- the lines below the header, or a refusal and no byte changed
abbrev pub BodyPut : Answer (List ℕ) → ArrayVec ℕ → Result ⊤ Refusal → ArrayVec ℕ → Type 0
BodyPut (fine t) w (Ok r) w' = w'.items ≡ w.items ++ t
BodyPut (fine t) w (Err e) w' = ⊥
BodyPut (refused n p) w (Ok r) w' = ⊥
BodyPut (refused n p) w (Err e) w' = (n ≡ number_of e.fault) × (p ≡ e.place) × (w' ≡ w)

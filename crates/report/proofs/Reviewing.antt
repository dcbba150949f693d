-- Port i of a plan that was read, over the list of a book that was read.
use Prim.Native.Nat.{ℕ, ◌<◌}
use mathlib.Core.List.{List}
use mathlib.Core.Path.{◌≡◌, ap, sym, ◌∙◌, subst}
use lib.ListN.{get_or}
use Rattle.model.specs.Limits.{greatest}
use Rattle.model.specs.Answer.{fine}
use Rattle.model.specs.Tree.{Book}
use Rattle.model.specs.Plan.{ranges_of}
use Rattle.model.specs.Spans.{complement}
use Rattle.model.specs.Unfolding.{list_of}
use Rattle.model.specs.Review.{review}
use Rattle.model.specs.Entries.{list_in, suspects_in}
use Rattle.model.proofs.Success.{fine_same}
use Rattle.plan.specs.Contents.{PlanCharted, ranges_at, ranges_asked}
use Rattle.plan.specs.declared.PlanContents.{PlanContents}
use Rattle.plan.proofs.Charted.{plan_charted}
use Rattle.suspects.specs.Slots.{writes}
use Rattle.suspects.specs.declared.Suspects.{Suspects}
use Rattle.review.specs.Reviews.{Reviewable, phase_told}
use Rattle.review.specs.declared.Reviewed.{Reviewed}
use Rattle.report.specs.Reports.{ListIn, PlanIn, PortReviewed}

module _ (s list : List ℕ) (l : ListIn s list) (c : PlanContents) (p : PlanIn c) (i : ℕ) (lt : i < c.ports) where
  charted : PlanCharted p.ports c
  charted = subst (PlanCharted p.ports) (sym p.contents) (plan_charted p.bytes p.ports p.read)

  pub own_ranges : ranges_of (get_or c.number i 0) p.ports ≡ fine (ranges_at c i)
  own_ranges = charted.ranges (get_or c.number i 0) ∙ ap (ranges_asked c (get_or c.number i 0)) (charted.own i lt)

  module _ (t : Suspects) (h : writes t (complement greatest (ranges_at c i))) where
    abbrev pub reviewable : Reviewable s list (get_or c.number i 0) t
    reviewable = record {
      plan = p.bytes;
      inputs = record { b = l.book; ports = p.ports; ranges = ranges_at c i; is_book = l.read; is_plan = p.read; are_ranges = own_ranges };
      are = l.are;
      suspects = h;
    }

    pub reviewed : (r : Reviewed) → ((x : Reviewable s list (get_or c.number i 0) t) → phase_told r ≡ review (get_or c.number i 0) (suspects_in x.inputs) (list_in x.inputs)) → PortReviewed s c i r
    reviewed r h b e = subst (λ (x : Book). phase_told r ≡ review (get_or c.number i 0) (complement greatest (ranges_at c i)) (list_of x)) (fine_same (sym l.read ∙ e)) (h reviewable)

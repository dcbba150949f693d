-- NO REPORT IS LONGER than the buffer, so a text of that many bytes has room for any.
use Prim.Native.Nat.{ℕ, ◌*◌, ◌≤◌}
use native.Mathlib.Omega.{arith}
use mathlib.Core.Bool.{Bool, true, false}
use mathlib.Core.List.{List, [], ◌∷◌, ◌++◌}
use mathlib.Core.Path.{◌≡◌, refl}
use lib.Dec.{leb}
use lib.ListN.{length, length-append}
use Rattle.model.specs.Limits.{greatest, ports_most}
use Rattle.model.specs.Answer.{Answer, fine, refused, ◌>>=◌, when}
use Rattle.model.specs.Tree.{Book}
use Rattle.model.specs.Calls.{readable}
use Rattle.model.specs.Plan.{Port, plan_of}
use Rattle.model.specs.Text.{bytes}
use Rattle.model.specs.Review.{review}
use Rattle.model.specs.Spans.{complement}
use Rattle.model.specs.Unfolding.{ListRule, list_of, words_of}
use Rattle.model.specs.Report.{report, body, body_text, port_line, port_lines}
use Rattle.model.proofs.PlanRead.{plan_good}
use Rattle.report.specs.Lines.{line_most, body_most, buffer_bytes, counts_text}
use Rattle.report.specs.Reports.{list_part, plan_part}
use Rattle.report.proofs.Lengths.{port_short, counts_short, refusal_short}

lines_short : (list : List ListRule) (ps : List Port) → length (port_lines list ps) ≤ length ps * line_most
unfolding port_lines
lines_short list [] = omega arith
lines_short list (p ∷ ps) =
    omega (arith, length-append (port_line list p) (port_lines list ps), (port_short p.number (review p.number (complement greatest p.ranges) list)).within, lines_short list ps)

module _ (lent : ℕ) (plan : List ℕ) where
  list_short : (b : Book) (ports : List Port) → length ports ≤ ports_most → length (body_text (list_part b ports lent)) ≤ body_most
  list_short b ports h = go (leb (length (words_of (list_of b))) lent) (length (words_of (list_of b)))
    where
      go : (t : Bool) (k : ℕ) → length (body_text (◌>>=◌ (when t (fine (list_of b)) (refused 13 k)) (λ list. fine (body b ports list)))) ≤ body_most
      go true k = omega (arith, length-append (counts_text b.total (length (list_of b))) (port_lines (list_of b) ports), (counts_short b.total (length (list_of b))).within, lines_short (list_of b) ports)
      go false k = omega (arith, (refusal_short 13 k).within)

  plan_short : (b : Book) → length (body_text (plan_part b plan lent)) ≤ body_most
  plan_short b = go (plan_of plan) refl
    where
      go : (m : Answer (List Port)) → plan_of plan ≡ m → length (body_text (◌>>=◌ m (λ ports. list_part b ports lent))) ≤ body_most
      go (fine ports) e = list_short b ports (plan_good plan ports e).few
      go (refused n p) e = omega (arith, (refusal_short n p).within)

  pub report_short : (book : List ℕ) → length (report book plan lent) ≤ buffer_bytes
  unfolding report
  report_short book = go (readable book)
    where
      go : (m : Answer Book) → length (bytes "spoof report 1\n" ++ body_text (◌>>=◌ m (λ b. plan_part b plan lent))) ≤ buffer_bytes
      go (fine b) = omega (arith, length-append (bytes "spoof report 1\n") (body_text (plan_part b plan lent)), plan_short b)
      go (refused n p) = omega (arith, length-append (bytes "spoof report 1\n") (body_text (refused n p)), (refusal_short n p).within)

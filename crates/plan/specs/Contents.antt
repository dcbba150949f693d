-- A plan's contents as the code holds them, and the asked port in them.
use Rattle.std.specs.Prelude.{ℕ, zero, suc, ◌+◌, ◌-◌, ◌*◌, ◌≤◌, ◌<◌, ◌≡◌, List, [], ◌∷◌, ◌++◌, map, length, get_or, eqb, Option, Some, None}
use Rattle.model.specs.Limits.{greatest, port_highest, ports_most, ranges_most}
use Rattle.model.specs.Answer as answer
use Rattle.model.specs.Answer.{Answer, fine, when}
use Rattle.model.specs.Spans.{Span, Spans, Canonical}
use Rattle.model.specs.Plan.{Port, ranges_of}
use Rattle.model.specs.Filling.{padded}
use Rattle.plan.specs.declared.PlanContents.{PlanContents}

-- room for the ranges of every port
abbrev pub slots : ℕ
slots = ports_most * ranges_most

abbrev pub lows : Spans → List ℕ
lows rs = map (λ (r : Span). r.low) rs

abbrev pub highs : Spans → List ℕ
highs rs = map (λ (r : Span). r.high) rs

abbrev pub numbers : List Port → List ℕ
numbers ps = map (λ (p : Port). p.number) ps

-- the ranges of all ports, one port's after the other's
abbrev pub all_ranges : List Port → Spans
all_ranges [] = []
all_ranges (p ∷ ps) = p.ranges ++ all_ranges ps

-- where the ranges of each port start, those of the first at `to`, and last where all end
abbrev pub starts : ℕ → List Port → List ℕ
starts to [] = to ∷ []
starts to (p ∷ ps) = to ∷ starts (to + length p.ranges) ps

unfoldable pub contents_of : List Port → PlanContents
contents_of ps = record {
  ports = length ps;
  number = padded ports_most (numbers ps);
  first = padded (suc ports_most) (starts 0 ps);
  low = padded slots (lows (all_ranges ps));
  high = padded slots (highs (all_ranges ps));
}

-- WHAT READING A PLAN ANSWERS
abbrev pub plan_answer : Answer (List Port) → Answer PlanContents
plan_answer (fine ps) = fine (contents_of ps)
plan_answer (answer.refused n p) = answer.refused n p

-- n ranges, the first in slot i
abbrev pub spans_from : List ℕ → List ℕ → ℕ → ℕ → Spans
spans_from low high i zero = []
spans_from low high i (suc n) = record { low = get_or low i 0; high = get_or high i 0 } ∷ spans_from low high (suc i) n

-- the ranges of port i of the contents
abbrev pub ranges_at : PlanContents → ℕ → Spans
ranges_at c i = spans_from c.low c.high (get_or c.first i 0) (get_or c.first (i + 1) 0 - get_or c.first i 0)

-- n ports of the contents, from port i on
abbrev pub ports_at : PlanContents → ℕ → ℕ → List Port
ports_at c i zero = []
ports_at c i (suc n) = record { number = get_or c.number i 0; ranges = ranges_at c i } ∷ ports_at c (suc i) n

-- the first of n ports from port i on that has the asked number
unfoldable pub asked : List ℕ → ℕ → ℕ → ℕ → Option ℕ
asked number port i zero = None
asked number port i (suc n) = let r = asked number port (suc i) n in when (eqb (get_or number i 0) port) (Some i) r

-- what is told of the asked port: its ranges, or refusal 12
abbrev pub ranges_asked : PlanContents → ℕ → Option ℕ → Answer Spans
ranges_asked c port (Some i) = fine (ranges_at c i)
ranges_asked c port None = answer.refused 12 port

-- what walking over the contents of a read plan relies on
pub record PlanShape (c : PlanContents) : Type 0 where
  pub few : c.ports ≤ ports_most
  pub known : (i : ℕ) → i < c.ports → get_or c.number i 0 ≤ port_highest
  pub rising : (i : ℕ) → i < c.ports → get_or c.first i 0 ≤ get_or c.first (i + 1) 0
  pub inside : (i : ℕ) → i < c.ports → get_or c.first (i + 1) 0 ≤ slots
  pub short : (i : ℕ) → i < c.ports → get_or c.first (i + 1) 0 - get_or c.first i 0 ≤ ranges_most
  pub canonical : (i : ℕ) → i < c.ports → Canonical greatest (ranges_at c i)

-- THE CONTENTS ARE THE PLAN: they hold its ports in order, and the asked port's ranges
pub record PlanCharted (ps : List Port) (c : PlanContents) : Type 0 where
  pub shape : PlanShape c
  pub ports : ports_at c 0 c.ports ≡ ps
  pub ranges : (port : ℕ) → ranges_of port ps ≡ ranges_asked c port (asked c.number port 0 c.ports)
  pub own : (i : ℕ) → i < c.ports → asked c.number (get_or c.number i 0) 0 c.ports ≡ Some i

-- How long the report's texts are at most, counted crudely.
use Prim.Native.Nat.{ℕ, ◌+◌, ◌≤◌, ◌/◌, ◌%◌, ◌^◌}
use native.Mathlib.Omega.{arith}
use mathlib.Core.List.{List, ◌∷◌, ◌++◌}
use lib.ListN.{length, length-append}
use Rattle.model.specs.Text.{bytes}
use Rattle.model.specs.Review.{Phase, running, certified}
use Rattle.model.specs.Review as phase
use Rattle.model.specs.Report.{decimal, dotted, verdict_text}
use Rattle.text.specs.Puts.{dotted_most}
use Rattle.text.proofs.Appends.{decimal_short}
use Rattle.report.specs.Lines.{verdict_most, line_most, counts_most, refusal_most, port_text, counts_text, refusal_text}

pub record Short (xs : List ℕ) (k : ℕ) : Type 0 where
  pub within : length xs ≤ k

short : (xs : List ℕ) (k : ℕ) → length xs ≤ k → Short xs k
short xs k h = record { within = h }

-- a text and another behind it
pub and_short : {xs ys : List ℕ} {k j : ℕ} → Short xs k → Short ys j → Short (xs ++ ys) (k + j)
and_short {xs} {ys} p q = record { within = omega (arith, length-append xs ys, p.within, q.within) }

number : (x : ℕ) → Short (decimal x) 10
number x = short (decimal x) 10 (decimal_short x)

part : (x : ℕ) → Short (46 ∷ decimal x) 11
part x = short (46 ∷ decimal x) 11 (omega (arith, decimal_short x))

address : (x : ℕ) → Short (dotted x) dotted_most
address x = and_short (and_short (and_short (number (x / 2 ^ 24)) (part (x / 2 ^ 16 % 256))) (part (x / 2 ^ 8 % 256))) (part (x % 256))

pub verdict_short : (p : Phase) → length (verdict_text p) ≤ verdict_most
verdict_short running = omega arith
verdict_short certified = omega arith
verdict_short (phase.refused n x) = let t : Short (verdict_text (phase.refused n x)) verdict_most = and_short (and_short (and_short (short (bytes " refused rule ") 14 (omega arith)) (number n)) (short (bytes " source ") 8 (omega arith))) (address x) in t.within

pub port_short : (n : ℕ) (p : Phase) → Short (port_text n p) line_most
port_short n p = and_short (and_short (and_short (short (bytes "port ") 5 (omega arith)) (number n)) (short (verdict_text p) 75 (verdict_short p))) (short (bytes "\n") 1 (omega arith))

pub counts_short : (n m : ℕ) → Short (counts_text n m) counts_most
counts_short n m = and_short (and_short (and_short (and_short (short (bytes "rules ") 6 (omega arith)) (number n)) (short (bytes " list ") 6 (omega arith))) (number m)) (short (bytes "\n") 1 (omega arith))

pub refusal_short : (n p : ℕ) → Short (refusal_text n p) refusal_most
refusal_short n p = and_short (and_short (and_short (and_short (short (bytes "refused ") 8 (omega arith)) (number n)) (short (bytes " place ") 7 (omega arith))) (number p)) (short (bytes "\n") 1 (omega arith))

-- The tables out of which `expression` and `action_in` choose, each by the definition's own words, so that a proof can name one at a kind.
use Prim.Native.Nat.{ℕ, zero}
use mathlib.Core.List.{List, [], ◌∷◌}
use Rattle.model.specs.Limits.{operands_most, port_highest, protocol_highest, service_highest, unread_highest}
use Rattle.model.specs.Reader.{Reader, ◌>>=◌, give, each}
use Rattle.model.specs.Number.{number}
use Rattle.model.specs.Tree.{Expr, exprs, Action}
use Rattle.model.specs.Tree.Expr.{always, negation, conjunction, leaf}
use Rattle.model.specs.Tree.Leaf.{source, destination, service, port, protocol, unread}
use Rattle.model.specs.Tree.Action.{accept, drop, reject, log, empty, return, call}
use Rattle.model.specs.Book.{within, one_more_source, expression, called_chain}

abbrev pub expression_kinds : ℕ → ℕ → List (Reader Expr)
expression_kinds levels start =
    give (always start)
    ∷ (do
      e ← expression levels
      give (negation start e))
    ∷ (do
      n ← within 2 operands_most
      es ← each n zero (λ i. expression levels)
      give (conjunction start (exprs es)))
    ∷ (do
      _ ← one_more_source start
      low ← number
      high ← number
      give (leaf start (source low high)))
    ∷ (do
      p ← within 0 port_highest
      give (leaf start (port p)))
    ∷ (do
      low ← number
      high ← number
      give (leaf start (destination low high)))
    ∷ (do
      n ← within 0 protocol_highest
      give (leaf start (protocol n)))
    ∷ (do
      low ← within 0 service_highest
      high ← within 0 service_highest
      give (leaf start (service low high)))
    ∷ (do
      k ← within 0 unread_highest
      give (leaf start (unread k)))
    ∷ []

abbrev pub actions : ℕ → List (Reader Action)
actions chains =
    give accept ∷ give drop ∷ give reject ∷ give log ∷ give empty ∷ give return
    ∷ (do
      c ← called_chain chains
      give (call c))
    ∷ []

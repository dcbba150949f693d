-- Document 01's numbers of the kinds. Definitions only.
use Rattle.std.specs.Prelude.{ℕ, List, ◌≡◌, ◌<◌, Result, MatchResult}
use Rattle.model.specs.Number.{numeral, number_at}
use Rattle.expressions.specs.declared.Kind.{Kind}
use Rattle.expressions.specs.declared.Kind.TheVariants.{Always, Not, All, Source, Port, Destination, Protocol, Service, Unread}
use Rattle.expressions.specs.declared.UnknownKind.{UnknownKind}

abbrev pub kind_number : Kind → ℕ
kind_number Always = 0
kind_number Not = 1
kind_number All = 2
kind_number Source = 3
kind_number Port = 4
kind_number Destination = 5
kind_number Protocol = 6
kind_number Service = 7
kind_number Unread = 8

-- the kind that a number names, or that there is none
abbrev pub Names : ℕ → Result Kind UnknownKind → Type 0
Names n r = MatchResult r (λ k. kind_number k ≡ n) (λ e. (e.0 ≡ n) × (8 < n))

-- a kind without operands stands at a place, up to the next
pub record Plain (s : List ℕ) (place : ℕ) (kind : Kind) (next : ℕ) : Type 0 where
  pub stands : number_at s place ≡ numeral (kind_number kind) next
  pub single : kind ≡ Not → ⊥
  pub several : kind ≡ All → ⊥

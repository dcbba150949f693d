-- What walking the chains gives: an outcome, or a step where the rules behind have their say too. Definitions only.
use Rattle.std.specs.Prelude.{ℕ, ◌<◌, List, ◌≡◌, length, Option, Some, None}
use Rattle.model.specs.Answer.{when}
use Rattle.model.specs.Tree.{Book, Rule}
use Rattle.model.specs.Standing.{Standing, RuleStands, BookStands}
use Rattle.model.specs.Matching.{matches}
use Rattle.model.specs.Chains as model
use Rattle.model.specs.Chains.{accepted, denied, undecided, act, walk, chain_verdict}
use Rattle.book.specs.Contents.{expression_at, Noted, Charted}
use Rattle.book.specs.declared.Contents.{Contents}
use Rattle.book.specs.declared.Verdict.{Verdict}
use Rattle.book.specs.declared.Verdict.TheVariants.{Accept, Drop}
use Rattle.walks.specs.declared.Packet.{Packet}
use Rattle.walks.specs.declared.Step.{Step}
use Rattle.walks.specs.declared.Step.TheVariants.{Decides, Leaves, GoesOn}
use Rattle.walks.specs.Packets.{packet_of}

-- the model's outcome for a verdict, or for none
abbrev pub decided : Verdict → model.Outcome
decided Accept = accepted
decided Drop = denied

abbrev pub outcome_of : Option Verdict → model.Outcome
outcome_of (Some v) = decided v
outcome_of None = undecided

-- what a chain comes to after a step, given what the rules behind come to
abbrev pub after : Step → model.Outcome → model.Outcome
after (Decides v) rest = decided v
after Leaves rest = undecided
after GoesOn rest = rest

-- the contents with n rules in all
abbrev pub counting : Contents → ℕ → Contents
counting k n = record { policy = k.policy; chains = k.chains; rules = n; first = k.first; noted = k.noted }

-- The contents are b's, whatever they count: a walk goes by each chain's rules. And b's expressions stand in the bytes.
pub record Kept (s : List ℕ) (k : Contents) (b : Book) : Type 0 where
  pub charted : Charted b (counting k b.total)
  pub stands : BookStands s b

-- so they are of some book, of which P holds
pub record Keeping (s : List ℕ) (k : Contents) (P : Book → Type 0) : Type 0 where
  pub book : Book
  pub kept : Kept s k book
  pub so : P book

abbrev pub HasChains : ℕ → Book → Type 0
HasChains n b = length b.chains ≡ n

abbrev pub HasChain : ℕ → Book → Type 0
HasChain c b = c < length b.chains

-- rule i is one of the book's, and its expression stands where the contents say
abbrev pub HasRule : List ℕ → Contents → ℕ → Book → Type 0
HasRule s k i b = (i < b.total) × Standing s (expression_at k i)

module _ (s answers : List ℕ) (p : Packet) (k : Contents) where
  -- of whatever rule of whatever book has this number
  abbrev pub WalksRule : ℕ → ℕ → Step → Type 0
  WalksRule i depth r = (b : Book) → Kept s k b → i < b.total → (u : Rule) → Noted k i u → RuleStands s u → (rest : model.Outcome)
      → after r rest ≡ when (matches answers (packet_of p) u.match) (act (walk depth b (matches answers (packet_of p))) u.action rest) rest

  abbrev pub WalksChain : ℕ → ℕ → Option Verdict → Type 0
  WalksChain c depth r = (b : Book) → Kept s k b → HasChain c b → outcome_of r ≡ walk depth b (matches answers (packet_of p)) c

  -- 0 accept, 1 drop
  abbrev pub ChainsSay : ℕ → ℕ → Type 0
  ChainsSay policy r = (b : Book) → Kept s k b → b.policy ≡ policy → r ≡ chain_verdict b (matches answers (packet_of p))

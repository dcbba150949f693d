-- The book's grammar, from left to right, in document 01's words and order.
use Rattle.std.specs.Prelude.{ℕ, zero, suc, ◌+◌, ◌&&◌, List, [], ◌∷◌, length, leb, ltb, eqb}
use Rattle.model.specs.Limits.{book_bytes, chains_most, rules_most, levels_most, sources_most, operands_most, port_highest, protocol_highest, service_highest, unread_highest}
use Rattle.model.specs.Answer.{when}
use Rattle.model.specs.Reader.{Stand, Read, got, refused, Reader, ◌>>=◌, give, refuse, here, choose, each}
use Rattle.model.specs.Number.{number}
use Rattle.model.specs.Tree.{Expr, exprs, Rule, Book, Action}
use Rattle.model.specs.Tree.Expr.{always, negation, conjunction, leaf}
use Rattle.model.specs.Tree.Leaf.{source, destination, service, port, protocol, unread}
use Rattle.model.specs.Tree.Action.{accept, drop, reject, log, empty, return, call}

-- a number from low to high, or refusal 4 at its start
abbrev pub within : ℕ → ℕ → Reader ℕ
within low high = do
  start ← here
  n ← number
  when (leb low n && leb n high) (give n) (refuse 4 start)

-- one more kind 3, or refusal 7 at its kind's start
abbrev pub one_more_source : ℕ → Reader ℕ
one_more_source start s st =
    when (ltb st.sources sources_most)
    (got start (record { at = st.at; rules = st.rules; sources = suc st.sources }))
    (refused 7 start)

-- an expression with so many levels left
unfoldable pub expression : ℕ → Reader Expr
expression zero = do
  start ← here
  refuse 6 start
expression (suc levels) = do
  start ← here
  kind ← number
  choose kind
      (give (always start)
      ∷ (do
        e ← expression levels
        give (negation start e))
      ∷ (do
        n ← within 2 operands_most
        es ← each n zero (λ i. expression levels)
        give (conjunction start (exprs es)))
      ∷ (do
        _ ← one_more_source start
        low ← number
        high ← number
        give (leaf start (source low high)))
      ∷ (do
        p ← within 0 port_highest
        give (leaf start (port p)))
      ∷ (do
        low ← number
        high ← number
        give (leaf start (destination low high)))
      ∷ (do
        n ← within 0 protocol_highest
        give (leaf start (protocol n)))
      ∷ (do
        low ← within 0 service_highest
        high ← within 0 service_highest
        give (leaf start (service low high)))
      ∷ (do
        k ← within 0 unread_highest
        give (leaf start (unread k)))
      ∷ [])
      (refuse 4 start)

-- a called chain is one of the book's and not the entry, or refusal 5 at its start
abbrev pub called_chain : ℕ → Reader ℕ
called_chain chains = do
  start ← here
  c ← number
  when (ltb zero c && ltb c chains) (give c) (refuse 5 start)

abbrev pub action_in : ℕ → Reader Action
action_in chains = do
  start ← here
  a ← number
  choose a
      (give accept ∷ give drop ∷ give reject ∷ give log ∷ give empty ∷ give return
      ∷ (do
        c ← called_chain chains
        give (call c))
      ∷ [])
      (refuse 4 start)

abbrev pub rule : ℕ → ℕ → Reader Rule
rule chains i = do
  start ← here
  a ← action_in chains
  e ← expression levels_most
  next ← here
  give (record { number = i; place = start; action = a; match = e; next = next })

-- a count of rules that keeps the total within its limit, or refusal 4 at the count
abbrev pub rule_count : Reader ℕ
rule_count = do
  start ← here
  n ← number
  (λ s st. when (leb (st.rules + n) rules_most) (got n (record { at = st.at; rules = st.rules + n; sources = st.sources })) (refused 4 start))

abbrev pub rules_so_far : Reader ℕ
rules_so_far s st = got st.rules st

abbrev pub chain : ℕ → Reader (List Rule)
chain chains = do
  first ← rules_so_far
  n ← rule_count
  each n first (rule chains)

-- nothing follows, or refusal 8 at what does
abbrev pub end : Reader ℕ
end s st = when (eqb st.at (length s)) (got st.at st) (refused 8 st.at)

abbrev pub whole_book : Reader Book
whole_book = do
  edition ← within 1 1
  n ← within 1 chains_most
  policy ← within 0 1
  chains ← each n zero (λ i. chain n)
  total ← rules_so_far
  _ ← end
  give (record { policy = policy; total = total; chains = chains })

abbrev pub start : Stand
start = record { at = 0; rules = 0; sources = 0 }

-- refusals 1 to 8
unfoldable pub book_of : List ℕ → Read Book
book_of s = when (leb (length s) book_bytes) (whole_book s start) (refused 1 0)

-- What each exported function writes into the six words of `answer`: the refusal's number and place, or 0 and 0; then the values; the rest 0.
use Rattle.std.specs.Prelude.{ℕ, Bool, List, [], ◌∷◌, get_or, leb, eqb}
use Rattle.model.specs.Limits.{greatest}
use Rattle.model.specs.Answer.{Answer, fine, refused, when}
use Rattle.model.specs.Matching.{Packet}
use Rattle.model.specs.Verdict.{upper, lower}
use Rattle.model.specs.Entries.{Size, Counts}
use Rattle.rules.specs.Rules.{Bounds}

-- a number as one word of 32 bits: what does not fit is told as the greatest that does
unfoldable pub word : ℕ → ℕ
word x = when (leb x greatest) x greatest

abbrev pub refusal_words : ℕ → ℕ → List ℕ
refusal_words number place = number ∷ word place ∷ 0 ∷ 0 ∷ 0 ∷ 0 ∷ []

abbrev pub given_words : ℕ → ℕ → ℕ → List ℕ
given_words a b c = 0 ∷ 0 ∷ a ∷ b ∷ c ∷ 0 ∷ []

-- an answer, by the words of its value
abbrev pub answer_words : {A : Type 0} → (A → List ℕ) → Answer A → List ℕ
answer_words given (fine a) = given a
answer_words given (refused n p) = refusal_words n p

-- checking: chains and rules
abbrev pub check_words : Answer Size → List ℕ
check_words = answer_words (λ s. given_words (word s.chains) (word s.rules) 0)

-- a rule by number: where its bytes start, and where they end
abbrev pub rule_words : Answer Bounds → List ℕ
rule_words = answer_words (λ b. given_words (word b.start) (word b.end) 0)

-- unfolding: words and rules of the list
abbrev pub count_words : Counts → List ℕ
count_words c = given_words (word c.words) (word c.rules) 0

abbrev pub unfold_words : Answer Counts → List ℕ
unfold_words = answer_words count_words

-- a packet: source, destination, protocol, destination port number, input port
abbrev pub packet_in : List ℕ → Packet
packet_in ws = record { source = get_or ws 0 0; destination = get_or ws 1 0; protocol = get_or ws 2 0; service = get_or ws 3 0; port = get_or ws 4 0 }

-- a verdict: 0 accept, 1 drop
abbrev pub verdict_words : Answer ℕ → List ℕ
verdict_words = answer_words (λ v. given_words v 0 0)

-- which closure: 0 is the lower, every other number the upper
abbrev pub closure_of : ℕ → ℕ → Bool
closure_of number = when (eqb number 0) lower upper

-- the report: its bytes
abbrev pub report_words : Answer ℕ → List ℕ
report_words = answer_words (λ n. given_words (word n) 0 0)

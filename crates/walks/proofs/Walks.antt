-- The walk of the chains by the book's contents: what a rule does, and what is left of its chain behind it. Assumes nothing.
use Rattle.std.proofs.Common.{ℕ, zero, suc, ◌+◌, ◌-◌, ◌<◌, ◌≤◌, Bool, true, false, List, [], ◌∷◌, ◌≡◌}
use Rattle.std.proofs.Common.{refl, sym, ◌∙◌, ap, subst, arith, add-one, length, Option, ◌⊎◌, inl, inr}
use Rattle.model.specs.Answer.{when}
use Rattle.model.specs.Calls.{chain_of}
use Rattle.model.specs.Ternary.{is_yes}
use Rattle.model.specs.Tree.{Expr, Rule, Book, Every}
use Rattle.model.specs.Standing.{Stands, Standing, RuleStands}
use Rattle.model.specs.Matching.{matches}
use Rattle.model.specs.Chains as model
use Rattle.model.specs.Chains.{act, or_else, walk_rules, walk, chain_verdict, settle}
use Rattle.model.proofs.EveryRule.{every_at}
use Rattle.model.proofs.ClosuresEnclose.{not_accepted}
use Rattle.book.specs.declared.Action.{Action}
use Rattle.book.specs.declared.Action.TheVariants.{Call}
use Rattle.book.specs.declared.Action.TheVariants as action
use Rattle.book.specs.declared.ChainNumber.{ChainNumber}
use Rattle.book.specs.declared.Contents.{Contents}
use Rattle.book.specs.declared.Verdict.{Verdict}
use Rattle.book.specs.declared.Verdict.TheVariants.{Accept, Drop}
use Rattle.book.specs.Contents.{said, note_at, expression_at, first_of, verdict_number, verdict_of, Noted, NotedAll}
use Rattle.matching.specs.declared.Asking.{Asking}
use Rattle.matching.specs.declared.Seen.{Seen}
use Rattle.matching.specs.declared.Truth.{Truth}
use Rattle.matching.specs.declared.Truth.TheVariants.{No, Unknown, Yes}
use Rattle.matching.specs.Sight.{tri_of, SeesExpr}
use Rattle.matching.proofs.Uses.{exact_expression}
use Rattle.walks.specs.declared.Packet.{Packet}
use Rattle.walks.specs.declared.Step.{Step}
use Rattle.walks.specs.declared.Step.TheVariants.{Decides, GoesOn}
use Rattle.walks.specs.Packets.{packet_of, header_of, asking_of}
use Rattle.walks.specs.Walks.{decided, outcome_of, after, counting, Kept, HasChain, WalksRule, WalksChain, ChainsSay}

-- an expression matches exactly where its value is yes, once all of the packet and the answers are known
matches_seen : (s answers : List ℕ) (p : Packet) (a : Asking) → a ≡ asking_of p true → (at : ℕ) (r : Seen) → SeesExpr a p.source s answers at r
    → (e : Expr) (next : ℕ) → Stands s at e next → matches answers (packet_of p) e ≡ is_yes (tri_of r.held.value)
matches_seen s answers p a q at r f e next h =
    ap is_yes (exact_expression (asking_of p true) p.source s answers at r (subst (λ a. SeesExpr a p.source s answers at r) q f) e next h (header_of p) refl refl)

not_yes : (t : Truth) → (t ≡ Yes → ⊥) → is_yes (tri_of t) ≡ false
not_yes No n = refl
not_yes Unknown n = refl
not_yes Yes n = absurd (n refl)

-- ---- one rule
module _ (s answers : List ℕ) (p : Packet) (k : Contents) (i depth : ℕ)
    (a : Asking) (is : a ≡ asking_of p true) (r : Seen) (sees : SeesExpr a p.source s answers (expression_at k i) r) where
  abbrev Rules : Step → Type 0
  Rules = WalksRule s answers p k i depth

  noted_matches : (u : Rule) → Noted k i u → RuleStands s u → matches answers (packet_of p) u.match ≡ is_yes (tri_of r.held.value)
  noted_matches u n h = matches_seen s answers p a is (expression_at k i) r sees u.match u.next (subst (λ at. Stands s at u.match u.next) n.match h)

  pub rule_passes : (r.held.value ≡ Yes → ⊥) → Rules GoesOn
  rule_passes ne b h lt u n st rest = rw (noted_matches u n st, not_yes r.held.value ne)

  module _ (yes : r.held.value ≡ Yes) where
    -- a rule of this action, whatever its calls come to
    pub rule_acts : (act' : Action) → (note_at k i).action ≡ act' → (x : Step)
        → ((run : ℕ → model.Outcome) (rest : model.Outcome) → after x rest ≡ act run (said act') rest) → Rules x
    rule_acts act' e x f b h lt u n st rest = rw (noted_matches u n st, yes, n.act, e) (f (walk depth b (matches answers (packet_of p))) rest)

    pub rule_denies : ((note_at k i).action ≡ action.Drop) ⊎ ((note_at k i).action ≡ action.Reject) → Rules (Decides Drop)
    rule_denies (inl e) = rule_acts action.Drop e (Decides Drop) (λ run rest. refl)
    rule_denies (inr e) = rule_acts action.Reject e (Decides Drop) (λ run rest. refl)

    pub rule_calls : (c : ChainNumber) → (note_at k i).action ≡ Call c → (o : Option Verdict) → WalksChain s answers p k c.0 depth o
        → (x : Step) → ((rest : model.Outcome) → after x rest ≡ or_else (outcome_of o) rest) → Rules x
    rule_calls c e o w x f b h lt u n st rest =
        rw (noted_matches u n st, yes, n.act, e)
        (f rest ∙ ap (λ v. or_else v rest) (w b h (omega (arith, h.charted.count, h.charted.shape.known i c.0 (omega (arith, h.charted.total)) (ap said e)))))

-- a verdict asks nothing of what comes behind
pub ends : (v : Verdict) (rest : model.Outcome) → after (Decides v) rest ≡ or_else (decided v) rest
ends Accept rest = refl
ends Drop rest = refl

-- a chain's rules are the book's
pub in_total : {s : List ℕ} {k : Contents} {b : Book} {c i : ℕ} → Kept s k b → HasChain c b → i < first_of k (c + 1) → i < b.total
in_total {s} {k} {b} {c} {i} h lt inside = let d = h.charted in omega (arith, d.total, d.shape.inside c (omega (arith, d.count)))

-- ---- what is left of a chain
-- these rules have the numbers from i on, up to `end`, and their walk is the chain's
pub record Left (s : List ℕ) (k : Contents) (run : ℕ → model.Outcome) (m : Expr → Bool) (chain : List Rule) (end i : ℕ) : Type 0 where
  pub rest : List Rule
  pub noted : NotedAll k i rest
  pub stands : Every (RuleStands s) rest
  pub count : i + length rest ≡ end
  pub same : walk_rules run m rest ≡ walk_rules run m chain

-- what is noted of rules says nothing of how many there are
noted_as : (k : Contents) (n i : ℕ) (rs : List Rule) → NotedAll (counting k n) i rs → NotedAll k i rs
noted_as k n i [] h = tt
noted_as k n i (r ∷ rs) h = (record { number = h.0.number; act = h.0.act; match = h.0.match }, noted_as k n (suc i) rs h.1)

module _ {s : List ℕ} {k : Contents} {b : Book} (h : Kept s k b) (c : ℕ) (lt : HasChain c b) where
  pub left_all : (run : ℕ → model.Outcome) (m : Expr → Bool) → Left s k run m (chain_of b c) (first_of k (c + 1)) (first_of k c)
  left_all run m = let lt' : c < k.chains = omega (arith, lt, h.charted.count) in record {
    rest = chain_of b c;
    noted = noted_as k b.total _ _ (h.charted.noted c lt');
    stands = every_at (Every (RuleStands s)) b.chains c [] lt h.stands;
    count = omega (arith, h.charted.sizes c lt', h.charted.shape.rising c lt');
    same = refl;
  }

module _ (s : List ℕ) (k : Contents) (run : ℕ → model.Outcome) (m : Expr → Bool) (chain : List Rule) (end i : ℕ) (l : Left s k run m chain end i) where
  abbrev After : Step → Type 0
  After x = (u : Rule) → Noted k i u → RuleStands s u → (rest : model.Outcome) → after x rest ≡ when (m u.match) (act run u.action rest) rest

  pub left_standing : i < end → Standing s (expression_at k i)
  left_standing lt = go l.rest l.noted l.stands l.count
    where
      go : (o : List Rule) → NotedAll k i o → Every (RuleStands s) o → i + length o ≡ end → Standing s (expression_at k i)
      go [] n h e = absurd (omega arith)
      go (u ∷ o) n h e = record { expr = u.match; next = u.next; stands = subst (λ at. Stands s at u.match u.next) n.0.match h.0 }

  -- a rule after which those behind are not asked
  pub left_ends : i < end → (x : Step) → After x → (o : model.Outcome) → ((rest : model.Outcome) → after x rest ≡ o) → o ≡ walk_rules run m chain
  unfolding walk_rules
  left_ends lt x f o is = go l.rest l.noted l.stands l.count l.same
    where
      go : (rs : List Rule) → NotedAll k i rs → Every (RuleStands s) rs → i + length rs ≡ end → walk_rules run m rs ≡ walk_rules run m chain → o ≡ walk_rules run m chain
      go [] n h e q = absurd (omega arith)
      go (u ∷ rs) n h e q = sym (is (walk_rules run m rs)) ∙ f u n.0 h.0 (walk_rules run m rs) ∙ q

  -- a rule that leaves it to those behind
  pub left_on : i < end → (x : Step) → After x → x ≡ GoesOn → Left s k run m chain end (i + 1)
  unfolding walk_rules
  left_on lt x f is = go l.rest l.noted l.stands l.count l.same
    where
      go : (rs : List Rule) → NotedAll k i rs → Every (RuleStands s) rs → i + length rs ≡ end → walk_rules run m rs ≡ walk_rules run m chain
          → Left s k run m chain end (i + 1)
      go [] n h e q = absurd (omega arith)
      go (u ∷ rs) n h e q = record {
        rest = rs;
        noted = rw add-one n.1;
        stands = h.1;
        count = omega arith;
        same = ap (λ x. after x (walk_rules run m rs)) (sym is) ∙ f u n.0 h.0 (walk_rules run m rs) ∙ q;
      }

  -- the end of a chain decides nothing
  pub left_none : end ≤ i → model.undecided ≡ walk_rules run m chain
  unfolding walk_rules
  left_none ge = go l.rest l.count l.same
    where
      go : (rs : List Rule) → i + length rs ≡ end → walk_rules run m rs ≡ walk_rules run m chain → model.undecided ≡ walk_rules run m chain
      go [] e q = q
      go (u ∷ rs) e q = absurd (omega arith)

-- ---- a chain
pub walk_none : (b : Book) (m : Expr → Bool) (c depth : ℕ) → depth ≡ 0 → model.undecided ≡ walk depth b m c
unfolding walk
walk_none b m c depth e = rw e

pub walk_some : (b : Book) (m : Expr → Bool) (c depth : ℕ) → (depth ≡ 0 → ⊥) → walk_rules (walk (depth - 1) b m) m (chain_of b c) ≡ walk depth b m c
unfolding walk
walk_some b m c depth ne = go depth ne
  where
    go : (n : ℕ) → (n ≡ 0 → ⊥) → walk_rules (walk (n - 1) b m) m (chain_of b c) ≡ walk n b m c
    go zero ne = absurd (ne refl)
    go (suc n) ne = let e : suc n - 1 ≡ n = omega arith in rw e

-- the entry's outcome, and where it has none the policy
pub settled : (policy : ℕ) (v : Verdict) → verdict_number v ≡ settle policy (decided v)
settled policy Accept = refl
settled policy Drop = refl

module _ (s answers : List ℕ) (p : Packet) (k : Contents) (policy : ℕ) (o : Option Verdict) (w : WalksChain s answers p k 0 k.chains o) where
  pub chains_say : (r : ℕ) → r ≡ settle policy (outcome_of o) → ChainsSay s answers p k policy r
  unfolding chain_verdict
  chains_say r is b h q =
      let e : outcome_of o ≡ walk k.chains b (matches answers (packet_of p)) 0 = w b h (omega (arith, h.charted.count, h.charted.shape.some)) in
      let n : length b.chains ≡ k.chains = h.charted.count in
      is ∙ rw (n, ← e, q)

-- a policy that is a verdict is 0 or 1
verdict_small : (v : Verdict) → verdict_number v ≤ 1
verdict_small Accept = omega arith
verdict_small Drop = omega arith

-- so under the policy of the contents what the chains come to names the verdict
module _ (s answers : List ℕ) (p : Packet) (k : Contents) (policy r : ℕ) (is : policy ≡ verdict_number k.policy) (say : ChainsSay s answers p k policy r) where
  pub say_verdict : (v : Verdict) → v ≡ verdict_of r → (b : Book) → Kept s k b → b.policy ≡ verdict_number k.policy
      → verdict_number v ≡ chain_verdict b (matches answers (packet_of p))
  say_verdict v q b h e = ap verdict_number q ∙ by r (say b h (e ∙ sym is))
    where
      by : (n : ℕ) → n ≡ chain_verdict b (matches answers (packet_of p)) → verdict_number (verdict_of n) ≡ chain_verdict b (matches answers (packet_of p))
      by zero t = t
      by (suc n) t = sym (not_accepted b (matches answers (packet_of p)) (omega (arith, e, verdict_small k.policy)) (λ z. absurd (omega (arith, z, t))))

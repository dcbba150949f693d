-- A list in words, rule by rule: the verdict of the rules from a place on is the list's. Assumes nothing.
use Rattle.std.proofs.Common.{ℕ, ◌-◌, ◌<◌, ◌≤◌, Bool, true, false, List, [], ◌∷◌, ◌++◌}
use Rattle.std.proofs.Common.{◌≡◌, refl, sym, ◌∙◌, ap, subst, arith, length, get_or, take, drop, length-append, append-nil}
use Rattle.std.proofs.lemmas.List.{take_at, drop_at, take_rest}
use Rattle.model.specs.Answer.{when}
use Rattle.model.specs.Ternary.{Tri}
use Rattle.model.specs.Tree.{Expr}
use Rattle.model.specs.Matching.{value}
use Rattle.model.specs.Standing.{Placed}
use Rattle.model.specs.Unfolding.{ListRule, Listed, condition_words, words_of}
use Rattle.model.specs.Verdict.{taken, conditions_value, list_verdict}
use Rattle.model.proofs.ReadBack.{length_words}
use Rattle.matching.specs.declared.Asking.{Asking}
use Rattle.matching.specs.declared.Held.{Held}
use Rattle.matching.specs.Sight.{tri_of}
use Rattle.matching.specs.Conditions.{WrittenAs, SeesConditions}
use Rattle.matching.proofs.Words.{written_of}
use Rattle.matching.proofs.Uses.{exact_value, doubtful_value}
use Rattle.walks.specs.declared.Packet.{Packet}
use Rattle.walks.specs.Packets.{packet_of, header_of, asking_of, leaves_of}
use Rattle.walks.specs.Lists.{Lists}

-- the value of the conditions of a rule, told the answers or not
pub conditions_seen : (s answers words : List ℕ) (p : Packet) (told : Bool) (a : Asking) → a ≡ asking_of p told → (r : Held) → SeesConditions a p.source s answers words r
    → (u : ListRule) → WrittenAs s words u.conditions → conditions_value (value (leaves_of told answers (packet_of p))) u.conditions ≡ tri_of r.value
conditions_seen s answers words p true a q r f u w =
    exact_value (asking_of p true) p.source s answers words r (subst (λ a. SeesConditions a p.source s answers words r) q f) u.conditions w (header_of p) refl refl
conditions_seen s answers words p false a q r f u w =
    doubtful_value (asking_of p false) p.source s answers words r (subst (λ a. SeesConditions a p.source s answers words r) q f) u.conditions w (header_of p) refl refl

-- the words are those of these rules, whose verdict is the list's
pub record Rest (s words : List ℕ) (doubt : ℕ → Bool) (v : Expr → Tri) (list : List ListRule) : Type 0 where
  pub rules : List ListRule
  pub lists : Lists s words rules
  pub same : list_verdict doubt v rules ≡ list_verdict doubt v list

module _ (s words : List ℕ) (doubt : ℕ → Bool) (v : Expr → Tri) (list : List ListRule) where
  pub rest_all : Lists s words list → Rest s words doubt v list
  rest_all l = record { rules = list; lists = l; same = refl }

  pub rest_none : length words < 3 → Rest s words doubt v list → 1 ≡ list_verdict doubt v list
  unfolding list_verdict words_of
  rest_none few l = go l.rules l.lists.are l.same
    where
      go : (o : List ListRule) → words ≡ words_of o → list_verdict doubt v o ≡ list_verdict doubt v list → 1 ≡ list_verdict doubt v list
      go [] e q = q
      go (r ∷ o) e q = let k : length words ≡ length (words_of (r ∷ o)) = ap length e in absurd (omega arith)

-- the rule that the words start with, and the rest behind it
pub record Front (s : List ℕ) (doubt : ℕ → Bool) (v : Expr → Tri) (list : List ListRule) (action count : ℕ) (behind : List ℕ) : Type 0 where
  pub rule : ListRule
  pub action_is : rule.action ≡ action
  pub room : count ≤ length behind
  pub written : WrittenAs s (take count behind) rule.conditions
  pub verdict : ℕ
  pub same : when (taken doubt rule.action (conditions_value v rule.conditions)) rule.action verdict ≡ list_verdict doubt v list
  pub after : verdict ≡ list_verdict doubt v list → Rest s (drop count behind) doubt v list

module _ (s words : List ℕ) (doubt : ℕ → Bool) (v : Expr → Tri) (list : List ListRule) where
  abbrev Ahead : Type 0
  Ahead = Front s doubt v list (get_or words 0 0) (get_or words 2 0) (take (length words - 3) (drop 3 words))

  pub front : 3 ≤ length words → Rest s words doubt v list → Ahead
  unfolding list_verdict words_of
  front some l = go l.rules l.lists.are l.lists.placed l.same
    where
      go : (o : List ListRule) → words ≡ words_of o → Listed (Placed s) o → list_verdict doubt v o ≡ list_verdict doubt v list → Ahead
      go [] e h q = let k : length words ≡ 0 = ap length e in absurd (omega arith)
      go (r ∷ o) e h q =
          let cs = r.conditions in
          let behind = take (length words - 3) (drop 3 words) in
          let n : length cs ≡ get_or words 2 0 = sym (ap (λ l. get_or l 2 0) e) in
          let f : behind ≡ condition_words cs ++ words_of o = take_rest words 3 ∙ ap (drop 3) e in
          let w : length (condition_words cs) ≡ get_or words 2 0 = length_words cs ∙ n in
          let t : take (get_or words 2 0) behind ≡ condition_words cs = ap (take (get_or words 2 0)) f ∙ take_at (condition_words cs) (words_of o) (get_or words 2 0) w in
          record {
            rule = r;
            action_is = sym (ap (λ l. get_or l 0 0) e);
            room = omega (arith, ap length f, length-append (condition_words cs) (words_of o));
            written = record {
              counted = sym (ap length t ∙ length_words cs);
              written = written_of s (take (get_or words 2 0) behind) 0 cs [] (t ∙ sym (append-nil (condition_words cs))) h.0;
            };
            verdict = list_verdict doubt v o;
            same = q;
            after = λ w'. record {
              rules = o;
              lists = record { are = ap (drop (get_or words 2 0)) f ∙ drop_at (condition_words cs) (words_of o) (get_or words 2 0) w; placed = h.1 };
              same = w';
            };
          }

module _ {s : List ℕ} {doubt : ℕ → Bool} {v : Expr → Tri} {list : List ListRule} {action count : ℕ} {behind : List ℕ} where
  -- whether the rule is taken, by its conditions' value
  module _ (f : Front s doubt v list action count behind) (r : Held) (seen : conditions_value v f.rule.conditions ≡ tri_of r.value)
      (b : Bool) (takes : b ≡ taken doubt action (tri_of r.value)) where
    by_rule : (t : Bool) → b ≡ t → when t action f.verdict ≡ list_verdict doubt v list
    by_rule t e =
        let same : when (taken doubt f.rule.action (conditions_value v f.rule.conditions)) f.rule.action f.verdict ≡ list_verdict doubt v list = f.same in
        let z : taken doubt action (tri_of r.value) ≡ t = sym takes ∙ e in
        rw (← z) (rw (f.action_is, seen) at same)

    -- one that is taken decides
    pub front_taken : b ≡ true → action ≡ list_verdict doubt v list
    front_taken e = by_rule true e

    -- one that is not leaves it to those behind
    pub front_left : b ≡ false → Rest s (drop count behind) doubt v list
    front_left e = f.after (by_rule false e)

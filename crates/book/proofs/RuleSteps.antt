-- A rule, and the loop over the rules of a chain: one law for each way through the code.
use Prim.Native.Nat.{ℕ, ◌+◌, ◌-◌, ◌≤◌, ◌<◌}
use mathlib.Core.List.{List, [], ◌∷◌, ◌++◌, map, map-append}
use mathlib.Core.Path.{◌≡◌, refl, sym, ap, ◌∙◌, subst}
use native.Mathlib.Omega.{arith}
use native.Mathlib.Nat.{add-zero, sub-zero}
use lib.ListN.{length, set, take}
use lib.Seq.{take-length}
use Rattle.std.proofs.lemmas.List.{take_more_set}
use Rattle.model.specs.Answer as answer
use Rattle.model.specs.Answer.{Answer, fine}
use Rattle.model.specs.Limits.{levels_most}
use Rattle.model.specs.Reader.{Stand, Read, got, refused, each}
use Rattle.model.specs.Tree as tree
use Rattle.model.specs.Tree.{Rule, place_of}
use Rattle.model.specs.Book.{expression, action_in, rule}
use Rattle.model.proofs.BookRead.{ActionFine, action_got}
use Rattle.model.proofs.Standing.{read_stands}
use Rattle.model.proofs.BookKnown.{OneRule, rule_known}
use Rattle.model.proofs.Success as success
use Rattle.model.proofs.Success.{Moved}
use Rattle.expressions.specs.Told.{noted, stand}
use Rattle.expressions.specs.declared.ExpressionRead.{ExpressionRead}
use Rattle.expressions.proofs.Ends.{found, noted_refusal}
use Rattle.book.specs.Contents.{held, note_of}
use Rattle.book.specs.Inner.{Finds, answered, action_read, rule_read}
use Rattle.book.specs.declared.NotedRule.{NotedRule}
use Rattle.book.specs.declared.rules.ActionRead.{ActionRead}
use Rattle.book.specs.declared.rules.RuleRead.{RuleRead}
use Rattle.book.proofs.Afterwards.{after_got, after_refused, answered_refusal, behind, behind_none, each_none, each_refused, each_more}

-- an action that was read, as the code sees it
record FoundAction (chains : ℕ) (s : List ℕ) (st : Stand) (a : ActionRead) : Type 0 where
  pub act : tree.Action
  pub reads : action_in chains s st ≡ got act (stand a.next st.rules st.sources)
  pub is : held act ≡ a.action
  pub on : st.at < a.next
  pub inside : a.next ≤ length s

found_action : (chains : ℕ) (s : List ℕ) (st : Stand) (a : ActionRead) → fine a ≡ answered action_read (action_in chains s st) → FoundAction chains s st a
found_action chains s st a = go (action_in chains s st) refl (action_got chains s st)
  where
    go : (m : Read tree.Action) → action_in chains s st ≡ m → success.Got m (λ a st'. ActionFine chains a × Moved s st st')
        → fine a ≡ answered action_read m → FoundAction chains s st a
    go (got x st') q p t =
        let z : a ≡ action_read x st' = cc in
        let e : st'.at ≡ a.next = ap (λ (a : ActionRead). a.next) (sym z) in
        let f : st'.rules ≡ st.rules = p.1.onward.rules in let g : st'.sources ≡ st.sources = p.1.sources in
        let d : stand st'.at st'.rules st'.sources ≡ stand a.next st.rules st.sources = cc in
        record {
          act = x;
          reads = q ∙ ap (got x) d;
          is = ap (λ (a : ActionRead). a.action) (sym z);
          on = omega (arith, p.1.onward.on);
          inside = omega (arith, p.1.onward.inside);
        }
    go (refused n p) q h t = let z : ◌≡◌ {A = ℕ} 0 1 = cc in absurd (omega arith)

module _ (chains : ℕ) (s : List ℕ) (at sources : ℕ) where
  abbrev pub IsRule : Answer RuleRead → Type 0
  IsRule r = (i rules : ℕ) → r ≡ answered rule_read (rule chains i s (stand at rules sources))

  pub action_bad : (n p : ℕ) → ((rules sources : ℕ) → answer.refused n p ≡ answered action_read (action_in chains s (stand at rules sources)))
      → IsRule (answer.refused n p)
  action_bad n p h i rules =
      sym (ap (answered rule_read) (after_refused (action_in chains s (stand at rules sources)) _ n p (answered_refusal action_read _ n p (h rules sources))))

  module _ (a : ActionRead) (h : (rules sources : ℕ) → fine a ≡ answered action_read (action_in chains s (stand at rules sources))) where
    action_here : (rules : ℕ) → FoundAction chains s (stand at rules sources) a
    action_here rules = found_action chains s (stand at rules sources) a (h rules sources)

    pub match_bad : (n p : ℕ) → ((rules : ℕ) → answer.refused n p ≡ noted (expression levels_most s (stand a.next rules sources))) → IsRule (answer.refused n p)
    match_bad n p k i rules =
        let f = action_here rules in
        sym (ap (answered rule_read) (after_got (action_in chains s (stand at rules sources)) _ f.act _ f.reads
        ∙ after_refused (expression levels_most s (stand a.next rules sources)) _ n p (noted_refusal _ n p (sym (k rules)))))

    module _ (e : ExpressionRead) (k : (rules : ℕ) → fine e ≡ noted (expression levels_most s (stand a.next rules sources))) where
      abbrev seen : RuleRead
      seen = record { noted = record { place = at; action = a.action; expression = a.next; end = e.next }; end = e }

      pub rule_got : IsRule (fine seen)
      rule_got i rules =
          let f = action_here rules in
          let g = found levels_most s (stand a.next rules sources) e (sym (k rules)) in
          let p = (read_stands levels_most s (stand a.next rules sources) (stand e.next rules e.sources) g.expr g.reads).0 in
          sym (ap (answered rule_read) (after_got (action_in chains s (stand at rules sources)) _ f.act _ f.reads
          ∙ after_got (expression levels_most s (stand a.next rules sources)) _ g.expr _ g.reads) ∙ rw (f.is, p))

      -- each of its places is one of the book's
      pub rule_inside : (at < a.next) × (a.next < e.next) × (e.next ≤ length s)
      rule_inside =
          let g = found levels_most s (stand a.next 0 sources) e (sym (k 0)) in
          ((action_here 0).on, g.on, g.inside)

-- a rule that was read, as the code sees it
record FoundRule (chains i : ℕ) (s : List ℕ) (st : Stand) (seen : RuleRead) : Type 0 where
  pub r : Rule
  pub reads : rule chains i s st ≡ got r (stand seen.end.next st.rules seen.end.sources)
  pub is : note_of r ≡ seen.noted

found_rule : (chains i : ℕ) (s : List ℕ) (st : Stand) (seen : RuleRead) → fine seen ≡ answered rule_read (rule chains i s st) → FoundRule chains i s st seen
found_rule chains i s st seen = go (rule chains i s st) refl (rule_known s chains i st)
  where
    go : (m : Read Rule) → rule chains i s st ≡ m → success.Got m (OneRule s chains i st) → fine seen ≡ answered rule_read m → FoundRule chains i s st seen
    go (got r st') q p t =
        let z : rule_read r st' ≡ seen = cc in
        let e : st'.at ≡ seen.end.next = ap (λ (x : RuleRead). x.end.next) z in
        let f : st'.rules ≡ st.rules = p.onward.rules in
        let g : st'.sources ≡ seen.end.sources = ap (λ (x : RuleRead). x.end.sources) z in
        let d : stand st'.at st'.rules st'.sources ≡ stand seen.end.next st.rules seen.end.sources = cc in
        record { r = r; reads = q ∙ ap (got r) d; is = ap (λ (x : RuleRead). x.noted) z }
    go (refused n p) q h t = let z : ◌≡◌ {A = ℕ} 0 1 = cc in absurd (omega arith)

-- the loop: k of n slots are used, and with what is still to be read their rules are all
module _ (chains : ℕ) (s : List ℕ) (at sources n : ℕ) (first rules : ℕ) where
  abbrev pub rule_reads : Read (List Rule)
  rule_reads = each n first (rule chains) s (stand at rules sources)

  pub record Behind (slots : List NotedRule) (read : ExpressionRead) (k : ℕ) : Type 0 where
    pub new : List Rule
    pub reads : rule_reads ≡ behind new (each (n - k) (first + k) (rule chains) s (stand read.next rules read.sources))
    pub held : take k slots ≡ map note_of new

  pub rules_begin : (slots : List NotedRule) → Behind slots (record { next = at; sources = sources }) 0
  rules_begin slots = record { new = []; reads = rw (sub-zero, add-zero) (behind_none rule_reads); held = refl }

  module _ (slots : List NotedRule) (read : ExpressionRead) (k : ℕ) (b : Behind slots read k) where
    pub rules_next : k < n → k < length slots → (r : RuleRead) → IsRule chains s read.next read.sources (fine r) → Behind (set slots k r.noted) r.end (k + 1)
    rules_next lt inside r h =
        let f = found_rule chains (first + k) s (stand read.next rules read.sources) r (h (first + k) rules) in
        let i : first + k + 1 ≡ first + (k + 1) = omega arith in
        record {
          new = b.new ++ f.r ∷ [];
          reads = b.reads ∙ each_more (rule chains) s n k (first + k) (stand read.next rules read.sources) lt f.r _ f.reads b.new
              ∙ ap (λ i. behind (b.new ++ f.r ∷ []) (each (n - (k + 1)) i (rule chains) s (stand r.end.next rules r.end.sources))) i;
          held = take_more_set slots k r.noted inside ∙ ap (λ l. l ++ r.noted ∷ []) b.held
              ∙ ap (λ v. map note_of b.new ++ v ∷ []) (sym f.is) ∙ sym (map-append note_of b.new (f.r ∷ []));
        }

    abbrev Answered : Answer ExpressionRead → List NotedRule → Type 0
    Answered a slots = (a ≡ noted rule_reads) × Finds rule_reads (λ rs st. slots ≡ map note_of rs)

    pub rules_refused : k < n → (x p : ℕ) → IsRule chains s read.next read.sources (answer.refused x p) → (slots : List NotedRule) → Answered (answer.refused x p) slots
    rules_refused lt x p h slots =
        let refusal = answered_refusal rule_read _ x p (h (first + k) rules) in
        let e = b.reads ∙ each_refused (rule chains) s n k (first + k) (stand read.next rules read.sources) lt x p refusal b.new in
        (sym (ap noted e), subst (λ m. Finds m (λ rs st. slots ≡ map note_of rs)) (sym e) tt)

    pub rules_end : n ≤ k → length slots ≡ k → Answered (fine read) slots
    rules_end le l =
        let e = b.reads ∙ each_none (rule chains) s n k (first + k) (stand read.next rules read.sources) le b.new in
        (sym (ap noted e), subst (λ m. Finds m (λ rs st. slots ≡ map note_of rs)) (sym e) (sym (take-length slots) ∙ ap (λ k. take k slots) l ∙ b.held))

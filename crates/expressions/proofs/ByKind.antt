-- What the model reads after each kind, as the code's answers see it. Assumes nothing.
use Prim.Native.Nat.{ℕ, zero, suc, ◌+◌, ◌-◌, ◌<◌, ◌≤◌}
use mathlib.Core.Path.{◌≡◌, refl, sym, ap, ◌∙◌, fun_ext}
use mathlib.Core.List.{List}
use native.Mathlib.Numerals.{add-one, sub-one}
use native.Mathlib.Omega.{arith}
use borrow.Author.Tests.{lt-ltb, le-ltb}
use Rattle.model.specs.Limits.{greatest, sources_most, operands_most, port_highest, protocol_highest, service_highest, unread_highest}
use Rattle.model.specs.Answer as answer
use Rattle.model.specs.Answer.{Answer, fine}
use Rattle.model.specs.Reader.{Stand, Read, got, refused, after, each}
use Rattle.model.specs.Number.{numeral, number_at, number}
use Rattle.model.specs.Tree.{Expr, exprs}
use Rattle.model.specs.Tree.Expr.{negation, conjunction, leaf}
use Rattle.model.specs.Tree.Leaf.{source, destination, service, port, protocol, unread}
use Rattle.model.specs.Book.{within, expression}
use Rattle.numbers.specs.Told.{numbered}
use Rattle.numbers.specs.Field.{field_at}
use Rattle.numbers.specs.declared.Number.{Number}
use Rattle.numbers.proofs.Fields.{illegible_of}
use Rattle.expressions.specs.Told.{noted, stand, twice}
use Rattle.expressions.specs.declared.ExpressionRead.{ExpressionRead}
use Rattle.expressions.proofs.Told.{noted_give}
use Rattle.expressions.proofs.Fields.{number_field, field_read}

-- low and high: what is done with them does not show
both_give : (f : ℕ → ℕ → Expr) (m : Stand → Read ℕ) (st : Stand)
    → noted (after (m st) (λ low st₁. after (m st₁) (λ high st₂. got (f low high) st₂))) ≡ noted (after (m st) (λ low st₁. m st₁))
both_give f m st = go (m st)
  where
    go : (r : Read ℕ) → noted (after r (λ low st₁. after (m st₁) (λ high st₂. got (f low high) st₂))) ≡ noted (after r (λ low st₁. m st₁))
    go (got low st₁) = noted_give (f low) (m st₁)
    go (refused n p) = refl

-- any two numbers are two fields with the widest limits
numbers_give : (f : ℕ → ℕ → Expr) (s : List ℕ) (st : Stand)
    → noted (after (number s st) (λ low st₁. after (number s st₁) (λ high st₂. got (f low high) st₂))) ≡ noted (twice greatest s st)
numbers_give f s st = both_give f (number s) st ∙ ap (λ (m : Stand → Read ℕ). noted (after (m st) (λ low st₁. m st₁))) (fun_ext (number_field s))

-- the kind stands at `place`, and what follows it at `next`
module _ (s : List ℕ) (place kind next sources : ℕ) (e : number_at s place ≡ numeral kind next) where
  -- r is what the model reads there, however many levels may still be entered below and however many rules were counted
  abbrev Is : Answer ExpressionRead → Type 0
  Is r = (levels rules : ℕ) → r ≡ noted (expression (suc levels) s (stand place rules sources))

  pub is_always : kind ≡ 0 → Is (fine (record { next = next; sources = sources }))
  unfolding expression number
  is_always k levels rules = rw (e, k)

  pub is_source : kind ≡ 3 → sources < sources_most → (r : Answer ExpressionRead) → ((rules : ℕ) → r ≡ noted (twice greatest s (stand next rules (sources + 1)))) → Is r
  unfolding expression number
  is_source k few r h levels rules =
      rw (e, k, lt-ltb sources sources_most few)
      ((rw add-one at h rules) ∙ sym (numbers_give (λ low high. leaf place (source low high)) s (stand next rules (suc sources))))

  pub is_too_many : kind ≡ 3 → sources_most ≤ sources → Is (answer.refused 7 place)
  unfolding expression number
  is_too_many k many levels rules = rw (e, k, le-ltb sources sources_most many)

  pub is_port : kind ≡ 4 → (r : Answer ExpressionRead) → ((rules : ℕ) → r ≡ noted (within 0 port_highest s (stand next rules sources))) → Is r
  unfolding expression number
  is_port k r h levels rules = rw (e, k) (h rules ∙ sym (noted_give (λ n. leaf place (port n)) (within 0 port_highest s (stand next rules sources))))

  pub is_destination : kind ≡ 5 → (r : Answer ExpressionRead) → ((rules : ℕ) → r ≡ noted (twice greatest s (stand next rules sources))) → Is r
  unfolding expression number
  is_destination k r h levels rules = rw (e, k) (h rules ∙ sym (numbers_give (λ low high. leaf place (destination low high)) s (stand next rules sources)))

  pub is_protocol : kind ≡ 6 → (r : Answer ExpressionRead) → ((rules : ℕ) → r ≡ noted (within 0 protocol_highest s (stand next rules sources))) → Is r
  unfolding expression number
  is_protocol k r h levels rules = rw (e, k) (h rules ∙ sym (noted_give (λ n. leaf place (protocol n)) (within 0 protocol_highest s (stand next rules sources))))

  pub is_service : kind ≡ 7 → (r : Answer ExpressionRead) → ((rules : ℕ) → r ≡ noted (twice service_highest s (stand next rules sources))) → Is r
  unfolding expression number
  is_service k r h levels rules =
      rw (e, k) (h rules ∙ sym (both_give (λ low high. leaf place (service low high)) (within 0 service_highest s) (stand next rules sources)))

  pub is_unread : kind ≡ 8 → (r : Answer ExpressionRead) → ((rules : ℕ) → r ≡ noted (within 0 unread_highest s (stand next rules sources))) → Is r
  unfolding expression number
  is_unread k r h levels rules = rw (e, k) (h rules ∙ sym (noted_give (λ n. leaf place (unread n)) (within 0 unread_highest s (stand next rules sources))))

  pub is_no_kind : 8 < kind → Is (answer.refused 4 place)
  unfolding expression number
  is_no_kind h levels rules = let k : kind ≡ suc (suc (suc (suc (suc (suc (suc (suc (suc (kind - 9))))))))) = omega arith in rw (e, k)

  module _ (levels : ℕ) where
    pub is_negation : kind ≡ 1 → (r : Answer ExpressionRead) → ((rules : ℕ) → r ≡ noted (expression levels s (stand next rules sources)))
        → (rules : ℕ) → r ≡ noted (expression (suc levels) s (stand place rules sources))
    unfolding expression number
    is_negation k r h rules = rw (e, k) (h rules ∙ sym (noted_give (negation place) (expression levels s (stand next rules sources))))

    pub is_count_refused : kind ≡ 2 → (n p : ℕ) → answer.refused n p ≡ numbered next (field_at s next 2 operands_most)
        → (rules : ℕ) → answer.refused n p ≡ noted (expression (suc levels) s (stand place rules sources))
    unfolding expression number
    is_count_refused k n p q rules = rw (e, k, field_read s next 2 operands_most rules sources (answer.refused n p) q)

    pub is_conjunction : kind ≡ 2 → (count : Number) → fine count ≡ numbered next (field_at s next 2 operands_most) → (r : Answer ExpressionRead)
        → ((rules i : ℕ) → r ≡ noted (each count.value i (λ j. expression levels) s (stand count.next rules sources)))
        → (rules : ℕ) → r ≡ noted (expression (suc levels) s (stand place rules sources))
    unfolding expression number
    is_conjunction k count q r h rules =
        rw (e, k, field_read s next 2 operands_most rules sources (fine count) q)
        (h rules 0 ∙ sym (noted_give (λ es. conjunction place (exprs es)) (each count.value 0 (λ j. expression levels) s (stand count.next rules sources))))

-- 6 where no level is left, before the kind is read; and where one is, it is entered
pub no_level : (levels : ℕ) → levels ≡ 0 → (s : List ℕ) (at sources rules : ℕ) → answer.refused 6 at ≡ noted (expression levels s (stand at rules sources))
unfolding expression
no_level levels h s at sources rules = rw h

pub entered : (levels : ℕ) → (levels ≡ 0 → ⊥) → (s : List ℕ) (st : Stand) (r : Answer ExpressionRead)
    → r ≡ noted (expression (suc (levels - 1)) s st) → r ≡ noted (expression levels s st)
entered zero some s st r h = absurd (some refl)
entered (suc levels) some s st r h = rw sub-one at h

pub kind_refused : (s : List ℕ) (at n p : ℕ) → answer.refused n p ≡ numbered at (number_at s at)
    → (levels sources rules : ℕ) → answer.refused n p ≡ noted (expression (suc levels) s (stand at rules sources))
unfolding expression number
kind_refused s at n p e levels sources rules = let q = illegible_of _ _ _ _ e in rw (q.0, q.1)

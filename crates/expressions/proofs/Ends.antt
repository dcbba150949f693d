-- Where a reading of an expression that succeeds ends, and what it keeps: for whatever goes on from there. Assumes nothing.
use Prim.Native.Nat.{ℕ, ◌<◌, ◌≤◌}
use mathlib.Core.Path.{◌≡◌, refl, ap, ◌∙◌}
use mathlib.Core.List.{List}
use native.Mathlib.Omega.{arith}
use lib.ListN.{length}
use Rattle.model.specs.Limits.{sources_most}
use Rattle.model.specs.Answer as answer
use Rattle.model.specs.Answer.{fine}
use Rattle.model.specs.Reader.{Stand, Read, got, refused}
use Rattle.model.specs.Tree.{Expr}
use Rattle.model.specs.Book.{expression}
use Rattle.model.proofs.Success as success
use Rattle.model.proofs.BookRead.{ExpressionRead, expression_got}
use Rattle.expressions.specs.Told.{noted, stand}
use Rattle.expressions.specs.declared.ExpressionRead as code

-- WHAT A READING SAYS: the model reads an expression, up to that place and count, past its start and within the bytes, and counts no rule
pub record Found (levels : ℕ) (s : List ℕ) (st : Stand) (next sources : ℕ) : Type 0 where
  pub expr : Expr
  pub reads : expression levels s st ≡ got expr (stand next st.rules sources)
  pub on : st.at < next
  pub inside : next ≤ length s
  pub few : st.sources ≤ sources_most → sources ≤ sources_most

pub found : (levels : ℕ) (s : List ℕ) (st : Stand) (r : code.ExpressionRead) → noted (expression levels s st) ≡ fine r → Found levels s st r.next r.sources
found levels s st r e = go (expression levels s st) refl (expression_got levels s st) e
  where
    go : (m : Read Expr) → expression levels s st ≡ m → success.Got m (λ x st'. ExpressionRead s st x st') → noted m ≡ fine r → Found levels s st r.next r.sources
    go (got x st') q p t =
        let w : record { next = st'.at; sources = st'.sources } ≡ r = cc in
        let a : st'.at ≡ r.next = ap (λ (y : code.ExpressionRead). y.next) w in
        let b : st'.sources ≡ r.sources = ap (λ (y : code.ExpressionRead). y.sources) w in
        let c : st'.rules ≡ st.rules = p.onward.rules in
        let d : stand st'.at st'.rules st'.sources ≡ stand r.next st.rules r.sources = cc in
        record { expr = x; reads = q ∙ ap (got x) d; on = omega arith; inside = omega arith; few = rw (← b) p.grown.limit }
    go (refused n place) q p t = let z : ◌≡◌ {A = ℕ} 0 1 = cc in absurd (omega arith)

-- and a refusal: the model refuses with that number, at that place
pub noted_refusal : {A : Type 0} (m : Read A) (n place : ℕ) → noted m ≡ answer.refused n place → m ≡ refused n place
noted_refusal (got a st) n place e = cc
noted_refusal (refused x y) n place e = cc

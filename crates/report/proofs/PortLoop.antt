-- The loop over the plan's ports: the lines so far, with those of the ports that are left, are all.
use Prim.Native.Nat.{ℕ, suc, ◌+◌, ◌-◌, ◌*◌, ◌≤◌, ◌<◌}
use native.Mathlib.Omega.{arith}
use native.Mathlib.Nat.{sub-zero}
use native.Mathlib.Numerals.{add-one}
use mathlib.Core.List.{List, ◌∷◌, ◌++◌, append_assoc, append-nil}
use mathlib.Core.Path.{◌≡◌, ap, sym, ◌∙◌, subst}
use lib.ListN.{length, get_or}
use Rattle.arrayvec.specs.ArrayVec.{ArrayVec, array_vec_len}
use Rattle.model.specs.Limits.{ports_most}
use Rattle.model.specs.Answer.{fine}
use Rattle.model.specs.Tree.{Book}
use Rattle.model.specs.Calls.{readable}
use Rattle.model.specs.Plan.{Port}
use Rattle.model.specs.Unfolding.{list_of}
use Rattle.model.specs.Report.{port_lines}
use Rattle.plan.specs.Contents.{PlanShape, ranges_at, ports_at}
use Rattle.plan.specs.declared.PlanContents.{PlanContents}
use Rattle.plan.proofs.Charted.{plan_charted}
use Rattle.review.specs.Reviews.{phase_told}
use Rattle.review.specs.declared.Reviewed.{Reviewed}
use Rattle.text.proofs.Appends.{length_both}
use Rattle.report.specs.Lines.{port_text, line_most}
use Rattle.report.specs.Reports.{PlanIn, PortReviewed, PortsPut}
use Rattle.report.proofs.Lengths.{port_short}

-- ---- the contents of a plan

pub plan_shape : (c : PlanContents) → PlanIn c → PlanShape c
plan_shape c p = subst PlanShape (sym p.contents) (plan_charted p.bytes p.ports p.read).shape

-- ---- the loop

-- the lines so far, with those of the ports that are left, are all
pub record Going (s : List ℕ) (c : PlanContents) (w w' : ArrayVec ℕ) (i : ℕ) : Type 0 where
  pub within : i ≤ c.ports
  pub bound : array_vec_len w' ≤ array_vec_len w + i * line_most
  pub rest : (b : Book) → readable s ≡ fine b → w'.items ++ port_lines (list_of b) (ports_at c i (c.ports - i)) ≡ w.items ++ port_lines (list_of b) (ports_at c 0 c.ports)

module _ (s : List ℕ) (c : PlanContents) (w : ArrayVec ℕ) where
  pub starts : Going s c w w 0
  starts = record {
    within = omega arith;
    bound = omega arith;
    rest = λ b e. ap (λ (n : ℕ). w.items ++ port_lines (list_of b) (ports_at c 0 n)) (sub-zero c.ports);
  }

  module _ (w' : ArrayVec ℕ) (i : ℕ) (g : Going s c w w' i) where
    pub ends : c.ports ≤ i → PortsPut s c w w'
    unfolding port_lines
    ends h b e =
        let none : c.ports - i ≡ 0 = omega arith in
        sym (append-nil w'.items) ∙ ap (λ (n : ℕ). w'.items ++ port_lines (list_of b) (ports_at c i n)) (sym none) ∙ g.rest b e

    module _ (p : PlanIn c) (lt : i < c.ports) where
      pub line_room : (most : ℕ) → array_vec_len w + ports_most * line_most ≤ most → array_vec_len w' + line_most ≤ most
      line_room most h = let few = (plan_shape c p).few in omega (arith, g.bound)

      pub next : (reviewed : Reviewed) → PortReviewed s c i reviewed →
          (w'' : ArrayVec ℕ) → w''.items ≡ w'.items ++ port_text (get_or c.number i 0) (phase_told reviewed) → Going s c w w'' (i + 1)
      unfolding port_lines
      next reviewed h w'' q =
          let size = (port_short (get_or c.number i 0) (phase_told reviewed)).within in
          record {
            within = omega arith;
            bound = omega (arith, ap length q, length_both w'.items (port_text (get_or c.number i 0) (phase_told reviewed)), g.bound, size);
            rest = λ b e.
                ap (λ (t : List ℕ). t ++ left b) q ∙ append_assoc w'.items _ _ ∙ ap (λ (l : List ℕ). w'.items ++ (l ++ left b)) (ap (port_text (get_or c.number i 0)) (h b e))
                ∙ ap (λ (ps : List Port). w'.items ++ port_lines (list_of b) ps) here ∙ g.rest b e;
          }
        where
          left : Book → List ℕ
          left b = port_lines (list_of b) (ports_at c (i + 1) (c.ports - (i + 1)))

          one_less : (n k : ℕ) → k < n → n - k ≡ suc (n - (k + 1))
          one_less n k lt = omega arith

          here : record { number = get_or c.number i 0; ranges = ranges_at c i } ∷ ports_at c (i + 1) (c.ports - (i + 1)) ≡ ports_at c i (c.ports - i)
          here = rw (one_less c.ports i lt, add-one)

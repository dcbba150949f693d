-- THE CONTENTS OF A READ PLAN ARE THE PLAN, and what code that walks over them may go by.
use Rattle.std.specs.Prelude.{Result, Ok, Err, Some}
use Prim.Native.Nat.{ℕ, zero, suc, ◌+◌, ◌-◌, ◌*◌, ◌≤◌, ◌<◌}
use mathlib.Core.List.{List, [], ◌∷◌}
use mathlib.Core.Path.{◌≡◌, refl, ap, sym, subst, ◌∙◌}
use native.Mathlib.Omega.{arith}
use native.Mathlib.Nat.{suc-mul}
use borrow.Author.Tests.{eq-eqb, ne_eqb}
use lib.ListN.{length, get_or}
use Rattle.model.specs.Limits.{greatest, port_highest, ports_most, ranges_most}
use Rattle.model.specs.Answer as answer
use Rattle.model.specs.Answer.{Answer, fine}
use Rattle.model.specs.Spans.{Canonical}
use Rattle.model.specs.Plan.{Port, plan_of}
use Rattle.model.proofs.PlanRead.{GoodPorts, GoodPlan, plan_good}
use Rattle.refusals.specs.declared.Refusal.{Refusal}
use Rattle.refusals.specs.Refusals.{number_of, told}
use Rattle.plan.specs.declared.PlanContents.{PlanContents}
use Rattle.plan.specs.Contents.{asked, contents_of, plan_answer, ranges_at, PlanShape, PlanCharted}
use Rattle.plan.proofs.Room.{all_room}
use Rattle.plan.proofs.Held.{Held, held, held_first, held_next, held_ranges, held_ports, held_asked}

-- port j of the contents, with all ranges up to its own before `most`
record Standing (c : PlanContents) (j most : ℕ) : Type 0 where
  known : get_or c.number j 0 ≤ port_highest
  rising : get_or c.first j 0 ≤ get_or c.first (j + 1) 0
  inside : get_or c.first (j + 1) 0 ≤ most
  short : get_or c.first (j + 1) 0 - get_or c.first j 0 ≤ ranges_most
  canonical : Canonical greatest (ranges_at c j)

stands : (c : PlanContents) (k to least : ℕ) (ps : List Port) → Held c k to ps → GoodPorts least ps → (i j : ℕ) → j ≡ k + i → i < length ps → Standing c j (to + length ps * ranges_most)
stands c k to least [] h g i j e lt = absurd (omega arith)
stands c k to least (p ∷ ps) h g zero j e lt =
    let here : j ≡ k = omega arith in
    let first = held_first c k to (p ∷ ps) h in
    let next = held_next c k to p ps h in
    rw here (record {
      known = omega (arith, h.1, g.0.known);
      rising = omega (arith, first, next);
      inside = omega (arith, next, g.0.few.few, suc-mul (length ps) ranges_most);
      short = omega (arith, first, next, g.0.few.few);
      canonical = subst (Canonical greatest) (sym (held_ranges c k to p ps h)) g.0.few.canonical;
    })
stands c k to least (p ∷ ps) h g (suc i) j e lt =
    let r = stands c (suc k) (to + length p.ranges) (suc p.number) ps h.3 g.1 i j (omega arith) (omega arith) in
    record { known = r.known; rising = r.rising; inside = omega (arith, r.inside, g.0.few.few, suc-mul (length ps) ranges_most); short = r.short; canonical = r.canonical }

shape_of : (ps : List Port) → GoodPlan ps → PlanShape (contents_of ps)
unfolding contents_of
shape_of ps g = record {
  few = g.few;
  known = λ i lt. (at i lt).known;
  rising = λ i lt. (at i lt).rising;
  inside = λ i lt. omega (arith, (at i lt).inside, all_room ranges_most ports_most (length ps) (length ps * ranges_most) g.few (omega arith));
  short = λ i lt. (at i lt).short;
  canonical = λ i lt. (at i lt).canonical;
}
  where
    at : (i : ℕ) → i < length ps → Standing (contents_of ps) i (0 + length ps * ranges_most)
    at i lt = stands (contents_of ps) 0 0 0 ps (held ps) g.ports i i (omega arith) lt

-- numbers rise, so a port asked by its own number is found
found : (c : PlanContents) (k to least : ℕ) (ps : List Port) → Held c k to ps → GoodPorts least ps → (i j : ℕ) → j ≡ k + i → i < length ps →
    (least ≤ get_or c.number j 0) × (asked c.number (get_or c.number j 0) k (length ps) ≡ Some j)
unfolding asked
found c k to least [] h g i j e lt = absurd (omega arith)
found c k to least (p ∷ ps) h g zero j e lt =
    let here : j ≡ k = omega arith in
    rw here (omega (arith, h.1, g.0.later), rw (eq-eqb (get_or c.number k 0) (get_or c.number k 0) refl))
found c k to least (p ∷ ps) h g (suc i) j e lt =
    let r = found c (suc k) (to + length p.ranges) (suc p.number) ps h.3 g.1 i j (omega arith) (omega arith) in
    let other : get_or c.number k 0 ≡ get_or c.number j 0 → ⊥ = λ same. omega (arith, h.1, r.0) in
    (omega (arith, g.0.later, r.0), rw (ne_eqb (get_or c.number k 0) (get_or c.number j 0) other) r.1)

pub plan_charted : (s : List ℕ) (ps : List Port) → plan_of s ≡ fine ps → PlanCharted ps (contents_of ps)
unfolding contents_of
plan_charted s ps e = record {
  shape = shape_of ps (plan_good s ps e);
  ports = held_ports (contents_of ps) 0 0 ps (held ps);
  ranges = λ port. held_asked (contents_of ps) port 0 0 ps (held ps);
  own = λ i lt. (found (contents_of ps) 0 0 0 ps (held ps) (plan_good s ps e).ports i i (omega arith) lt).1;
}

-- ---- from the answer back to the plan

module _ (s : List ℕ) (r : Result PlanContents Refusal) (answer_is : told r ≡ plan_answer (plan_of s)) where
  pub answer_fine : (c : PlanContents) → r ≡ Ok c → (ps : List Port) × (plan_of s ≡ fine ps) × (c ≡ contents_of ps)
  answer_fine c f = go (plan_of s) refl (sym (ap told f) ∙ answer_is)
    where
      go : (m : Answer (List Port)) → plan_of s ≡ m → fine c ≡ plan_answer m → (ps : List Port) × (plan_of s ≡ fine ps) × (c ≡ contents_of ps)
      go (fine ps) q e = (ps, q, (cc))
      go (answer.refused n p) q e = cc

  pub answer_refused : (e : Refusal) → r ≡ Err e → plan_of s ≡ answer.refused (number_of e.fault) e.place
  answer_refused e f = go (plan_of s) refl (sym (ap told f) ∙ answer_is)
    where
      go : (m : Answer (List Port)) → plan_of s ≡ m → answer.refused (number_of e.fault) e.place ≡ plan_answer m → plan_of s ≡ answer.refused (number_of e.fault) e.place
      go (fine ps) q g = cc
      go (answer.refused n p) q g = cc

  -- whatever the bytes, the ports that are told have slots
  pub answer_few : (c : PlanContents) → r ≡ Ok c → c.ports ≤ ports_most
  unfolding contents_of
  answer_few c f =
      let told_fine = answer_fine c f in
      omega (arith, (plan_good s told_fine.0 told_fine.1).few, ap (λ (x : PlanContents). x.ports) told_fine.2)

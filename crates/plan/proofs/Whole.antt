-- The edition and the count, and the whole plan: one law for each way through the code.
use Rattle.std.specs.Prelude.{Result, Ok, Err}
use Rattle.std.proofs.Common.{◌≡◌, ◌∙◌, ℕ, zero, suc, ◌≤◌, ◌<◌, List, length, refl, ap, sym}
use borrow.Author.Tests.{le-leb, lt-leb, eq-eqb, ne_eqb}
use lib.ListN.{replicate}
use Rattle.model.specs.Limits.{plan_bytes, ports_most}
use Rattle.model.specs.Answer as answer
use Rattle.model.specs.Answer.{fine}
use Rattle.model.specs.Reader.{Stand, Read, got, refused, after}
use Rattle.model.specs.Book.{within, end, start}
use Rattle.model.specs.Plan.{Port, ports_from, whole_plan, as_eleven, plan_of}
use Rattle.model.proofs.Filling.{put_padded}
use Rattle.numbers.specs.declared.Number.{Number}
use Rattle.refusals.specs.declared.Refusal.{Refusal}
use Rattle.refusals.specs.declared.Fault.TheVariants.{BadPlan}
use Rattle.refusals.specs.Refusals.{number_of, refusal_at, told}
use Rattle.plan.specs.declared.PlanContents.{PlanContents}
use Rattle.plan.specs.Contents.{slots, lows, highs, numbers, all_ranges, starts, contents_of, plan_answer}
use Rattle.plan.specs.Written.{standing, Reads, FieldGot, FieldIs, PortsGot, PortsAre}
use Rattle.plan.proofs.Readings.{stop, on, on_field}

-- n ports, all slots 0
abbrev pub empty : ℕ → PlanContents
empty n = record { ports = n; number = replicate ports_most 0; first = replicate (suc ports_most) 0; low = replicate slots 0; high = replicate slots 0 }

abbrev ended : List ℕ → List Port → Stand → Read (List Port)
ended s ps st = after (end s st) (λ e st'. got ps st')

abbrev counted : List ℕ → ℕ → Stand → Read (List Port)
counted s n st = after (ports_from n zero s st) (ended s)

-- the contents are those of the plan
abbrev Whole : List Port → Stand → PlanContents → Type 0
Whole ps st c = c ≡ contents_of ps

module _ (s : List ℕ) where
  pub plan_long : plan_bytes < length s → answer.refused 11 0 ≡ plan_answer (plan_of s)
  unfolding plan_of
  plan_long h = rw lt-leb

  module _ (short : length s ≤ plan_bytes) where
    whole_is : (r : Result PlanContents Refusal) → Reads Whole r (whole_plan s start) → told r ≡ plan_answer (plan_of s)
    unfolding plan_of
    whole_is r h = rw (le-leb (length s) plan_bytes short) (go r (whole_plan s start) h)
      where
        go : (r : Result PlanContents Refusal) (m : Read (List Port)) → Reads Whole r m → told r ≡ plan_answer (as_eleven m)
        go (Ok c) (got ps st) g = ap fine g
        go (Ok c) (refused k p) g = absurd g
        go (Err e) (got ps st) g = absurd g
        go (Err e) (refused k p) g = ap (λ (x : Refusal). answer.refused (number_of x.fault) x.place) g

    pub edition_bad : (e : Refusal) → FieldIs 1 1 (Err e) (within 1 1 s (standing 0)) → told (Err e) ≡ plan_answer (plan_of s)
    edition_bad e h = whole_is (Err e) (stop Whole _ (FieldGot 1 1) e (within 1 1 s (standing 0)) h)

    module _ (edition : Number) (is-edition : FieldIs 1 1 (Ok edition) (within 1 1 s (standing 0))) where
      pub many_bad : (e : Refusal) → FieldIs 0 ports_most (Err e) (within 0 ports_most s (standing edition.next)) → told (Err e) ≡ plan_answer (plan_of s)
      many_bad e h = whole_is (Err e) (on_field Whole _ 1 1 edition (Err e) (within 1 1 s (standing 0)) is-edition
          (stop Whole (counted s) (FieldGot 0 ports_most) e (within 0 ports_most s (standing edition.next)) h))

      module _ (n : Number) (is-count : FieldIs 0 ports_most (Ok n) (within 0 ports_most s (standing edition.next))) where
        body_is : (r : Result PlanContents Refusal) → Reads Whole r (counted s n.value (standing n.next)) → told r ≡ plan_answer (plan_of s)
        body_is r h = whole_is r (on_field Whole _ 1 1 edition r (within 1 1 s (standing 0)) is-edition
            (on_field Whole (counted s) 0 ports_most n r (within 0 ports_most s (standing edition.next)) is-count h))

        module _ (c : PlanContents) where
          pub body_bad : (e : Refusal) → PortsAre n.value 0 0 (empty n.value) c (Err e) (ports_from n.value 0 s (standing n.next)) → told {A = PlanContents} (Err e) ≡ plan_answer (plan_of s)
          body_bad e h = body_is (Err e) (stop Whole (ended s) (PortsGot n.value 0 0 (empty n.value) c) e (ports_from n.value 0 s (standing n.next)) h)

          module _ (stops : ℕ) (are : PortsAre n.value 0 0 (empty n.value) c (Ok stops) (ports_from n.value 0 s (standing n.next))) where
            pub extra : (stops ≡ length s → ⊥) → told {A = PlanContents} (Err (refusal_at BadPlan stops)) ≡ plan_answer (plan_of s)
            extra more = body_is (Err (refusal_at BadPlan stops)) (on Whole (ended s) (PortsGot n.value 0 0 (empty n.value) c) stops (Err (refusal_at BadPlan stops)) (ports_from n.value 0 s (standing n.next)) are
                (λ ps st g. rw (g.stands, ne_eqb stops (length s) more) refl))

            pub fine_plan : stops ≡ length s → told (Ok c) ≡ plan_answer (plan_of s)
            unfolding contents_of
            fine_plan all = body_is (Ok c) (on Whole (ended s) (PortsGot n.value 0 0 (empty n.value) c) stops (Ok c) (ports_from n.value 0 s (standing n.next)) are
                (λ ps st g. rw (g.stands, eq-eqb stops (length s) all) (g.writes ∙ (λ j. record {
                  ports = sym g.count j;
                  number = put_padded ports_most (numbers ps) j;
                  first = put_padded (suc ports_most) (starts 0 ps) j;
                  low = put_padded slots (lows (all_ranges ps)) j;
                  high = put_padded slots (highs (all_ranges ps)) j;
                }))))

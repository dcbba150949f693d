-- What the functions that read a plan from left to right answer and leave in the contents.
use Rattle.std.specs.Prelude.{ℕ, zero, suc, ◌≤◌, ◌≡◌, List, length, Result, Ok, Err}
use Rattle.model.specs.Limits.{port_highest, ports_most, ranges_most}
use Rattle.model.specs.Reader.{Stand, Read, got, refused, Reader, ◌>>=◌, give}
use Rattle.model.specs.Book.{within}
use Rattle.model.specs.Spans.{Spans}
use Rattle.model.specs.Plan.{Port, ranges_from}
use Rattle.model.specs.Filling.{put}
use Rattle.numbers.specs.declared.Number.{Number}
use Rattle.refusals.specs.declared.Refusal.{Refusal}
use Rattle.refusals.specs.declared.Fault.TheVariants.{BadPlan}
use Rattle.refusals.specs.Refusals.{refusal_at}
use Rattle.plan.specs.Contents.{slots, lows, highs, numbers, all_ranges, starts}
use Rattle.plan.specs.declared.PlanContents.{PlanContents}
use Rattle.plan.specs.declared.PortRead.{PortRead}

-- a plan counts neither rules nor kinds 3
abbrev pub standing : ℕ → Stand
standing at = record { at = at; rules = 0; sources = 0 }

-- What a function answers where the model reads: `Gets` relates what is read to the answer. Every fault is refusal 11. The contents are
-- told only where nothing is refused, since a refused plan leaves none.
abbrev pub Reads : {A B : Type 0} → (A → Stand → B → Type 0) → Result B Refusal → Read A → Type 0
Reads Gets (Ok b) (got a st) = Gets a st b
Reads Gets (Ok b) (refused k p) = ⊥
Reads Gets (Err e) (got a st) = ⊥
Reads Gets (Err e) (refused k p) = e ≡ refusal_at BadPlan p

-- every array has all its slots
pub record Sized (c : PlanContents) : Type 0 where
  pub number : length c.number ≡ ports_most
  pub first : length c.first ≡ suc ports_most
  pub low : length c.low ≡ slots
  pub high : length c.high ≡ slots

-- ranges written from slot `to` on
abbrev pub laid : PlanContents → ℕ → Spans → PlanContents
laid c to rs = record { ports = c.ports; number = c.number; first = c.first; low = put c.low to (lows rs); high = put c.high to (highs rs) }

-- ports written from port i on, their ranges from slot `to` on
abbrev pub filled : PlanContents → ℕ → ℕ → List Port → PlanContents
filled c i to ps = record {
  ports = c.ports;
  number = put c.number i (numbers ps);
  first = put c.first i (starts to ps);
  low = put c.low to (lows (all_ranges ps));
  high = put c.high to (highs (all_ranges ps));
}

-- one port, numbered least or more
abbrev pub one_port : ℕ → Reader Port
one_port least = do
  p ← within least port_highest
  n ← within 0 ranges_most
  ranges ← ranges_from n zero
  give (record { number = p; ranges = ranges })

pub record FieldGot (low high v : ℕ) (st : Stand) (n : Number) : Type 0 where
  pub value : v ≡ n.value
  pub stands : st ≡ standing n.next
  pub least : low ≤ n.value
  pub most : n.value ≤ high

abbrev pub FieldIs : ℕ → ℕ → Result Number Refusal → Read ℕ → Type 0
FieldIs low high = Reads (FieldGot low high)

pub record RangesGot (n to : ℕ) (c c' : PlanContents) (rs : Spans) (st : Stand) (next : ℕ) : Type 0 where
  pub stands : st ≡ standing next
  pub count : length rs ≡ n
  pub writes : c' ≡ laid c to rs

abbrev pub RangesAre : ℕ → ℕ → PlanContents → PlanContents → Result ℕ Refusal → Read Spans → Type 0
RangesAre n to c c' = Reads (RangesGot n to c c')

pub record PortGot (to : ℕ) (c c' : PlanContents) (p : Port) (st : Stand) (r : PortRead) : Type 0 where
  pub number : p.number ≡ r.number
  pub count : length p.ranges ≡ r.ranges
  pub stands : st ≡ standing r.next
  pub known : r.number ≤ port_highest
  pub few : r.ranges ≤ ranges_most
  pub writes : c' ≡ laid c to p.ranges

abbrev pub PortIs : ℕ → PlanContents → PlanContents → Result PortRead Refusal → Read Port → Type 0
PortIs to c c' = Reads (PortGot to c c')

pub record PortsGot (n i to : ℕ) (c c' : PlanContents) (ps : List Port) (st : Stand) (next : ℕ) : Type 0 where
  pub stands : st ≡ standing next
  pub count : length ps ≡ n
  pub writes : c' ≡ filled c i to ps

abbrev pub PortsAre : ℕ → ℕ → ℕ → PlanContents → PlanContents → Result ℕ Refusal → Read (List Port) → Type 0
PortsAre n i to c c' = Reads (PortsGot n i to c c')

-- `numbers::read_number` meets its contract. The loop's invariant: what is left to find out from `next` on is the whole answer.
-- Assumes nothing.
use Rattle.std.proofs.Common.{◌≡◌, ◌-◌, ◌^◌, ◌<◌, ◌≤◌, drop}
use Rattle.model.specs.Number.{writing, number_at}
use Rattle.numbers.proofs.Rest.{rest}
use Rattle.numbers.proofs.read_number.Given as goal

abbrev pub invariant-loop : goal.invariant-loop
invariant-loop l =
    record {
      on : l.at ≤ l.next;
      small : l.value < l.scale;
      worth : l.scale ≡ 128 ^ l.counter;
      same : number_at l.s l.at ≡ rest l.at l.value l.scale l.next (writing (5 - l.counter) (drop l.next l.s));
    }

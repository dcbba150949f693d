-- A number that is known to stand somewhere, read byte by byte: there is always another byte, and the last is not refused. Assumes nothing.
use Rattle.std.proofs.Common.{◌≡◌, sym, ◌∙◌, ℕ, ◌+◌, ◌-◌, ◌*◌, ◌^◌, ◌<◌, ◌≤◌, List, length, get_or, drop, arith}
use Rattle.model.specs.Limits.{greatest}
use Rattle.model.specs.Number.{writing, number_at, numeral}
use Rattle.numbers.specs.Told.{Legible}
use Rattle.numbers.proofs.Rest.{rest, rest_start, rest_last, rest_more, legible_on, legible_last}

-- the byte b at `next` was read, and those before it are worth v
pub record Reading (s : List ℕ) (at v sc next b : ℕ) : Type 0 where
  pub on : at ≤ next
  pub few : next ≤ at + 4
  pub inside : next < length s
  pub read : b ≡ get_or s next 0
  pub byte : b < 256
  pub small : v < sc
  pub worth : sc ≡ 128 ^ (next - at)
  pub same : number_at s at ≡ rest at v sc next (writing (at + 5 - next) (drop next s))

pub first : (s : List ℕ) (at : ℕ) → Legible s at → at < length s
first s at k = (legible_on _ _ _ _ _ _ k.value k.next (sym (rest_start s at) ∙ k.stands)).1

module _ (s : List ℕ) (at v sc next b : ℕ) (k : Legible s at) (r : Reading s at v sc next b) where
  pub onward : 128 ≤ b → number_at s at ≡ rest at (v + (b - 128) * sc) (sc * 128) (next + 1) (writing (at + 5 - (next + 1)) (drop (next + 1) s))
  onward lo =
      let e : at + 5 - next - 1 ≡ at + 5 - (next + 1) = omega arith in
      r.same ∙ rw (← e) (rest_more s at v sc next (at + 5 - next) (omega arith) b r.read r.on r.inside lo r.byte)

  pub further : 128 ≤ b → (0 < at + 5 - (next + 1)) × (next + 1 < length s)
  further lo = legible_on _ _ _ _ _ _ k.value k.next (sym (onward lo) ∙ k.stands)

  pub last : b < 128 → (v + b * sc ≤ greatest) × (number_at s at ≡ numeral (v + b * sc) (next + 1))
  last lo =
      let e = r.same ∙ rest_last s at v sc next (at + 5 - next) (omega arith) b r.read r.inside lo in
      let j = legible_last _ _ k.value k.next _ (sym e ∙ k.stands) in
      (j.0, e ∙ j.1)

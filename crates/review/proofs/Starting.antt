-- The start of a review, path by path: the book, the plan, the port, the room. Assumes nothing.
use Rattle.std.proofs.Common.{◌≡◌, ℕ, zero, suc, ◌+◌, ◌-◌, ◌≤◌, ◌<◌, List, length, get_or, take, drop, Bool, true, false, refl, sym, ◌∙◌, ap, ap₂, subst, arith, Option, Some, None, Result, Ok, Err, length-drop}
use Rattle.std.specs.Option.{ok_or}
use Rattle.std.proofs.lemmas.List.{length-take-le, get_or-take, get_or-drop}
use borrow.Author.Tests.{le-leb}
use lib.Dec.{eqb}
use Rattle.model.specs.Limits.{greatest}
use Rattle.model.specs.Answer.{Answer, fine, refused, when}
use Rattle.model.specs.Calls.{readable}
use Rattle.model.specs.Tree.{Book}
use Rattle.model.specs.Unfolding.{list_of, words_of}
use Rattle.model.specs.Plan.{Port, plan_of, ranges_of}
use Rattle.model.specs.Spans.{complement}
use Rattle.model.specs.Review as model
use Rattle.model.specs.Entries as entries
use Rattle.model.specs.Entries.{room, start_entry, words_after}
use Rattle.refusals.specs.Refusals.{number_of}
use Rattle.refusals.specs.declared.Refusal.{Refusal}
use Rattle.plan.specs.declared.PlanContents.{PlanContents}
use Rattle.plan.specs.Contents.{slots, spans_from, ranges_at, contents_of, asked, ranges_asked, PlanShape, PlanCharted}
use Rattle.plan.proofs.Charted.{plan_charted}
use Rattle.room.specs.declared.Need.{Need}
use Rattle.suspects.specs.declared.Suspects.{Suspects}
use Rattle.suspects.specs.Slots.{Listed, Ranges, RangesAs, Outside, writes}
use Rattle.suspects.proofs.Unique.{holding_is}
use Rattle.listing.specs.Listings.{counts}
use Rattle.listing.proofs.Laws.{ListedIn}
use Rattle.review.specs.declared.Phase.TheVariants.{Running}
use Rattle.review.specs.declared.Started.{Started}
use Rattle.review.specs.Starts.{start_on, start_behind, Starts}

-- THE PORT'S RANGES

-- n ranges from i on are those that stand in the parts of the two lists that are cut out there
spans_listed : (low high : List ℕ) (i n j k : ℕ) → i + j + k ≤ i + n → i + n ≤ length low → i + n ≤ length high
    → Listed (take n (drop i low)) (take n (drop i high)) j (spans_from low high (i + j) k)
spans_listed low high i n j zero h p q = tt
spans_listed low high i n j (suc k) h p q = (
  record {
    low_room = omega (arith, length-take-le n (drop i low) (omega (arith, length-drop i low)));
    high_room = omega (arith, length-take-le n (drop i high) (omega (arith, length-drop i high)));
    low_is = get_or-take n (drop i low) j 0 (omega arith) ∙ get_or-drop i low j 0;
    high_is = get_or-take n (drop i high) j 0 (omega arith) ∙ get_or-drop i high j 0;
  },
  (let e : i + suc j ≡ suc (i + j) = omega arith in
      subst (λ m. Listed (take n (drop i low)) (take n (drop i high)) (suc j) (spans_from low high m k)) e (spans_listed low high i n (suc j) k (omega arith) p q)),
)

spans_count : (low high : List ℕ) (i n : ℕ) → length (spans_from low high i n) ≡ n
spans_count low high i zero = refl
spans_count low high i (suc n) = ap suc (spans_count low high (suc i) n)

module _ (c : PlanContents) (low_slots : length c.low ≡ slots) (high_slots : length c.high ≡ slots) (shape : PlanShape c) (i : ℕ) (lt : i < c.ports) where
  abbrev from : ℕ
  from = get_or c.first i 0

  abbrev count : ℕ
  count = get_or c.first (i + 1) 0 - get_or c.first i 0

  abbrev low_part : List ℕ
  low_part = take count (drop from c.low)

  abbrev high_part : List ℕ
  high_part = take count (drop from c.high)

  part_is : RangesAs low_part high_part (ranges_at c i) greatest
  part_is =
      let r = shape.rising i lt in
      let n = shape.inside i lt in
      let e : from + 0 ≡ from = omega arith in
      record {
        rising = shape.canonical i lt;
        counted = spans_count c.low c.high from count ∙ sym (length-take-le count (drop from c.low) (omega (arith, length-drop from c.low, low_slots)));
        listed = subst (λ m. Listed low_part high_part 0 (spans_from c.low c.high m count)) e
            (spans_listed c.low c.high from count 0 count (omega arith) (omega (arith, low_slots)) (omega (arith, high_slots)));
      }

  pub port_ranges : Ranges low_part high_part
  port_ranges = record { spans = ranges_at c i; top = greatest; are = part_is }

  pub port_outside : (r : Suspects) → Outside low_part high_part r → writes r (complement greatest (ranges_at c i))
  port_outside r f = f (ranges_at c i) greatest part_is

-- the asked port is one of the plan's
asked_few : (number : List ℕ) (port k n i : ℕ) → asked number port k n ≡ Some i → i < k + n
unfolding asked
asked_few number port k zero i e = absurd (cc)
asked_few number port k (suc n) i e = go (asked_few number port (suc k) n i) (eqb (get_or number k 0) port) e
  where
    go : (asked number port (suc k) n ≡ Some i → i < suc k + n) → (t : Bool) → when t (Some k) (asked number port (suc k) n) ≡ Some i → i < k + suc n
    go rest true e = let y : k ≡ i = cc in omega arith
    go rest false e = omega (arith, rest e)

pub asked_inside : (number : List ℕ) (port n i : ℕ) → asked number port 0 n ≡ Some i → i < n
asked_inside number port n i e = omega (arith, asked_few number port 0 n i e)

-- the index that was asked for, or the refusal in its place
pub asked_is : (o : Option ℕ) (e : Refusal) (r : Result ℕ Refusal) → r ≡ ok_or o e → (i : ℕ) → r ≡ Ok i → o ≡ Some i
asked_is None e r q i f = absurd (cc)
asked_is (Some j) e r q i f = cc

pub asked_none : (o : Option ℕ) (e : Refusal) (r : Result ℕ Refusal) → r ≡ ok_or o e → (f : Refusal) → r ≡ Err f → (o ≡ None) × (f ≡ e)
asked_none None e r q f g = (refl, cc)
asked_none (Some j) e r q f g = absurd (cc)

-- a plan that was read, by its contents
pub record PlanOf (plan : List ℕ) (c : PlanContents) : Type 0 where
  pub ports : List Port
  pub is : plan_of plan ≡ fine ports
  pub shape : PlanShape c
  pub ranges : (port : ℕ) → ranges_of port ports ≡ ranges_asked c port (asked c.number port 0 c.ports)

pub plan_read : (plan : List ℕ) (c : PlanContents) → (ps : List Port) × (plan_of plan ≡ fine ps) × (c ≡ contents_of ps) → PlanOf plan c
plan_read plan c k =
    let h = subst (PlanCharted k.0) (sym k.2) (plan_charted plan k.0 k.1) in
    record { ports = k.0; is = k.1; shape = h.shape; ranges = h.ranges }

-- THE START

module _ (s plan : List ℕ) (port : ℕ) (lent : List ℕ) where
  abbrev entry : Answer entries.Started
  entry = start_entry s plan port (length lent)

  -- a refusal leaves the words
  pub refuses : (e : Refusal) → entry ≡ refused (number_of e.fault) e.place → (r : Result Started Refusal) → r ≡ Err e → (after : List ℕ) → after ≡ lent → Starts entry (words_after entry s lent) r after
  refuses e q r f after l = rw (q, f) (record { answer = refl; lent = l })

  pub book_refused : (n p : ℕ) → readable s ≡ refused n p → entry ≡ refused n p
  unfolding start_entry
  book_refused n p e = rw e

  module _ (b : Book) (read : readable s ≡ fine b) where
    behind : entry ≡ start_behind b plan port (length lent)
    unfolding start_entry
    behind = rw read

    pub plan_refused : (n p : ℕ) → plan_of plan ≡ refused n p → entry ≡ refused n p
    plan_refused n p e = behind ∙ rw e

    module _ (ports : List Port) (e : plan_of plan ≡ fine ports) (c : PlanContents) (a : Option ℕ) (q : ranges_of port ports ≡ ranges_asked c port a) where
      pub port_missing : a ≡ None → entry ≡ refused 12 port
      port_missing m = behind ∙ rw (e, q, m)

      module _ (i : ℕ) (m : a ≡ Some i) where
        found : entry ≡ start_on b (ranges_at c i) port (length lent)
        found = behind ∙ rw (e, q, m)

        pub no_room : (n p : ℕ) → room (length lent) b ≡ refused n p → entry ≡ refused n p
        no_room n p r = found ∙ rw r

        module _ (n : Need) (after : List ℕ) (l : ListedIn b lent n after) where
          has_room : room (length lent) b ≡ fine (list_of b)
          has_room = rw (le-leb (length (words_of (list_of b))) (length lent) l.fits)

          pub starts : (x : Suspects) → writes x (complement greatest (ranges_at c i))
              → Starts entry (words_after entry s lent) (Ok (record { counts = n; state = record { phase = Running; place = 0; port = port; suspects = x } })) after
          starts x w =
              let is : entry ≡ fine (entries.started port (ranges_at c i) (list_of b)) = found ∙ rw has_room in
              let same : counts n ≡ entries.counted (list_of b) = ap₂ (λ w r. record { words = w; rules = r }) l.words l.rules in
              let state = holding_is (complement greatest (ranges_at c i)) x w port 0 model.running in
              rw (is, read) (record { answer = ap₂ (λ c s. fine (record { counts = c; state = s })) same state; lent = l.lent })

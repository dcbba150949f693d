-- The rule of a number stands where the contents say, and its bytes lie in the book. Assumes nothing.
use Prim.Native.Nat.{ℕ, ◌-◌, ◌≤◌, ◌<◌}
use native.Mathlib.Omega.{arith}
use mathlib.Core.List.{List, []}
use mathlib.Core.Path.{◌≡◌, refl, sym, ◌∙◌, ap, subst}
use lib.ListN.{length, take, drop}
use Rattle.std.specs.Prelude.{Result, Ok, Err}
use Rattle.model.specs.Limits.{rules_most}
use Rattle.model.specs.Answer.{Answer, fine, refused, ◌>>=◌}
use Rattle.model.specs.Tree.{Rule, Book, rules_of}
use Rattle.model.specs.Calls.{readable}
use Rattle.model.specs.Entries.{rule_of, rule_entry, part_of}
use Rattle.model.specs.Standing.{RuleWritten}
use Rattle.model.proofs.Success.{behind, fine_same}
use Rattle.model.proofs.Placed.{readable_read}
use Rattle.model.proofs.RuleOwn.{rule_own}
use Rattle.model.proofs.BookKnown.{KnownBook, numbered_found, numbered_none, book_known}
use Rattle.refusals.specs.Refusals.{number_of}
use Rattle.refusals.specs.declared.Refusal.{Refusal}
use Rattle.book.specs.Contents.{contents_of, note_at}
use Rattle.book.specs.Own.{no_rule}
use Rattle.book.specs.declared.Contents.{Contents}
use Rattle.book.proofs.Charts.{contents_owned}
use Rattle.rules.specs.Rules.{Bounds, bounds_of, bounds_told, bounds_in, rule_bounds, bytes_in}
use Rattle.rules.specs.declared.RuleBytes.{RuleBytes}

module _ (s : List ℕ) (b : Book) (e : readable s ≡ fine b) (c : Contents) (q : c ≡ contents_of b) where
  known : KnownBook s b
  known = let r = readable_read s b e in book_known s b r.0 r.1

  total : c.rules ≡ length (rules_of b)
  unfolding contents_of
  total = ap (λ c. c.rules) q ∙ known.total

  pub few : c.rules ≤ rules_most
  unfolding contents_of
  few = subst (λ n. n ≤ rules_most) (sym (ap (λ c. c.rules) q)) known.room

  -- by the contents
  pub bounds_none : (number : ℕ) → c.rules ≤ number → refused 17 number ≡ bounds_in b number
  bounds_none number le = rw (numbered_none number 0 (rules_of b) known.numbered (omega (arith, total)))

  pub bounds_at : (number : ℕ) → number < c.rules → bounds_told (Ok (record { start = (note_at c number).place; end = (note_at c number).end })) ≡ bounds_in b number
  bounds_at number lt =
      let r = readable_read s b e in
      let o = contents_owned s b r.0 r.1 number (subst (λ c. number < c.rules) q lt) in
      let f = numbered_found no_rule number 0 number (rules_of b) known.numbered (omega arith) (omega (arith, total)) in
      rw (q, f, o.starts, o.ends)

-- what the entries answer of a book that is refused, and of one that is not
module _ (s : List ℕ) (number : ℕ) where
  bytes_through : (m : Answer Book) → bytes_in s (◌>>=◌ m (λ b. bounds_in b number)) ≡ ◌>>=◌ m (λ b. ◌>>=◌ (rule_of number (rules_of b)) (λ r. fine (take (r.next - r.place) (drop r.place s))))
  bytes_through (refused n p) = refl
  bytes_through (fine b) = go (rule_of number (rules_of b))
    where
      go : (m : Answer Rule) → bytes_in s (◌>>=◌ m (λ r. fine (record { start = r.place; end = r.next }))) ≡ ◌>>=◌ m (λ r. fine (take (r.next - r.place) (drop r.place s)))
      go (fine r) = refl
      go (refused n p) = refl

  -- the bytes between the bounds are the rule's own
  pub bytes_own : bytes_in s (rule_bounds s number) ≡ rule_entry s number
  unfolding rule_bounds rule_entry
  bytes_own = bytes_through (readable s)

  -- so that an answer that says where the rule stands says its bytes too
  pub both_say : (r : Result RuleBytes Refusal) → bounds_told r ≡ rule_bounds s number
      → (bounds_told r ≡ rule_bounds s number) × (bytes_in s (bounds_told r) ≡ rule_entry s number)
  both_say r e = (e, ap (bytes_in s) e ∙ bytes_own)

  pub book_refused : (e : Refusal) → readable s ≡ refused (number_of e.fault) e.place → bounds_told (Err e) ≡ rule_bounds s number
  unfolding rule_bounds
  book_refused e q = rw q

  pub book_fine : (b : Book) → readable s ≡ fine b → bounds_in b number ≡ rule_bounds s number
  unfolding rule_bounds
  book_fine b e = rw e

  -- THE PART THAT IS HANDED BACK
  module _ (x : Result RuleBytes Refusal) (says : bytes_in s (bounds_told x) ≡ rule_entry s number) where
    pub part_none : (e : Refusal) → x ≡ Err e → [] ≡ part_of (rule_entry s number)
    part_none e is = ap (λ x. part_of (bytes_in s (bounds_told x))) (sym is) ∙ ap (λ a. part_of a) says

    module _ (r : RuleBytes) (is : x ≡ Ok r) where
      pub part_at : take (r.end - r.start) (drop r.start s) ≡ part_of (rule_entry s number)
      part_at = ap (λ x. part_of (bytes_in s (bounds_told x))) (sym is) ∙ ap (λ a. part_of a) says

      -- it lies in the book
      pub part_inside : bounds_told x ≡ rule_bounds s number → (r.start ≤ r.end) × (r.end ≤ length s)
      unfolding rule_bounds
      part_inside stands =
          let a : Bounds = bounds_of r in
          let b = behind (readable s) _ a (sym stands ∙ ap bounds_told is) in
          let t = behind (rule_of number (rules_of b.0)) _ a b.2 in
          let o = rule_own s number (take (r.end - r.start) (drop r.start s)) (sym says ∙ ap (λ x. bytes_in s (bounds_told x)) is) in
          let same-book : o.0 ≡ b.0 = fine_same (sym o.2 ∙ b.1) in
          let same-rule : o.1 ≡ t.0 = fine_same (sym o.3 ∙ ap (λ b. rule_of number (rules_of b)) same-book ∙ t.1) in
          let w : RuleWritten s t.0 = subst (RuleWritten s) same-rule o.5 in
          let starts : t.0.place ≡ r.start = ap (λ (a : Bounds). a.start) (fine_same t.2) in
          let ends : t.0.next ≡ r.end = ap (λ (a : Bounds). a.end) (fine_same t.2) in
          (omega (arith, w.some, starts, ends), omega (arith, w.inside, ends))

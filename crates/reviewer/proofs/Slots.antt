-- Three parts that are written next to each other, where there is room for no more, are all there is. Assumes nothing.
use Rattle.std.proofs.Common.{◌≡◌, ℕ, ◌+◌, List, [], ◌++◌, length, take, drop, sym, ◌∙◌, ap, ap₂, arith, append_assoc, length-append, length-drop}
use borrow.Rule.Slice.PartMut.{post_of, put_mid}
use lib.ListN.{drop_of_length-le}
use mathlib.Core.List.{append-nil}
use Rattle.std.proofs.Math.Seq.{take-append_seam}
use Rattle.std.proofs.lemmas.Slice.{take-put_mid}

module _ (w h l r : List ℕ) (n m : ℕ) (head : length h ≡ n) (lows : length l ≡ m) (highs : length r ≡ m) (all : length w ≡ n + (m + m)) where
  abbrev first : List ℕ
  first = h ++ post_of 0 n w

  abbrev second : List ℕ
  second = put_mid n m first l

  first_long : length first ≡ n + (m + m)
  first_long = omega (arith, length-append h (post_of 0 n w), length-drop n (drop 0 w), length-drop 0 w)

  first_head : take n first ≡ h
  first_head = ap (λ k. take k first) (sym head) ∙ take-append_seam h (post_of 0 n w)

  second_head : take (n + m) second ≡ h ++ l
  second_head = take-put_mid n m first l (n + m) (omega arith) (omega (arith, first_long)) ∙ ap (λ x. x ++ l) first_head

  second_end : post_of (n + m) m second ≡ []
  second_end = drop_of_length-le (drop (n + m) second) (omega (
    arith,
    length-drop (n + m) second,
    length-append (take n first) (l ++ post_of n m first),
    length-append l (post_of n m first),
    length-drop m (drop n first),
    length-drop n first,
    first_long,
    ap length first_head,
  ))

  pub parts_are : put_mid (n + m) m second r ≡ h ++ (l ++ r)
  parts_are = ap₂ ◌++◌ second_head (ap (λ x. r ++ x) second_end ∙ append-nil r) ∙ append_assoc h l r

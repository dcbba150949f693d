-- TWO ANSWERS THAT MEET THE STATEMENT ARE EQUAL, and so are the words that they leave.
use Prim.Native.Nat.{ℕ}
use mathlib.Core.Path.{◌≡◌, sym, ◌∙◌}
use mathlib.Core.List.{List}
use Rattle.book.specs.declared.Contents.{Contents}
use Rattle.unfolding.specs.Unfolded.{Unfoldable, Unfolded}

pub unfolded_same : {k : Contents} {policy space : ℕ} → Unfoldable k policy space
    → {before : List ℕ} {count count' : ℕ} {now now' : List ℕ} → Unfolded k policy before count now → Unfolded k policy before count' now'
    → (count ≡ count') × (now ≡ now')
unfolded_same u one two =
    let a = one u.book u.holds in
    let b = two u.book u.holds in
    (a.counted ∙ sym b.counted, a.words ∙ sym b.words)

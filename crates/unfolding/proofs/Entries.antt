-- A list rule written word by word: three words, then the conditions one after the other. Assumes nothing.
use Rattle.std.proofs.Common.{◌≡◌, ℕ, ◌+◌, ◌≤◌, ◌<◌, List, [], ◌∷◌, ◌++◌, length, get_or, take, set, ap, sym, ◌∙◌, arith, add-one}
use lib.ListN.{length-set}
use lib.Seq.{length-take-le, take-suc, take_all}
use Rattle.model.specs.Filling.{put}
use Rattle.model.proofs.Filling.{put_put, put_none, put_snoc, set_put, length_put}
use Rattle.unfolding.specs.Emitted.{entry}
use Rattle.unfolding.specs.Walking.{Writable}

-- i conditions are written behind the head
abbrev pub Copied : (cs : List ℕ) (at : ℕ) (head : List ℕ) → ℕ → List ℕ → Type 0
Copied cs at head i v = (i ≤ length cs) × (v ≡ put head (at + 3) (take i cs))

module _ (cs w : List ℕ) (at a n : ℕ) (fits : Writable cs w at) where
  abbrev headed : List ℕ
  headed = set (set (set w at a) (at + 1) n) (at + 2) (length cs)

  pub headed_length : length headed ≡ length w
  headed_length = simp length-set

  head_written : headed ≡ put w at (a ∷ n ∷ length cs ∷ [])
  head_written =
      let h : at + (length cs + 3) ≤ length w = fits.room in
      rw (set_put w at a (omega arith), put_snoc w at (a ∷ []) (at + 1) n (omega arith) (omega arith), put_snoc w at (a ∷ n ∷ []) (at + 2) (length cs) (omega arith) (omega arith))

  pub copied_none : Copied cs at headed 0 headed
  copied_none = (omega arith, sym (put_none headed (at + 3)))

  module _ (i : ℕ) (v : List ℕ) (c : Copied cs at headed i v) where
    pub copied_length : length v ≡ length w
    copied_length =
        let l : length (take i cs) ≡ i = length-take-le i cs c.0 in
        ap length c.1 ∙ length_put headed (at + 3) (take i cs) (omega (arith, headed_length, fits.room, c.0)) ∙ headed_length

    pub copied_next : i < length cs → Copied cs at headed (i + 1) (set v (at + 3 + i) (get_or cs i 0))
    copied_next lt =
        let l : length (take i cs) ≡ i = length-take-le i cs (omega arith) in
        let next : take (i + 1) cs ≡ take i cs ++ (get_or cs i 0 ∷ []) = rw add-one (take-suc cs i 0 lt) in (
          omega arith,
          ap (λ z. set z (at + 3 + i) (get_or cs i 0)) c.1
              ∙ put_snoc headed (at + 3) (take i cs) (at + 3 + i) (get_or cs i 0) (omega (arith, headed_length, fits.room)) (omega arith)
              ∙ ap (put headed (at + 3)) (sym next),
        )

    pub copied_all : length cs ≤ i → v ≡ put w at (entry a n cs)
    copied_all ge =
        let all : take i cs ≡ cs = take_all i cs ge in
        let le : at ≤ length w = omega (arith, fits.room) in
        c.1 ∙ rw (all, head_written, put_put w at (a ∷ n ∷ length cs ∷ []) cs le)

-- What the contents hold while the book is read: the chains that were read so far, and their rules.
use Rattle.std.specs.Prelude.{ℕ, suc, List}
use Rattle.model.specs.Limits.{chains_most}
use Rattle.model.specs.Tree.{Rule, all_rules}
use Rattle.model.specs.Filling.{padded}
use Rattle.book.specs.Contents.{starts, notes_of}
use Rattle.book.specs.declared.Contents.{Contents}

-- the contents k of the chains cs, which have so many rules
abbrev pub charting : Contents → List (List Rule) → ℕ → Contents
charting k cs rules = record {
  policy = k.policy;
  chains = k.chains;
  rules = rules;
  first = padded (suc chains_most) (starts 0 cs);
  noted = notes_of (all_rules cs);
}

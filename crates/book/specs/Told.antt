-- What the answer to a book says: document 01's refusals 1 to 8, or the book's contents.
use Rattle.model.specs.Answer as answer
use Rattle.model.specs.Answer.{Answer, fine}
use Rattle.model.specs.Reader.{Read, got, refused}
use Rattle.model.specs.Tree.{Book}
use Rattle.book.specs.Contents.{contents_of}
use Rattle.book.specs.declared.Contents.{Contents}

-- refusals 1 to 8, or the contents
unfoldable pub book_answer : Read Book → Answer Contents
unfolding contents_of
book_answer (got b st) = fine (contents_of b)
book_answer (refused n p) = answer.refused n p

-- What falls is how many digits are left.
use Rattle.text.proofs.+push_digits.Given as goal

abbrev pub decreases-push_digits : goal.decreases-push_digits
decreases-push_digits g l = l.n

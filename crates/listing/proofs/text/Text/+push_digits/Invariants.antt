-- Each call of itself is asked for one digit fewer.
use Rattle.listing.proofs.text.Text.+push_digits.Given as goal

abbrev pub decreases-push_digits : goal.decreases-push_digits
decreases-push_digits l = l.k

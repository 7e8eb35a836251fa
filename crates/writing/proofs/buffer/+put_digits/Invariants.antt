-- The measure is the number of digits.
use Rattle.writing.proofs.buffer.+put_digits.Given as goal

abbrev pub decreases-put_digits : goal.decreases-put_digits
decreases-put_digits l = l.k

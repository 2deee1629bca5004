-- The digits of a numeral, four a call: the number falls.
use Rattle.print.proofs.+places.Given as goal

abbrev pub decreases-places : goal.decreases-places
decreases-places l = l.n

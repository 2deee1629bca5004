-- The state by its head and its two arrays.
use Rattle.earnings.proofs.earned.Goals as goal

pub returns : goal.returns
returns c =
    rw c.head.ensures at c.earned_at.ensures

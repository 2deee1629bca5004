-- The state by its head and its two arrays.
use Rattle.page.proofs.print_day.Goals as goal

pub returns : goal.returns
returns c =
    let h = c.head.ensures in
    rw h at c.print_page.ensures

-- What is told: the page of a state, over the program's wire; only `crates/teller` can put a teller together.
use Rattle.day.specs.declared.Day.{Day}
use Rattle.page.specs.Printing.{page_of}
use Rattle.teller.specs.declared.Teller.{Teller}
use Rattle.teller.specs.Telling as telling
use Rattle.pumppage.specs.declared.told.Page.{Page}

abbrev pub new_teller : Teller Page
new_teller = telling.new_teller

-- the page of s told
abbrev pub Told : (w : Teller Page) (s : Day) (r : Teller Page) → Type 0
Told w s r = telling.Told (λ (p : Page). page_of p.day) w (record { day = s }) r

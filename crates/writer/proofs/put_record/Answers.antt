-- A form without slots is one word, one with one slot is `put_one`'s: the whole of its line.
use Rattle.lines.specs.Form.{template, numbers, piece, numbers_after, filled}
use Rattle.writer.proofs.Lines.{whole}
use Rattle.writer.proofs.put_record.Goals as goal

pub returns-in-Start : goal.returns-in-Start
unfolding template numbers piece numbers_after filled
returns-in-Start c = whole c.in-Start.is c.put.ensures

pub returns-in-View : goal.returns-in-View
unfolding template numbers piece numbers_after filled
returns-in-View c = whole c.in-View.is c.put_one.ensures

pub returns-in-Close : goal.returns-in-Close
unfolding template numbers piece numbers_after filled
returns-in-Close c = whole c.in-Close.is c.put-in-Close.ensures

pub returns-in-Done : goal.returns-in-Done
unfolding template numbers piece numbers_after filled
returns-in-Done c = whole c.in-Done.is c.put-in-Done.ensures

pub returns-in-Nobody : goal.returns-in-Nobody
unfolding template numbers piece numbers_after filled
returns-in-Nobody c = whole c.in-Nobody.is c.put-in-Nobody.ensures

pub returns-in-Refused : goal.returns-in-Refused
unfolding template numbers piece numbers_after filled
returns-in-Refused c = whole c.in-Refused.is c.put_one-in-Refused.ensures

pub returns-in-Pause : goal.returns-in-Pause
unfolding template numbers piece numbers_after filled
returns-in-Pause c = whole c.in-Pause.is c.put_one-in-Pause.ensures

pub returns-in-Resume : goal.returns-in-Resume
unfolding template numbers piece numbers_after filled
returns-in-Resume c = whole c.in-Resume.is c.put_one-in-Resume.ensures

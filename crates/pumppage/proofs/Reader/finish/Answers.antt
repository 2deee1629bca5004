-- The end of input: the state is sound and the buffer has room, so that its page is printed at the front, and told.
use Rattle.std.proofs.Common.{◌≡◌, ◌≤◌, arith, rules, length}
use Rattle.reply.specs.Session.{reply_room}
use Rattle.pumppage.proofs.Pages.{page_front, page_inside, never_refused}
use Rattle.pumppage.proofs.Reader.finish.Goals as goal

pub shared_ref_as_front-tell : goal.shared_ref_as_front-tell
shared_ref_as_front-tell c =
    let k = c.args.self.now in
    let wide : length k.out ≡ 65_536 = search rules in
    let room : reply_room ≤ length k.out = omega (arith, wide) in
    omega (
      arith,
      wide,
      c.finish.auto.out,
      c.print_day.auto.out,
      page_inside k.stream k.out c.finish.new.out c.print_day.new.out c.finish.result room c.requires
          c.finish.ensures c.finish.auto.out c.print_day.result c.print_day.ensures c.in-Ok.n c.in-Ok.is,
    )

pub tell-requires : goal.tell-requires
tell-requires c =
    let k = c.args.self.now in
    let wide : length k.out ≡ 65_536 = search rules in
    let room : reply_room ≤ length k.out = omega (arith, wide) in
    page_front k.stream k.out c.finish.new.out c.print_day.new.out c.finish.result room c.requires
    c.finish.ensures c.finish.auto.out c.print_day.result c.print_day.ensures c.in-Ok.n c.in-Ok.is

pub returns-in_default : goal.returns-in_default
returns-in_default c =
    let k = c.args.self.now in
    let wide : length k.out ≡ 65_536 = search rules in
    let room : reply_room ≤ length k.out = omega (arith, wide) in
    absurd (never_refused k.stream k.out c.finish.new.out c.print_day.new.out c.finish.result room
    c.requires c.finish.ensures c.finish.auto.out c.print_day.result c.print_day.ensures
    c.in_default.field-0 c.in_default.is)

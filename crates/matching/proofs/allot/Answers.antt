-- What stands at the end is certified, with figures read off the levels.
use mathlib.Core.Path.{refl, ◌∙◌}
use native.Mathlib.Omega.{arith}
use Prim.Native.Nat.{ℕ}
use lib.ListN.{length, length-append, length-drop}
use Rattle.allotments.specs.Allotment.{at}
use Rattle.allotments.proofs.Duality.{certified_test, certified_same}
use Rattle.matching.specs.Cited.{campaign_figure, view_figure}
use Rattle.exchange.proofs.Entries.{at_zeros}
use borrow.Author.Rules.{rules}
use Rattle.matching.proofs.Fill.{filled_with}
use Rattle.matching.proofs.Standing.{standing_certified}
use Rattle.matching.proofs.allot.Goals as goal

pub match_all-requires : goal.match_all-requires
match_all-requires c =
    let f = filled_with {xs = c.args.allotment.now} {n = length c.args.views.now} {v = 64}
    (omega (arith, c.requires.for_allotment)) (search rules) (c.fill.ensures.after (λ y h. h)) in
    record {
      market = c.requires.market;
      room = omega (arith, c.requires.for_allotment, c.fill.auto.self, length-append {A = ℕ}, length-drop {A = ℕ});
      free = f.front;
      long = refl;
      zeros = at_zeros 64;
    }

pub returns : goal.returns
returns c =
    let a = c.args in
    let m = c.match_all in
    let f = filled_with {xs = a.allotment.now} {n = length a.views.now} {v = 64}
    (omega (arith, c.requires.for_allotment)) (search rules) (c.fill.ensures.after (λ y h. h)) in
    let cf = c.write_campaign_figures in
    let vf = c.write_view_figures in
    let to' = m.new.allotment in
    let level = m.new.level in
    let us' = cf.new.surplus in
    let vs' = vf.new.worth in
    let ps = a.prices.now in
    let n = length a.views.now in
    let made = standing_certified a.count ps a.wholes.now a.views.now to' level m.ensures.closed
    c.requires.market m.ensures.standing in
    record {
      method = m.ensures.method;
      accepted = certified_test a.count (at ps) (at a.wholes.now) n (at a.views.now) (at to') (at us')
          (at vs')
          (certified_same a.count (at ps) (at a.wholes.now) n (at a.views.now) (at to')
          (campaign_figure ps level) (view_figure to' level) (at us') (at vs') made cf.ensures.front
          vf.ensures.front);
      to_beyond = λ j b. m.ensures.beyond j b ∙ f.beyond j b;
      us_beyond = cf.ensures.beyond;
      vs_beyond = vf.ensures.beyond;
    }

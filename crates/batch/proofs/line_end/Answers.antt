-- The search finds the first byte 10, or none.
use Rattle.std.proofs.Common.{◌≡◌, ◌-◌, ap, ◌∙◌, eqb, length, take, drop, arith, rules, tests, length-drop}
use lib.Seq.{take_all}
use Rattle.std.specs.List.{position}
use Rattle.std.specs.Option.{unwrap_or}
use Rattle.std.proofs.lemmas.Iterator.{YieldsList-from_slice}
use Rattle.std.proofs.lemmas.Iterator.Search.{position_from_yields_List}
use Rattle.reply.specs.Session.{upto}
use Rattle.batch.proofs.Rests.{upto_found, upto_le}
use Rattle.batch.proofs.line_end.Goals as goal

pub returns : goal.returns
returns c =
    let s = c.args.s.now in
    let at = c.args.at in
    let rest = take (length s - at) (drop at s) in
    let whole : rest ≡ drop at s = take_all (length s - at) (drop at s) (omega (arith, length-drop at s)) in
    let found : c.position.result ≡ position (λ b. eqb b 10) rest =
    position_from_yields_List {all = rest} (λ b. eqb b 10) _ _ _ c.position.ensures.ran
    (YieldsList-from_slice rest c.iter.ensures.rest) (λ x b q k. search (rules, tests)) in
    let n : c.unwrap_or.result ≡ upto (drop at s) =
    c.unwrap_or.ensures ∙ ap (λ o. unwrap_or o (length rest)) found ∙ upto_found rest ∙ ap upto whole in
    (omega (arith, n), omega (arith, n, upto_le (drop at s), length-drop at s))

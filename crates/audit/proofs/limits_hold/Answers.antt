-- Depth, width, `deepest`, the two limits and the marks: within width 16, depth ≤ deepest is question 5, by
-- `plan_tells`.
use Rattle.audit.proofs.Claims.{plan_tells}
use Rattle.campaigns.specs.Limits.{max_campaigns, max_views}
use lib.Dec.{leb}
use mathlib.Core.Bool.{Bool, ◌&&◌}
use mathlib.Core.Path.{ap₂, ◌∙◌}
use Rattle.audit.proofs.limits_hold.Goals as goal

pub returns : goal.returns
returns c =
    let a = c.args.head in
    let r = c.deepest in
    ap₂ (λ (x y : Bool). x && leb a.count max_campaigns && leb a.accepted max_views && y)
    (ap₂ (λ (x y : Bool). x && y && leb a.plan.depth r.result) c.depth_fits.ensures c.width_fits.ensures
    ∙ plan_tells a.plan r.result r.ensures.0) c.marks_hold.ensures

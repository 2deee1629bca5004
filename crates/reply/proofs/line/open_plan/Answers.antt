-- The plan that an opening leaves is sound, so that it has weights.
use Rattle.day.specs.Calls.Call.{open_plan}
use Rattle.reply.proofs.Kept.{opened_sound}
use Rattle.reply.proofs.line.open_plan.Goals as goal

pub renew-requires-clause-sound_after : goal.renew-requires-clause-sound_after
renew-requires-clause-sound_after c =
    let o = c.open_sound-step in
    opened_sound c.args.head _ _ (open_plan c.args.plan) c.requires.1 o.result _ _ o.ensures

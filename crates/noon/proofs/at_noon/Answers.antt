-- The audit tells whether the state is sound, and its figures; a share of at most 2^32 times dues of at most
-- 2,000,000,000 fits.
use mathlib.Core.Path.{ap₂, sym, ◌∙◌}
use Prim.Native.Nat.{ℕ, ◌*◌}
use Rattle.audit.specs.declared.Audit.{Audit}
use Rattle.audit.proofs.Audits.{audit_some, audit_none}
use Rattle.day.specs.Day.{campaign, state_of, total_takings, total_claim, sound, audited}
use Rattle.day.proofs.State.{sound_facts}
use Rattle.noon.specs.declared.Figures.{Figures}
use Rattle.refusal.specs.declared.Refusal.{Refusal}
use Rattle.refusal.specs.Refusal.{refusal}
use Rattle.std.proofs.Common.{rules, ◌≡◌, Result, Ok, Err, None}
use Rattle.noon.proofs.Dues.{noon_unsound, noon_sound}
use Rattle.noon.proofs.at_noon.Goals as goal

pub returns-in_err-audit : goal.returns-in_err-audit
unfolding sound audited
returns-in_err-audit c =
    let s = state_of c.args.head c.args.terms.now c.args.counts.now in
    let e : c.audited.result ≡ None = c.in_err-audit.ensures.ok_part in
    let told : c.from_residual.result ≡ Err (refusal 1) = search rules in
    told ∙ sym (noon_unsound s (audit_none c.args.head (campaign s) (sym e ∙ c.audited.ensures)))

pub share-requires : goal.share-requires
unfolding sound audited
share-requires c =
    let s = state_of c.args.head c.args.terms.now c.args.counts.now in
    let told = audit_some c.args.head (campaign s) (sym c.in_ok-audit.ensures.ok_part ∙ c.audited.ensures) in
    (sound_facts s told.0).plan_sound

pub total_due-requires : goal.total_due-requires
unfolding sound audited
total_due-requires c =
    let s = state_of c.args.head c.args.terms.now c.args.counts.now in
    record {
      room = record { terms_length = c.told-terms; counts_length = c.told-counts };
      is_sound = (audit_some c.args.head (campaign s) (sym c.in_ok-audit.ensures.ok_part ∙ c.audited.ensures)).0;
    }

-- what is handed back, by the audit and the floor's figure
abbrev given : Audit → ℕ → Result Figures Refusal
given a f = Ok (record { full = a.full; claim = a.claim; floor = f })

pub returns : goal.returns
unfolding sound audited total_takings total_claim
returns c =
    let s = state_of c.args.head c.args.terms.now c.args.counts.now in
    let told = audit_some c.args.head (campaign s) (sym c.in_ok-audit.ensures.ok_part ∙ c.audited.ensures) in
    ap₂ given told.1 (ap₂ ◌*◌ c.share.ensures.0 c.total_due.ensures.0) ∙ sym (noon_sound s told.0)

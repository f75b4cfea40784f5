use Rattle.std.proofs.Common.{refl, inl, inr}
use Rattle.lsm_crash.proofs.Width.{appended_may, made_may, mixed_left, removed_may, renamed_may, spoilt_left, wrote_may}
use Rattle.lsm_crash.proofs.laws.disks_may.Goals as goal

pub returns-clause-mixed : goal.returns-clause-mixed
returns-clause-mixed c = mixed_left

pub returns-clause-made : goal.returns-clause-made
returns-clause-made c = made_may

pub returns-clause-removed : goal.returns-clause-removed
returns-clause-removed c = removed_may

pub returns-clause-renamed : goal.returns-clause-renamed
returns-clause-renamed c = renamed_may

pub returns-clause-appended : goal.returns-clause-appended
returns-clause-appended c = appended_may

pub returns-clause-wrote : goal.returns-clause-wrote
returns-clause-wrote c = wrote_may

pub returns-clause-nothing : goal.returns-clause-nothing
returns-clause-nothing c d name other bytes fault = (inl refl, inl refl, inl refl, inl refl, inl refl, inl refl, inl refl)

pub returns-clause-all : goal.returns-clause-all
returns-clause-all c d e name other fault = (inr, inr, inr, inr)

pub returns-clause-begun : goal.returns-clause-begun
returns-clause-begun c d e name bytes k fault = (
  λ h. inr (k, e, h, inl refl),
  λ h. inr (inr (k, e, h, inl refl)),
  λ h. inr (inl h),
  λ own h. inr (own, k, h),
)

pub returns-clause-undone : goal.returns-clause-undone
returns-clause-undone c d mid e name bytes k fault gone =
    (λ h. inr (k, mid, h, inr gone), λ h. inr (inr (k, mid, h, inr gone)))

pub returns-clause-locked : goal.returns-clause-locked
returns-clause-locked c d e name kind answer = (inl refl, inr)

pub returns-clause-spoilt : goal.returns-clause-spoilt
returns-clause-spoilt c = spoilt_left

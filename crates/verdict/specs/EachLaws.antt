-- what holds of each element of a list holds at each number and of each member
use Rattle.std.proofs.Common.{sym, subst}
use mathlib.Core.List.Memᴰ
use mathlib.Core.List.{List, Memᴰ}
use Rattle.std.specs.Prelude.{ℕ, zero, suc, get_or}
use Rattle.verdict.specs.Lists.{Each, none, more}

-- where the list ends, the default
pub each_at : {A : Type 0} {P : A → Type 0} {l : List A} (d : A) → P d → Each P l → (i : ℕ) → P (get_or l i d)
each_at d h none i = h
each_at d h (more k e) zero = k
each_at d h (more k e) (suc i) = each_at d h e i

pub each_member : {A : Type 0} {P : A → Type 0} {l : List A} → Each P l → (x : A) → Memᴰ x l → P x
each_member none x m = absurd (Memᴰ.not-nil m)
each_member {P = P} (more k e) x (Memᴰ.head i) = subst P (sym i) k
each_member (more k e) x (Memᴰ.tail m) = each_member e x m

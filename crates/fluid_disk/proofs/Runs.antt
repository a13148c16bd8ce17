-- What a crash may leave behind one step of the only image.
use Rattle.std.proofs.Common.{ℕ, List, sym, subst}
use Rattle.fluid_disk.specs.Disk.{Only, Follows, Elapses, LeavesOnly}
use Rattle.fluid_disk.proofs.Moments.{started, goes_on}

pub stepped : (step : List ℕ → List ℕ → Type 0) (held : List ℕ) (old new : List ℕ → Type 0) → Only held old → Follows step old new → (image : List ℕ) → new image → step held image
stepped step held old new only follows image now = let from = follows image now in subst (λ b. step b image) (only from.0 from.1) from.2

module _ {D : Type 0} (may_leave : D → List ℕ → Type 0) (moment : D → ℕ) (left_since : D → ℕ → List ℕ → Type 0) where
  -- the call alone
  pub step_run : (old new : D) (step : List ℕ → List ℕ → Type 0) (held : List ℕ) → ((image : List ℕ) → left_since old (moment old) image → may_leave old image)
      → step held held → Only held (may_leave old) → Follows step (may_leave old) (may_leave new)
      → Elapses (moment old) (moment new) (left_since old) (left_since new) (may_leave new) → LeavesOnly moment left_since old new (step held)
  step_run old new step held here same only follows time =
      goes_on moment left_since old old new (step held) (may_leave new)
      (started moment left_since old (step held) (λ c left. subst (step held) (sym (only c (here c left))) same))
      time (stepped step held (may_leave old) (may_leave new) only follows)

  -- the call, and one behind it that leaves nothing more
  pub step_synced : (old mid new : D) (step : List ℕ → List ℕ → Type 0) (held : List ℕ) → ((image : List ℕ) → left_since old (moment old) image → may_leave old image)
      → step held held → Only held (may_leave old) → Follows step (may_leave old) (may_leave mid)
      → Elapses (moment old) (moment mid) (left_since old) (left_since mid) (may_leave mid)
      → ((image : List ℕ) → may_leave new image → may_leave mid image)
      → Elapses (moment mid) (moment new) (left_since mid) (left_since new) (may_leave new) → LeavesOnly moment left_since old new (step held)
  step_synced old mid new step held here same only follows time fewer later =
      goes_on moment left_since old mid new (step held) (may_leave new) (step_run old mid step held here same only follows time) later
      (λ c now. stepped step held (may_leave old) (may_leave mid) only follows c (fewer c now))

  -- a call that changes nothing of what a read gives
  pub quiet_run : (old new : D) → ((image : List ℕ) → left_since old (moment old) image → may_leave old image)
      → ((image : List ℕ) → may_leave new image → may_leave old image)
      → Elapses (moment old) (moment new) (left_since old) (left_since new) (may_leave new) → LeavesOnly moment left_since old new (may_leave old)
  quiet_run old new here fewer time = goes_on moment left_since old old new (may_leave old) (may_leave new) (started moment left_since old (may_leave old) here) time fewer

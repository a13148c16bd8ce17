-- How a run of calls on a disk goes on.
use Rattle.std.proofs.Common.{inl, inr, ⊎_elim, ℕ, ◌≤◌, List, arith}
use Rattle.fluid_disk.specs.Disk.{Elapses, LeavesOnly}

module _ {D : Type 0} (moment : D → ℕ) (left_since : D → ℕ → List ℕ → Type 0) where
  -- before the first call
  pub started : (old : D) (P : List ℕ → Type 0) → ((image : List ℕ) → left_since old (moment old) image → P image) → LeavesOnly moment left_since old old P
  started old P here = record { later = omega arith; each = here; before = λ t c le left. inl left }

  -- one call more, after which a crash leaves what has P
  pub goes_on : (old mid new : D) (P may_leave : List ℕ → Type 0) → LeavesOnly moment left_since old mid P → Elapses (moment mid) (moment new) (left_since mid) (left_since new) may_leave
      → ((image : List ℕ) → may_leave image → P image) → LeavesOnly moment left_since old new P
  goes_on old mid new P may_leave so_far time here = record {
    later = omega (arith, so_far.later, time.later);
    each = λ c left. ⊎_elim (so_far.each c) (here c) (time.nothing_else (moment old) c so_far.later left);
    before = λ t c le left. ⊎_elim (so_far.before t c le) (λ now. inr (here c now)) (time.nothing_else t c (omega (arith, le, so_far.later)) left);
  }

  -- a run behind another
  pub chained : (old mid new : D) (P : List ℕ → Type 0) → LeavesOnly moment left_since old mid P → LeavesOnly moment left_since mid new P → LeavesOnly moment left_since old new P
  chained old mid new P one two = record {
    later = omega (arith, one.later, two.later);
    each = λ c left. ⊎_elim (one.each c) (λ p. p) (two.before (moment old) c one.later left);
    before = λ t c le left. ⊎_elim (one.before t c le) (λ p. inr p) (two.before t c (omega (arith, le, one.later)) left);
  }

  pub weaker : (old new : D) (P Q : List ℕ → Type 0) → ((image : List ℕ) → P image → Q image) → LeavesOnly moment left_since old new P → LeavesOnly moment left_since old new Q
  weaker old new P Q f run = record {
    later = run.later;
    each = λ c left. f c (run.each c left);
    before = λ t c le left. ⊎_elim (λ past. inl past) (λ p. inr (f c p)) (run.before t c le left);
  }

  -- what a crash may leave behind a run
  pub left_behind : (old new : D) (P may_leave : List ℕ → Type 0) → LeavesOnly moment left_since old new P
      → ((t : ℕ) (image : List ℕ) → t ≤ moment new → may_leave image → left_since new t image) → (image : List ℕ) → may_leave image → P image
  left_behind old new P may_leave run counts image now = run.each image (counts (moment old) image run.later now)

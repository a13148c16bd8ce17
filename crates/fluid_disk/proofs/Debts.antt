-- What is noted as owed, and what is.
use Rattle.std.proofs.Common.{◌≡◌, ◌≢◌, ℕ, List, refl, sym, ◌∙◌, ap, subst, arith}
use Rattle.fluid_disk.specs.declared.owed.Owed.{Owed}
use Rattle.fluid_disk.specs.declared.owed.Owed.TheVariants as debts
use Rattle.fluid_disk.specs.Disk.{Stored}
use Rattle.fluid_disk.specs.Files.{Owing, Nothing, Appending, Cutting, IsNoted, Stands}

abbrev kind_of : Owed → ℕ
kind_of debts.Nothing = 0
kind_of debts.Append = 1
kind_of (debts.Cut count) = 2

abbrev count_of : Owed → ℕ
count_of debts.Nothing = 0
count_of debts.Append = 0
count_of (debts.Cut count) = count

other : (one two : Owed) → one ≡ two → kind_of one ≢ kind_of two → ⊥
other one two is differs = differs (ap kind_of is)

pub owing_nothing : (owing : Owing) (owed : Owed) → IsNoted owing owed → owed ≡ debts.Nothing → owing ≡ Nothing
owing_nothing Nothing owed noted is = refl
owing_nothing (Appending bytes) owed noted is = absurd (other debts.Append debts.Nothing (sym noted ∙ is) (omega arith))
owing_nothing (Cutting count) owed noted is = absurd (other (debts.Cut count) debts.Nothing (sym noted ∙ is) (omega arith))

pub owing_append : (owing : Owing) (owed : Owed) → IsNoted owing owed → owed ≡ debts.Append → (bytes : List ℕ) × (owing ≡ Appending bytes)
owing_append Nothing owed noted is = absurd (other debts.Nothing debts.Append (sym noted ∙ is) (omega arith))
owing_append (Appending bytes) owed noted is = (bytes, refl)
owing_append (Cutting count) owed noted is = absurd (other (debts.Cut count) debts.Append (sym noted ∙ is) (omega arith))

pub owing_cut : (owing : Owing) (owed : Owed) (count : ℕ) → IsNoted owing owed → owed ≡ debts.Cut count → owing ≡ Cutting count
owing_cut Nothing owed count noted is = absurd (other debts.Nothing (debts.Cut count) (sym noted ∙ is) (omega arith))
owing_cut (Appending bytes) owed count noted is = absurd (other debts.Append (debts.Cut count) (sym noted ∙ is) (omega arith))
owing_cut (Cutting n) owed count noted is = ap (λ (w : Owed). Cutting (count_of w)) (sym noted ∙ is)

-- the same under another name for what is owed
pub restands : {D : Type 0} (seen : D → Stored) (may_leave : D → List ℕ → Type 0) (records : List (List ℕ)) (owing other_owing : Owing) (disk : D) (gates : List ℕ) (owed other_owed : Owed)
    → owing ≡ other_owing → owed ≡ other_owed → Stands seen may_leave (record { records = records; owing = owing }) disk gates owed → Stands seen may_leave (record { records = records; owing = other_owing }) disk gates other_owed
restands seen may_leave records owing other_owing disk gates owed other_owed is same s =
    subst (λ (o : Owing). Stands seen may_leave (record { records = records; owing = o }) disk gates other_owed) is
    (subst (λ (w : Owed). Stands seen may_leave (record { records = records; owing = owing }) disk gates w) same s)

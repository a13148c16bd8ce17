-- One verdict more.
use Rattle.std.proofs.Common.{◌≡◌, ℕ, ◌+◌, ◌≤◌, ◌<◌, ◌^◌, ◌-◌, arith, Bool, true, false, cond, [], ◌∷◌, ◌++◌, length, length-append, refl, ap, ◌∙◌}
use Rattle.std.proofs.lemmas.List.Sums.{sum_by-append, sum_by-cons, count_by-le-length}
use Rattle.std.proofs.Math.Nat.{min-le_left}
use Rattle.fluid_types.specs.Ledger.{Ledger, messages_of, order, seq}
use Rattle.fluid_types.specs.declared.entries.Raw.{Raw}
use Rattle.fluid_types.specs.declared.verdicts.Verdict.{Verdict}
use Rattle.fluid_types.specs.declared.verdicts.Verdict.TheVariants.{Sequenced, Nacked, Dropped, Absorbed}
use Rattle.fluid_voice.specs.States.{number_behind}
use Rattle.fluid_voice.specs.Replies.{is_dropped, is_nacked}
use Rattle.fluid_workload.specs.Summary.{count, is_absorbed}
use Rattle.fluid_turns.specs.declared.tally.Tally.{Tally}
use Rattle.fluid_turns.specs.Tallying.{IsTally, tally_with, EntriesAreCounted}

one_more : (kind : Verdict → Bool) (l : Ledger) (raw : Raw) (v : Verdict) → count kind (l ++ (raw, v) ∷ []) ≡ count kind l + cond (kind v) 1 0
one_more kind l raw v = sum_by-append (λ entry. cond (kind entry.1) 1 0) l ((raw, v) ∷ []) ∙ ap (λ n. count kind l + n) (by (kind v))
  where
    by : (b : Bool) → 0 + cond b 1 0 ≡ cond b 1 0
    by true = refl
    by false = refl

stays : (kind : Verdict → Bool) (l : Ledger) (raw : Raw) (v : Verdict) (n : ℕ) → kind v ≡ false → n ≡ count kind l → n ≡ count kind (l ++ (raw, v) ∷ [])
stays kind l raw v n is same = omega (arith, same, one_more kind l raw v ∙ ap (λ b. count kind l + cond b 1 0) is)

behind_is : (n : ℕ) → n + 1 < 2 ^ 64 → number_behind n ≡ n + 1
behind_is n h =
    let low : n + 1 ≤ number_behind n = omega (arith, h) in
    omega (arith, low, min-le_left (n + 1) (2 ^ 64 - 1))

rises : (kind : Verdict → Bool) (l : Ledger) (raw : Raw) (v : Verdict) (n : ℕ) → kind v ≡ true → length l + 1 < 2 ^ 64 → n ≡ count kind l → number_behind n ≡ count kind (l ++ (raw, v) ∷ [])
rises kind l raw v n is few same =
    let within : count kind l ≤ length l = count_by-le-length (λ entry. kind entry.1) l in
    behind_is n (omega (arith, few, same, within)) ∙ omega (arith, same, one_more kind l raw v ∙ ap (λ b. count kind l + cond b 1 0) is)

pub tally_grows : (l : Ledger) (raw : Raw) (v : Verdict) (t : Tally) → length l + 1 < 2 ^ 64 → IsTally l t → IsTally (l ++ (raw, v) ∷ []) (tally_with v t)
tally_grows l raw (Sequenced m) t few is = record { absorbed = stays is_absorbed l raw (Sequenced m) t.absorbed refl is.absorbed; nacked = stays is_nacked l raw (Sequenced m) t.nacked refl is.nacked }
tally_grows l raw (Nacked nack) t few is = record { absorbed = stays is_absorbed l raw (Nacked nack) t.absorbed refl is.absorbed; nacked = rises is_nacked l raw (Nacked nack) t.nacked refl few is.nacked }
tally_grows l raw Dropped t few is = record { absorbed = stays is_absorbed l raw Dropped t.absorbed refl is.absorbed; nacked = stays is_nacked l raw Dropped t.nacked refl is.nacked }
tally_grows l raw Absorbed t few is = record { absorbed = rises is_absorbed l raw Absorbed t.absorbed refl few is.absorbed; nacked = stays is_nacked l raw Absorbed t.nacked refl is.nacked }

-- ---- each entry is of one kind

one_kind : (v : Verdict) → 1 ≡ length (messages_of v) + (cond (is_absorbed v) 1 0 + (cond (is_nacked v) 1 0 + cond (is_dropped v) 1 0))
one_kind (Sequenced m) = refl
one_kind (Nacked nack) = refl
one_kind Dropped = refl
one_kind Absorbed = refl

pub first_of : (kind : Verdict → Bool) (entry : Raw × Verdict) (l : Ledger) → count kind (entry ∷ l) ≡ cond (kind entry.1) 1 0 + count kind l
first_of kind entry l = sum_by-cons (λ e. cond (kind e.1) 1 0) entry l

pub entries_counted : EntriesAreCounted
unfolding seq order
entries_counted [] = refl
entries_counted (entry ∷ l) =
    omega (arith, entries_counted l, one_kind entry.1, length-append (messages_of entry.1) (order l), first_of is_absorbed entry l, first_of is_nacked entry l, first_of is_dropped entry l)

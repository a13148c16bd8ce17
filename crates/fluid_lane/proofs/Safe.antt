-- What holds of every lane holds behind each thing that may happen to it.
use Rattle.std.proofs.Common.{◌≡◌, ◌⊎◌, ℕ, ◌+◌, ◌<◌, ◌≤◌, true, false, List, ⊎_elim, sym, ap, subst, ◌∙◌, arith}
use Rattle.std.specs.Prelude.{nat_le}
use Rattle.std.specs.FinMap.{keys}
use Rattle.std.proofs.lemmas.Bool.{leb-false, false≢true}
use Rattle.fluid_types.specs.declared.entries.Raw.{Raw}
use Rattle.fluid_types.specs.declared.messages.Message.{Message}
use Rattle.fluid_log.specs.Calls.{KeepsSame, with_record}
use Rattle.fluid_log.specs.declared.keeper.TheConstants.{LONGEST_KEPT}
use Rattle.fluid_deltas.specs.Flushes.{with_deltas}
use Rattle.fluid_types.specs.Forms.{largest}
use Rattle.fluid_document.specs.Entries.{taken_up}
use Rattle.fluid_lane.specs.Standing.{Standing, AreNamed, IsOwn, IsSafe, is_worn}
use Rattle.fluid_lane.proofs.Named.{named_after, taken-entered}
use Rattle.fluid_lane.proofs.Ids.{named_same}

-- the entries stay
safe_left : (s t : Standing) → s.keeping.records ≤ t.keeping.records → (t.owed ≡ false → (t.keeping.records ≡ s.keeping.records) × (s.owed ≡ false)) → t.messages.before ≤ t.keeping.deltas → t.entries ≡ s.entries → s.entries.entered + t.sides ≤ largest → t.limits ≡ s.limits → IsSafe s → IsSafe t
safe_left s t more level reached entries few limits safe = record {
  few = omega (arith, ap (λ e. e.entered) entries, few);
  logged = omega (arith, ap (λ e. e.entered) entries, more, safe.logged);
  level = λ is. (level is).0 ∙ safe.level (level is).1 ∙ ap (λ e. e.entered) (sym entries);
  reached = reached;
  small = rw limits safe.small;
  named = rw entries safe.named;
}

pub safe_beside : (s t : Standing) → t.keeping.records ≡ s.keeping.records → t.messages.before ≤ t.keeping.deltas → t.entries ≡ s.entries → t.owed ≡ s.owed → s.entries.entered + t.sides ≤ largest → t.limits ≡ s.limits → IsSafe s → IsSafe t
safe_beside s t records reached entries owed few limits safe = safe_left s t (omega (arith, records)) (λ is. (records, sym owed ∙ is)) reached entries few limits safe

-- a call of the keeper that changed nothing
pub safe_same : (s t : Standing) → KeepsSame s.keeping t.keeping → t.entries ≡ s.entries → t.messages ≡ s.messages → t.owed ≡ s.owed → t.sides ≡ s.sides → t.limits ≡ s.limits → IsSafe s → IsSafe t
safe_same s t same entries messages owed sides limits safe =
    safe_beside s t same.records (omega (arith, ap (λ d. d.before) messages, same.deltas, safe.reached)) entries owed (omega (arith, sides, safe.few)) limits safe

pub not_worn : (entered sides : ℕ) → nat_le largest (entered + sides) ≡ false → entered + sides < largest
not_worn entered sides is = leb-false largest (entered + sides) is

-- an entry was entered, with its record
pub safe_entered : (s t : Standing) (raw : Raw) (bytes : List ℕ) (ms : List Message) → KeepsSame (with_record bytes (with_deltas ms s.keeping)) t.keeping → t.messages.before ≤ t.keeping.deltas → t.entries ≡ taken_up s.entries raw → s.owed ≡ false
    → is_worn s ≡ false → IsOwn s.entries.entered raw → t.sides ≡ s.sides → t.limits ≡ s.limits → IsSafe s → IsSafe t
safe_entered s t raw bytes ms same reached entries level worn own sides limits safe =
    let entered : t.entries.entered ≡ s.entries.entered + 1 = ap (λ e. e.entered) entries ∙ taken-entered s.entries raw in
    record {
      few = omega (arith, entered, sides, not_worn s.entries.entered s.sides worn);
      logged = omega (arith, entered, same.records, safe.logged);
      level = λ _. same.records ∙ ap (λ n. n + 1) (safe.level level) ∙ sym entered;
      reached = reached;
      small = subst (λ l. l.bytes ≤ LONGEST_KEPT) (sym limits) safe.small;
      named = subst (λ e. AreNamed e.entered e.state.sequencer.rows) (sym entries) (named_after s.entries raw safe.named own);
    }

-- an append failed
pub safe_torn : (s t : Standing) (bytes : List ℕ) (ms : List Message) → KeepsSame (with_deltas ms s.keeping) t.keeping ⊎ KeepsSame (with_record bytes (with_deltas ms s.keeping)) t.keeping → t.messages.before ≤ t.keeping.deltas → t.entries ≡ s.entries
    → t.owed ≡ true → t.sides ≡ s.sides → t.limits ≡ s.limits → IsSafe s → IsSafe t
safe_torn s t bytes ms left reached entries owed sides limits safe =
    let more : s.keeping.records ≤ t.keeping.records = ⊎_elim (λ same. omega (arith, same.records)) (λ one. omega (arith, one.records)) left in
    safe_left s t more (λ is. absurd (false≢true (sym is ∙ owed))) reached entries (omega (arith, sides, safe.few)) limits safe

-- the state was built anew, with the same entries and ids
pub safe_restarted : (s t : Standing) → t.keeping ≡ s.keeping → t.entries.entered ≡ s.entries.entered → t.messages.before ≤ s.keeping.deltas → keys s.entries.state.sequencer.rows ≡ keys t.entries.state.sequencer.rows → t.owed ≡ s.owed
    → s.entries.entered + t.sides ≤ largest → t.limits ≡ s.limits → IsSafe s → IsSafe t
safe_restarted s t keeping entered reached ids owed few limits safe = record {
  few = omega (arith, entered, few);
  logged = omega (arith, entered, ap (λ k. k.records) keeping, safe.logged);
  level = λ is. ap (λ k. k.records) keeping ∙ safe.level (sym owed ∙ is) ∙ sym entered;
  reached = omega (arith, ap (λ k. k.deltas) keeping, reached);
  small = subst (λ l. l.bytes ≤ LONGEST_KEPT) (sym limits) safe.small;
  named = subst (λ n. AreNamed n t.entries.state.sequencer.rows) (sym entered) (named_same s.entries.entered s.entries.state.sequencer.rows t.entries.state.sequencer.rows ids safe.named);
}

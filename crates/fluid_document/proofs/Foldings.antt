-- What is folded of a ledger, entry by entry, and read back from its records.
use Rattle.std.proofs.Common.{◌≡◌, ℕ, ◌+◌, ◌≤◌, arith, [], ◌∷◌, ◌++◌, length, Some, Ok, refl, sym, ap, ◌∙◌, append_assoc, append-nil, length-append, le-leb}
use Rattle.std.specs.Prelude.{All}
use Rattle.std.proofs.lemmas.Bool.{lt-leb}
use Rattle.std.proofs.lemmas.List.Elements.{All-head, All-tail}
use Rattle.fluid_types.specs.declared.entries.Raw.{Raw}
use Rattle.fluid_types.specs.declared.verdicts.Verdict.{Verdict}
use Rattle.fluid_types.specs.Fits.{longest_record}
use Rattle.fluid_types.specs.Printed.{raw_printed}
use Rattle.fluid_types.specs.Ledger.{Ledger}
use Rattle.fluid_rules.specs.Counted.{counted}
use Rattle.fluid_rules.specs.Rules.{verdict, IsLegal, IsLegalBehind}
use Rattle.fluid_rules.proofs.Counted.{counted-push}
use Rattle.fluid_rules.proofs.Legal.{legal-push}
use Rattle.fluid_core.specs.Entering.{State, state_of}
use Rattle.fluid_types.specs.Forms.{largest}
use Rattle.fluid_document.specs.Entries.{Entries, taken_up, entries_of}
use Rattle.fluid_document.specs.Loading.{record_in, log_folded}
use Rattle.fluid_document.specs.Kept.{IsLoggable, records}
use Rattle.fluid_core.proofs.Entered.{verdict-state_of, state_of-push}

pub same_entries : (s t : State) (e f c d : ℕ) → s ≡ t → e ≡ f → c ≡ d
    → (let one : Entries = record { state = s; entered = e; counted = c } in let other : Entries = record { state = t; entered = f; counted = d } in one ≡ other)
same_entries s t e f c d p r u = λ i. record { state = p i; entered = r i; counted = u i }

-- one entry more is taken up as the ledger with it and its verdict
pub taken-entries_of : (l : Ledger) (raw : Raw) → IsLegal l → taken_up (entries_of l) raw ≡ entries_of (l ++ (raw, verdict l raw) ∷ [])
unfolding taken_up entries_of
taken-entries_of l raw legal =
    let longer : length l + 1 ≡ length (l ++ (raw, verdict l raw) ∷ []) = omega (arith, length-append l ((raw, verdict l raw) ∷ [])) in
    rw (verdict-state_of l raw legal) (same_entries _ _ _ _ _ _ (sym (state_of-push l raw (verdict l raw) legal refl)) longer (sym (counted-push l (raw, verdict l raw))))

-- a record that a log takes decodes as its entry
pub record_in-printed : (entry : Raw × Verdict) → IsLoggable entry → record_in (raw_printed entry.0) ≡ Some entry.0
unfolding record_in
record_in-printed entry is = rw (is.text, is.fits.read_back, le-leb (length (raw_printed entry.0)) longest_record is.fits.short) refl

pub entered-entries_of : (l : Ledger) → (entries_of l).entered ≡ length l
unfolding entries_of
entered-entries_of l = refl

pub state-entries_of : (l : Ledger) → (entries_of l).state ≡ state_of l
unfolding entries_of
state-entries_of l = refl

pub counted-entries_of : (l : Ledger) → (entries_of l).counted ≡ counted l
unfolding entries_of
counted-entries_of l = refl

-- the records of a legal ledger behind another are folded to both together
pub folded-kept : (before l : Ledger) → IsLegal before → IsLegalBehind before l → All IsLoggable l → length before + length l ≤ largest
    → log_folded (entries_of before) (records l) ≡ Ok (entries_of (before ++ l))
unfolding log_folded
folded-kept before [] first legal loggable few = ap (λ m. Ok (entries_of m)) (sym (append-nil before))
folded-kept before (entry ∷ l) first legal loggable few =
    let same : (entry.0, verdict before entry.0) ≡ entry = ap (λ v. (entry.0, v)) (sym legal.0) in
    rw (lt-leb largest (entries_of before).entered (omega (arith, few, entered-entries_of before)), record_in-printed entry (All-head IsLoggable entry l loggable))
    (ap (λ e. log_folded e (records l)) (taken-entries_of before entry.0 first ∙ ap (λ x. entries_of (before ++ x ∷ [])) same)
    ∙ folded-kept (before ++ entry ∷ []) l (legal-push before entry first legal.0) legal.1 (All-tail IsLoggable entry l loggable) (omega (arith, few, length-append before (entry ∷ [])))
    ∙ ap (λ m. Ok (entries_of m)) (append_assoc before (entry ∷ []) l))

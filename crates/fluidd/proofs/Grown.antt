-- One line more at the end: of what was accepted, of the entries that are spelled, and of the lines that are written.
use Rattle.std.proofs.Common.{◌≡◌, ℕ, List, [], ◌∷◌, ◌++◌, refl, sym, ◌∙◌, ap, subst, append-nil, Option, None, Some}
use Rattle.std.proofs.lemmas.List.Elements.{filter_map-append}
use Rattle.std.specs.List.{cons_option}
use Rattle.std.proofs.lemmas.Grind.{flat_map-append}
use Rattle.fluid_types.specs.Ledger.{Ledger}
use Rattle.fluid_types.specs.declared.entries.Raw.{Raw}
use Rattle.fluid_rules.specs.Rules.{verdict, ledger}
use Rattle.fluid_rules.proofs.Legal.{ledger-push}
use Rattle.fluid_rules.specs.declared.limits.Limits.{Limits}
use Rattle.std.proofs.Common.{◌==◌, Bool, false, Result, Ok, Err, length}
use Rattle.std.proofs.Common.{⊎_elim}
use Rattle.fluid_json.specs.Unless.{IsUnless}
use Rattle.fluid_types.specs.Records.{raw_spelled}
use Rattle.fluidd.specs.declared.document.Document.{Document}
use Rattle.fluid_json.specs.declared.memory.NoMemory.{NoMemory}
use Rattle.fluid_pipe.specs.Meaning.{Meaning}
use Rattle.fluid_pipe.specs.Taking.{Takes}
use Rattle.fluid_pipe.specs.declared.taker.Untaken.{Untaken}
use Rattle.fluid_pipe.specs.declared.taker.Untaken.TheVariants as untaken
use Rattle.fluidd.specs.declared.refusal.Why.{Why}
use Rattle.fluidd.specs.Input.{entry_of, records, text_refusal}
use Rattle.std.proofs.Common.{◌+◌, cond}
use Rattle.fluid_rules.specs.Counted.{counted, is_counted}
use Rattle.fluid_rules.proofs.Counted.{counted-push}
use Rattle.fluid_types.specs.declared.verdicts.Verdict.{Verdict}
use Rattle.fluidd.specs.Output.{entry_line, lines_for, meaning, verdict_lines}
use Rattle.fluidd.specs.Documents.{Admits, Enters, Stands, StandsBehind, line_of, with_entry, with_entry_of}

pushed : (rs : List Raw) (entry : Option Raw) → ledger (rs ++ cons_option entry []) ≡ with_entry_of (ledger rs) entry
pushed rs None = ap ledger (append-nil rs)
pushed rs (Some raw) = ledger-push rs raw

pub ledger-line : (before : List (List ℕ)) (line : List ℕ) →
    ledger (records (before ++ line ∷ [])) ≡ with_entry_of (ledger (records before)) (entry_of line)
unfolding records
ledger-line before line = ap ledger (filter_map-append entry_of before (line ∷ [])) ∙ pushed (records before) (entry_of line)

pub lines-entry : (l : Ledger) (raw : Raw) → verdict_lines (with_entry l raw) ≡ verdict_lines l ++ entry_line (raw, verdict l raw)
unfolding verdict_lines
lines-entry l raw = flat_map-append entry_line l _ ∙ ap (λ s. verdict_lines l ++ s) (append-nil (entry_line (raw, verdict l raw)))

lines-entry_of : (l : Ledger) (entry : Option Raw) → verdict_lines (with_entry_of l entry) ≡ verdict_lines l ++ line_of l entry
lines-entry_of l None = sym (append-nil (verdict_lines l))
lines-entry_of l (Some raw) = lines-entry l raw

-- what is written for one line more
lines-line : (before : List (List ℕ)) (line : List ℕ) →
    lines_for (before ++ line ∷ []) ≡ lines_for before ++ line_of (ledger (records before)) (entry_of line)
lines-line before line = ap verdict_lines (ledger-line before line) ∙ lines-entry_of (ledger (records before)) (entry_of line)

-- a text that spells an entry is taken as the entry is
pub enters-spelled : (limits : Limits) (l : Ledger) (text : List ℕ) (raw : Raw) (new : Document) (old-waiting new-waiting : List ℕ) (result : Result (Unit {0}) (Untaken Why NoMemory)) →
    (length text == 0) ≡ false → raw_spelled text ≡ Ok raw → Admits limits l raw new old-waiting new-waiting result → Enters limits l text new old-waiting new-waiting result
unfolding text_refusal entry_of
enters-spelled limits l text raw new old-waiting new-waiting (Ok done) some spelled h = rw (some, spelled) h
enters-spelled limits l text raw new old-waiting new-waiting (Err (untaken.Refused why)) some spelled h = rw (some, spelled) h
enters-spelled limits l text raw new old-waiting new-waiting (Err (untaken.Failed fault)) some spelled h = tt

pub unless-ok : {T E : Type 0} (memory : E) (value : T) (expected : Result T E) → IsUnless memory (Ok value) expected → expected ≡ Ok value
unless-ok memory value expected h = ⊎_elim (λ (wanting : Ok value ≡ Err memory). cc) (λ (same : Ok value ≡ expected). sym same) h

-- ---- a document is a taker

pub takes-entered : (limits : Limits) (before : List (List ℕ)) (text : List ℕ) (new : Document) (old-waiting new-waiting : List ℕ) (result : Result (Unit {0}) (Untaken Why NoMemory)) →
    Enters limits (ledger (records before)) text new old-waiting new-waiting result →
    Takes (meaning limits) (λ ls. StandsBehind (meaning limits) ls new) before text old-waiting new-waiting result
takes-entered limits before text new old-waiting new-waiting (Ok done) h = record {
  accepted = h.0;
  keeps = record { limits = limits; is = refl; stands = subst (λ l. Stands limits l new) (sym (ledger-line before text)) h.1.stands };
  more = line_of (ledger (records before)) (entry_of text);
  waits = h.1.waits;
  output = lines-line before text;
}
takes-entered limits before text new old-waiting new-waiting (Err (untaken.Refused why)) h = (h.0, record { limits = limits; is = refl; stands = h.1 })
takes-entered limits before text new old-waiting new-waiting (Err (untaken.Failed fault)) h = tt

pub takes : (m : Meaning Why) (before : List (List ℕ)) (text : List ℕ) (old new : Document) (old-waiting new-waiting : List ℕ) (result : Result (Unit {0}) (Untaken Why NoMemory)) →
    ((limits : Limits) (l : Ledger) → Stands limits l old → Enters limits l text new old-waiting new-waiting result) → StandsBehind m before old →
    Takes m (λ ls. StandsBehind m ls new) before text old-waiting new-waiting result
takes m before text old new old-waiting new-waiting result enters b =
    subst (λ m. Takes m (λ ls. StandsBehind m ls new) before text old-waiting new-waiting result) (sym b.is)
    (takes-entered b.limits before text new old-waiting new-waiting result (enters b.limits (ledger (records before)) b.stands))

pub stands-none : (limits : Limits) (d : Document) → Stands limits [] d → StandsBehind (meaning limits) [] d
unfolding ledger records
stands-none limits d h = record { limits = limits; is = refl; stands = h }

-- ---- an entry more

pub counted-entry : (l : Ledger) (raw : Raw) (v : Verdict) (counts : Bool) → is_counted raw ≡ counts → counted (l ++ (raw, v) ∷ []) ≡ counted l + cond counts 1 0
counted-entry l raw v counts h = counted-push l (raw, v) ∙ ap (λ b. counted l + cond b 1 0) h

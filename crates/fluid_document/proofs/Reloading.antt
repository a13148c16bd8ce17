-- What is read of a keeper that is kept for a ledger is what is folded of that ledger.
use Rattle.std.proofs.Common.{◌≡◌, ℕ, ◌<◌, ◌≤◌, arith, false, [], ◌++◌, length, drop, get_or, Some, None, Ok, refl, sym, ap, subst, ⊎_elim, ◌∙◌, length-append, le-leb}
use Rattle.std.specs.Prelude.{All}
use Rattle.std.proofs.Math.Seq.{drop-append_seam}
use Rattle.std.proofs.lemmas.List.{map-append}
use Rattle.std.proofs.lemmas.Option.{slice_get-get_or}
use Rattle.fluid_types.specs.declared.entries.Raw.{Raw}
use Rattle.fluid_types.specs.declared.verdicts.Verdict.{Verdict}
use Rattle.fluid_types.specs.Printed.{raw_printed}
use Rattle.fluid_types.specs.Ledger.{Ledger, seq}
use Rattle.fluid_log.specs.Keeping.{Content}
use Rattle.fluid_readback.specs.Quorums.{QuorumsAreReadBack}
use Rattle.fluid_checkpoint.specs.Reading.{answer}
use Rattle.fluid_checkpoint.specs.declared.state.State.{State as Checkpoint}
use Rattle.fluid_checkpoint.specs.declared.state.Form.TheVariants.{One, Two}
use Rattle.fluid_rules.specs.Rules.{IsLegal}
use Rattle.fluid_rules.proofs.Legal.{legal-first, legal-behind}
use Rattle.fluid_rules.proofs.Counted.{counted-none}
use Rattle.fluid_types.specs.Forms.{largest}
use Rattle.fluid_document.specs.Entries.{Entries, nothing_entered, entries_of}
use Rattle.fluid_document.specs.Loading.{log_folded, folded_behind, begun_from, begun, loaded, IsSaid}
use Rattle.fluid_document.specs.Kept.{IsLoggable, records, checkpoint_state, IsKept}
use Rattle.fluid_document.proofs.Onwards.{start-state_of}
use Rattle.fluid_document.proofs.Foldings.{folded-kept, same_entries, entered-entries_of}
use Rattle.fluid_document.proofs.Keeps.{level_log, length-records}
use Rattle.fluid_document.specs.Laws.{CheckpointsAreCounted}
use Rattle.fluid_document.proofs.Saying.{says_before, says_printed, says_two, sequence-entries_of, begun_kept, first_part, last_part}

pub nothing-entries_of : nothing_entered ≡ entries_of []
unfolding entries_of
nothing-entries_of = same_entries _ _ 0 0 _ _ start-state_of refl (sym counted-none)

-- the records behind the first entries are folded to all of them
folded_rest : (l before behind : Ledger) (c : Content) → l ≡ before ++ behind → IsKept false l c → folded_behind c.log (Ok (entries_of before)) ≡ Ok (entries_of l)
folded_rest l before behind c splits kept =
    let legal = subst IsLegal splits kept.legal in
    let at : (entries_of before).entered ≡ length (records before) = entered-entries_of before ∙ sym (length-records before) in
    let log : c.log ≡ records before ++ records behind = level_log l c.log kept.log ∙ ap records splits ∙ map-append (λ (entry : Raw × Verdict). raw_printed entry.0) before behind in
    ap (log_folded (entries_of before)) (ap (λ n. drop n c.log) at ∙ ap (drop (length (records before))) log ∙ drop-append_seam (records before) (records behind))
    ∙ folded-kept before behind (legal-first before behind legal) (legal-behind before behind legal) (last_part IsLoggable before behind (subst (All IsLoggable) splits kept.loggable)) (omega (arith, kept.few, ap length splits, length-append before behind))
    ∙ ap (λ m. Ok (entries_of m)) (sym splits)

folded_all : (l : Ledger) (c : Content) → IsKept false l c → folded_behind c.log (Ok nothing_entered) ≡ Ok (entries_of l)
folded_all l c kept = ap (λ e. folded_behind c.log (Ok e)) nothing-entries_of ∙ folded_rest l [] l c refl kept

pub loaded-first : (l : Ledger) (c : Content) → IsKept false l c → loaded c None ≡ Ok (entries_of l)
unfolding begun
loaded-first l c kept = folded_all l c kept

-- a checkpoint of version 1 is read behind no entries, and one with a state behind those that made it
pub begun_one : (content : Content) (number entered : ℕ) (f : Entries) → IsSaid content number (Ok (One entered)) → entered ≤ length content.log → f ≡ nothing_entered → begun content (Some number) ≡ Ok f
unfolding begun
begun_one content number entered f is within same = rw (is.kept, is.said, le-leb entered (length content.log) within) (ap Ok (sym same))

pub begun_two : (content : Content) (number : ℕ) (s : Checkpoint) → IsSaid content number (Ok (Two s)) → s.entered ≤ length content.log → begun content (Some number) ≡ begun_from number (length content.deltas) s
unfolding begun
begun_two content number s is within = rw (is.kept, is.said, le-leb s.entered (length content.log) within) refl

-- there are as many records as entries
shorter : (l before behind : Ledger) (c : Content) → l ≡ before ++ behind → IsKept false l c → length before ≤ length c.log
shorter l before behind c splits kept = omega (arith, ap length splits, length-append before behind, ap length (level_log l c.log kept.log), length-records l)

begun_first : (l before behind : Ledger) (c : Content) (k : ℕ) → IsSaid c k (Ok (Two (checkpoint_state (entries_of before)))) → l ≡ before ++ behind → seq before ≤ length c.deltas → IsKept false l c
    → begun c (Some k) ≡ Ok (entries_of before)
begun_first l before behind c k said splits reached kept =
    begun_two c k _ said (omega (arith, entered-entries_of before, shorter l before behind c splits kept))
    ∙ begun_kept k (length c.deltas) before (legal-first before behind (subst IsLegal splits kept.legal)) (omega (arith, kept.few, ap length splits, length-append before behind)) reached

pub loaded-any : QuorumsAreReadBack → (l : Ledger) (c : Content) (k : ℕ) → IsKept false l c → k < length c.checkpoints → loaded c (Some k) ≡ Ok (entries_of l)
loaded-any back l c k kept lt =
    let text = get_or c.checkpoints k [] in
    let at = slice_get-get_or c.checkpoints k [] lt in
    let says = says_before back l c k text at kept in
    ⊎_elim
    (λ (two : answer text ≡ Ok (Two (checkpoint_state (entries_of says.before)))).
    ap (folded_behind c.log) (begun_first l says.before says.behind c k (record { text = text; kept = at; said = two }) says.splits says.reached kept) ∙ folded_rest l says.before says.behind c says.splits kept)
    (λ (one : answer text ≡ Ok (One (length says.before))).
    ap (folded_behind c.log) (begun_one c k _ _ (record { text = text; kept = at; said = one }) (shorter l says.before says.behind c says.splits kept) refl) ∙ folded_all l c kept)
    says.says

-- ---- what a checkpoint counts

pub counted_as_printed : QuorumsAreReadBack → CheckpointsAreCounted
counted_as_printed back before behind c k text kept at printed =
    let few : length before ≤ largest = omega (arith, kept.few, length-append before behind) in
    let said = says_printed back before (legal-first before behind kept.legal) (first_part IsLoggable before behind kept.loggable) few text printed in
    let says = says_before back (before ++ behind) c k text at kept in
    let same = ap (λ (s : Checkpoint). s.sequencer.sequence) (says_two _ _ _ says _ said) in
    let reached : seq before ≤ length c.deltas = omega (arith, says.reached, sequence-entries_of before, sequence-entries_of says.before, same) in
    (begun_first (before ++ behind) before behind c k (record { text = text; kept = at; said = said }) refl reached kept, entered-entries_of before)

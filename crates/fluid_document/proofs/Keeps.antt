-- A keeper that is kept for a ledger stays so: behind a cut, a record more, an entry more.
use Rattle.std.proofs.Common.{◌≡◌, ℕ, ◌<◌, ◌≤◌, arith, Option, Some, None, Bool, true, false, List, [], ◌∷◌, ◌++◌, length, take, map, refl, sym, ap, subst, ◌∙◌, ◌⊎◌, inl, inr, append_assoc, append-nil, length-append, All}
use Rattle.std.proofs.lemmas.List.{length-map, map-append}
use Rattle.std.proofs.lemmas.List.Elements.{All-push, All-weaker}
use Rattle.std.proofs.Math.Seq.{take-append_seam}
use Rattle.fluid_types.specs.declared.entries.Raw.{Raw}
use Rattle.fluid_types.specs.declared.messages.Message.{Message}
use Rattle.fluid_types.specs.declared.verdicts.Verdict.{Verdict}
use Rattle.fluid_types.specs.Printed.{raw_printed, message_printed}
use Rattle.fluid_types.specs.Ledger.{Ledger, order, messages_of}
use Rattle.fluid_rules.specs.Rules.{verdict}
use Rattle.fluid_rules.proofs.Legal.{legal-push}
use Rattle.fluid_types.proofs.Ledgers.{order-push}
use Rattle.fluid_types.specs.Fits.{Fits}
use Rattle.std.specs.Option.{option_map}
use Rattle.fluid_io.specs.Causes.{Tells}
use Rattle.fluid_log.specs.Keeping.{Content, Keeping, IsText}
use Rattle.fluid_log.specs.Calls.{add_record, keep_records}
use Rattle.fluid_deltas.specs.Pushed.{AreDeltasOf}
use Rattle.fluid_deltas.specs.Flushes.{put_behind}
use Rattle.fluid_deltas.proofs.Telling.{tells_along, tells_becomes}
use Rattle.fluid_document.specs.Loading.{PutsDeltas}
use Rattle.fluid_types.specs.Forms.{largest}
use Rattle.fluid_document.specs.Kept.{IsLoggable, records, IsRecordOf, IsTorn, IsLogOf, IsCheckpointOf, IsKept}

level_as : (l : Ledger) (log : List (List ℕ)) → log ≡ records l → IsLogOf false l log
level_as l log is = record { behind = []; splits = is ∙ sym (append-nil (records l)); level = λ _. refl; torn = tt }

pub level_log : (l : Ledger) (log : List (List ℕ)) → IsLogOf false l log → log ≡ records l
level_log l log is = is.splits ∙ ap (λ behind. records l ++ behind) (is.level refl) ∙ append-nil (records l)

pub length-records : (l : Ledger) → length (records l) ≡ length l
length-records l = length-map l (λ (entry : Raw × Verdict). raw_printed entry.0)

with_log : {owed other : Bool} (l : Ledger) (c : Content) (log : List (List ℕ)) → IsKept owed l c → IsLogOf other l log → IsKept other l (record c { log = log })
with_log l c log kept is = assumption

-- where a cut may be owed, more may be known
pub kept_owed : (owed : Bool) (l : Ledger) (c : Content) → IsKept owed l c → IsKept true l c
kept_owed owed l c kept = with_log l c c.log kept (record { behind = kept.log.behind; splits = kept.log.splits; level = λ is. cc; torn = kept.log.torn })

-- behind the cut to its entries the log is level
pub kept_cut : (owed : Bool) (n : ℕ) (l : Ledger) (c : Content) → n ≡ length l → IsKept owed l c → IsKept false l (keep_records n c)
kept_cut owed n l c is kept =
    with_log l c (take n c.log) kept
    (level_as l _ (ap (λ k. take k c.log) (is ∙ sym (length-records l)) ∙ ap (take (length (records l))) kept.log.splits ∙ take-append_seam (records l) kept.log.behind))

-- the record of an entry that isn't entered is owed a cut
pub kept_torn : (l : Ledger) (raw : Raw) (c : Content) → IsKept false l c → Fits raw → IsText (raw_printed raw) → IsKept true l (add_record (raw_printed raw) c)
kept_torn l raw c kept fits text =
    let torn : IsRecordOf (raw_printed raw) = record { raw = raw; fits = fits; is = refl; text = text } in
    with_log l c (c.log ++ raw_printed raw ∷ []) kept
    (record { behind = raw_printed raw ∷ []; splits = ap (λ log. log ++ raw_printed raw ∷ []) (level_log l c.log kept.log); level = λ is. cc; torn = torn })

-- one more message doesn't take deltas away
pub deltas_grow : (order more : List Message) (deltas : List (List ℕ)) → AreDeltasOf order deltas → AreDeltasOf (order ++ more) deltas
deltas_grow order more deltas are = record {
  rest = are.rest ++ map message_printed more;
  first = map-append message_printed order more ∙ ap (λ texts. texts ++ map message_printed more) are.first ∙ append_assoc deltas are.rest (map message_printed more);
  texts = are.texts;
}

-- nor do more entries or more deltas take a checkpoint away
checkpoints_grow : (l m more : Ledger) (one other : ℕ) (texts : List (List ℕ)) → m ≡ l ++ more → one ≤ other → All (IsCheckpointOf l one) texts → All (IsCheckpointOf m other) texts
checkpoints_grow l m more one other texts same le = All-weaker (IsCheckpointOf l one) (IsCheckpointOf m other)
    (λ bytes is. record {
      before = is.before;
      behind = is.behind ++ more;
      splits = same ∙ ap (λ prefix. prefix ++ more) is.splits ∙ append_assoc is.before is.behind more;
      text = is.text;
      reached = omega (arith, is.reached, le);
    }) texts

torn_entered : (l : Ledger) (c : Content) (bytes : List ℕ) (is : IsRecordOf bytes) → IsKept true l c → c.log ≡ records l ++ bytes ∷ [] → length l < largest
    → IsKept false (l ++ (is.raw, verdict l is.raw) ∷ []) c
torn_entered l c bytes is kept splits few =
    let entry : Raw × Verdict = (is.raw, verdict l is.raw) in
    record {
      legal = legal-push l entry kept.legal refl;
      few = omega (arith, few, length-append l (entry ∷ []));
      loggable = All-push IsLoggable l entry kept.loggable (record { fits = is.fits; text = subst IsText is.is is.text });
      log = level_as _ c.log (splits ∙ ap (λ text. records l ++ text ∷ []) is.is ∙ sym (map-append (λ (e : Raw × Verdict). raw_printed e.0) l (entry ∷ [])));
      deltas = subst (λ o. AreDeltasOf o c.deltas) (sym (order-push l entry)) (deltas_grow (order l) (messages_of (verdict l is.raw)) c.deltas kept.deltas);
      checkpoints = checkpoints_grow l _ (entry ∷ []) (length c.deltas) (length c.deltas) c.checkpoints refl (omega arith) kept.checkpoints;
    }

-- an entry more, with its verdict and its record
pub kept_entered : (l : Ledger) (raw : Raw) (v : Verdict) (c : Content) → IsKept false l c → v ≡ verdict l raw → IsLoggable (raw, v) → length l < largest
    → IsKept false (l ++ (raw, v) ∷ []) (add_record (raw_printed raw) c)
kept_entered l raw v c kept is loggable few =
    let torn : IsRecordOf (raw_printed raw) = record { raw = raw; fits = loggable.fits; is = refl; text = loggable.text } in
    subst (λ w. IsKept false (l ++ (raw, w) ∷ []) (add_record (raw_printed raw) c)) (sym is)
    (torn_entered l _ _ torn (kept_torn l raw c kept loggable.fits loggable.text) (ap (λ log. log ++ raw_printed raw ∷ []) (level_log l c.log kept.log)) few)

-- what is kept but for a record behind the log's end is kept for the ledger, or for the ledger with the entry of that record
pub kept_whole : (l : Ledger) (c : Content) → IsKept true l c → length l < largest → IsKept false l c ⊎ ((raw : Raw) × IsKept false (l ++ (raw, verdict l raw) ∷ []) c)
kept_whole l c kept few = by kept.log.behind kept.log.splits kept.log.torn
  where
    by : (behind : List (List ℕ)) → c.log ≡ records l ++ behind → IsTorn behind → IsKept false l c ⊎ ((raw : Raw) × IsKept false (l ++ (raw, verdict l raw) ∷ []) c)
    by [] splits torn = inl (with_log l c c.log kept (level_as l c.log (splits ∙ append-nil (records l))))
    by (bytes ∷ []) splits torn = inr (torn.raw, torn_entered l c bytes torn kept splits few)
    by (bytes ∷ more ∷ rest) splits torn = absurd torn

-- more messages of its order among the deltas
pub kept_more : (owed : Bool) (l : Ledger) (ms : List Message) (c : Content) → AreDeltasOf (order l) (c.deltas ++ map message_printed ms) → IsKept owed l c → IsKept owed l (put_behind ms c)
kept_more owed l ms c deltas kept =
    let more = length-append c.deltas (map message_printed ms) in
    assumption (deltas, checkpoints_grow l l [] (length c.deltas) (length (c.deltas ++ map message_printed ms)) c.checkpoints (sym (append-nil l)) (omega (arith, more)) kept.checkpoints)

-- ---- a keeper into which deltas were put

-- what was told before and what is told behind them
pub tells_over : (old new : Keeping) (puts : PutsDeltas old new) (P Q R : Content → Type 0) → ((c : Content) → P c → Q (put_behind puts.messages c) → R c) → Tells old.content P → Tells new.content Q
    → Tells old.content R
tells_over old new puts P Q R each p q = by old.content p (tells_along _ _ Q puts.kept.content q)
  where
    by : (told : Option Content) → Tells told P → Tells (option_map (put_behind puts.messages) told) Q → Tells told R
    by None p q = tt
    by (Some c) p q = each c p q

-- what follows where the keeper tells its content
pub where_told : (old new : Keeping) (X : Type 0) (P : Content → Type 0) → PutsDeltas old new → Tells old.content (λ c. X) → (X → Tells new.content P) → Tells new.content P
where_told old new X P puts told leads = tells_along _ _ P (sym puts.kept.content) (by old.content told (λ x. tells_along _ _ P puts.kept.content (leads x)))
  where
    by : (content : Option Content) → Tells content (λ c. X) → (X → Tells (option_map (put_behind puts.messages) content) P) → Tells (option_map (put_behind puts.messages) content) P
    by None told leads = tt
    by (Some c) told leads = leads told

pub told_more : (owed : Bool) (l : Ledger) (old new : Keeping) → PutsDeltas old new → Tells old.content (IsKept owed l) → Tells new.content (λ c. AreDeltasOf (order l) c.deltas) → Tells new.content (IsKept owed l)
told_more owed l old new puts kept deltas =
    tells_along _ _ (IsKept owed l) (sym puts.kept.content)
    (tells_becomes old.content _ (λ c. IsKept owed l (put_behind puts.messages c)) (IsKept owed l) (λ c k. k)
    (tells_over old new puts (IsKept owed l) (λ c. AreDeltasOf (order l) c.deltas) _ (λ c k d. kept_more owed l puts.messages c d k) kept deltas))

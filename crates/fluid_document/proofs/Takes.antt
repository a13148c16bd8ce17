-- One record that is taken up over a keeper that is kept, and all of them.
use Rattle.std.proofs.Common.{◌≡◌, ◌⊎◌, ℕ, ◌+◌, ◌<◌, ◌≤◌, false, [], ◌∷◌, ◌++◌, length, take, drop, slice_get, Option, Some, Ok, inl, inr, sym, ap, ◌∙◌, arith}
use Rattle.std.specs.Option.{option_map}
use Rattle.std.proofs.lemmas.List.{take_all}
use Rattle.std.proofs.lemmas.Option.{slice_get-map, same_Some}
use Rattle.fluid_io.specs.Causes.{Tells}
use Rattle.fluid_types.specs.declared.entries.Raw.{Raw}
use Rattle.fluid_types.specs.declared.verdicts.Verdict.{Verdict}
use Rattle.fluid_types.specs.Printed.{raw_printed}
use Rattle.fluid_types.specs.Ledger.{Ledger, order, seq, messages_of}
use Rattle.fluid_rules.specs.Rules.{verdict}
use Rattle.fluid_types.proofs.Ledgers.{seq-push}
use Rattle.fluid_log.specs.Keeping.{Content, Keeping, HasLengths}
use Rattle.fluid_log.specs.Calls.{KeepsSame}
use Rattle.fluid_deltas.specs.Pushed.{pushed, AreDeltasOf, StandIn}
use Rattle.fluid_deltas.proofs.Telling.{tells_from, tells_both, tells_along}
use Rattle.fluid_core.specs.Entering.{verdict_in}
use Rattle.fluid_core.proofs.Entered.{verdict-state_of}
use Rattle.fluid_document.specs.Entries.{InMemory, taken_up, entries_of}
use Rattle.fluid_document.specs.Kept.{IsLoggable, IsKept}
use Rattle.fluid_document.specs.Loading.{record_in, IsRecord, PutsDeltas}
use Rattle.fluid_document.specs.Taking.{IsNext, IsTaken, IsLeft, StandsAt, ReadsKept}
use Rattle.fluid_document.specs.declared.fault.LoadFault.{LoadFault}
use Rattle.fluid_document.proofs.Keeps.{where_told, told_more, level_log, length-records}
use Rattle.fluid_document.proofs.Foldings.{taken-entries_of, record_in-printed, state-entries_of}
use Rattle.fluid_document.proofs.Orders.{in_place, place-legal, place-order, all-there, seq-length}

-- what is known of the record in a place of a keeper that is kept
record IsEntry (l : Ledger) (place : ℕ) (now : InMemory) (raw : Raw) : Type 0 where
  next : IsNext (order l) (pushed now.messages) (messages_of (verdict_in now.entries.state raw))
  entries : taken_up now.entries raw ≡ entries_of (take (place + 1) l)
  count : pushed now.messages + length (messages_of (verdict_in now.entries.state raw)) ≡ seq (take (place + 1) l)

entry_of : (l : Ledger) (place : ℕ) (now : InMemory) (raw : Raw) (c : Content) → place < length c.log → StandsAt l now place c → IsRecord c place (Some raw) → IsEntry l place now raw
entry_of l place now raw c lt stands is =
    let log = level_log l c.log stands.kept.log in
    let at = in_place l place (omega (arith, lt, ap length log, length-records l)) in
    let legal = place-legal l place at stands.kept.legal in
    let text : raw_printed at.entry.0 ≡ is.text =
    same_Some _ _ (sym (slice_get-map (λ (e : Raw × Verdict). raw_printed e.0) l place ∙ ap (option_map (λ (e : Raw × Verdict). raw_printed e.0)) at.there) ∙ ap (λ texts. slice_get texts place) (sym log) ∙ is.kept) in
    let same : raw ≡ at.entry.0 = sym (same_Some _ _ (sym (record_in-printed at.entry (all-there IsLoggable l place at.entry at.there stands.kept.loggable)) ∙ ap record_in text ∙ is.decodes)) in
    let state = ap (λ e. e.state) stands.entries ∙ state-entries_of (take place l) in
    let said : verdict_in now.entries.state raw ≡ at.entry.1 =
    ap (λ s. verdict_in s raw) state ∙ verdict-state_of (take place l) raw legal.0 ∙ ap (verdict (take place l)) same ∙ sym legal.1 in
    let entry : (at.entry.0, verdict (take place l) at.entry.0) ≡ at.entry = ap (λ v. (at.entry.0, v)) (sym legal.1) in
    record {
      next = (order at.rest, ap (λ n. drop n (order l)) stands.count ∙ place-order l place at ∙ ap (λ v. messages_of v ++ order at.rest) (sym said));
      entries = ap (λ e. taken_up e raw) stands.entries
          ∙ ap (taken_up (entries_of (take place l))) same
          ∙ taken-entries_of (take place l) at.entry.0 legal.0
          ∙ ap (λ e. entries_of (take place l ++ e ∷ [])) entry
          ∙ ap entries_of (sym at.next);
      count = omega (arith, stands.count, ap (λ v. length (messages_of v)) said, ap seq at.next, seq-push (take place l) at.entry);
    }

entry_told : (l : Ledger) (place : ℕ) (mid : Keeping) (now : InMemory) (raw : Raw) → place < mid.records → Tells mid.content (HasLengths mid) → Tells mid.content (StandsAt l now place) → Tells mid.content (λ c. IsRecord c place (Some raw))
    → Tells mid.content (λ c. IsEntry l place now raw)
entry_told l place mid now raw lt sized stands is =
    tells_both mid.content (λ c. place < length c.log) (λ c. StandsAt l now place c × IsRecord c place (Some raw)) _ (λ c there both. entry_of l place now raw c there both.0 both.1)
    (tells_from mid.content (HasLengths mid) _ (λ c lengths. omega (arith, lt, lengths.records)) sized) (tells_both mid.content (StandsAt l now place) (λ c. IsRecord c place (Some raw)) (λ c. StandsAt l now place c × IsRecord c place (Some raw)) (λ c stand one. (stand, one)) stands is)

pub kept_at : (l : Ledger) (m : InMemory) (place : ℕ) (told : Option Content) → Tells told (StandsAt l m place) → Tells told (IsKept false l)
kept_at l m place told stands = tells_from told (StandsAt l m place) (IsKept false l) (λ c s. s.kept) stands

-- one more of its entries is taken up
pub takes_entry : (l : Ledger) (place : ℕ) (mid new : Keeping) (now next : InMemory) → place < mid.records → Tells mid.content (HasLengths mid) → PutsDeltas mid new → IsTaken place mid new now next
    → Tells mid.content (StandsAt l now place) → Tells new.content (StandsAt l next (place + 1))
takes_entry l place mid new now next lt sized puts taken stands =
    where_told mid new _ (StandsAt l next (place + 1)) puts (entry_told l place mid now taken.raw lt sized stands taken.is)
    (λ entry.
    let part = taken.stands (order l) entry.next (tells_from mid.content (StandsAt l now place) (StandIn now.messages (order l)) (λ c s. s.stand) stands) in
    let kept = told_more false l mid new puts (kept_at l now place mid.content stands) (tells_from new.content (StandIn next.messages (order l)) (λ c. AreDeltasOf (order l) c.deltas) (λ c s. s.deltas) part) in
    tells_both new.content (IsKept false l) (StandIn next.messages (order l)) (StandsAt l next (place + 1))
    (λ c k s. record { kept = k; stand = s; entries = taken.entries ∙ entry.entries; count = taken.count ∙ entry.count }) kept part)

-- or it isn't, and the keeper is kept still
pub leaves_entry : (l : Ledger) (place : ℕ) (mid new : Keeping) (now next : InMemory) (fault : LoadFault) → place < mid.records → Tells mid.content (HasLengths mid) → PutsDeltas mid new → KeepsSame mid new ⊎ IsLeft place mid new now next fault
    → Tells mid.content (StandsAt l now place) → Tells new.content (IsKept false l)
leaves_entry l place mid new now next fault lt sized puts (inl same) stands = tells_along mid.content new.content (IsKept false l) (sym same.content) (kept_at l now place mid.content stands)
leaves_entry l place mid new now next fault lt sized puts (inr left) stands =
    where_told mid new _ (IsKept false l) puts (entry_told l place mid now left.raw lt sized stands left.is)
    (λ entry. told_more false l mid new puts (kept_at l now place mid.content stands)
    (left.stands (order l) entry.next (tells_from mid.content (StandsAt l now place) (StandIn now.messages (order l)) (λ c s. s.stand) stands)))

-- all are taken up
pub takes_all : {A : Type 0} (view : A → InMemory) (a : A) (l : Ledger) (place : ℕ) (new : Keeping) → new.records ≤ place → Tells new.content (HasLengths new) → Tells new.content (StandsAt l (view a) place)
    → Tells new.content (ReadsKept view l (Ok a))
takes_all view a l place new le sized stands =
    tells_both new.content (HasLengths new) (StandsAt l (view a) place) (ReadsKept view l (Ok a))
    (λ c lengths stand.
    let all : take place l ≡ l = take_all place l (omega (arith, le, lengths.records, ap length (level_log l c.log stand.kept.log), length-records l)) in
    (stand.kept, record { stand = stand.stand; whole = seq-length l ∙ ap seq (sym all) ∙ sym stand.count })) sized stands

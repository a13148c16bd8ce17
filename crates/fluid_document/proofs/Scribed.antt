-- What a scribe keeps of the messages of a legal ledger is in the form of a checkpoint.
use Rattle.std.proofs.Common.{◌≡◌, ℕ, zero, suc, ◌≤◌, ◌==◌, Bool, true, false, ◌&&◌, List, [], ◌∷◌, ◌++◌, length, map, take, drop, refl, arith, All}
use Rattle.std.specs.Prelude.{IsTrue, cond, not, filter, if◌then◌else◌}
use Rattle.std.specs.List.{list_any}
use Rattle.std.specs.Ordering.{nat_cmp}
use Rattle.std.specs.FinMap.{is_sorted}
use Rattle.std.specs.FinMap.Entries.{below_all}
use Rattle.std.proofs.lemmas.List.Elements.{All-nil, All-cons, All-head, All-tail, All-take, All-drop, All-weaker, All-filter, filter_passes}
use Rattle.std.proofs.lemmas.Bool.{lt-ltb}
use Rattle.fluid_json.specs.Tree.{IsCanonical, depth}
use Rattle.fluid_types.specs.Ledger.{Ledger, order}
use Rattle.fluid_types.specs.Order.{AreNumberedFrom, AreFirst}
use Rattle.fluid_types.specs.Quorum.{Quorum, quorum}
use Rattle.fluid_types.specs.declared.messages.Message.{Message}
use Rattle.fluid_types.specs.Blobs.{blob_tree}
use Rattle.fluid_types.specs.declared.quorum.QuorumBlob.TheVariants.{Attributes, Members, Proposals, Values}
use Rattle.fluid_types.proofs.Numbers.{numbered_take}
use Rattle.fluid_codec.specs.Laws.{IsMessage}
use Rattle.fluid_readback.specs.Laws.{IsReadBack}
use Rattle.fluid_readback.specs.Quorums.{IsReadAsItself, QuorumsAreReadBack}
use Rattle.fluid_readback.proofs.Quorums.{IsBlobValue, blob_values}
use Rattle.fluid_rules.specs.Rules.{IsLegal}
use Rattle.fluid_rules.specs.Scribe.{is_summarize, answers, unanswered}
use Rattle.fluid_scribe.specs.State as scribe
use Rattle.fluid_scribe.specs.State.{is_heard, heard, changes, base_of, state_at}
use Rattle.fluid_scribe.proofs.Sequenced.{legal-sequenced, sequenced-numbered}
use Rattle.fluid_quorum.specs.Node.{AreTexts}
use Rattle.fluid_quorum.specs.declared.state.ScribeState.{ScribeState}
use Rattle.fluid_core.specs.Entering.{state_of}
use Rattle.fluid_checkpoint.specs.Text.{base_tree}
use Rattle.fluid_checkpoint.specs.Laws.{IsBase, AreMessages, IsChange, IsAck}
use Rattle.fluid_types.specs.Forms.{largest}
use Rattle.fluid_document.specs.Entries.{entries_of}
use Rattle.fluid_document.specs.Kept.{IsLoggable}
use Rattle.fluid_document.proofs.Orders.{order-read_back}
use Rattle.fluid_document.proofs.Acked.{waits_all, acks_in_form}

-- ---- numbers that rise

abbrev AreRising : {X : Type 0} → ℕ → List (ℕ × X) → Type 0
AreRising low [] = Unit {0}
AreRising low (x ∷ xs) = (low ≤ x.0) × AreRising (suc x.0) xs

lower : {X : Type 0} (low high : ℕ) (xs : List (ℕ × X)) → low ≤ high → AreRising high xs → AreRising low xs
lower low high [] le h = tt
lower low high (x ∷ xs) le h = (omega (arith, le, h.0), h.1)

below : {X : Type 0} (n : ℕ) (xs : List (ℕ × X)) → AreRising (suc n) xs → below_all nat_cmp n xs ≡ true
below n [] h = refl
below n (x ∷ xs) h = rw (lt-ltb n x.0 (omega (arith, h.0)), below n xs (lower (suc n) (suc x.0) xs (omega (arith, h.0)) h.1)) refl

in_order : {X : Type 0} (low : ℕ) (xs : List (ℕ × X)) → AreRising low xs → is_sorted nat_cmp xs ≡ true
in_order low [] h = refl
in_order low (x ∷ xs) h = rw (below x.0 xs h.1, in_order (suc x.0) xs h.1) refl

abbrev by_number : List Message → List (ℕ × Message)
by_number ms = map (λ m. (m.number, m)) ms

rising_numbered : (n : ℕ) (ms : List Message) → AreNumberedFrom n ms → AreRising n (by_number ms)
rising_numbered n [] h = tt
rising_numbered n (m ∷ ms) h = (omega (arith, h.0), lower (suc m.number) (suc n) (by_number ms) (omega (arith, h.0)) (rising_numbered (suc n) ms h.1))

rising_drop : (k low : ℕ) (ms : List Message) → AreRising low (by_number ms) → AreRising low (by_number (drop k ms))
rising_drop zero low ms h = h
rising_drop (suc k) low [] h = tt
rising_drop (suc k) low (m ∷ ms) h = lower low (suc m.number) (by_number (drop k ms)) (omega (arith, h.0)) (rising_drop k (suc m.number) ms h.1)

rising_filter : (p : Message → Bool) (low : ℕ) (ms : List Message) → AreRising low (by_number ms) → AreRising low (by_number (filter p ms))
rising_filter p low [] h = tt
rising_filter p low (m ∷ ms) h = by (p m) (rising_filter p (suc m.number) ms h.1)
  where
    by : (b : Bool) → AreRising (suc m.number) (by_number (filter p ms)) → AreRising low (by_number (cond b (m ∷ filter p ms) (filter p ms)))
    by true rest = (h.0, rest)
    by false rest = lower low (suc m.number) (by_number (filter p ms)) (omega (arith, h.0)) rest

rising_waits : (low : ℕ) (ms : List Message) → AreRising low (by_number ms) → AreRising low (by_number (unanswered ms))
unfolding unanswered
rising_waits low [] h = tt
rising_waits low (m ∷ ms) h = by (is_summarize m.kind && not (list_any (answers m.number) ms)) (rising_waits (suc m.number) ms h.1)
  where
    by : (b : Bool) → AreRising (suc m.number) (by_number (unanswered ms)) → AreRising low (by_number ((if b then m ∷ [] else []) ++ unanswered ms))
    by true rest = (h.0, rest)
    by false rest = lower low (suc m.number) (by_number (unanswered ms)) (omega (arith, h.0)) rest

-- ---- changes of the minimum

rising_changes : (low minimum : ℕ) (ms : List Message) → AreRising low (by_number ms) → AreRising low (changes minimum ms)
rising_changes low minimum [] h = tt
rising_changes low minimum (m ∷ ms) h = by (m.minimum == minimum) (rising_changes (suc m.number) m.minimum ms h.1)
  where
    by : (b : Bool) → AreRising (suc m.number) (changes m.minimum ms) → AreRising low ((if b then [] else (m.number, m.minimum) ∷ []) ++ changes m.minimum ms)
    by true rest = lower low (suc m.number) (changes m.minimum ms) (omega (arith, h.0)) rest
    by false rest = (h.0, rest)

all_changes : (minimum : ℕ) (ms : List Message) → All IsMessage ms → All IsChange (changes minimum ms)
all_changes minimum [] all = All-nil IsChange
all_changes minimum (m ∷ ms) all = by (m.minimum == minimum) (all_changes m.minimum ms (All-tail IsMessage m ms all))
  where
    its : IsMessage m
    its = All-head IsMessage m ms all

    by : (b : Bool) → All IsChange (changes m.minimum ms) → All IsChange ((if b then [] else (m.number, m.minimum) ∷ []) ++ changes m.minimum ms)
    by true rest = rest
    by false rest = All-cons IsChange (m.number, m.minimum) (changes m.minimum ms) (record { number = its.number; minimum = its.minimum }) rest

-- ---- the base

base_in_order : (q : Quorum) → ((b : _) → IsBlobValue (blob_tree q b)) → IsCanonical (base_tree q) × (depth (base_tree q) ≤ 103)
base_in_order q each = (((refl, (refl, (refl, tt))), ((each Attributes).canonical, ((refl, (refl, tt)), ((each Members).canonical, ((refl, tt), ((each Proposals).canonical, (tt, ((each Values).canonical, tt)))))))), omega (arith, (each Attributes).shallow, (each Members).shallow, (each Proposals).shallow, (each Values).shallow))

-- ---- the whole

pub record IsScribed (s : ScribeState) : Type 0 where
  pub base : IsBase s.base
  pub behind : AreMessages is_heard s.behind
  pub minima : All IsChange s.minima
  pub changes : IsTrue (is_sorted nat_cmp s.minima)
  pub pending : AreMessages is_summarize s.pending
  pub acks : All IsAck s.acks
  pub shallow : depth (base_tree s.base) ≤ 103

state_in_form : QuorumsAreReadBack → (base : ℕ) (ms : List Message) → AreFirst ms → All IsReadBack ms → AreTexts (state_at base ms).base → IsScribed (state_at base ms)
unfolding state_at
state_in_form back base ms first all texts =
    let messages = All-weaker IsReadBack IsMessage (λ m is. is.in_grammar) ms all in
    let own = All-weaker IsReadBack IsReadAsItself (λ m is. is.read_back) ms all in
    let taken = numbered_take ms 1 base first in
    let taken_own = All-take IsReadAsItself base ms own in
    let rising = rising_numbered 1 ms first in
    let dropped = rising_drop base 1 ms rising in
    let canonical = base_in_order (quorum ms base) (blob_values (take base ms) taken taken_own) in
    let behind = All-drop IsMessage base ms messages in
    let waits = waits_all IsMessage ms messages in
    record {
      base = record { canonical = canonical.0; read_back = back (take base ms) taken taken_own texts };
      behind = record {
        each = All-filter (λ m. is_heard m.kind) IsMessage (drop base ms) behind;
        kinds = filter_passes (λ m. is_heard m.kind) (drop base ms);
        numbered = in_order 1 (by_number (heard (drop base ms))) (rising_filter (λ m. is_heard m.kind) 1 (drop base ms) dropped);
      };
      minima = all_changes (quorum ms base).minimum (drop base ms) behind;
      changes = in_order 1 (changes (quorum ms base).minimum (drop base ms)) (rising_changes 1 (quorum ms base).minimum (drop base ms) dropped);
      pending = record { each = λ k d lt. (waits k d lt).0; kinds = λ k d lt. (waits k d lt).1; numbered = in_order 1 (by_number (unanswered ms)) (rising_waits 1 ms rising) };
      acks = acks_in_form ms messages;
      shallow = canonical.1;
    }

pub scribe_in_form : QuorumsAreReadBack → (l : Ledger) → IsLegal l → All IsLoggable l → length l ≤ largest → AreTexts (entries_of l).state.scribe.base → IsScribed (entries_of l).state.scribe
unfolding entries_of state_of scribe.state_of
scribe_in_form back l legal loggable few texts =
    state_in_form back (base_of (order l)) (order l) (sequenced-numbered (order l) 0 0 (legal-sequenced l legal)) (order-read_back l legal loggable few) texts

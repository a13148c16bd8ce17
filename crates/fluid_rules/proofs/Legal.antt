-- Legal ledgers, entry by entry, and the ledger of raw entries.
use Rattle.std.proofs.Common.{◌≡◌, List, [], ◌∷◌, ◌++◌, refl, sym, ◌∙◌, ap, subst, append_assoc, append-nil}
use Rattle.fluid_types.specs.declared.entries.Raw.{Raw}
use Rattle.fluid_types.specs.Ledger.{Ledger, raws}
use Rattle.fluid_types.proofs.Ledgers.{raws-push}
use Rattle.fluid_rules.specs.Past.{Entry}
use Rattle.fluid_rules.specs.Rules.{verdict, IsLegalBehind, IsLegal, ledger_behind, entries_behind, ledger}

-- ---- legal ledgers

pub legal_behind-push : (before ledger : Ledger) (entry : Entry) → IsLegalBehind before ledger → entry.1 ≡ verdict (before ++ ledger) entry.0 →
    IsLegalBehind before (ledger ++ entry ∷ [])
legal_behind-push before [] entry legal h = (subst (λ l. entry.1 ≡ verdict l entry.0) (append-nil before) h, tt)
legal_behind-push before (first ∷ ledger) entry legal h = (
  legal.0,
  legal_behind-push (before ++ first ∷ []) ledger entry legal.1
      (subst (λ l. entry.1 ≡ verdict l entry.0) (sym (append_assoc before (first ∷ []) ledger)) h),
)

-- a legal ledger with its next verdict
pub legal-push : (ledger : Ledger) (entry : Entry) → IsLegal ledger → entry.1 ≡ verdict ledger entry.0 → IsLegal (ledger ++ entry ∷ [])
legal-push ledger entry legal h = legal_behind-push [] ledger entry legal h

pub legal_behind-split : (before first second : Ledger) → IsLegalBehind before (first ++ second) →
    IsLegalBehind before first × IsLegalBehind (before ++ first) second
legal_behind-split before [] second legal = (tt, subst (λ l. IsLegalBehind l second) (sym (append-nil before)) legal)
legal_behind-split before (entry ∷ first) second legal =
    let rest = legal_behind-split (before ++ entry ∷ []) first second legal.1 in
    ((legal.0, rest.0), subst (λ l. IsLegalBehind l second) (append_assoc before (entry ∷ []) first) rest.1)

-- the beginning of a legal ledger
pub legal-first : (first second : Ledger) → IsLegal (first ++ second) → IsLegal first
legal-first first second legal = (legal_behind-split [] first second legal).0

-- and what stands behind it
pub legal-behind : (first second : Ledger) → IsLegal (first ++ second) → IsLegalBehind first second
legal-behind first second legal = (legal_behind-split [] first second legal).1

-- the last verdict of a legal ledger
pub legal-last : (ledger : Ledger) (entry : Entry) → IsLegal (ledger ++ entry ∷ []) → entry.1 ≡ verdict ledger entry.0
legal-last ledger entry legal = (legal-behind ledger (entry ∷ []) legal).0

-- ---- induction

grown : (P : Ledger → Type 0) →
    ((ledger : Ledger) (entry : Entry) → IsLegal ledger → P ledger → entry.1 ≡ verdict ledger entry.0 → P (ledger ++ entry ∷ [])) →
    (before ledger : Ledger) → IsLegal before → P before → IsLegalBehind before ledger → P (before ++ ledger)
grown P step before [] legal holds behind = subst P (sym (append-nil before)) holds
grown P step before (entry ∷ ledger) legal holds behind =
    subst P (append_assoc before (entry ∷ []) ledger)
    (grown P step (before ++ entry ∷ []) ledger (legal-push before entry legal behind.0) (step before entry legal holds behind.0) behind.1)

-- what holds of the empty ledger and goes on with each verdict of the rules holds of each legal ledger
pub legal-induction : (P : Ledger → Type 0) → P [] →
    ((ledger : Ledger) (entry : Entry) → IsLegal ledger → P ledger → entry.1 ≡ verdict ledger entry.0 → P (ledger ++ entry ∷ [])) →
    (ledger : Ledger) → IsLegal ledger → P ledger
legal-induction P begin step ledger legal = grown P step [] ledger tt begin legal

-- and what goes on from a ledger holds of each legal ledger that begins with it
pub legal-growth : (P : Ledger → Type 0) →
    ((ledger : Ledger) (entry : Entry) → IsLegal ledger → P ledger → entry.1 ≡ verdict ledger entry.0 → P (ledger ++ entry ∷ [])) →
    (first second : Ledger) → IsLegal (first ++ second) → P first → P (first ++ second)
legal-growth P step first second legal holds =
    grown P step first second (legal-first first second legal) holds (legal-behind first second legal)

-- a legal ledger and what is legal behind it
pub legal-append : (first second : Ledger) → IsLegal first → IsLegalBehind first second → IsLegal (first ++ second)
legal-append first second legal behind = grown IsLegal (λ l entry _ before h. legal-push l entry before h) first second legal legal behind

-- ---- the ledger of raw entries

pub ledger_behind-append : (before : Ledger) (first second : List Raw) →
    ledger_behind before (first ++ second) ≡ ledger_behind (ledger_behind before first) second
ledger_behind-append before [] second = refl
ledger_behind-append before (raw ∷ first) second = ledger_behind-append (before ++ (raw, verdict before raw) ∷ []) first second

-- it is the ledger before them with these entries
pub ledger_behind-entries : (before : Ledger) (entries : List Raw) → ledger_behind before entries ≡ before ++ entries_behind before entries
ledger_behind-entries before [] = sym (append-nil before)
ledger_behind-entries before (raw ∷ entries) =
    ledger_behind-entries (before ++ (raw, verdict before raw) ∷ []) entries
    ∙ append_assoc before ((raw, verdict before raw) ∷ []) (entries_behind (before ++ (raw, verdict before raw) ∷ []) entries)

pub entries_behind-append : (before : Ledger) (first second : List Raw) →
    entries_behind before (first ++ second) ≡ entries_behind before first ++ entries_behind (ledger_behind before first) second
entries_behind-append before [] second = refl
entries_behind-append before (raw ∷ first) second =
    ap (λ rest. (raw, verdict before raw) ∷ rest) (entries_behind-append (before ++ (raw, verdict before raw) ∷ []) first second)

-- one raw entry more gets its verdict over the ledger of those before it
pub ledger-push : (entries : List Raw) (raw : Raw) → ledger (entries ++ raw ∷ []) ≡ ledger entries ++ (raw, verdict (ledger entries) raw) ∷ []
unfolding ledger
ledger-push entries raw = ledger_behind-append [] entries (raw ∷ [])

ledger_behind-legal : (before : Ledger) (entries : List Raw) → IsLegal before → IsLegal (ledger_behind before entries)
ledger_behind-legal before [] legal = legal
ledger_behind-legal before (raw ∷ entries) legal =
    ledger_behind-legal (before ++ (raw, verdict before raw) ∷ []) entries (legal-push before (raw, verdict before raw) legal refl)

pub ledger-legal : (entries : List Raw) → IsLegal (ledger entries)
unfolding ledger
ledger-legal entries = ledger_behind-legal [] entries tt

ledger_behind-raws : (before : Ledger) (entries : List Raw) → raws (ledger_behind before entries) ≡ raws before ++ entries
ledger_behind-raws before [] = sym (append-nil (raws before))
ledger_behind-raws before (raw ∷ entries) =
    ledger_behind-raws (before ++ (raw, verdict before raw) ∷ []) entries
    ∙ ap (λ rs. rs ++ entries) (raws-push before (raw, verdict before raw))
    ∙ append_assoc (raws before) (raw ∷ []) entries

pub ledger-raws : (entries : List Raw) → raws (ledger entries) ≡ entries
unfolding ledger raws
ledger-raws entries = ledger_behind-raws [] entries

only_behind : (before ledger : Ledger) → IsLegalBehind before ledger → before ++ ledger ≡ ledger_behind before (raws ledger)
unfolding raws
only_behind before [] legal = append-nil before
only_behind before (entry ∷ ledger) legal =
    sym (append_assoc before (entry ∷ []) ledger)
    ∙ only_behind (before ++ entry ∷ []) ledger legal.1
    ∙ ap (λ v. ledger_behind (before ++ (entry.0, v) ∷ []) (raws ledger)) legal.0

-- a legal ledger is that of its raw entries
pub ledger-only : (l : Ledger) → IsLegal l → l ≡ ledger (raws l)
unfolding ledger
ledger-only l legal = only_behind [] l legal

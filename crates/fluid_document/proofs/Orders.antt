-- The order of a legal ledger: its messages are numbered from 1, each can be kept, and each entry's message stands in its place.
use Rattle.std.proofs.Common.{◌≡◌, ℕ, zero, suc, ◌+◌, ◌<◌, ◌≤◌, List, [], ◌∷◌, ◌++◌, length, take, drop, slice_get, Some, refl, sym, ap, subst, ◌∙◌, length-append, arith}
use Rattle.std.specs.Prelude.{All}
use Rattle.std.proofs.lemmas.List.Elements.{All-append, All-nil, All-pop, All-weaker}
use Rattle.std.proofs.Math.Seq.{drop-append_seam}
use Rattle.std.proofs.lemmas.Option.{slice_get_within, get_or_from_slice_get}
use Rattle.fluid_types.specs.declared.entries.Raw.{Raw}
use Rattle.fluid_types.specs.declared.verdicts.Verdict.{Verdict}
use Rattle.fluid_types.specs.Ledger.{Ledger, order, seq, messages_of}
use Rattle.fluid_types.proofs.Ledgers.{order-append, order-push, seq-le_length}
use Rattle.fluid_rules.specs.Rules.{verdict, IsLegal}
use Rattle.fluid_rules.proofs.Legal.{legal-induction, legal-first, legal-behind}
use Rattle.fluid_readback.specs.Laws.{IsReadBack}
use Rattle.fluid_readback.proofs.Messages.{sequenced_are_read_back}
use Rattle.fluid_deltas.specs.Pushed.{IsKeepable}
use Rattle.fluid_types.specs.Forms.{largest}
use Rattle.fluid_document.specs.Kept.{IsLoggable}
use Rattle.fluid_document.proofs.Onwards.{message_all}

-- what holds of no entries, and goes on with each verdict of the rules on an entry that a log takes, holds of each such ledger
pub logged-induction : (P : Ledger → Type 0) → P [] → ((l : Ledger) (entry : Raw × Verdict) → IsLegal l → IsLoggable entry → length l < largest → P l → entry.1 ≡ verdict l entry.0 → P (l ++ entry ∷ []))
    → (l : Ledger) → IsLegal l → All IsLoggable l → length l ≤ largest → P l
logged-induction P begin step =
    legal-induction (λ l. All IsLoggable l → length l ≤ largest → P l) (λ all few. begin)
    (λ l entry legal so_far is all few.
    let parts = All-pop IsLoggable (l ++ entry ∷ []) l (Some entry) refl all in
    let shorter : length l < largest = omega (arith, few, length-append l (entry ∷ [])) in
    step l entry legal parts.1 shorter (so_far parts.0 (omega (arith, shorter))) is)

-- each message of the order is in the grammar and read back from its text
pub order-read_back : (l : Ledger) → IsLegal l → All IsLoggable l → length l ≤ largest → All IsReadBack (order l)
unfolding order
order-read_back = logged-induction (λ l. All IsReadBack (order l)) (All-nil IsReadBack)
    (λ l entry legal loggable few back is. subst (All IsReadBack) (sym (order-push l entry)) (All-append IsReadBack (order l) (messages_of entry.1) back
    (message_all IsReadBack entry.1 (λ m said. sequenced_are_read_back l entry.0 m legal (omega (arith, few, seq-le_length l)) loggable.fits (sym is ∙ said)))))

pub order-keepable : (l : Ledger) → IsLegal l → All IsLoggable l → length l ≤ largest → All IsKeepable (order l)
order-keepable l legal loggable few =
    All-weaker IsReadBack IsKeepable (λ m back. record { short = omega (arith, back.short); read_back = back.read_back }) (order l) (order-read_back l legal loggable few)

-- ---- an entry in its place

pub record IsInPlace (l : Ledger) (place : ℕ) : Type 0 where
  pub entry : Raw × Verdict
  pub there : slice_get l place ≡ Some entry
  pub rest : Ledger
  pub splits : l ≡ take place l ++ entry ∷ rest
  pub next : take (place + 1) l ≡ take place l ++ entry ∷ []

pub in_place : (l : Ledger) (place : ℕ) → place < length l → IsInPlace l place
in_place [] place lt = absurd (omega (arith, lt))
in_place (entry ∷ l) zero lt = record { entry = entry; there = refl; rest = l; splits = refl; next = refl }
in_place (entry ∷ l) (suc place) lt =
    let is = in_place l place (omega (arith, lt)) in
    let more : suc place + 1 ≡ suc (place + 1) = omega arith in
    record { entry = is.entry; there = is.there; rest = is.rest; splits = ap (λ m. entry ∷ m) is.splits; next = ap (λ n. take n (entry ∷ l)) more ∙ ap (λ m. entry ∷ m) is.next }

-- its verdict is that of the entries before it, and its message stands behind theirs
pub place-legal : (l : Ledger) (place : ℕ) (is : IsInPlace l place) → IsLegal l → IsLegal (take place l) × (is.entry.1 ≡ verdict (take place l) is.entry.0)
place-legal l place is legal =
    let whole = subst IsLegal is.splits legal in
    (legal-first (take place l) (is.entry ∷ is.rest) whole, (legal-behind (take place l) (is.entry ∷ is.rest) whole).0)

pub place-order : (l : Ledger) (place : ℕ) (is : IsInPlace l place) → drop (seq (take place l)) (order l) ≡ messages_of is.entry.1 ++ order is.rest
unfolding order seq
place-order l place is =
    ap (λ m. drop (length (order (take place l))) (order m)) is.splits
    ∙ ap (drop (length (order (take place l)))) (order-append (take place l) (is.entry ∷ is.rest))
    ∙ drop-append_seam (order (take place l)) (messages_of is.entry.1 ++ order is.rest)

pub all-there : {X : Type 0} (P : X → Type 0) (xs : List X) (place : ℕ) (x : X) → slice_get xs place ≡ Some x → All P xs → P x
all-there P xs place x is all = subst P (get_or_from_slice_get xs place x x is) (all place x (slice_get_within xs place x is))

pub seq-length : (l : Ledger) → length (order l) ≡ seq l
unfolding seq
seq-length l = refl

-- Lists that begin with others, and ledgers that go on.
use Rattle.std.proofs.Common.{◌≡◌, ℕ, ◌≤◌, arith, Bool, true, false, ◌||◌, List, [], ◌++◌, length, take, refl, sym, ap, ◌∙◌, append_assoc, append-nil, length-append}
use Rattle.std.specs.List.{list_any}
use Rattle.std.proofs.lemmas.List.{take-append-le}
use Rattle.std.proofs.lemmas.List.Folds.{list_any-append}
use Rattle.fluid_types.specs.declared.entries.Raw.{Raw}
use Rattle.fluid_types.specs.Ledger.{Ledger, order, seq}
use Rattle.fluid_types.proofs.Ledgers.{order-append}
use Rattle.fluid_rules.specs.Rules.{entries_behind, ledger}
use Rattle.fluid_rules.proofs.Legal.{ledger_behind-append, ledger_behind-entries}
use Rattle.fluid_transcript.specs.Sound.{BeginsWith}

pub begins_self : {X : Type 0} (xs : List X) → BeginsWith xs xs
begins_self xs = record { more = []; is = sym (append-nil xs) }

pub begins_by : {X : Type 0} (xs more : List X) → BeginsWith xs (xs ++ more)
begins_by xs more = record { more = more; is = refl }

pub begins_on : {X : Type 0} (a b c : List X) → BeginsWith a b → BeginsWith b c → BeginsWith a c
begins_on a b c first second = record {
  more = first.more ++ second.more;
  is = second.is ∙ ap (λ xs. xs ++ second.more) first.is ∙ append_assoc a first.more second.more;
}

pub begins_length : {X : Type 0} (old new : List X) → BeginsWith old new → length old ≤ length new
begins_length old new begins = omega (arith, ap length begins.is, length-append old begins.more)

pub any_or : (a b : Bool) → a ≡ true → (a || b) ≡ true
any_or true b h = refl
any_or false b h = absurd (cc)

pub begins_any : {X : Type 0} (p : X → Bool) (old new : List X) → BeginsWith old new → list_any p old ≡ true → list_any p new ≡ true
begins_any p old new begins has =
    ap (list_any p) begins.is ∙ list_any-append p old begins.more ∙ any_or (list_any p old) (list_any p begins.more) has

-- ---- ledgers

pub ledger_more : (raws more : List Raw) → ledger (raws ++ more) ≡ ledger raws ++ entries_behind (ledger raws) more
unfolding ledger
ledger_more raws more = ledger_behind-append [] raws more ∙ ledger_behind-entries (ledger raws) more

pub ledger_begins : (old new : List Raw) → BeginsWith old new → BeginsWith (ledger old) (ledger new)
ledger_begins old new begins = record {
  more = entries_behind (ledger old) begins.more;
  is = ap ledger begins.is ∙ ledger_more old begins.more;
}

pub order_begins : (old new : Ledger) → BeginsWith old new → BeginsWith (order old) (order new)
order_begins old new begins = record { more = order begins.more; is = ap order begins.is ∙ order-append old begins.more }

pub seq_begins : (old new : Ledger) → BeginsWith old new → seq old ≤ seq new
unfolding seq
seq_begins old new begins = begins_length (order old) (order new) (order_begins old new begins)

-- the messages up to a number of the order stay
pub first_stay : (old more : Ledger) (number : ℕ) → number ≤ seq old → take number (order (old ++ more)) ≡ take number (order old)
unfolding seq
first_stay old more number fits = ap (take number) (order-append old more) ∙ take-append-le number (order old) (order more) fits

pub first_begin : (old new : Ledger) (number : ℕ) → BeginsWith old new → number ≤ seq old → take number (order new) ≡ take number (order old)
first_begin old new number begins fits = ap (λ l. take number (order l)) begins.is ∙ first_stay old begins.more number fits

-- What is kept behind a message that was prepared.
use Rattle.std.proofs.Common.{◌≡◌, ℕ, ◌<◌, arith, Bool, true, false, ◌==◌, if◌then◌else◌, List, [], ◌∷◌, ◌++◌, append-nil, Option, Some, None, option_map, refl, sym, ap, ap₂, ◌∙◌}
use Rattle.std.specs.Prelude.{unwrap_or, option_to_list}
use Rattle.std.specs.List.{last_or}
use Rattle.fluid_types.specs.declared.entries.Raw.{Raw}
use Rattle.fluid_types.specs.declared.messages.Message.{Message}
use Rattle.fluid_types.specs.declared.verdicts.Verdict.{Verdict}
use Rattle.fluid_types.specs.Ledger.{Ledger, order, messages_of}
use Rattle.fluid_tree.specs.declared.id.SummaryRef.{SummaryRef}
use Rattle.fluid_quorum.specs.declared.state.ScribeState.{ScribeState}
use Rattle.fluid_rules.specs.Rules.{IsLegal}
use Rattle.fluid_rules.specs.Scribe.{acks}
use Rattle.fluid_scribe.specs.State.{Minima, least_with, brought, with_base, minimum_in, base_in, with_message, after, start}
use Rattle.fluid_scribe.specs.Tails.{kept, seen, state_with}
use Rattle.fluid_scribe.specs.declared.tail.Tail.{Tail}
use Rattle.fluid_scribe.specs.Scribing.{Scribing, prepared, spare_at, unanswered_at, heard_in, summarize_in}
use Rattle.fluid_scribe.specs.Ledger.{StandsFor}
use Rattle.fluid_scribe.specs.declared.ready.ScribeReady.{ScribeReady}
use Rattle.fluid_scribe.proofs.Grown.{same_state, state-start, state-grows}
use Rattle.fluid_scribe.proofs.ByRules.{kept-acks}
use Rattle.fluid_scribe.proofs.Waits.{left-behind, kept-heard, kept-waits}

-- nothing lags behind where there is room
pub up_to_date : (due : Option ℕ) (room : ℕ) → 0 < spare_at due room → due ≡ None
up_to_date None room h = refl
up_to_date (Some n) room h = absurd (omega (arith, h))

-- ---- the minimum of the last message

last_or-push : {X : Type 0} (o : Option X) (xs : List X) (x : X) → last_or o (xs ++ x ∷ []) ≡ Some x
last_or-push o [] x = refl
last_or-push o (y ∷ xs) x = last_or-push (Some y) xs x

own_minimum : (xs : Minima) (base number minimum before : ℕ) (b : Bool) → (minimum == before) ≡ b → unwrap_or (option_map (λ c. c.1) (last_or None xs)) base ≡ before →
    unwrap_or (option_map (λ c. c.1) (last_or None (xs ++ (if b then [] else (number, minimum) ∷ [])))) base ≡ minimum
own_minimum xs base number minimum before true same is =
    ap (λ l. unwrap_or (option_map (λ c. c.1) (last_or None l)) base) (append-nil xs) ∙ is ∙ equal minimum before same
  where
    equal : (a b : ℕ) → (a == b) ≡ true → b ≡ a
    equal a b h = grind arith
own_minimum xs base number minimum before false same is =
    ap (λ o. unwrap_or (option_map (λ c. c.1) o) base) (last_or-push None xs (number, minimum))

changes-one : (b : Bool) (c : ℕ × ℕ) → (if b then [] else c ∷ []) ++ [] ≡ (if b then [] else c ∷ [])
changes-one true c = refl
changes-one false c = refl

-- ---- the state

pub record HasTaken (s : ScribeState) (ready : ScribeReady) (behind : List Message) (minima : Minima) (pending : List Message) (known : List SummaryRef) (number : ℕ) : Type 0 where
  pub behind_is : behind ≡ s.behind ++ option_to_list (heard_in ready.kept)
  pub minima_is : minima ≡ s.minima ++ (if ready.minimum == minimum_in s then [] else (ready.number, ready.minimum) ∷ [])
  pub pending_is : pending ≡ unanswered_at ready.answered s.pending ++ option_to_list (summarize_in ready.kept)
  pub acks_are : known ≡ s.acks ++ option_to_list ready.ack
  pub number_is : number ≡ least_with ready.minimum pending

module _ (s : ScribeState) (m : Message) (behind : List Message) (minima : Minima) (pending : List Message) (known : List SummaryRef) (number : ℕ)
    (has : HasTaken s (prepared s m) behind minima pending known number) where
  abbrev taken : ScribeState
  taken = record { base = s.base; behind = behind; minima = minima; pending = pending; acks = known }

  taken-is : taken ≡ with_message s m
  unfolding prepared with_message
  taken-is =
      same_state taken _ refl
      (has.behind_is ∙ ap (λ l. s.behind ++ l) (kept-heard m))
      (has.minima_is ∙ ap (λ l. s.minima ++ l) (sym (changes-one (m.minimum == minimum_in s) (m.number, m.minimum))))
      (has.pending_is ∙ ap₂ (λ a b. a ++ b) (left-behind m _ s.pending refl) (kept-waits m))
      has.acks_are

  taken-minimum : minimum_in taken ≡ m.minimum
  unfolding prepared
  taken-minimum =
      ap (λ l. unwrap_or (option_map (λ c. c.1) (last_or None l)) s.base.minimum) has.minima_is
      ∙ own_minimum s.minima s.base.minimum m.number m.minimum (minimum_in s) _ refl refl

  taken-base : base_in taken ≡ number
  unfolding prepared
  taken-base =
      ap (λ n. least_with n pending) taken-minimum ∙ sym has.number_is

  pub taken-after : state_with (brought number s.base behind minima) pending known ≡ after s m
  unfolding with_base after
  taken-after = ap (λ n. with_base n taken) (sym taken-base) ∙ ap (λ t. with_base (base_in t) t) taken-is

pub after-taken : (s : ScribeState) (m : Message) (ready : ScribeReady) (behind : List Message) (minima : Minima) (pending : List Message) (known : List SummaryRef) (number : ℕ) →
    ready ≡ prepared s m → HasTaken s ready behind minima pending known number → state_with (brought number s.base behind minima) pending known ≡ after s m
after-taken s m ready behind minima pending known number is has = taken-after s m behind minima pending known number (rw is at has)

-- ---- ledgers

pub stands-start : (s : Scribing) → s.state ≡ start → StandsFor s []
unfolding order
stands-start s is = record { is = is ∙ sym state-start }

pub stands-acks : (s : Scribing) (l : Ledger) → StandsFor s l → s.state.acks ≡ acks (order l)
stands-acks s l stands = ap (λ (t : ScribeState). t.acks) stands.is ∙ kept-acks (order l)

pub stands-push : (s t : Scribing) (m : Message) → t.state ≡ after s.state m → (l : Ledger) (entry : Raw × Verdict) → IsLegal (l ++ entry ∷ []) → StandsFor s l →
    messages_of entry.1 ≡ m ∷ [] → StandsFor t (l ++ entry ∷ [])
stands-push s t m is l entry legal stands said = record {
  is = is ∙ ap (λ u. after u m) stands.is ∙ sym (state-grows l entry legal ∙ rw said refl);
}

-- where nothing lags behind, what is seen is what is in memory
pub state-now : (t : Tail) (waiting : List Message) (known : List SummaryRef) → t.due ≡ None → state_with (seen t) waiting known ≡ state_with (kept t) waiting known
state-now t waiting known none = rw none refl

-- Joined ids are those of earlier entries, so that the next entry's id isn't among them.
use Rattle.std.proofs.Common.{◌≡◌, ℕ, true, ◌+◌, ◌<◌, ◌^◌, List, drop, Option, Some, None, refl, sym, ap, subst, ◌∙◌, arith, ⊎_elim}
use Rattle.std.proofs.lemmas.Fmt.{decimal_injective}
use Rattle.std.specs.Prelude.{IsSome}
use Rattle.std.specs.FinMap.{get}
use Rattle.fluid_clients.specs.declared.table.Row.{Row}
use Rattle.fluid_clients.specs.Table.{Rows}
use Rattle.fluid_types.specs.Names.{entry_name}
use Rattle.fluid_types.specs.declared.entries.Scopes.{Scopes}
use Rattle.fluid_json.specs.Tree.{Tree}
use Rattle.fluid_rules.specs.Past.{is_sequenced}
use Rattle.fluid_core.specs.Entering.{verdict_in}
use Rattle.fluid_types.specs.declared.entries.Raw.{Raw}
use Rattle.fluid_types.specs.declared.entries.Raw.TheVariants.{Join}
use Rattle.fluid_document.specs.Entries.{Entries, taken_up}
use Rattle.fluid_lane.specs.Standing.{AreNamed, IsOwn}
use Rattle.fluid_document.proofs.Onwards.{IsJoinOf, rows-after, join-sequenced}

abbrev Name : ℕ → List ℕ → Type 0
Name entered id = (n : ℕ) × ((n < entered) × (id ≡ entry_name n))

own : (entered : ℕ) (raw : Raw) (id : List ℕ) → IsOwn entered raw → IsJoinOf id raw → Name (entered + 1) id
own entered (Join c scopes detail moment) id is join = (entered, (omega arith, sym join ∙ is))
own entered other id is join = absurd join

pub named_after : (f : Entries) (raw : Raw) → AreNamed f.entered f.state.sequencer.rows → IsOwn f.entered raw → AreNamed (taken_up f raw).entered (taken_up f raw).state.sequencer.rows
unfolding taken_up
named_after f raw named is = λ id there.
    ⊎_elim (λ old. let name = named id old in (name.0, (omega (arith, name.1.0), name.1.1))) (λ join. own f.entered raw id is join) (rows-after f.state raw id there)

pub taken-entered : (e : Entries) (raw : Raw) → (taken_up e raw).entered ≡ e.entered + 1
unfolding taken_up
taken-entered e raw = refl

names_differ : (n m : ℕ) → n < 2 ^ 64 → m < n → entry_name n ≡ entry_name m → ⊥
names_differ n m fits lt same =
    let equal : n ≡ m = decimal_injective n m fits (omega (arith, fits, lt)) (ap (λ s. drop 1 s) same) in
    omega (arith, equal, lt)

-- the id of the next entry isn't joined
pub own_absent : (n : ℕ) (rows : Rows) → n < 2 ^ 64 → AreNamed n rows → get rows (entry_name n) ≡ None
own_absent n rows fits named = cases (get rows (entry_name n)) refl
  where
    cases : (o : Option Row) → get rows (entry_name n) ≡ o → o ≡ None
    cases None is = refl
    cases (Some row) is =
        let name = named (entry_name n) (subst (λ o. IsSome o) (sym is) refl) in
        absurd (names_differ n name.0 fits name.1.0 name.1.1)

-- so a join under that id is sequenced
pub join_is_sequenced : (f : Entries) (id : List ℕ) (scopes : Scopes) (detail : Tree) (moment : ℕ) → f.entered < 2 ^ 64 → AreNamed f.entered f.state.sequencer.rows → id ≡ entry_name f.entered
    → is_sequenced (verdict_in f.state (Join id scopes detail moment)) ≡ true
join_is_sequenced f id scopes detail moment fits named is =
    join-sequenced f.state id scopes detail moment (ap (get f.state.sequencer.rows) is ∙ own_absent f.entered f.state.sequencer.rows fits named)

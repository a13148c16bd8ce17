-- What an entry makes of the rows of the joined clients.
use Rattle.std.proofs.Common.{◌≡◌, ℕ, Bool, true, false, cond, List, Option, Some, None, bytes_eq, refl, sym, ap, subst, ◌∙◌, inl, inr, ⊎_elim}
use Rattle.std.specs.Prelude.{◌⊎◌, if◌then◌else◌}
use Rattle.std.specs.FinMap.{get, insert, remove, get-insert, get-remove}
use Rattle.std.proofs.lemmas.Option.{none-some, same_Some}
use Rattle.std.proofs.lemmas.Slice.Eq.{bytes_eq-Decides}
use Rattle.fluid_types.specs.declared.entries.Raw.{Raw}
use Rattle.fluid_types.specs.declared.entries.Raw.TheVariants.{Join, Leave, Submit, Report}
use Rattle.fluid_types.specs.declared.verdicts.Verdict.{Verdict}
use Rattle.fluid_types.specs.declared.verdicts.Verdict.TheVariants.{Sequenced, Nacked, Dropped, Absorbed}
use Rattle.fluid_rules.specs.Past.{is_below, count_of, read_as}
use Rattle.fluid_clients.specs.declared.table.Row.{Row}
use Rattle.fluid_clients.specs.Table.{Rows, change_row}
use Rattle.fluid_clients.proofs.Laws.{byte_order_total, change-there, change-absent}
use Rattle.fluid_ticket.specs.State as ticket
use Rattle.fluid_ticket.specs.State.{change_of, changed}
use Rattle.fluid_ticket.specs.declared.ready.Change.TheVariants.{Holds, Hears}
use Rattle.fluid_ticket.proofs.Ledgers.{tied_back}

-- it holds of each row under its id
abbrev pub AllRows : (List ℕ → Row → Type 0) → Rows → Type 0
AllRows P rows = (id : List ℕ) (row : Row) → get rows id ≡ Some row → P id row

-- it stays so with an entry: a join brings a row, a submission its number, and each entry of a client its moment
abbrev pub StaysWith : (List ℕ → Row → Type 0) → Raw → Type 0
StaysWith P (Join id scopes detail moment) = ((row : Row) → P id row → P id (record row { heard = moment })) × ((row : Row) → row.last ≡ 0 → row.heard ≡ moment → P id row)
StaysWith P (Leave id moment) = (row : Row) → P id row → P id (record row { heard = moment })
StaysWith P (Submit id submission moment) = (row new : Row) → P id row → (new.last ≡ row.last) ⊎ (new.last ≡ submission.client_number) → new.heard ≡ moment → P id new
StaysWith P (Report summary found moment) = Unit {0}

pick : {X : Type 0} (b : Bool) (x y : Option X) (r : X) → cond b x y ≡ Some r → ((b ≡ true) × (x ≡ Some r)) ⊎ (y ≡ Some r)
pick true x y r is = inl (refl, is)
pick false x y r is = inr is

module _ (P : List ℕ → Row → Type 0) where
  inserted : (rows : Rows) (id : List ℕ) (row : Row) → AllRows P rows → P id row → AllRows P (insert rows id row)
  inserted rows id row all one q r there =
      ⊎_elim
      (λ (same : (bytes_eq id q ≡ true) × (Some row ≡ Some r)). subst (λ c. P c r) ((bytes_eq-Decides id q).0 same.0) (subst (P id) (same_Some _ _ same.1) one))
      (λ (old : get rows q ≡ Some r). all q r old)
      (pick (bytes_eq id q) (Some row) (get rows q) r (sym (get-insert byte_order_total rows id row q ∙ ap (λ b. cond b (Some row) (get rows q)) (tied_back q id)) ∙ there))

  removed : (rows : Rows) (id : List ℕ) → AllRows P rows → AllRows P (remove rows id)
  removed rows id all q r there =
      ⊎_elim (λ none. absurd (none-some _ none.1)) (λ (old : get rows q ≡ Some r). all q r old) (pick _ None (get rows q) r (sym (get-remove byte_order_total rows id q) ∙ there))

  changed_at : (rows : Rows) (id : List ℕ) (f : Row → Row) → AllRows P rows → ((row : Row) → P id row → P id (f row)) → AllRows P (change_row id f rows)
  changed_at rows id f all keeps =
      elim (get rows id) as (λ o. get rows id ≡ o → AllRows P (change_row id f rows)) [
        | None ↦ λ none. subst (AllRows P) (sym (change-absent rows id f none)) all
        | Some row ↦ λ there. subst (AllRows P) (sym (change-there rows id f row there)) (inserted rows id (f row) all (keeps row (all id row there)))
      ] refl

  held_or_heard : (b : Bool) (rows : Rows) (id : List ℕ) (number least moment : ℕ) → ((row new : Row) → P id row → (new.last ≡ row.last) ⊎ (new.last ≡ number) → new.heard ≡ moment → P id new) → AllRows P rows
      → AllRows P (changed (if b then Holds id number least moment else Hears id moment) rows)
  held_or_heard true rows id number least moment stays all =
      changed_at rows id (λ row. record row { last = number; reference = least; nacked = true; heard = moment }) all (λ row one. stays row _ one (inr refl) refl)
  held_or_heard false rows id number least moment stays all = changed_at rows id (λ row. record row { heard = moment }) all (λ row one. stays row _ one (inl refl) refl)

  pub rows-changed : (s : ticket.State) (raw : Raw) (v : Verdict) → StaysWith P raw → AllRows P s.rows → AllRows P (changed (change_of s raw v) s.rows)
  unfolding change_of
  rows-changed s (Join id scopes detail moment) (Sequenced m) stays all =
      inserted s.rows id (record { last = 0; reference = ticket.minimum s; nacked = false; scopes = scopes; heard = moment }) all (stays.1 _ refl refl)
  rows-changed s (Join id scopes detail moment) v stays all = changed_at s.rows id (λ row. record row { heard = moment }) all stays.0
  rows-changed s (Leave id moment) (Sequenced m) stays all = removed s.rows id all
  rows-changed s (Leave id moment) v stays all = changed_at s.rows id (λ row. record row { heard = moment }) all stays
  rows-changed s (Submit id submission moment) (Sequenced m) stays all =
      changed_at s.rows id (λ row. record row { last = submission.client_number; reference = count_of m.reference; heard = moment }) all (λ row one. stays row _ one (inr refl) refl)
  rows-changed s (Submit id submission moment) (Nacked n) stays all = held_or_heard (is_below n.rule) s.rows id submission.client_number (count_of n.minimum) moment stays all
  rows-changed s (Submit id submission moment) Dropped stays all = changed_at s.rows id (λ row. record row { heard = moment }) all (λ row one. stays row _ one (inl refl) refl)
  rows-changed s (Submit id submission moment) Absorbed stays all =
      changed_at s.rows id (λ row. record row { last = submission.client_number; reference = read_as s.sequence submission.reference; heard = moment }) all (λ row one. stays row _ one (inr refl) refl)
  rows-changed s (Report summary found moment) v stays all = all

-- A sound state: its minimum is not above its last sequence number, and it stays sound.
use Rattle.std.proofs.Common.{◌≡◌, ℕ, ◌≤◌, min, List, Some, None, Option, refl, sym, ap, ◌∙◌, arith}
use Rattle.std.specs.Option.{unwrap_or}
use Rattle.std.specs.FinMap.{empty, get, get-empty, insert, remove}
use Rattle.fluid_clients.specs.declared.table.Row.{Row}
use Rattle.fluid_clients.specs.Table.{Rows, byte_order, least}
use Rattle.fluid_clients.proofs.Laws.{lesser, least-insert, least-reached, least-below, least-none, least-there, remove-absent}
use Rattle.fluid_ticket.specs.State.{State, start, minimum, IsSound, IsSoundWith}

pub minimum-le-sequence : (s : State) → IsSound s → minimum s ≤ s.sequence
minimum-le-sequence s sound =
    elim (least s.rows) as (λ o. least s.rows ≡ o → unwrap_or o s.sequence ≤ s.sequence) [
      | None ↦ λ is. omega arith
      | Some m ↦ λ is.
          let reached = least-reached s.rows m is in
          let row = sound.rows reached.id reached.row reached.there in
          omega (arith, reached.is, row)
    ] refl

-- the minimum is not above the reference of a joined client
pub minimum-le-reference : (s : State) (id : List ℕ) (row : Row) → get s.rows id ≡ Some row → minimum s ≤ row.reference
minimum-le-reference s id row there =
    elim (least s.rows) as (λ o. least s.rows ≡ o → unwrap_or o s.sequence ≤ row.reference) [
      | None ↦ λ is. absurd (let no : None ≡ Some row = sym (least-none s.rows id is) ∙ there in cc)
      | Some m ↦ λ is. least-below s.rows id row m there is
    ] refl

lesser_itself : (o : Option ℕ) (d n : ℕ) → unwrap_or (lesser (Some (unwrap_or o d)) o) n ≡ unwrap_or o d
lesser_itself None d n = refl
lesser_itself (Some m) d n = omega arith

-- who joins at the minimum doesn't change it
pub joined_minimum : (s : State) (id : List ℕ) (row : Row) (n : ℕ) → get s.rows id ≡ None → row.reference ≡ minimum s → unwrap_or (least (insert s.rows id row)) n ≡ minimum s
joined_minimum s id row n none at =
    ap (λ o. unwrap_or o n) (least-insert id row s.rows ∙ ap (λ r. lesser (Some row.reference) (least r)) (remove-absent s.rows id none) ∙ ap (λ m. lesser (Some m) (least s.rows)) at)
    ∙ lesser_itself (least s.rows) s.sequence n

held_at : (r d n m : ℕ) (o : Option ℕ) → m ≡ unwrap_or (lesser (Some r) o) d → unwrap_or (lesser (Some m) o) n ≡ m
held_at r d n m None is = refl
held_at r d n m (Some other) is = omega arith

-- a client that is held at the minimum doesn't change it
pub held_minimum : (s : State) (id : List ℕ) (old new : Row) (n : ℕ) → get s.rows id ≡ Some old → new.reference ≡ minimum s → unwrap_or (least (insert s.rows id new)) n ≡ minimum s
held_minimum s id old new n there at =
    ap (λ o. unwrap_or o n) (least-insert id new s.rows ∙ ap (λ m. lesser (Some m) (least (remove s.rows id))) at)
    ∙ held_at old.reference s.sequence n (minimum s) (least (remove s.rows id)) (ap (λ o. unwrap_or o s.sequence) (least-there s.rows id old there))

-- a table without rows has no least reference
least-empty : (n : ℕ) → n ≡ unwrap_or (least empty) n
least-empty n =
    elim (least empty) as (λ o. least empty ≡ o → n ≡ unwrap_or o n) [
      | None ↦ λ is. refl
      | Some m ↦ λ is.
          let reached = least-reached empty m is in
          absurd (let no : None ≡ Some reached.row = sym (get-empty byte_order reached.id) ∙ reached.there in cc)
    ] refl

pub start-kept : IsSoundWith start 0
start-kept = record {
  sound = record { few = omega arith; rows = λ id row there. absurd (let no : None ≡ Some row = sym (get-empty byte_order id) ∙ there in cc) };
  is_minimum = least-empty 0;
}

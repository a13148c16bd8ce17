-- How a turn goes on.
use Rattle.std.proofs.Common.{◌≡◌, ℕ, suc, ◌+◌, ◌-◌, ◌<◌, ◌≤◌, ◌%◌, ◌==◌, List, [], ◌∷◌, ◌++◌, Bool, true, false, refl, sym, ◌∙◌, ap, append_assoc, arith}
use Rattle.std.proofs.lemmas.Bool.{ne_eqb}
use Rattle.fluid_gen.specs.Acts.{Choice, choice, collects, joins, rounds, turns}
use Rattle.fluid_gen.specs.Drawing.{state_after, number_in}
use Rattle.fluid_gen.specs.Left.{behind_turn, from_client}
use Rattle.fluid_gen.specs.declared.act.Act.{Act}
use Rattle.fluid_gen.specs.declared.act.Act.TheVariants.{Join, Collect, Noop, Finish}

-- the acts of a turn, and what is behind it
pub one-turn : (clients ops turn count x : ℕ) → count ≡ suc (ops - turn) →
    turns clients turn count x ++ Finish ∷ [] ≡ (choice clients turn x).act
    ∷ (collects (choice clients turn x).client (state_after (suc (choice clients turn x).draws) x) ++
    (rounds turn ++ behind_turn clients ops turn (state_after (suc (choice clients turn x).draws) x)))
one-turn clients ops turn count x h =
    let c = choice clients turn x in
    let y = state_after (suc c.draws) x in
    let more = turns clients (turn + 1) (ops - turn) y in
    ap (λ n. turns clients turn n x ++ Finish ∷ []) h
    ∙ ap (λ l. c.act ∷ l) (append_assoc (collects c.client y) (rounds turn ++ more) (Finish ∷ [])
    ∙ ap (λ l. collects c.client y ++ l) (append_assoc (rounds turn) more (Finish ∷ [])))

pub rounds-none : (turn : ℕ) → (turn % 1000 ≡ 0 → ⊥) → rounds turn ≡ []
rounds-none turn h = rw (ne_eqb (turn % 1000) 0 h) refl

-- a turn behind which no client collects
pub turn-ends : (clients ops turn x y : ℕ) (act : Act) (rest : List Act) → 0 < turn → turn ≤ ops → act ≡ (choice clients turn x).act →
    y ≡ state_after (suc (choice clients turn x).draws) x → (number_in y 2 ≡ 0 → ⊥) → rest ≡ rounds turn ++ behind_turn clients ops turn y →
    turns clients turn (ops + 1 - turn) x ++ Finish ∷ [] ≡ act ∷ rest
turn-ends clients ops turn x y act rest some few act_is y_is not rest_is =
    let c = choice clients turn x in
    let z = state_after (suc c.draws) x in
    let none : collects c.client z ≡ [] = rw (ne_eqb (number_in z 2) 0 (λ e. not (ap (λ (s : ℕ). number_in s 2) y_is ∙ e))) refl in
    one-turn clients ops turn (ops + 1 - turn) x (omega arith)
    ∙ ap (λ (l : List Act). c.act ∷ (l ++ (rounds turn ++ behind_turn clients ops turn z))) none
    ∙ ap (λ (s : ℕ). c.act ∷ (rounds turn ++ behind_turn clients ops turn s)) (sym y_is)
    ∙ ap (λ (l : List Act). c.act ∷ l) (sym rest_is)
    ∙ ap (λ (a : Act). a ∷ rest) (sym act_is)

-- the acts of a client that joins, and what is behind them
pub one-client : (clients ops client x : ℕ) → client < clients →
    from_client clients ops client x ≡ Join client ∷ Collect client ∷ Noop client ∷ from_client clients ops (client + 1) x
one-client clients ops client x few =
    let one : clients - client ≡ suc (clients - (client + 1)) = omega arith in
    ap (λ (n : ℕ). joins client n ++ behind_turn clients ops 0 x) one

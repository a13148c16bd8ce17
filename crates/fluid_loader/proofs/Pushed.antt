-- An order with one message more, and what a text puts behind it.
use Rattle.std.proofs.Common.{◌≡◌, ℕ, zero, suc, ◌+◌, ◌-◌, ◌<◌, ◌≤◌, ◌^◌, true, false, ◌&&◌, ◌==◌, cond, List, [], ◌∷◌, ◌++◌, length, All, Some, None, Result, Ok, Err, bytes_eq, sym, ap, subst, ◌∙◌, arith, length-append, append-nil, IsUtf8}
use Rattle.std.specs.Prelude.{nat_lt, nat_le, option_and_then, option_to_list, is_some}
use Rattle.std.specs.Result.{result_ok}
use Rattle.std.proofs.lemmas.Bool.{and_parts, ltb-true, leb-true, eqb-true}
use Rattle.fluid_types.specs.Messages.{message_spelled}
use Rattle.fluid_types.specs.Order.{AreNumberedFrom}
use Rattle.fluid_types.specs.Printed.{message_printed}
use Rattle.fluid_types.specs.declared.fault.CodecFault.{CodecFault}
use Rattle.fluid_types.specs.declared.messages.Message.{Message}
use Rattle.fluid_rules.specs.Scribe.{reference_of}
use Rattle.fluid_readback.specs.Quorums.{IsReadAsItself}
use Rattle.fluid_readback.proofs.Each.{Each, each-all}
use Rattle.fluid_loader.specs.Link.{IsOrder}
use Rattle.fluid_loader.specs.Listed.{is_next, placed, put_behind, IsPushed}

numbered_more : (n : ℕ) (ms : List Message) (m : Message) → AreNumberedFrom n ms → m.number ≡ n + length ms → AreNumberedFrom n (ms ++ m ∷ [])
numbered_more n [] m h is = (omega (arith, is), tt)
numbered_more n (x ∷ xs) m h is = (h.0, numbered_more (suc n) xs m h.1 (omega (arith, is)))

each_more : (P : Message → Type 0) (ms : List Message) (m : Message) → Each P ms → P m → Each P (ms ++ m ∷ [])
each_more P [] m h p = (p, tt)
each_more P (x ∷ xs) m h p = (h.0, each_more P xs m h.1 p)

all_each : (P : Message → Type 0) (ms : List Message) → Each P ms → All P ms
all_each P [] h = λ k d lt. absurd (omega (arith, lt))
all_each P (m ∷ ms) h = of (all_each P ms h.1)
  where
    of : All P ms → All P (m ∷ ms)
    of later zero d lt = h.0
    of later (suc k) d lt = later k d (omega (arith, lt))

all_more : (P : Message → Type 0) (ms : List Message) (m : Message) → All P ms → P m → All P (ms ++ m ∷ [])
all_more P ms m h p = all_each P (ms ++ m ∷ []) (each_more P ms m (each-all P ms h) p)

-- a message that goes behind so many
next_is : (count : ℕ) (m : Message) → is_next count m ≡ true → (count < 2 ^ 53 - 1) × ((m.number ≡ count + 1) × (reference_of m ≤ m.number))
next_is count m is =
    let few = and_parts (nat_lt count (2 ^ 53 - 1)) ((m.number == count + 1) && nat_le (reference_of m) m.number) is in
    let next = and_parts (m.number == count + 1) (nat_le (reference_of m) m.number) few.1 in
    (ltb-true count (2 ^ 53 - 1) few.0, (eqb-true m.number (count + 1) next.0, leb-true (reference_of m) m.number next.1))

pub order_more : (old new : List Message) (m : Message) (text : List ℕ) (count : ℕ) → new ≡ old ++ m ∷ [] → IsOrder old → count ≡ length old → message_spelled text ≡ Ok m → message_printed m ≡ text → IsUtf8 text
    → is_next count m ≡ true → IsOrder new × (length new < 2 ^ 53)
order_more old new m text count is order long spelled printed utf8 is_its =
    let next = next_is count m is_its in
    let back : IsReadAsItself m = ap message_spelled printed ∙ spelled in
    let number : m.number ≡ 1 + length old = omega (arith, next.1.0, long) in
    subst (λ ms. IsOrder ms × (length ms < 2 ^ 53)) (sym is) (
      record {
        numbered = numbered_more 1 old m order.numbered number;
        read_back = all_more IsReadAsItself old m order.read_back back;
        utf8 = all_more (λ x. IsUtf8 (message_printed x)) old m order.utf8 (subst IsUtf8 (sym printed) utf8);
        refers_back = all_more (λ x. reference_of x ≤ x.number) old m order.refers_back next.1.1;
      },
      omega (arith, next.0, long, length-append old (m ∷ [])),
    )

-- ---- what a text puts

put_where : (count : ℕ) (text : List ℕ) (r : Result Message CodecFault) → message_spelled text ≡ r → put_behind count text ≡ option_and_then (placed count text) (result_ok r)
put_where count text r is = ap (λ r. option_and_then (placed count text) (result_ok r)) is

-- it puts the message that it spells
pub puts_one : (count : ℕ) (text : List ℕ) (old new : List Message) (m : Message) → count ≡ length old → message_spelled text ≡ Ok m
    → bytes_eq (message_printed m) text && is_next count m ≡ true → new ≡ old ++ m ∷ [] → IsPushed text old new true
puts_one count text old new m long spelled goes is =
    let puts : put_behind (length old) text ≡ Some m =
    ap (λ n. put_behind n text) (sym long) ∙ put_where count text (Ok m) spelled ∙ ap (λ b. cond b (Some m) None) goes in
    record {
      added = is ∙ ap (λ o. old ++ option_to_list o) (sym puts);
      answered = ap is_some (sym puts);
    }

-- it puts none
nothing : (text : List ℕ) (old new : List Message) → put_behind (length old) text ≡ None → new ≡ old → IsPushed text old new false
nothing text old new none is = record {
  added = is ∙ sym (append-nil old) ∙ ap (λ o. old ++ option_to_list o) (sym none);
  answered = ap is_some (sym none);
}

pub spells_none : (text : List ℕ) (old new : List Message) (fault : CodecFault) → message_spelled text ≡ Err fault → new ≡ old → IsPushed text old new false
spells_none text old new fault spelled is = nothing text old new (put_where (length old) text (Err fault) spelled) is

pub puts_none : (count : ℕ) (text : List ℕ) (old new : List Message) (m : Message) → count ≡ length old → message_spelled text ≡ Ok m
    → bytes_eq (message_printed m) text && is_next count m ≡ false → new ≡ old → IsPushed text old new false
puts_none count text old new m long spelled stays is =
    nothing text old new (ap (λ n. put_behind n text) (sym long) ∙ put_where count text (Ok m) spelled ∙ ap (λ b. cond b (Some m) None) stays) is

-- The messages in memory and the deltas as parts of the whole order.
use Rattle.std.proofs.Common.{◌≡◌, ℕ, zero, suc, ◌+◌, ◌-◌, ◌<◌, ◌≤◌, List, [], ◌∷◌, ◌++◌, length, take, drop, map, min, max, get_or, slice_get, Option, Some, None, IfSome, OnOk, Result, Ok, Err, refl, sym, ap, subst, ◌∙◌, ⊎_elim, append_assoc, append-nil, length-append, length-drop, length-take, eq-eqb, arith}
use Rattle.std.specs.List.{All}
use Rattle.std.proofs.lemmas.Bool.{cases_lt}
use Rattle.std.proofs.lemmas.List.{drop-drop, take-map, drop-map, take-append-le, drop-append-le, take-append-drop, map-append, drop_all, take_all, take_more, drop-take, get_or-drop, get_or-take}
use Rattle.std.proofs.lemmas.List.Elements.{All-take, All-drop, All-append, All-map, All-from_get_or}
use Rattle.std.proofs.Math.Seq.{drop-append_seam, take-append_seam, take-add}
use Rattle.fluid_types.specs.declared.messages.Message.{Message}
use Rattle.fluid_types.specs.Printed.{message_printed}
use Rattle.fluid_io.specs.Causes.{Tells}
use Rattle.fluid_log.specs.Keeping.{Content, Keeping, HasLengths, IsSized, IsText}
use Rattle.fluid_deltas.specs.declared.fault.DeltaFault.{DeltaFault}
use Rattle.fluid_deltas.specs.declared.fault.DeltaFault.TheVariants.{DeltaFailed, NoMemory, BadDelta, Worn}
use Rattle.fluid_types.specs.Order.{AreNumberedFrom, AreFirst}
use Rattle.fluid_types.proofs.Numbers.{numbered_same, numbered_take, numbered_drop, numbered_append, numbered_more}
use Rattle.fluid_deltas.specs.Pushed.{Pushed, pushed, IsKeepable, IsFull, DropsPage, AreInOrder, AreDeltasOf, ArePartOf, StandIn, StandFor, slice}
use Rattle.fluid_deltas.specs.Stored.{delta_message, in_front, then_others, delta_messages}
use Rattle.fluid_deltas.specs.Ranges.{AreNumbersOf, IsAnswer, IsSlice, held_between, deltas_between, followed_by, range_of}
use Rattle.fluid_deltas.specs.Flushes.{lacking, lacking_up_to, put_behind, Puts, PutsPrefix, PutsAll, AreAll}
use Rattle.fluid_deltas.proofs.Paging.{take_shorter}
use Rattle.fluid_deltas.proofs.Reading.{drop_at}
use Rattle.fluid_deltas.proofs.Telling.{tells_from, tells_both, tells_along, tells_becomes}

-- ---- lists

-- a list is its prefix and the rest, at an end that is above the place
join : (order : List Message) (s e b : ℕ) → s ≤ e → take (min e b - s) (drop s order) ++ take (e - max s b) (drop (max s b) order) ≡ take (e - s) (drop s order)
join order s e b le =
    let prefix = min e b - s in
    let behind = e - max s b in
    let all : prefix + behind ≡ e - s = omega arith in
    let parts : take (e - s) (drop s order) ≡ take prefix (drop s order) ++ take behind (drop (s + prefix) order) =
    ap (λ n. take n (drop s order)) (sym all) ∙ take-add prefix behind (drop s order) ∙ ap (λ rest. take prefix (drop s order) ++ take behind rest) (drop-drop prefix s order) in
    ⊎_elim
    (λ (lt : b < e).
    let at : s + prefix ≡ max s b = omega arith in
    sym (parts ∙ ap (λ n. take prefix (drop s order) ++ take behind (drop n order)) at))
    (λ (le : e ≤ b).
    let none : behind ≡ 0 = omega arith in
    ap (λ n. take prefix (drop s order) ++ take n (drop (max s b) order)) none ∙ sym (parts ∙ ap (λ n. take prefix (drop s order) ++ take n (drop (s + prefix) order)) none))
    (cases_lt b e)

-- ---- the messages in memory

held_of : (d : Pushed) (order : List Message) → ArePartOf d order → d.held ≡ take (length d.held) (drop d.before order)
held_of d order part =
    sym (
    ap (λ n. take (length d.held) (drop n order)) (sym part.before)
    ∙ ap (λ ms. take (length d.held) (drop (length part.first) ms)) part.splits
    ∙ ap (take (length d.held)) (drop-append_seam part.first (d.held ++ part.behind))
    ∙ take-append_seam d.held part.behind
    )

-- a part of what was pushed is one of the order
take_inside : (xs : List Message) (n k j : ℕ) → k + j ≤ n → take j (drop k (take n xs)) ≡ take j (drop k xs)
take_inside xs n k j le =
    let rest : n ≡ k + (n - k) = omega arith in
    ap (λ m. take j (drop k (take m xs))) rest ∙ ap (take j) (drop-take k (n - k) xs) ∙ take_shorter (drop k xs) j (n - k) (omega arith)

held_between_of : (d : Pushed) (order : List Message) (start end : ℕ) → ArePartOf d order → end ≤ pushed d
    → held_between d start end ≡ take (end - max start d.before) (drop (max start d.before) order)
held_between_of d order start end part within =
    let count = end - max start d.before in
    ⊎_elim
    (λ (lt : max start d.before < end).
    let at : d.before + (start - d.before) ≡ max start d.before = omega arith in
    ap (λ held. take count (drop (start - d.before) held)) (held_of d order part)
    ∙ take_inside (drop d.before order) (length d.held) (start - d.before) count (omega arith)
    ∙ ap (take count) (drop-drop (start - d.before) d.before order ∙ ap (λ n. drop n order) at))
    (λ (le : end ≤ max start d.before).
    let none : count ≡ 0 = omega arith in
    ap (λ n. take n (drop (start - d.before) d.held)) none ∙ sym (ap (λ n. take n (drop (max start d.before) order)) none))
    (cases_lt (max start d.before) end)

-- a range in memory is a slice of the order
pub held_slice : (d : Pushed) (order : List Message) (from to : ℕ) → ArePartOf d order → d.before < from → to ≤ pushed d + 1 → held_between d (from - 1) (to - 1) ≡ slice order from to
held_slice d order from to part lt within =
    let at : max (from - 1) d.before ≡ from - 1 = omega arith in
    let count : to - 1 - (from - 1) ≡ to - from = omega arith in
    held_between_of d order (from - 1) (to - 1) part (omega arith)
    ∙ ap (λ n. take (to - 1 - n) (drop n order)) at
    ∙ ap (λ n. take n (drop (from - 1) order)) count

pub some_is : {V : Type 0} (items : V → List Message) (result : Option V) (one other : List Message) → one ≡ other → IfSome result (λ v. items v ≡ one) → IfSome result (λ v. items v ≡ other)
some_is items (Some v) one other same is = is ∙ same
some_is items None one other same is = tt

-- ---- the deltas

kept_texts : (order : List Message) (deltas : List (List ℕ)) (s k : ℕ) → AreDeltasOf order deltas → s + k ≤ length deltas → take k (drop s deltas) ≡ map message_printed (take k (drop s order))
kept_texts order deltas s k are le =
    sym (
    sym (take-map message_printed k (drop s order))
    ∙ ap (take k) (sym (drop-map message_printed s order))
    ∙ ap (λ texts. take k (drop s texts)) are.first
    ∙ ap (take k) (drop-append-le s deltas are.rest (omega arith))
    ∙ take-append-le k (drop s deltas) are.rest (omega (arith, length-drop s deltas))
    )

one_decoded : (n : ℕ) (m : Message) → m.number ≡ n → IsKeepable m → IsText (message_printed m) → delta_message n (message_printed m) ≡ Ok m
one_decoded n m number keepable text = rw (text, keepable.read_back, eq-eqb m.number n number) refl

texts_decoded : (n : ℕ) (ms : List Message) → AreNumberedFrom n ms → All IsKeepable ms → All IsText (map message_printed ms) → delta_messages n (map message_printed ms) ≡ Ok ms
texts_decoded n [] numbered keepable texts = refl
texts_decoded n (m ∷ ms) numbered keepable texts =
    let one = one_decoded n m numbered.0 (keepable 0 m (omega arith)) (texts 0 (message_printed m) (omega arith)) in
    let others = texts_decoded (n + 1) ms (numbered_same ms (suc n) (n + 1) (omega arith) numbered.1) (λ k d lt. keepable (suc k) d (omega arith)) (λ k d lt. texts (suc k) d (omega arith)) in
    ap (λ answer. then_others answer (delta_messages (n + 1) (map message_printed ms))) one ∙ ap (in_front (m ∷ [])) others

-- the deltas of a range decode to that part of the order
range_first : (d : Pushed) (order : List Message) (content : Content) (s e from : ℕ) → StandIn d order content → s + 1 ≡ from → e ≤ d.before → s < e
    → delta_messages from (deltas_between content s e) ≡ Ok (take (e - s) (drop s order))
range_first d order content s e from stands number le lt =
    let texts = kept_texts order content.deltas s (e - s) stands.deltas (omega (arith, stands.reached)) in
    let messages = take (e - s) (drop s order) in
    let numbered : AreNumberedFrom from messages = numbered_same messages (1 + s) from (omega arith) (numbered_take (drop s order) (1 + s) (e - s) (numbered_drop order 1 s stands.part.numbered)) in
    ap (delta_messages from) texts
    ∙ texts_decoded from messages numbered
    (All-take IsKeepable (e - s) (drop s order) (All-drop IsKeepable s order stands.part.keepable))
    (subst (All IsText) texts (All-take IsText (e - s) (drop s content.deltas) (All-drop IsText s content.deltas stands.deltas.texts)))

range_none : (content : Content) (order : List Message) (s e from : ℕ) → e ≤ s → delta_messages from (deltas_between content s e) ≡ Ok (take (e - s) (drop s order))
range_none content order s e from le =
    let none : e - s ≡ 0 = omega arith in
    ap (λ n. delta_messages from (take n (drop s content.deltas))) none ∙ ap (λ n. Ok (take n (drop s order))) (sym none)

-- a range is the slice of the order
pub range_slice : (d : Pushed) (order : List Message) (content : Content) (from to : ℕ) → StandIn d order content → 0 < from → from ≤ to → to ≤ pushed d + 1 → range_of d content from to ≡ Ok (slice order from to)
range_slice d order content from to stands first ordered within =
    let s = from - 1 in
    let e = min (to - 1) d.before in
    let deltas : delta_messages from (deltas_between content s e) ≡ Ok (take (e - s) (drop s order)) =
    ⊎_elim
    (λ (lt : s < e). range_first d order content s e from stands (omega arith) (omega arith) lt)
    (λ (le : e ≤ s). range_none content order s e from le)
    (cases_lt s e) in
    let count : to - 1 - s ≡ to - from = omega arith in
    ap (λ answer. followed_by answer (held_between d s (to - 1))) deltas
    ∙ ap (λ held. Ok (take (e - s) (drop s order) ++ held)) (held_between_of d order s (to - 1) stands.part (omega arith))
    ∙ ap Ok (join order s (to - 1) d.before (omega arith) ∙ ap (λ n. take n (drop s order)) count)

-- so what was answered is that slice
pub answer_slice : {V : Type 0} (messages : V → List Message) (result : Result V DeltaFault) (answer : Result (List Message) DeltaFault) (ms : List Message) → answer ≡ Ok ms → IsAnswer messages result answer → IsSlice messages ms result
answer_slice messages (Ok v) answer ms is answered = cc
answer_slice messages (Err (DeltaFailed note)) answer ms is answered = tt
answer_slice messages (Err NoMemory) answer ms is answered = tt
answer_slice messages (Err (BadDelta number)) answer ms is answered = cc
answer_slice messages (Err Worn) answer ms is answered = answered

-- ---- numbers over every keeper

pub collected_numbers : (d : Pushed) (from to : ℕ) (first : List Message) → AreNumberedFrom (d.before + 1) d.held → 0 < from → from ≤ to → to ≤ pushed d + 1
    → AreNumbersOf (from - 1 + 1) (max (from - 1) (min (to - 1) d.before) + 1) first → AreNumbersOf from to (first ++ held_between d (from - 1) (to - 1))
collected_numbers d from to first held low ordered high numbers =
    let s = from - 1 in
    let e = to - 1 in
    let b = d.before in
    let prefix : AreNumberedFrom from first = numbered_same first (s + 1) from (omega arith) numbers.numbered in
    ⊎_elim
    (λ (lt : b < e).
    let rest = drop (s - b) d.held in
    let size : length (take (e - max s b) rest) ≡ e - max s b = omega (arith, length-take (e - max s b) rest, length-drop (s - b) d.held) in
    let next : b + 1 + (s - b) ≡ from + length first = omega (arith, numbers.count) in
    record {
      numbered = numbered_append first (take (e - max s b) rest) from prefix
          (numbered_same (take (e - max s b) rest) _ _ next (numbered_take rest (b + 1 + (s - b)) (e - max s b) (numbered_drop d.held (b + 1) (s - b) held)));
      count = omega (arith, numbers.count, size, length-append first (take (e - max s b) rest));
    })
    (λ (le : e ≤ b).
    let none : e - max s b ≡ 0 = omega arith in
    let same : first ++ held_between d s e ≡ first = ap (λ n. first ++ take n (drop (s - b) d.held)) none ∙ append-nil first in
    subst (AreNumbersOf from to) (sym same) (record { numbered = prefix; count = omega (arith, numbers.count) }))
    (cases_lt b e)

-- ---- one more message

one_keepable : (m : Message) → IsKeepable m → All IsKeepable (m ∷ [])
one_keepable m is = All-from_get_or IsKeepable (m ∷ []) m first
  where
    first : (i : ℕ) → i < length (m ∷ []) → IsKeepable (get_or (m ∷ []) i m)
    first zero lt = is
    first (suc i) lt = absurd (omega arith)

pub push_in_order : (before last : ℕ) (held : List Message) (m : Message) → AreInOrder before last held → m.number ≡ before + length held + 1 → IsKeepable m → AreInOrder before m.number (held ++ m ∷ [])
push_in_order before last held m in_order next keepable = record {
  numbered = numbered_more held m (before + 1) in_order.numbered (omega (arith, next));
  keepable = All-append IsKeepable held (m ∷ []) in_order.keepable (one_keepable m keepable);
  counted = omega (arith, next, length-append held (m ∷ []));
}

-- one more message of the order is in memory
pub push_part : (old new : Pushed) (order : List Message) (m : Message) → new.before ≡ old.before → new.held ≡ old.held ++ m ∷ [] → slice_get order (pushed old) ≡ Some m → ArePartOf old order → ArePartOf new order
push_part old new order m before held at part =
    let prefix = part.first ++ old.held in
    let sides : order ≡ prefix ++ part.behind = part.splits ∙ sym (append_assoc part.first old.held part.behind) in
    let count : length prefix ≡ pushed old = omega (arith, length-append part.first old.held, part.before) in
    let next : part.behind ≡ m ∷ drop (suc (pushed old)) order =
    sym (drop-append_seam prefix part.behind) ∙ ap (drop (length prefix)) (sym sides) ∙ ap (λ n. drop n order) count ∙ drop_at order (pushed old) m at in
    record {
      first = part.first;
      behind = drop (suc (pushed old)) order;
      splits = part.splits
          ∙ ap (λ ms. part.first ++ (old.held ++ ms)) next
          ∙ ap (λ ms. part.first ++ ms) (sym (append_assoc old.held (m ∷ []) (drop (suc (pushed old)) order)))
          ∙ ap (λ ms. part.first ++ (ms ++ drop (suc (pushed old)) order)) (sym held);
      before = part.before ∙ sym before;
      numbered = part.numbered;
      keepable = part.keepable;
    }

-- an order goes on
part_grows : (d : Pushed) (order : List Message) (m : Message) → m.number ≡ length order + 1 → IsKeepable m → ArePartOf d order → ArePartOf d (order ++ m ∷ [])
part_grows d order m next keepable part = record {
  first = part.first;
  behind = part.behind ++ m ∷ [];
  splits = ap (λ ms. ms ++ m ∷ []) part.splits
      ∙ append_assoc part.first (d.held ++ part.behind) (m ∷ [])
      ∙ ap (λ ms. part.first ++ ms) (append_assoc d.held part.behind (m ∷ []));
  before = part.before;
  numbered = numbered_more order m 1 part.numbered (omega (arith, next));
  keepable = All-append IsKeepable order (m ∷ []) part.keepable (one_keepable m keepable);
}

at_end : (order : List Message) (m : Message) → slice_get (order ++ m ∷ []) (length order) ≡ Some m
at_end [] m = refl
at_end (x ∷ order) m = at_end order m

pub push_stands : (old new : Pushed) (order : List Message) (content : Content) (m : Message) → new.before ≡ old.before → new.held ≡ old.held ++ m ∷ [] → m.number ≡ pushed old + 1 → IsKeepable m
    → StandFor old order content → StandFor new (order ++ m ∷ []) content
push_stands old new order content m before held next keepable stands =
    let stand = stands.stand in
    let grown = part_grows old order m (omega (arith, next, stands.whole)) keepable stand.part in
    let at : slice_get (order ++ m ∷ []) (pushed old) ≡ Some m = ap (slice_get (order ++ m ∷ [])) (sym stands.whole) ∙ at_end order m in
    record {
      stand = record {
        part = push_part old new (order ++ m ∷ []) m before held at grown;
        deltas = record {
          rest = stand.deltas.rest ++ message_printed m ∷ [];
          first = map-append message_printed order (m ∷ []) ∙ ap (λ texts. texts ++ message_printed m ∷ []) stand.deltas.first ∙ append_assoc content.deltas stand.deltas.rest (message_printed m ∷ []);
          texts = stand.deltas.texts;
        };
        reached = omega (arith, stand.reached, before);
      };
      whole = omega (arith, stands.whole, before, ap length held, length-append old.held (m ∷ []), length-append order (m ∷ []));
    }

-- ---- no message in memory

-- nothing in memory is a part of any order that reaches so far
pub none_part : (d : Pushed) (order : List Message) → d.held ≡ [] → d.before ≤ length order → AreFirst order → All IsKeepable order → ArePartOf d order
none_part d order held le numbered keepable = record {
  first = take d.before order;
  behind = drop d.before order;
  splits = sym (take-append-drop d.before order) ∙ ap (λ ms. take d.before order ++ (ms ++ drop d.before order)) (sym held);
  before = omega (arith, length-take d.before order);
  numbered = numbered;
  keepable = keepable;
}

pub nothing_stands : (d : Pushed) (content : Content) → d.held ≡ [] → d.before ≡ 0 → content.deltas ≡ [] → StandFor d [] content
nothing_stands d content held before none = record {
  stand = record {
    part = none_part d [] held (omega (arith, before)) tt (λ k x lt. absurd (omega arith));
    deltas = record { rest = []; first = ap (λ texts. texts ++ []) (sym none); texts = subst (All IsText) (sym none) (λ k x lt. absurd (omega arith)) };
    reached = omega (arith, before);
  };
  whole = omega (arith, before, ap length held);
}

-- ---- messages that were put

take_both : (xs : List Message) (a b : ℕ) → take a (take b xs) ≡ take (min a b) xs
take_both xs a b =
    ⊎_elim
    (λ (lt : a < b). let same : min a b ≡ a = omega arith in take_shorter xs a b (omega arith) ∙ ap (λ n. take n xs) (sym same))
    (λ (le : b ≤ a). let same : min a b ≡ b = omega arith in take_all a (take b xs) (omega (arith, length-take b xs)) ∙ ap (λ n. take n xs) (sym same))
    (cases_lt a b)

-- the first of the messages that a keeper lacks are those of the order behind its deltas
lacking_prefix : (d : Pushed) (order : List Message) (n count : ℕ) → ArePartOf d order → d.before ≤ n → (k : ℕ) × (take count (lacking d n) ≡ take k (drop n order))
lacking_prefix d order n count part reached =
    let from = n - d.before in
    let held = length d.held in
    ⊎_elim
    (λ (lt : from < held).
    let rest = held - from in
    let all : held ≡ from + rest = omega arith in
    let at : d.before + from ≡ n = omega arith in
    let are : lacking d n ≡ take rest (drop n order) =
    ap (drop from) (held_of d order part)
    ∙ ap (λ m. drop from (take m (drop d.before order))) all
    ∙ drop-take from rest (drop d.before order)
    ∙ ap (take rest) (drop-drop from d.before order ∙ ap (λ m. drop m order) at) in
    (min count rest, ap (take count) are ∙ take_both (drop n order) count rest))
    (λ (le : held ≤ from). (0, ap (take count) (drop_all from d.held le) ∙ take_all count [] (omega arith)))
    (cases_lt from held)

-- where all was pushed they are all of these
lacking_of : (d : Pushed) (order : List Message) (content : Content) → StandFor d order content → lacking d (length content.deltas) ≡ drop (length content.deltas) order
lacking_of d order content stands =
    let part = stands.stand.part in
    let at : d.before + (length content.deltas - d.before) ≡ length content.deltas = omega (arith, stands.stand.reached) in
    let held : d.held ≡ drop d.before order = held_of d order part ∙ take_all (length d.held) (drop d.before order) (omega (arith, stands.whole, length-drop d.before order)) in
    ap (drop (length content.deltas - d.before)) held
    ∙ drop-drop (length content.deltas - d.before) d.before order
    ∙ ap (λ n. drop n order) at

-- the texts of the order behind the deltas
rest_of : (order : List Message) (deltas : List (List ℕ)) (are : AreDeltasOf order deltas) → are.rest ≡ map message_printed (drop (length deltas) order)
rest_of order deltas are =
    sym (drop-append_seam deltas are.rest) ∙ ap (drop (length deltas)) (sym are.first) ∙ drop-map message_printed (length deltas) order

put_deltas : (order : List Message) (deltas : List (List ℕ)) (count : ℕ) (ms : List Message) → AreDeltasOf order deltas → ms ≡ take count (drop (length deltas) order) → All (λ m. IsText (message_printed m)) ms
    → AreDeltasOf order (deltas ++ map message_printed ms)
put_deltas order deltas count ms are is texts =
    let printed : map message_printed ms ≡ take count are.rest =
    ap (map message_printed) is ∙ sym (take-map message_printed count (drop (length deltas) order)) ∙ ap (take count) (sym (rest_of order deltas are)) in
    record {
      rest = drop count are.rest;
      first = are.first
          ∙ ap (λ rest. deltas ++ rest) (sym (take-append-drop count are.rest))
          ∙ sym (append_assoc deltas (take count are.rest) (drop count are.rest))
          ∙ ap (λ prefix. deltas ++ prefix ++ drop count are.rest) (sym printed);
      texts = All-append IsText deltas (map message_printed ms) are.texts (All-map IsText message_printed ms texts);
    }

prefix_stands : (d : Pushed) (order : List Message) (content : Content) (count : ℕ) (ms : List Message) → StandIn d order content → ms ≡ take count (lacking d (length content.deltas)) → All (λ m. IsText (message_printed m)) ms
    → StandIn d order (put_behind ms content)
prefix_stands d order content count ms stands is texts =
    let prefix = lacking_prefix d order (length content.deltas) count stands.part stands.reached in
    record {
      part = stands.part;
      deltas = put_deltas order content.deltas prefix.0 ms stands.deltas (is ∙ prefix.1) texts;
      reached = omega (arith, stands.reached, length-append content.deltas (map message_printed ms));
    }

all_put : (d : Pushed) (order : List Message) (content : Content) (ms : List Message) → StandFor d order content → ms ≡ lacking d (length content.deltas) → AreAll order (put_behind ms content)
all_put d order content ms stands is =
    ap (λ (behind : List Message). content.deltas ++ map message_printed behind) (is ∙ lacking_of d order content stands)
    ∙ ap (λ texts. content.deltas ++ texts) (sym (rest_of order content.deltas stands.stand.deltas))
    ∙ sym stands.stand.deltas.first

abbrev SizedStand : Keeping → Pushed → List Message → Content → Type 0
SizedStand old d order content = HasLengths old content × StandIn d order content

sized_stand : (old : Keeping) (d : Pushed) (order : List Message) → IsSized old → Tells old.content (StandIn d order) → Tells old.content (SizedStand old d order)
sized_stand old d order sized stands = tells_both old.content (HasLengths old) (StandIn d order) (SizedStand old d order) (λ c lengths stand. (lengths, stand)) sized stands

abbrev SizedWhole : Keeping → Pushed → List Message → Content → Type 0
SizedWhole old d order content = HasLengths old content × StandFor d order content

-- messages that a keeper lacked were put, the first of them
pub put_stands : (d : Pushed) (order : List Message) (old new : Keeping) (count : ℕ) (ms : List Message) → IsSized old → ms ≡ take count (lacking d old.deltas) → Puts ms old new
    → Tells old.content (StandIn d order) → Tells new.content (StandIn d order)
put_stands d order old new count ms sized is puts stands =
    tells_along _ _ (StandIn d order) (sym puts.kept.content)
    (tells_becomes old.content (put_behind ms) (SizedStand old d order) (StandIn d order)
    (λ c both. prefix_stands d order c count ms both.1 (is ∙ ap (λ n. take count (lacking d n)) both.0.deltas) puts.texts)
    (sized_stand old d order sized stands))

pub prefix_put_stands : (d : Pushed) (order : List Message) (old new : Keeping) (end : ℕ) → IsSized old → PutsPrefix (lacking_up_to d old.deltas end) old new
    → Tells old.content (StandIn d order) → Tells new.content (StandIn d order)
prefix_put_stands d order old new end sized puts stands =
    let all = lacking d old.deltas in
    let within : puts.count ≤ end - old.deltas = omega (arith, puts.within, length-take (end - old.deltas) all) in
    put_stands d order old new puts.count _ sized (take_shorter all puts.count (end - old.deltas) within) puts.puts stands

pub flushed_whole : (d : Pushed) (order : List Message) (old new : Keeping) → IsSized old → Puts (lacking d old.deltas) old new → Tells old.content (StandFor d order) → Tells new.content (AreAll order)
flushed_whole d order old new sized puts stands =
    let ms = lacking d old.deltas in
    tells_along _ _ (AreAll order) (sym puts.kept.content)
    (tells_becomes old.content (put_behind ms) (SizedWhole old d order) (AreAll order)
    (λ c both. all_put d order c ms both.1 (ap (lacking d) both.0.deltas))
    (tells_both old.content (HasLengths old) (StandFor d order) (SizedWhole old d order) (λ c lengths stand. (lengths, stand)) sized stands))

pub flush_whole : (d : Pushed) (old new : Keeping) (result : Result (Unit {0}) DeltaFault) → IsSized old → PutsAll (lacking d old.deltas) old new result
    → OnOk result ((order : List Message) → Tells old.content (StandFor d order) → Tells new.content (AreAll order))
flush_whole d old new (Ok done) sized puts = λ order stands. flushed_whole d order old new sized puts stands
flush_whole d old new (Err fault) sized puts = tt

-- ---- the messages that a keeper lacks, one by one

pub lacking_length : (d : Pushed) (deltas end : ℕ) → d.before ≤ deltas → end ≤ pushed d → length (lacking_up_to d deltas end) ≡ end - deltas
lacking_length d deltas end reached within =
    omega (arith, reached, within, length-take (end - deltas) (lacking d deltas), length-drop (deltas - d.before) d.held)

pub lacking_at : (d : Pushed) (deltas end place : ℕ) (m : Message) → d.before ≤ deltas → deltas ≤ place → place < end → m ≡ get_or d.held (place - d.before) m
    → m ≡ get_or (lacking_up_to d deltas end) (place - deltas) m
lacking_at d deltas end place m reached behind lt is =
    let at : place - d.before ≡ deltas - d.before + (place - deltas) = omega arith in
    is
    ∙ ap (λ n. get_or d.held n m) at
    ∙ sym (get_or-drop (deltas - d.before) d.held (place - deltas) m)
    ∙ sym (get_or-take (end - deltas) (lacking d deltas) (place - deltas) m (omega arith))

-- up to the last message they are all of them
pub lacking_all : (d : Pushed) (deltas : ℕ) → d.before ≤ deltas → lacking_up_to d deltas (pushed d) ≡ lacking d deltas
lacking_all d deltas reached = take_all (pushed d - deltas) (lacking d deltas) (omega (arith, length-drop (deltas - d.before) d.held))

-- ---- copies of the messages in memory

-- behind these messages stand copies of those from the place `first` up to `place`
pub record HasCopied (d : Pushed) (first end place : ℕ) (before now : List Message) : Type 0 where
  pub items : now ≡ before ++ take (place - first) (drop (first - d.before) d.held)
  pub within : place ≤ max first end

pub copies_nothing : (d : Pushed) (first end : ℕ) (before : List Message) → HasCopied d first end first before before
copies_nothing d first end before =
    let none : first - first ≡ 0 = omega arith in
    record { items = sym (ap (λ n. before ++ take n (drop (first - d.before) d.held)) none ∙ append-nil before); within = omega arith }

pub copies_more : (d : Pushed) (first end place : ℕ) (before items after : List Message) (m : Message) → HasCopied d first end place before items → d.before ≤ first → first ≤ place → place < end → end ≤ pushed d
    → m ≡ get_or d.held (place - d.before) m → after ≡ items ++ m ∷ [] → HasCopied d first end (place + 1) before after
copies_more d first end place before items after m has reached behind lt pushed is more =
    let held = drop (first - d.before) d.held in
    let at : place - d.before ≡ first - d.before + (place - first) = omega arith in
    let one : m ≡ get_or held (place - first) m = is ∙ ap (λ n. get_or d.held n m) at ∙ sym (get_or-drop (first - d.before) d.held (place - first) m) in
    let next : place - first + 1 ≡ place + 1 - first = omega arith in
    record {
      items = more
          ∙ ap (λ ms. ms ++ m ∷ []) has.items
          ∙ append_assoc before (take (place - first) held) (m ∷ [])
          ∙ ap (λ x. before ++ (take (place - first) held ++ x ∷ [])) one
          ∙ ap (λ ms. before ++ ms) (sym (take_more held (place - first) m (omega (arith, length-drop (first - d.before) d.held))))
          ∙ ap (λ n. before ++ take n held) next;
      within = omega arith;
    }

pub copies_all : (d : Pushed) (start first end place : ℕ) (before items : List Message) → HasCopied d first end place before items → first ≡ max start d.before → first ≤ place → end ≤ place
    → items ≡ before ++ held_between d start end
copies_all d start first end place before items has is behind le =
    let within = has.within in
    let count : place - first ≡ end - max start d.before = omega arith in
    let from : first - d.before ≡ start - d.before = omega arith in
    has.items ∙ ap (λ n. before ++ take n (drop (first - d.before) d.held)) count ∙ ap (λ n. before ++ take (end - max start d.before) (drop n d.held)) from

-- ---- the oldest page goes

pub page_dropped : (old new : Pushed) (order : List Message) (content : Content) → DropsPage old new → IsFull old → new.before ≤ length content.deltas → StandIn old order content → StandIn new order content
page_dropped old new order content drops full reached stands =
    let part = stands.part in
    let page = take 256 old.held in
    record {
      part = record {
        first = part.first ++ page;
        behind = part.behind;
        splits = part.splits
            ∙ ap (λ ms. part.first ++ (ms ++ part.behind)) (sym (take-append-drop 256 old.held))
            ∙ ap (λ ms. part.first ++ ms) (append_assoc page (drop 256 old.held) part.behind)
            ∙ sym (append_assoc part.first page (drop 256 old.held ++ part.behind))
            ∙ ap (λ ms. (part.first ++ page) ++ (ms ++ part.behind)) (sym drops.held);
        before = omega (arith, part.before, drops.before, full, length-append part.first page, length-take 256 old.held);
        numbered = part.numbered;
        keepable = part.keepable;
      };
      deltas = stands.deltas;
      reached = reached;
    }

pub told_dropped : (old new : Pushed) (order : List Message) (k : Keeping) → IsSized k → DropsPage old new → IsFull old → new.before ≤ k.deltas → Tells k.content (StandIn old order) → Tells k.content (StandIn new order)
told_dropped old new order k sized drops full reached stands =
    tells_both k.content (HasLengths k) (StandIn old order) (StandIn new order)
    (λ c lengths stand. page_dropped old new order c drops full (rw (sym lengths.deltas) reached) stand) sized stands

-- ---- the slice that was answered

pub told_slice : {V : Type 0} (messages : V → List Message) (result : Result V DeltaFault) (d : Pushed) (order : List Message) (told : Option Content) (from to : ℕ) → 0 < from → from ≤ to → to ≤ pushed d + 1
    → Tells told (λ c. IsAnswer messages result (range_of d c from to)) → Tells told (λ c. StandIn d order c → IsSlice messages (slice order from to) result)
told_slice messages result d order told from to first ordered last answer =
    tells_from told _ _ (λ c answered stands. answer_slice messages result (range_of d c from to) (slice order from to) (range_slice d order c from to stands first ordered last) answered) answer

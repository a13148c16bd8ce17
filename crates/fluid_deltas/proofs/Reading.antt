-- What was read of a keeper's deltas so far, and with one more.
use Rattle.std.proofs.Common.{◌≡◌, ℕ, zero, suc, ◌+◌, ◌-◌, ◌<◌, ◌≤◌, List, [], ◌∷◌, ◌++◌, take, drop, slice_get, max, Some, Result, Ok, Err, refl, sym, ap, subst, ◌∙◌, append_assoc, append-nil, length-append, arith}
use Rattle.std.proofs.lemmas.Option.{none-some}
use Rattle.fluid_io.specs.Causes.{Tells}
use Rattle.fluid_types.specs.declared.messages.Message.{Message}
use Rattle.fluid_log.specs.Keeping.{Content, Keeping}
use Rattle.fluid_log.specs.Calls.{KeepsSame}
use Rattle.fluid_deltas.specs.declared.fault.DeltaFault.{DeltaFault}
use Rattle.fluid_deltas.specs.declared.fault.DeltaFault.TheVariants.{DeltaFailed, NoMemory, BadDelta, Worn}
use Rattle.fluid_deltas.specs.Stored.{in_front, then_others, delta_messages}
use Rattle.fluid_deltas.specs.Ranges.{AreNumbersOf, IsDelta, DecodesAs, IsBadAs, deltas_between}
use Rattle.fluid_log.proofs.Sameness.{same_itself, same_twice}
use Rattle.fluid_types.proofs.Numbers.{numbered_more}
use Rattle.fluid_deltas.proofs.Telling.{tells_each, tells_both, tells_along}

pub drop_at : {X : Type 0} (xs : List X) (i : ℕ) (x : X) → slice_get xs i ≡ Some x → drop i xs ≡ x ∷ drop (suc i) xs
drop_at [] i x is = absurd (none-some _ is)
drop_at (y ∷ xs) zero x is = let same : y ≡ x = cc in ap (λ z. z ∷ xs) same
drop_at (y ∷ xs) (suc i) x is = drop_at xs i x is

-- the deltas from a place on are the one in it and those behind it
between_step : (c : Content) (end place : ℕ) (text : List ℕ) → place < end → slice_get c.deltas place ≡ Some text → deltas_between c place end ≡ text ∷ deltas_between c (place + 1) end
between_step c end place text lt is =
    let more : end - place ≡ suc (end - (place + 1)) = omega arith in
    let next : suc place ≡ place + 1 = omega arith in
    ap (λ count. take count (drop place c.deltas)) more
    ∙ ap (take (suc (end - (place + 1)))) (drop_at c.deltas place text is)
    ∙ ap (λ from. text ∷ take (end - (place + 1)) (drop from c.deltas)) next

between_none : (c : Content) (end place : ℕ) → end ≤ place → deltas_between c place end ≡ []
between_none c end place le =
    let none : end - place ≡ 0 = omega arith in
    ap (λ count. take count (drop place c.deltas)) none

in_front_both : (done : List Message) (m : Message) (others : Result (List Message) DeltaFault) → in_front done (in_front (m ∷ []) others) ≡ in_front (done ++ m ∷ []) others
in_front_both done m (Ok behind) = ap Ok (sym (append_assoc done (m ∷ []) behind))
in_front_both done m (Err fault) = refl

-- nothing stands in front
pub in_front_nothing : (answer : Result (List Message) DeltaFault) → in_front [] answer ≡ answer
in_front_nothing (Ok behind) = refl
in_front_nothing (Err fault) = refl

-- the answer for the places from `start` on is that of those from `place` on, behind the messages so far
abbrev pub ReadsOn : ℕ → ℕ → ℕ → List Message → Content → Type 0
ReadsOn start end place done content =
    delta_messages (start + 1) (deltas_between content start end) ≡ in_front done (delta_messages (place + 1) (deltas_between content place end))

-- the answer for the places from one on is that of the delta in it and then that of those behind it
step : (c : Content) (end place : ℕ) (answer : Result Message DeltaFault) → place < end → IsDelta c (place + 1) answer
    → delta_messages (place + 1) (deltas_between c place end) ≡ then_others answer (delta_messages (place + 1 + 1) (deltas_between c (place + 1) end))
step c end place answer lt is =
    let here : place + 1 - 1 ≡ place = omega arith in
    ap (delta_messages (place + 1)) (between_step c end place is.text lt (subst (λ at. slice_get c.deltas at ≡ Some is.text) here is.kept))
    ∙ ap (λ one. then_others one (delta_messages (place + 1 + 1) (deltas_between c (place + 1) end))) is.decodes

reads_more : (start end place : ℕ) (done : List Message) (m : Message) (c : Content) → place < end → ReadsOn start end place done c → IsDelta c (place + 1) (Ok m) → ReadsOn start end (place + 1) (done ++ m ∷ []) c
reads_more start end place done m c lt so_far is =
    so_far ∙ ap (in_front done) (step c end place (Ok m) lt is) ∙ in_front_both done m _

reads_bad : (start end place bad : ℕ) (done : List Message) (c : Content) → place < end → ReadsOn start end place done c → IsDelta c (place + 1) (Err (BadDelta bad))
    → delta_messages (start + 1) (deltas_between c start end) ≡ Err (BadDelta bad)
reads_bad start end place bad done c lt so_far is = so_far ∙ ap (in_front done) (step c end place (Err (BadDelta bad)) lt is)

reads_all : (start end place : ℕ) (done : List Message) (c : Content) → end ≤ place → ReadsOn start end place done c → delta_messages (start + 1) (deltas_between c start end) ≡ Ok done
reads_all start end place done c le so_far =
    so_far ∙ ap (λ texts. in_front done (delta_messages (place + 1) texts)) (between_none c end place le) ∙ ap Ok (append-nil done)

pub record HasRead (old now : Keeping) (start end place : ℕ) (done : List Message) : Type 0 where
  pub later : old.faults ≤ now.faults
  pub reads : now.reads ≡ old.reads
  pub same : KeepsSame old now
  pub numbers : AreNumbersOf (start + 1) (place + 1) done
  pub decoded : Tells old.content (ReadsOn start end place done)
  pub untouched : place ≡ start → now ≡ old
  pub within : place ≤ max start end

pub has_read_nothing : (k : Keeping) (start end : ℕ) → HasRead k k start end start []
has_read_nothing k start end = record {
  later = omega arith;
  reads = refl;
  same = same_itself k;
  numbers = record { numbered = tt; count = omega arith };
  decoded = tells_each k.content (ReadsOn start end start []) (λ c. sym (in_front_nothing _));
  untouched = λ is. refl;
  within = omega arith;
}

numbers_more : (start place : ℕ) (done : List Message) (m : Message) → AreNumbersOf (start + 1) (place + 1) done → m.number ≡ place + 1 → AreNumbersOf (start + 1) (place + 1 + 1) (done ++ m ∷ [])
numbers_more start place done m numbers is = record {
  numbered = numbered_more done m (start + 1) numbers.numbered (omega (arith, numbers.count, is));
  count = omega (arith, numbers.count, length-append done (m ∷ []));
}

-- one more message was read
pub has_read_more : (old mid new : Keeping) (start end place : ℕ) (done : List Message) (m : Message) → HasRead old mid start end place done → start ≤ place → place < end
    → mid.faults ≤ new.faults → new.reads ≡ mid.reads → KeepsSame mid new → m.number ≡ place + 1 → Tells mid.content (λ c. IsDelta c (place + 1) (Ok m))
    → HasRead old new start end (place + 1) (done ++ m ∷ [])
has_read_more old mid new start end place done m has le lt later reads same number is = record {
  later = omega (arith, has.later, later);
  reads = reads ∙ has.reads;
  same = same_twice old mid new has.same same;
  numbers = numbers_more start place done m has.numbers number;
  decoded = tells_both old.content _ _ _ (λ c so_far one. reads_more start end place done m c lt so_far one) has.decoded (tells_along mid.content old.content _ has.same.content is);
  untouched = λ at. absurd (omega arith);
  within = omega arith;
}

-- a delta had this fault
pub has_read_fault : (old mid : Keeping) (start end place : ℕ) (done : List Message) (fault : DeltaFault) → HasRead old mid start end place done → place < end
    → Tells mid.content (λ c. DecodesAs c (place + 1) (Err fault)) → Tells old.content (λ c. IsBadAs (delta_messages (start + 1) (deltas_between c start end)) fault)
has_read_fault old mid start end place done (DeltaFailed note) has lt is = tells_each old.content _ (λ c. tt)
has_read_fault old mid start end place done NoMemory has lt is = tells_each old.content _ (λ c. tt)
has_read_fault old mid start end place done (BadDelta bad) has lt is =
    tells_both old.content _ _ _ (λ c so_far one. reads_bad start end place bad done c lt so_far one) has.decoded (tells_along mid.content old.content _ has.same.content is)
has_read_fault old mid start end place done Worn has lt is = tells_along mid.content old.content _ has.same.content is

-- all were read
pub has_read_all : (old now : Keeping) (start end place : ℕ) (done : List Message) → HasRead old now start end place done → end ≤ place
    → Tells old.content (λ c. delta_messages (start + 1) (deltas_between c start end) ≡ Ok done)
has_read_all old now start end place done has le = tells_both old.content _ _ _ (λ c so_far one. reads_all start end place done c le so_far) has.decoded (tells_each old.content (λ c. Unit {0}) (λ c. tt))
